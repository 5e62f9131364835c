use Rattle.crossbeam_utils.specs.Token.{parker_view}
use Rattle.round_posts.proofs.Keeps.{posts}
use Rattle.round_posts.proofs.post.Poster.post.Goals as goal

pub unpark_as-requires-clause-rule : goal.unpark_as-requires-clause-rule
unpark_as-requires-clause-rule c = posts c.self.inside.pass.id (parker_view c.self.inside.pass)
