use Rattle.crossbeam_utils.specs.Token.{parker_view}
use Rattle.round_posts.proofs.Keeps.{takes}
use Rattle.round_posts.proofs.post.Taker.take.Goals as goal

pub park_as-requires-clause-rule : goal.park_as-requires-clause-rule
park_as-requires-clause-rule g c = takes c.self.inside.pass.id (parker_view c.self.inside.pass)
