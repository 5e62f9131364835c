use Rattle.crossbeam_utils.specs.Token.{parker_view}
use Rattle.round_posts.proofs.Keeps.{forks}
use Rattle.round_posts.proofs.post.station.Goals as goal

pub split_pass-taking-requires-clause-rule : goal.split_pass-taking-requires-clause-rule
split_pass-taking-requires-clause-rule c = forks c.in_ok-parker.pass.id (parker_view c.in_ok-parker.pass)
