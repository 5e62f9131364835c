use Rattle.std.proofs.Common.{ℕ, Contains, subst}
use Rattle.bq_model.specs.Grows.{SawMore}
use Rattle.bq_lane.specs.Pass.{PassState}
use Rattle.bq_lane.proofs.lane.BqLaneLane.gather.Goals as goal

pub returns-clause-goes_on_the_first : goal.returns-clause-goes_on_the_first
returns-clause-goes_on_the_first c = subst (λ (s : PassState). (d : ℕ) → Contains s.callers d → SawMore d s.seen c.gather.result.seen) c.a.view_is c.gather.ensures.goes_on_the_first

pub returns-clause-goes_on_the_second : goal.returns-clause-goes_on_the_second
returns-clause-goes_on_the_second c = subst (λ (s : PassState). (d : ℕ) → Contains s.callers d → SawMore d s.seen c.gather.result.seen) c.b.view_is c.gather.ensures.goes_on_the_second
