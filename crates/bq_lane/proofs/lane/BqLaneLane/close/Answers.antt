use Rattle.std.proofs.Common.{ap, sym, ◌∙◌, subst}
use Rattle.bq_model.specs.NoShut.{NeverShut}
use Rattle.bq_lane.specs.Pass.{PassState}
use Rattle.bq_lane.proofs.lane.BqLaneLane.close.Goals as goal

pub returns-clause-never_shut : goal.returns-clause-never_shut
returns-clause-never_shut c = subst NeverShut (ap (λ (s : PassState). s.seen) c.pass.view_is ∙ sym c.new.ensures) c.is_never_shut.ensures
