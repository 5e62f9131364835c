use Rattle.std.proofs.Common.{ap, ◌∙◌, sym, subst, length, ◌≡◌}
use Rattle.bq_model.specs.History.{operations}
use Rattle.bq_model.specs.Own.{mine}
use Rattle.bq_model.specs.Grows.{the_caller}
use Rattle.bq_lane.specs.Pass.{PassState}
use Rattle.bq_lane.proofs.Passes.{made_is}
use Rattle.bq_lane.proofs.pass.Seated.made.Goals as goal

pub returns-clause-made : goal.returns-clause-made
returns-clause-made c = let p = c.self.inside in made_is p.token.me p.shape p.caller p.batches p.operated _ c.self.invariant (subst (λ (q : PassState). length q.callers ≡ 1) (sym c.self.view_is) c.requires) ∙ ap (λ (q : PassState). length (operations (mine q.seen (the_caller q.callers)))) c.self.view_is
