use Rattle.std.proofs.Common.{List, [], ◌∷◌, ◌++◌, ap, ◌∙◌, arith}
use Rattle.step_core.specs.declared.schedule.Event.{Event}
use Rattle.step_core.specs.declared.schedule.Event.TheVariants as event
use Rattle.trace_text.proofs.PlayLemmas.{IsPlayed-step}
use Rattle.trace_text.proofs.play.Play.step.Goals as goal

pub invariant_of-self-2 : goal.invariant_of-self-2
invariant_of-self-2 c =
    let longer = c.push_reserved.ensures.items ∙ ap (λ (es : List Event). es ++ event.Step c.args.caller ∷ []) c.reserve.ensures.items in
    IsPlayed-step c.self.inside.machine.shape c.step.new.machine.shape _ _ c.self.inside.events.items _ c.self.inside.left c.self.inside.refused.items c.step.ensures.shape c.self.invariant c.args.caller c.step.new.refused.items (omega arith) c.in_ok-step.ensures.state c.in_ok-step.ensures.refused longer
