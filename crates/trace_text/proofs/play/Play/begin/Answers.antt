use Rattle.std.proofs.Common.{[], ◌∷◌, ◌++◌, sym, ◌∙◌}
use Rattle.step_core.specs.declared.schedule.Event.TheVariants as event
use Rattle.step_core.specs.Machine.{state_at}
use Rattle.trace_text.proofs.PlayLemmas.{IsPlayed-start}
use Rattle.trace_text.proofs.play.Play.begin.Goals as goal

pub invariant_of-self-2 : goal.invariant_of-self-2
invariant_of-self-2 c =
    let longer = c.push_reserved.ensures.items ∙ (λ i. c.reserve.ensures.items i ++ event.Start c.args.caller (sym c.as_slice.ensures i) ∷ []) in
    IsPlayed-start c.self.inside.machine.shape c.start.new.machine.shape (state_at c.self.inside.machine) (state_at c.start.new.machine) c.self.inside.events.items c.push_reserved.new.self.items c.self.inside.left
    c.self.inside.refused.items c.start.ensures.shape c.self.invariant c.args.caller c.as_slice.result.now c.start.new.refused.items c.in_ok-start.ensures.state c.in_ok-start.ensures.refused longer
