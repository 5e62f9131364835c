use Rattle.std.proofs.Common.{sym, refl, subst}
use Rattle.std.proofs.lemmas.Map.Keys.{le_from_not_gt, ge_from_not_lt}
use Rattle.std.specs.Option.{IsSome}
use Rattle.trace_conditions.proofs.InTurn.{not_behind}
use Rattle.trace_conditions.proofs.spans.last_begun_by.Goals as goal

pub returns : goal.returns
returns c = let r = c.range.ensures.in_range tt in let steps = c.in_ok-made.ensures.steps in let entry = r.3 (c.in_ok-made.made.now, c.in_ok-made.returned.now) c.next_back.new.self steps in
    let last = r.4 (c.in_ok-made.made.now, c.in_ok-made.returned.now) c.next_back.new.self steps in
    (entry.1, le_from_not_gt _ _ entry.0.1, λ made till up_to found. ge_from_not_lt _ _ (last made (tt, not_behind made c.args.stamp up_to) (subst IsSome (sym found) refl)))
