use Rattle.trace_conditions.proofs.InTurn.{last_is_over, last_is_met}
use Rattle.trace_conditions.proofs.spans.meets_none.Goals as goal

pub returns-in-Some : goal.returns-in-Some
returns-in-Some c =
    let last = c.in-Some.ensures in (
      λ over. last_is_over c.args.spans.now c.args.made c.args.returned c.requires.in_turn c.in-Some.field-0-0 c.in-Some.till last.0 last.1 last.2 (c.is_over.ensures.0 over),
      λ none. c.is_over.ensures.1 (last_is_met c.args.spans.now c.args.made c.args.returned c.requires.in_turn c.in-Some.field-0-0 c.in-Some.till last.0 last.1 last.2 none),
    )
