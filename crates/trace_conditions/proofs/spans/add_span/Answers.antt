use Rattle.trace_conditions.proofs.InTurn.{is_added, added_in_turn}
use Rattle.trace_conditions.proofs.spans.add_span.Goals as goal

pub returns-clause-in_turn : goal.returns-clause-in_turn
returns-clause-in_turn c =
    let updates = c.in_ok-insert.ensures.updates in
    added_in_turn c.args.spans.now c.insert.new.self c.args.made c.args.returned c.requires.in_turn c.requires.ends c.requires.apart
    (is_added c.args.spans.now c.insert.new.self c.args.made c.args.returned updates.1 updates.2)
