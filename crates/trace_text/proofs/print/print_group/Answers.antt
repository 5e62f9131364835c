use Rattle.std.proofs.Common.{List, ◌++◌, ap, ◌∙◌, codes, decimal}
use Rattle.bq_model.specs.declared.op.Op.{Op}
use Rattle.text_lines.specs.Printed.{spaced}
use Rattle.trace_text.specs.Printed.{op_words}
use Rattle.trace_text.proofs.PrintLemmas.{group_printed}
use Rattle.trace_text.proofs.print.print_group.Goals as goal

pub returns-clause-text : goal.returns-clause-text
returns-clause-text c =
    let g = c.args.group.now in
    let first = c.in_ok-print_number.ensures ∙ ap (λ n. c.append_parts.new.self ++ codes " " ++ decimal n) c.from.ensures in
    let rest = c.in_ok-print_ops.ensures.text ∙ ap (λ (ops : List Op). c.print_number-2.new.text ++ spaced (op_words c.args.queue.now ops)) c.as_slice.ensures in
    group_printed c.args.text.now c.append_parts.new.self c.print_number.new.text c.print_number-2.new.text c.print_ops.new.text c.append_parts-2.new.self (decimal g.caller) (decimal g.batch)
    (op_words c.args.queue.now g.ops) c.in_ok-append_parts.ensures.ok first c.in_ok-print_number-2.ensures rest c.in_ok-append_parts-2.ensures.ok
