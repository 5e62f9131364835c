use Rattle.std.proofs.Common.{decimal}
use Rattle.trace_text.proofs.PrintLemmas.{caller_printed}
use Rattle.trace_text.proofs.print.print_caller.Goals as goal

pub returns : goal.returns
returns c =
    caller_printed c.args.text.now c.append_parts.new.self c.print_number.new.text c.append_parts-2.new.self (decimal c.args.caller) c.in_ok-append_parts.ensures.ok c.in_ok-print_number.ensures
    c.in_ok-append_parts-2.ensures.ok
