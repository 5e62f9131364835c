use Rattle.std.proofs.Common.{List, ℕ, ◌++◌, sym, ap, ◌∙◌, append-nil}
use Rattle.text_lines.specs.Printed.{printed_line}
use Rattle.trace_text.specs.Printed.{unfinished_line}
use Rattle.trace_text.proofs.print.print_if_unfinished.Goals as goal

pub returns : goal.returns
returns c =
    let busy = sym c.is_idle.ensures ∙ c.if-is_idle.false in
    rw busy (c.in_ok-print_caller.ensures ∙ ap (λ (line : List ℕ). c.args.text.now ++ line) (sym (append-nil (printed_line (unfinished_line c.args.caller)))))
