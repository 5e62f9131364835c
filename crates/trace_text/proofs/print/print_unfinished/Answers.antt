use Rattle.std.proofs.Common.{not, arith}
use Rattle.trace_text.specs.Played.{state_of, is_idle}
use Rattle.trace_text.proofs.PrintLemmas.{unfinished-more}
use Rattle.trace_text.proofs.print.print_unfinished.Goals as goal

pub loop-caller-preserved : goal.loop-caller-preserved
loop-caller-preserved c =
    unfinished-more (λ d. not (is_idle (state_of c.args.play.now) d)) c.loop-caller.caller c.args.play.now.shape.callers c.loop-caller.text c.print_if_unfinished.new.text _ (omega (arith, c.callers-caller-end.ensures, c.loop-caller-test.true)) c.in_ok-print_if_unfinished.ensures c.loop-caller.invariant
