use Rattle.std.proofs.lemmas.List.Elements.{All-more}
use Rattle.trace_text.specs.Ranges.{IsRefusedInRange}
use Rattle.trace_text.proofs.PrintLemmas.{refusals_printed-more}
use Rattle.trace_text.proofs.print.print_refusals.Goals as goal

pub loop-one-preserved : goal.loop-one-preserved
loop-one-preserved c =
    let rs = c.args.refused.now in
    let k = c.loop-one.one-index in
    record {
      printed = refusals_printed-more c.args.text.now c.loop-one.text c.print_refusal.new.text rs k _ c.loop-one-test.true c.loop-one.invariant.printed c.in_ok-print_refusal.ensures.text;
      in_range = All-more IsRefusedInRange rs k _ c.loop-one-test.true c.loop-one.invariant.in_range c.in_ok-print_refusal.ensures.in_range;
    }
