use Rattle.std.proofs.Common.{sym, ◌∙◌, arith, length-take-le}
use Rattle.trace_text.proofs.JudgingLemmas.{made_fits, IsJudged-more, first_wrong-more, operation_count-more}
use Rattle.trace_text.proofs.verdict.judged.Goals as goal

pub takes-requires : goal.takes-requires
takes-requires c =
    let so_far = length-take-le c.loop-entry.entry-index c.args.entries.now c.loop-entry.auto.entry-index-end in
    made_fits _ _ c.loop-entry.judge c.loop-entry.invariant.so_far (omega arith)

pub loop-entry-preserved : goal.loop-entry-preserved
loop-entry-preserved c =
    let right = sym c.if-not-branch.false ∙ c.in_ok-takes.ensures.right in
    let entries = c.args.entries.now in
    let k = c.loop-entry.entry-index in
    let entry = c.entry-item.result in
    let so_far = c.loop-entry.invariant.so_far in
    record {
      so_far = IsJudged-more c.args.callers entries k entry c.loop-entry-test.true c.entry-item.is c.loop-entry.judge so_far c.takes.new.self right (c.in_ok-takes.ensures.after c.if-not-branch.false);
      first = c.loop-entry.invariant.first ∙ first_wrong-more c.args.callers entries k entry c.loop-entry-test.true c.entry-item.is c.loop-entry.judge so_far right;
      operations = omega (arith, operation_count-more c.args.callers entries k entry c.loop-entry-test.true c.entry-item.is c.loop-entry.judge so_far, c.len.ensures, c.loop-entry.invariant.operations);
    }
