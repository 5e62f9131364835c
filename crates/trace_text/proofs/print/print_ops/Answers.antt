use Rattle.std.proofs.Common.{List, All, subst}
use Rattle.std.proofs.lemmas.List.{take_all}
use Rattle.std.proofs.lemmas.List.Elements.{All-more}
use Rattle.bq_model.specs.declared.op.Op.{Op}
use Rattle.trace_text.specs.Ranges.{IsOpInRange}
use Rattle.trace_text.proofs.PrintLemmas.{ops_printed-more, queue_left-more}
use Rattle.trace_text.proofs.print.print_ops.Goals as goal

pub loop-op-preserved : goal.loop-op-preserved
loop-op-preserved c =
    let ops = c.args.ops.now in
    let k = c.loop-op.op-index in
    let before = c.loop-op.invariant in
    record {
      printed = ops_printed-more c.loop-op.queue c.make.new.self ops k _ c.loop-op-test.true c.in_ok-answer.ensures.queue c.loop-op.text c.print_op.new.text _ c.in_ok-answer.answer c.in_ok-answer.ensures.answer
          c.in_ok-print_op.ensures.text before.printed;
      queue = queue_left-more c.loop-op.queue c.make.new.self ops k _ c.loop-op-test.true c.in_ok-answer.ensures.queue _ before.queue;
      in_range = All-more IsOpInRange ops k _ c.loop-op-test.true before.in_range c.in_ok-print_op.ensures.in_range;
    }

pub returns-clause-in_range : goal.returns-clause-in_range
returns-clause-in_range c =
    let P : List Op → Type 0 = All IsOpInRange in
    subst P (take_all c.loop-op.op-index c.args.ops.now c.loop-op-test.false) c.loop-op.invariant.in_range
