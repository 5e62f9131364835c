use Rattle.std.proofs.Common.{true≢false, sym, ◌∙◌, ap, refl, subst, arith, ◌+◌}
use Rattle.std.specs.BTreeSet.{BTreeSet, contains}
use Rattle.std.specs.List.{list_any}
use Rattle.trace_conditions.proofs.BegunBatches.{order, AreBegun, last_further, begun_with, begun_without, begun_on, whole_on, whole_beside, not_whole, some_is, some_is_none, HasBegun}
use Rattle.trace_conditions.proofs.whole.is_whole.Goals as goal
use Rattle.trace_conditions.proofs.whole.is_whole.Goals.{then-not-is_same+in-Some+else-contains+in_ok-insert-in-Some, then-not-is_same+in-None, else-not-is_same}

pub loop-op-init : goal.loop-op-init
loop-op-init c = record {
  whole = λ i k j d first second third same. absurd (omega (arith, third));
  begun = λ batch. (λ has. absurd (true≢false (sym has ∙ ap (λ keys. list_any (λ key. Rattle.std.specs.Ordering.is_eq (order batch key)) keys) c.new-begun.ensures.empty)), λ begun. absurd (omega (arith, begun.1)));
  last = (λ i d next. absurd (omega (arith, next)), λ _. refl);
}

pub returns-then-contains : goal.returns-then-contains
returns-then-contains c = (
  λ e. absurd (true≢false (sym e)),
  λ whole. absurd (not_whole c.args.ops.now c.loop-op.op-index _ c.loop-op-test.true c.loop-op.last c.loop-op.invariant.last c.in-Some.batch
      (sym c.batch_of-batch.ensures ∙ c.in-Some.is) (λ same. true≢false (sym (c.is_same.ensures.1 (c.batch_of-batch.ensures ∙ same)) ∙ c.if-not-is_same.true))
      ((c.loop-op.invariant.begun c.in-Some.batch).0 (sym c.contains.ensures ∙ c.if-contains.true)) whole),
)

pub returns : goal.returns
returns c = (λ _ i k j d first second third same. c.loop-op.invariant.whole i k j d first second (omega (arith, third, c.loop-op-test.false)) same, λ _. refl)

pub loop-op-preserved : goal.loop-op-preserved
loop-op-preserved c = elim c.if-not-is_same.branch [
  | then-not-is_same+in-Some+else-contains+in_ok-insert-in-Some w ↦
      let is = sym c.batch_of-batch.ensures ∙ w.in-Some.is in record {
        whole = whole_beside c.args.ops.now c.loop-op.op-index _ c.loop-op-test.true c.loop-op.invariant.whole
            (λ batch of_it begun. true≢false (sym ((c.loop-op.invariant.begun w.in-Some.batch).1 (subst (λ b. HasBegun c.args.ops.now c.loop-op.op-index b) (some_is batch w.in-Some.batch (sym of_it ∙ is)) begun)) ∙ sym w.contains.ensures ∙ w.if-contains.false));
        begun = subst (λ begun. AreBegun c.args.ops.now (c.loop-op.op-index + 1) begun) (sym w.begun-is) (begun_with c.args.ops.now c.loop-op.op-index _ c.loop-op-test.true w.in-Some.batch c.loop-op.begun _ is c.loop-op.invariant.begun w.in_ok-insert-in-Some.ensures.updates.0);
        last = last_further c.args.ops.now c.loop-op.op-index _ c.loop-op-test.true c.if-not-is_same.last (is ∙ sym w.last-is);
      }
  | then-not-is_same+in-None w ↦
      let is = sym c.batch_of-batch.ensures ∙ w.in-None.is in record {
        whole = whole_beside c.args.ops.now c.loop-op.op-index _ c.loop-op-test.true c.loop-op.invariant.whole (λ batch of_it begun. some_is_none batch (sym of_it ∙ is));
        begun = subst (λ begun. AreBegun c.args.ops.now (c.loop-op.op-index + 1) begun) (sym w.begun-is) (begun_without c.args.ops.now c.loop-op.op-index _ c.loop-op-test.true c.loop-op.begun is c.loop-op.invariant.begun);
        last = last_further c.args.ops.now c.loop-op.op-index _ c.loop-op-test.true c.if-not-is_same.last (sym c.batch_of-batch.ensures ∙ sym w.last-is);
      }
  | else-not-is_same w ↦
      let on = sym c.batch_of-batch.ensures ∙ c.is_same.ensures.0 w.if-not-is_same.false in record {
        whole = whole_on c.args.ops.now c.loop-op.op-index _ c.loop-op-test.true c.loop-op.last c.loop-op.invariant.last on c.loop-op.invariant.whole;
        begun = subst (λ begun. AreBegun c.args.ops.now (c.loop-op.op-index + 1) begun) (sym w.begun-is) (begun_on c.args.ops.now c.loop-op.op-index _ c.loop-op-test.true c.loop-op.last c.loop-op.invariant.last c.loop-op.begun on c.loop-op.invariant.begun);
        last = last_further c.args.ops.now c.loop-op.op-index _ c.loop-op-test.true c.if-not-is_same.last (on ∙ sym w.last-is);
      }
]
