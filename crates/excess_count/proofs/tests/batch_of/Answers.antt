use Rattle.std.proofs.Common.{rules, ◌≡◌, ◌≢◌, ℕ, ◌+◌, ◌∷◌, [], length, length-append, slice_index_or, ap, sym, subst, ◌∙◌}
use Rattle.bq_model.specs.declared.op.Op.{Op}
use Rattle.bq_model.specs.declared.op.Op.TheVariants.{Enq, Shut}
use Rattle.bq_model.specs.NoShut.{NoShut}
use Rattle.bq_model.proofs.NoShuts.{NoShut-push}
use Rattle.excess_count.proofs.tests.batch_of.Goals as goal

pub loop-op-preserved : goal.loop-op-preserved
loop-op-preserved g c =
    let op : Op = slice_index_or c.args.ops.now c.loop-op.op-index (Enq 0) in
    let other : slice_index_or c.args.ops.now c.loop-op.op-index (Enq 0) ≢ Shut = search rules in
    record {
      counted = ap length c.push.ensures.appended ∙ (length-append c.loop-op.batch.items (op ∷ []) ∙ ap (λ (n : ℕ). n + 1) c.loop-op.invariant.counted);
      capacity = c.push.ensures.capacity_stays ∙ c.loop-op.invariant.capacity;
      no_shut = subst NoShut (sym c.push.ensures.appended) (NoShut-push c.loop-op.batch.items op c.loop-op.invariant.no_shut other);
    }
