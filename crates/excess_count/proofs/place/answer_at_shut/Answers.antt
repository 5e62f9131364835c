use Rattle.std.proofs.Common.{◌≡◌, ◌+◌, ℕ, suc, List, length, take, ap, sym, subst, ◌∙◌, arith}
use Rattle.std.proofs.lemmas.List.{length-take}
use Rattle.std.proofs.lemmas.Option.{slice_get_within}
use Rattle.bq_model.specs.declared.op.Op.{Op}
use Rattle.excess_count.specs.declared.counts.Counts.{Counts}
use Rattle.excess_count.specs.declared.place.Which.TheVariants.{Stored}
use Rattle.excess_count.specs.Excess.{dequeue_count}
use Rattle.excess_count.specs.Place.{TellsShut}
use Rattle.excess_count.proofs.ExcessLaws.{NoShut-take}
use Rattle.excess_count.proofs.PlaceLaws.{tells_shut, tells_shut_nothing}
use Rattle.excess_count.proofs.place.answer_at_shut.Goals as goal

pub count-place-requires-clause-no_shut : goal.count-place-requires-clause-no_shut
count-place-requires-clause-no_shut c = rw c.as_slice.ensures.items (NoShut-take c.args.batch.now.items c.args.k c.requires.no_shut)

pub overflow_add-place : goal.overflow_add-place
overflow_add-place c =
    let inside = slice_get_within c.args.batch.now.items c.args.k _ c.requires.dequeue in
    let many = c.count-place.ensures.every_operation_is_counted in
    let taken = length-take c.args.k c.as_slice.result.now in
    let same = ap length c.as_slice.ensures.items in
    let most = c.as_slice.ensures.within_capacity in
    let wide = c.as_slice.ensures.capacity_is_a_u32 in
    omega (arith, inside, many, taken, same, most, wide)

-- the dequeues before this one
before : (batch slice : List Op) (k : ℕ) (counts : Counts) → slice ≡ batch → counts.deqs ≡ dequeue_count (take k slice) → counts.deqs + 1 ≡ suc (dequeue_count (take k batch))
before batch slice k counts same counted = let e = counted ∙ ap (λ (ops : List Op). dequeue_count (take k ops)) same in omega (arith, e)

pub returns-then-from-n : goal.returns-then-from-n
returns-then-from-n c = let ops = c.args.batch.now.items in let at = before ops _ c.args.k c.count-place.result c.as_slice.ensures.items (ap (λ (n : Counts). n.deqs) c.count-place.ensures.counts_of_the_batch) in record {
  tells_what_the_replay_answers = λ q long. subst (λ (i : ℕ). TellsShut (Stored i) q ops c.args.k) (sym at) (tells_shut q ops c.args.k c.requires.dequeue (let t = c.if-from-n.true in let f = c.from.ensures in omega (arith, at, long, t, f)));
}

pub returns-else-from-n : goal.returns-else-from-n
returns-else-from-n c = let ops = c.args.batch.now.items in let at = before ops _ c.args.k c.count-place.result c.as_slice.ensures.items (ap (λ (n : Counts). n.deqs) c.count-place.ensures.counts_of_the_batch) in record {
  tells_what_the_replay_answers = λ q long. tells_shut_nothing q ops c.args.k c.requires.dequeue (let t = c.if-from-n.false in let f = c.from.ensures in omega (arith, at, long, t, f));
}
