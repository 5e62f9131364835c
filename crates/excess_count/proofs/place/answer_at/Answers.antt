use Rattle.std.proofs.Common.{◌≡◌, List, take, ◌++◌, ◌∷◌, [], rules}
use Rattle.bq_model.specs.declared.op.Op.{Op}
use Rattle.bq_model.specs.declared.op.Op.TheVariants.{Deq}
use Rattle.bq_model.proofs.NoShuts.{NoShut-append}
use Rattle.excess_count.specs.Counts.{counts_of}
use Rattle.excess_count.proofs.ExcessLaws.{NoShut-take}
use Rattle.excess_count.proofs.PlaceLaws.{Tells-nothing, Tells-stored}
use Rattle.excess_count.proofs.place.answer_at.Goals as goal

pub returns-then-before-got : goal.returns-then-before-got
returns-then-before-got c =
    let ops : List Op = c.args.batch.now.items in
    let none = NoShut-take ops c.args.k c.requires.no_shut in
    let counted : c.count-counts.result ≡ counts_of (take c.args.k ops) = search rules in
    let with_it = c.add.ensures.counts_one_more (take c.args.k ops) counted in
    record {
      tells_what_the_replay_answers = λ q long.
          Tells-stored q ops c.args.k c.successes-before.result c.successes-got.result c.requires.no_shut c.requires.dequeue
          (c.successes-before.ensures.as_many_as_the_replay_gets (take c.args.k ops) q none counted long)
          (c.successes-got.ensures.as_many_as_the_replay_gets (take c.args.k ops ++ Deq ∷ []) q (NoShut-append (take c.args.k ops) (Deq ∷ []) none tt) with_it long)
          c.if-before-got.true;
    }

pub returns-else-before-got : goal.returns-else-before-got
returns-else-before-got c =
    let ops : List Op = c.args.batch.now.items in
    let none = NoShut-take ops c.args.k c.requires.no_shut in
    let counted : c.count-counts.result ≡ counts_of (take c.args.k ops) = search rules in
    let with_it = c.add.ensures.counts_one_more (take c.args.k ops) counted in
    record {
      tells_what_the_replay_answers = λ q long.
          Tells-nothing q ops c.args.k c.successes-before.result c.successes-got.result c.requires.no_shut c.requires.dequeue
          (c.successes-before.ensures.as_many_as_the_replay_gets (take c.args.k ops) q none counted long)
          (c.successes-got.ensures.as_many_as_the_replay_gets (take c.args.k ops ++ Deq ∷ []) q (NoShut-append (take c.args.k ops) (Deq ∷ []) none tt) with_it long)
          c.if-before-got.false;
    }

pub count-counts-requires-clause-no_shut : goal.count-counts-requires-clause-no_shut
count-counts-requires-clause-no_shut c = rw c.as_slice.ensures.items (NoShut-take c.args.batch.now.items c.args.k c.requires.no_shut)
