use Rattle.std.proofs.Common.{ℕ, List, length, take, refl, sym, ap, ◌∙◌}
use Rattle.bq_model.specs.declared.op.Op.{Op}
use Rattle.excess_count.specs.Counts.{counts_of}
use Rattle.excess_count.specs.Got.{values_from}
use Rattle.excess_count.specs.Pairing.{paired}
use Rattle.excess_count.proofs.PairingLaws.{paired_right, length-paired}
use Rattle.excess_count.proofs.ReplayLaws.{got_count-counted}
use Rattle.excess_count.proofs.pairing.answer_all.Goals as goal

pub returns-clause-answers : goal.returns-clause-answers
returns-clause-answers c = c.pair.ensures.answers ∙ ap (λ (os : List Op). paired os c.args.n c.args.values.now) c.as_slice.ensures.items

pub returns-clause-answers_of_the_replay : goal.returns-clause-answers_of_the_replay
returns-clause-answers_of_the_replay c = λ q long are. let ops = c.args.batch.now.items in let vs = c.args.values.now in
    c.pair.ensures.answers ∙ (ap (λ (os : List Op). paired os c.args.n vs) c.as_slice.ensures.items
    ∙ (ap (λ (n : ℕ). paired ops n vs) (sym long)
    ∙ paired_right ops q vs c.requires.no_shut (are ∙ ap (λ (n : ℕ). take n (values_from q ops)) (c.requires.as_many_values ∙ sym (got_count-counted (counts_of ops) ops q c.args.n c.requires.no_shut refl long)))))

pub returns-clause-one_answer_each : goal.returns-clause-one_answer_each
returns-clause-one_answer_each c = ap length (c.pair.ensures.answers ∙ ap (λ (os : List Op). paired os c.args.n c.args.values.now) c.as_slice.ensures.items) ∙ length-paired c.args.batch.now.items c.args.n c.args.values.now
