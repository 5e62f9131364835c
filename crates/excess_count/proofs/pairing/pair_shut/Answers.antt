use Rattle.std.proofs.Common.{◌≡◌, ◌≤◌, ◌++◌, List, length, drop, sym, ap, ◌∙◌, slice_get, ℕ}
use Rattle.std.proofs.lemmas.List.{append-nil}
use Rattle.bq_model.specs.declared.op.Op.{Op}
use Rattle.bq_model.specs.declared.op.Answer.{Answer}
use Rattle.excess_count.specs.Pairing.{paired_shut}
use Rattle.excess_count.proofs.PairingLaws.{none_left, paired_shut_right, paired_shut-refuses}
use Rattle.excess_count.proofs.pairing.pair_shut.Goals as goal

-- the answers so far are all
whole : (ops : List Op) (i : ℕ) (left vs : List ℕ) (answers : List Answer) → length ops ≤ i → answers ++ paired_shut (drop i ops) left ≡ paired_shut ops vs → answers ≡ paired_shut ops vs
whole ops i left vs answers past is = sym (ap (λ (os : List Op). answers ++ paired_shut os left) (none_left ops i past) ∙ append-nil answers) ∙ is

pub returns-clause-answers_of_the_replay : goal.returns-clause-answers_of_the_replay
returns-clause-answers_of_the_replay c = λ q are. let l = c.loop-op in let vs = c.args.values.now in
    whole c.args.ops.now l.op-index l.left.now vs l.out.items c.loop-op-test.false l.invariant.rest ∙ (ap (paired_shut c.args.ops.now) are ∙ paired_shut_right c.args.ops.now q)

pub returns-clause-enqueues_are_refused : goal.returns-clause-enqueues_are_refused
returns-clause-enqueues_are_refused c = λ k v at. let l = c.loop-op in let vs = c.args.values.now in
    ap (λ (answers : List Answer). slice_get answers k) (whole c.args.ops.now l.op-index l.left.now vs l.out.items c.loop-op-test.false l.invariant.rest)
    ∙ paired_shut-refuses c.args.ops.now vs k v at
