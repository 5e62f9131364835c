-- Operations are laid out one after another, and as many answers come.
use Rattle.std.proofs.Common.{◌≡◌, ◌<◌, ◌+◌, ◌++◌, ℕ, zero, suc, List, [], ◌∷◌, length, map, take, get_or, All, refl, sym, ap, subst, ◌∙◌}
use Rattle.std.proofs.lemmas.List.{map_more, take_more}
use Rattle.std.proofs.lemmas.List.Elements.{All-push}
use Rattle.bq_model.specs.declared.op.Op.{Op}
use Rattle.bq_model.specs.declared.op.Answer.{Answer}
use Rattle.bq_model.specs.NoShut.{NoShut}
use Rattle.bq_model.specs.Queue.{Queue, queue_after}
use Rattle.bq_model.specs.Replay.{answers_from}
use Rattle.bq_model.specs.declared.group.Group.{Group}
use Rattle.bq_model.specs.Grows.{Grew}
use Rattle.bq_c.specs.declared.crossing.BqOp.{BqOp}
use Rattle.bq_c.specs.Crossing.{IsKnown, by_kind, op_of}

one_each : (q : Queue) (ops : List Op) → length (answers_from q ops) ≡ length ops
one_each q [] = refl
one_each q (op ∷ ops) = ap suc (one_each (queue_after q op) ops)

same_length : (ops : List BqOp) → length (map op_of ops) ≡ length ops
same_length [] = refl
same_length (op ∷ ops) = ap suc (same_length ops)

pub as_many : (c : ℕ) (old new : List Group) (ops : List BqOp) (batch : List Op) (given answers : List Answer) → batch ≡ map op_of ops → Grew c batch given old new → answers ≡ given → length answers ≡ length ops
as_many c old new ops batch given answers laid grew same = ap length (same ∙ grew.answered) ∙ (one_each _ batch ∙ (ap length laid ∙ same_length ops))

-- an operation of C is no Shut
plain : (kind value : ℕ) (ops : List Op) → NoShut ops → NoShut (by_kind kind value ∷ ops)
plain zero value ops none = none
plain (suc zero) value ops none = none
plain (suc (suc k)) value ops none = none

-- none of them is a Shut
pub laid_plain : (ops : List BqOp) → NoShut (map op_of ops)
laid_plain [] = tt
laid_plain (op ∷ ops) = plain op.kind op.value (map op_of ops) (laid_plain ops)

-- the operations so far, and one more
pub next_laid : (ops : List BqOp) (i : ℕ) (d : BqOp) (old new : List Op) → i < length ops → old ≡ map op_of (take i ops) → new ≡ old ++ op_of (get_or ops i d) ∷ [] → new ≡ map op_of (take (i + 1) ops)
next_laid ops i d old new below was more = more ∙ (ap (λ (os : List Op). os ++ op_of (get_or ops i d) ∷ []) was ∙ sym (map_more op_of ops i d below))

pub next_known : (ops : List BqOp) (i : ℕ) (d : BqOp) → i < length ops → All IsKnown (take i ops) → IsKnown (get_or ops i d) → All IsKnown (take (i + 1) ops)
next_known ops i d below known next = subst (All IsKnown) (sym (take_more ops i d below)) (All-push IsKnown (take i ops) (get_or ops i d) known next)
