-- Which rows of a caller aren't free, and how many of them callers can keep back.
use Rattle.std.specs.Prelude.{ℕ, zero, suc, ◌+◌, ◌*◌, cond, List, [], ◌∷◌}
use Rattle.bq_model.specs.declared.shape.Shape.{Shape}
use Rattle.word_rows.specs.declared.marks.Marks.{Marks}

-- of so many rows from this one on, those that aren't free
abbrev pub busy : (ℕ → Marks) → ℕ → ℕ → List ℕ
busy mark r zero = []
busy mark r (suc n) = cond (mark r).free (busy mark (suc r) n) (r ∷ busy mark (suc r) n)

-- the most rows that one caller has yet to mark or to free
abbrev pub share : Shape → ℕ
share s = s.batch + s.callers + 1

-- the same of all callers; and the row at the shown head
abbrev pub held_back : Shape → ℕ
held_back s = suc (s.callers * share s)
