-- The rows of a caller: those that it has taken, those that it has to mark, and those that it has retired.
use Rattle.std.specs.Prelude.{◌≡◌, ◌≢◌, ◌⊎◌, ℕ, suc, ◌+◌, ◌-◌, ◌<◌, ◌≤◌, ◌==◌, Bool, true, false, List, length, get_or, Option, Some, None}
use Rattle.bq_model.specs.declared.op.Op.{Op}
use Rattle.bq_model.specs.Values.{enqueued}
use Rattle.excess_count.specs.Excess.{enqueue_count}
use Rattle.node_guard.specs.Pick.{among}
use Rattle.word_rows.specs.declared.marks.Marks.{Marks}
use Rattle.word_rows.specs.declared.place.Place.{Place}
use Rattle.word_rows.specs.declared.link_word.LinkWord.{LinkWord}
use Rattle.word_rows.specs.declared.link_word.LinkWord.TheVariants.{Nil, Single}
use Rattle.lane_steps.specs.declared.point.Notice.{Notice}
use Rattle.lane_steps.specs.Functions.{run, Distinct}
use Rattle.lane_steps.specs.LaneSizes.{LaneSizes, IsItem}
use Rattle.lane_steps.specs.State.{both_marks}
use Rattle.lane_steps.specs.Stopper.{chain_rows}
use Rattle.lane_steps.specs.Take.{taken_marks}
use Rattle.lane_steps.specs.Close.{to_pass}
use Rattle.core_model.specs.Ghost.{owes, World, positions, Unlinked, Owed, RetiredBy}

-- the row is an own one of caller c, of the kind, and not linked
pub record IsUnlinked (z : LaneSizes) (c : ℕ) (spot : ℕ → Option ℕ) (stops : Bool) (r : ℕ) : Type 0 where
  pub at_home : z.home r ≡ c
  pub inside : r < z.rows
  pub of_kind : stops ≡ false → IsItem z r
  pub unlinked : spot r ≡ None

-- it is, and its marks are those of a row that was taken
pub record IsTaken (z : LaneSizes) (c : ℕ) (spot : ℕ → Option ℕ) (mark : ℕ → Marks) (stops : Bool) (r : ℕ) : Type 0 where
  pub free : IsUnlinked z c spot stops r
  pub marks : mark r ≡ taken_marks stops

-- The rows are taken, of the kind that the operations want, and none is twice there. They have the first values of the
-- operations, and the first j are joined, each to the next.
pub record Fills (z : LaneSizes) (c : ℕ) (spot : ℕ → Option ℕ) (value : ℕ → ℕ) (link : ℕ → LinkWord) (mark : ℕ → Marks) (rows : List ℕ) (ops : List Op) (j : ℕ) : Type 0 where
  pub taken : (l : ℕ) → l < length rows → IsTaken z c spot mark (enqueue_count ops == 0) (get_or rows l 0)
  pub distinct : Distinct rows
  pub values : (l : ℕ) → l < length rows → l < enqueue_count ops → value (get_or rows l 0) ≡ get_or (enqueued ops) l 0
  pub joined : (l : ℕ) → l < length rows → l < j → link (get_or rows l 0) ≡ Single (get_or rows (suc l) 0)
  pub nil : (l : ℕ) → l < length rows → j ≤ l → link (get_or rows l 0) ≡ Nil

-- the notice says which are the first and the last of these rows, and they are all there
pub record IsWhole (n : Notice) (rows : List ℕ) : Type 0 where
  pub all : length rows ≡ chain_rows n.counts
  pub first : n.first ≡ get_or rows 0 0
  pub last : n.last ≡ get_or rows (length rows - 1) 0

-- Of caller c in the world w.
module _ (z : LaneSizes) (w : World) (c : ℕ) where
  -- each row of the caller that is neither free nor linked nor retired is one of these
  abbrev pub Takes : List ℕ → Type 0
  Takes rows = (r : ℕ) → z.home r ≡ c → Unlinked w r → (w.memory.mark r).free ≡ false → w.memory.mark r ≢ both_marks → among rows r ≡ true

  -- the marks that the caller has yet to set are those at these places
  pub record Debts (ps rs : List ℕ) : Type 0 where
    pub passes : (i : ℕ) → w.ghost.passer i ≡ owes c → among ps (z.first + i) ≡ true
    pub unread : (i : ℕ) → w.ghost.reader i ≡ owes c → among rs (z.first + i) ≡ true

  -- these rows are the caller's, taken and unlinked, and none is twice there; this one is
  pub record IsLoose (r : ℕ) : Type 0 where
    pub at_home : z.home r ≡ c
    pub inside : r < z.rows
    pub unlinked : Unlinked w r
    pub kept : (w.memory.mark r).free ≡ false
    pub unmarked : w.memory.mark r ≢ both_marks

  pub record OwnRows (rows : List ℕ) : Type 0 where
    pub each : (r : ℕ) → among rows r ≡ true → IsLoose r
    pub distinct : Distinct rows

  -- a row that the caller took and didn't link, and that it has retired
  pub record Loose (r : ℕ) : Type 0 where
    pub at_home : z.home r ≡ c
    pub inside : r < z.rows
    pub unlinked : Unlinked w r
    pub marks : w.memory.mark r ≡ both_marks

  abbrev pub Retires : ℕ → Type 0
  Retires r = ((i : ℕ) × RetiredBy w c r i) ⊎ Loose r

  -- these are the rows that the caller has retired
  pub record RetiresThese (rows : List ℕ) : Type 0 where
    pub distinct : Distinct rows
    pub each : (r : ℕ) → among rows r ≡ true → Retires r
    pub all : (r : ℕ) → Retires r → among rows r ≡ true

  -- The rows from the place q on, which are the one there and then these, are to be marked by caller c: each but the first as
  -- read, and that one or not, and each but the last as passed, and that one too where the stopper is the new dummy.
  pub record OwesRows (q : Place) (read stopped : Bool) (rows : List ℕ) : Type 0 where
    pub position : ℕ
    pub count : q.count ≡ z.first + position
    pub row : w.ghost.path position ≡ q.row
    pub inside : position + length rows < positions w.ghost
    pub behind : rows ≡ run w.ghost.path (suc position) (length rows)
    pub owed : (x : ℕ) → x ≤ length rows → Owed w c (position + x)
    pub spots : (x : ℕ) → x ≤ length rows → w.ghost.spot (w.ghost.path (position + x)) ≡ Some (position + x)
    pub first_read : read ≡ true → w.ghost.reader position ≡ owes c
    pub reads : (x : ℕ) → 0 < x → x ≤ length rows → w.ghost.reader (position + x) ≡ owes c
    pub passes : (x : ℕ) → x < to_pass (length rows) stopped → (w.ghost.passer (position + x) ≡ owes c) × (position + x < w.ghost.head)
