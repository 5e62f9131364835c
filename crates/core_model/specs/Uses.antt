-- What a row of a lane is used for.
use Rattle.std.specs.Prelude.{◌≡◌, ◌≢◌, ◌⊎◌, ℕ, ◌<◌, ◌≤◌, true, false, cond, List, [], ◌∷◌, Some, None}
use Rattle.node_guard.specs.Pick.{among}
use Rattle.lane_steps.specs.declared.point.Back.{Back}
use Rattle.lane_steps.specs.declared.point.Back.TheVariants as back
use Rattle.lane_steps.specs.declared.point.ClosePoint.TheVariants as close
use Rattle.lane_steps.specs.declared.point.FillPoint.TheVariants as fill
use Rattle.lane_steps.specs.declared.point.Guarding.{Guarding}
use Rattle.lane_steps.specs.declared.point.Guarding.TheVariants as guard
use Rattle.lane_steps.specs.declared.point.Point.{Point}
use Rattle.lane_steps.specs.declared.point.Point.TheVariants.{Idle}
use Rattle.lane_steps.specs.declared.point.Point.TheVariants as point
use Rattle.lane_steps.specs.LaneSizes.{LaneSizes}
use Rattle.lane_steps.specs.Enqueue.{is_linked}
use Rattle.lane_steps.specs.Take.{rows_at}
use Rattle.lane_steps.specs.State.{Caller, State, both_marks}
use Rattle.core_model.specs.Ghost.{owes, Ghost, positions}

-- the rows that the running call of a caller has taken, those that it has marked again left out
abbrev pub taken_behind : Back → List ℕ → List ℕ
taken_behind (back.Enqueue x) rows = x.row ∷ []
taken_behind _ rows = rows

abbrev pub taken_beside : Guarding → List ℕ → List ℕ
taken_beside (guard.Enqueue x p) rows = x.row ∷ []
taken_beside (guard.Help h) rows = taken_behind h.back rows
taken_beside (guard.HelpTail h p) rows = taken_behind h.back rows
taken_beside _ rows = rows

abbrev pub taken_at : Point → List ℕ → List ℕ
taken_at Idle rows = []
taken_at (point.Enqueue x p) rows = cond (is_linked p) [] (x.row ∷ [])
taken_at (point.Take t p) rows = rows_at rows p
taken_at (point.Fill n (fill.StoreValue r v)) rows = r ∷ rows
taken_at (point.Guard t p) rows = taken_beside t rows
taken_at (point.Help h p) rows = taken_behind h.back rows
taken_at (point.Close a (close.MarkLoose r)) rows = r ∷ rows
taken_at _ rows = rows

abbrev pub taken_by : Caller → List ℕ
taken_by k = taken_at k.point k.rows

-- The row is free; taken by the running call of its home; in the list, from the dummy on; before the dummy, without one of its
-- marks; or in the retired list of a caller.
pub data Use : Type 0 where
  free : Use
  taken : Use
  listed : Use
  lacking : Use
  retired : ℕ → Use

module _ (z : LaneSizes) (s : State) (g : Ghost) (r : ℕ) where
  -- its home, whose call runs, took it and didn't link it
  pub record IsTakenNow : Type 0 where
    pub unlinked : g.spot r ≡ None
    pub kept : (s.memory.mark r).free ≡ false
    pub unmarked : s.memory.mark r ≢ both_marks
    pub taken : among (taken_by (s.callers (z.home r))) r ≡ true

  -- it is the dummy, or lies behind it
  pub record IsListed : Type 0 where
    pub position : ℕ
    pub spot : g.spot r ≡ Some position
    pub row : g.path position ≡ r
    pub from : g.head ≤ position
    pub inside : position < positions g

  -- the head has passed it, and a caller whose call runs has yet to set READ or PASSED on it
  pub record LacksMark : Type 0 where
    pub position : ℕ
    pub spot : g.spot r ≡ Some position
    pub before : position < g.head
    pub marker : ℕ
    pub running : (s.callers marker).point ≢ Idle
    pub lacks : ((g.reader position ≡ owes marker) × ((s.memory.mark r).read ≡ false)) ⊎ ((g.passer position ≡ owes marker) × ((s.memory.mark r).passed ≡ false))

  -- it is in the retired list of this caller, with both marks and not free
  pub record IsRetiredBy (c : ℕ) : Type 0 where
    pub listed : among (s.callers c).retired r ≡ true
    pub marks : s.memory.mark r ≡ both_marks

  abbrev pub IsUsed : Use → Type 0
  IsUsed free = (s.memory.mark r).free ≡ true
  IsUsed taken = IsTakenNow
  IsUsed listed = IsListed
  IsUsed lacking = LacksMark
  IsUsed (retired c) = IsRetiredBy c
