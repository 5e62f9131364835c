-- How a caller comes to hold an announcement or a row, and what is left of that while it does.
use Rattle.std.specs.Prelude.{◌≡◌, ◌≢◌, ◌⊎◌, ℕ, Option, Some, None}
use Rattle.word_rows.specs.declared.head_word.HeadWord.TheVariants.{Ann}
use Rattle.word_rows.specs.declared.link_word.LinkWord.TheVariants.{Nil}
use Rattle.word_rows.specs.declared.location.Location.TheVariants.{NodeHazard}
use Rattle.lane_steps.specs.declared.point.Help.{Help}
use Rattle.lane_steps.specs.declared.point.Guarding.{Guarding}
use Rattle.lane_steps.specs.declared.point.Guarding.TheVariants as guard
use Rattle.lane_steps.specs.declared.point.GuardPoint.TheVariants.{LoadAgain}
use Rattle.lane_steps.specs.declared.point.Hold.TheVariants.{Held}
use Rattle.lane_steps.specs.declared.point.Back.{Back}
use Rattle.lane_steps.specs.declared.point.Back.TheVariants as back
use Rattle.lane_steps.specs.declared.point.Point.{Point}
use Rattle.lane_steps.specs.declared.point.Point.TheVariants as point
use Rattle.lane_steps.specs.State.{Memory, Caller, State, read}
use Rattle.lane_steps.specs.Guard.{guarded, hazard, source, expected}

-- the caller holds this announcement, or this row
abbrev pub HoldsAnn : Caller → ℕ → Type 0
HoldsAnn k a = k.hold ≡ Held a

abbrev pub HoldsRow : Caller → ℕ → Type 0
HoldsRow k r = k.row_hold ≡ Held r

-- What the announcement says is left. OldTail is left too, or was not known.
pub record Untouched (old new : Memory) (a : ℕ) : Type 0 where
  pub notice : new.notice a ≡ old.notice a
  pub old_tail : (new.old_tail a ≡ old.old_tail a) ⊎ (old.old_tail a ≡ None)

-- The value of the row is left, and its link where that isn't Nil.
pub record RowUntouched (old new : Memory) (r : ℕ) : Type 0 where
  pub value : new.value r ≡ old.value r
  pub link : old.link r ≢ Nil → new.link r ≡ old.link r

-- Caller c loads HEAD a second time, and finds the announcement there with the count that it found, or stored, before.
abbrev pub BeginsHold : State → ℕ → ℕ → Type 0
BeginsHold s c a = (h : Help) × ((s.callers c).point ≡ point.Guard (guard.Help h) LoadAgain) × (h.ann ≡ a) × (s.memory.head ≡ Ann a h.old_head.count)

-- Caller c, whose NODE_HAZARD names the row, loads HEAD or TAIL a second time, and finds the row's place there as before.
abbrev pub BeginsRowHold : State → ℕ → ℕ → Type 0
BeginsRowHold s c r = (t : Guarding) × ((s.callers c).point ≡ point.Guard t LoadAgain) × (hazard c t ≡ NodeHazard c) × (guarded t ≡ r) × (read s.memory (source t) ≡ expected t)

-- the announcement that the caller has chosen and hasn't installed, if any
abbrev pub chosen_behind : Back → Option ℕ
chosen_behind (back.Batch d) = Some d.ann
chosen_behind (back.Many d) = d.ann
chosen_behind _ = None

abbrev pub chosen_beside : Guarding → Option ℕ
chosen_beside (guard.Many d) = d.ann
chosen_beside (guard.ManyTail d p) = d.ann
chosen_beside (guard.Help h) = chosen_behind h.back
chosen_beside (guard.HelpTail h p) = chosen_behind h.back
chosen_beside _ = None

abbrev pub chosen_by : Point → Option ℕ
chosen_by (point.Batch d p) = Some d.ann
chosen_by (point.Many d p) = d.ann
chosen_by (point.Help h p) = chosen_behind h.back
chosen_by (point.Guard t p) = chosen_beside t
chosen_by _ = None
