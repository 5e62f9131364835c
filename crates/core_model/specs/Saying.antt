-- What an announcement says that stands in HEAD, beside what the command of its owner is.
use Rattle.std.specs.Prelude.{◌≡◌, ℕ, ◌*◌, ◌<◌, ◌≤◌, Some, ◌-◌}
use Rattle.word_rows.specs.declared.place.Place.{Place}
use Rattle.word_rows.specs.declared.link_word.LinkWord.TheVariants.{Chain}
use Rattle.lane_steps.specs.Batches.{owner_of}
use Rattle.lane_steps.specs.LaneSizes.{LaneSizes}
use Rattle.lane_steps.specs.State.{Memory}
use Rattle.lane_steps.specs.Stopper.{linked_rows}

-- Its OldHead is the place of the dummy, whose count HEAD has too. First and Last are rows of its owner. OldTail isn't
-- known, or is a place at or behind the dummy: that behind which its chain or its stopper was linked, where one was.
pub record Says (z : LaneSizes) (m : Memory) (a n : ℕ) : Type 0 where
  pub inside : a < z.callers * z.callers
  pub dummy_row : (m.notice a).old_head.row < z.rows
  pub dummy_count : (m.notice a).old_head.count ≡ n
  pub first : z.home (m.notice a).first ≡ owner_of z a
  pub last : z.home (m.notice a).last ≡ owner_of z a
  pub old_tail : (q : Place) → m.old_tail a ≡ Some q → (n ≤ q.count) × (0 < linked_rows (m.notice a).counts (q.count - n) → m.link q.row ≡ Chain (m.notice a).first)
