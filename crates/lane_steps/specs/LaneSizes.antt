-- The sizes of a lane, and who takes which row.
use Rattle.std.specs.Prelude.{◌≡◌, ℕ, ◌+◌, ◌*◌, ◌-◌, ◌/◌, ◌<◌, Bool, true, false}
use Rattle.bq_model.specs.declared.shape.Shape.{Shape}
use Rattle.word_rows.specs.Sizes.{rows_of, items_of, stoppers_of, own_rows_of}

pub record LaneSizes : Type 0 where
  pub callers : ℕ
  -- where the counts of operations begin
  pub first : ℕ
  -- the most operations of a caller
  pub allowance : ℕ
  -- how many rows there are, and how many of them are item rows and stopper rows of one caller
  pub rows : ℕ
  pub items : ℕ
  pub stoppers : ℕ
  -- the first item row of a caller, and whose row a row is (row 0 is nobody's, and never taken)
  pub first_row : ℕ → ℕ
  pub home : ℕ → ℕ

-- the i-th item row of caller c
abbrev pub item : LaneSizes → ℕ → ℕ → ℕ
item z c i = z.first_row c + i

-- the i-th stopper row of caller c
abbrev pub stopper : LaneSizes → ℕ → ℕ → ℕ
stopper z c i = z.first_row c + z.items + i

-- the row is an item row of some caller
abbrev pub IsItem : LaneSizes → ℕ → Type 0
IsItem z r = (c : ℕ) × (i : ℕ) × (c < z.callers) × (i < z.items) × (item z c i ≡ r)

-- the i-th of the stopper rows or of the item rows of caller c, and how many it has
abbrev pub own_row : LaneSizes → ℕ → Bool → ℕ → ℕ
own_row z c true i = stopper z c i
own_row z c false i = item z c i

abbrev pub own_count : LaneSizes → Bool → ℕ
own_count z true = z.stoppers
own_count z false = z.items

-- each caller has rows of both kinds, which are rows of its home
pub record IsLane (z : LaneSizes) : Type 0 where
  pub some : (b : Bool) → 0 < own_count z b
  pub homes : (b : Bool) (c i : ℕ) → c < z.callers → i < own_count z b → z.home (own_row z c b i) ≡ c
  pub inside : (b : Bool) (c i : ℕ) → c < z.callers → i < own_count z b → own_row z c b i < z.rows

abbrev pub lane_sizes : Shape → LaneSizes
lane_sizes s = record {
  callers = s.callers;
  first = s.first_count;
  allowance = s.allowance;
  rows = rows_of s;
  items = items_of s;
  stoppers = stoppers_of s;
  first_row = λ c. 1 + c * own_rows_of s;
  home = λ r. (r - 1) / own_rows_of s;
}
