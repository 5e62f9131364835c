-- How far a lane has come, as a number that no step lowers.
use Rattle.std.specs.Prelude.{◌≡◌, ◌<◌, ◌⊎◌, ℕ, ◌+◌, ◌*◌, List, length, Option, Some, None}
use Rattle.bq_model.specs.declared.group.Group.{Group}
use Rattle.bq_model.specs.History.{operations}
use Rattle.word_rows.specs.declared.place.Place.{Place}
use Rattle.word_rows.specs.declared.head_word.HeadWord.{HeadWord}
use Rattle.word_rows.specs.declared.head_word.HeadWord.TheVariants.{Node, Ann}
use Rattle.word_rows.specs.declared.link_word.LinkWord.{LinkWord}
use Rattle.word_rows.specs.declared.link_word.LinkWord.TheVariants.{Nil, Single, Chain, Shut}
use Rattle.lane_steps.specs.declared.point.Point.{Point}
use Rattle.lane_steps.specs.declared.point.Point.TheVariants as point
use Rattle.lane_steps.specs.LaneSizes.{LaneSizes}
use Rattle.lane_steps.specs.State.{Memory, State}
use Rattle.core_model.specs.Ghost.{Ghost}

-- no announcement stands in HEAD; the link is that of the row that TAIL names
abbrev pub free_stage : LinkWord → ℕ
free_stage Nil = 5
free_stage (Single r) = 4
free_stage (Chain r) = 4
free_stage Shut = 5

-- one with this OldTail stands there
abbrev pub ann_stage : Option Place → LinkWord → ℕ
ann_stage None Nil = 7
ann_stage None (Single r) = 6
ann_stage None (Chain r) = 0
ann_stage None Shut = 7
ann_stage (Some q) Nil = 3
ann_stage (Some q) (Single r) = 2
ann_stage (Some q) (Chain r) = 1
ann_stage (Some q) Shut = 3

abbrev pub head_stage : HeadWord → (ℕ → Option Place) → LinkWord → ℕ
head_stage (Node p) old_tail l = free_stage l
head_stage (Ann a n) old_tail l = ann_stage (old_tail a) l

-- by HEAD, by OldTail of the announcement there, and by the link of TAIL's row
abbrev pub stage_of : Memory → ℕ
stage_of m = head_stage m.head m.old_tail (m.link m.tail.row)

abbrev pub rank_of : Memory → List Group → ℕ
rank_of m h = 8 * length (operations h) + stage_of m

abbrev pub rank : State → ℕ
rank s = rank_of s.memory s.history

-- no lane's rank is above this
abbrev pub most_rank : LaneSizes → ℕ
most_rank z = 8 * (z.callers * z.allowance) + 7

-- the step at this point stores into a field of this announcement, which its caller is to install
abbrev pub Writes : Point → ℕ → Type 0
Writes (point.Batch d p) x = x ≡ d.ann
Writes _ x = ⊥

-- What callers share is as it was: HEAD, TAIL, the links of rows with a position, and OldTail of each announcement, but of that
-- which the step at this point writes.
pub record Rests (t : Point) (g : Ghost) (a b : Memory) : Type 0 where
  pub head : b.head ≡ a.head
  pub tail : b.tail ≡ a.tail
  pub links : (r : ℕ) → (g.spot r ≡ None → ⊥) → b.link r ≡ a.link r
  pub old_tails : (x : ℕ) → (Writes t x → ⊥) → b.old_tail x ≡ a.old_tail x

-- a state with these words and this history has a greater rank, or shares with the old one what callers share
abbrev pub ClimbsTo : Point → Ghost → State → Memory → List Group → Type 0
ClimbsTo t g s m h = (rank s < rank_of m h) ⊎ ((rank_of m h ≡ rank s) × Rests t g s.memory m)

abbrev pub Climbs : Point → Ghost → State → State → Type 0
Climbs t g a b = ClimbsTo t g a b.memory b.history
