-- What a command has at hand, and that there is room for what its steps add to that.
use Rattle.std.specs.Prelude.{◌≡◌, ℕ, suc, ◌+◌, ◌^◌, ◌<◌, ◌≤◌, length, vec_len, vec_capacity}
use Rattle.std.specs.VecDeque.{deque_len, deque_capacity}
use Rattle.bq_model.specs.declared.shape.Shape.{Shape}
use Rattle.lane_steps.specs.declared.course.Course.{Course}
use Rattle.lane_steps.specs.declared.course.Course.TheVariants as course
use Rattle.lane_steps.specs.State.{Caller}
use Rattle.lane_course.specs.declared.scratch.Scratch.{Scratch}

-- the caller k, with the lists that are at hand, and what its hazard words name
abbrev pub keeping : Caller → Scratch → Caller
keeping k a = record k { rows = a.rows.items; values = a.values.items; walked = a.walked.items; retired = a.retired.items; named = a.named.items; row_hold = a.row_hold; hold = a.hold }

-- There is room for the values and the rows of a batch, for what the hazard words of all callers name, and for the rows that
-- can wait to be freed.
pub record Reserves (s : Shape) (a : Scratch) : Type 0 where
  pub puts : s.batch ≤ vec_capacity a.puts
  pub rows : s.batch ≤ deque_capacity a.rows
  pub values : s.batch ≤ vec_capacity a.values
  pub walked : s.batch ≤ deque_capacity a.walked
  pub retired : a.retired.capacity ≡ s.batch + s.callers + 1
  pub named : s.callers ≤ vec_capacity a.named

-- there is as much room as before
pub record SameRoom (a b : Scratch) : Type 0 where
  pub puts : vec_capacity b.puts ≡ vec_capacity a.puts
  pub rows : deque_capacity b.rows ≡ deque_capacity a.rows
  pub values : vec_capacity b.values ≡ vec_capacity a.values
  pub walked : deque_capacity b.walked ≡ deque_capacity a.walked
  pub retired : b.retired.capacity ≡ a.retired.capacity
  pub named : vec_capacity b.named ≡ vec_capacity a.named

-- b has the same values to enqueue as a, and as much room
pub record SamePuts (a b : Scratch) : Type 0 where
  pub puts : b.puts.items ≡ a.puts.items
  pub room : SameRoom a b

-- one more value can be read, with its row
pub record HasPair (a : Scratch) : Type 0 where
  pub values : vec_len a.values < vec_capacity a.values
  pub walked : deque_len a.walked < deque_capacity a.walked

-- In a lane of so many callers there is room for what a step of this course adds to the lists.
abbrev pub HasRoom : ℕ → Course → Scratch → Type 0
HasRoom callers (course.Passes x p r) a = 0 < deque_capacity a.walked
HasRoom callers (course.Fills n r) a = deque_len a.rows < deque_capacity a.rows
HasRoom callers (course.Chains n i) a = suc i < 2 ^ 32
HasRoom callers (course.Stops n r) a = 0 < deque_capacity a.rows
HasRoom callers (course.Hears n e x) a = (e < callers) × (suc (length a.named.items) < callers) × (vec_len a.named < vec_capacity a.named)
HasRoom callers (course.ReadsMore b r l v) a = HasPair a
HasRoom callers (course.WalksMore t r v) a = HasPair a
HasRoom callers (course.Marks x p both stopped) a = (p.count < 2 ^ 44) × (length a.retired.items < a.retired.capacity)
HasRoom callers (course.Retires x r) a = length a.retired.items < a.retired.capacity
HasRoom callers (course.Finds x e named) a = (e < callers) × (vec_len a.named < vec_capacity a.named)
HasRoom callers _ a = Unit {0}
