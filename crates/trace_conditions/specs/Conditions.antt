-- The conditions of Kogan and Herlihy on an order in which operations with futures are claimed to take effect, over all pairs of
-- places, and whether batches stay whole.
use Rattle.std.specs.Prelude.{◌≡◌, ℕ, ◌<◌, ◌≤◌, ◌⊎◌, List, length, slice_index_or, All, AllPairs, Option, option_map}
use Rattle.std.specs.Option.{IsSome}
use Rattle.trace_conditions.specs.declared.stamped.Stamped.{Stamped}
use Rattle.trace_conditions.specs.declared.ahead.Stamp.{Stamp}
use Rattle.trace_conditions.specs.declared.ahead.Stamp.TheVariants.{Returned, Evaluated}
use Rattle.trace_conditions.specs.declared.condition.Condition.{Condition}
use Rattle.trace_conditions.specs.declared.condition.Condition.TheVariants.{Strong, Medium, Weak, Neither}
use Rattle.trace_conditions.specs.Stamps.{IsBefore, ComesBefore, IsUpTo}

-- one of an operation's stamps behind its making
abbrev pub stamp_of : Stamp → Stamped → Option ℕ
stamp_of Returned op = op.returned
stamp_of Evaluated op = op.evaluated

-- of each two operations, or one and itself, the one that stands first was made before this stamp of the other
abbrev pub AreAhead : Stamp → List Stamped → Type 0
AreAhead stamp ops = (i j : ℕ) (d : Stamped) → i ≤ j → j < length ops → IsBefore (slice_index_or ops i d).made (stamp_of stamp (slice_index_or ops j d))

-- of two operations of one caller the one that stands first was made first
abbrev pub AreInCallersOrder : List Stamped → Type 0
AreInCallersOrder ops = AllPairs (λ one other. one.caller ≡ other.caller → one.made < other.made) ops

-- no operation stands behind one whose evaluation had returned before it was made
abbrev pub IsWeak : List Stamped → Type 0
IsWeak ops = AreAhead Evaluated ops

-- also each caller's operations stand in the order in which it made them
abbrev pub IsMedium : List Stamped → Type 0
IsMedium ops = IsWeak ops × AreInCallersOrder ops

-- no operation stands behind one whose future had been made before
abbrev pub IsStrong : List Stamped → Type 0
IsStrong ops = AreAhead Returned ops

-- the batch that an operation was evaluated with: its caller's, with the stamp of the evaluation
abbrev pub batch_of : Stamped → Option (ℕ × ℕ)
batch_of op = option_map (λ evaluated. (op.caller, evaluated)) op.evaluated

-- two operations of one caller with one evaluation
abbrev pub AreOfOneBatch : Stamped → Stamped → Type 0
AreOfOneBatch one other = IsSome (batch_of one) × (batch_of one ≡ batch_of other)

-- what stands between two operations of one batch is of that batch
abbrev pub IsWhole : List Stamped → Type 0
IsWhole ops = (i k j : ℕ) (d : Stamped) → i < k → k < j → j < length ops
    → AreOfOneBatch (slice_index_or ops i d) (slice_index_or ops j d) → AreOfOneBatch (slice_index_or ops i d) (slice_index_or ops k d)

-- the first condition that holds
abbrev pub Meets : Condition → List Stamped → Type 0
Meets Strong ops = IsStrong ops
Meets Medium ops = (¬ IsStrong ops) × IsMedium ops
Meets Weak ops = (¬ IsStrong ops) × (¬ IsMedium ops) × IsWeak ops
Meets Neither ops = (¬ IsStrong ops) × (¬ IsMedium ops) × (¬ IsWeak ops)

-- the future was made before it was there, and was there when it was evaluated
abbrev pub HasItsStampsInOrder : Stamped → Type 0
HasItsStampsInOrder op = IsBefore op.made op.returned × IsUpTo op.returned op.evaluated

-- the span of the one's making ends before that of the other's begins
abbrev pub EndsBefore : Stamped → Stamped → Type 0
EndsBefore one other = ComesBefore one.returned (Option.Some other.made)

-- an order as callers can make one: each makes one future at a time
pub record IsMadeInTurn (ops : List Stamped) : Type 0 where
  pub stamps : All HasItsStampsInOrder ops
  pub apart : AllPairs (λ one other. one.caller ≡ other.caller → EndsBefore one other ⊎ EndsBefore other one) ops
