-- An order that callers can make and that is strong is medium.
use Rattle.std.proofs.Common.{ℕ, ◌<◌, inl, inr, List, get_or, Option, None, Some, arith}
use Rattle.trace_conditions.specs.declared.stamped.Stamped.{Stamped}
use Rattle.trace_conditions.specs.Stamps.{IsBefore, ComesBefore, IsUpTo}
use Rattle.trace_conditions.specs.Conditions.{IsStrong, IsMedium, IsMadeInTurn}

-- what comes before a stamp comes before each one that isn't less
before_later : (made : ℕ) (one other : Option ℕ) → IsBefore made one → IsUpTo one other → IsBefore made other
before_later made one None before up_to = tt
before_later made None (Some other) before up_to = absurd up_to
before_later made (Some one) (Some other) before up_to = omega (arith, before, up_to)

-- the one's span ends before the other's begins
pub made_before : (made : ℕ) (returned : Option ℕ) (other : ℕ) → IsBefore made returned → ComesBefore returned (Some other) → made < other
made_before made None other before ends = absurd ends
made_before made (Some returned) other before ends = omega (arith, before, ends)

-- it can't have ended before one that it is ahead of
not_ended : (made : ℕ) (returned : Option ℕ) → IsBefore made returned → ComesBefore returned (Some made) → ⊥
not_ended made None before ends = ends
not_ended made (Some returned) before ends = omega (arith, before, ends)

pub strong_is_medium : (ops : List Stamped) → IsMadeInTurn ops → IsStrong ops → IsMedium ops
strong_is_medium ops turn strong = (
  λ i j d order within. before_later (get_or ops i d).made (get_or ops j d).returned (get_or ops j d).evaluated (strong i j d order within) (turn.stamps j d within).1,
  λ i j d order within same. elim (turn.apart i j d order within same) [
    | inl ends ↦ made_before (get_or ops i d).made (get_or ops i d).returned (get_or ops j d).made (turn.stamps i d (omega (arith, order, within))).0 ends
    | inr ends ↦ absurd (not_ended (get_or ops i d).made (get_or ops j d).returned (strong i j d (omega (arith, order)) within) ends)
  ],
)
