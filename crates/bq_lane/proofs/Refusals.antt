-- What a refused call shows of the room.
use Rattle.std.proofs.Common.{◌≡◌, ℕ, ◌<◌, ◌+◌, ◌≤◌, List, [], ◌∷◌, ◌++◌, length, sym, refl, ap, subst, ◌∙◌, arith}
use Rattle.bq_model.specs.declared.group.Group.{Group}
use Rattle.bq_model.specs.declared.op.Op.{Op}
use Rattle.bq_model.specs.declared.shape.Shape.{Shape}
use Rattle.bq_model.specs.Grows.{AtSomePoint}
use Rattle.lane_rule.specs.Rule.{Begins}
use Rattle.lane_room.specs.Search.{IsAbove}
use Rattle.bq_model.specs.Rooms.{PassesRoom}
use Rattle.bq_model.specs.Values.{enqueued}
use Rattle.bq_model.specs.Own.{own}
use Rattle.core_model.proofs.BatchRows.{length-enqueued}

-- of two beginnings of a list the longer one goes on the shorter
goes_on : {A : Type 0} (xs rest ys more : List A) → xs ++ rest ≡ ys ++ more → length xs ≤ length ys → (zs : List A) × (ys ≡ xs ++ zs)
goes_on [] rest ys more e less = (ys, refl)
goes_on (x ∷ xs) rest [] more e less = absurd (omega (arith, less))
goes_on (x ∷ xs) rest (y ∷ ys) more e less = let next = goes_on xs rest ys more (tail e) (omega (arith, less)) in (next.0, (λ i. head e i ∷ next.1 i)) where
  head : x ∷ (xs ++ rest) ≡ y ∷ (ys ++ more) → y ≡ x
  head e = cc e

  tail : x ∷ (xs ++ rest) ≡ y ∷ (ys ++ more) → xs ++ rest ≡ ys ++ more
  tail e = cc e

-- what passed the room since the command began, when the history had n groups, did so at a point that its caller had not seen before
pub at_moment : (s : Shape) (c : ℕ) (ops : List Op) (n : ℕ) (old new : List Group) → Begins old new → length old ≤ n → IsAbove s new c ops n → (0 < length (enqueued ops)) × AtSomePoint (λ point. PassesRoom s point c ops) old new
at_moment s c ops n old new begins less (some, above) = let since = above.since_start in let on = goes_on old begins.0 above.before above.behind (sym begins.1 ∙ above.whole) (omega (arith, less, since)) in (
  subst (λ (k : ℕ). 0 < k) (sym (length-enqueued ops)) some,
  record {
    between = on.0;
    after = above.behind;
    grown = above.whole ∙ ap (λ (h : List Group). h ++ above.behind) on.1;
    held = subst (λ (h : List Group). PassesRoom s h c ops) on.1 (subst (λ (k : ℕ). s.room < own above.before c + k) (sym (length-enqueued ops)) above.above);
  },
)
