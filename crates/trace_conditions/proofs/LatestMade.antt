-- The greatest `made` of the operations up to a place tells whether all of them were made before a stamp.
use Rattle.std.proofs.Common.{◌≡◌, ℕ, ◌+◌, ◌<◌, ◌≤◌, ◌⊎◌, inl, inr, List, length, get_or, Option, None, Some, arith, ap, sym, ◌∙◌, subst}
use Rattle.std.proofs.lemmas.List.{get_or_default}
use Rattle.std.proofs.lemmas.Bool.{cases_lt}
use Rattle.trace_conditions.specs.declared.stamped.Stamped.{Stamped}
use Rattle.trace_conditions.specs.declared.ahead.Stamp.{Stamp}
use Rattle.trace_conditions.specs.Stamps.{IsBefore}
use Rattle.trace_conditions.specs.Conditions.{stamp_of}

-- the greatest `made` of the operations before place k, or 0
pub record IsLatest (ops : List Stamped) (k latest : ℕ) : Type 0 where
  pub bound : (i : ℕ) (d : Stamped) → i < k → (get_or ops i d).made ≤ latest
  pub met : (latest ≡ 0) ⊎ ((i : ℕ) × (i < k) × ((d : Stamped) → (get_or ops i d).made ≡ latest))

-- an operation is the same whatever stands for one that isn't there
pub same_op : (ops : List Stamped) (k : ℕ) (d e : Stamped) → k < length ops → get_or ops k d ≡ get_or ops k e
same_op ops k d e within = get_or_default ops k d e within

same_made : (ops : List Stamped) (k : ℕ) (d e : Stamped) → k < length ops → (get_or ops k d).made ≡ (get_or ops k e).made
same_made ops k d e within = ap (λ (o : Stamped). o.made) (same_op ops k d e within)

-- one place further
pub next_latest : (ops : List Stamped) (k latest next : ℕ) (e : Stamped) → k < length ops → IsLatest ops k latest → next ≡ Prim.Native.Nat.max (get_or ops k e).made latest → IsLatest ops (k + 1) next
next_latest ops k latest next e within is next_is = record {
  bound = λ i d before. elim (cases_lt i k) [
    | inl earlier ↦ omega (arith, is.bound i d earlier, next_is)
    | inr here ↦ let i_is : i ≡ k = omega (arith, before, here) in
        let made_is : (get_or ops i d).made ≡ (get_or ops k e).made = ap (λ j. (get_or ops j d).made) i_is ∙ same_made ops k d e within in
        omega (arith, made_is, next_is)
  ];
  met = elim (cases_lt (get_or ops k e).made latest) [
    | inl below ↦ elim is.met [
      | inl zero ↦ absurd (omega (arith, below, zero))
      | inr found ↦ inr (found.0, omega (arith, found.1), λ d. omega (arith, found.2 d, below, next_is))
    ]
    | inr above ↦ inr (k, omega arith, λ d. omega (arith, same_made ops k d e within, above, next_is))
  ];
}

-- whatever is no greater comes before the stamp too
pub before_too : (one other : ℕ) (stamp : Option ℕ) → one ≤ other → IsBefore other stamp → IsBefore one stamp
before_too one other None _ _ = tt
before_too one other (Some stamp) less before = omega (arith, less, before)

-- all that are ahead of those before place k, and of the one there
pub ahead_further : (stamp : Stamp) (ops : List Stamped) (k latest next : ℕ) (e : Stamped) → k < length ops → IsLatest ops k latest → next ≡ Prim.Native.Nat.max (get_or ops k e).made latest
    → IsBefore next (stamp_of stamp (get_or ops k e))
    → ((i j : ℕ) (d : Stamped) → i ≤ j → j < k → IsBefore (get_or ops i d).made (stamp_of stamp (get_or ops j d)))
    → (i j : ℕ) (d : Stamped) → i ≤ j → j < k + 1 → IsBefore (get_or ops i d).made (stamp_of stamp (get_or ops j d))
ahead_further stamp ops k latest next e within is next_is before ahead i j d order j_within = elim (cases_lt j k) [
  | inl earlier ↦ ahead i j d order earlier
  | inr here ↦ let j_is : j ≡ k = omega (arith, j_within, here) in
      let last : get_or ops j d ≡ get_or ops k e = ap (λ n. get_or ops n d) j_is ∙ same_op ops k d e within in
      let bound = (next_latest ops k latest next e within is next_is).bound i d (omega (arith, order, j_is)) in
      subst (λ o. IsBefore (get_or ops i d).made (stamp_of stamp o)) (sym last) (before_too (get_or ops i d).made next (stamp_of stamp (get_or ops k e)) bound before)
]

-- the greatest is one of those up to the place, so where it isn't before the stamp there they aren't ahead
pub not_ahead : (stamp : Stamp) (ops : List Stamped) (k latest next : ℕ) (e : Stamped) → k < length ops → IsLatest ops k latest → next ≡ Prim.Native.Nat.max (get_or ops k e).made latest
    → ((i j : ℕ) (d : Stamped) → i ≤ j → j < length ops → IsBefore (get_or ops i d).made (stamp_of stamp (get_or ops j d)))
    → IsBefore next (stamp_of stamp (get_or ops k e))
not_ahead stamp ops k latest next e within is next_is ahead = elim (cases_lt (get_or ops k e).made latest) [
  | inl below ↦ elim is.met [
    | inl zero ↦ absurd (omega (arith, below, zero))
    | inr found ↦ before_too next (get_or ops found.0 e).made (stamp_of stamp (get_or ops k e)) (omega (arith, found.2 e, below, next_is)) (ahead found.0 k e (omega (arith, found.1)) within)
  ]
  | inr above ↦ before_too next (get_or ops k e).made (stamp_of stamp (get_or ops k e)) (omega (arith, above, next_is)) (ahead k k e (omega arith) within)
]
