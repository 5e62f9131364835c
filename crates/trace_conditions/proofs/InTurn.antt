-- Spans that stand apart, and what the last one that begins before another's end tells of it.
use Rattle.std.proofs.Common.{◌≡◌, ℕ, ◌<◌, ◌≤◌, ◌⊎◌, inl, inr, Bool, true, false, true≢false, Option, None, Some, arith, ap, sym, ◌∙◌, refl, subst}
use Rattle.std.proofs.lemmas.Bool.{cases_lt, cases_order}
use Rattle.std.proofs.lemmas.Map.Lookups.{exact_unsigned}
use Rattle.std.specs.Cmp.{Equal-is, nat_cmp_is}
use Rattle.std.specs.declared.cmp.Ordering.TheVariants.{Less, Equal}
use Rattle.std.specs.Ordering.{nat_cmp, is_eq, is_gt}
use Rattle.std.specs.BTreeMap.{get}
use Rattle.trace_conditions.specs.Stamps.{IsBefore, IsUpTo}
use Rattle.trace_conditions.specs.Spans.{Spans, AreInTurn, MeetsNone, IsAdded, IsOver, end_of}
use Rattle.trace_conditions.proofs.Strong.{made_before}

-- what is there is what was found
some_end : (one other : Option ℕ) → Some one ≡ Some other → one ≡ other
some_end one other same = ap (λ (found : Option (Option ℕ)). from found) same
  where
    from : Option (Option ℕ) → Option ℕ
    from None = one
    from (Some till) = till

nothing_there : (till : Option ℕ) → Some till ≡ None → ⊥
nothing_there till same = true≢false (ap (λ (found : Option (Option ℕ)). is_there found) same)
  where
    is_there : Option (Option ℕ) → Bool
    is_there None = false
    is_there (Some till) = true

-- a number at another or below it isn't behind it in the order
pub not_behind : (one other : ℕ) → one ≤ other → is_gt (nat_cmp one other) ≡ false
not_behind one other less = elim (cases_lt one other) [
  | inl below ↦ ap (λ o. is_gt o) (sym (nat_cmp_is one other Less below))
  | inr above ↦ ap (λ o. is_gt o) (sym (nat_cmp_is one other Equal (omega (arith, less, above))))
]

-- what an insertion adds
pub is_added : (spans added : Spans) (made : ℕ) (returned : Option ℕ) → get nat_cmp added made ≡ Some returned
    → ((other : ℕ) → is_eq (nat_cmp made other) ≡ false → get nat_cmp added other ≡ get nat_cmp spans other) → IsAdded spans made returned added
is_added spans added made returned its others = (its, λ other apart. others other (elsewhere other apart (is_eq (nat_cmp made other)) refl))
  where
    elsewhere : (other : ℕ) → (other ≡ made → ⊥) → (found : Bool) → is_eq (nat_cmp made other) ≡ found → is_eq (nat_cmp made other) ≡ false
    elsewhere other apart true found = absurd (apart (sym (exact_unsigned made other ((Equal-is (nat_cmp made other)).0 found))))
    elsewhere other apart false found = found

module _ (spans added : Spans) (made : ℕ) (returned : Option ℕ) (turn : AreInTurn spans) (before : IsBefore made returned) (none : MeetsNone spans made returned) (is : IsAdded spans made returned added) where
  -- what another span of the new ones was before
  was : (other : ℕ) (till : Option ℕ) → (other ≡ made → ⊥) → end_of added other ≡ Some till → end_of spans other ≡ Some till
  was other till apart found = sym (is.1 other apart) ∙ found

  its_end : (other : ℕ) (till : Option ℕ) → other ≡ made → end_of added other ≡ Some till → till ≡ returned
  its_end other till here found = some_end till returned (sym found ∙ ap (λ n. end_of added n) here ∙ is.0)

  new_ends : (other : ℕ) (till : Option ℕ) → end_of added other ≡ Some till → IsBefore other till
  new_ends other till found = elim (cases_order other made) [
    | inl here ↦ subst (λ n. IsBefore n till) (sym here) (subst (λ t. IsBefore made t) (sym (its_end other till here found)) before)
    | inr apart ↦ turn.ends other till (was other till (λ here. elim apart [ inl below ↦ omega (arith, here, below) | inr above ↦ omega (arith, here, above) ]) found)
  ]

  -- the new one first
  from_new : (other : ℕ) (till : Option ℕ) → end_of spans other ≡ Some till → made < other → IsOver returned other
  from_new other till found order = elim (none other till found) [
    | inl over ↦ absurd (omega (arith, order, made_before other till made (turn.ends other till found) over))
    | inr over ↦ over
  ]

  -- the new one behind
  to_new : (one : ℕ) (till : Option ℕ) → end_of spans one ≡ Some till → one < made → IsOver till made
  to_new one till found order = elim (none one till found) [
    | inl over ↦ over
    | inr over ↦ absurd (omega (arith, order, made_before made returned one before over))
  ]

  new_apart : (one other : ℕ) (ends till : Option ℕ) → end_of added one ≡ Some ends → end_of added other ≡ Some till → one < other → IsOver ends other
  new_apart one other ends till first second order = elim (cases_order one made) [
    | inl here ↦
        let apart : other ≡ made → ⊥ = λ there. omega (arith, here, there, order) in
        subst (λ e. IsOver e other) (sym (its_end one ends here first)) (from_new other till (was other till apart second) (omega (arith, here, order)))
    | inr beside ↦
        let apart : one ≡ made → ⊥ = λ here. elim beside [ inl below ↦ omega (arith, here, below) | inr above ↦ omega (arith, here, above) ] in
        elim (cases_order other made) [
          | inl there ↦ subst (λ n. IsOver ends n) (sym there) (to_new one ends (was one ends apart first) (omega (arith, there, order)))
          | inr elsewhere ↦
              let away : other ≡ made → ⊥ = λ there. elim elsewhere [ inl below ↦ omega (arith, there, below) | inr above ↦ omega (arith, there, above) ] in
              turn.apart one other ends till (was one ends apart first) (was other till away second) order
        ]
  ]

  pub added_in_turn : AreInTurn added
  added_in_turn = record { ends = new_ends; apart = new_apart }

-- a span that begins behind the end is behind it
behind : (other : ℕ) (returned : Option ℕ) → (IsUpTo (Some other) returned → ⊥) → IsOver returned other
behind other None late = absurd (late tt)
behind other (Some returned) late = elim (cases_lt returned other) [ inl below ↦ below | inr above ↦ absurd (late above) ]

up_to_or_not : (other : ℕ) (returned : Option ℕ) → IsUpTo (Some other) returned ⊎ (IsUpTo (Some other) returned → ⊥)
up_to_or_not other None = inl tt
up_to_or_not other (Some returned) = elim (cases_lt returned other) [ inl below ↦ inr (λ up_to. omega (arith, below, up_to)) | inr above ↦ inl above ]

over_later : (till : Option ℕ) (one other : ℕ) → IsOver till one → one ≤ other → IsOver till other
over_later None one other over _ = over
over_later (Some till) one other over more = omega (arith, over, more)

not_over : (other : ℕ) (returned : Option ℕ) → IsUpTo (Some other) returned → IsOver returned other → ⊥
not_over other None up_to over = over
not_over other (Some returned) up_to over = omega (arith, up_to, over)

-- where none begins before its end, it meets none
pub none_begun : (spans : Spans) (made : ℕ) (returned : Option ℕ) → ((other : ℕ) → IsUpTo (Some other) returned → end_of spans other ≡ None) → MeetsNone spans made returned
none_begun spans made returned none other till found = elim (up_to_or_not other returned) [
  | inl up_to ↦ absurd (nothing_there till (sym found ∙ none other up_to))
  | inr late ↦ inr (behind other returned late)
]

module _ (spans : Spans) (made : ℕ) (returned : Option ℕ) (turn : AreInTurn spans) (last : ℕ) (till : Option ℕ) (found : end_of spans last ≡ Some till) (up_to : IsUpTo (Some last) returned)
    (greatest : (other : ℕ) (end : Option ℕ) → IsUpTo (Some other) returned → end_of spans other ≡ Some end → other ≤ last) where
  -- where the last one that begins before its end is over, it meets none
  pub last_is_over : IsOver till made → MeetsNone spans made returned
  last_is_over over other end there = elim (up_to_or_not other returned) [
    | inr late ↦ inr (behind other returned late)
    | inl begun ↦ elim (cases_lt other last) [
      | inl earlier ↦ inl (over_later end last made (turn.apart other last end till there found earlier) (omega (arith, made_before last till made (turn.ends last till found) over)))
      | inr here ↦ let other_is : other ≡ last = omega (arith, here, greatest other end begun there) in
          inl (subst (λ e. IsOver e made) (some_end till end (sym found ∙ ap (λ n. end_of spans n) (sym other_is) ∙ there)) over)
    ]
  ]

  -- else it meets that one
  pub last_is_met : MeetsNone spans made returned → IsOver till made
  last_is_met none = elim (none last till found) [ inl over ↦ over | inr over ↦ absurd (not_over last returned up_to over) ]
