-- The last `made` of each caller tells whether its operations stand in order.
use Rattle.std.proofs.Common.{◌≡◌, ◌≢◌, ℕ, ◌+◌, ◌<◌, ◌≤◌, inl, inr, List, length, get_or, set, AllPairs, Option, None, Some, arith, ap, sym, ◌∙◌, subst, get_or-set_same, get_or-set_other}
use Rattle.std.proofs.lemmas.Bool.{cases_lt, cases_order}
use Rattle.trace_conditions.specs.declared.stamped.Stamped.{Stamped}
use Rattle.trace_conditions.specs.Stamps.{IsBehind}
use Rattle.trace_conditions.proofs.LatestMade.{same_op}

-- the greatest `made` of a caller's operations before place k, if it has one
abbrev pub IsLatestOf : List Stamped → ℕ → ℕ → Option ℕ → Type 0
IsLatestOf ops k caller None = (i : ℕ) (d : Stamped) → i < k → (get_or ops i d).caller ≡ caller → ⊥
IsLatestOf ops k caller (Some made) =
    ((i : ℕ) (d : Stamped) → i < k → (get_or ops i d).caller ≡ caller → (get_or ops i d).made ≤ made)
    × ((i : ℕ) × (i < k) × ((d : Stamped) → ((get_or ops i d).caller ≡ caller) × ((get_or ops i d).made ≡ made)))

-- these are they, of each caller
abbrev pub AreLatest : List Stamped → ℕ → List (Option ℕ) → Type 0
AreLatest ops k latest = (caller : ℕ) (d : Option ℕ) → caller < 17 → IsLatestOf ops k caller (get_or latest caller d)

-- what is behind the greatest is behind all
later : (ops : List Stamped) (k caller made : ℕ) (last : Option ℕ) → IsLatestOf ops k caller last → IsBehind made last
    → (i : ℕ) (d : Stamped) → i < k → (get_or ops i d).caller ≡ caller → (get_or ops i d).made < made
later ops k caller made None is _ i d before same = absurd (is i d before same)
later ops k caller made (Some last) is behind i d before same = omega (arith, is.0 i d before same, behind)

-- an operation of another caller changes nothing
others_stay : (ops : List Stamped) (k caller : ℕ) (last : Option ℕ) → ((d : Stamped) → (get_or ops k d).caller ≢ caller) → IsLatestOf ops k caller last → IsLatestOf ops (k + 1) caller last
others_stay ops k caller None other is = λ i d before same. elim (cases_lt i k) [
  | inl earlier ↦ is i d earlier same
  | inr here ↦ let i_is : i ≡ k = omega (arith, before, here) in other d (ap (λ n. (get_or ops n d).caller) (sym i_is) ∙ same)
]
others_stay ops k caller (Some last) other is = (
  λ i d before same. elim (cases_lt i k) [
    | inl earlier ↦ is.0 i d earlier same
    | inr here ↦ let i_is : i ≡ k = omega (arith, before, here) in absurd (other d (ap (λ n. (get_or ops n d).caller) (sym i_is) ∙ same))
  ],
  (is.1.0, omega (arith, is.1.1), is.1.2),
)

module _ (ops : List Stamped) (k : ℕ) (e : Stamped) (within : k < length ops) where
  at_k : (i : ℕ) (d : Stamped) → i < k + 1 → k ≤ i → get_or ops i d ≡ get_or ops k e
  at_k i d before here = let i_is : i ≡ k = omega (arith, before, here) in ap (λ n. get_or ops n d) i_is ∙ same_op ops k d e within

  -- its own becomes the greatest
  becomes_latest : (last : Option ℕ) → IsLatestOf ops k (get_or ops k e).caller last → IsBehind (get_or ops k e).made last → IsLatestOf ops (k + 1) (get_or ops k e).caller (Some (get_or ops k e).made)
  becomes_latest last is behind = (
    λ i d before same. elim (cases_lt i k) [
      | inl earlier ↦ omega (arith, later ops k (get_or ops k e).caller (get_or ops k e).made last is behind i d earlier same)
      | inr here ↦ omega (arith, ap (λ (o : Stamped). o.made) (at_k i d before here))
    ],
    (k, omega arith, λ d. (ap (λ (o : Stamped). o.caller) (same_op ops k d e within), ap (λ (o : Stamped). o.made) (same_op ops k d e within))),
  )

  -- one place further
  pub latest_further : (latest : List (Option ℕ)) (x : Option ℕ) → length latest ≡ 17 → (get_or ops k e).caller < 17 → AreLatest ops k latest → IsBehind (get_or ops k e).made (get_or latest (get_or ops k e).caller x)
      → AreLatest ops (k + 1) (set latest (get_or ops k e).caller (Some (get_or ops k e).made))
  latest_further latest x long in_range are behind caller d few = elim (cases_order caller (get_or ops k e).caller) [
    | inl same ↦
        let own = becomes_latest (get_or latest (get_or ops k e).caller x) (are (get_or ops k e).caller x in_range) behind in
        let read : get_or (set latest (get_or ops k e).caller (Some (get_or ops k e).made)) caller d ≡ Some (get_or ops k e).made =
        ap (λ n. get_or (set latest (get_or ops k e).caller (Some (get_or ops k e).made)) n d) same ∙ get_or-set_same latest (get_or ops k e).caller (Some (get_or ops k e).made) d (omega (arith, long, in_range)) in
        subst (λ o. IsLatestOf ops (k + 1) caller o) (sym read) (subst (λ n. IsLatestOf ops (k + 1) n (Some (get_or ops k e).made)) (sym same) own)
    | inr apart ↦
        let differ : caller ≢ (get_or ops k e).caller = λ same. elim apart [ inl below ↦ omega (arith, same, below) | inr above ↦ omega (arith, same, above) ] in
        let read : get_or (set latest (get_or ops k e).caller (Some (get_or ops k e).made)) caller d ≡ get_or latest caller d = get_or-set_other latest (get_or ops k e).caller caller (Some (get_or ops k e).made) d differ in
        subst (λ o. IsLatestOf ops (k + 1) caller o) (sym read) (others_stay ops k caller (get_or latest caller d) (λ f same. differ (sym same ∙ ap (λ (o : Stamped). o.caller) (same_op ops k f e within))) (are caller d few))
  ]

  -- and so those up to it are in order
  pub ordered_further : (last : Option ℕ) → IsLatestOf ops k (get_or ops k e).caller last → IsBehind (get_or ops k e).made last
      → ((i j : ℕ) (d : Stamped) → i < j → j < k → (get_or ops i d).caller ≡ (get_or ops j d).caller → (get_or ops i d).made < (get_or ops j d).made)
      → (i j : ℕ) (d : Stamped) → i < j → j < k + 1 → (get_or ops i d).caller ≡ (get_or ops j d).caller → (get_or ops i d).made < (get_or ops j d).made
  ordered_further last is behind ordered i j d order before same = elim (cases_lt j k) [
    | inl earlier ↦ ordered i j d order earlier same
    | inr here ↦
        let last_is = at_k j d before here in
        let own = later ops k (get_or ops k e).caller (get_or ops k e).made last is behind i d (omega (arith, order, before)) (same ∙ ap (λ (o : Stamped). o.caller) last_is) in
        omega (arith, own, ap (λ (o : Stamped). o.made) last_is)
  ]

  -- where they all are in order, it is behind its caller's greatest
  pub is_behind_latest : (last : Option ℕ) → IsLatestOf ops k (get_or ops k e).caller last → AllPairs (λ (one other : Stamped). one.caller ≡ other.caller → one.made < other.made) ops → IsBehind (get_or ops k e).made last
  is_behind_latest None is ordered = tt
  is_behind_latest (Some last) is ordered =
      omega (arith, ordered is.1.0 k e is.1.1 within (is.1.2 e).0, (is.1.2 e).1)
