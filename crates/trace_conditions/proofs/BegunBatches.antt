-- The batches that have begun tell whether one goes on that had been left.
use Rattle.std.proofs.Common.{◌≡◌, ℕ, ◌+◌, ◌-◌, ◌<◌, ◌≤◌, ◌⊎◌, inl, inr, Bool, true, false, true≢false, cond, List, length, get_or, Option, None, Some, arith, ap, sym, ◌∙◌, refl, subst}
use Rattle.std.proofs.lemmas.Bool.{cases_lt}
use Rattle.std.proofs.lemmas.Cmp.{nat_cmp_total}
use Rattle.std.proofs.lemmas.Map.Lookups.{exact_pairs, exact_unsigned}
use Rattle.std.specs.Cmp.{Equal-is}
use Rattle.std.specs.Option.{IsSome}
use Rattle.std.specs.Ordering.{nat_cmp, ordering_then, ordering_reverse, is_eq}
use Rattle.std.specs.declared.cmp.Ordering.{Ordering}
use Rattle.std.specs.declared.cmp.Ordering.TheVariants.{Less, Equal, Greater}
use Rattle.std.specs.BTreeSet.{BTreeSet, contains}
use Rattle.trace_conditions.specs.declared.stamped.Stamped.{Stamped}
use Rattle.trace_conditions.specs.Conditions.{batch_of, AreOfOneBatch, IsWhole}
use Rattle.trace_conditions.proofs.LatestMade.{same_op}

-- the order of batches in a set
abbrev pub order : ℕ × ℕ → ℕ × ℕ → Ordering
order one other = ordering_then (nat_cmp one.0 other.0) (nat_cmp one.1 other.1)

-- an operation before place k is of this batch
abbrev pub HasBegun : List Stamped → ℕ → ℕ × ℕ → Type 0
HasBegun ops k batch = (i : ℕ) × (i < k) × ((d : Stamped) → batch_of (get_or ops i d) ≡ Some batch)

-- the set has the batches of the operations before place k
abbrev pub AreBegun : List Stamped → ℕ → BTreeSet (ℕ × ℕ) → Type 0
AreBegun ops k begun = (batch : ℕ × ℕ) → (contains order begun batch ≡ true → HasBegun ops k batch) × (HasBegun ops k batch → contains order begun batch ≡ true)

-- the batch of the operation right before place k, if there is one
abbrev pub IsLastBatch : List Stamped → ℕ → Option (ℕ × ℕ) → Type 0
IsLastBatch ops k last = ((i : ℕ) (d : Stamped) → i + 1 ≡ k → batch_of (get_or ops i d) ≡ last) × (k ≡ 0 → last ≡ None)

-- what stands between two operations of one batch is of it, before place k
abbrev pub IsWholeBefore : List Stamped → ℕ → Type 0
IsWholeBefore ops n = (i k j : ℕ) (d : Stamped) → i < k → k < j → j < n → AreOfOneBatch (get_or ops i d) (get_or ops j d) → AreOfOneBatch (get_or ops i d) (get_or ops k d)

its_own_reverse : (o : Ordering) → o ≡ ordering_reverse o → o ≡ Equal
its_own_reverse Less e = absurd (true≢false (ap (λ (o : Ordering). is_less o) e))
  where
    is_less : Ordering → Bool
    is_less Less = true
    is_less Equal = false
    is_less Greater = false
its_own_reverse Equal e = refl
its_own_reverse Greater e = absurd (true≢false (ap (λ (o : Ordering). is_greater o) e))
  where
    is_greater : Ordering → Bool
    is_greater Less = false
    is_greater Equal = false
    is_greater Greater = true

nat_same : (n : ℕ) → nat_cmp n n ≡ Equal
nat_same n = its_own_reverse (nat_cmp n n) (nat_cmp_total.antisymm n n)

order_same : (batch : ℕ × ℕ) → order batch batch ≡ Equal
order_same batch = ap (λ o. ordering_then o (nat_cmp batch.1 batch.1)) (nat_same batch.0) ∙ nat_same batch.1

-- a batch is found at itself alone
found_is : (one other : ℕ × ℕ) → is_eq (order one other) ≡ true → one ≡ other
found_is one other found = exact_pairs nat_cmp nat_cmp exact_unsigned exact_unsigned one other ((Equal-is (order one other)).0 found)

is_found : (one other : ℕ × ℕ) → one ≡ other → is_eq (order one other) ≡ true
is_found one other same = (Equal-is (order one other)).1 (ap (λ b. order one b) (sym same) ∙ order_same one)

pub some_is : (one other : ℕ × ℕ) → Some one ≡ Some other → one ≡ other
some_is one other same = ap (λ (b : Option (ℕ × ℕ)). from b) same
  where
    from : Option (ℕ × ℕ) → ℕ × ℕ
    from None = one
    from (Some b) = b

pub some_is_none : (one : ℕ × ℕ) → Some one ≡ None → ⊥
some_is_none one same = true≢false (ap (λ (b : Option (ℕ × ℕ)). is_there b) same)
  where
    is_there : Option (ℕ × ℕ) → Bool
    is_there None = false
    is_there (Some b) = true

module _ (ops : List Stamped) (k : ℕ) (e : Stamped) (within : k < length ops) where
  batch_at : (i : ℕ) (d : Stamped) → i < k + 1 → k ≤ i → batch_of (get_or ops i d) ≡ batch_of (get_or ops k e)
  batch_at i d before here = let i_is : i ≡ k = omega (arith, before, here) in ap (λ n. batch_of (get_or ops n d)) i_is ∙ ap (λ o. batch_of o) (same_op ops k d e within)

  -- what had begun has begun
  still_begun : (batch : ℕ × ℕ) → HasBegun ops k batch → HasBegun ops (k + 1) batch
  still_begun batch begun = (begun.0, omega (arith, begun.1), begun.2)

  -- it is the last now
  pub last_further : (last : Option (ℕ × ℕ)) → batch_of (get_or ops k e) ≡ last → IsLastBatch ops (k + 1) last
  last_further last is = (λ i d next. batch_at i d (omega (arith, next)) (omega (arith, next)) ∙ is, λ none. absurd (omega (arith, none)))

  -- a batch that begins there
  pub begun_with : (batch : ℕ × ℕ) (begun now : BTreeSet (ℕ × ℕ)) → batch_of (get_or ops k e) ≡ Some batch → AreBegun ops k begun
      → ((other : ℕ × ℕ) → contains order now other ≡ cond (is_eq (order batch other)) true (contains order begun other)) → AreBegun ops (k + 1) now
  begun_with batch begun now is are updated other = go (is_eq (order batch other)) refl
    where
      go : (found : Bool) → is_eq (order batch other) ≡ found → (contains order now other ≡ true → HasBegun ops (k + 1) other) × (HasBegun ops (k + 1) other → contains order now other ≡ true)
      go true found = (
        λ _. (k, omega arith, λ d. ap (λ o. batch_of o) (same_op ops k d e within) ∙ is ∙ ap (λ b. Some b) (found_is batch other found)),
        λ _. updated other ∙ ap (λ b. cond b true (contains order begun other)) found,
      )
      go false found = let read : contains order now other ≡ contains order begun other = updated other ∙ ap (λ b. cond b true (contains order begun other)) found in (
        λ has. still_begun other ((are other).0 (sym read ∙ has)),
        λ had. elim (cases_lt had.0 k) [
          | inl earlier ↦ read ∙ (are other).1 (had.0, earlier, had.2)
          | inr here ↦ absurd (true≢false (sym (is_found batch other (some_is batch other (sym is ∙ sym (batch_at had.0 e had.1 here) ∙ had.2 e))) ∙ found))
        ],
      )

  -- an operation that isn't evaluated begins none
  pub begun_without : (begun : BTreeSet (ℕ × ℕ)) → batch_of (get_or ops k e) ≡ None → AreBegun ops k begun → AreBegun ops (k + 1) begun
  begun_without begun none are other = (
    λ has. still_begun other ((are other).0 has),
    λ had. elim (cases_lt had.0 k) [
      | inl earlier ↦ (are other).1 (had.0, earlier, had.2)
      | inr here ↦ absurd (some_is_none other (sym (had.2 e) ∙ batch_at had.0 e had.1 here ∙ none))
    ],
  )

  module _ (last : Option (ℕ × ℕ)) (is_last : IsLastBatch ops k last) where
    -- nor does one that goes on the last
    pub begun_on : (begun : BTreeSet (ℕ × ℕ)) → batch_of (get_or ops k e) ≡ last → AreBegun ops k begun → AreBegun ops (k + 1) begun
    begun_on begun on are other = (
      λ has. still_begun other ((are other).0 has),
      λ had. elim (cases_lt had.0 k) [
        | inl earlier ↦ (are other).1 (had.0, earlier, had.2)
        | inr here ↦ before_it (had.2 e) (batch_at had.0 e had.1 here) (cases_lt 0 k)
      ],
    )
      where
        before_it : {x : Option (ℕ × ℕ)} → x ≡ Some other → x ≡ batch_of (get_or ops k e) → (0 < k) ⊎ (k ≤ 0) → contains order begun other ≡ true
        before_it is at (inl some) = (are other).1 (k - 1, omega (arith, some), λ d. is_last.0 (k - 1) d (omega (arith, some)) ∙ sym on ∙ sym at ∙ is)
        before_it is at (inr none) = absurd (some_is_none other (sym is ∙ at ∙ on ∙ is_last.1 (omega (arith, none))))

    -- one that goes on the last leaves all whole
    pub whole_on : batch_of (get_or ops k e) ≡ last → IsWholeBefore ops k → IsWholeBefore ops (k + 1)
    whole_on on whole i m j d first second third same = elim (cases_lt j k) [
      | inl earlier ↦ whole i m j d first second earlier same
      | inr here ↦
          let as_last : batch_of (get_or ops i d) ≡ last = same.1 ∙ batch_at j d third here ∙ on in
          let before : batch_of (get_or ops (k - 1) d) ≡ last = is_last.0 (k - 1) d (omega (arith, first, second, third, here)) in
          elim (cases_lt m (k - 1)) [
            | inl farther ↦ whole i m (k - 1) d first farther (omega (arith, farther)) (same.0, as_last ∙ sym before)
            | inr next ↦ (same.0, as_last ∙ sym (is_last.0 m d (omega (arith, next, first, second, third, here))))
          ]
    ]

    -- one that goes on an earlier one doesn't
    pub not_whole : (batch : ℕ × ℕ) → batch_of (get_or ops k e) ≡ Some batch → (batch_of (get_or ops k e) ≡ last → ⊥) → HasBegun ops k batch → IsWhole ops → ⊥
    not_whole batch is other begun whole = elim (cases_lt begun.0 (k - 1)) [
      | inl farther ↦
          let kept = whole begun.0 (k - 1) k e farther (omega (arith, begun.1)) within (subst IsSome (sym (begun.2 e)) refl, begun.2 e ∙ sym is) in
          other (is ∙ sym (begun.2 e) ∙ kept.1 ∙ is_last.0 (k - 1) e (omega (arith, begun.1)))
      | inr next ↦ other (is ∙ sym (begun.2 e) ∙ is_last.0 begun.0 e (omega (arith, next, begun.1)))
    ]

  -- one of a batch that begins, or of none, leaves all whole
  pub whole_beside : IsWholeBefore ops k → ((batch : ℕ × ℕ) → batch_of (get_or ops k e) ≡ Some batch → HasBegun ops k batch → ⊥) → IsWholeBefore ops (k + 1)
  whole_beside whole new i m j d first second third same = elim (cases_lt j k) [
    | inl earlier ↦ whole i m j d first second earlier same
    | inr here ↦ go here (batch_of (get_or ops i d)) refl
  ]
    where
      go : k ≤ j → (found : Option (ℕ × ℕ)) → batch_of (get_or ops i d) ≡ found → AreOfOneBatch (get_or ops i d) (get_or ops m d)
      go here None none = absurd (true≢false (sym (subst IsSome none same.0)))
      go here (Some batch) is = absurd (new batch (sym (batch_at j d third here) ∙ sym same.1 ∙ is) (i, omega (arith, first, second, third), λ f. ap (λ o. batch_of o) (same_op ops i f d (omega (arith, first, second, third, within))) ∙ is))
