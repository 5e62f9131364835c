-- From what each hand did on a lane: each job of the lane was enqueued once, and each unit stands together.
use Rattle.std.proofs.Common.{◌≡◌, ℕ, ◌+◌, ◌<◌, ◌%◌, ◌==◌, Bool, true, false, cond, List, [], ◌∷◌, ◌++◌, filter, refl, sym, ap, subst, ◌∙◌, arith, ne_eqb, eq-eqb, All, Contains, inl, inr}
use Rattle.std.specs.List.{flat_map, range_with_len, AllByRecursion}
use Rattle.std.specs.List.Sorted.{IsPermutation}
use Rattle.std.proofs.lemmas.Bool.{cases_eq}
use Rattle.std.proofs.lemmas.Nat.{mod_below}
use Rattle.std.proofs.lemmas.List.Elements.{All-from_recursion, recursion_from_All, All-filter, All-contains_itself, All-contains, All-weaker}
use Rattle.std.proofs.lemmas.List.Sorted.{IsPermutation-sym, IsPermutation-trans}
use Rattle.bq_model.specs.declared.op.Op.{Op}
use Rattle.bq_model.specs.declared.op.Op.TheVariants.{Enq, Deq, Shut}
use Rattle.bq_model.specs.declared.group.Group.{Group}
use Rattle.bq_model.specs.History.{operations}
use Rattle.bq_model.specs.Own.{mine}
use Rattle.job_text.specs.declared.file.Unit.{Unit as JobUnit}
use Rattle.bulk_dispatcher.specs.Books.{Numbered, units_on, jobs_on, StandTogether}
use Rattle.bulk_dispatcher.specs.Hands.{units_of, HandDid}
use Rattle.bulk_dispatcher.proofs.Parts.{part, IsPermutation-parts, AllByRecursion-parts, flat_map-agree_within, of_part}
use Rattle.bq_model.specs.Values.{enqueued}

pub enqueued-append : (xs ys : List Op) → enqueued (xs ++ ys) ≡ enqueued xs ++ enqueued ys
enqueued-append [] ys = refl
enqueued-append (Enq v ∷ xs) ys = ap (λ vs. v ∷ vs) (enqueued-append xs ys)
enqueued-append (Deq ∷ xs) ys = enqueued-append xs ys
enqueued-append (Shut ∷ xs) ys = enqueued-append xs ys

-- group by group
pub values_by_group : (h : List Group) → enqueued (operations h) ≡ flat_map (λ g. enqueued g.ops) h
values_by_group [] = refl
values_by_group (g ∷ h) = enqueued-append g.ops (operations h) ∙ ap (λ vs. enqueued g.ops ++ vs) (values_by_group h)

-- where main made no group, all are of hands
pub of_hands : (hands : ℕ) (h : List Group) → AllByRecursion (λ g. g.caller < hands + 1) h → mine h hands ≡ [] → AllByRecursion (λ g. g.caller < hands) h
of_hands hands [] known idle = tt
of_hands hands (g ∷ h) known idle =
    elim (cases_eq g.caller hands) [
      | inl same ↦
          let e : (g.caller == hands) ≡ true = eq-eqb g.caller hands same in
          let none : g ∷ mine h hands ≡ [] = subst (λ b. cond b (g ∷ mine h hands) (mine h hands) ≡ []) e idle in
          cc none
      | inr other ↦
          let e : (g.caller == hands) ≡ false = ne_eqb g.caller hands other in
          let below : g.caller < hands + 1 = known.0 in
          (omega (arith, other), of_hands hands h known.1 (subst (λ b. cond b (g ∷ mine h hands) (mine h hands) ≡ []) e idle))
    ]

-- what a unit's hand is
abbrev pub hand_of : ℕ → Numbered → ℕ
hand_of hands unit = unit.place % hands

pub all_dealt : (hands : ℕ) (units : List Numbered) → 0 < hands → AllByRecursion (λ unit. hand_of hands unit < hands) units
all_dealt hands [] pos = tt
all_dealt hands (unit ∷ units) pos = (mod_below unit.place hands pos, all_dealt hands units pos)

-- each hand's units, and what it enqueued, hand by hand
pub each_once : (file : List JobUnit) (hands lane batch : ℕ) (h : List Group) → 0 < hands → All (λ g. g.caller < hands + 1) h → mine h hands ≡ []
    → ((c : ℕ) → c < hands → HandDid (units_of file hands lane c) batch c h) → IsPermutation (jobs_on file lane) (enqueued (operations h))
each_once file hands lane batch h pos known idle did =
    let groups = IsPermutation-parts (λ (g : Group). g.caller) (λ (g : Group). enqueued g.ops) hands h (of_hands hands h (recursion_from_All _ h known) idle) in
    let units = IsPermutation-parts (hand_of hands) (λ (unit : Numbered). unit.numbers) hands (units_on file lane) (all_dealt hands (units_on file lane) pos) in
    let same : flat_map (λ k. flat_map (λ (unit : Numbered). unit.numbers) (part (hand_of hands) (units_on file lane) k)) (range_with_len 0 hands)
    ≡ flat_map (λ k. flat_map (λ (g : Group). enqueued g.ops) (part (λ (g : Group). g.caller) h k)) (range_with_len 0 hands) =
    flat_map-agree_within _ _ 0 hands (λ c _ l. sym ((did c (let m = l in omega arith)).put) ∙ values_by_group (mine h c)) in
    subst (λ vs. IsPermutation (jobs_on file lane) vs) (sym (values_by_group h))
    (IsPermutation-trans _ _ _ (subst (λ vs. IsPermutation (jobs_on file lane) vs) same (IsPermutation-sym _ _ units)) groups)

pub Contains-part : {X : Type 0} (p : X → Bool) (xs : List X) (x : X) → Contains (filter p xs) x → Contains xs x
Contains-part p xs x c = All-contains (Contains xs) (filter p xs) x (All-filter p (Contains xs) xs (All-contains_itself xs)) c

-- The group with a unit's enqueues is of the unit's hand.
pub stand_with_hand : (file : List JobUnit) (hands lane batch : ℕ) (h : List Group) → 0 < hands
    → ((c : ℕ) → c < hands → HandDid (units_of file hands lane c) batch c h) → All (λ unit. StandTogether (mine h (unit.place % hands)) unit.numbers) (units_on file lane)
stand_with_hand file hands lane batch h pos did =
    All-from_recursion _ _ (AllByRecursion-parts (hand_of hands) (λ unit. StandTogether (mine h (unit.place % hands)) unit.numbers) (λ k. k < hands) (units_on file lane) (all_dealt hands (units_on file lane) pos)
    (λ k l. of_part (hand_of hands) (λ unit. StandTogether (mine h k) unit.numbers) (λ unit. StandTogether (mine h (unit.place % hands)) unit.numbers) k
    (λ unit e s. subst (λ c. StandTogether (mine h c) unit.numbers) (sym e) s) (units_on file lane) (recursion_from_All _ _ (did k l).together)))

-- So it stands together in the whole history.
pub StandTogether-whole : (h : List Group) (c : ℕ) (numbers : List ℕ) → StandTogether (mine h c) numbers → StandTogether h numbers
StandTogether-whole h c numbers s = record {
  group = s.group;
  kept = Contains-part (λ g. g.caller == c) h s.group s.kept;
  before = s.before;
  after = s.after;
  together = s.together;
}

pub stand_together : (file : List JobUnit) (hands lane batch : ℕ) (h : List Group) → 0 < hands
    → ((c : ℕ) → c < hands → HandDid (units_of file hands lane c) batch c h) → All (λ unit. StandTogether h unit.numbers) (units_on file lane)
stand_together file hands lane batch h pos did =
    All-weaker _ _ (λ unit s. StandTogether-whole h (unit.place % hands) unit.numbers s) (units_on file lane) (stand_with_hand file hands lane batch h pos did)
