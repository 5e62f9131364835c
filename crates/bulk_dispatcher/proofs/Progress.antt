-- What a step on one lane does to what is told of all of them.
use Rattle.std.proofs.Common.{◌≡◌, ◌≢◌, ℕ, zero, suc, ◌+◌, ◌*◌, ◌<◌, ◌≤◌, ◌==◌, ◌%◌, Bool, true, false, cond, List, [], ◌∷◌, ◌++◌, length, length-append, map, filter, take, get_or, All, Contains, refl, sym, ap, subst, ◌∙◌, arith, ne_eqb, eq-eqb, inl, inr}
use Rattle.std.specs.List.{AllZip, AllByRecursion, range_with_len}
use Rattle.std.proofs.lemmas.List.{append-nil, get_or-set_other}
use Rattle.std.proofs.lemmas.Grind.{get_or-set_at}
use Rattle.std.proofs.lemmas.Bool.{cases_eq}
use Rattle.std.proofs.lemmas.List.Elements.{All-nil, All-head, All-tail, filter-append, All-append, All-from_recursion, Contains-get_or}
use Rattle.bq_model.specs.declared.group.Group.{Group}
use Rattle.job_text.specs.declared.file.Unit.{Unit as JobUnit}
use Rattle.job_text.specs.JobFile.{job_count}
use Rattle.bulk_dispatcher.specs.declared.reply.Reply.{Reply}
use Rattle.bulk_dispatcher.specs.Books.{Numbered, Climbs}
use Rattle.bulk_dispatcher.specs.Hands.{units_of, caught, replies_on, HandPut, HandDid, EndedEmpty, HasReplied, PutsUnit, EndsLane, OnOneLane, Answered}
use Rattle.bulk_dispatcher.specs.Hands.{found_nothing_by}
use Rattle.bulk_dispatcher.specs.Stops.{HandTried, MetSpent, HandStopped, NearlySpent}
use Rattle.bulk_dispatcher.proofs.Units.{numbered_at, units_of-push}
use Rattle.bulk_dispatcher.proofs.Updates.{zip_update, differ, of_lane, of_other, all_on_lane}
use Rattle.bulk_dispatcher.proofs.Zips.{zip_at, zip_weaker, zip_length}

abbrev pub HasPut : List JobUnit → ℕ → ℕ → ℕ → List Group → Type 0
HasPut units hands c n h = HandTried (units_of units hands n c) c h

units_same : (before : List JobUnit) (unit : JobUnit) (hands n c : ℕ) → (cond (unit.lane == n) (cond (length before % hands == c) (numbered_at before unit ∷ []) []) [] ≡ []) → units_of (before ++ unit ∷ []) hands n c ≡ units_of before hands n c
units_same before unit hands n c e = units_of-push before unit hands n c ∙ ap (λ us. units_of before hands n c ++ us) e ∙ append-nil (units_of before hands n c)

abbrev no_unit : List Numbered
no_unit = []

none_either : (b : Bool) → cond b no_unit no_unit ≡ no_unit
none_either true = refl
none_either false = refl

-- a unit of another hand
pub other_put : (before : List JobUnit) (unit : JobUnit) (hands c : ℕ) (lanes : List ℕ) (seen : List (List Group)) → length before % hands ≢ c → AllZip (HasPut before hands c) lanes seen → AllZip (HasPut (before ++ unit ∷ []) hands c) lanes seen
other_put before unit hands c lanes seen other h =
    let off : (length before % hands == c) ≡ false = ne_eqb (length before % hands) c other in
    zip_weaker (HasPut before hands c) (HasPut (before ++ unit ∷ []) hands c)
    (λ n x put. subst (λ us. HandTried us c x) (sym (units_same before unit hands n c (ap (λ b. cond (unit.lane == n) (cond b (numbered_at before unit ∷ []) []) []) off ∙ none_either (unit.lane == n)))) put) lanes seen h

-- one unit more, and few dequeues more that found nothing
tried_more : (units : List Numbered) (unit : Numbered) (first count c : ℕ) (old new : List Group) → unit.numbers ≡ range_with_len first count → PutsUnit first count c old new → HandTried units c old → HandTried (units ++ unit ∷ []) c new
tried_more units unit first count c old new is puts tried = record {
  put = puts.put units unit is tried.put;
  few = let more = puts.few in let less = tried.few in let many = length-append units (unit ∷ []) in omega (arith, more, less, many);
}

-- a unit of this hand
pub own_put : (before : List JobUnit) (unit : JobUnit) (hands c first count : ℕ) (lanes : List ℕ) (seen news : List (List Group)) (A : List Group → List Group → Type 0) → Climbs lanes → length before % hands ≡ c → first ≡ job_count before → count ≡ length unit.jobs
    → OnOneLane (λ old new. PutsUnit first count c old new × A old new) lanes unit.lane seen news → AllZip (HasPut before hands c) lanes seen → AllZip (HasPut (before ++ unit ∷ []) hands c) lanes news
own_put before unit hands c first count lanes seen news A climb own begin many step h =
    let on : (length before % hands == c) ≡ true = eq-eqb (length before % hands) c own in
    let number : Numbered = numbered_at before unit in
    let here : unit.lane ≡ get_or lanes step.place 0 = sym step.found in
    let more : units_of (before ++ unit ∷ []) hands (get_or lanes step.place 0) c ≡ units_of before hands (get_or lanes step.place 0) c ++ number ∷ [] =
    units_of-push before unit hands (get_or lanes step.place 0) c
    ∙ ap (λ b. units_of before hands (get_or lanes step.place 0) c ++ cond b (cond (length before % hands == c) (number ∷ []) []) []) (eq-eqb unit.lane (get_or lanes step.place 0) here)
    ∙ ap (λ b. units_of before hands (get_or lanes step.place 0) c ++ cond b (number ∷ []) []) on in
    subst (AllZip (HasPut (before ++ unit ∷ []) hands c) lanes) (sym step.changed)
    (zip_update (HasPut before hands c) (HasPut (before ++ unit ∷ []) hands c) lanes seen step.place 0 step.seen step.within
    (λ j x l apart put.
    let off : (unit.lane == get_or lanes j 0) ≡ false = ne_eqb unit.lane (get_or lanes j 0) (λ e. differ lanes j step.place 0 climb l step.within apart (step.found ∙ e)) in
    subst (λ us. HandTried us c x) (sym (units_same before unit hands (get_or lanes j 0) c (ap (λ b. cond b (cond (length before % hands == c) (number ∷ []) []) []) off))) put)
    (subst (λ us. HandTried us c step.seen) (sym more) (put_once (units_of before hands (get_or lanes step.place 0) c) number (λ i. range_with_len (sym begin i) (sym many i)) (zip_at (HasPut before hands c) lanes seen step.place 0 [] h step.within))) h)
  where
    put_once : (units : List Numbered) (number : Numbered) → number.numbers ≡ range_with_len first count → HandTried units c (get_or seen step.place []) → HandTried (units ++ number ∷ []) c step.seen
    put_once units number is tried = tried_more units number first count c (get_or seen step.place []) step.seen is step.holds.0 tried

pub one_place : (lanes : List ℕ) (j k : ℕ) → Climbs lanes → j < length lanes → k < length lanes → get_or lanes j 0 ≡ get_or lanes k 0 → j ≡ k
one_place lanes j k climb l m e = elim (cases_eq j k) [ inl same ↦ same | inr apart ↦ absurd (differ lanes j k 0 climb l m apart (sym e)) ]

-- a lane is drained
pub drained_next : (lanes : List ℕ) (seen news : List (List Group)) (batch c k : ℕ) (units : ℕ → List Numbered) (A : List Group → List Group → Type 0) → Climbs lanes → k < length lanes
    → OnOneLane (λ old new. EndsLane batch c old new × A old new) lanes (get_or lanes k 0) seen news → AllZip (λ n x. HandPut (units n) c x) lanes seen → ((j : ℕ) → j < k → EndedEmpty batch c (get_or seen j []))
    → (most : ℕ) → ((j : ℕ) → k ≤ j → found_nothing_by (get_or seen j []) c ≤ most)
    → AllZip (λ n x. HandPut (units n) c x) lanes news × ((j : ℕ) → j < k + 1 → EndedEmpty batch c (get_or news j [])) × ((j : ℕ) → k + 1 ≤ j → found_nothing_by (get_or news j []) c ≤ most)
drained_next lanes seen news batch c k units A climb l step h ended most fresh =
    let place : step.place ≡ k = one_place lanes step.place k climb step.within l step.found in
    let did : HandDid (units (get_or lanes step.place 0)) batch c step.seen = step.holds.0.did (units (get_or lanes step.place 0)) (zip_at (λ n x. HandPut (units n) c x) lanes seen step.place 0 [] h step.within) in
    let put : HandPut (units (get_or lanes step.place 0)) c step.seen = record { put = did.put; together = did.together } in
    let many = zip_length (λ n x. HandPut (units n) c x) lanes seen h in (
      subst (AllZip (λ n x. HandPut (units n) c x) lanes) (sym step.changed) (zip_update (λ n x. HandPut (units n) c x) (λ n x. HandPut (units n) c x) lanes seen step.place 0 step.seen step.within (λ j x m apart p. p) put h),
      λ j m. elim (cases_eq j step.place) [
        | inl same ↦ subst (EndedEmpty batch c) (sym (ap (λ hs. get_or hs j []) step.changed ∙ get_or-set_at seen step.place j step.seen [] same (let w = step.within in omega (arith, w, many)))) did.ended
        | inr apart ↦ subst (EndedEmpty batch c) (sym (ap (λ hs. get_or hs j []) step.changed ∙ get_or-set_other seen step.place j step.seen [] apart)) (ended j (let w = apart in let e = place in grind arith))
      ],
      λ j m. subst (λ x. found_nothing_by x c ≤ most) (sym (ap (λ hs. get_or hs j []) step.changed ∙ get_or-set_other seen step.place j step.seen [] (λ e. absurd (omega (arith, e, place, m))))) (fresh j (omega (arith, m))),
    )

-- where every lane is drained, the hand is done
pub all_drained : (lanes : List ℕ) (seen : List (List Group)) (batch c n : ℕ) (units : ℕ → List Numbered) → length seen ≤ n → AllZip (λ m x. HandPut (units m) c x) lanes seen → ((j : ℕ) → j < n → EndedEmpty batch c (get_or seen j [])) → AllZip (λ m x. HandDid (units m) batch c x) lanes seen
all_drained [] [] batch c n units l h ended = tt
all_drained [] (x ∷ seen) batch c n units l h ended = absurd h
all_drained (m ∷ lanes) [] batch c n units l h ended = absurd h
all_drained (m ∷ lanes) (x ∷ seen) batch c n units l h ended = (
  record { put = h.0.put; together = h.0.together; ended = ended 0 (omega (arith, l)) },
  all_drained lanes seen batch c (length seen) units (omega arith) h.1 (λ j k. ended (suc j) (omega (arith, l, k))),
)

later_part : (P : Reply → Type 0) (xs ys : List Reply) → AllByRecursion P (xs ++ ys) → AllByRecursion P ys
later_part P [] ys h = h
later_part P (x ∷ xs) ys h = later_part P xs ys h.1

-- replies on one lane
pub answered_next : (file : List JobUnit) (lanes : List ℕ) (lane c : ℕ) (seen news : List (List Group)) (before after : List Reply) (A : List Group → List Group → Type 0) → Climbs lanes
    → OnOneLane (λ old new. A old new × Answered file lane c old new before after) lanes lane seen news → HasReplied file lanes c seen before → HasReplied file lanes c news after
answered_next file lanes lane c seen news before after A climb step h =
    let answered = step.holds.1 in
    let more = answered.more in
    let on_lane : AllByRecursion (λ (r : Reply). r.lane ≡ lane) more =
    later_part (λ r. r.lane ≡ lane) (replies_on file lane c (get_or seen step.place [])) more (subst (AllByRecursion (λ (r : Reply). r.lane ≡ lane)) answered.caught (all_on_lane file lane c (caught step.seen c))) in
    record {
      replied = subst (λ rs. AllZip (λ n x. filter (λ (r : Reply). r.lane == n) rs ≡ replies_on file n c x) lanes news) (sym answered.replied)
          (subst (AllZip (λ n x. filter (λ (r : Reply). r.lane == n) (before ++ more) ≡ replies_on file n c x) lanes) (sym step.changed)
          (zip_update (λ n x. filter (λ (r : Reply). r.lane == n) before ≡ replies_on file n c x) (λ n x. filter (λ (r : Reply). r.lane == n) (before ++ more) ≡ replies_on file n c x) lanes seen step.place 0 step.seen step.within
          (λ j x l apart e.
          filter-append (λ (r : Reply). r.lane == get_or lanes j 0) before more
          ∙ ap (λ rs. filter (λ (r : Reply). r.lane == get_or lanes j 0) before ++ rs) (of_other lane (get_or lanes j 0) more (λ same. differ lanes j step.place 0 climb l step.within apart (step.found ∙ same)) on_lane)
          ∙ append-nil (filter (λ (r : Reply). r.lane == get_or lanes j 0) before) ∙ e)
          (subst (λ n. filter (λ (r : Reply). r.lane == n) (before ++ more) ≡ replies_on file n c step.seen) (sym step.found)
          (filter-append (λ (r : Reply). r.lane == lane) before more
          ∙ ap (λ rs. filter (λ (r : Reply). r.lane == lane) before ++ rs) (of_lane lane more on_lane)
          ∙ ap (λ rs. rs ++ more) (subst (λ n. filter (λ (r : Reply). r.lane == n) before ≡ replies_on file n c (get_or seen step.place [])) step.found
          (zip_at (λ n x. filter (λ (r : Reply). r.lane == n) before ≡ replies_on file n c x) lanes seen step.place 0 [] h.replied step.within))
          ∙ sym answered.caught))
          h.replied));
      on_lanes = subst (All (λ (r : Reply). Contains lanes r.lane)) (sym answered.replied)
          (All-append (λ (r : Reply). Contains lanes r.lane) before more h.on_lanes
          (All-from_recursion (λ (r : Reply). Contains lanes r.lane) more (weaker (λ r. r.lane ≡ lane) (λ r. Contains lanes r.lane) (λ r e. subst (Contains lanes) (step.found ∙ sym e) (Contains-get_or lanes step.place 0 step.within)) more on_lane)));
    }
  where
    weaker : (P Q : Reply → Type 0) → ((r : Reply) → P r → Q r) → (xs : List Reply) → AllByRecursion P xs → AllByRecursion Q xs
    weaker P Q f [] h = tt
    weaker P Q f (x ∷ xs) h = (f x h.0, weaker P Q f xs h.1)

-- a hand that has seen nothing
pub start_put : {S : Type 0} (R : ℕ → S → Type 0) (f : S → List Group) (c : ℕ) (lanes : List ℕ) (xs : List S) → AllZip R lanes xs → All (λ s. f s ≡ []) xs → AllZip (λ n x. HandTried [] c x) lanes (map f xs)
start_put R f c [] [] h none = tt
start_put R f c [] (x ∷ xs) h none = absurd h
start_put R f c (n ∷ lanes) [] h none = absurd h
start_put R f c (n ∷ lanes) (x ∷ xs) h none =
    let empty : List Group = [] in
    (subst (HandTried [] c) (sym (All-head (λ s. f s ≡ []) x xs none)) (record { put = record { put = refl; together = All-nil _ }; few = omega arith }), start_put R f c lanes xs h.1 (All-tail (λ s. f s ≡ []) x xs none))

start_caught : {S : Type 0} (R : ℕ → S → Type 0) (f : S → List Group) (file : List JobUnit) (c : ℕ) (lanes : List ℕ) (xs : List S) → AllZip R lanes xs → All (λ s. f s ≡ []) xs → AllZip (λ n x. [] ≡ replies_on file n c x) lanes (map f xs)
start_caught R f file c [] [] h none = tt
start_caught R f file c [] (x ∷ xs) h none = absurd h
start_caught R f file c (n ∷ lanes) [] h none = absurd h
start_caught R f file c (n ∷ lanes) (x ∷ xs) h none =
    (ap (replies_on file n c) (sym (All-head (λ s. f s ≡ []) x xs none)), start_caught R f file c lanes xs h.1 (All-tail (λ s. f s ≡ []) x xs none))

pub start_replied : {S : Type 0} (R : ℕ → S → Type 0) (f : S → List Group) (file : List JobUnit) (c : ℕ) (lanes : List ℕ) (xs : List S) (replies : List Reply) → replies ≡ [] → AllZip R lanes xs → All (λ s. f s ≡ []) xs → HasReplied file lanes c (map f xs) replies
start_replied R f file c lanes xs replies e h none = subst (HasReplied file lanes c (map f xs)) (sym e) (record { replied = start_caught R f file c lanes xs h none; on_lanes = All-nil _ })

-- The lanes of a hand that has put its units, as far as it is before it takes what is left.
pub put_of_tried : (lanes : List ℕ) (seen : List (List Group)) (c : ℕ) (units : ℕ → List Numbered) → AllZip (λ n x. HandTried (units n) c x) lanes seen → AllZip (λ n x. HandPut (units n) c x) lanes seen
put_of_tried lanes seen c units h = zip_weaker (λ n x. HandTried (units n) c x) (λ n x. HandPut (units n) c x) (λ n x t. t.put) lanes seen h

pub few_of_tried : (lanes : List ℕ) (seen : List (List Group)) (c most : ℕ) (units : ℕ → List Numbered) → ((n : ℕ) → length (units n) ≤ most) → AllZip (λ n x. HandTried (units n) c x) lanes seen → (j : ℕ) → found_nothing_by (get_or seen j []) c ≤ 256 * most
few_of_tried [] [] c most units short h j = omega arith
few_of_tried [] (x ∷ seen) c most units short h j = absurd h
few_of_tried (n ∷ lanes) [] c most units short h j = absurd h
few_of_tried (n ∷ lanes) (x ∷ seen) c most units short h zero = let few = h.0.few in let less = short n in omega (arith, few, less)
few_of_tried (n ∷ lanes) (x ∷ seen) c most units short h (suc j) = few_of_tried lanes seen c most units short h.1 j

-- A hand stopped on one lane.
pub stopped_at : (file : List JobUnit) (lanes : List ℕ) (lane hands c place : ℕ) (seen news : List (List Group)) (A : List Group → List Group → Type 0) → (step : OnOneLane (λ old new. MetSpent c old new × A old new) lanes lane seen news)
    → AllZip (λ n x. HandPut (units_of (take place file) hands n c) c x) lanes seen → found_nothing_by (get_or seen step.place []) c ≤ 256 * length file → HandStopped lanes file hands c news
stopped_at file lanes lane hands c place seen news A step h few =
    let many = zip_length (λ n x. HandPut (units_of (take place file) hands n c) c x) lanes seen h in
    let met = step.holds.0 in
    let here : get_or news step.place [] ≡ step.seen = ap (λ hs. get_or hs step.place []) step.changed ∙ get_or-set_at seen step.place step.place step.seen [] refl (let w = step.within in omega (arith, w, many)) in
    record {
      place = place;
      put = subst (AllZip (λ n x. HandPut (units_of (take place file) hands n c) c x) lanes) (sym step.changed)
          (zip_update (λ n x. HandPut (units_of (take place file) hands n c) c x) (λ n x. HandPut (units_of (take place file) hands n c) c x) lanes seen step.place 0 step.seen step.within (λ j x m apart p. p)
          (met.put (units_of (take place file) hands (get_or lanes step.place 0) c) (zip_at (λ n x. HandPut (units_of (take place file) hands n c) c x) lanes seen step.place 0 [] h step.within)) h);
      at = step.place;
      within = step.within;
      few = subst (λ x. found_nothing_by x c ≤ 256 * length file + 256) (sym here) (let more = met.few in omega (arith, more, few));
      spent = subst (NearlySpent c) (sym here) met.spent;
    }
