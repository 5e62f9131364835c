-- Levels, one job after another.
use Rattle.std.proofs.Common.{◌≡◌, ℕ, ◌+◌, ◌<◌, ◌≤◌, List, [], ◌∷◌, ◌++◌, length, get_or, take, map, max, refl, sym, ap, ◌∙◌, arith, All, length-append}
use Rattle.std.proofs.lemmas.List.{take_more}
use Rattle.std.proofs.lemmas.List.Elements.{All-nil, All-cons, All-weaker, All-push}
use Rattle.std.proofs.lemmas.List.Recursion.{max_push}
use Rattle.dep_text.specs.declared.job.DepJob.{DepJob}
use Rattle.dep_text.specs.DepFile.{AreLeveled, most_dep_jobs}
use Rattle.dep_text.specs.Levels.{most_levels, greatest, arg_level, level_behind, levels_of}
use Rattle.dep_text.proofs.GrownLemmas.{grown_onto-append, length-grown}

-- one number more
pub greatest-more : {X : Type 0} (f : X → ℕ) (xs : List X) (i : ℕ) (d : X) → i < length xs → greatest (map f (take (i + 1) xs)) ≡ max (greatest (map f (take i xs))) (f (get_or xs i d))
greatest-more f xs i d within =
    ap (λ (front : List _). greatest (map f front)) (take_more xs i d within) ∙ max_push (λ (some : List _). greatest (map f some)) f refl (λ _ _. refl) (take i xs) (get_or xs i d)

-- each number is at most the greatest
pub below_greatest : {X : Type 0} (f : X → ℕ) (xs : List X) → All (λ x. f x ≤ greatest (map f xs)) xs
below_greatest f [] = All-nil (λ x. f x ≤ 0)
below_greatest f (x ∷ xs) =
    All-cons (λ y. f y ≤ max (f x) (greatest (map f xs))) x xs (omega arith)
    (All-weaker (λ y. f y ≤ greatest (map f xs)) (λ y. f y ≤ max (f x) (greatest (map f xs))) (λ y below. omega arith) xs (below_greatest f xs))

-- one job more
pub levels_of-push : (jobs : List DepJob) (job : DepJob) → levels_of (jobs ++ job ∷ []) ≡ levels_of jobs ++ level_behind (levels_of jobs) job.work ∷ []
levels_of-push jobs job = grown_onto-append (λ levels j. level_behind levels j.work) [] jobs (job ∷ [])

-- there is a level for each job
pub length-levels_of : (jobs : List DepJob) → length (levels_of jobs) ≡ length jobs
length-levels_of jobs = length-grown (λ levels j. level_behind levels j.work) jobs

-- one job more, with its level
pub AreLeveled-push : (jobs more : List DepJob) (levels higher : List ℕ) (job : DepJob) (level : ℕ) → AreLeveled jobs levels → length jobs < most_dep_jobs
    → level ≡ level_behind (levels_of jobs) job.work → level < most_levels → more ≡ jobs ++ job ∷ [] → higher ≡ levels ++ level ∷ [] → AreLeveled more higher
AreLeveled-push jobs more levels higher job level are room level_is low more_is higher_is =
    let levels_are = are.levels_are in
    let pushed : levels ++ level ∷ [] ≡ levels_of (jobs ++ job ∷ []) = rw (levels_are, level_is) (sym (levels_of-push jobs job)) in
    let longer = length-append jobs (job ∷ []) in
    rw (more_is, higher_is) (record {
      levels_are = pushed;
      few = omega arith;
      low = All-push (λ (l : ℕ). l < most_levels) levels level are.low low;
    })
