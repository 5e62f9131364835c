-- The numbers of a file's jobs, unit by unit.
use Rattle.std.proofs.Common.{◌≡◌, ℕ, zero, suc, ◌+◌, ◌≤◌, ◌==◌, Some, None, List, [], ◌∷◌, ◌++◌, length, map, refl, sym, ap, subst, ◌∙◌, arith, add-zero, length-append, append_assoc}
use Rattle.std.specs.List.{flat_map, range_with_len, slice_get, AllByRecursion}
use Rattle.std.proofs.lemmas.List.Sums.{sum_by-cons}
use Rattle.job_work.specs.declared.job.Job.{Job}
use Rattle.job_text.specs.declared.file.Unit.{Unit as JobUnit}
use Rattle.job_text.proofs.JobFileLemmas.{length-lane_jobs}
use Rattle.job_text.specs.JobFile.{job_count, job_at, lane_jobs}
use Rattle.std.proofs.lemmas.List.{length-map}
use Rattle.bulk_dispatcher.specs.Books.{Numbered, numbered_from, units_on, jobs_on}
use Rattle.bulk_dispatcher.proofs.Parts.{of_part, AllByRecursion-filter}

-- so many numbers from a on, and so many more
pub range-append : (a m n : ℕ) → range_with_len a m ++ range_with_len (a + m) n ≡ range_with_len a (m + n)
range-append a zero n = ap (λ k. range_with_len k n) (add-zero a) ∙ ap (range_with_len a) (omega arith)
range-append a (suc m) n =
    let shifted : a + suc m ≡ a + 1 + m = omega arith in
    let counted : suc (m + n) ≡ suc m + n = omega arith in
    ap (λ ks. a ∷ ks) (ap (λ k. range_with_len (a + 1) m ++ range_with_len k n) shifted ∙ range-append (a + 1) m n) ∙ ap (range_with_len a) counted

-- All units together have each number once, by rising number.
pub numbers_in_order : (u n : ℕ) (file : List JobUnit) → flat_map (λ (unit : Numbered). unit.numbers) (numbered_from u n file) ≡ range_with_len n (job_count file)
numbers_in_order u n [] = refl
numbers_in_order u n (unit ∷ units) =
    ap (λ ks. range_with_len n (length unit.jobs) ++ ks) (numbers_in_order (u + 1) (n + length unit.jobs) units)
    ∙ range-append n (length unit.jobs) (job_count units)
    ∙ ap (range_with_len n) (sym (sum_by-cons (λ (x : JobUnit). length x.jobs) unit units))

-- a number of a lane's job
abbrev pub IsJobOn : List (ℕ × Job) → ℕ → ℕ → Type 0
IsJobOn all lane v = (job : Job) × (slice_get all v ≡ Some (lane, job))

pub at_end : {X : Type 0} (xs ys : List X) (x : X) → slice_get (xs ++ x ∷ ys) (length xs) ≡ Some x
at_end [] ys x = refl
at_end (z ∷ xs) ys x = at_end xs ys x

jobs_of_unit : (before : List (ℕ × Job)) (lane n : ℕ) (jobs : List Job) (rest : List (ℕ × Job)) → length before ≡ n
    → AllByRecursion (IsJobOn (before ++ (map (λ job. (lane, job)) jobs ++ rest)) lane) (range_with_len n (length jobs))
jobs_of_unit before lane n [] rest e = tt
jobs_of_unit before lane n (job ∷ jobs) rest e =
    let more : List (ℕ × Job) = map (λ j. (lane, j)) jobs ++ rest in (
      (job, ap (slice_get (before ++ (lane, job) ∷ more)) (sym e) ∙ at_end before more (lane, job)),
      subst (λ all. AllByRecursion (IsJobOn all lane) (range_with_len (n + 1) (length jobs))) (append_assoc before ((lane, job) ∷ []) more)
          (jobs_of_unit (before ++ (lane, job) ∷ []) lane (n + 1) jobs rest (length-append before ((lane, job) ∷ []) ∙ ap (λ k. k + 1) e)),
    )

units_have_jobs : (before : List (ℕ × Job)) (u n : ℕ) (file : List JobUnit) → length before ≡ n
    → AllByRecursion (λ (unit : Numbered). AllByRecursion (IsJobOn (before ++ lane_jobs file) unit.lane) unit.numbers) (numbered_from u n file)
units_have_jobs before u n [] e = tt
units_have_jobs before u n (unit ∷ units) e =
    let here : List (ℕ × Job) = map (λ job. (unit.lane, job)) unit.jobs in (
      jobs_of_unit before unit.lane n unit.jobs (lane_jobs units) e,
      subst (λ all. AllByRecursion (λ (x : Numbered). AllByRecursion (IsJobOn all x.lane) x.numbers) (numbered_from (u + 1) (n + length unit.jobs) units)) (append_assoc before here (lane_jobs units))
          (units_have_jobs (before ++ here) (u + 1) (n + length unit.jobs) units (length-append before here ∙ ap (λ k. length before + k) (length-map unit.jobs (λ job. (unit.lane, job))) ∙ ap (λ k. k + length unit.jobs) e)),
    )

pub AllByRecursion-append : {X : Type 0} (P : X → Type 0) (xs ys : List X) → AllByRecursion P xs → AllByRecursion P ys → AllByRecursion P (xs ++ ys)
AllByRecursion-append P [] ys h k = k
AllByRecursion-append P (x ∷ xs) ys h k = (h.0, AllByRecursion-append P xs ys h.1 k)

pub all_pieces : {X Y : Type 0} (P : Y → Type 0) (f : X → List Y) (xs : List X) → AllByRecursion (λ x. AllByRecursion P (f x)) xs → AllByRecursion P (flat_map f xs)
all_pieces P f [] h = tt
all_pieces P f (x ∷ xs) h = AllByRecursion-append P (f x) (flat_map f xs) h.0 (all_pieces P f xs h.1)

-- The numbers of a lane's jobs are numbers of jobs of that lane.
pub jobs_on-are : (file : List JobUnit) (lane : ℕ) → AllByRecursion (IsJobOn (lane_jobs file) lane) (jobs_on file lane)
jobs_on-are file lane =
    all_pieces (IsJobOn (lane_jobs file) lane) (λ (unit : Numbered). unit.numbers) (units_on file lane)
    (of_part (λ (unit : Numbered). unit.lane) (λ unit. AllByRecursion (IsJobOn (lane_jobs file) unit.lane) unit.numbers) (λ unit. AllByRecursion (IsJobOn (lane_jobs file) lane) unit.numbers) lane
    (λ unit e h. subst (λ l. AllByRecursion (IsJobOn (lane_jobs file) l) unit.numbers) e h) (numbered_from 0 0 file)
    (AllByRecursion-filter (λ (unit : Numbered). unit.lane == lane) (λ unit. AllByRecursion (IsJobOn (lane_jobs file) unit.lane) unit.numbers) (numbered_from 0 0 file) (units_have_jobs [] 0 0 file refl)))

beyond : {X : Type 0} (xs : List X) (i : ℕ) → length xs ≤ i → slice_get xs i ≡ None
beyond [] i l = refl
beyond (x ∷ xs) zero l = absurd (omega (arith, l))
beyond (x ∷ xs) (suc i) l = beyond xs i (omega (arith, l))

-- a number that is too great is no job's
pub job_at-beyond : (file : List JobUnit) (v : ℕ) → job_count file ≤ v → job_at file v ≡ None
job_at-beyond file v l = beyond (lane_jobs file) v (rw length-lane_jobs l)
