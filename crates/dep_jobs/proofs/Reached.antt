-- Which answers are there, level by level.
use Rattle.std.proofs.Common.{◌≡◌, ℕ, ◌+◌, ◌<◌, ◌≤◌, Bool, true, false, List, [], ◌∷◌, ◌++◌, length, get_or, Option, Some, None, refl, sym, ap, ap₂, subst, ◌∙◌, arith, All, Contains, inl, inr, ⊎_elim, slice_get, slice_index, slice_index_or, replicate, map}
use Rattle.std.specs.List.{flat_map, AllZip}
use Rattle.std.proofs.lemmas.Bool.{cases_lt}
use Rattle.std.proofs.lemmas.List.{length-replicate, ext_get_or}
use Rattle.std.proofs.lemmas.List.Elements.{All-nil, All-head, All-tail, All-weaker, All-replicate, All-get_or}
use Rattle.std.proofs.lemmas.Option.{slice_get_within, slice_get_past}
use Rattle.job_text.specs.declared.file.Unit.{Unit as JobUnit}
use Rattle.job_text.specs.JobFile.{AreBytes}
use Rattle.dep_text.specs.declared.job.DepJob.{DepJob}
use Rattle.dep_text.specs.DepFile.{IsDepFile}
use Rattle.dep_text.specs.Levels.{greatest, levels_of, depth_of}
use Rattle.dep_text.proofs.LevelLemmas.{length-levels_of, below_greatest}
use Rattle.dep_jobs.specs.Answers.{answers_of}
use Rattle.dep_jobs.specs.LevelFile.{numbers_on, unit_for, units_for, level_of}
use Rattle.dep_jobs.specs.Resolve.{resolve}
use Rattle.dep_jobs.specs.Texts.{put_all, AreReached}
use Rattle.dep_jobs.proofs.AnswerLemmas.{length-answers_of, IsLower, names_lower}
use Rattle.dep_jobs.proofs.LevelFiles.{IsOn, numbers_on-are, numbers_on-has}
use Rattle.dep_jobs.proofs.Named.{SameAt, work_follows, resolve-same}
use Rattle.dep_jobs.proofs.Puts.{length-put_all, put_all-at}

-- nothing is there before the first level
pub reached-none : (jobs : List DepJob) → AreReached jobs 0 (replicate (length jobs) [])
reached-none jobs = record {
  long = length-replicate (length jobs) [];
  same = λ k within low. absurd (omega arith);
  bytes = All-replicate AreBytes (length jobs) [] (All-nil (λ (byte : ℕ). byte < 256));
}

module _ (jobs : List DepJob) (level : ℕ) (texts : List (List ℕ)) (file : IsDepFile jobs) (reached : AreReached jobs level texts) where
  -- a job of a level is resolved by the answers of those below it as by all answers
  unit-same : (k : ℕ) → IsOn (levels_of jobs) level k → unit_for texts (slice_get jobs k) ≡ unit_for (answers_of jobs) (slice_get jobs k)
  unit-same k on =
      elim (slice_get jobs k) as (λ found. slice_get jobs k ≡ found → unit_for texts found ≡ unit_for (answers_of jobs) found) [
        | None ↦ λ found. refl
        | Some job ↦ λ found.
            let level_is = on.1 in
            let within = slice_get_within jobs k job found in
            let lower = names_lower jobs k job file found in
            let same = resolve-same texts (answers_of jobs) job.work
            (work_follows (IsLower jobs k) (IsLower jobs k) (SameAt texts (answers_of jobs)) (λ q low _. (let before = low.0 in let below = low.1 in reached.same q (omega arith) (omega arith))) job.work lower lower) in
            rw same refl
      ] refl

  units-same : (numbers : List ℕ) → All (IsOn (levels_of jobs) level) numbers → units_for texts jobs numbers ≡ units_for (answers_of jobs) jobs numbers
  units-same [] on = refl
  units-same (k ∷ numbers) on =
      ap₂ (λ (one others : List JobUnit). one ++ others) (unit-same k (All-head (IsOn (levels_of jobs) level) k numbers on)) (units-same numbers (All-tail (IsOn (levels_of jobs) level) k numbers on))

  -- the file of a level is the same by the answers of those below it
  pub level_of-reached : units_for texts jobs (numbers_on (levels_of jobs) level) ≡ level_of jobs level
  level_of-reached = units-same (numbers_on (levels_of jobs) level) (numbers_on-are (levels_of jobs) level)

  -- the numbers of a level are those of jobs
  pub numbers_within : All (λ k. k < length texts) (numbers_on (levels_of jobs) level)
  numbers_within =
      let long = reached.long in
      let levels = length-levels_of jobs in
      All-weaker (IsOn (levels_of jobs) level) (λ k. k < length texts) (λ k on. (let low = on.0 in omega arith)) (numbers_on (levels_of jobs) level) (numbers_on-are (levels_of jobs) level)

  -- the answers of a level are there once they are put at the places of its jobs
  pub reached-more : (new more : List (List ℕ)) → more ≡ put_all texts (numbers_on (levels_of jobs) level) new → All AreBytes more
      → AllZip (λ k text. text ≡ get_or (answers_of jobs) k []) (numbers_on (levels_of jobs) level) new → AreReached jobs (level + 1) more
  reached-more new more more_is bytes are =
      let numbers = numbers_on (levels_of jobs) level in
      let put = put_all texts numbers new in
      let levels = length-levels_of jobs in
      record {
        long = ap length more_is ∙ (length-put_all texts numbers new ∙ reached.long);
        same = λ k within low.
            subst (λ (some : List (List ℕ)). get_or some k [] ≡ get_or (answers_of jobs) k []) (sym more_is)
            (put_all-at (answers_of jobs) texts numbers new k are numbers_within
            (⊎_elim (λ below. inl (reached.same k within below)) (λ here. inr (numbers_on-has (levels_of jobs) level k (omega arith) (omega arith))) (cases_lt (slice_index (levels_of jobs) k) level)));
        bytes = bytes;
      }

-- all answers are there behind the last level
pub reached-all : (jobs : List DepJob) (level : ℕ) (texts : List (List ℕ)) → AreReached jobs level texts → depth_of (levels_of jobs) ≤ level → texts ≡ answers_of jobs
reached-all jobs level texts reached all =
    let levels = levels_of jobs in
    let long = reached.long in
    let answers = length-answers_of jobs in
    let count = length-levels_of jobs in
    ext_get_or [] texts (answers_of jobs) (omega arith)
    (λ k within.
    let below : slice_index levels k + 1 ≤ depth_of levels = All-get_or (λ l. l + 1 ≤ depth_of levels) levels k 0 (omega arith) (below_greatest (λ l. l + 1) levels) in
    reached.same k (omega arith) (omega arith))
