-- The file of a level is a file of jobs.
use Rattle.std.proofs.Common.{◌≡◌, ℕ, ◌+◌, ◌^◌, ◌<◌, ◌≤◌, List, [], ◌∷◌, ◌++◌, length, get_or, take, map, Option, Some, None, refl, sym, ap, subst, ◌∙◌, arith, All, ⊎_elim, slice_get, append-nil}
use Rattle.std.specs.List.{flat_map}
use Rattle.std.proofs.lemmas.Bool.{cases_lt}
use Rattle.std.proofs.lemmas.List.{take_more, get_or_past}
use Rattle.std.proofs.lemmas.List.Concat.{flat_map-append}
use Rattle.std.proofs.lemmas.List.Elements.{All-nil, All-cons, All-append, All-map, All-weaker, All-get_or}
use Rattle.std.proofs.lemmas.List.Sums.{sum_by-append}
use Rattle.std.proofs.lemmas.Option.{slice_get_read}
use Rattle.job_work.specs.declared.job.Job.{Job}
use Rattle.job_text.specs.declared.file.Unit.{Unit as JobUnit}
use Rattle.job_text.specs.JobFile.{AreBytes, IsInRange, IsUnit, IsJobFile, job_count}
use Rattle.dep_text.specs.declared.job.Arg.{Arg}
use Rattle.dep_text.specs.declared.job.Arg.TheVariants.{Number, Of}
use Rattle.dep_text.specs.declared.job.Piece.{Piece}
use Rattle.dep_text.specs.declared.job.Piece.TheVariants.{Plain, Of as OfBytes}
use Rattle.dep_text.specs.declared.job.DepWork.{DepWork}
use Rattle.dep_text.specs.declared.job.DepWork.TheVariants.{Sum, Digest, Count, Mix, Words}
use Rattle.dep_text.specs.declared.job.DepJob.{DepJob}
use Rattle.dep_text.specs.DepFile.{IsArg, IsPiece, IsDepWork, IsDepJob, IsDepFile, most_dep_jobs}
use Rattle.dep_jobs.specs.LevelFile.{unit_for, units_for}
use Rattle.dep_jobs.specs.Resolve.{arg_value, piece_bytes, resolve}

module _ (texts : List (List ℕ)) (bytes : All AreBytes texts) (before : List DepJob) where
  arg_small : (arg : Arg) → IsArg before arg → arg_value texts arg < 2 ^ 64
  arg_small (Number number) is = is
  arg_small (Of job) is = omega arith

  bytes_at : (k : ℕ) → AreBytes (get_or texts k [])
  bytes_at k =
      ⊎_elim (λ within. All-get_or AreBytes texts k [] within bytes)
      (λ past. subst AreBytes (sym (get_or_past texts k [] past)) (All-nil (λ (byte : ℕ). byte < 256))) (cases_lt k (length texts))

  piece_range : (piece : Piece) → IsPiece before piece → AreBytes (piece_bytes texts piece)
  piece_range (Plain some) is = is
  piece_range (OfBytes job) is = bytes_at job

  -- what work resolves to is in the ranges of a job file
  IsInRange-resolve : (work : DepWork) → IsDepWork before work → IsInRange (resolve work texts)
  IsInRange-resolve (Sum args) is =
      All-map (λ (number : ℕ). number < 2 ^ 64) (arg_value texts) args (All-weaker (IsArg before) (λ (arg : Arg). arg_value texts arg < 2 ^ 64) arg_small args is)
  IsInRange-resolve (Digest piece) is = piece_range piece is
  IsInRange-resolve (Count byte piece) is = (is.0, piece_range piece is.1)
  IsInRange-resolve (Mix start turns) is = (arg_small start is.0, is.1)
  IsInRange-resolve (Words words) is = is

module _ (texts : List (List ℕ)) (jobs : List DepJob) (bytes : All AreBytes texts) (file : IsDepFile jobs) where
  one_unit : (k : ℕ) → All IsUnit (unit_for texts (slice_get jobs k))
  one_unit k =
      elim (slice_get jobs k) as (λ found. slice_get jobs k ≡ found → All IsUnit (unit_for texts found)) [
        | None ↦ λ found. All-nil IsUnit
        | Some job ↦ λ found.
            let ranges = file.each k job found in
            let work : Job = resolve job.work texts in
            let unit : JobUnit = record { lane = job.lane; jobs = work ∷ [] } in
            All-cons IsUnit unit []
            (record {
              lane = ranges.lane;
              some = omega arith;
              few = omega arith;
              ranges = All-cons IsInRange work [] (IsInRange-resolve texts bytes (take k jobs) job.work ranges.work) (All-nil IsInRange);
            })
            (All-nil IsUnit)
      ] refl

  units_are : (numbers : List ℕ) → All IsUnit (units_for texts jobs numbers)
  units_are [] = All-nil IsUnit
  units_are (k ∷ numbers) = All-append IsUnit (unit_for texts (slice_get jobs k)) (units_for texts jobs numbers) (one_unit k) (units_are numbers)

  one_count : (found : Option DepJob) → job_count (unit_for texts found) ≤ 1
  one_count None = omega arith
  one_count (Some job) = omega arith

  units_count : (numbers : List ℕ) → job_count (units_for texts jobs numbers) ≤ length numbers
  units_count [] = omega arith
  units_count (k ∷ numbers) =
      let one = one_count (slice_get jobs k) in
      let rest = units_count numbers in
      let both = sum_by-append (λ (unit : JobUnit). length unit.jobs) (unit_for texts (slice_get jobs k)) (units_for texts jobs numbers) in
      omega arith

  pub IsJobFile-units_for : (numbers : List ℕ) → length numbers ≤ most_dep_jobs → IsJobFile (units_for texts jobs numbers)
  IsJobFile-units_for numbers few = let count = units_count numbers in record { units_are = units_are numbers; count = omega arith }

-- one unit more
pub units_for-more : (texts : List (List ℕ)) (jobs : List DepJob) (numbers : List ℕ) (i : ℕ) (job : DepJob) (work : Job) → i < length numbers → get_or numbers i 0 < length jobs → job ≡ get_or jobs (get_or numbers i 0) job
    → work ≡ resolve job.work texts → units_for texts jobs (take i numbers) ++ record { lane = job.lane; jobs = work ∷ [] } ∷ [] ≡ units_for texts jobs (take (i + 1) numbers)
units_for-more texts jobs numbers i job work in_numbers in_jobs job_is work_is =
    let k = get_or numbers i 0 in
    let front = units_for texts jobs (take i numbers) in
    let found : slice_get jobs k ≡ Some job = slice_get_read jobs (length jobs) k job refl in_jobs job_is in
    let one : unit_for texts (slice_get jobs k) ≡ record { lane = job.lane; jobs = work ∷ [] } ∷ [] = rw (found, work_is) refl in
    let more : units_for texts jobs (take (i + 1) numbers) ≡ front ++ (unit_for texts (slice_get jobs k) ++ []) =
    ap (units_for texts jobs) (take_more numbers i 0 in_numbers) ∙ flat_map-append (λ number. unit_for texts (slice_get jobs number)) (take i numbers) (k ∷ []) in
    sym (more ∙ ap (λ (units : List JobUnit). front ++ units) (append-nil (unit_for texts (slice_get jobs k)) ∙ one))
