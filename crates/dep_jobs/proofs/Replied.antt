-- The replies to the jobs of a level are their answers.
use Rattle.std.proofs.Common.{◌≡◌, ℕ, ◌+◌, ◌<◌, ◌≤◌, List, [], ◌∷◌, ◌++◌, length, get_or, map, Option, Some, None, refl, sym, ap, subst, ◌∙◌, arith, All, slice_get, length-append, append_assoc, ⊎_elim}
use Rattle.std.specs.List.{flat_map, range_with_len, AllZip, AllByRecursion}
use Rattle.std.proofs.lemmas.List.Elements.{All-head, All-tail, recursion_from_All}
use Rattle.std.proofs.lemmas.Option.{slice_get_cases}
use Rattle.job_work.specs.declared.job.Job.{Job}
use Rattle.job_work.specs.Answer.{answer_of}
use Rattle.job_text.specs.declared.file.Unit.{Unit as JobUnit}
use Rattle.job_text.specs.JobFile.{job_count, lane_jobs}
use Rattle.job_text.proofs.JobFileLemmas.{length-lane_jobs}
use Rattle.bulk_dispatcher.specs.declared.reply.Reply.{Reply}
use Rattle.bulk_dispatcher.specs.Replies.{IsAnswer, RepliesFit}
use Rattle.bulk_dispatcher.proofs.Catches.{map_all}
use Rattle.bulk_dispatcher.proofs.Numbers.{at_end}
use Rattle.bq_model.specs.declared.group.Group.{Group}
use Rattle.dep_text.specs.declared.job.DepJob.{DepJob}
use Rattle.dep_text.specs.DepFile.{IsDepFile}
use Rattle.dep_text.specs.Levels.{levels_of}
use Rattle.dep_text.proofs.LevelLemmas.{length-levels_of}
use Rattle.dep_jobs.specs.Answers.{answers_of}
use Rattle.dep_jobs.specs.LevelFile.{numbers_on, unit_for, units_for, level_of}
use Rattle.dep_jobs.proofs.AnswerLemmas.{answer-at}
use Rattle.dep_jobs.proofs.LevelFiles.{IsOn, numbers_on-are}

-- a reply with the answer of the job that has its number among these
abbrev Replies : List (ℕ × Job) → Reply → Type 0
Replies all reply = (job : Job) × (slice_get all reply.job ≡ Some (reply.lane, job)) × (reply.text ≡ answer_of job)

same_job : (p q : ℕ × Job) → Some p ≡ Some q → p.1 ≡ q.1
same_job p q e = let same : p ≡ q = cc e in ap (λ (r : ℕ × Job). r.1) same

-- the replies to jobs in order, where the first of them has number n
in_order : (before rest : List (ℕ × Job)) (n : ℕ) (replies : List Reply) → length before ≡ n → map (λ (r : Reply). r.job) replies ≡ range_with_len n (length rest) → AllByRecursion (Replies (before ++ rest)) replies
    → AllZip (λ (p : ℕ × Job) (text : List ℕ). text ≡ answer_of p.1) rest (map (λ (r : Reply). r.text) replies)
in_order before [] n [] l e h = tt
in_order before [] n (r ∷ rs) l e h = cc e
in_order before (p ∷ rest) n [] l e h = cc e
in_order before (p ∷ rest) n (r ∷ rs) l e h =
    let number : r.job ≡ n = cc e in
    let others : map (λ (x : Reply). x.job) rs ≡ range_with_len (n + 1) (length rest) = cc e in
    let found : Some p ≡ Some (r.lane, h.0.0) = sym (at_end before rest p) ∙ ap (slice_get (before ++ p ∷ rest)) (l ∙ sym number) ∙ h.0.1 in
    let job : h.0.0 ≡ p.1 = sym (same_job p (r.lane, h.0.0) found) in (
      h.0.2 ∙ ap answer_of job,
      in_order (before ++ p ∷ []) rest (n + 1) rs (length-append before (p ∷ []) ∙ ap (λ k. k + 1) l) others
          (subst (λ all. AllByRecursion (Replies all) rs) (sym (append_assoc before (p ∷ []) rest)) h.1),
    )

nothing_past : {X : Type 0} (xs : List X) (k : ℕ) → slice_get xs k ≡ None → length xs ≤ k
nothing_past xs k none = ⊎_elim (λ some. cc (sym none ∙ some.2)) (λ past. past.0) (slice_get_cases xs k).1

-- two lists beside a third
zip_through : {A B C : Type 0} (R : A → B → Type 0) (S : B → C → Type 0) (Q : A → C → Type 0) → ((x : A) (y : B) (z : C) → R x y → S y z → Q x z) → (xs : List A) (ys : List B) (zs : List C) → AllZip R xs ys → AllZip S ys zs → AllZip Q xs zs
zip_through R S Q follows [] [] [] r s = tt
zip_through R S Q follows [] [] (z ∷ zs) r s = absurd s
zip_through R S Q follows [] (y ∷ ys) zs r s = absurd r
zip_through R S Q follows (x ∷ xs) [] zs r s = absurd r
zip_through R S Q follows (x ∷ xs) (y ∷ ys) [] r s = absurd s
zip_through R S Q follows (x ∷ xs) (y ∷ ys) (z ∷ zs) r s = (follows x y z r.0 s.0, zip_through R S Q follows xs ys zs r.1 s.1)

module _ (jobs : List DepJob) (file : IsDepFile jobs) where
  abbrev Answered : ℕ → ℕ × Job → Type 0
  Answered k p = answer_of p.1 ≡ get_or (answers_of jobs) k []

  -- the jobs of a file of single jobs, beside their numbers
  units-answered : (level : ℕ) (numbers : List ℕ) → All (IsOn (levels_of jobs) level) numbers → AllZip Answered numbers (lane_jobs (units_for (answers_of jobs) jobs numbers))
  units-answered level [] on = tt
  units-answered level (k ∷ numbers) on =
      let rest = units-answered level numbers (All-tail (IsOn (levels_of jobs) level) k numbers on) in
      let here = All-head (IsOn (levels_of jobs) level) k numbers on in
      let units = units_for (answers_of jobs) jobs numbers in
      elim (slice_get jobs k) as (λ found. slice_get jobs k ≡ found → AllZip Answered (k ∷ numbers) (lane_jobs (unit_for (answers_of jobs) found ++ units))) [
        | None ↦ λ found. (let low = here.0 in let past = nothing_past jobs k found in let count = length-levels_of jobs in absurd (omega arith))
        | Some job ↦ λ found. (sym (answer-at jobs k job file found), rest)
      ] refl

  -- the texts of the replies to a level's file are the answers of its jobs
  pub replies-answered : (level : ℕ) (books : List (List Group)) (replies : List Reply) → RepliesFit (level_of jobs level) books replies
      → AllZip (λ k text. text ≡ get_or (answers_of jobs) k []) (numbers_on (levels_of jobs) level) (map (λ reply. reply.text) replies)
  replies-answered level books replies fit =
      let units = level_of jobs level in
      let numbers = numbers_on (levels_of jobs) level in
      let texts = map (λ (reply : Reply). reply.text) replies in
      let ordered = in_order [] (lane_jobs units) 0 replies refl (fit.one_each ∙ ap (range_with_len 0) (sym (length-lane_jobs units)))
      (map_all (IsAnswer units) (Replies (lane_jobs units)) (λ r a. (a.job, a.numbered, a.text_is)) replies (recursion_from_All (IsAnswer units) replies fit.answered)) in
      zip_through Answered (λ (p : ℕ × Job) (text : List ℕ). text ≡ answer_of p.1) (λ k text. text ≡ get_or (answers_of jobs) k []) (λ k p text answered same. same ∙ answered) numbers (lane_jobs units) texts
      (units-answered level numbers (numbers_on-are (levels_of jobs) level)) ordered
