-- The lines of the replies are the text that a file is replied with.
use Rattle.std.proofs.Common.{◌≡◌, ℕ, ◌+◌, Some, List, [], ◌∷◌, ◌++◌, length, map, refl, sym, ap, subst, ◌∙◌, length-append, append_assoc, All}
use Rattle.std.specs.List.{flat_map, range_with_len, slice_get, AllByRecursion}
use Rattle.std.proofs.lemmas.List.{map-append}
use Rattle.std.proofs.lemmas.List.Elements.{recursion_from_All}
use Rattle.job_work.specs.declared.job.Job.{Job}
use Rattle.job_work.specs.Answer.{answer_of}
use Rattle.job_text.specs.declared.file.Unit.{Unit as JobUnit}
use Rattle.job_text.specs.JobFile.{job_count, lane_jobs, all_jobs}
use Rattle.job_text.specs.Replies.{reply_line, replies_from, replies_of}
use Rattle.job_text.proofs.JobFileLemmas.{length-lane_jobs}
use Rattle.bulk_dispatcher.specs.declared.reply.Reply.{Reply}
use Rattle.bulk_dispatcher.specs.Replies.{IsAnswer}
use Rattle.bulk_dispatcher.proofs.Catches.{map_all}
use Rattle.bulk_dispatcher.proofs.Numbers.{at_end}

abbrev line : Reply → List ℕ
line reply = reply_line reply.job reply.text

jobs_alone : (lane : ℕ) (jobs : List Job) → map (λ (p : ℕ × Job). p.1) (map (λ job. (lane, job)) jobs) ≡ jobs
jobs_alone lane [] = refl
jobs_alone lane (job ∷ jobs) = ap (λ js. job ∷ js) (jobs_alone lane jobs)

jobs_of_lanes : (file : List JobUnit) → map (λ (p : ℕ × Job). p.1) (lane_jobs file) ≡ all_jobs file
jobs_of_lanes [] = refl
jobs_of_lanes (unit ∷ units) =
    map-append (λ (p : ℕ × Job). p.1) (map (λ job. (unit.lane, job)) unit.jobs) (lane_jobs units)
    ∙ ap (λ js. js ++ map (λ (p : ℕ × Job). p.1) (lane_jobs units)) (jobs_alone unit.lane unit.jobs) ∙ ap (λ js. unit.jobs ++ js) (jobs_of_lanes units)

-- a reply with the answer of the job that has its number among these
abbrev Answers : List (ℕ × Job) → Reply → Type 0
Answers all reply = (job : Job) × (slice_get all reply.job ≡ Some (reply.lane, job)) × (reply.text ≡ answer_of job)

same_job : (p q : ℕ × Job) → Some p ≡ Some q → p.1 ≡ q.1
same_job p q e = let same : p ≡ q = cc e in ap (λ (r : ℕ × Job). r.1) same

lines_from : (before rest : List (ℕ × Job)) (n : ℕ) (replies : List Reply) → length before ≡ n → map (λ (r : Reply). r.job) replies ≡ range_with_len n (length rest) → AllByRecursion (Answers (before ++ rest)) replies
    → flat_map line replies ≡ replies_from n (map (λ (p : ℕ × Job). p.1) rest)
lines_from before [] n [] l e h = refl
lines_from before [] n (r ∷ rs) l e h = cc e
lines_from before (p ∷ rest) n [] l e h = cc e
lines_from before (p ∷ rest) n (r ∷ rs) l e h =
    let number : r.job ≡ n = cc e in
    let others : map (λ (x : Reply). x.job) rs ≡ range_with_len (n + 1) (length rest) = cc e in
    let found : Some p ≡ Some (r.lane, h.0.0) = sym (at_end before rest p) ∙ ap (slice_get (before ++ p ∷ rest)) (l ∙ sym number) ∙ h.0.1 in
    let job : h.0.0 ≡ p.1 = sym (same_job p (r.lane, h.0.0) found) in
    ap (λ k. reply_line k r.text ++ flat_map line rs) number
    ∙ ap (λ text. reply_line n text ++ flat_map line rs) (h.0.2 ∙ ap answer_of job)
    ∙ ap (λ bytes. reply_line n (answer_of p.1) ++ bytes)
    (lines_from (before ++ p ∷ []) rest (n + 1) rs (length-append before (p ∷ []) ∙ ap (λ k. k + 1) l) others
    (subst (λ all. AllByRecursion (Answers all) rs) (sym (append_assoc before (p ∷ []) rest)) h.1))

pub lines : (file : List JobUnit) (replies : List Reply) → map (λ (r : Reply). r.job) replies ≡ range_with_len 0 (job_count file) → All (IsAnswer file) replies → flat_map (λ (r : Reply). reply_line r.job r.text) replies ≡ replies_of file
lines file replies e h =
    lines_from [] (lane_jobs file) 0 replies refl (e ∙ ap (range_with_len 0) (sym (length-lane_jobs file)))
    (map_all (IsAnswer file) (Answers (lane_jobs file)) (λ r a. (a.job, a.numbered, a.text_is)) replies (recursion_from_All (IsAnswer file) replies h))
    ∙ ap (replies_from 0) (jobs_of_lanes file)
