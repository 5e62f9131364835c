-- One round: what is known before it, and what it leaves.
use Rattle.std.proofs.Common.{◌≡◌, ℕ, ◌+◌, ◌<◌, ◌≤◌, List, [], ◌∷◌, ◌++◌, length, get_or, map, sym, ap, subst, ◌∙◌, arith, All}
use Rattle.std.specs.List.{AllZip, range_with_len}
use Rattle.std.proofs.lemmas.List.{length-map, get_or_default}
use Rattle.std.proofs.lemmas.List.Elements.{All-weaker}
use Rattle.std.proofs.lemmas.List.FromFn.{length-map-range_with_len, get_or-map-range_with_len}
use Rattle.bq_model.specs.declared.group.Group.{Group}
use Rattle.job_text.specs.declared.file.Unit.{Unit as JobUnit}
use Rattle.job_text.specs.JobFile.{AreBytes}
use Rattle.bulk_dispatcher.specs.declared.reply.Reply.{Reply}
use Rattle.bulk_dispatcher.specs.Ran.{JobsRan}
use Rattle.bulk_dispatcher.proofs.Numbers.{range-append}
use Rattle.bulk_dispatcher.proofs.Zips.{zip_length}
use Rattle.dep_text.specs.declared.job.DepJob.{DepJob}
use Rattle.dep_text.specs.DepFile.{IsDepFile, most_dep_jobs}
use Rattle.dep_text.specs.Levels.{levels_of, depth_of}
use Rattle.dep_text.proofs.LevelLemmas.{length-levels_of}
use Rattle.dep_jobs.specs.Answers.{answers_of}
use Rattle.dep_jobs.specs.LevelFile.{numbers_on, units_for, level_of}
use Rattle.dep_jobs.specs.Texts.{put_all, AreReached}
use Rattle.dep_jobs.proofs.LevelFiles.{IsOn, numbers_on-are, length-numbers_on}
use Rattle.dep_jobs.proofs.Reached.{level_of-reached, numbers_within, reached-more}
use Rattle.dep_jobs.proofs.Replied.{replies-answered}

-- the numbers of all levels
abbrev pub by_level : List DepJob → List (List ℕ)
by_level jobs = map (numbers_on (levels_of jobs)) (range_with_len 0 (depth_of (levels_of jobs)))

pub length-by_level : (jobs : List DepJob) (all : List (List ℕ)) → all ≡ by_level jobs → length all ≡ depth_of (levels_of jobs)
length-by_level jobs all all_are = ap (λ (some : List (List ℕ)). length some) all_are ∙ length-map-range_with_len (numbers_on (levels_of jobs)) 0 (depth_of (levels_of jobs))

-- those of one level
pub on_level-is : (jobs : List DepJob) (all : List (List ℕ)) (i : ℕ) (numbers : List ℕ) → all ≡ by_level jobs → i < length all → numbers ≡ get_or all i numbers → numbers ≡ numbers_on (levels_of jobs) i
on_level-is jobs all i numbers all_are within numbers_are =
    let count = length-by_level jobs all all_are in
    numbers_are ∙ (ap (λ (some : List (List ℕ)). get_or some i numbers) all_are ∙ get_or-map-range_with_len (numbers_on (levels_of jobs)) 0 (depth_of (levels_of jobs)) i i numbers (omega arith) (omega arith))

-- all that a loop over the levels goes over
pub all_levels : (jobs kept : List DepJob) (levels : List ℕ) (items all : List (List ℕ)) → jobs ≡ kept → levels ≡ levels_of kept → items ≡ map (numbers_on levels) (range_with_len 0 (depth_of levels)) → all ≡ items → all ≡ by_level jobs
all_levels jobs kept levels items all jobs_are levels_are items_are all_are =
    all_are ∙ (items_are ∙ (ap (λ (ls : List ℕ). map (numbers_on ls) (range_with_len 0 (depth_of ls))) levels_are ∙ ap by_level (sym jobs_are)))

-- one round more
zip_push : {A B : Type 0} (R : A → B → Type 0) (xs : List A) (ys : List B) (x : A) (y : B) → AllZip R xs ys → R x y → AllZip R (xs ++ x ∷ []) (ys ++ y ∷ [])
zip_push R [] [] x y all here = (here, tt)
zip_push R [] (b ∷ ys) x y all here = absurd all
zip_push R (a ∷ xs) [] x y all here = absurd all
zip_push R (a ∷ xs) (b ∷ ys) x y all here = (all.0, zip_push R xs ys x y all.1 here)

pub rounds-more : {D : Type 0} (R : ℕ → D → Type 0) (i : ℕ) (rounds more : List D) (round : D) → more ≡ rounds ++ round ∷ [] → AllZip R (range_with_len 0 i) rounds → R i round → AllZip R (range_with_len 0 (i + 1)) more
rounds-more R i rounds more round more_are all here =
    let place : 0 + i ≡ i = omega arith in
    let levels : range_with_len 0 (i + 1) ≡ range_with_len 0 i ++ i ∷ [] = sym (range-append 0 i 1) ∙ ap (λ j. range_with_len 0 i ++ range_with_len j 1) place in
    subst (λ (some : List ℕ). AllZip R some more) (sym levels) (subst (AllZip R (range_with_len 0 i ++ i ∷ [])) (sym more_are) (zip_push R (range_with_len 0 i) rounds i round all here))

-- the rounds of all levels
pub rounds-all : {D : Type 0} (R : List DepJob → ℕ → D → Type 0) (jobs kept : List DepJob) (i : ℕ) (rounds : List D) → jobs ≡ kept → i ≡ depth_of (levels_of jobs) → AllZip (R jobs) (range_with_len 0 i) rounds
    → AllZip (R kept) (range_with_len 0 (depth_of (levels_of kept))) rounds
rounds-all R jobs kept i rounds jobs_are whole all =
    subst (λ (js : List DepJob). AllZip (R js) (range_with_len 0 (depth_of (levels_of js))) rounds) jobs_are (subst (λ n. AllZip (R jobs) (range_with_len 0 n) rounds) whole all)

module _ (jobs : List DepJob) (i : ℕ) (texts : List (List ℕ)) (numbers : List ℕ) (file : IsDepFile jobs) (reached : AreReached jobs i texts) (numbers_are : numbers ≡ numbers_on (levels_of jobs) i) where
  pub few : length numbers ≤ most_dep_jobs
  few =
      let some = ap (λ (ks : List ℕ). length ks) numbers_are in
      let all = length-numbers_on (levels_of jobs) i in
      let count = length-levels_of jobs in
      let most = file.few in
      omega arith

  pub in_texts : All (λ k. k < length texts) numbers
  in_texts = subst (All (λ k. k < length texts)) (sym numbers_are) (numbers_within jobs i texts file reached)

  pub in_jobs : All (λ k. k < length jobs) numbers
  in_jobs = subst (λ n. All (λ k. k < n) numbers) reached.long in_texts

  -- the file of the level
  pub level_is : (units : List JobUnit) → units ≡ units_for texts jobs numbers → units ≡ level_of jobs i
  level_is units units_are = units_are ∙ (ap (units_for texts jobs) numbers_are ∙ level_of-reached jobs i texts file reached)

  module _ (hands batch : ℕ) (units : List JobUnit) (books : List (List Group)) (replies : List Reply) (units_are : units ≡ units_for texts jobs numbers) (ran : JobsRan units hands batch books replies) where
    pub level_ran : JobsRan (level_of jobs i) hands batch books replies
    level_ran = subst (λ (us : List JobUnit). JobsRan us hands batch books replies) (level_is units units_are) ran

    answered : AllZip (λ k text. text ≡ get_or (answers_of jobs) k []) (numbers_on (levels_of jobs) i) (map (λ (reply : Reply). reply.text) replies)
    answered = replies-answered jobs file i books replies level_ran.replies_fit

    -- a reply for each number
    pub one_each : length replies ≡ length numbers
    one_each =
        let count = zip_length (λ k text. text ≡ get_or (answers_of jobs) k []) (numbers_on (levels_of jobs) i) (map (λ (reply : Reply). reply.text) replies) answered in
        sym (length-map replies (λ (reply : Reply). reply.text)) ∙ (sym count ∙ ap (λ (ks : List ℕ). length ks) (sym numbers_are))

    -- the texts behind the round
    pub reached_next : (more : List (List ℕ)) → more ≡ put_all texts numbers (map (λ (reply : Reply). reply.text) replies) → All AreBytes more → AreReached jobs (i + 1) more
    reached_next more more_are bytes =
        reached-more jobs i texts file reached (map (λ (reply : Reply). reply.text) replies) more (more_are ∙ ap (λ (ks : List ℕ). put_all texts ks (map (λ (reply : Reply). reply.text) replies)) numbers_are) bytes answered
