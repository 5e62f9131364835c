-- The fault of a line is the first of the causes that apply to it.
use Rattle.std.proofs.Common.{◌≡◌, ℕ, ◌+◌, ◌≤◌, true, false, List, [], ◌∷◌, ◌++◌, length, Option, Some, None, Result, Ok, Err, refl, sym, arith, subst, nat_le, codes, flat_map, if◌then◌else◌, slice_get, option_map}
use Rattle.std.specs.Str.{bytes_eq}
use Rattle.std.proofs.lemmas.List.Elements.{All-nil, All-append}
use Rattle.bq_model.specs.declared.fault.TextCause.{TextCause}
use Rattle.bq_model.specs.declared.fault.TextCause.TheVariants.{BadWord, BadNumber, TooMany, TooDeep}
use Rattle.text_lines.specs.Cause.{rank, both, causes, IsFirstCause, NamesFirst}
use Rattle.text_lines.specs.Hex.{hex_of, byte_of}
use Rattle.text_lines.specs.Number.{number_of, number_within}
use Rattle.text_lines.specs.Parts.{or_bad_number, ◌>>=◌}
use Rattle.text_lines.proofs.FirstCauses.{AreBehind, IsEarly, IsEarly-if, IsEarly-both, IsEarly-or_bad_number, NamesFirst-if, NamesFirst-part, NamesFirst-both, IsFirstCause-alone, IsFirstCause-before}
use Rattle.job_text.specs.JobFile.{most_turns}
use Rattle.job_text.specs.JobWords.{lane_of}
use Rattle.job_text.proofs.CauseLemmas.{lane_place, IsEarly-lane_of_number, AreBehind-if, names_if}
use Rattle.dep_text.specs.declared.job.Arg.{Arg}
use Rattle.dep_text.specs.declared.job.Arg.TheVariants.{Number}
use Rattle.dep_text.specs.declared.job.Piece.{Piece}
use Rattle.dep_text.specs.declared.job.Piece.TheVariants.{Plain}
use Rattle.dep_text.specs.declared.job.DepWork.{DepWork}
use Rattle.dep_text.specs.declared.job.DepWork.TheVariants.{Words}
use Rattle.dep_text.specs.declared.job.DepJob.{DepJob}
use Rattle.dep_text.specs.declared.job.Place.{Place}
use Rattle.dep_text.specs.declared.job.Place.TheVariants.{AsNumber, AsBytes}
use Rattle.dep_text.specs.Places.{serves}
use Rattle.dep_text.specs.DepFile.{most_dep_jobs}
use Rattle.dep_text.specs.DepWords.{behind_mark, job_for, job_named, arg_of_parts, arg_of, piece_of_parts, piece_of, all_of, sum_of, digest_of, count_of, mix_of, work_of_kind, work_of, dep_job_of}
use Rattle.dep_text.specs.Grammar.{add_job, meaning}
use Rattle.dep_text.specs.Levels.{most_levels, level_behind, levels_of}
use Rattle.dep_text.specs.LineCauses.{digest_causes, count_causes, mix_causes, work_causes, job_causes, many_causes, deep_causes, applying}

-- ---- what follows from a part has its causes

IsEarly-made : {A B : Type 0} (place : ℕ) (made : A → B) (part : Result A TextCause) → IsEarly place part → IsEarly place (part >>= (λ found. Ok (made found)))
IsEarly-made place made (Ok found) early = tt
IsEarly-made place made (Err cause) early = early

NamesFirst-made : {A B : Type 0} (made : A → B) (some : List TextCause) (part : Result A TextCause) → NamesFirst some part → NamesFirst some (part >>= (λ found. Ok (made found)))
NamesFirst-made made some (Ok found) names = names
NamesFirst-made made some (Err cause) names = names

-- ---- the causes of a lane and of work come early

IsEarly-job_for : (place : Place) (number : ℕ) (job : Option DepJob) → IsEarly lane_place (job_for place number job)
IsEarly-job_for place number None = omega arith
IsEarly-job_for place number (Some job) = IsEarly-if lane_place (serves place job.work) (Ok number) (Err BadWord) tt (omega arith)

IsEarly-job_named : (place : Place) (jobs : List DepJob) (number : Option ℕ) → IsEarly lane_place (job_named place jobs number)
IsEarly-job_named place jobs None = omega arith
IsEarly-job_named place jobs (Some number) = IsEarly-job_for place number (slice_get jobs number)

IsEarly-arg_of_parts : (jobs : List DepJob) (word : List ℕ) (name : Option (List ℕ)) → IsEarly lane_place (arg_of_parts jobs word name)
IsEarly-arg_of_parts jobs word None = IsEarly-or_bad_number lane_place (option_map Number (number_of word)) (omega arith)
IsEarly-arg_of_parts jobs word (Some name) = IsEarly-made lane_place _ (job_named AsNumber jobs (number_of name)) (IsEarly-job_named AsNumber jobs (number_of name))

IsEarly-arg_of : (jobs : List DepJob) (word : List ℕ) → IsEarly lane_place (arg_of jobs word)
IsEarly-arg_of jobs word = IsEarly-arg_of_parts jobs word (behind_mark word)

IsEarly-piece_of_parts : (jobs : List DepJob) (word : List ℕ) (name : Option (List ℕ)) → IsEarly lane_place (piece_of_parts jobs word name)
IsEarly-piece_of_parts jobs word None = IsEarly-or_bad_number lane_place (option_map Plain (hex_of word)) (omega arith)
IsEarly-piece_of_parts jobs word (Some name) = IsEarly-made lane_place _ (job_named AsBytes jobs (number_of name)) (IsEarly-job_named AsBytes jobs (number_of name))

IsEarly-piece_of : (jobs : List DepJob) (word : List ℕ) → IsEarly lane_place (piece_of jobs word)
IsEarly-piece_of jobs word = IsEarly-piece_of_parts jobs word (behind_mark word)

IsEarly-all_of : {X Y : Type 0} (f : X → Result Y TextCause) → ((x : X) → IsEarly lane_place (f x)) → (xs : List X) → IsEarly lane_place (all_of f xs)
IsEarly-all_of f early [] = tt
IsEarly-all_of f early (x ∷ xs) =
    IsEarly-made lane_place _ (both (f x) (all_of f xs)) (IsEarly-both lane_place (f x) (all_of f xs) (early x) (IsEarly-all_of f early xs))

IsEarly-digest_of : (jobs : List DepJob) (words : List (List ℕ)) → IsEarly lane_place (digest_of jobs words)
IsEarly-digest_of jobs [] = omega arith
IsEarly-digest_of jobs (bytes ∷ []) = IsEarly-made lane_place _ (piece_of jobs bytes) (IsEarly-piece_of jobs bytes)
IsEarly-digest_of jobs (bytes ∷ next ∷ others) = omega arith

IsEarly-count_of : (jobs : List DepJob) (words : List (List ℕ)) → IsEarly lane_place (count_of jobs words)
IsEarly-count_of jobs [] = omega arith
IsEarly-count_of jobs (byte ∷ []) = omega arith
IsEarly-count_of jobs (byte ∷ bytes ∷ []) =
    IsEarly-made lane_place _ (both (or_bad_number (byte_of byte)) (piece_of jobs bytes))
    (IsEarly-both lane_place (or_bad_number (byte_of byte)) (piece_of jobs bytes) (IsEarly-or_bad_number lane_place (byte_of byte) (omega arith)) (IsEarly-piece_of jobs bytes))
IsEarly-count_of jobs (byte ∷ bytes ∷ next ∷ others) = omega arith

IsEarly-mix_of : (jobs : List DepJob) (words : List (List ℕ)) → IsEarly lane_place (mix_of jobs words)
IsEarly-mix_of jobs [] = omega arith
IsEarly-mix_of jobs (start ∷ []) = omega arith
IsEarly-mix_of jobs (start ∷ turns ∷ []) =
    let often = or_bad_number (number_within 0 most_turns turns) in
    IsEarly-made lane_place _ (both (arg_of jobs start) often)
    (IsEarly-both lane_place (arg_of jobs start) often (IsEarly-arg_of jobs start) (IsEarly-or_bad_number lane_place (number_within 0 most_turns turns) (omega arith)))
IsEarly-mix_of jobs (start ∷ turns ∷ next ∷ others) = omega arith

IsEarly-work_of_kind : (jobs : List DepJob) (kind : List ℕ) (words : List (List ℕ)) → IsEarly lane_place (work_of_kind jobs kind words)
IsEarly-work_of_kind jobs kind words =
    IsEarly-if lane_place (bytes_eq kind (codes "sum")) _ _ (IsEarly-made lane_place _ (all_of (arg_of jobs) words) (IsEarly-all_of (arg_of jobs) (IsEarly-arg_of jobs) words))
    (IsEarly-if lane_place (bytes_eq kind (codes "digest")) _ _ (IsEarly-digest_of jobs words)
    (IsEarly-if lane_place (bytes_eq kind (codes "count")) _ _ (IsEarly-count_of jobs words)
    (IsEarly-if lane_place (bytes_eq kind (codes "mix")) _ _ (IsEarly-mix_of jobs words)
    (IsEarly-if lane_place (bytes_eq kind (codes "words")) (Ok (Words words)) (Err BadWord) tt (omega arith)))))

IsEarly-work_of : (jobs : List DepJob) (words : List (List ℕ)) → IsEarly lane_place (work_of jobs words)
IsEarly-work_of jobs [] = omega arith
IsEarly-work_of jobs (kind ∷ arguments) = IsEarly-work_of_kind jobs kind arguments

IsEarly-dep_job_of : (jobs : List DepJob) (words : List (List ℕ)) → IsEarly lane_place (dep_job_of jobs words)
IsEarly-dep_job_of jobs [] = omega arith
IsEarly-dep_job_of jobs (lane ∷ work) =
    IsEarly-made lane_place _ (both (lane_of lane) (work_of jobs work))
    (IsEarly-both lane_place (lane_of lane) (work_of jobs work) (IsEarly-lane_of_number (number_of lane)) (IsEarly-work_of jobs work))

-- ---- the causes of a lane and of work are named

all_of-names : {X Y : Type 0} (f : X → Result Y TextCause) (xs : List X) → NamesFirst (flat_map (λ x. causes (f x)) xs) (all_of f xs)
all_of-names f [] = refl
all_of-names f (x ∷ xs) =
    NamesFirst-made _ _ (both (f x) (all_of f xs)) (NamesFirst-both (causes (f x)) (flat_map (λ y. causes (f y)) xs) (f x) (all_of f xs) (NamesFirst-part (f x)) (all_of-names f xs))

digest_of-names : (jobs : List DepJob) (words : List (List ℕ)) → NamesFirst (digest_causes jobs words) (digest_of jobs words)
digest_of-names jobs [] = IsFirstCause-alone BadWord
digest_of-names jobs (bytes ∷ []) = NamesFirst-made _ _ (piece_of jobs bytes) (NamesFirst-part (piece_of jobs bytes))
digest_of-names jobs (bytes ∷ next ∷ others) = IsFirstCause-alone BadWord

count_of-names : (jobs : List DepJob) (words : List (List ℕ)) → NamesFirst (count_causes jobs words) (count_of jobs words)
count_of-names jobs [] = IsFirstCause-alone BadWord
count_of-names jobs (byte ∷ []) = IsFirstCause-alone BadWord
count_of-names jobs (byte ∷ bytes ∷ []) =
    let one = or_bad_number (byte_of byte) in
    let other = piece_of jobs bytes in
    NamesFirst-made _ _ (both one other) (NamesFirst-both (causes one) (causes other) one other (NamesFirst-part one) (NamesFirst-part other))
count_of-names jobs (byte ∷ bytes ∷ next ∷ others) = IsFirstCause-alone BadWord

mix_of-names : (jobs : List DepJob) (words : List (List ℕ)) → NamesFirst (mix_causes jobs words) (mix_of jobs words)
mix_of-names jobs [] = IsFirstCause-alone BadWord
mix_of-names jobs (start ∷ []) = IsFirstCause-alone BadWord
mix_of-names jobs (start ∷ turns ∷ []) =
    let one = arg_of jobs start in
    let other = or_bad_number (number_within 0 most_turns turns) in
    NamesFirst-made _ _ (both one other) (NamesFirst-both (causes one) (causes other) one other (NamesFirst-part one) (NamesFirst-part other))
mix_of-names jobs (start ∷ turns ∷ next ∷ others) = IsFirstCause-alone BadWord

work_of-names : (jobs : List DepJob) (words : List (List ℕ)) → NamesFirst (work_causes jobs words) (work_of jobs words)
work_of-names jobs [] = IsFirstCause-alone BadWord
work_of-names jobs (kind ∷ words) =
    NamesFirst-if (bytes_eq kind (codes "sum")) _ _ _ _ (NamesFirst-made _ _ (all_of (arg_of jobs) words) (all_of-names (arg_of jobs) words))
    (NamesFirst-if (bytes_eq kind (codes "digest")) _ _ _ _ (digest_of-names jobs words)
    (NamesFirst-if (bytes_eq kind (codes "count")) _ _ _ _ (count_of-names jobs words)
    (NamesFirst-if (bytes_eq kind (codes "mix")) _ _ _ _ (mix_of-names jobs words)
    (NamesFirst-if (bytes_eq kind (codes "words")) _ _ (Ok (Words words)) (Err BadWord) refl (IsFirstCause-alone BadWord)))))

dep_job_of-names : (jobs : List DepJob) (words : List (List ℕ)) → NamesFirst (job_causes jobs words) (dep_job_of jobs words)
dep_job_of-names jobs [] = IsFirstCause-alone BadWord
dep_job_of-names jobs (lane ∷ work) =
    NamesFirst-made _ _ (both (lane_of lane) (work_of jobs work))
    (NamesFirst-both (causes (lane_of lane)) (work_causes jobs work) (lane_of lane) (work_of jobs work) (NamesFirst-part (lane_of lane)) (work_of-names jobs work))

-- ---- lines

add_job-names : (jobs : List DepJob) (job : DepJob) → NamesFirst (many_causes jobs ++ deep_causes jobs (Ok job)) (add_job jobs job)
add_job-names jobs job =
    let deep = nat_le most_levels (level_behind (levels_of jobs) job.work) in
    elim (nat_le most_dep_jobs (length jobs)) as (λ b. NamesFirst ((if b then TooMany ∷ [] else []) ++ (if deep then TooDeep ∷ [] else [])) (if b then Err TooMany else if deep then Err TooDeep else Ok (jobs ++ job ∷ []))) [
      | true ↦ IsFirstCause-before (TooMany ∷ []) (if deep then TooDeep ∷ [] else []) TooMany (IsFirstCause-alone TooMany) (AreBehind-if (rank TooMany) TooDeep deep (omega arith))
      | false ↦ names_if TooDeep (jobs ++ job ∷ []) deep
    ]

added-names : (jobs : List DepJob) (some : List TextCause) (part : Result DepJob TextCause) → NamesFirst some part → IsEarly lane_place part
    → NamesFirst (some ++ (many_causes jobs ++ deep_causes jobs part)) (part >>= add_job jobs)
added-names jobs some (Ok job) none early =
    subst (λ (before : List TextCause). NamesFirst (before ++ (many_causes jobs ++ deep_causes jobs (Ok job))) (add_job jobs job)) (sym none) (add_job-names jobs job)
added-names jobs some (Err cause) first early =
    IsFirstCause-before some (many_causes jobs ++ []) cause first
    (All-append (λ (other : TextCause). rank cause ≤ rank other) (many_causes jobs) [] (AreBehind-if (rank cause) TooMany (nat_le most_dep_jobs (length jobs)) (omega arith)) (All-nil (λ (other : TextCause). rank cause ≤ rank other)))

pub meaning-names : (number : ℕ) (jobs : List DepJob) (words : List (List ℕ)) → NamesFirst (applying number jobs words) (meaning number jobs words)
meaning-names number jobs [] = IsFirstCause-alone BadWord
meaning-names number jobs (word ∷ words) =
    NamesFirst-if (bytes_eq word (codes "job")) _ _ _ _
    (added-names jobs (job_causes jobs words) (dep_job_of jobs words) (dep_job_of-names jobs words) (IsEarly-dep_job_of jobs words))
    (IsFirstCause-alone BadWord)
