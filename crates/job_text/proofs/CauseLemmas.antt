-- The fault of a line is the first of the causes that apply to it.
use Rattle.std.proofs.Common.{◌≡◌, ℕ, ◌+◌, ◌≤◌, true, false, Bool, List, [], ◌∷◌, ◌++◌, length, Option, Some, None, Result, Ok, Err, refl, arith, subst, All, nat_le, codes, if◌then◌else◌}
use Rattle.std.specs.Str.{bytes_eq}
use Rattle.std.specs.Option.{option_map}
use Rattle.std.proofs.lemmas.List.Elements.{All-nil, All-cons, All-append}
use Rattle.bq_model.specs.declared.fault.TextCause.{TextCause}
use Rattle.bq_model.specs.declared.fault.TextCause.TheVariants.{BadWord, BadNumber, BadLane, BlockTooLong, TooMany}
use Rattle.text_lines.specs.Cause.{rank, both, causes, IsFirstCause, NamesFirst}
use Rattle.text_lines.specs.Each.{each_of}
use Rattle.text_lines.specs.Hex.{hex_of}
use Rattle.text_lines.specs.Number.{number_of}
use Rattle.text_lines.specs.Parts.{or_bad_number, ◌>>=◌}
use Rattle.text_lines.proofs.FirstCauses.{AreBehind, IsEarly, IsEarly-if, IsEarly-both, IsEarly-or_bad_number, NamesFirst-if, NamesFirst-part, NamesFirst-both, NamesFirst-then, IsFirstCause-alone, IsFirstCause-before, IsFirstCause-behind}
use Rattle.job_work.specs.declared.job.Job.{Job}
use Rattle.job_work.specs.declared.job.Job.TheVariants.{Sum, Digest, Words}
use Rattle.job_text.specs.declared.file.Unit.{Unit}
use Rattle.job_text.specs.declared.block.Block.{Block}
use Rattle.job_text.specs.JobFile.{job_count, most_jobs, most_in_unit}
use Rattle.job_text.specs.JobWords.{lane_of, lane_of_number, digest_of, count_of, mix_of, job_of, job_of_kind, lane_job_of}
use Rattle.job_text.specs.Grammar.{LinesSay, add_job, put_job, end_block, open_block, outside, inside, line_in, meaning}
use Rattle.job_text.specs.LineCauses.{word_causes, place_causes, count_causes, job_causes, block_causes, outside_causes, inside_causes, causes_in, applying}

-- the place of a bad lane, behind which no cause of a lane or a job comes
abbrev pub lane_place : ℕ
lane_place = rank BadLane

-- ---- the causes of lanes and jobs come early

pub IsEarly-lane_of_number : (found : Option ℕ) → IsEarly lane_place (lane_of_number found)
IsEarly-lane_of_number None = omega arith
IsEarly-lane_of_number (Some number) = IsEarly-if lane_place (nat_le number 15) (Ok number) (Err BadLane) tt (omega arith)

IsEarly-digest_of : (words : List (List ℕ)) → IsEarly lane_place (digest_of words)
IsEarly-digest_of [] = omega arith
IsEarly-digest_of (bytes ∷ []) = IsEarly-or_bad_number lane_place (option_map Digest (hex_of bytes)) (omega arith)
IsEarly-digest_of (bytes ∷ next ∷ others) = omega arith

IsEarly-count_of : (words : List (List ℕ)) → IsEarly lane_place (count_of words)
IsEarly-count_of [] = omega arith
IsEarly-count_of (byte ∷ []) = omega arith
IsEarly-count_of (byte ∷ bytes ∷ []) = IsEarly-or_bad_number lane_place _ (omega arith)
IsEarly-count_of (byte ∷ bytes ∷ next ∷ others) = omega arith

IsEarly-mix_of : (words : List (List ℕ)) → IsEarly lane_place (mix_of words)
IsEarly-mix_of [] = omega arith
IsEarly-mix_of (start ∷ []) = omega arith
IsEarly-mix_of (start ∷ turns ∷ []) = IsEarly-or_bad_number lane_place _ (omega arith)
IsEarly-mix_of (start ∷ turns ∷ next ∷ others) = omega arith

IsEarly-job_of_kind : (kind : List ℕ) (words : List (List ℕ)) → IsEarly lane_place (job_of_kind kind words)
IsEarly-job_of_kind kind words =
    IsEarly-if lane_place (bytes_eq kind (codes "sum")) _ _ (IsEarly-or_bad_number lane_place (option_map Sum (each_of number_of words)) (omega arith))
    (IsEarly-if lane_place (bytes_eq kind (codes "digest")) _ _ (IsEarly-digest_of words)
    (IsEarly-if lane_place (bytes_eq kind (codes "count")) _ _ (IsEarly-count_of words)
    (IsEarly-if lane_place (bytes_eq kind (codes "mix")) _ _ (IsEarly-mix_of words)
    (IsEarly-if lane_place (bytes_eq kind (codes "words")) (Ok (Words words)) (Err BadWord) tt (omega arith)))))

IsEarly-job_of : (words : List (List ℕ)) → IsEarly lane_place (job_of words)
IsEarly-job_of [] = omega arith
IsEarly-job_of (kind ∷ arguments) = IsEarly-job_of_kind kind arguments

IsEarly-lane_job_of : (words : List (List ℕ)) → IsEarly lane_place (lane_job_of words)
IsEarly-lane_job_of [] = omega arith
IsEarly-lane_job_of (lane ∷ job) = IsEarly-both lane_place (lane_of lane) (job_of job) (IsEarly-lane_of_number (number_of lane)) (IsEarly-job_of job)

-- ---- the causes of counts come late

pub AreBehind-if : (place : ℕ) (cause : TextCause) (test : Bool) → place ≤ rank cause → AreBehind place (if test then cause ∷ [] else [])
AreBehind-if place cause true late = All-cons (λ other. place ≤ rank other) cause [] late (All-nil (λ other. place ≤ rank other))
AreBehind-if place cause false late = All-nil (λ other. place ≤ rank other)

AreBehind-put : (place in_block in_file : ℕ) → place ≤ rank BlockTooLong → AreBehind place (place_causes in_block ++ count_causes in_file)
AreBehind-put place in_block in_file late =
    All-append (λ other. place ≤ rank other) (place_causes in_block) (count_causes in_file)
    (AreBehind-if place BlockTooLong (nat_le most_in_unit in_block) late) (AreBehind-if place TooMany (nat_le most_jobs in_file) (omega arith))

-- one cause, where there is one
pub names_if : {A : Type 0} (cause : TextCause) (taken : A) (test : Bool) → NamesFirst {A = A} (if test then cause ∷ [] else []) (if test then Err cause else Ok taken)
names_if cause taken true = IsFirstCause-alone cause
names_if cause taken false = refl

add_job-names : (units : List Unit) (found : ℕ × Job) → NamesFirst (count_causes (job_count units)) (add_job units found)
add_job-names units found = names_if TooMany _ (nat_le most_jobs (job_count units))

put_job-names : (units : List Unit) (block : Block) (job : Job) → NamesFirst (place_causes (length block.jobs) ++ count_causes (job_count units + length block.jobs)) (put_job units block job)
put_job-names units block job =
    let rest = nat_le most_jobs (job_count units + length block.jobs) in
    let more : LinesSay = record { units = units; block = Some (record { line = block.line; lane = block.lane; jobs = block.jobs ++ job ∷ [] }) } in
    elim (nat_le most_in_unit (length block.jobs)) as (λ b. NamesFirst ((if b then BlockTooLong ∷ [] else []) ++ (if rest then TooMany ∷ [] else [])) (if b then Err BlockTooLong else if rest then Err TooMany else Ok more)) [
      | true ↦ IsFirstCause-before (BlockTooLong ∷ []) (if rest then TooMany ∷ [] else []) BlockTooLong (IsFirstCause-alone BlockTooLong) (AreBehind-if (rank BlockTooLong) TooMany rest (omega arith))
      | false ↦ names_if TooMany more rest
    ]

-- ---- lines

lane_job_of-names : (words : List (List ℕ)) → NamesFirst (job_causes words) (lane_job_of words)
lane_job_of-names [] = IsFirstCause-alone BadWord
lane_job_of-names (lane ∷ job) = NamesFirst-both (causes (lane_of lane)) (causes (job_of job)) (lane_of lane) (job_of job) (NamesFirst-part (lane_of lane)) (NamesFirst-part (job_of job))

-- a lane with a word behind it has a word too many, whatever the lane is
lane_with_more : (lane : Result ℕ TextCause) → ((cause : TextCause) → lane ≡ Err cause → rank BadWord ≤ rank cause) → IsFirstCause (causes lane ++ BadWord ∷ []) BadWord
lane_with_more (Ok lane) late = IsFirstCause-alone BadWord
lane_with_more (Err cause) late =
    IsFirstCause-behind (cause ∷ []) (BadWord ∷ []) BadWord
    (All-cons (λ other. rank BadWord ≤ rank other) cause [] (late cause refl) (All-nil (λ other. rank BadWord ≤ rank other))) (IsFirstCause-alone BadWord)

lane_of_number-late : (found : Option ℕ) (cause : TextCause) → lane_of_number found ≡ Err cause → rank BadWord ≤ rank cause
lane_of_number-late None cause is =
    let same : BadNumber ≡ cause = cc is in
    subst (λ c. rank BadWord ≤ rank c) same (omega arith)
lane_of_number-late (Some number) cause is =
    elim (nat_le number 15) as (λ b. (if b then Ok number else Err BadLane) ≡ Err cause → rank BadWord ≤ rank cause) [
      | true ↦ λ is. cc is
      | false ↦ λ is.
          let same : BadLane ≡ cause = cc is in
          subst (λ c. rank BadWord ≤ rank c) same (omega arith)
    ] is

open_block-names : (number : ℕ) (units : List Unit) (words : List (List ℕ)) → NamesFirst (block_causes words) (open_block number units words)
open_block-names number units [] = IsFirstCause-alone BadWord
open_block-names number units (lane ∷ []) = opened (lane_of lane) where
  opened : (found : Result ℕ TextCause) → NamesFirst {A = LinesSay} (causes found ++ []) (found >>= (λ lane. Ok (record { units = units; block = Some (record { line = number; lane = lane; jobs = [] }) })))
  opened (Ok lane) = refl
  opened (Err cause) = IsFirstCause-alone cause
open_block-names number units (lane ∷ next ∷ others) = lane_with_more (lane_of lane) (lane_of_number-late (number_of lane))

end_block-names : (units : List Unit) (block : Block) (words : List (List ℕ)) → NamesFirst (word_causes words) (end_block units block words)
end_block-names units block [] = refl
end_block-names units block (word ∷ words) = IsFirstCause-alone BadWord

outside-names : (number : ℕ) (units : List Unit) (words : List (List ℕ)) → NamesFirst (outside_causes units words) (outside number units words)
outside-names number units [] = IsFirstCause-alone BadWord
outside-names number units (word ∷ words) =
    NamesFirst-if (bytes_eq word (codes "job")) _ _ _ _
    (NamesFirst-then lane_place (job_causes words) (count_causes (job_count units)) (lane_job_of words) (add_job units)
    (lane_job_of-names words) (IsEarly-lane_job_of words) (AreBehind-if lane_place TooMany (nat_le most_jobs (job_count units)) (omega arith)) (add_job-names units))
    (NamesFirst-if (bytes_eq word (codes "block")) _ _ _ _ (open_block-names number units words) (IsFirstCause-alone BadWord))

inside-names : (units : List Unit) (block : Block) (words : List (List ℕ)) → NamesFirst (inside_causes units block words) (inside units block words)
inside-names units block [] = IsFirstCause-alone BadWord
inside-names units block (word ∷ words) =
    NamesFirst-if (bytes_eq word (codes "put")) _ _ _ _
    (NamesFirst-then lane_place (causes (job_of words)) (place_causes (length block.jobs) ++ count_causes (job_count units + length block.jobs)) (job_of words) (put_job units block)
    (NamesFirst-part (job_of words)) (IsEarly-job_of words) (AreBehind-put lane_place (length block.jobs) (job_count units + length block.jobs) (omega arith)) (put_job-names units block))
    (NamesFirst-if (bytes_eq word (codes "end")) _ _ _ _ (end_block-names units block words) (IsFirstCause-alone BadWord))

line_in-names : (block : Option Block) (number : ℕ) (units : List Unit) (words : List (List ℕ)) → NamesFirst (causes_in block units words) (line_in block number units words)
line_in-names None number units words = outside-names number units words
line_in-names (Some block) number units words = inside-names units block words

pub meaning-names : (number : ℕ) (so_far : LinesSay) (words : List (List ℕ)) → NamesFirst (applying number so_far words) (meaning number so_far words)
meaning-names number so_far words = line_in-names so_far.block number so_far.units words
