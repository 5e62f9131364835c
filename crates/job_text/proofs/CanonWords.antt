-- The words that are printed of a job and of a lane are read back.
use Rattle.std.proofs.Common.{◌≡◌, ℕ, ◌^◌, ◌<◌, ◌≤◌, true, List, [], ◌∷◌, Option, Some, Ok, refl, ap, arith, All, map, nat_le, le-leb, codes, decimal}
use Rattle.std.specs.Option.{option_map}
use Rattle.std.proofs.lemmas.List.Elements.{All-nil, All-cons, All-head, All-tail}
use Rattle.text_lines.specs.Words.{IsWord}
use Rattle.text_lines.specs.Number.{number_of}
use Rattle.text_lines.specs.Printed.{printed_hex, printed_byte}
use Rattle.text_lines.proofs.IsWordLemmas.{IsWord-from_test}
use Rattle.text_lines.proofs.PrintedLines.{AreWords}
use Rattle.text_lines.proofs.PrintedValues.{IsWord-decimal, number_of-decimal, IsWord-printed_hex, IsWord-printed_byte, hex_of-printed_hex, byte_of-printed_byte}
use Rattle.job_work.specs.declared.job.Job.{Job}
use Rattle.job_work.specs.declared.job.Job.TheVariants.{Sum, Digest, Count, Mix, Words}
use Rattle.text_lines.specs.Each.{each_of}
use Rattle.text_lines.specs.Parts.{or_bad_number}
use Rattle.job_text.specs.JobFile.{IsInRange, most_lane, most_turns}
use Rattle.job_text.specs.JobWords.{lane_of, job_of}
use Rattle.job_text.specs.Canon.{job_words}

-- a fixed word before others
AreWords-cons : (word : List ℕ) (words : List (List ℕ)) → IsWord word → AreWords words → AreWords (word ∷ words)
AreWords-cons word words is are = All-cons IsWord word words is are

AreWords-one : (word : List ℕ) → IsWord word → AreWords (word ∷ [])
AreWords-one word is = AreWords-cons word [] is (All-nil IsWord)

AreWords-decimals : (numbers : List ℕ) → All (λ number. number < 2 ^ 64) numbers → AreWords (map decimal numbers)
AreWords-decimals [] are = All-nil IsWord
AreWords-decimals (number ∷ numbers) are =
    AreWords-cons (decimal number) (map decimal numbers) (IsWord-decimal number (All-head (λ n. n < 2 ^ 64) number numbers are)) (AreWords-decimals numbers (All-tail (λ n. n < 2 ^ 64) number numbers are))

pub AreWords-job_words : (job : Job) → IsInRange job → AreWords (job_words job)
AreWords-job_words (Sum numbers) range = AreWords-cons (codes "sum") (map decimal numbers) (IsWord-from_test (codes "sum") refl) (AreWords-decimals numbers range)
AreWords-job_words (Digest bytes) range =
    AreWords-cons (codes "digest") (printed_hex bytes ∷ []) (IsWord-from_test (codes "digest") refl) (AreWords-one (printed_hex bytes) (IsWord-printed_hex bytes range))
AreWords-job_words (Count byte bytes) range =
    AreWords-cons (codes "count") (printed_byte byte ∷ printed_hex bytes ∷ []) (IsWord-from_test (codes "count") refl)
    (AreWords-cons (printed_byte byte) (printed_hex bytes ∷ []) (IsWord-printed_byte byte range.0) (AreWords-one (printed_hex bytes) (IsWord-printed_hex bytes range.1)))
AreWords-job_words (Mix start turns) range =
    let few = range.1 in
    AreWords-cons (codes "mix") (decimal start ∷ decimal turns ∷ []) (IsWord-from_test (codes "mix") refl)
    (AreWords-cons (decimal start) (decimal turns ∷ []) (IsWord-decimal start range.0) (AreWords-one (decimal turns) (IsWord-decimal turns (omega arith))))
AreWords-job_words (Words words) range = AreWords-cons (codes "words") words (IsWord-from_test (codes "words") refl) range

each_of-decimal : (numbers : List ℕ) → All (λ number. number < 2 ^ 64) numbers → each_of number_of (map decimal numbers) ≡ Some numbers
each_of-decimal [] are = refl
each_of-decimal (number ∷ numbers) are =
    let first = number_of-decimal number (All-head (λ n. n < 2 ^ 64) number numbers are) in
    let others = each_of-decimal numbers (All-tail (λ n. n < 2 ^ 64) number numbers are) in
    rw (first, others) refl

-- a job is read back
pub job_of-job_words : (job : Job) → IsInRange job → job_of (job_words job) ≡ Ok job
job_of-job_words (Sum numbers) range = ap (λ (found : Option (List ℕ)). or_bad_number (option_map Sum found)) (each_of-decimal numbers range)
job_of-job_words (Digest bytes) range = ap (λ (found : Option (List ℕ)). or_bad_number (option_map Digest found)) (hex_of-printed_hex bytes range)
job_of-job_words (Count byte bytes) range =
    let one = byte_of-printed_byte byte range.0 in
    let among = hex_of-printed_hex bytes range.1 in
    rw (one, among) refl
job_of-job_words (Mix start turns) range =
    let few = range.1 in
    let first = number_of-decimal start range.0 in
    let often = number_of-decimal turns (omega arith) in
    let low : nat_le 0 turns ≡ true = le-leb 0 turns (omega arith) in
    let high : nat_le turns most_turns ≡ true = le-leb turns most_turns few in
    rw (first, often, low, high) refl
job_of-job_words (Words words) range = refl

-- a lane is read back
pub lane_of-decimal : (lane : ℕ) → lane ≤ most_lane → lane_of (decimal lane) ≡ Ok lane
lane_of-decimal lane low =
    let number_is = number_of-decimal lane (omega arith) in
    let low_is : nat_le lane most_lane ≡ true = le-leb lane most_lane low in
    rw (number_is, low_is) refl
