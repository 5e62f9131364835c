-- The number that a word is, one byte after another.
use Rattle.std.proofs.Common.{◌≡◌, ℕ, ◌+◌, ◌-◌, ◌*◌, ◌^◌, ◌<◌, ◌≤◌, Bool, true, false, ◌&&◌, List, length, get_or, take, Some, None, refl, sym, ap, ap₂, ◌∙◌, arith, if◌then◌else◌}
use Rattle.std.specs.List.{list_all}
use Rattle.std.specs.Char.{is_ascii_digit, IsAsciiDigit}
use Rattle.std.specs.Str.Parse.{digits_value}
use Rattle.std.proofs.lemmas.Bool.{false_from_ne_true}
use Rattle.std.proofs.lemmas.Bool.Decides.{nat_tests}
use Rattle.std.proofs.lemmas.List.Sums.{AllPass-from_list_all}
use Rattle.std.proofs.lemmas.List.{take_all}
use Rattle.std.proofs.lemmas.List.Folds.{list_all_more}
use Rattle.std.proofs.lemmas.Int.Digits.{digits_value_more}
use Rattle.std.proofs.lemmas.Str.{digit_value_digit}
use Rattle.std.proofs.lemmas.Str.Parse.{digits_value-take-le}
use Rattle.text_lines.specs.Number.{is_number, number_of}

pub IsAsciiDigit-from_test : (c : ℕ) → is_ascii_digit c ≡ true → IsAsciiDigit c
IsAsciiDigit-from_test c yes_is = grind (arith, nat_tests)

test_from_IsAsciiDigit : (c : ℕ) → IsAsciiDigit c → is_ascii_digit c ≡ true
test_from_IsAsciiDigit c digit = grind (arith, nat_tests)

-- the parts of the test
is_number-parts : (word : List ℕ) → is_number word ≡ true → (0 < length word) × (list_all is_ascii_digit word ≡ true) × (digits_value 10 word < 2 ^ 64)
is_number-parts word yes_is = grind (arith, nat_tests)

pub number_of-none : (word : List ℕ) → (is_number word ≡ true → ⊥) → number_of word ≡ None
number_of-none word refused = rw (false_from_ne_true (is_number word) refused) refl

pub number_of-some : (word : List ℕ) → 0 < length word → list_all is_ascii_digit word ≡ true → digits_value 10 word < 2 ^ 64 → number_of word ≡ Some (digits_value 10 word)
number_of-some word nonempty digits small =
    let yes_is : is_number word ≡ true = grind (arith, nat_tests) in
    rw yes_is refl

-- the value with one more digit
pub value-more : (word : List ℕ) (i : ℕ) → i < length word → IsAsciiDigit (get_or word i 0) → digits_value 10 (take (i + 1) word) ≡ digits_value 10 (take i word) * 10 + (get_or word i 0 - 48)
value-more word i within digit =
    let more = digits_value_more 10 word i within in
    let place = digit_value_digit (get_or word i 0) digit in
    omega arith

-- a byte that is no digit, or a value that is too large, ends it
pub number_of-stops : (word : List ℕ) (i value : ℕ) → i < length word → value ≡ digits_value 10 (take i word)
    → (IsAsciiDigit (get_or word i 0) × (value * 10 + (get_or word i 0 - 48) < 2 ^ 64) → ⊥) → number_of word ≡ None
number_of-stops word i value within value_is stops =
    number_of-none word (λ yes_is.
    let parts = is_number-parts word yes_is in
    let digit : IsAsciiDigit (get_or word i 0) = IsAsciiDigit-from_test _ (AllPass-from_list_all is_ascii_digit word parts.1 i 0 within) in
    let more = value-more word i within digit in
    let below = digits_value-take-le 10 word (i + 1) (omega arith) in
    stops (digit, omega arith))

pub digits-more : (word : List ℕ) (i : ℕ) → i < length word → IsAsciiDigit (get_or word i 0) → list_all is_ascii_digit (take i word) ≡ true → list_all is_ascii_digit (take (i + 1) word) ≡ true
digits-more word i within digit digits =
    list_all_more is_ascii_digit word i 0 within ∙ ap₂ (λ (a b : Bool). a && b) digits (test_from_IsAsciiDigit _ digit)

-- the whole word is read
pub number_of-whole : (word : List ℕ) (i value : ℕ) → 0 < length word → length word ≤ i → list_all is_ascii_digit (take i word) ≡ true → value ≡ digits_value 10 (take i word) → value < 2 ^ 64
    → Some value ≡ number_of word
number_of-whole word i value nonempty whole digits value_is small =
    let all : take i word ≡ word = take_all i word whole in
    let value_of_word : value ≡ digits_value 10 word = value_is ∙ ap (digits_value 10) all in
    ap Some value_of_word ∙ sym (number_of-some word nonempty (rw (← all) digits) (omega arith))

pub some_if : (b : Bool) (one found : ℕ) → (if b then Some one else None) ≡ Some found → (b ≡ true) × (one ≡ found)
some_if true one found is = (refl, cc is)
some_if false one found is = cc is

-- a number that was read is below 2^64
pub number_of-below : (word : List ℕ) (number : ℕ) → number_of word ≡ Some number → number < 2 ^ 64
number_of-below word number is =
    let found = some_if (is_number word) (digits_value 10 word) number is in
    let small = (is_number-parts word found.0).2 in
    let same = found.1 in
    omega arith
