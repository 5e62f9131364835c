-- The words of a group that begin with that of a Shut, and those that don't.
use Rattle.std.proofs.Common.{◌≡◌, ◌&&◌, ℕ, Bool, true, false, not, List, [], ◌∷◌, Err, refl, sym, ap, ◌∙◌, codes}
use Rattle.std.specs.List.{list_all}
use Rattle.std.specs.Str.{bytes_eq}
use Rattle.bq_model.specs.declared.fault.TextCause.TheVariants.{BadWord}
use Rattle.trace_text.specs.Claims.{has_letter, claims_of}

abbrev pub begins_shut : List (List ℕ) → Bool
begins_shut [] = false
begins_shut (word ∷ words) = bytes_eq word (codes "s")

-- behind a word that is no Shut the first of all words is none
pub still_none : (second some : Bool) (word : List ℕ) (rest words all : List (List ℕ)) → words ≡ word ∷ rest → (some ≡ false → words ≡ all) → (some ≡ true → second ≡ true → begins_shut all ≡ false)
    → (second && not some && bytes_eq word (codes "s")) ≡ false → second ≡ true → begins_shut all ≡ false
still_none second true word rest words all is first none other on = none refl on
still_none second false word rest words all is first none other on =
    sym (ap begins_shut (sym is ∙ first refl)) ∙ (sym (ap (λ (b : Bool). b && true && bytes_eq word (codes "s")) on) ∙ other)

-- a wrong letter is a bad word
wrong_letter : (second : Bool) (words : List (List ℕ)) → (second ≡ true → begins_shut words ≡ false) → list_all (has_letter second) words ≡ false → claims_of second words ≡ Err BadWord
wrong_letter false [] none wrong = refl
wrong_letter false (word ∷ words) none wrong = rw wrong refl
wrong_letter true [] none wrong = refl
wrong_letter true (word ∷ words) none wrong = let other = none refl in rw (other, wrong) refl

pub bad_letter : (second : Bool) (word : List ℕ) (rest words all : List (List ℕ)) → words ≡ word ∷ rest → list_all (has_letter second) words ≡ list_all (has_letter second) all → has_letter second word ≡ false
    → (second ≡ true → begins_shut all ≡ false) → claims_of second all ≡ Err BadWord
bad_letter second word rest words all is letters wrong none =
    wrong_letter second all none (sym letters ∙ (ap (list_all (has_letter second)) is ∙ rw wrong refl))
