-- Parts of a line, one after another.
use Rattle.std.proofs.Common.{◌≡◌, ℕ, ◌≤◌, ◌<◌, Bool, true, false, List, [], ◌∷◌, ◌++◌, Option, Some, None, Result, Ok, Err, refl, sym, ap, ◌∙◌, arith, append_assoc, append-nil, nat_le, leb-true, leb-false, le-leb, if◌then◌else◌}
use Rattle.std.specs.Borrow.{Bor}
use Rattle.std.specs.Iterator.{YieldsFirstRef}
use Rattle.std.specs.Option.{is_some}
use Rattle.std.proofs.lemmas.Bool.{false_from_ne_true}
use Rattle.bq_model.specs.declared.fault.TextCause.{TextCause}
use Rattle.text_lines.specs.declared.refused.LineRefused.{LineRefused}
use Rattle.text_lines.specs.declared.refused.LineRefused.TheVariants.{Cause, NoMemory}
use Rattle.text_lines.specs.Cause.{rank, earlier, both}
use Rattle.text_lines.specs.Parts.{◌>>=◌}
use Rattle.text_lines.specs.Refusals.{ReadsPart}
use Rattle.dep_text.specs.DepWords.{all_of}
use Rattle.dep_text.specs.SoFar.{said, behind, one_more}

-- two parts that aren't read, and what would follow from them
pub ReadsPart-both : {A B C : Type 0} (one found : Result A TextCause) (other : Result B TextCause) (next : A × B → Result C TextCause) (whole : Result C TextCause) (refused : LineRefused)
    → found ≡ one → whole ≡ (both one other >>= next) → ReadsPart (both found other) (Err refused) → ReadsPart whole (Err refused)
ReadsPart-both one found other next whole (Cause cause) found_is whole_is reads =
    whole_is ∙ ap (λ (both_are : Result (_ × _) TextCause). both_are >>= next) (ap (λ (part : Result _ TextCause). both part other) (sym found_is) ∙ reads)
ReadsPart-both one found other next whole NoMemory found_is whole_is reads = tt

-- no word is left
pub no_word : (left rest : List (List ℕ)) (word : Option (Bor (List ℕ))) → YieldsFirstRef {S = List (List ℕ)} {A = List ℕ} (λ w. w) left word rest → false ≡ is_some word → left ≡ []
no_word left rest None yields none = yields.0
no_word left rest (Some word) yields none = cc none

-- of three causes the one that comes first, however they are compared
earlier-assoc : (a b c : TextCause) → earlier a (earlier b c) ≡ earlier (earlier a b) c
earlier-assoc a b c =
    elim (nat_le (rank a) (rank b)) as (λ t. nat_le (rank a) (rank b) ≡ t → earlier a (earlier b c) ≡ earlier (if t then a else b) c) [
      | true ↦ λ ab. elim (nat_le (rank b) (rank c)) as (λ t. nat_le (rank b) (rank c) ≡ t → earlier a (if t then b else c) ≡ earlier a c) [
        | true ↦ λ bc.
            let first = leb-true (rank a) (rank b) ab in
            let second = leb-true (rank b) (rank c) bc in
            let ac = le-leb (rank a) (rank c) (omega arith) in
            rw (ab, ac) refl
        | false ↦ λ bc. refl
      ] refl
      | false ↦ λ ab. elim (nat_le (rank b) (rank c)) as (λ t. nat_le (rank b) (rank c) ≡ t → earlier a (if t then b else c) ≡ (if t then b else c)) [
        | true ↦ λ bc. rw ab refl
        | false ↦ λ bc.
            let first = leb-false (rank a) (rank b) ab in
            let second = leb-false (rank b) (rank c) bc in
            let ac : nat_le (rank a) (rank c) ≡ false = false_from_ne_true _ (λ low. (let le = leb-true (rank a) (rank c) low in absurd (omega arith))) in
            rw ac refl
      ] refl
    ] refl

module _ {X : Type 0} where
  -- nothing before a part
  pub behind-none : (part : Result (List X) TextCause) → behind (Ok []) part ≡ part
  behind-none (Ok found) = refl
  behind-none (Err cause) = refl

  -- a part before two others
  behind-more : (one : Result (List X) TextCause) (more : Result X TextCause) (rest : Result (List X) TextCause)
      → behind one (both more rest >>= (λ found. Ok (found.0 ∷ found.1))) ≡ behind (one_more one more) rest
  behind-more (Ok found) (Ok x) (Ok others) = ap Ok (sym (append_assoc found (x ∷ []) others))
  behind-more (Ok found) (Ok x) (Err c) = refl
  behind-more (Ok found) (Err b) (Ok others) = refl
  behind-more (Ok found) (Err b) (Err c) = refl
  behind-more (Err a) (Ok x) (Ok others) = refl
  behind-more (Err a) (Ok x) (Err c) = refl
  behind-more (Err a) (Err b) (Ok others) = refl
  behind-more (Err a) (Err b) (Err c) = ap Err (earlier-assoc a b c)

  -- nothing behind what was said
  pub behind-all : (found : List X) (refused : Option TextCause) → behind (said found refused) (Ok []) ≡ said found refused
  behind-all found None = ap Ok (append-nil found)
  behind-all found (Some cause) = refl

module _ {W X : Type 0} (f : W → Result X TextCause) where
  -- a step of a loop over what is left, which takes the first element
  pub behind-step : (left rest : List W) (w : W) (one next : Result (List X) TextCause) (all : Result (List X) TextCause) → left ≡ w ∷ rest → next ≡ one_more one (f w)
      → behind one (all_of f left) ≡ all → behind next (all_of f rest) ≡ all
  behind-step left rest w one next all left_is next_is before =
      ap (λ (part : Result (List X) TextCause). behind part (all_of f rest)) next_is
      ∙ (sym (behind-more one (f w) (all_of f rest)) ∙ (ap (λ (ws : List W). behind one (all_of f ws)) (sym left_is) ∙ before))

  -- nothing is left
  pub behind-done : (left : List W) (found : List X) (refused : Option TextCause) (all : Result (List X) TextCause) → left ≡ []
      → behind (said found refused) (all_of f left) ≡ all → all ≡ said found refused
  behind-done left found refused all left_is before =
      sym before ∙ (ap (λ (ws : List W). behind (said found refused) (all_of f ws)) left_is ∙ behind-all found refused)
