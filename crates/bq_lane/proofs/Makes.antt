-- The words of a lane as they are made, one after another.
use Rattle.std.proofs.Common.{◌≡◌, ℕ, zero, suc, ◌<◌, List, [], ◌∷◌, ◌++◌, length, get_or, sym, refl, ap, ◌∙◌, subst, inl, inr, arith}
use Rattle.std.proofs.lemmas.Bool.{cases_eq}
use Rattle.atomic_table.specs.Table.{opening}
use Rattle.bq_model.specs.declared.shape.Shape.{Shape}
use Rattle.word_rows.specs.Sizes.{words_of}
use Rattle.word_rows.specs.declared.location.Location.{Location}
use Rattle.word_rows.specs.Layout.{IsValid, index_of}
use Rattle.word_rows.specs.Contents.{coded}
use Rattle.word_rows.specs.Opening.{opening_of}
use Rattle.word_rows.proofs.LayoutLemmas.{index_of-lt}
use Rattle.lane_rule.specs.Rule.{Ruled, opened}
use Rattle.lane_rule.proofs.Openings.{opens_ruled}
use Rattle.bq_lane.specs.Made.{AreOpening}

module _ {A : Type 0} where
  before : (xs : List A) (a d : A) (i : ℕ) → i < length xs → get_or (xs ++ a ∷ []) i d ≡ get_or xs i d
  before [] a d i below = absurd (omega arith)
  before (x ∷ xs) a d zero below = refl
  before (x ∷ xs) a d (suc i) below = before xs a d i (omega arith)

  behind : (xs : List A) (a d : A) (i : ℕ) → i ≡ length xs → get_or (xs ++ a ∷ []) i d ≡ a
  behind [] a d zero e = refl
  behind [] a d (suc i) e = absurd (omega arith)
  behind (x ∷ xs) a d zero e = absurd (omega arith)
  behind (x ∷ xs) a d (suc i) e = behind xs a d i (omega arith)

  longer : (xs : List A) (a : A) → length (xs ++ a ∷ []) ≡ suc (length xs)
  longer [] a = refl
  longer (x ∷ xs) a = ap suc (longer xs a)

pub more_words : (s : Shape) (words all : List ℕ) (n i : ℕ) → AreOpening s words → i ≡ length words → ((l : Location) → IsValid s l → index_of s l ≡ i → n ≡ coded (opening_of s l)) → all ≡ words ++ n ∷ [] → AreOpening s all
more_words s words all n i a at is e = subst (AreOpening s) (sym e) more where
  more : AreOpening s (words ++ n ∷ [])
  more l ok below = elim (cases_eq (index_of s l) (length words)) [
    | inl same ↦ behind words n 0 (index_of s l) same ∙ is l ok (same ∙ sym at)
    | inr other ↦ let long = longer words n in let less : index_of s l < length words = omega arith in before words n 0 (index_of s l) less ∙ a l ok less
  ]

pub made_ruled : (s : Shape) (words : List ℕ) → length words ≡ words_of s → AreOpening s words → Ruled s (opening words [] (opened s))
made_ruled s words long a = opens_ruled s words long (λ l ok. let below = index_of-lt s l ok in a l ok (omega arith))
