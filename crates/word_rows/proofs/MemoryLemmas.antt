-- The words of a table after a write.
use Rattle.std.proofs.Common.{◌≡◌, ◌≢◌, ℕ, List, length, inl, inr, sym, ap, ◌∙◌, arith}
use Rattle.std.proofs.lemmas.Bool.{cases_eq}
use Rattle.std.proofs.lemmas.List.{length-set, get_or-set_same, get_or-set_other}
use Rattle.bq_model.specs.declared.shape.Shape.{Shape}
use Rattle.word_rows.specs.declared.location.Location.{Location}
use Rattle.word_rows.specs.declared.content.Content.{Content}
use Rattle.word_rows.specs.Sizes.{words_of}
use Rattle.word_rows.specs.Layout.{IsValid, index_of}
use Rattle.word_rows.specs.Contents.{coded}
use Rattle.word_rows.specs.Memory.{word_at, words_after, Shows, Writes}
use Rattle.word_rows.proofs.LayoutLemmas.{index_of-once, index_of-lt}

-- the word that was written
pub word_at-here : (s : Shape) (words : List ℕ) (l : Location) (x : Content) → length words ≡ words_of s → IsValid s l
    → word_at s (words_after s words l x) l ≡ coded x
word_at-here s words l x long valid =
    let below = index_of-lt s l valid in
    get_or-set_same words (index_of s l) (coded x) 0 (omega arith)

-- another location, another index: its word stays
pub word_at-elsewhere : (s : Shape) (words : List ℕ) (k l : Location) (x : Content) → IsValid s k → IsValid s l → k ≢ l
    → word_at s (words_after s words l x) k ≡ word_at s words k
word_at-elsewhere s words k l x at_k at_l other =
    get_or-set_other words (index_of s l) (index_of s k) (coded x) 0 (λ same. other (index_of-once s k l at_k at_l same))

pub length-words_after : (s : Shape) (words : List ℕ) (l : Location) (x : Content) → length (words_after s words l x) ≡ length words
length-words_after s words l x = length-set words (index_of s l) (coded x)

-- the words show what is held, after a write too
pub Shows-words_after : (s : Shape) (words : List ℕ) (old new : Location → Content) (l : Location) (x : Content)
    → Shows s words old → IsValid s l → Writes old l x new → Shows s (words_after s words l x) new
Shows-words_after s words old new l x shown valid written = record {
  long = length-words_after s words l x ∙ shown.long;
  each = λ k ok. elim (cases_eq (index_of s k) (index_of s l)) [
    | inl same ↦
        let one : k ≡ l = index_of-once s k l ok valid same in
        ap (λ (j : Location). word_at s (words_after s words l x) j) one
        ∙ word_at-here s words l x shown.long valid
        ∙ sym (ap coded (ap new one ∙ written.here))
    | inr other ↦
        let apart : k ≢ l = λ one. other (ap (λ (j : Location). index_of s j) one) in
        word_at-elsewhere s words k l x ok valid apart ∙ shown.each k ok ∙ ap coded (sym (written.elsewhere k apart))
  ];
}
