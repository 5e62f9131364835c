-- Each word lies in the table, and no two at one index.
use Rattle.std.proofs.Common.{◌≡◌, ℕ, ◌+◌, ◌*◌, ◌<◌, refl, ap, ◌∙◌, arith}
use Rattle.bq_model.specs.declared.shape.Shape.{Shape}
use Rattle.word_rows.specs.declared.location.AnnField.{AnnField}
use Rattle.word_rows.specs.declared.location.AnnField.TheVariants.{OldHead, OldTail, First, Last, Counts, BatchNo, Order0, Order1, Order2, Order3}
use Rattle.word_rows.specs.declared.location.Location.{Location}
use Rattle.word_rows.specs.declared.location.Location.TheVariants.{Head, Tail, Link, Value, Mark, NodeHazard, AnnHazard, AnnWord}
use Rattle.word_rows.specs.Sizes.{words_of}
use Rattle.word_rows.specs.Layout.{field_number, IsValid, index_of}

pub field_number-lt : (f : AnnField) → field_number f < 10
field_number-lt OldHead = omega arith
field_number-lt OldTail = omega arith
field_number-lt First = omega arith
field_number-lt Last = omega arith
field_number-lt Counts = omega arith
field_number-lt BatchNo = omega arith
field_number-lt Order0 = omega arith
field_number-lt Order1 = omega arith
field_number-lt Order2 = omega arith
field_number-lt Order3 = omega arith

pub field_number-once : (f g : AnnField) → field_number f ≡ field_number g → f ≡ g
field_number-once OldHead OldHead e = refl
field_number-once OldTail OldTail e = refl
field_number-once First First e = refl
field_number-once Last Last e = refl
field_number-once Counts Counts e = refl
field_number-once BatchNo BatchNo e = refl
field_number-once Order0 Order0 e = refl
field_number-once Order1 Order1 e = refl
field_number-once Order2 Order2 e = refl
field_number-once Order3 Order3 e = refl
field_number-once _ _ e = absurd (omega arith)

-- ten words for each announcement, told apart by their field
ann_words-once : (a b f g : ℕ) → f < 10 → g < 10 → 10 * a + f ≡ 10 * b + g → (a ≡ b) × (f ≡ g)
ann_words-once a b f g below under e = (omega arith, omega arith)

-- another word lies at another index
pub index_of-once : (s : Shape) (a b : Location) → IsValid s a → IsValid s b → index_of s a ≡ index_of s b → a ≡ b
index_of-once s Head Head v w e = refl
index_of-once s Tail Tail v w e = refl
index_of-once s (Link r) (Link q) v w e = ap (λ (n : ℕ). Link n) (omega arith)
index_of-once s (Value r) (Value q) v w e = ap (λ (n : ℕ). Value n) (omega arith)
index_of-once s (Mark r) (Mark q) v w e = ap (λ (n : ℕ). Mark n) (omega arith)
index_of-once s (NodeHazard c) (NodeHazard d) v w e = ap (λ (n : ℕ). NodeHazard n) (omega arith)
index_of-once s (AnnHazard c) (AnnHazard d) v w e = ap (λ (n : ℕ). AnnHazard n) (omega arith)
index_of-once s (AnnWord a f) (AnnWord b g) v w e =
    let both = ann_words-once a b (field_number f) (field_number g) (field_number-lt f) (field_number-lt g) (omega arith) in
    ap (λ (n : ℕ). AnnWord n f) both.0 ∙ ap (λ (h : AnnField). AnnWord b h) (field_number-once f g both.1)
index_of-once s _ _ v w e = absurd (omega arith)

pub index_of-lt : (s : Shape) (l : Location) → IsValid s l → index_of s l < words_of s
index_of-lt s Head v = omega arith
index_of-lt s Tail v = omega arith
index_of-lt s (Link r) v = omega arith
index_of-lt s (Value r) v = omega arith
index_of-lt s (Mark r) v = omega arith
index_of-lt s (NodeHazard c) v = omega arith
index_of-lt s (AnnHazard c) v = omega arith
index_of-lt s (AnnWord a f) v = let below = field_number-lt f in omega arith
