-- How a stream is cut, line by line.
use Rattle.std.proofs.Common.{◌≡◌, ℕ, ◌<◌, ◌==◌, Bool, true, false, cond, List, [], ◌∷◌, ◌++◌, length, refl, ap, ◌∙◌, append_assoc, arith}
use Rattle.std.proofs.lemmas.List.Splits.{slice_split_at, slice_split_none, length-slice_split}
use Rattle.round_text.specs.Stream.{is_go, cut, cut_behind, parts_of, behind_go}
use Rattle.round_text.specs.Cutting.{IsLine, IsOpen, IsRound, IsRest}

-- a line that has a line feed
cut-more : (text line : List ℕ) (parts : List (List ℕ)) → 0 < length parts
    → cut_behind text (line ∷ parts) ≡ cond (is_go line) (behind_go text (cut_behind [] parts)) (cut_behind (text ++ line ++ 10 ∷ []) parts)
cut-more text line [] some = absurd (omega arith)
cut-more text line (next ∷ others) some = refl

cut-line : (text line after : List ℕ) → IsLine line
    → cut_behind text (parts_of (line ++ 10 ∷ after)) ≡ cond (is_go line) (behind_go text (cut after)) (cut_behind (text ++ line ++ 10 ∷ []) (parts_of after))
cut-line text line after is =
    ap (cut_behind text) (slice_split_at (λ byte. byte == 10) line 10 after is refl)
    ∙ cut-more text line (parts_of after) (omega (arith, length-slice_split (λ byte. byte == 10) after))

-- before the first byte
pub open_first : IsOpen []
open_first = record { cut_on = λ after. refl }

with_line : (text line after : List ℕ) → (text ++ line ++ 10 ∷ []) ++ after ≡ text ++ (line ++ 10 ∷ after)
with_line text line after = append_assoc (text ++ line) (10 ∷ []) after ∙ append_assoc text line (10 ∷ after)

-- a line that isn't `go`
pub open_more : (text line : List ℕ) → IsOpen text → IsLine line → is_go line ≡ false → IsOpen (text ++ line ++ 10 ∷ [])
open_more text line lines is other = record {
  cut_on = λ after.
      ap cut (with_line text line after) ∙ lines.cut_on (line ++ 10 ∷ after) ∙ cut-line text line after is
      ∙ ap (λ (b : Bool). cond b (behind_go text (cut after)) (cut_behind (text ++ line ++ 10 ∷ []) (parts_of after))) other;
}

-- a line that is
pub round_at_go : (text line : List ℕ) → IsOpen text → IsLine line → is_go line ≡ true → IsRound (text ++ line ++ 10 ∷ []) text
round_at_go text line lines is go = record {
  cut_off = λ after.
      ap cut (with_line text line after) ∙ lines.cut_on (line ++ 10 ∷ after) ∙ cut-line text line after is
      ∙ ap (λ (b : Bool). cond b (behind_go text (cut after)) (cut_behind (text ++ line ++ 10 ∷ []) (parts_of after))) go;
}

-- no line feed
pub rest_is : (text line : List ℕ) → IsOpen text → IsLine line → IsRest (text ++ line) text line
rest_is text line lines is = record {
  cut_is = lines.cut_on line ∙ ap (cut_behind text) (slice_split_none (λ byte. byte == 10) line is);
}
