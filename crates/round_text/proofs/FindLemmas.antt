-- Where the first line feed stands that was looked for, and the line before it.
use Rattle.std.proofs.Common.{◌≡◌, ℕ, ◌+◌, ◌-◌, ◌<◌, ◌≤◌, ◌==◌, false, List, [], ◌∷◌, ◌++◌, length, take, drop, get_or, Some, None, sym, ap, subst, ◌∙◌, append_assoc, arith, length-drop, eqb-true, zero-le}
use Rattle.std.proofs.lemmas.Bool.{false_from_ne_true}
use Rattle.std.proofs.lemmas.List.{take_rest, drop-drop, get_or-drop, get_or-take, take_more, take-append-drop, length-take}
use Rattle.std.proofs.lemmas.List.Elements.{All-append, All-from_get_or}
use Rattle.std.proofs.Math.Seq.{take-add}
use Rattle.memchr.specs.Find.{IsFirstByte, is_byte}
use Rattle.round_text.specs.Cutting.{IsLine}

-- the bytes before the first line feed have none
line_before : (bytes : List ℕ) (feed : ℕ) → IsFirstByte (is_byte 10) bytes (Some feed) → IsLine (take feed bytes)
line_before bytes feed first = All-from_get_or (λ byte. (byte == 10) ≡ false) (take feed bytes) 0 (λ k below.
    let within : k < feed = omega (arith, length-take feed bytes, below) in
    subst (λ (byte : ℕ). (byte == 10) ≡ false) (sym (get_or-take feed bytes k 0 within)) (false_from_ne_true _ (first.0.before k zero-le within)))

line_without : (bytes : List ℕ) → IsFirstByte (is_byte 10) bytes None → IsLine bytes
line_without bytes nowhere = All-from_get_or (λ byte. (byte == 10) ≡ false) bytes 0 (λ k below. false_from_ne_true _ (nowhere k zero-le below))

-- What was seen of a line, and what follows up to the first line feed behind it.
module _ (bytes : List ℕ) (line seen : ℕ) (order : line ≤ seen) (within : seen ≤ length bytes) (no_feed : IsLine (take (seen - line) (drop line bytes))) where
  rest_is_tail : drop (seen - line) (drop line bytes) ≡ drop seen bytes
  rest_is_tail = drop-drop (seen - line) line bytes ∙ ap (λ (n : ℕ). drop n bytes) (omega arith)

  module _ (feed : ℕ) (found : IsFirstByte (is_byte 10) (take (length bytes - seen) (drop seen bytes)) (Some feed)) where
    first : IsFirstByte (is_byte 10) (drop seen bytes) (Some feed)
    first = rw (take_rest bytes seen) at found

    pub feed_within : seen + feed + 1 ≤ length bytes
    feed_within = omega (arith, first.0.high, length-drop seen bytes)

    line_parts : take (seen + feed - line) (drop line bytes) ≡ take (seen - line) (drop line bytes) ++ take feed (drop seen bytes)
    line_parts =
        let e : seen + feed - line ≡ (seen - line) + feed = omega arith in
        ap (λ (n : ℕ). take n (drop line bytes)) e ∙ take-add (seen - line) feed (drop line bytes) ∙ ap (λ (rest : List ℕ). take (seen - line) (drop line bytes) ++ take feed rest) rest_is_tail

    pub line_is : IsLine (take (seen + feed - line) (drop line bytes))
    line_is = subst IsLine (sym line_parts) (All-append (λ byte. (byte == 10) ≡ false) (take (seen - line) (drop line bytes)) (take feed (drop seen bytes)) no_feed (line_before (drop seen bytes) feed first))

    feed_is : get_or (drop line bytes) (seen + feed - line) 0 ≡ 10
    feed_is =
        let e : line + (seen + feed - line) ≡ seen + feed = omega arith in
        get_or-drop line bytes (seen + feed - line) 0 ∙ ap (λ (n : ℕ). get_or bytes n 0) e ∙ sym (get_or-drop seen bytes feed 0) ∙ eqb-true _ 10 first.1

    pub through_feed : take (seen + feed + 1) bytes ≡ take line bytes ++ take (seen + feed - line) (drop line bytes) ++ 10 ∷ []
    through_feed =
        let n : ℕ = seen + feed - line in
        let e : seen + feed + 1 ≡ line + (n + 1) = omega arith in
        let below : n < length (drop line bytes) = omega (arith, length-drop line bytes, feed_within) in
        ap (λ (k : ℕ). take k bytes) e ∙ take-add line (n + 1) bytes
        ∙ ap (λ (tail : List ℕ). take line bytes ++ tail) (take_more (drop line bytes) n 0 below ∙ ap (λ (byte : ℕ). take n (drop line bytes) ++ byte ∷ []) feed_is)
        ∙ sym (append_assoc (take line bytes) (take n (drop line bytes)) (10 ∷ []))

  pub line_to_end : IsFirstByte (is_byte 10) (take (length bytes - seen) (drop seen bytes)) None → IsLine (drop line bytes)
  line_to_end nowhere =
      let none : IsFirstByte (is_byte 10) (drop seen bytes) None = rw (take_rest bytes seen) at nowhere in
      let parts : take (seen - line) (drop line bytes) ++ drop seen bytes ≡ drop line bytes =
      ap (λ (rest : List ℕ). take (seen - line) (drop line bytes) ++ rest) (sym rest_is_tail) ∙ take-append-drop (seen - line) (drop line bytes) in
      subst IsLine parts (All-append (λ byte. (byte == 10) ≡ false) (take (seen - line) (drop line bytes)) (drop seen bytes) no_feed (line_without (drop seen bytes) none))
