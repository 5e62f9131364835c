-- A round of more bytes than a text may have is too long, whatever follows.
use Rattle.std.proofs.Common.{◌≡◌, ℕ, ◌+◌, ◌<◌, Bool, true, false, cond, List, [], ◌∷◌, ◌++◌, length, take, drop, Result, Err, nat_le, codes, sym, ap, ◌∙◌, append_assoc, length-append, arith}
use Rattle.std.proofs.lemmas.Bool.Decides.{nat_tests}
use Rattle.std.proofs.lemmas.List.{take-append-drop}
use Rattle.bq_model.specs.declared.fault.TextCause.TheVariants.{TooMany, TooLong}
use Rattle.bq_model.specs.declared.fault.TextFault.{TextFault}
use Rattle.text_lines.specs.Lines.{lines_of}
use Rattle.text_lines.specs.Parts.{◌>>=◌}
use Rattle.text_lines.specs.Reading.{fault, most_bytes, whole_text}
use Rattle.job_text.specs.declared.file.Unit.{Unit}
use Rattle.job_text.specs.Grammar.{jobs_of, meaning, nothing_yet, units_at_end}
use Rattle.round_text.specs.Stream.{Cut, is_go, cut, cut_behind, parts_of, behind_go, texts_at_end, rest_at_end}
use Rattle.round_text.specs.Cutting.{IsOpen}
use Rattle.round_text.specs.Rounds.{most_rounds, none_but, behind_round, rounds_from, rounds_at_end}
use Rattle.round_text.proofs.RoundLemmas.{texts-behind}
use Rattle.round_text.proofs.ReaderLemmas.{not_most, rest_long}

long_text : (text : List ℕ) → most_bytes < length text → jobs_of text ≡ Err (fault 0 TooLong)
long_text text long =
    let b : nat_le (length text) most_bytes ≡ false = grind (arith, nat_tests) in
    ap (λ (t : Bool). cond t (whole_text (codes "bqjobs") (codes "1") meaning nothing_yet (lines_of text)) (Err (fault 0 TooLong)) >>= (λ progress. units_at_end progress.units progress.block)) b

module _ (number : ℕ) (below : number < most_rounds) where
  long_round : (text : List ℕ) (texts : List (List ℕ)) (rest : List ℕ) → most_bytes < length text → rounds_from number (text ∷ texts) rest ≡ none_but number (fault 0 TooLong)
  long_round text texts rest long =
      ap (λ (b : Bool). cond b (none_but number (fault 1 TooMany)) (behind_round number (jobs_of text) (rounds_from (number + 1) texts rest))) (not_most number below)
      ∙ ap (λ (said : Result (List Unit) TextFault). behind_round number said (rounds_from (number + 1) texts rest)) (long_text text long)

  long_behind : (text : List ℕ) (c : Cut) → most_bytes < length text → rounds_at_end number (behind_go text c) ≡ none_but number (fault 0 TooLong)
  long_behind text c long = ap (λ (texts : List (List ℕ)). rounds_from number texts (rest_at_end c)) (texts-behind text c) ∙ long_round text (texts_at_end c) (rest_at_end c) long

  long_end : (text line : List ℕ) (b : Bool) → most_bytes < length text → rounds_from number (cond b (text ∷ []) []) (cond b [] (text ++ line)) ≡ none_but number (fault 0 TooLong)
  long_end text line true long = long_round text [] [] long
  long_end text line false long = rest_long number below (text ++ line) (let l = length-append text line in omega (arith, long, l))

  long_line : (b : Bool) (go other : Cut) → rounds_at_end number go ≡ none_but number (fault 0 TooLong) → rounds_at_end number other ≡ none_but number (fault 0 TooLong) → rounds_at_end number (cond b go other) ≡ none_but number (fault 0 TooLong)
  long_line true go other is_go is_other = is_go
  long_line false go other is_go is_other = is_other

long_cut : (number : ℕ) → number < most_rounds → (text : List ℕ) (parts : List (List ℕ)) → most_bytes < length text → rounds_at_end number (cut_behind text parts) ≡ none_but number (fault 0 TooLong)
long_cut number below text [] long = long_end number below text [] (is_go []) long
long_cut number below text (line ∷ []) long = long_end number below text line (is_go line) long
long_cut number below text (line ∷ next ∷ others) long =
    let more : most_bytes < length (text ++ line ++ 10 ∷ []) = (let l = length-append (text ++ line) (10 ∷ []) in let m = length-append text line in omega (arith, long, l, m)) in
    long_line number below (is_go line) (behind_go text (cut_behind [] (next ∷ others))) (cut_behind (text ++ line ++ 10 ∷ []) (next ∷ others))
    (long_behind number below text (cut_behind [] (next ∷ others)) long) (long_cut number below (text ++ line ++ 10 ∷ []) (next ∷ others) more)

-- lines that are none of them `go` have more bytes than a text may have
pub long_open : (number : ℕ) (ahead left : List ℕ) (line : ℕ) → number < most_rounds → IsOpen (take line ahead) → most_bytes < length (take line ahead) → rounds_at_end number (cut (ahead ++ left)) ≡ none_but number (fault 0 TooLong)
long_open number ahead left line below lines long =
    let parts : ahead ++ left ≡ take line ahead ++ (drop line ahead ++ left) = ap (λ (bytes : List ℕ). bytes ++ left) (sym (take-append-drop line ahead)) ∙ append_assoc (take line ahead) (drop line ahead) left in
    ap (λ (bytes : List ℕ). rounds_at_end number (cut bytes)) parts ∙ ap (rounds_at_end number) (lines.cut_on (drop line ahead ++ left))
    ∙ long_cut number below (take line ahead) (parts_of (drop line ahead ++ left)) long
