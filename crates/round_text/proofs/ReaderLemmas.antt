-- What comes of a stream, by what lies ahead.
use Rattle.std.proofs.Common.{◌≡◌, ◌≢◌, ℕ, ◌+◌, ◌<◌, ◌≤◌, ◌==◌, Bool, true, false, cond, List, [], ◌∷◌, ◌++◌, length, take, drop, Option, None, Some, Result, Err, nat_le, refl, sym, ap, subst, ◌∙◌, append_assoc, length-append, arith}
use Rattle.std.specs.Io.KnownBytes.{Consumes, IsAtEnd}
use Rattle.std.proofs.KnownBytes.{Consumes-nil, Consumes-trans}
use Rattle.std.specs.List.{join_with_byte}
use Rattle.std.proofs.lemmas.Bool.Decides.{nat_tests}
use Rattle.std.proofs.lemmas.List.{take-append-drop, append-nil}
use Rattle.std.proofs.lemmas.List.Splits.{join_with_byte-slice_split}
use Rattle.bq_model.specs.declared.fault.TextCause.TheVariants.{TooMany, TooLong, OpenRound}
use Rattle.bq_model.specs.declared.fault.TextFault.{TextFault}
use Rattle.text_lines.specs.Reading.{fault, most_bytes}
use Rattle.job_text.specs.declared.file.Unit.{Unit}
use Rattle.job_text.specs.Grammar.{jobs_of}
use Rattle.round_text.specs.declared.rounds.Rounds.{Rounds}
use Rattle.round_text.specs.declared.reader.Next.{Next}
use Rattle.round_text.specs.declared.reader.Next.TheVariants.{Round, Last, End, Refused}
use Rattle.round_text.specs.Stream.{Cut, is_go, cut, cut_behind, parts_of, behind_go, texts_at_end, rest_at_end}
use Rattle.round_text.specs.Cutting.{IsLine, IsOpen, IsRound}
use Rattle.round_text.specs.Reading.{Reading}
use Rattle.round_text.specs.Rounds.{most_rounds, none_but, behind_round, rest_of, rounds_from, rounds_at_end}
use Rattle.round_text.specs.Coming.{HasRead, RestIs, Comes}
use Rattle.round_text.proofs.RoundLemmas.{texts-behind, cut_at_line}

-- where there is no `go` line, no byte is lost
kept_more : (b : Bool) (go other : Cut) (text rest : List ℕ) → go.texts ≢ [] → (other.texts ≡ [] → other.text ++ other.line ≡ text ++ rest) → (cond b go other).texts ≡ [] → (cond b go other).text ++ (cond b go other).line ≡ text ++ rest
kept_more true go other text rest some ends none = absurd (some none)
kept_more false go other text rest some ends none = ends none

kept : (text : List ℕ) (parts : List (List ℕ)) → (cut_behind text parts).texts ≡ [] → (cut_behind text parts).text ++ (cut_behind text parts).line ≡ text ++ join_with_byte 10 parts
kept text [] none = refl
kept text (line ∷ []) none = refl
kept text (line ∷ next ∷ others) none =
    kept_more (is_go line) (behind_go text (cut_behind [] (next ∷ others))) (cut_behind (text ++ line ++ 10 ∷ []) (next ∷ others)) text (join_with_byte 10 (line ∷ next ∷ others))
    (λ e. cc)
    (λ none_there. kept (text ++ line ++ 10 ∷ []) (next ∷ others) none_there
    ∙ append_assoc (text ++ line) (10 ∷ []) (join_with_byte 10 (next ∷ others)) ∙ append_assoc text line (10 ∷ join_with_byte 10 (next ∷ others)))
    none

-- the rest of a stream that has no round is all of it
pub nothing_lost : (bytes : List ℕ) → texts_at_end (cut bytes) ≡ [] → rest_at_end (cut bytes) ≡ bytes
nothing_lost bytes none = by (is_go (cut bytes).line) none
  where
    by : (b : Bool) → cond b ((cut bytes).texts ++ (cut bytes).text ∷ []) (cut bytes).texts ≡ [] → cond b [] ((cut bytes).text ++ (cut bytes).line) ≡ bytes
    by true none = absurd (omega (arith, ap length none, length-append (cut bytes).texts ((cut bytes).text ∷ [])))
    by false none = kept [] (parts_of bytes) none ∙ join_with_byte-slice_split 10 bytes

pub has_byte : (bytes : List ℕ) → (length bytes == 0) ≡ false → 0 < length bytes
has_byte bytes some = grind (arith, nat_tests)

-- behind the last round that a stream may have, any byte is one too many
pub too_many : (bytes : List ℕ) → 0 < length bytes → rounds_at_end most_rounds (cut bytes) ≡ none_but most_rounds (fault 1 TooMany)
too_many bytes some = by (texts_at_end (cut bytes)) refl
  where
    rest_too : (rest : List ℕ) → 0 < length rest → rest_of most_rounds rest ≡ none_but most_rounds (fault 1 TooMany)
    rest_too [] some = absurd (omega arith)
    rest_too (byte ∷ rest) some = refl

    by : (texts : List (List ℕ)) → texts_at_end (cut bytes) ≡ texts → rounds_from most_rounds texts (rest_at_end (cut bytes)) ≡ none_but most_rounds (fault 1 TooMany)
    by [] is = ap (rest_of most_rounds) (nothing_lost bytes is) ∙ rest_too bytes some
    by (text ∷ texts) is = refl

-- before a byte is read, after one was read, and where there is none
pub beyond_some : (at : Reading) (left : Option (List ℕ)) → at.number ≡ most_rounds → 0 < length at.ahead → RestIs (none_but at.number (fault 1 TooMany)) at left
beyond_some at None most some = tt
beyond_some at (Some bytes) most some =
    ap (λ (n : ℕ). rounds_at_end n (cut (at.ahead ++ bytes))) most ∙ too_many (at.ahead ++ bytes) (omega (arith, some, length-append at.ahead bytes))
    ∙ ap (λ (n : ℕ). none_but n (fault 1 TooMany)) (sym most)

pub beyond_more : (at : Reading) (before after : Option (List ℕ)) (piece : List ℕ) → at.number ≡ most_rounds → Consumes before after piece → 0 < length piece → RestIs (none_but at.number (fault 1 TooMany)) at before
beyond_more at None after piece most took some = tt
beyond_more at (Some bytes) None piece most took some = absurd took
beyond_more at (Some bytes) (Some left) piece most took some =
    let long : 0 < length (at.ahead ++ bytes) = omega (arith, length-append at.ahead bytes, ap length took, length-append piece left, some) in
    ap (λ (n : ℕ). rounds_at_end n (cut (at.ahead ++ bytes))) most ∙ too_many (at.ahead ++ bytes) long ∙ ap (λ (n : ℕ). none_but n (fault 1 TooMany)) (sym most)

pub beyond_none : (at : Reading) (before after : Option (List ℕ)) (piece : List ℕ) → at.ahead ≡ [] → Consumes before after piece → piece ≡ [] → IsAtEnd after → RestIs (record { files = []; fault = None }) at before
beyond_none at None after piece empty took none end = tt
beyond_none at (Some bytes) None piece empty took none end = absurd took
beyond_none at (Some bytes) (Some left) piece empty took none end =
    let nothing : bytes ≡ [] = took ∙ ap (λ (front : List ℕ). front ++ left) none ∙ end in
    let all : at.ahead ++ bytes ≡ [] = ap (λ (front : List ℕ). front ++ bytes) empty ∙ nothing in
    ap (λ (whole : List ℕ). rounds_at_end at.number (cut whole)) all

-- a number below the most is another
pub not_most : (number : ℕ) → number < most_rounds → (number == most_rounds) ≡ false
not_most number below = grind (arith, nat_tests)

-- the first round is no job file, whatever follows
pub refused_round : (number : ℕ) (ahead left text : List ℕ) (end : ℕ) (found : TextFault) → number < most_rounds → IsRound (take end ahead) text → jobs_of text ≡ Err found
    → rounds_at_end number (cut (ahead ++ left)) ≡ none_but number found
refused_round number ahead left text end found below round is =
    let parts : ahead ++ left ≡ take end ahead ++ (drop end ahead ++ left) = ap (λ (bytes : List ℕ). bytes ++ left) (sym (take-append-drop end ahead)) ∙ append_assoc (take end ahead) (drop end ahead) left in
    let after : Cut = cut (drop end ahead ++ left) in
    ap (λ (bytes : List ℕ). rounds_at_end number (cut bytes)) parts ∙ ap (rounds_at_end number) (round.cut_off (drop end ahead ++ left))
    ∙ ap (λ (texts : List (List ℕ)). rounds_from number texts (rest_at_end after)) (texts-behind text after)
    ∙ ap (λ (b : Bool). cond b (none_but number (fault 1 TooMany)) (behind_round number (jobs_of text) (rounds_from (number + 1) (texts_at_end after) (rest_at_end after)))) (not_most number below)
    ∙ ap (λ (said : Result (List Unit) TextFault). behind_round number said (rounds_from (number + 1) (texts_at_end after) (rest_at_end after))) is

-- bytes that no `go` line ends
pub rest_short : (number : ℕ) → number < most_rounds → (rest : List ℕ) → 0 < length rest → length rest ≤ most_bytes → rest_of number rest ≡ none_but number (fault 1 OpenRound)
rest_short number below [] some short = absurd (omega arith)
rest_short number below (byte ∷ rest) some short =
    let b : nat_le (length (byte ∷ rest)) most_bytes ≡ true = grind (arith, nat_tests) in
    ap (λ (t : Bool). cond t (none_but number (fault 1 TooMany)) (cond (nat_le (length (byte ∷ rest)) most_bytes) (none_but number (fault 1 OpenRound)) (none_but number (fault 0 TooLong)))) (not_most number below)
    ∙ ap (λ (t : Bool). cond t (none_but number (fault 1 OpenRound)) (none_but number (fault 0 TooLong))) b

pub rest_long : (number : ℕ) → number < most_rounds → (rest : List ℕ) → most_bytes < length rest → rest_of number rest ≡ none_but number (fault 0 TooLong)
rest_long number below [] long = absurd (omega arith)
rest_long number below (byte ∷ rest) long =
    let b : nat_le (length (byte ∷ rest)) most_bytes ≡ false = grind (arith, nat_tests) in
    ap (λ (t : Bool). cond t (none_but number (fault 1 TooMany)) (cond (nat_le (length (byte ∷ rest)) most_bytes) (none_but number (fault 1 OpenRound)) (none_but number (fault 0 TooLong)))) (not_most number below)
    ∙ ap (λ (t : Bool). cond t (none_but number (fault 1 OpenRound)) (none_but number (fault 0 TooLong))) b

-- the stream ends behind these lines
module _ (number : ℕ) (ahead : List ℕ) (line : ℕ) (lines : IsOpen (take line ahead)) (is : IsLine (drop line ahead)) (below : number < most_rounds) where
  pub last_round : is_go (drop line ahead) ≡ true → rounds_at_end number (cut ahead) ≡ behind_round number (jobs_of (take line ahead)) (record { files = []; fault = None })
  last_round go =
      ap (rounds_at_end number) (cut_at_line ahead line lines is)
      ∙ ap (λ (b : Bool). rounds_from number (cond b (take line ahead ∷ []) []) (cond b [] (take line ahead ++ drop line ahead))) go
      ∙ ap (λ (b : Bool). cond b (none_but number (fault 1 TooMany)) (behind_round number (jobs_of (take line ahead)) (record { files = []; fault = None }))) (not_most number below)

  pub last_rest : is_go (drop line ahead) ≡ false → rounds_at_end number (cut ahead) ≡ rest_of number ahead
  last_rest other =
      ap (rounds_at_end number) (cut_at_line ahead line lines is)
      ∙ ap (λ (b : Bool). rounds_from number (cond b (take line ahead ∷ []) []) (cond b [] (take line ahead ++ drop line ahead))) other
      ∙ ap (rest_of number) (take-append-drop line ahead)

-- nothing more is left
pub at_end : (rounds : Rounds) (at : Reading) (left : Option (List ℕ)) → IsAtEnd left → rounds_at_end at.number (cut at.ahead) ≡ rounds → RestIs rounds at left
at_end rounds at None end is = tt
at_end rounds at (Some bytes) end is = ap (λ (rest : List ℕ). rounds_at_end at.number (cut (at.ahead ++ rest))) end ∙ ap (λ (all : List ℕ). rounds_at_end at.number (cut all)) (append-nil at.ahead) ∙ is

-- whatever is left
pub whatever_follows : (rounds : Rounds) (at : Reading) (left : Option (List ℕ)) → ((bytes : List ℕ) → rounds_at_end at.number (cut (at.ahead ++ bytes)) ≡ rounds) → RestIs rounds at left
whatever_follows rounds at None is = tt
whatever_follows rounds at (Some bytes) is = is bytes

pub read_nothing : (at : Reading) (left : Option (List ℕ)) → HasRead at at left left
read_nothing at left = record { taken = []; is_taken = Consumes-nil left; ahead = sym (append-nil at.ahead); number = refl }

-- what was read, by equal values
pub same_read : (old mid other : Reading) (before after : Option (List ℕ)) → HasRead old mid before after → other.ahead ≡ mid.ahead → other.number ≡ mid.number → HasRead old other before after
same_read old mid other before after read ahead number = record { taken = read.taken; is_taken = read.is_taken; ahead = ahead ∙ read.ahead; number = number ∙ read.number }

pub read_more : (old mid new : Reading) (a b c : Option (List ℕ)) (piece : List ℕ) → HasRead old mid a b → Consumes b c piece → new.ahead ≡ mid.ahead ++ piece → new.number ≡ mid.number → HasRead old new a c
read_more old mid new a b c piece read took ahead number = record {
  taken = read.taken ++ piece;
  is_taken = Consumes-trans a b c read.taken piece read.is_taken took;
  ahead = ahead ∙ ap (λ (bytes : List ℕ). bytes ++ piece) read.ahead ∙ append_assoc old.ahead read.taken piece;
  number = number ∙ read.number;
}

rest_later : (rounds : Rounds) (old mid : Reading) (before after : Option (List ℕ)) → HasRead old mid before after → RestIs rounds mid after → RestIs rounds old before
rest_later rounds old mid None after read is = tt
rest_later rounds old mid (Some bytes) None read is = absurd read.is_taken
rest_later rounds old mid (Some bytes) (Some left) read is =
    let all : old.ahead ++ bytes ≡ mid.ahead ++ left =
    ap (λ (more : List ℕ). old.ahead ++ more) read.is_taken ∙ sym (append_assoc old.ahead read.taken left) ∙ ap (λ (front : List ℕ). front ++ left) (sym read.ahead) in
    ap (λ (n : ℕ). rounds_at_end n (cut (old.ahead ++ bytes))) (sym read.number) ∙ ap (λ (whole : List ℕ). rounds_at_end mid.number (cut whole)) all ∙ is

-- what comes after more was read
pub comes_later : (next : Next) (old mid new : Reading) (before after : Option (List ℕ)) → HasRead old mid before after → Comes next mid new after after → Comes next old new before after
comes_later (Round file) old mid new before after read came = record {
  taken = read.taken ++ came.taken;
  is_taken = Consumes-trans before after after read.taken came.taken read.is_taken came.is_taken;
  bytes = came.bytes;
  parts = sym (append_assoc old.ahead read.taken came.taken) ∙ ap (λ (front : List ℕ). front ++ came.taken) (sym read.ahead) ∙ came.parts;
  round = came.round;
  not_beyond = λ (e : old.number ≡ most_rounds). came.not_beyond (read.number ∙ e);
  number = came.number ∙ ap (λ (n : ℕ). n + 1) read.number;
}
comes_later (Last file) old mid new before after read came = (rest_later _ old mid before after read came.0, came.1)
comes_later End old mid new before after read came = (rest_later _ old mid before after read came.0, came.1)
comes_later (Refused found) old mid new before after read came =
    subst (λ (n : ℕ). RestIs (none_but n found) old before) read.number (rest_later (none_but mid.number found) old mid before after read came)
