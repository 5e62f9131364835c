-- The rounds of a stream, one after another.
use Rattle.std.proofs.Common.{◌≡◌, ℕ, ◌+◌, ◌<◌, ◌≤◌, ◌==◌, Bool, true, false, cond, List, [], ◌∷◌, ◌++◌, length, take, drop, refl, sym, ap, ◌∙◌, append_assoc, length-drop, arith}
use Rattle.std.proofs.lemmas.Bool.{true≢false}
use Rattle.std.proofs.lemmas.List.{take-append-drop}
use Rattle.std.proofs.Math.Seq.{drop-length}
use Rattle.bq_model.specs.declared.fault.TextCause.TheVariants.{TooMany}
use Rattle.text_lines.specs.Reading.{fault}
use Rattle.job_text.specs.declared.file.Unit.{Unit}
use Rattle.job_text.specs.Grammar.{jobs_of}
use Rattle.round_text.specs.declared.rounds.Rounds.{Rounds}
use Rattle.round_text.specs.Rounds.{most_rounds, none_but, behind_file, behind_files, behind_round, rest_of, rounds_from, rounds_at_end}
use Rattle.round_text.specs.Stream.{Cut, is_go, cut, behind_go, texts_at_end, rest_at_end}
use Rattle.round_text.specs.Cutting.{IsLine, IsOpen, IsRound, IsFirstRound, IsNoRound}
use Rattle.round_text.proofs.CutLemmas.{rest_is}

-- a text before the others, where the stream ends
pub texts-behind : (text : List ℕ) (c : Cut) → texts_at_end (behind_go text c) ≡ text ∷ texts_at_end c
texts-behind text c = by (is_go c.line)
  where
    by : (b : Bool) → cond b ((text ∷ c.texts) ++ c.text ∷ []) (text ∷ c.texts) ≡ text ∷ cond b (c.texts ++ c.text ∷ []) c.texts
    by true = refl
    by false = refl

-- a stream is cut behind its first `go` line
pub cut_at_round : (bytes text : List ℕ) (end : ℕ) → IsRound (take end bytes) text → cut bytes ≡ behind_go text (cut (drop end bytes))
cut_at_round bytes text end round = ap cut (sym (take-append-drop end bytes)) ∙ round.cut_off (drop end bytes)

pub first_has_feed : (bytes : List ℕ) (text end : ℕ) → text < end → end ≤ length bytes → IsRound (take end bytes) (take text bytes) → IsFirstRound bytes text end
first_has_feed bytes text end order within round =
    let is : cut bytes ≡ behind_go (take text bytes) (cut (drop end bytes)) = cut_at_round bytes (take text bytes) end round in
    record {
      order = order;
      within = within;
      texts = ap texts_at_end is ∙ texts-behind (take text bytes) (cut (drop end bytes));
      rest = ap rest_at_end is;
    }

-- lines without a `go` line, and the line behind them
pub cut_at_line : (bytes : List ℕ) (line : ℕ) → IsOpen (take line bytes) → IsLine (drop line bytes) → cut bytes ≡ record { texts = []; text = take line bytes; line = drop line bytes }
cut_at_line bytes line lines is = ap cut (sym (take-append-drop line bytes)) ∙ (rest_is (take line bytes) (drop line bytes) lines is).cut_is

-- a line of no bytes is no `go` line
go_has_bytes : (line : List ℕ) → is_go line ≡ true → 0 < length line
go_has_bytes [] go = absurd (true≢false (sym go))
go_has_bytes (byte ∷ line) go = omega arith

pub last_has_none : (bytes : List ℕ) (line : ℕ) → line ≤ length bytes → IsOpen (take line bytes) → IsLine (drop line bytes) → is_go (drop line bytes) ≡ true → IsFirstRound bytes line (length bytes)
last_has_none bytes line within lines is go =
    let cut_is : cut bytes ≡ record { texts = []; text = take line bytes; line = drop line bytes } = cut_at_line bytes line lines is in
    let some : 0 < length (drop line bytes) = go_has_bytes (drop line bytes) go in
    let none : drop (length bytes) bytes ≡ [] = drop-length bytes in
    record {
      order = omega (arith, some, length-drop line bytes);
      within = omega arith;
      texts = ap texts_at_end cut_is ∙ ap (λ (b : Bool). cond b (take line bytes ∷ []) []) go ∙ ap (λ (rest : List ℕ). take line bytes ∷ texts_at_end (cut rest)) (sym none);
      rest = ap rest_at_end cut_is ∙ ap (λ (b : Bool). cond b [] (take line bytes ++ drop line bytes)) go ∙ ap (λ (rest : List ℕ). rest_at_end (cut rest)) (sym none);
    }

pub no_round : (bytes : List ℕ) (line : ℕ) → IsOpen (take line bytes) → IsLine (drop line bytes) → is_go (drop line bytes) ≡ false → IsNoRound bytes
no_round bytes line lines is other =
    let cut_is : cut bytes ≡ record { texts = []; text = take line bytes; line = drop line bytes } = cut_at_line bytes line lines is in
    record {
      texts = ap texts_at_end cut_is ∙ ap (λ (b : Bool). cond b (take line bytes ∷ []) []) other;
      rest = ap rest_at_end cut_is ∙ ap (λ (b : Bool). cond b [] (take line bytes ++ drop line bytes)) other ∙ take-append-drop line bytes;
    }

-- the rounds of a stream that begins with a round
pub rounds_at_round : (number : ℕ) (bytes : List ℕ) (text end : ℕ) → IsFirstRound bytes text end
    → rounds_at_end number (cut bytes) ≡ cond (number == most_rounds) (none_but number (fault 1 TooMany)) (behind_round number (jobs_of (take text bytes)) (rounds_at_end (number + 1) (cut (drop end bytes))))
rounds_at_round number bytes text end round =
    ap (λ (texts : List (List ℕ)). rounds_from number texts (rest_at_end (cut bytes))) round.texts
    ∙ ap (λ (rest : List ℕ). rounds_from number (take text bytes ∷ texts_at_end (cut (drop end bytes))) rest) round.rest

-- of one that has none
pub rounds_of-none : (number : ℕ) (bytes : List ℕ) → IsNoRound bytes → rounds_at_end number (cut bytes) ≡ rest_of number bytes
rounds_of-none number bytes none =
    ap (λ (texts : List (List ℕ)). rounds_from number texts (rest_at_end (cut bytes))) none.texts ∙ ap (rest_of number) none.rest

-- one more file is behind the others
pub files-more : (files : List (List Unit)) (file : List Unit) (rounds : Rounds) → behind_files files (behind_file file rounds) ≡ behind_files (files ++ file ∷ []) rounds
files-more files file rounds = ap (λ (all : List (List Unit)). record { files = all; fault = rounds.fault }) (sym (append_assoc files (file ∷ []) rounds.files))
