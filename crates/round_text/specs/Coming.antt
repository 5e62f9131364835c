-- What comes next of a stream that is read round by round.
use Rattle.std.specs.Prelude.{◌≡◌, ◌≢◌, ℕ, ◌+◌, ◌<◌, Bool, true, false, List, [], ◌∷◌, ◌++◌, length, Option, None, Ok, IfSome}
use Rattle.std.specs.Io.KnownBytes.{Consumes, IsAtEnd}
use Rattle.job_text.specs.declared.file.Unit.{Unit}
use Rattle.job_text.specs.Grammar.{jobs_of}
use Rattle.round_text.specs.declared.rounds.Rounds.{Rounds}
use Rattle.round_text.specs.declared.reader.Next.{Next}
use Rattle.round_text.specs.declared.reader.Next.TheVariants.{Round, Last, End, Refused}
use Rattle.round_text.specs.Stream.{cut}
use Rattle.round_text.specs.Cutting.{IsRound}
use Rattle.round_text.specs.Reading.{Reading}
use Rattle.round_text.specs.Rounds.{most_rounds, none_but, rounds_at_end}

-- These bytes are the text of this job file and its `go` line.
pub record IsFileRound (bytes : List ℕ) (file : List Unit) : Type 0 where
  pub text : List ℕ
  pub round : IsRound bytes text
  pub is_file : jobs_of text ≡ Ok file

-- A piece was read and lies behind the others, or there was none at the end.
pub record TookPiece (more : Bool) (old new : List ℕ) (before after : Option (List ℕ)) : Type 0 where
  pub piece : List ℕ
  pub is_taken : Consumes before after piece
  pub ahead : new ≡ old ++ piece
  pub some : more ≡ true → 0 < length piece
  pub none : more ≡ false → (piece ≡ []) × IsAtEnd after

-- More of the stream was read, and it lies ahead.
pub record HasRead (old new : Reading) (before after : Option (List ℕ)) : Type 0 where
  pub taken : List ℕ
  pub is_taken : Consumes before after taken
  pub ahead : new.ahead ≡ old.ahead ++ taken
  pub number : new.number ≡ old.number

-- A round came whose `go` line has its line feed.
pub record CameRound (file : List Unit) (old new : Reading) (before after : Option (List ℕ)) : Type 0 where
  pub taken : List ℕ
  pub is_taken : Consumes before after taken
  pub bytes : List ℕ
  pub parts : old.ahead ++ taken ≡ bytes ++ new.ahead
  pub round : IsFileRound bytes file
  pub not_beyond : old.number ≢ most_rounds
  pub number : new.number ≡ old.number + 1

-- the rest of the stream is these rounds
abbrev pub RestIs : Rounds → Reading → Option (List ℕ) → Type 0
RestIs rounds at before = IfSome before (λ bytes. rounds_at_end at.number (cut (at.ahead ++ bytes)) ≡ rounds)

-- What came. The last round is one whose `go` line has no line feed.
abbrev pub Comes : Next → Reading → Reading → Option (List ℕ) → Option (List ℕ) → Type 0
Comes (Round file) old new before after = CameRound file old new before after
Comes (Last file) old new before after = RestIs (record { files = file ∷ []; fault = None }) old before × IsAtEnd after
Comes End old new before after = RestIs (record { files = []; fault = None }) old before × IsAtEnd after
Comes (Refused found) old new before after = RestIs (none_but old.number found) old before

-- Of what was read no `go` line has its line feed.
abbrev pub IsNoRoundYet : Reading → Type 0
IsNoRoundYet at = (cut at.ahead).texts ≡ []
