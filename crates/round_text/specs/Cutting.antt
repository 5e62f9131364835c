-- What is known of the front of a stream, whatever follows.
use Rattle.std.specs.Prelude.{◌≡◌, ℕ, ◌-◌, ◌<◌, ◌≤◌, false, List, [], ◌∷◌, ◌++◌, length, take, drop, All, ◌==◌}
use Rattle.round_text.specs.declared.find.Found.{Found}
use Rattle.round_text.specs.declared.find.Found.TheVariants.{Round, Open}
use Rattle.round_text.specs.Stream.{cut, cut_behind, parts_of, behind_go, texts_at_end, rest_at_end}

-- a line, as it has no line feed
abbrev pub IsLine : List ℕ → Type 0
IsLine line = All (λ byte. (byte == 10) ≡ false) line

-- These bytes are lines, none of which is `go`.
pub record IsOpen (text : List ℕ) : Type 0 where
  pub cut_on : (after : List ℕ) → cut (text ++ after) ≡ cut_behind text (parts_of after)

-- These bytes are a text and its `go` line.
pub record IsRound (bytes text : List ℕ) : Type 0 where
  pub cut_off : (after : List ℕ) → cut (bytes ++ after) ≡ behind_go text (cut after)

-- These bytes are lines, none of which is `go`, and a line without a line feed.
pub record IsRest (bytes text line : List ℕ) : Type 0 where
  pub cut_is : cut bytes ≡ record { texts = []; text = text; line = line }

-- what is found of the first `go` line
abbrev pub Finds : List ℕ → Found → Type 0
Finds bytes (Round text end) = (text < end) × (end ≤ length bytes) × IsRound (take end bytes) (take text bytes)
Finds bytes (Open line) = (line ≤ length bytes) × IsOpen (take line bytes) × IsLine (drop line bytes) × ((cut bytes).texts ≡ [])

-- Of these bytes the lines before `line` are no `go` lines, and from there to `seen` no line feed stands.
pub record IsSearched (bytes : List ℕ) (line seen : ℕ) : Type 0 where
  pub order : line ≤ seen
  pub within : seen ≤ length bytes
  pub lines : IsOpen (take line bytes)
  pub no_feed : IsLine (take (seen - line) (drop line bytes))

-- A stream that ends here begins with a round.
pub record IsFirstRound (bytes : List ℕ) (text end : ℕ) : Type 0 where
  pub order : text < end
  pub within : end ≤ length bytes
  pub texts : texts_at_end (cut bytes) ≡ take text bytes ∷ texts_at_end (cut (drop end bytes))
  pub rest : rest_at_end (cut bytes) ≡ rest_at_end (cut (drop end bytes))

-- A stream that ends here has no round.
pub record IsNoRound (bytes : List ℕ) : Type 0 where
  pub texts : texts_at_end (cut bytes) ≡ []
  pub rest : rest_at_end (cut bytes) ≡ bytes
