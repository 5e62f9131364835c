-- Legal histories, and where an illegal one first is.
use Rattle.std.specs.Prelude.{◌≡◌, ℕ, ◌++◌, List, [], ◌∷◌, flat_map}
use Rattle.bq_model.specs.History.{answers_of}
use Rattle.bq_model.specs.Proper.{IsProper}
use Rattle.trace_text.specs.declared.claim.Entry.{Entry}
use Rattle.trace_text.specs.Claims.{claimed}
use Rattle.trace_text.specs.Verdicts.{groups_of}

-- a history that so many callers can make, each of whose answers is the replay's
pub record IsLegal (callers : ℕ) (entries : List Entry) : Type 0 where
  pub proper : IsProper callers (groups_of entries)
  pub answered : flat_map claimed entries ≡ answers_of (groups_of entries)

-- in this line it is illegal, and in none before it
pub record IsFirstIllegal (callers : ℕ) (entries : List Entry) (line : ℕ) : Type 0 where
  pub before : List Entry
  pub entry : Entry
  pub behind : List Entry
  pub entries_are : entries ≡ before ++ entry ∷ behind
  pub line_is : entry.line ≡ line
  pub legal_before : IsLegal callers before
  pub illegal_here : ¬ IsLegal callers (before ++ entry ∷ [])
