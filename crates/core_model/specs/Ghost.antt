-- The positions of a lane's rows, how far its announcements are, and what else its words don't say.
use Rattle.std.specs.Prelude.{◌≡◌, ◌≢◌, ◌⊎◌, ℕ, suc, ◌+◌, ◌<◌, Bool, true, false, List, Option, Some, None}
use Rattle.bq_model.specs.declared.group.Group.{Group}
use Rattle.word_rows.specs.declared.place.Place.{Place}
use Rattle.word_rows.specs.declared.link_word.LinkWord.{LinkWord}
use Rattle.word_rows.specs.declared.link_word.LinkWord.TheVariants.{Nil, Single, Chain}
use Rattle.lane_steps.specs.Notices.{place}
use Rattle.lane_steps.specs.State.{Memory}

-- How far an announcement is.
pub data Stage : Type 0 where
  -- it wasn't installed since it was chosen last, or never
  unused : Stage
  -- it stands in HEAD, and its rows aren't linked
  waiting : Stage
  -- it was decided behind the row at this position, and its rows were linked there, if any
  decided : ℕ → Stage

-- Who sets a mark of the row at a position.
pub data Due : Type 0 where
  -- nobody yet, for no operation took its value, or passed it
  due : Due
  -- this caller, whose operation did so
  owes : ℕ → Due
  -- it is set
  paid : Due

abbrev pub is_paid : Due → Bool
is_paid due = false
is_paid (owes c) = false
is_paid paid = true

-- What the words don't say of a lane. Each row that was ever linked has a position, from 0 on; the row at the position i
-- has the count `first + i`.
pub record Ghost : Type 0 where
  -- the row at a position, and whether its link is a Chain
  pub path : ℕ → ℕ
  pub chained : ℕ → Bool
  -- the position of a row since it was linked last; none while it is free, or taken and not linked
  pub spot : ℕ → Option ℕ
  -- READ and PASSED of the row at a position, and whose retired list it is in once both are set
  pub reader : ℕ → Due
  pub passer : ℕ → Due
  pub keeper : ℕ → ℕ
  -- the position of the dummy, how many rows lie behind it, and the position that TAIL names
  pub head : ℕ
  pub rest : ℕ
  pub tail : ℕ
  -- the announcement in HEAD, how many rows lie between the dummy and the shown head, and how many behind that
  pub ann : Option ℕ
  pub shown : ℕ
  pub queued : ℕ
  -- the running command of a caller stands in the history
  pub linearized : ℕ → Bool
  -- how far each announcement is, how many rows were linked as it was decided, and the rows of the one that waits, in order
  pub stage : ℕ → Stage
  pub span : ℕ → ℕ
  pub chain : ℕ → ℕ
  -- the announcement whose rows were linked behind a position
  pub cause : ℕ → ℕ
  -- the announcement and the row that a caller holds
  pub held : ℕ → Option ℕ
  pub row_held : ℕ → Option ℕ

-- how many positions there are
abbrev pub positions : Ghost → ℕ
positions g = suc (g.head + g.rest)

-- the words and the history, with what they don't say
pub record World : Type 0 where
  pub memory : Memory
  pub history : List Group
  pub ghost : Ghost

-- the link to the row r
abbrev pub joint : Bool → ℕ → LinkWord
joint true r = Chain r
joint false r = Single r

-- the place at the position i
abbrev pub at : ℕ → (ℕ → ℕ) → ℕ → Place
at first path i = place (path i) (first + i)

abbrev pub Unlinked : World → ℕ → Type 0
Unlinked w r = w.ghost.spot r ≡ None

-- the link of r is that of the row at the position i
abbrev pub LinkAt : World → ℕ → ℕ → Type 0
LinkAt w i r = (suc i ≡ positions w.ghost → w.memory.link r ≡ Nil)
    × (suc i < positions w.ghost → w.memory.link r ≡ joint (w.ghost.chained i) (w.ghost.path (suc i)))

-- the row r is at the position i
pub record On (w : World) (i r : ℕ) : Type 0 where
  pub inside : i < positions w.ghost
  pub spot : w.ghost.spot r ≡ Some i
  pub row : w.ghost.path i ≡ r
  pub link : LinkAt w i r

-- caller c has yet to set a mark of the row at the position i
abbrev pub Owed : World → ℕ → ℕ → Type 0
Owed w c i = (w.ghost.reader i ≡ owes c) ⊎ (w.ghost.passer i ≡ owes c)

-- the row r is at the position i, behind which the head went, and in the retired list of caller c
pub record RetiredBy (w : World) (c r i : ℕ) : Type 0 where
  pub spot : w.ghost.spot r ≡ Some i
  pub before : i < w.ghost.head
  pub was_read : w.ghost.reader i ≡ paid
  pub was_passed : w.ghost.passer i ≡ paid
  pub kept : w.ghost.keeper i ≡ c

abbrev pub Installed : World → ℕ → Type 0
Installed w a = w.ghost.stage a ≢ unused
