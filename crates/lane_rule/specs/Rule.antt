-- The rule of a lane's table, in three layers: the words are the codes of contents, the contents are those of the machine's
-- state, and the state is lawful, with the ranks that its callers kept. The views show what the machine keeps of each caller.
use Rattle.std.specs.Prelude.{◌≡◌, ◌⊎◌, ℕ, ◌<◌, ◌≤◌, List, [], ◌∷◌, ◌++◌}
use mathlib.Core.Option.{some}
use lib.ListN.{get_elem?}
use Rattle.atomic_table.specs.Table as table
use Rattle.bq_model.specs.declared.group.Group.{Group}
use Rattle.bq_model.specs.declared.shape.Shape.{Shape}
use Rattle.word_rows.specs.Memory.{Shows}
use Rattle.lane_steps.specs.State.{Caller, State, read}
use Rattle.lane_steps.specs.Start.{newcomer}
use Rattle.lane_rank.specs.Return.{Ranked}
use Rattle.lane_room.specs.Roomy.{Roomy}
use Rattle.lane_rule.specs.declared.view.View.{View}
use Rattle.lane_rule.specs.declared.view.Kept.{Kept}
use Rattle.lane_rule.specs.declared.view.Held.{Held}
use Rattle.lane_rule.specs.declared.view.Kind.{Kind}
use Rattle.lane_rule.specs.declared.view.Kind.TheVariants.{Maker, Alone, Gathered, Spent}

-- what a view keeps of a caller, as the machine keeps it, and the other way round
abbrev pub caller_of : Kept → Caller
caller_of k = record { point = k.point; ops = k.ops; mine = k.mine; rows = k.rows; values = k.values; walked = k.walked; retired = k.retired; named = k.named; row_hold = k.row_hold; hold = k.hold; outcome = k.outcome; answers = k.answers; started_at = k.started_at; ended_at = k.ended_at }

abbrev pub kept_of : Caller → Kept
kept_of k = record { point = k.point; ops = k.ops; mine = k.mine; rows = k.rows; values = k.values; walked = k.walked; retired = k.retired; named = k.named; row_hold = k.row_hold; hold = k.hold; outcome = k.outcome; answers = k.answers; started_at = k.started_at; ended_at = k.ended_at }

abbrev pub Begins : List Group → List Group → Type 0
Begins seen history = (rest : List Group) × (history ≡ seen ++ rest)

module _ (key : Shape) (core : State) (seat : ℕ → ℕ) (j : ℕ) where
  -- the view of the seat j is its caller's
  pub record Runs (v : View) : Type 0 where
    pub alone : seat v.caller ≡ j
    pub shown : core.callers v.caller ≡ caller_of v.kept
    pub begins : Begins v.seen core.history
    pub planned : v.shape ≡ key
    pub known : v.caller < key.callers

  abbrev pub AllHeld : List Held → Type 0
  AllHeld [] = Unit {0}
  AllHeld (k ∷ ks) = (k.caller < key.callers) × (seat k.caller ≡ j) × (core.callers k.caller ≡ caller_of k.kept) × AllHeld ks

  -- there is a caller
  abbrev pub HasOne : List Held → Type 0
  HasOne [] = ⊥
  HasOne (k ∷ ks) = Unit {0}

  abbrev pub SitsAs : Kind → View → Type 0
  SitsAs Maker v = (v.shape ≡ key) × (v.seen ≡ []) × ((c : ℕ) → v.caller ≤ c → (seat c ≡ j) × (core.callers c ≡ newcomer))
  SitsAs Alone v = Runs v
  SitsAs Gathered v = AllHeld v.gathered × Begins v.seen core.history × Begins v.heard core.history × (v.shape ≡ key) × HasOne v.gathered
  SitsAs Spent v = v.seen ≡ []

  abbrev pub Sits : View → Type 0
  Sits v = SitsAs v.kind v

-- the view of a caller has the ranks that it kept
abbrev pub RanksOf : (ℕ → ℕ) → (ℕ → ℕ) → Kind → View → Type 0
RanksOf outer inner Alone v = (v.outer ≡ outer v.caller) × (v.inner ≡ inner v.caller)
RanksOf outer inner _ v = Unit {0}

-- some view has seen, or heard in a gathering, the whole history
abbrev pub Longest : List View → List Group → Type 0
Longest views h = (j : ℕ) × (v : View) × (get_elem? views j ≡ some v) × ((v.seen ≡ h) ⊎ ((v.kind ≡ Gathered) × (v.heard ≡ h)))

-- The words and the views of a table show a state of the machine.
pub record Ruled (key : Shape) (s : table.State ℕ View) : Type 0 where
  -- it is lawful, and all that it has can be coded; these are the ranks that its callers kept
  pub core : State
  pub outer : ℕ → ℕ
  pub inner : ℕ → ℕ
  pub ranked : Ranked key core outer inner
  -- no caller keeps back more than its share of the rows, and each knows how far its search has come
  pub roomy : Roomy key core
  -- each word is the code of what the state has there
  pub shows : Shows key s.words (read core.memory)
  -- each caller has a seat, and the seat's view shows what the state has of it
  pub seat : ℕ → ℕ
  pub each_seat : (j : ℕ) (v : View) → get_elem? s.views j ≡ some v → Sits key core seat j v
  pub each_rank : (j : ℕ) (v : View) → get_elem? s.views j ≡ some v → RanksOf outer inner v.kind v
  -- no group of the history is unseen by all
  pub longest : Longest s.views core.history

-- the first view, from which those of the callers are cut
abbrev pub opened : Shape → View
opened key = record { kind = Maker; caller = 0; kept = kept_of newcomer; outer = 0; inner = 0; gathered = []; seen = []; heard = []; shape = key }
