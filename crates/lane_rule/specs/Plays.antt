-- What the rule of a lane lets a seat do, and what a step asks of it.
use Rattle.std.specs.Prelude.{◌≡◌, ℕ, ◌≤◌, List, [], length}
use Rattle.atomic_table.specs.Table.{Step, Me}
use Rattle.atomic_table.specs.Seated.{TableId}
use Rattle.atomic_table.specs.declared.shared.Seat.{Seat}
use Rattle.bq_model.specs.declared.shape.Shape.{Shape}
use Rattle.word_rows.specs.declared.content.Content.{Content}
use Rattle.word_rows.specs.Contents.{coded}
use Rattle.word_rows.specs.Sizes.{words_of}
use Rattle.lane_steps.specs.declared.point.Point.{Point}
use Rattle.lane_rule.specs.declared.view.View.{View}
use Rattle.lane_rule.specs.declared.view.Kind.TheVariants.{Alone, Gathered}
use Rattle.lane_rule.specs.Goes.{Ready, Goes}
use Rattle.bq_model.specs.Own.{mine}
use Rattle.bq_model.specs.Proper.{IsProper}
use Rattle.bq_model.specs.NoShut.{NeverShut}
use Rattle.lane_steps.specs.declared.point.Point.TheVariants.{Idle}
use Rattle.lane_rule.specs.declared.view.Kept.{Kept}
use Rattle.lane_rule.specs.Seating.{Holds}
use Rattle.bq_model.specs.declared.op.Op.{Op}
use Rattle.lane_steps.specs.LaneSizes.{lane_sizes}
use Rattle.lane_steps.specs.Start.{first_point}
use Rattle.lane_rule.specs.Rule.{caller_of, Begins}
use Rattle.lane_rule.specs.Begun.{MayStart, begun}

-- a load, an exchange or a join found x
abbrev pub found : Step ℕ → Me ℕ View → ℕ → Me ℕ View → Type 0
found st me n me' = (x : Content) × (n ≡ coded x) × Goes me.0 x me'.0 × (me'.1 ≡ me.1)

-- a store finds nothing out
abbrev pub wrote : Step ℕ → Me ℕ View → ℕ → Me ℕ View → Type 0
wrote st me n me' = (x : Content) × Goes me.0 x me'.0 × (me'.1 ≡ me.1)

-- The seat is that of this one caller of this lane, which makes the step at this point next.
pub record IsAt (id : TableId) (key : Shape) (s : Shape) (c : ℕ) (t : Point) (p : Seat ℕ View) : Type 0 where
  pub table : p.table_id ≡ id
  pub size : id.words ≡ words_of key
  pub shape : s ≡ key
  pub planned : p.me.0.shape ≡ key
  pub alone : p.me.0.kind ≡ Alone
  pub caller : p.me.0.caller ≡ c
  pub point : p.me.0.kept.point ≡ t
  pub ready : Ready key c t

-- the seat made the machine's step, which found x
abbrev pub Moves : Seat ℕ View → Content → Seat ℕ View → Type 0
Moves p x q = (q.table_id ≡ p.table_id) × (q.id ≡ p.id) × Goes p.me.0 x q.me.0 × (q.me.1 ≡ p.me.1)

-- the first step of a command, which is a load
abbrev pub began : List Op → Step ℕ → Me ℕ View → ℕ → Me ℕ View → Type 0
began ops st me n me' = (m : ℕ) × (length me.0.seen ≤ m) × (x : Content) × (n ≡ coded x) × Goes (begun me.0 m ops) x me'.0 × (me'.1 ≡ me.1)

-- The seat is that of this one idle caller of this lane, whose command of these operations begins at this point.
pub record IsIdle (id : TableId) (key : Shape) (s : Shape) (c : ℕ) (ops : List Op) (t : Point) (p : Seat ℕ View) : Type 0 where
  pub table : p.table_id ≡ id
  pub size : id.words ≡ words_of key
  pub shape : s ≡ key
  pub planned : p.me.0.shape ≡ key
  pub alone : p.me.0.kind ≡ Alone
  pub caller : p.me.0.caller ≡ c
  pub may : MayStart p.me.0 ops
  pub point : first_point (lane_sizes key) c (caller_of p.me.0.kept) ops ≡ t
  pub ready : Ready key c t

-- the seat made the first step of the command of these operations, which found x
abbrev pub Starts : Seat ℕ View → List Op → Content → Seat ℕ View → Type 0
Starts p ops x q = (q.table_id ≡ p.table_id) × (q.id ≡ p.id) × ((m : ℕ) × (length p.me.0.seen ≤ m) × Goes (begun p.me.0 m ops) x q.me.0) × (q.me.1 ≡ p.me.1)

-- what the view has seen is proper, shuts nothing, and has of each caller that it holds, idle, exactly the groups of its ended commands
pub record IsWhole (v : View) : Type 0 where
  pub proper : IsProper v.shape.callers v.seen
  pub never_shut : NeverShut v.seen
  pub own : (c : ℕ) (k : Kept) → Holds c k v.gathered → k.point ≡ Idle → mine v.seen c ≡ k.mine

-- a load after a gathering tells the whole history
abbrev pub learned : Step ℕ → Me ℕ View → ℕ → Me ℕ View → Type 0
learned st me n me' = (me'.0.kind ≡ Gathered) × (me'.0.gathered ≡ me.0.gathered) × Begins me.0.seen me'.0.seen × Begins me.0.heard me'.0.seen × (me'.0.heard ≡ []) × (me'.0.shape ≡ me.0.shape) × (me'.1 ≡ me.1) × IsWhole me'.0
