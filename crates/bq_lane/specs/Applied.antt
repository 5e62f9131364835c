-- What a lane call has done, as its caller's pass shows it.
use Rattle.std.specs.Prelude.{◌≡◌, ℕ, ◌≤◌, ◌<◌, ◌++◌, Bool, true, false, List, [], ◌∷◌, length}
use Rattle.atomic_table.specs.declared.shared.Seat.{Seat}
use Rattle.bq_model.specs.declared.op.Op.{Op}
use Rattle.bq_model.specs.declared.op.Answer.{Answer}
use Rattle.bq_model.specs.Own.{mine}
use Rattle.bq_model.specs.Proper.{IsProper}
use Rattle.bq_model.specs.NoShut.{NeverShut}
use Rattle.core_model.specs.Kept.{Stands}
use Rattle.core_model.specs.Lawful.{Allowed}
use Rattle.lane_steps.specs.Functions.{Distinct}
use Rattle.lane_steps.specs.LaneSizes.{lane_sizes}
use Rattle.lane_steps.specs.declared.point.Point.TheVariants.{Idle}
use Rattle.lane_rule.specs.declared.view.View.{View}
use Rattle.lane_rule.specs.declared.view.Kind.TheVariants.{Alone}
use Rattle.bq_model.specs.Grows.{AtSomePoint}
use Rattle.bq_model.specs.Rooms.{PassesRoom}
use Rattle.bq_model.specs.Values.{enqueued}
use Rattle.lane_course.specs.declared.scratch.Scratch.{Scratch}
use Rattle.lane_course.specs.Running.{Agrees, Same, group_of}

-- The caller is idle, and has seen the history. This is left at hand.
pub record Rested (p : Seat ℕ View) (a : Scratch) (q : Seat ℕ View) : Type 0 where
  pub same : Same p q
  pub alone : q.me.0.kind ≡ Alone
  pub heard : q.me.0.heard ≡ []
  pub idle : q.me.0.kept.point ≡ Idle
  pub proper : IsProper q.me.0.shape.callers q.me.0.seen
  pub never_shut : NeverShut q.me.0.seen
  pub own : mine q.me.0.seen q.me.0.caller ≡ q.me.0.kept.mine
  pub allowed : Allowed (lane_sizes q.me.0.shape) q.me.0.kept.mine []
  pub agrees : Agrees q.me.0.kept a
  pub few : length q.me.0.kept.retired < q.me.0.shape.callers
  pub apart : Distinct q.me.0.kept.retired

-- The group of these operations is one more of the caller's. It stands in what the caller has now seen, not before the end
-- of what it had seen, and the answers are the replay's there.
pub record Applied (p : Seat ℕ View) (ops : List Op) (xs : List Answer) (a : Scratch) (q : Seat ℕ View) : Type 0 where
  pub rested : Rested p a q
  pub grown : q.me.0.kept.mine ≡ p.me.0.kept.mine ++ group_of p.me.0 ops ∷ []
  pub stands : Stands q.me.0.seen (group_of p.me.0 ops) xs
  pub placed : length p.me.0.seen ≤ length stands.before

-- The caller made no group of these operations. It had no room for their enqueues at some moment of the call.
pub record Declined (p : Seat ℕ View) (ops : List Op) (a : Scratch) (q : Seat ℕ View) : Type 0 where
  pub rested : Rested p a q
  pub same_groups : q.me.0.kept.mine ≡ p.me.0.kept.mine
  pub some : 0 < length (enqueued ops)
  pub passed : AtSomePoint (λ point. PassesRoom p.me.0.shape point p.me.0.caller ops) p.me.0.seen q.me.0.seen

-- what a call has done that made its group, or that was refused
abbrev pub Called : Seat ℕ View → List Op → List Answer → Scratch → Seat ℕ View → Bool → Type 0
Called p ops xs a q true = Applied p ops xs a q
Called p ops xs a q false = Declined p ops a q × (xs ≡ [])
