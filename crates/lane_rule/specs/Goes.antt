-- What a step tells its caller.
use Rattle.std.specs.Prelude.{◌≡◌, ℕ, ◌<◌, [], length, Some, None}
use Rattle.bq_model.specs.declared.shape.Shape.{Shape}
use Rattle.word_rows.specs.declared.content.Content.{Content}
use Rattle.word_rows.specs.Layout.{IsValid}
use Rattle.word_rows.specs.Contents.{MayHold}
use Rattle.lane_steps.specs.declared.point.Point.{Point}
use Rattle.lane_steps.specs.declared.point.Point.TheVariants as point
use Rattle.lane_steps.specs.declared.point.ClosePoint.TheVariants as close
use Rattle.lane_steps.specs.declared.point.Closing.{Closing}
use Rattle.lane_steps.specs.LaneSizes.{lane_sizes}
use Rattle.lane_steps.specs.State.{State, hazard_in}
use Rattle.lane_steps.specs.Step.{act, target, after}
use Rattle.lane_steps.specs.Start.{opening}
use Rattle.lane_steps.specs.Ranges.{RowsFit, CountsFit}
use Rattle.lane_steps.specs.declared.point.CallEnd.TheVariants.{Done, Full}
use Rattle.core_model.specs.Few.{ListsFit}
use Rattle.lane_room.specs.Search.{IsAbove}
use Rattle.core_model.specs.Lawful.{Allowed}
use Rattle.lane_rank.specs.Return.{left}
use Rattle.core_model.specs.Ended.{EndedDone}
use Rattle.bq_model.specs.Proper.{IsProper}
use Rattle.bq_model.specs.NoShut.{NeverShut}
use Rattle.bq_model.specs.Own.{mine}
use Rattle.lane_rule.specs.declared.view.View.{View}
use Rattle.lane_rule.specs.declared.view.Kind.TheVariants.{Alone}
use Rattle.lane_steps.specs.Fits.{ActFits}
use Rattle.lane_rule.specs.Rule.{caller_of, Begins}

-- the next step of caller c at this point touches a word of the lane, and what it writes can stand there
pub record Ready (s : Shape) (c : ℕ) (t : Point) : Type 0 where
  pub word : IsValid s (target c t)
  pub rows : RowsFit t
  pub counts : CountsFit t
  pub fits : ActFits s (act c t)

-- the lane as the view saw it
abbrev pub seen_by : View → State
seen_by v = record { memory = (opening (lane_sizes v.shape)).memory; history = v.seen; callers = λ _. caller_of v.kept }

-- the view has seen the whole history, as its last step left it
pub record Knows (v : View) : Type 0 where
  pub proper : IsProper v.shape.callers v.seen
  pub never_shut : NeverShut v.seen
  pub own : v.kept.point ≡ point.Idle → mine v.seen v.caller ≡ v.kept.mine
  pub allowed : Allowed (lane_sizes v.shape) v.kept.mine v.kept.ops
  pub done : v.kept.point ≡ point.Idle → v.kept.outcome ≡ Some Done → EndedDone (seen_by v) v.caller

-- how much is left of the command of a view's caller
abbrev pub left_of : View → ℕ
left_of v = left v.shape (caller_of v.kept) v.outer v.inner

-- the caller's next point, after its word contained x
pub record Goes (v : View) (x : Content) (w : View) : Type 0 where
  pub alone : w.kind ≡ Alone
  pub next : caller_of w.kept ≡ after (lane_sizes v.shape) (length w.seen) v.caller (caller_of v.kept) v.kept.point x
  pub same : w.caller ≡ v.caller
  pub shape : w.shape ≡ v.shape
  pub later : Begins v.seen w.seen
  pub heard : w.heard ≡ []
  pub found : MayHold v.shape (target v.caller v.kept.point) x
  -- in its scan for rows it finds nothing in its own hazard word
  pub own_word : (a : Closing) → v.kept.point ≡ point.Close a (close.LoadHazard v.caller) → hazard_in x ≡ None
  -- where its command ends with Full, its own queued items and its enqueues passed the room, at a moment since it began
  pub full : 0 < length v.kept.ops → w.kept.point ≡ point.Idle → w.kept.outcome ≡ Some Full → IsAbove v.shape w.seen v.caller v.kept.ops v.kept.started_at
  pub ready : Ready w.shape w.caller w.kept.point
  pub knows : Knows w
  -- while its command goes on, less is left of it
  pub less : 0 < length w.kept.ops → left_of w < left_of v
  -- what it keeps in its lists fits its next point
  pub lists : ListsFit w.shape.callers (caller_of w.kept)
