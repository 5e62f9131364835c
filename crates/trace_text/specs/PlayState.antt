-- A machine that is played.
use Rattle.std.specs.Prelude.{◌≡◌, ℕ, ◌+◌, List, count_by}
use Rattle.bq_model.specs.declared.shape.Shape.{Shape}
use Rattle.lane_steps.specs.State.{State}
use Rattle.step_core.specs.declared.schedule.Event.{Event}
use Rattle.trace_text.specs.declared.play.Refused.{Refused}
use Rattle.trace_text.specs.Played.{after_events, opened, refusals_from, is_step, most_steps}

-- its state is that after the events, so many steps may still be made, and these commands were refused
pub record IsPlayed (z : Shape) (s : State) (events : List Event) (left : ℕ) (refused : List Refused) : Type 0 where
  pub state : s ≡ after_events z (opened z) events
  pub left_is : left + count_by is_step events ≡ most_steps
  pub refused_are : refused ≡ refusals_from z (opened z) events
