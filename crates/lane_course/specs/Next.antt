-- What follows a step of a running command.
use Rattle.std.specs.Prelude.{◌≡◌, ℕ, Option, None, Some}
use Rattle.lane_steps.specs.declared.point.Closing.{Closing}
use Rattle.lane_steps.specs.declared.point.Point.{Point}
use Rattle.lane_steps.specs.State.{Caller}
use Rattle.lane_steps.specs.Step.{ended}
use Rattle.lane_course.specs.declared.next.Next.{Next}
use Rattle.lane_course.specs.declared.next.Next.TheVariants.{Goes, Ends}
use Rattle.lane_course.specs.declared.scratch.Scratch.{Scratch}
use Rattle.lane_course.specs.Scratch.{keeping}

-- Of caller c, which kept k but for what is at hand, when the history has n groups: where it goes on so, or has ended so, with
-- this at hand, it keeps w.
abbrev pub Becomes : ℕ → ℕ → Caller → Scratch → Next → Caller → Type 0
Becomes n c k a (Goes t) w = w ≡ record (keeping k a) { point = t }
Becomes n c k a (Ends x) w = w ≡ ended n c (keeping k a) x

-- what comes next, told by how the command ended, if it did, and by the point where it goes on, if it does.
abbrev pub told : Option Closing → Point → Next
told None t = Goes t
told (Some x) t = Ends x
