-- The kind of a step.
use Rattle.std.specs.Prelude.{Option, Some, None}
use Rattle.lane_steps.specs.declared.kind.StepKind.{StepKind}
use Rattle.lane_steps.specs.declared.point.Point.{Point}
use Rattle.lane_steps.specs.declared.point.Point.TheVariants.{Idle}
use Rattle.lane_steps.specs.declared.point.Point.TheVariants as point
use Rattle.lane_steps.specs.Help as helping
use Rattle.lane_steps.specs.Enqueue as enqueue
use Rattle.lane_steps.specs.Dequeue as dequeue
use Rattle.lane_steps.specs.Fill as filling
use Rattle.lane_steps.specs.Batch as batching
use Rattle.lane_steps.specs.Many as dequeuing
use Rattle.lane_steps.specs.Answer as answering
use Rattle.lane_steps.specs.Take as taking
use Rattle.lane_steps.specs.Guard as guarding
use Rattle.lane_steps.specs.Close as closing

-- what the next step is; none where no command runs
abbrev pub kind_of : Point → Option StepKind
kind_of Idle = None
kind_of (point.Enqueue x p) = Some (enqueue.kind_of p)
kind_of (point.Dequeue p) = Some (dequeue.kind_of p)
kind_of (point.Fill n p) = Some (filling.kind_of p)
kind_of (point.Batch d p) = Some (batching.kind_of p)
kind_of (point.Many d p) = Some (dequeuing.kind_of p)
kind_of (point.Answer p) = Some (answering.kind_of p)
kind_of (point.Help h p) = Some (helping.kind_of h p)
kind_of (point.Take t p) = Some (taking.kind_of p)
kind_of (point.Guard t p) = Some (guarding.kind_of t p)
kind_of (point.Close a p) = Some (closing.kind_of p)
