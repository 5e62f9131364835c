-- A dequeue: it finds the row behind the dummy, and moves HEAD to it.
use Rattle.std.specs.Prelude.{◌<◌, List, [], ◌∷◌, cond, false}
use Rattle.bq_model.specs.declared.op.Op.TheVariants.{Deq}
use Rattle.bq_model.specs.declared.op.Answer.TheVariants.{Got, Empty}
use Rattle.lane_steps.specs.declared.point.DequeuePoint.{DequeuePoint}
use Rattle.lane_steps.specs.declared.point.DequeuePoint.TheVariants.{LoadHead, LoadLink, LoadTail, LoadTailOver, PassTail, LoadValue, MoveHead}
use Rattle.word_rows.specs.declared.place.Place.{Place}
use Rattle.word_rows.specs.declared.head_word.HeadWord.{HeadWord}
use Rattle.word_rows.specs.declared.head_word.HeadWord.TheVariants.{Node, Ann}
use Rattle.word_rows.specs.declared.link_word.LinkWord.{LinkWord}
use Rattle.word_rows.specs.declared.link_word.LinkWord.TheVariants.{Nil, Single, Chain, Shut}
use Rattle.word_rows.specs.declared.location.Location.TheVariants.{Head, Tail, Link, Value}
use Rattle.word_rows.specs.declared.content.Content.{Content}
use Rattle.word_rows.specs.declared.content.Content.TheVariants.{OfHead}
use Rattle.lane_steps.specs.declared.act.Act.{Act}
use Rattle.lane_steps.specs.declared.act.Act.TheVariants.{Load, Exchange}
use Rattle.lane_steps.specs.declared.course.Course.{Course}
use Rattle.lane_steps.specs.declared.course.Course.TheVariants.{GoesOn, Closes, Passes}
use Rattle.lane_steps.specs.declared.kind.StepKind.{StepKind}
use Rattle.lane_steps.specs.declared.kind.StepKind.TheVariants as kind
use Rattle.lane_steps.specs.declared.point.Back.TheVariants as back
use Rattle.lane_steps.specs.declared.point.Closing.TheVariants.{Plain}
use Rattle.lane_steps.specs.declared.point.Guarding.TheVariants as guard
use Rattle.lane_steps.specs.declared.point.GuardPoint.TheVariants.{StoreHazard}
use Rattle.lane_steps.specs.declared.point.Point.{Point}
use Rattle.lane_steps.specs.declared.point.Point.TheVariants as point
use Rattle.lane_steps.specs.State.{Command, head_in, tail_in, link_in, value_in}
use Rattle.lane_steps.specs.Act.{same_place, is_node, behind, by_one}
use Rattle.lane_steps.specs.Help.{help_of}
use Rattle.lane_steps.specs.Fact.{Fact, linked, head_seen, tail_past, next_is, by_single, next_value, linearized_is, is_op}
use Rattle.bq_model.specs.declared.shape.Shape.{Shape}
use Rattle.word_rows.specs.Fits.{limits_of, PlaceFits}
use Rattle.word_rows.specs.Sizes.{rows_of}

abbrev pub act : DequeuePoint → Act
act LoadHead = Load Head
act (LoadLink p) = Load (Link p.row)
act (LoadTail p n) = Load Tail
act (LoadTailOver p n) = Load Tail
act (PassTail p n) = by_one p n
act (LoadValue p n) = Load (Value n)
act (MoveHead p n v) = Exchange Head (OfHead (Node p)) (OfHead (Node (behind p n)))

abbrev pub after_head : HeadWord → Point
after_head (Node p) = point.Guard (guard.Dequeue p) StoreHazard
after_head (Ann a n) = point.Guard (guard.Help (help_of a n back.Dequeue)) StoreHazard

-- it found this behind the dummy
abbrev pub after_link : Place → LinkWord → Course
after_link p Nil = Closes (Plain Empty)
after_link p (Single r) = GoesOn (point.Dequeue (LoadTail p r))
after_link p (Chain r) = GoesOn (point.Dequeue (LoadTailOver p r))
after_link p Shut = GoesOn (point.Dequeue LoadHead)

abbrev pub course : DequeuePoint → Content → Course
course LoadHead x = GoesOn (after_head (head_in x))
course (LoadLink p) x = after_link p (link_in x)
course (LoadTail p r) x = GoesOn (point.Dequeue (cond (same_place (tail_in x) p) (PassTail p r) (LoadValue p r)))
course (LoadTailOver p r) x = GoesOn (point.Dequeue (cond (same_place (tail_in x) p) LoadHead (LoadValue p r)))
course (PassTail p r) x = GoesOn (point.Dequeue LoadHead)
course (LoadValue p r) x = GoesOn (point.Dequeue (MoveHead p r (value_in x)))
course (MoveHead p r v) x = cond (is_node (head_in x) p) (Passes (Plain (Got v)) p r) (GoesOn (point.Dequeue LoadHead))

abbrev pub kind_of : DequeuePoint → StepKind
kind_of LoadHead = kind.LoadHead
kind_of (LoadLink p) = kind.LoadLink
kind_of (LoadTail p n) = kind.LoadTail
kind_of (LoadTailOver p n) = kind.LoadTail
kind_of (PassTail p n) = kind.MoveTail
kind_of (LoadValue p n) = kind.LoadValue
kind_of (MoveHead p n v) = kind.MoveHead

-- what it knows of its command, and besides at each of its steps
abbrev pub call_knows : Command → List Fact
call_knows m = linearized_is false [] [] [] ∷ is_op m.ops m.rows Deq ∷ []

abbrev pub knows : DequeuePoint → List Fact
knows LoadHead = []
knows (LoadLink p) = linked p ∷ head_seen p ∷ []
knows (LoadTail p n) = linked p ∷ head_seen p ∷ next_is p n ∷ by_single p ∷ []
knows (LoadTailOver p n) = linked p ∷ head_seen p ∷ next_is p n ∷ []
knows (PassTail p n) = next_is p n ∷ by_single p ∷ []
knows (LoadValue p n) = head_seen p ∷ next_is p n ∷ tail_past p ∷ []
knows (MoveHead p n v) = next_is p n ∷ tail_past p ∷ next_value p v ∷ []

-- what it has read fits in the lane
abbrev pub fits : Shape → DequeuePoint → Type 0
fits s LoadHead = Unit {0}
fits s (LoadLink p) = PlaceFits (limits_of s) p
fits s (LoadTail p n) = PlaceFits (limits_of s) p × (n < rows_of s)
fits s (LoadTailOver p n) = PlaceFits (limits_of s) p × (n < rows_of s)
fits s (PassTail p n) = PlaceFits (limits_of s) p × (n < rows_of s)
fits s (LoadValue p n) = PlaceFits (limits_of s) p × (n < rows_of s)
fits s (MoveHead p n v) = PlaceFits (limits_of s) p × (n < rows_of s)
