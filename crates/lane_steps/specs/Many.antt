-- Several dequeues and no enqueue: the batch walks behind the dummy for its values, and moves HEAD over all of their rows at
-- once. Where it finds fewer it announces itself, with its stopper as the chain.
use Rattle.std.specs.Prelude.{◌<◌, ℕ, zero, suc, ◌-◌, nat_le, List, [], ◌∷◌, cond, false, Option, Some, None}
use Rattle.word_rows.specs.declared.place.Place.{Place}
use Rattle.word_rows.specs.declared.head_word.HeadWord.{HeadWord}
use Rattle.word_rows.specs.declared.head_word.HeadWord.TheVariants.{Node, Ann}
use Rattle.word_rows.specs.declared.link_word.LinkWord.{LinkWord}
use Rattle.word_rows.specs.declared.link_word.LinkWord.TheVariants.{Nil, Single, Chain, Shut}
use Rattle.word_rows.specs.declared.location.AnnField.TheVariants as field
use Rattle.word_rows.specs.declared.location.Location.TheVariants.{Head, Tail, Link, Value}
use Rattle.word_rows.specs.declared.content.Content.{Content}
use Rattle.word_rows.specs.declared.content.Content.TheVariants.{OfHead}
use Rattle.lane_steps.specs.declared.act.Act.{Act}
use Rattle.lane_steps.specs.declared.act.Act.TheVariants.{Load, Exchange}
use Rattle.lane_steps.specs.declared.course.Course.{Course}
use Rattle.lane_steps.specs.declared.course.Course.TheVariants.{GoesOn, Closes, Takes, Walks, WalksMore, Moves}
use Rattle.lane_steps.specs.declared.kind.StepKind.{StepKind}
use Rattle.lane_steps.specs.declared.kind.StepKind.TheVariants as kind
use Rattle.lane_steps.specs.declared.point.Notice.{Notice}
use Rattle.lane_steps.specs.declared.point.Plan.{Plan}
use Rattle.lane_steps.specs.declared.point.Back.TheVariants as back
use Rattle.lane_steps.specs.declared.point.BatchPoint.TheVariants as batch
use Rattle.lane_steps.specs.declared.point.Closing.TheVariants.{Batch}
use Rattle.lane_steps.specs.declared.point.Taking.TheVariants as taking
use Rattle.lane_steps.specs.declared.point.Guarding.TheVariants as guard
use Rattle.lane_steps.specs.declared.point.GuardPoint.TheVariants.{StoreHazard}
use Rattle.lane_steps.specs.declared.point.ManyPoint.{ManyPoint}
use Rattle.lane_steps.specs.declared.point.ManyPoint.TheVariants.{LoadHead, LoadDummy, LoadLink, LoadValue, LoadTail, MoveHead, LoadBehind, PassTail, LoadChained}
use Rattle.lane_steps.specs.declared.point.Point.{Point}
use Rattle.lane_steps.specs.declared.point.Point.TheVariants as point
use Rattle.lane_steps.specs.State.{Command, head_in, tail_in, link_in, value_in}
use Rattle.lane_steps.specs.Act.{is_node, far_behind, by_one}
use Rattle.lane_steps.specs.Help.{help_of}
use Rattle.lane_steps.specs.Fact.{Fact, linked, head_seen, tail_seen, next_is, by_single, linearized_is, drafts, fills, plans, spares, only_dequeues, has_walked, is_walking, to_walk}
use Rattle.bq_model.specs.declared.shape.Shape.{Shape}
use Rattle.word_rows.specs.Fits.{limits_of, PlaceFits}
use Rattle.word_rows.specs.Sizes.{rows_of}

-- HEAD is to move over all dequeues' rows, to the row r
abbrev pub act : Plan → ManyPoint → Act
act d LoadHead = Load Head
act d LoadDummy = Load (Link d.notice.old_head.row)
act d (LoadLink r l) = Load (Link r)
act d (LoadValue r l) = Load (Value r)
act d (LoadTail r) = Load Tail
act d (MoveHead r) = Exchange Head (OfHead (Node d.notice.old_head)) (OfHead (Node (far_behind d.notice.old_head r d.notice.counts.deqs)))
act d (LoadBehind p) = Load (Link p.row)
act d (PassTail p n) = by_one p n
act d LoadChained = Load Head

-- the plan with this old head
abbrev pub on_dummy : Plan → Place → Plan
on_dummy d p = record d { notice = record d.notice { old_head = p } }

-- it found this in HEAD; or this, behind a chain
abbrev pub after_head : Plan → HeadWord → Point
after_head d (Node p) = point.Guard (guard.Many (on_dummy d p)) StoreHazard
after_head d (Ann a n) = point.Guard (guard.Help (help_of a n (back.Many d))) StoreHazard

abbrev pub after_chained : Plan → HeadWord → Point
after_chained d (Node p) = point.Many d LoadHead
after_chained d (Ann a n) = point.Guard (guard.Help (help_of a n (back.Many d))) StoreHazard

-- it found this behind the dummy
abbrev pub after_dummy : Plan → LinkWord → Course
after_dummy d Nil = Closes (Batch 0)
after_dummy d (Single r) = Walks (point.Many d (LoadValue r (d.notice.counts.deqs - 1)))
after_dummy d (Chain r) = Walks (point.Many d (LoadValue r (d.notice.counts.deqs - 1)))
after_dummy d Shut = GoesOn (point.Many d LoadHead)

-- there are too few values: it stores its announcement, for which it takes a stopper and chooses one first where it hasn't
abbrev pub announces : Notice → Option ℕ → Course
announces n None = Takes (taking.Stopper n)
announces n (Some a) = GoesOn (point.Batch (record { ann = a; notice = n }) (batch.StoreAll field.OldHead))

-- or behind a row that it has walked to
abbrev pub after_link : Plan → ℕ → LinkWord → Course
after_link d l Nil = announces d.notice d.ann
after_link d l (Single n) = GoesOn (point.Many d (LoadValue n l))
after_link d l (Chain n) = GoesOn (point.Many d (LoadValue n l))
after_link d l Shut = GoesOn (point.Many d LoadHead)

-- it has read the value of this row, with so many to go
abbrev pub after_value : ℕ → ℕ → ManyPoint
after_value r zero = LoadTail r
after_value r (suc l) = LoadLink r l

-- it found this tail, where the row is to be the new dummy
abbrev pub after_tail : Plan → ℕ → Place → Point
after_tail d r p = cond (nat_le d.notice.counts.deqs (p.count - d.notice.old_head.count)) (point.Many d (MoveHead r)) (point.Guard (guard.ManyTail d p) StoreHazard)

-- it found this behind the row of a tail that lies before that
abbrev pub after_behind : Place → LinkWord → ManyPoint
after_behind p Nil = LoadHead
after_behind p (Single n) = PassTail p n
after_behind p (Chain n) = LoadChained
after_behind p Shut = LoadHead

abbrev pub course : Plan → ManyPoint → Content → Course
course d LoadHead x = GoesOn (after_head d (head_in x))
course d LoadDummy x = after_dummy d (link_in x)
course d (LoadLink r l) x = after_link d l (link_in x)
course d (LoadValue r l) x = WalksMore (point.Many d (after_value r l)) r (value_in x)
course d (LoadTail r) x = GoesOn (after_tail d r (tail_in x))
course d (MoveHead r) x = cond (is_node (head_in x) d.notice.old_head) (Moves d.notice.old_head d.notice.counts.deqs) (GoesOn (point.Many d LoadHead))
course d (LoadBehind p) x = GoesOn (point.Many d (after_behind p (link_in x)))
course d (PassTail p r) x = GoesOn (point.Many d LoadHead)
course d LoadChained x = GoesOn (after_chained d (head_in x))

abbrev pub kind_of : ManyPoint → StepKind
kind_of LoadHead = kind.LoadHead
kind_of LoadDummy = kind.LoadLink
kind_of (LoadLink r l) = kind.LoadLink
kind_of (LoadValue r l) = kind.LoadValue
kind_of (LoadTail r) = kind.LoadTail
kind_of (MoveHead r) = kind.MoveHeadMany
kind_of (LoadBehind p) = kind.LoadLink
kind_of (PassTail p n) = kind.MoveTail
kind_of LoadChained = kind.LoadHead

-- what the owner knows of its command, and besides at each of its steps, where it has read these values
abbrev pub call_knows : Command → Plan → List Fact
call_knows m d = linearized_is false m.rows [] [] ∷ drafts m d.notice ∷ fills m.rows m.ops 0 ∷ plans d m.rows ∷ only_dequeues d.notice ∷ []

abbrev pub knows : List ℕ → List ℕ → Plan → ManyPoint → List Fact
knows vs ws d LoadHead = spares d.ann ∷ []
knows vs ws d LoadDummy = spares d.ann ∷ linked d.notice.old_head ∷ head_seen d.notice.old_head ∷ []
knows vs ws d (LoadLink r l) = spares d.ann ∷ has_walked d.notice.old_head vs ws r ∷ to_walk d.notice vs (suc l) ∷ []
knows vs ws d (LoadValue r l) = spares d.ann ∷ is_walking d.notice.old_head vs ws r ∷ to_walk d.notice vs (suc l) ∷ []
knows vs ws d (LoadTail r) = spares d.ann ∷ has_walked d.notice.old_head vs ws r ∷ to_walk d.notice vs 0 ∷ []
knows vs ws d (MoveHead r) = spares d.ann ∷ has_walked d.notice.old_head vs ws r ∷ to_walk d.notice vs 0 ∷ tail_seen (far_behind d.notice.old_head r d.notice.counts.deqs) ∷ []
knows vs ws d (LoadBehind p) = spares d.ann ∷ linked p ∷ []
knows vs ws d (PassTail p n) = spares d.ann ∷ next_is p n ∷ by_single p ∷ []
knows vs ws d LoadChained = spares d.ann ∷ []

-- what it has read fits in the lane
abbrev pub fits : Shape → ManyPoint → Type 0
fits s (LoadLink r l) = r < rows_of s
fits s (LoadValue r l) = r < rows_of s
fits s (LoadTail r) = r < rows_of s
fits s (MoveHead r) = r < rows_of s
fits s (LoadBehind p) = PlaceFits (limits_of s) p
fits s (PassTail p n) = PlaceFits (limits_of s) p × (n < rows_of s)
fits s _ = Unit {0}
