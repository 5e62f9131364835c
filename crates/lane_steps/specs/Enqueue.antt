-- An enqueue of the value of an item, whose row is taken: it stores the value, and links the row behind the last one.
use Rattle.std.specs.Prelude.{◌<◌, ℕ, Bool, List, [], ◌∷◌, cond, true, false}
use Rattle.bq_model.specs.declared.op.Op.TheVariants.{Enq}
use Rattle.bq_model.specs.declared.op.Answer.TheVariants.{Done}
use Rattle.word_rows.specs.declared.place.Place.{Place}
use Rattle.word_rows.specs.declared.head_word.HeadWord.{HeadWord}
use Rattle.word_rows.specs.declared.head_word.HeadWord.TheVariants.{Node, Ann}
use Rattle.word_rows.specs.declared.link_word.LinkWord.{LinkWord}
use Rattle.word_rows.specs.declared.link_word.LinkWord.TheVariants.{Nil, Single, Chain, Shut}
use Rattle.word_rows.specs.declared.location.Location.TheVariants.{Head, Tail, Link, Value}
use Rattle.word_rows.specs.declared.content.Content.{Content}
use Rattle.word_rows.specs.declared.content.Content.TheVariants.{OfLink, OfValue}
use Rattle.lane_steps.specs.declared.act.Act.{Act}
use Rattle.lane_steps.specs.declared.act.Act.TheVariants.{Load, Store, Exchange}
use Rattle.lane_steps.specs.declared.course.Course.{Course}
use Rattle.lane_steps.specs.declared.course.Course.TheVariants.{GoesOn, Closes}
use Rattle.lane_steps.specs.declared.kind.StepKind.{StepKind}
use Rattle.lane_steps.specs.declared.kind.StepKind.TheVariants as kind
use Rattle.lane_steps.specs.declared.point.Item.{Item}
use Rattle.lane_steps.specs.declared.point.Back.TheVariants as back
use Rattle.lane_steps.specs.declared.point.Closing.TheVariants.{Plain}
use Rattle.lane_steps.specs.declared.point.Guarding.TheVariants as guard
use Rattle.lane_steps.specs.declared.point.GuardPoint.TheVariants.{StoreHazard}
use Rattle.lane_steps.specs.declared.point.EnqueuePoint.{EnqueuePoint}
use Rattle.lane_steps.specs.declared.point.EnqueuePoint.TheVariants.{StoreValue, LoadTail, LoadLink, LinkSingle, PassTail, MoveTail, LoadHead}
use Rattle.lane_steps.specs.declared.point.Point.{Point}
use Rattle.lane_steps.specs.declared.point.Point.TheVariants as point
use Rattle.lane_steps.specs.State.{Caller, head_in, tail_in, link_in, own_group}
use Rattle.lane_steps.specs.Act.{is_nil, by_one}
use Rattle.lane_steps.specs.Fact.{Fact, owns, holds_item, linked, tail_seen, next_is, by_single, linearized_is, is_op, answered}
use Rattle.lane_steps.specs.Help.{help_of}
use Rattle.bq_model.specs.declared.shape.Shape.{Shape}
use Rattle.word_rows.specs.Fits.{limits_of, PlaceFits}
use Rattle.word_rows.specs.Sizes.{rows_of}

abbrev pub act : Item → EnqueuePoint → Act
act x StoreValue = Store (Value x.row) (OfValue x.value)
act x LoadTail = Load Tail
act x (LoadLink p) = Load (Link p.row)
act x (LinkSingle p) = Exchange (Link p.row) (OfLink Nil) (OfLink (Single x.row))
act x (PassTail p n) = by_one p n
act x (MoveTail p n) = by_one p n
act x LoadHead = Load Head

abbrev pub after_link : Place → LinkWord → EnqueuePoint
after_link p Nil = LinkSingle p
after_link p (Single n) = PassTail p n
after_link p (Chain n) = LoadHead
after_link p Shut = LoadTail

abbrev pub after_head : Item → HeadWord → Point
after_head x (Node p) = point.Enqueue x LoadTail
after_head x (Ann a n) = point.Guard (guard.Help (help_of a n (back.Enqueue x))) StoreHazard

abbrev pub course : Item → EnqueuePoint → Content → Course
course x StoreValue found = GoesOn (point.Enqueue x LoadTail)
course x LoadTail found = GoesOn (point.Guard (guard.Enqueue x (tail_in found)) StoreHazard)
course x (LoadLink p) found = GoesOn (point.Enqueue x (after_link p (link_in found)))
course x (LinkSingle p) found = GoesOn (point.Enqueue x (cond (is_nil (link_in found)) (MoveTail p x.row) LoadTail))
course x (PassTail p n) found = GoesOn (point.Enqueue x LoadTail)
course x (MoveTail p n) found = Closes (Plain Done)
course x LoadHead found = GoesOn (after_head x (head_in found))

abbrev pub kind_of : EnqueuePoint → StepKind
kind_of StoreValue = kind.StoreValue
kind_of LoadTail = kind.LoadTail
kind_of (LoadLink p) = kind.LoadLink
kind_of (LinkSingle p) = kind.LinkSingle
kind_of (PassTail p n) = kind.MoveTail
kind_of (MoveTail p n) = kind.MoveTail
kind_of LoadHead = kind.LoadHead

-- its row is linked
abbrev pub is_linked : EnqueuePoint → Bool
is_linked (MoveTail p n) = true
is_linked _ = false

-- What it knows of its command, before and after its value is stored, and once it is linked; and besides at each step.
abbrev pub command_knows : ℕ → Caller → Item → EnqueuePoint → List Fact
command_knows c k x StoreValue = is_op k.ops k.rows (Enq x.value) ∷ owns false x.row ∷ []
command_knows c k x (MoveTail p n) = is_op k.ops k.rows (Enq x.value) ∷ answered k.started_at (own_group c k) (Done ∷ []) ∷ []
command_knows c k x _ = is_op k.ops k.rows (Enq x.value) ∷ owns false x.row ∷ holds_item x ∷ []

abbrev pub call_knows : ℕ → Caller → Item → EnqueuePoint → List Fact
call_knows c k x p = linearized_is (is_linked p) (cond (is_linked p) [] (x.row ∷ [])) [] [] ∷ command_knows c k x p

abbrev pub knows : EnqueuePoint → List Fact
knows (LoadLink p) = linked p ∷ tail_seen p ∷ []
knows (LinkSingle p) = linked p ∷ tail_seen p ∷ []
knows (PassTail p n) = next_is p n ∷ by_single p ∷ []
knows (MoveTail p n) = next_is p n ∷ by_single p ∷ []
knows _ = []

-- what it has read fits in the lane
abbrev pub fits : Shape → EnqueuePoint → Type 0
fits s (LoadLink p) = PlaceFits (limits_of s) p
fits s (LinkSingle p) = PlaceFits (limits_of s) p
fits s (PassTail p n) = PlaceFits (limits_of s) p × (n < rows_of s)
fits s (MoveTail p n) = PlaceFits (limits_of s) p × (n < rows_of s)
fits s _ = Unit {0}
