-- A caller makes sure of a row or an announcement that it found: it names that in its hazard word, and loads the word again
-- in which it found it. Where that is as before, it holds what it named, and goes on; else it looks again.
use Rattle.std.specs.Prelude.{ℕ, cond, List, [], ◌∷◌, Some}
use Rattle.bq_model.specs.declared.shape.Shape.{Shape}
use Rattle.word_rows.specs.declared.head_word.HeadWord.TheVariants.{Node, Ann}
use Rattle.word_rows.specs.declared.location.Location.{Location}
use Rattle.word_rows.specs.declared.location.Location.TheVariants.{Head, Tail, NodeHazard, AnnHazard}
use Rattle.word_rows.specs.declared.content.Content.{Content}
use Rattle.word_rows.specs.declared.content.Content.TheVariants.{OfHead, OfTail, OfNodeHazard, OfAnnHazard}
use Rattle.word_rows.specs.Fits.{limits_of, PlaceFits}
use Rattle.lane_steps.specs.declared.act.Act.{Act}
use Rattle.lane_steps.specs.declared.act.Act.TheVariants.{Load, Store}
use Rattle.lane_steps.specs.declared.course.Course.{Course}
use Rattle.lane_steps.specs.declared.course.Course.TheVariants.{GoesOn, Guards, Holds}
use Rattle.lane_steps.specs.declared.kind.StepKind.{StepKind}
use Rattle.lane_steps.specs.declared.kind.StepKind.TheVariants as kind
use Rattle.lane_steps.specs.declared.point.Guarding.{Guarding}
use Rattle.lane_steps.specs.declared.point.Guarding.TheVariants.{Enqueue, Dequeue, Many, ManyTail, Help, HelpTail}
use Rattle.lane_steps.specs.declared.point.GuardPoint.{GuardPoint}
use Rattle.lane_steps.specs.declared.point.GuardPoint.TheVariants.{StoreHazard, LoadAgain}
use Rattle.lane_steps.specs.declared.point.Hold.{Hold}
use Rattle.lane_steps.specs.declared.point.Hold.TheVariants.{Names, Held}
use Rattle.lane_steps.specs.declared.point.EnqueuePoint.TheVariants as enq
use Rattle.lane_steps.specs.declared.point.DequeuePoint.TheVariants as deq
use Rattle.lane_steps.specs.declared.point.ManyPoint.TheVariants as many
use Rattle.lane_steps.specs.declared.point.HelpPoint.TheVariants as help
use Rattle.lane_steps.specs.declared.point.Point.{Point}
use Rattle.lane_steps.specs.declared.point.Point.TheVariants as point
use Rattle.lane_steps.specs.State.{Caller, command}
use Rattle.lane_steps.specs.Act.{same_content}
use Rattle.lane_steps.specs.Fact.{Fact, hazard_is, row_hazard_is, helps}
use Rattle.lane_steps.specs.Help.{back_point, back_facts}
use Rattle.lane_steps.specs.Enqueue as enqueue
use Rattle.lane_steps.specs.Dequeue as dequeue
use Rattle.lane_steps.specs.Many as dequeuing
use Rattle.lane_steps.specs.Help as helping

-- the row or the announcement that it names
abbrev pub guarded : Guarding → ℕ
guarded (Enqueue x p) = p.row
guarded (Dequeue p) = p.row
guarded (Many d) = d.notice.old_head.row
guarded (ManyTail d p) = p.row
guarded (Help h) = h.ann
guarded (HelpTail h p) = p.row

-- in which hazard word, and how that has it
abbrev pub hazard : ℕ → Guarding → Location
hazard c (Help h) = AnnHazard c
hazard c t = NodeHazard c

abbrev pub named : Guarding → Content
named (Help h) = OfAnnHazard (Some h.ann)
named t = OfNodeHazard (Some (guarded t))

-- where it found that, and what it found
abbrev pub source : Guarding → Location
source (Enqueue x p) = Tail
source (Dequeue p) = Head
source (Many d) = Head
source (ManyTail d p) = Tail
source (Help h) = Head
source (HelpTail h p) = Tail

abbrev pub expected : Guarding → Content
expected (Enqueue x p) = OfTail p
expected (Dequeue p) = OfHead (Node p)
expected (Many d) = OfHead (Node d.notice.old_head)
expected (ManyTail d p) = OfTail p
expected (Help h) = OfHead (Ann h.ann h.old_head.count)
expected (HelpTail h p) = OfTail p

-- where it goes on once it holds that, and where it looks again
abbrev pub held : Guarding → Point
held (Enqueue x p) = point.Enqueue x (enq.LoadLink p)
held (Dequeue p) = point.Dequeue (deq.LoadLink p)
held (Many d) = point.Many d many.LoadDummy
held (ManyTail d p) = point.Many d (many.LoadBehind p)
held (Help h) = point.Help h help.LoadOldHead
held (HelpTail h p) = point.Help h (help.LoadOldTail p)

abbrev pub again : Guarding → Point
again (Enqueue x p) = point.Enqueue x enq.LoadTail
again (Dequeue p) = point.Dequeue deq.LoadHead
again (Many d) = point.Many d many.LoadHead
again (ManyTail d p) = point.Many d many.LoadHead
again (Help h) = back_point h h.back
again (HelpTail h p) = point.Help h help.LoadTail

abbrev pub act : ℕ → Guarding → GuardPoint → Act
act c t StoreHazard = Store (hazard c t) (named t)
act c t LoadAgain = Load (source t)

-- the caller goes on, and its hold has changed
abbrev pub rehold : Guarding → Point → Hold → Course
rehold (Help h) p x = Guards p x
rehold t p x = Holds p x

abbrev pub course : Guarding → GuardPoint → Content → Course
course t StoreHazard x = rehold t (point.Guard t LoadAgain) (Names (guarded t))
course t LoadAgain x = cond (same_content x (expected t)) (rehold t (held t) (Held (guarded t))) (GoesOn (again t))

abbrev pub source_kind : Location → StepKind
source_kind Tail = kind.LoadTail
source_kind _ = kind.LoadHead

abbrev pub hazard_kind : Guarding → StepKind
hazard_kind (Help h) = kind.StoreAnnHazard
hazard_kind t = kind.StoreNodeHazard

abbrev pub kind_of : Guarding → GuardPoint → StepKind
kind_of t StoreHazard = hazard_kind t
kind_of t LoadAgain = source_kind (source t)

-- what it knows of its command is what it knows where it looks again
abbrev pub call_knows : ℕ → Caller → Guarding → List Fact
call_knows c k (Enqueue x p) = enqueue.call_knows c k x enq.LoadTail
call_knows c k (Dequeue p) = dequeue.call_knows (command k)
call_knows c k (Many d) = dequeuing.call_knows (command k) d
call_knows c k (ManyTail d p) = dequeuing.call_knows (command k) d
call_knows c k (Help h) = helps h ∷ back_facts c (command k) h.ann h.back
call_knows c k (HelpTail h p) = helping.call_knows c (command k) h help.LoadTail

-- what it knows as it looks again; and that its hazard word names what it found
abbrev pub seen : Guarding → List Fact
seen (Enqueue x p) = []
seen (Dequeue p) = []
seen (Many d) = dequeuing.knows [] [] d many.LoadHead
seen (ManyTail d p) = dequeuing.knows [] [] d many.LoadHead
seen (Help h) = []
seen (HelpTail h p) = []

abbrev pub hazard_fact : Guarding → Fact
hazard_fact (Help h) = hazard_is h.ann
hazard_fact t = row_hazard_is (guarded t)

abbrev pub knows : Guarding → GuardPoint → List Fact
knows t StoreHazard = seen t
knows t LoadAgain = hazard_fact t ∷ seen t

-- what it has read fits in the lane
abbrev pub fits : Shape → Guarding → Type 0
fits s (Enqueue x p) = PlaceFits (limits_of s) p
fits s (Dequeue p) = PlaceFits (limits_of s) p
fits s (Many d) = Unit {0}
fits s (ManyTail d p) = PlaceFits (limits_of s) p
fits s (Help h) = Unit {0}
fits s (HelpTail h p) = PlaceFits (limits_of s) p
