-- A batch that has chosen its announcement, until this is installed: its owner stores the fields of the announcement. Where
-- there is an enqueue it stores OldHead last, and again after an install that failed; dequeues alone store all from OldHead on.
use Rattle.std.specs.Prelude.{◌-◌, ◌==◌, length, List, [], ◌∷◌, cond, false, Some}
use Rattle.lane_steps.specs.declared.point.BatchPoint.{BatchPoint}
use Rattle.lane_steps.specs.declared.point.BatchPoint.TheVariants.{StoreField, StoreAll, LoadHead, Install}
use Rattle.word_rows.specs.declared.place.Place.{Place}
use Rattle.word_rows.specs.declared.head_word.HeadWord.{HeadWord}
use Rattle.word_rows.specs.declared.head_word.HeadWord.TheVariants.{Node, Ann}
use Rattle.word_rows.specs.declared.location.AnnField.{AnnField}
use Rattle.word_rows.specs.declared.location.AnnField.TheVariants as field
use Rattle.word_rows.specs.declared.location.Location.TheVariants.{Head, AnnWord}
use Rattle.word_rows.specs.declared.content.Content.{Content}
use Rattle.word_rows.specs.declared.content.Content.TheVariants.{OfHead}
use Rattle.lane_steps.specs.declared.act.Act.{Act}
use Rattle.lane_steps.specs.declared.act.Act.TheVariants.{Load, Store, Exchange}
use Rattle.lane_steps.specs.declared.course.Course.{Course}
use Rattle.lane_steps.specs.declared.course.Course.TheVariants.{GoesOn}
use Rattle.lane_steps.specs.declared.kind.StepKind.{StepKind}
use Rattle.lane_steps.specs.declared.kind.StepKind.TheVariants as kind
use Rattle.lane_steps.specs.declared.point.Draft.{Draft}
use Rattle.lane_steps.specs.declared.point.Back.TheVariants as back
use Rattle.lane_steps.specs.declared.point.Guarding.TheVariants as guard
use Rattle.lane_steps.specs.declared.point.GuardPoint.TheVariants.{StoreHazard}
use Rattle.lane_steps.specs.declared.point.ManyPoint.TheVariants as many
use Rattle.lane_steps.specs.declared.point.Point.{Point}
use Rattle.lane_steps.specs.declared.point.Point.TheVariants as point
use Rattle.lane_steps.specs.Notices.{field_in}
use Rattle.lane_steps.specs.State.{Command, head_in}
use Rattle.lane_steps.specs.Act.{is_node}
use Rattle.lane_steps.specs.Help.{help_of, own_help}
use Rattle.lane_steps.specs.Fact.{Fact, drafts, fills, whole, written, head_written, is_spare, only_dequeues, linearized_is}

abbrev pub act : Draft → BatchPoint → Act
act d (StoreField f) = Store (AnnWord d.ann f) (field_in d.notice f)
act d (StoreAll f) = Store (AnnWord d.ann f) (field_in d.notice f)
act d LoadHead = Load Head
act d Install = Exchange Head (OfHead (Node d.notice.old_head)) (OfHead (Ann d.ann d.notice.old_head.count))

abbrev pub after_field : AnnField → BatchPoint
after_field field.OldHead = Install
after_field field.OldTail = StoreField field.First
after_field field.First = StoreField field.Last
after_field field.Last = StoreField field.Counts
after_field field.Counts = StoreField field.BatchNo
after_field field.BatchNo = StoreField field.Order0
after_field field.Order0 = StoreField field.Order1
after_field field.Order1 = StoreField field.Order2
after_field field.Order2 = StoreField field.Order3
after_field field.Order3 = LoadHead

abbrev pub after_whole : AnnField → BatchPoint
after_whole field.OldHead = StoreAll field.OldTail
after_whole field.OldTail = StoreAll field.First
after_whole field.First = StoreAll field.Last
after_whole field.Last = StoreAll field.Counts
after_whole field.Counts = StoreAll field.BatchNo
after_whole field.BatchNo = StoreAll field.Order0
after_whole field.Order0 = StoreAll field.Order1
after_whole field.Order1 = StoreAll field.Order2
after_whole field.Order2 = StoreAll field.Order3
after_whole field.Order3 = Install

-- the draft with this old head
abbrev pub on_head : Draft → Place → Draft
on_head d p = record d { notice = record d.notice { old_head = p } }

abbrev pub after_head : Draft → HeadWord → Point
after_head d (Node p) = point.Batch (on_head d p) (StoreField field.OldHead)
after_head d (Ann a n) = point.Guard (guard.Help (help_of a n (back.Batch d))) StoreHazard

-- another head word was there at the install; dequeues alone begin their walk again
abbrev pub retry : Draft → Point
retry d = cond (d.notice.counts.enqs == 0) (point.Many (record { ann = Some d.ann; notice = d.notice }) many.LoadHead) (point.Batch d LoadHead)

abbrev pub course : Draft → BatchPoint → Content → Course
course d (StoreField f) x = GoesOn (point.Batch d (after_field f))
course d (StoreAll f) x = GoesOn (point.Batch d (after_whole f))
course d LoadHead x = GoesOn (after_head d (head_in x))
course d Install x = GoesOn (cond (is_node (head_in x) d.notice.old_head) (point.Guard (guard.Help (own_help d)) StoreHazard) (retry d))

abbrev pub kind_of : BatchPoint → StepKind
kind_of (StoreField f) = kind.StoreAnn
kind_of (StoreAll f) = kind.StoreAnn
kind_of LoadHead = kind.LoadHead
kind_of Install = kind.Install

-- what the owner knows of its command, and besides at each of its steps
abbrev pub call_knows : Command → Draft → List Fact
call_knows m d = linearized_is false m.rows [] [] ∷ drafts m d.notice ∷ fills m.rows m.ops (length m.rows - 1) ∷ whole d.notice m.rows ∷ []

-- The announcement is chosen as its first field is stored, and the fields before this one are written.
abbrev pub field_knows : Draft → AnnField → Fact
field_knows d field.OldTail = is_spare d.ann
field_knows d f = written d f

abbrev pub whole_knows : Draft → AnnField → List Fact
whole_knows d field.OldHead = is_spare d.ann ∷ []
whole_knows d f = written d f ∷ head_written d ∷ []

abbrev pub knows : Draft → BatchPoint → List Fact
knows d (StoreField f) = field_knows d f ∷ []
knows d (StoreAll f) = only_dequeues d.notice ∷ whole_knows d f
knows d LoadHead = written d field.OldHead ∷ []
knows d Install = head_written d ∷ written d field.OldHead ∷ []
