-- The state of a lane: its words, the history, and what each caller keeps.
use Rattle.std.specs.Prelude.{ℕ, Bool, true, false, List, length, Option, None}
use Rattle.bq_model.specs.declared.op.Op.{Op}
use Rattle.bq_model.specs.declared.op.Answer.{Answer}
use Rattle.bq_model.specs.declared.group.Group.{Group}
use Rattle.word_rows.specs.declared.place.Place.{Place}
use Rattle.word_rows.specs.declared.head_word.HeadWord.{HeadWord}
use Rattle.word_rows.specs.declared.head_word.HeadWord.TheVariants.{Ann}
use Rattle.word_rows.specs.declared.link_word.LinkWord.{LinkWord}
use Rattle.word_rows.specs.declared.link_word.LinkWord.TheVariants.{Nil}
use Rattle.word_rows.specs.declared.location.Location.{Location}
use Rattle.word_rows.specs.declared.location.AnnField.{AnnField}
use Rattle.word_rows.specs.declared.location.AnnField.TheVariants.{OldTail}
use Rattle.word_rows.specs.declared.location.Location.TheVariants.{Head, Tail, Link, Value, Mark, NodeHazard, AnnHazard, AnnWord}
use Rattle.word_rows.specs.declared.content.Content.{Content}
use Rattle.word_rows.specs.declared.content.Content.TheVariants.{OfHead, OfTail, OfLink, OfValue, OfMark, OfNodeHazard, OfAnnHazard, OfOldTail}
use Rattle.word_rows.specs.declared.marks.Marks.{Marks}
use Rattle.lane_steps.specs.declared.point.Notice.{Notice}
use Rattle.lane_steps.specs.declared.point.Point.{Point}
use Rattle.lane_steps.specs.declared.point.Hold.{Hold}
use Rattle.lane_steps.specs.declared.point.CallEnd.{CallEnd}
use Rattle.lane_steps.specs.Functions.{put}
use Rattle.lane_steps.specs.Notices.{place, field_in, with_field}

-- the words that a step can touch
pub record Memory : Type 0 where
  pub head : HeadWord
  pub tail : Place
  pub link : ℕ → LinkWord
  pub value : ℕ → ℕ
  -- of each announcement OldTail, none while it isn't known, and what it says else
  pub old_tail : ℕ → Option Place
  pub notice : ℕ → Notice
  -- the announcement that the ANN_HAZARD of a caller names
  pub ann_hazard : ℕ → Option ℕ
  -- READ, PASSED and FREE of each row, and the row that the NODE_HAZARD of a caller names
  pub mark : ℕ → Marks
  pub node_hazard : ℕ → Option ℕ

-- what a caller keeps
pub record Caller : Type 0 where
  -- the step that it makes next, with what it has read
  pub point : Point
  -- the operations of the running command; none where none runs
  pub ops : List Op
  -- the groups of its ended commands that answered Done
  pub mine : List Group
  -- the rows that its batch took and hasn't linked, in the order of taking
  pub rows : List ℕ
  -- the values that it has read for the answers of its batch, and the rows that have these; then those that it has yet to mark
  pub values : List ℕ
  pub walked : List ℕ
  -- the rows that both marks were set on and that it has yet to free, in the order of putting
  pub retired : List ℕ
  -- what it has found in the hazard words of others, in its last choice of an announcement or its last scan for its rows
  pub named : List ℕ
  -- what its own NODE_HAZARD names, and whether it holds that
  pub row_hold : Hold
  -- what its own ANN_HAZARD names, and whether it holds that
  pub hold : Hold
  -- how its last ended command ended, and that one's answers
  pub outcome : Option CallEnd
  pub answers : List Answer
  -- how many groups the history had at the start of its last command, and at that one's end
  pub started_at : ℕ
  pub ended_at : Option ℕ

-- what of it stays the same while its command runs
pub record Command : Type 0 where
  pub ops : List Op
  pub mine : List Group
  pub rows : List ℕ
  pub started_at : ℕ

abbrev pub command : Caller → Command
command k = record { ops = k.ops; mine = k.mine; rows = k.rows; started_at = k.started_at }

-- the group of the running command of caller c
abbrev pub own_group : ℕ → Caller → Group
own_group c k = record { caller = c; batch = length k.mine; ops = k.ops }

pub record State : Type 0 where
  pub memory : Memory
  pub history : List Group
  pub callers : ℕ → Caller

-- the word of a field, of an announcement with this OldTail that else says this
abbrev pub field_of : Option Place → Notice → AnnField → Content
field_of tail n OldTail = OfOldTail tail
field_of tail n f = field_in n f

abbrev pub read_field : Memory → ℕ → AnnField → Content
read_field m a f = field_of (m.old_tail a) (m.notice a) f

-- what is found in a word
abbrev pub read : Memory → Location → Content
read m Head = OfHead m.head
read m Tail = OfTail m.tail
read m (Link r) = OfLink (m.link r)
read m (Value r) = OfValue (m.value r)
read m (AnnWord a f) = read_field m a f
read m (Mark r) = OfMark (m.mark r)
read m (NodeHazard c) = OfNodeHazard (m.node_hazard c)
read m (AnnHazard c) = OfAnnHazard (m.ann_hazard c)

-- the content as that of a head, a tail, a link, a value, an OldTail, a hazard word or marks; any, where it is of another kind
abbrev pub head_in : Content → HeadWord
head_in (OfHead x) = x
head_in _ = Ann 0 0

abbrev pub tail_in : Content → Place
tail_in (OfTail x) = x
tail_in _ = place 0 0

abbrev pub link_in : Content → LinkWord
link_in (OfLink x) = x
link_in _ = Nil

abbrev pub value_in : Content → ℕ
value_in (OfValue x) = x
value_in _ = 0

abbrev pub old_tail_in : Content → Option Place
old_tail_in (OfOldTail x) = x
old_tail_in _ = None

abbrev pub hazard_in : Content → Option ℕ
hazard_in (OfNodeHazard x) = x
hazard_in (OfAnnHazard x) = x
hazard_in _ = None

-- these marks
abbrev pub marks : Bool → Bool → Bool → Marks
marks read passed free = record { read = read; passed = passed; free = free }

abbrev pub no_marks : Marks
no_marks = marks false false false

-- those of a row that can be freed
abbrev pub both_marks : Marks
both_marks = marks true true false

abbrev pub mark_in : Content → Marks
mark_in (OfMark x) = x
mark_in _ = no_marks

-- the words after a store
abbrev pub write_field : Memory → ℕ → AnnField → Content → Memory
write_field m a OldTail x = record m { old_tail = put m.old_tail a (old_tail_in x) }
write_field m a f x = record m { notice = put m.notice a (with_field (m.notice a) f x) }

abbrev pub write : Memory → Location → Content → Memory
write m Head x = record m { head = head_in x }
write m Tail x = record m { tail = tail_in x }
write m (Link r) x = record m { link = put m.link r (link_in x) }
write m (Value r) x = record m { value = put m.value r (value_in x) }
write m (AnnWord a f) x = write_field m a f x
write m (Mark r) x = record m { mark = put m.mark r (mark_in x) }
write m (NodeHazard c) x = record m { node_hazard = put m.node_hazard c (hazard_in x) }
write m (AnnHazard c) x = record m { ann_hazard = put m.ann_hazard c (hazard_in x) }
