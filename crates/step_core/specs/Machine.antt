-- What contracts see of a machine.
use Rattle.std.specs.Prelude.{ℕ, List, map, slice_index_or, Option, None}
use Rattle.bq_model.specs.declared.group.Group.{Group}
use Rattle.bq_model.specs.declared.shape.Shape.{Shape}
use Rattle.word_rows.specs.declared.place.Place.{Place}
use Rattle.word_rows.specs.declared.head_word.HeadWord.{HeadWord}
use Rattle.word_rows.specs.declared.link_word.LinkWord.{LinkWord}
use Rattle.word_rows.specs.declared.link_word.LinkWord.TheVariants.{Nil}
use Rattle.lane_steps.specs.declared.point.Notice.{Notice}
use Rattle.word_rows.specs.declared.marks.Marks.{Marks}
use Rattle.word_rows.specs.Opening.{opening_marks}
use Rattle.lane_steps.specs.Notices.{blank}
use Rattle.lane_steps.specs.State.{Caller, State}
use Rattle.lane_steps.specs.Start.{newcomer}
use Rattle.step_core.specs.declared.lists.Lists.{Lists}
use Rattle.step_core.specs.Calls.{call_of}
use Rattle.step_core.specs.Refused.{enqueues_of}

-- its shape, its words, the history, and what it keeps of each caller
pub record View : Type 0 where
  pub shape : Shape
  pub head : HeadWord
  pub tail : Place
  pub links : List LinkWord
  pub values : List ℕ
  -- of each announcement OldTail, and what it says else
  pub old_tails : List (Option Place)
  pub notices : List Notice
  -- of each caller the announcement that its ANN_HAZARD names
  pub ann_hazards : List (Option ℕ)
  -- the marks of each row, and of each caller the row that its NODE_HAZARD names
  pub marks : List Marks
  pub node_hazards : List (Option ℕ)
  pub history : List Group
  pub callers : List Caller
  -- how many enqueues the last command of each caller has
  pub enqueues : List ℕ

abbrev pub caller_at : View → ℕ → Caller
caller_at v c = slice_index_or v.callers c newcomer

abbrev pub enqueues_at : View → ℕ → ℕ
enqueues_at v c = enqueues_of v.enqueues c

-- the state of the lane that it shows
abbrev pub state_at : View → State
state_at v = record {
  memory = record {
    head = v.head;
    tail = v.tail;
    link = λ r. slice_index_or v.links r Nil;
    value = λ r. slice_index_or v.values r 0;
    old_tail = λ a. slice_index_or v.old_tails a None;
    notice = λ a. slice_index_or v.notices a blank;
    ann_hazard = λ c. slice_index_or v.ann_hazards c None;
    mark = λ r. slice_index_or v.marks r (opening_marks r);
    node_hazard = λ c. slice_index_or v.node_hazards c None;
  };
  history = v.history;
  callers = caller_at v;
}

abbrev pub view_of : Lists → View
view_of m = record {
  shape = m.shape;
  head = m.words.head;
  tail = m.words.tail;
  links = m.words.links.items;
  values = m.words.values.items;
  old_tails = m.words.old_tails.items;
  notices = m.words.notices.items;
  ann_hazards = m.words.ann_hazards.items;
  marks = m.words.marks.items;
  node_hazards = m.words.node_hazards.items;
  history = m.history.items;
  callers = map call_of m.calls.items;
  enqueues = m.enqueues.items;
}
