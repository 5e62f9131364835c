-- The words of the machine as the memory of a lane.
use Rattle.std.specs.Prelude.{ℕ, slice_index_or, vec_len, None}
use Rattle.word_rows.specs.declared.head_word.HeadWord.TheVariants.{Node}
use Rattle.word_rows.specs.declared.link_word.LinkWord.TheVariants.{Nil}
use Rattle.word_rows.specs.Opening.{opening_marks}
use Rattle.lane_steps.specs.Notices.{place, blank}
use Rattle.lane_steps.specs.State.{Memory}
use Rattle.step_core.specs.declared.words.Words.{Words}

abbrev pub memory_of : Words → Memory
memory_of w = record {
  head = w.head;
  tail = w.tail;
  link = λ r. slice_index_or w.links.items r Nil;
  value = λ r. slice_index_or w.values.items r 0;
  old_tail = λ a. slice_index_or w.old_tails.items a None;
  notice = λ a. slice_index_or w.notices.items a blank;
  ann_hazard = λ c. slice_index_or w.ann_hazards.items c None;
  mark = λ r. slice_index_or w.marks.items r (opening_marks r);
  node_hazard = λ c. slice_index_or w.node_hazards.items c None;
}

-- the words of an empty lane
abbrev pub opening_words : ℕ → Memory
opening_words first = record { head = Node (place 0 first); tail = place 0 first; link = λ _. Nil; value = λ _. 0; old_tail = λ _. None; notice = λ _. blank; ann_hazard = λ _. None; mark = opening_marks; node_hazard = λ _. None }

-- how many words of each kind there are
pub record Sizes : Type 0 where
  pub links : ℕ
  pub values : ℕ
  pub old_tails : ℕ
  pub notices : ℕ
  pub ann_hazards : ℕ
  pub marks : ℕ
  pub node_hazards : ℕ

abbrev pub sizes_of : Words → Sizes
sizes_of w = record { links = vec_len w.links; values = vec_len w.values; old_tails = vec_len w.old_tails; notices = vec_len w.notices; ann_hazards = vec_len w.ann_hazards; marks = vec_len w.marks; node_hazards = vec_len w.node_hazards }

-- those of a lane with so many rows, announcements and callers
abbrev pub sizes_for : ℕ → ℕ → ℕ → Sizes
sizes_for rows anns callers = record { links = rows; values = rows; old_tails = anns; notices = anns; ann_hazards = callers; marks = rows; node_hazards = callers }
