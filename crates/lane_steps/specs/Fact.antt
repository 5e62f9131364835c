-- The vocabulary of what a caller knows of the lane while it makes its steps. `Holds` says what each of these means.
use Rattle.std.specs.Prelude.{ℕ, ◌-◌, Bool, false, List, [], ◌∷◌, length, Option}
use Rattle.bq_model.specs.declared.op.Op.{Op}
use Rattle.bq_model.specs.declared.op.Answer.{Answer}
use Rattle.bq_model.specs.declared.group.Group.{Group}
use Rattle.word_rows.specs.declared.place.Place.{Place}
use Rattle.word_rows.specs.declared.location.AnnField.{AnnField}
use Rattle.lane_steps.specs.declared.point.Item.{Item}
use Rattle.lane_steps.specs.declared.point.Notice.{Notice}
use Rattle.lane_steps.specs.declared.point.Draft.{Draft}
use Rattle.lane_steps.specs.declared.point.Plan.{Plan}
use Rattle.lane_steps.specs.declared.point.Help.{Help}
use Rattle.lane_steps.specs.declared.point.Reading.{Reading}
use Rattle.lane_steps.specs.declared.point.Hold.{Hold}
use Rattle.lane_steps.specs.State.{Caller, Command}

pub data Fact : Type 0 where
  -- the row is an own one of the kind, with so many behind it
  seeks : Bool → ℕ → ℕ → Fact
  -- the row is an own one of the kind and isn't linked: it is free; or it is taken
  free_row : Bool → ℕ → Fact
  takes_row : Bool → ℕ → Fact
  -- it is taken, and its link is cleared
  owns : Bool → ℕ → Fact
  -- the same of an item, whose value is stored
  holds_item : Item → Fact
  -- the row is none of these
  apart_from : ℕ → List ℕ → Fact
  -- the rows of the retired list
  retires_these : List ℕ → Fact
  -- the own NODE_HAZARD names this row
  row_hazard_is : ℕ → Fact
  -- The rows from this place on, the first one there and then these, have yet to be marked: the first one as read or not, the
  -- others as read, and all but the last as passed, that one too where the stopper is the dummy.
  owes_rows : Place → Bool → Bool → List ℕ → Fact
  -- of the row before these it is said so whether it is to be marked as passed
  passes_first : Bool → Bool → List ℕ → Fact
  -- these rows are the caller's, taken and unlinked, and none is twice there; this one is such a row
  own_rows : List ℕ → Fact
  loose_row : ℕ → Fact
  -- these operations take rows: there is an enqueue, or there are several dequeues alone
  may_lack : List Op → Fact
  -- this is one of the lane's callers
  is_caller : ℕ → Fact
  -- the caller's hazard words name nothing, by these
  holds_nothing : Hold → Hold → Fact
  -- of these rows, those that aren't named are held by none of the first d callers; this row is the first of them
  lets_go : ℕ → List ℕ → List ℕ → Fact
  goes_first : List ℕ → List ℕ → ℕ → Fact
  -- the place is that of a linked row, which the caller holds
  linked : Place → Fact
  -- HEAD, or TAIL, named this place once
  head_seen : Place → Fact
  tail_seen : Place → Fact
  -- TAIL is past this place
  tail_past : Place → Fact
  -- the row n is linked behind this place; by a Single link
  next_is : Place → ℕ → Fact
  by_single : Place → Fact
  -- while HEAD names this place, the row behind it has this value
  next_value : Place → ℕ → Fact
  -- The running command stands in the history, or not, and no announcement of the caller stands in HEAD. The caller has taken
  -- these rows and not linked them, and has yet to mark these places as passed, and these as read.
  linearized_is : Bool → List ℕ → List ℕ → List ℕ → Fact
  -- no announcement of the caller stands in HEAD
  out_of_head : Fact
  -- the caller runs this one operation, and its batch has no row
  is_op : List Op → List ℕ → Op → Fact
  -- the group stands in the history, behind n groups or more, and these are its answers
  answered : ℕ → Group → List Answer → Fact
  -- the history has n groups or more
  since : ℕ → Fact
  -- of the caller's last ended command
  kept : Caller → Fact
  -- no command runs, and one that has ended has an end
  rests : Caller → Fact
  -- this is what the running batch is to say
  drafts : Command → Notice → Fact
  -- these rows are the caller's, taken and unlinked, and have the values of the first enqueues; the first j links are stored
  fills : List ℕ → List Op → ℕ → Fact
  -- the notice says which are the first and the last of these rows, and they are all there
  whole : Notice → List ℕ → Fact
  -- the enqueue of this number is there, and has this value
  enqueues : List Op → Notice → ℕ → ℕ → Fact
  -- the row of this number is r, and another comes behind it, which is n
  goes_on : List ℕ → ℕ → ℕ → ℕ → Fact
  -- nobody holds the own announcement, which isn't in HEAD; nor one that is chosen
  is_spare : ℕ → Fact
  spares : Option ℕ → Fact
  -- The first e callers but this one hold no own announcement that isn't in the list. The caller e is another one.
  scanned : ℕ → List ℕ → Fact
  is_other : ℕ → Fact
  -- the announcement was written and isn't installed, and its fields that are stored before this one are those of the draft
  written : Draft → AnnField → Fact
  head_written : Draft → Fact
  -- dequeues alone that have chosen an announcement have taken their stopper, which is the one of these rows; else they have none
  plans : Plan → List ℕ → Fact
  -- this is of dequeues alone, of which there is one
  only_dequeues : Notice → Fact
  -- While HEAD names this place, the values are those of the rows behind it, which are these. The row is the last of these,
  -- or the next one.
  has_walked : Place → List ℕ → List ℕ → ℕ → Fact
  is_walking : Place → List ℕ → List ℕ → ℕ → Fact
  -- with so many more values, these are all that the dequeues want
  to_walk : Notice → List ℕ → ℕ → Fact
  -- of dequeues alone there are too few values before this tail, or enough; rows were linked behind this old tail
  too_few : Help → Place → Fact
  enough : Help → Place → Fact
  has_links : Help → Place → Fact
  -- The announcement is installed, and held or own, and the first n of the fields that a help loads are as it says. At its
  -- beginning a help knows that of an own announcement.
  reads : ℕ → Help → Fact
  helps : Help → Fact
  -- the own hazard word names this
  hazard_is : ℕ → Fact
  -- the place is at or behind the dummy, as long as the announcement stands
  stands_at : ℕ → Place → Fact
  -- the row at this place has a link, once the announcement is decided by one
  before_end : ℕ → Place → Fact
  -- as long as the announcement stands it is decided, and where rows were linked for it, behind this place
  is_old_tail : ℕ → Place → Fact
  -- OldTail of the announcement is this place; it is known, and TAIL isn't there any more
  old_tail_is : ℕ → Place → Fact
  tail_over : ℕ → Fact
  -- The head passes so many rows for the batch. The row r lies l links before the new dummy.
  gets_so_many : Help → ℕ → Fact
  walks : ℕ → ℕ → ℕ → Fact
  -- The own announcement is installed, and where it is decided, the group stands in the history behind n groups or more, and
  -- the rows that it passed and took are to be marked; while it waits, these rows are taken.
  takes_effect : ℕ → List ℕ → ℕ → Group → Fact
  -- Of the running batch these values are read, of the rows behind its old dummy, which are these. The row r is the last one
  -- read, with l to come; or it is the next one, with l behind it.
  has_read : ℕ → Group → Reading → List ℕ → List ℕ → ℕ → ℕ → Fact
  is_reading : ℕ → Group → Reading → List ℕ → List ℕ → ℕ → ℕ → Fact

-- what the owner of a batch knows that isn't installed, with its rows filled and the fields before f written
abbrev pub batch_facts : Command → Draft → AnnField → List Fact
batch_facts m d f = linearized_is false m.rows [] [] ∷ drafts m d.notice ∷ fills m.rows m.ops (length m.rows - 1) ∷ whole d.notice m.rows ∷ written d f ∷ []

-- what that of dequeues alone knows before it writes its announcement
abbrev pub many_facts : Command → Plan → List Fact
many_facts m d = only_dequeues d.notice ∷ linearized_is false m.rows [] [] ∷ drafts m d.notice ∷ fills m.rows m.ops 0 ∷ plans d m.rows ∷ spares d.ann ∷ []
