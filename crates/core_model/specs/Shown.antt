-- The shown queue, by the words alone.
use Rattle.std.specs.Prelude.{◌≡◌, ℕ, zero, suc, ◌-◌, ◌==◌, ◌||◌, Bool, true, false, not, if◌then◌else◌, List, [], ◌∷◌, Option, Some, None}
use Rattle.word_rows.specs.declared.place.Place.{Place}
use Rattle.word_rows.specs.declared.head_word.HeadWord.{HeadWord}
use Rattle.word_rows.specs.declared.head_word.HeadWord.TheVariants.{Node, Ann}
use Rattle.word_rows.specs.declared.link_word.LinkWord.{LinkWord}
use Rattle.word_rows.specs.declared.link_word.LinkWord.TheVariants.{Nil, Single, Chain, Shut}
use Rattle.excess_count.specs.Counts.{successes_of}
use Rattle.bq_model.specs.Queue.{Queue}
use Rattle.lane_steps.specs.State.{Memory}
use Rattle.lane_steps.specs.Act.{is_unknown}
use Rattle.lane_steps.specs.Stopper.{is_stopped}
use Rattle.lane_steps.specs.declared.point.Notice.{Notice}

-- the row that a link names, if any
abbrev pub linked_row : LinkWord → Option ℕ
linked_row Nil = None
linked_row (Single r) = Some r
linked_row (Chain r) = Some r
linked_row Shut = None

-- the link of the last row of a list that is shut, or isn't
abbrev pub end_word : Bool → LinkWord
end_word true = Shut
end_word false = Nil

-- these are the values of the rows behind r, along the links until Shut, or until Nil
abbrev pub Along : Memory → Bool → ℕ → List ℕ → Type 0
Along m shut r [] = m.link r ≡ end_word shut
Along m shut r (v ∷ vs) = (n : ℕ) × (linked_row (m.link r) ≡ Some n) × (m.value n ≡ v) × Along m shut n vs

-- the row so many links behind r; r itself where there is no link
abbrev pub follow : LinkWord → ℕ → ℕ
follow Nil r = r
follow (Single n) r = n
follow (Chain n) r = n
follow Shut r = r

abbrev pub row_behind : Memory → ℕ → ℕ → ℕ
row_behind m r zero = r
row_behind m r (suc n) = row_behind m (follow (m.link r) r) n

abbrev pub is_chain_of : LinkWord → ℕ → Bool
is_chain_of Nil first = false
is_chain_of (Single r) first = false
is_chain_of (Chain r) first = r == first
is_chain_of Shut first = false

-- an announcement in HEAD is decided where its OldTail is known, or where the link of TAIL's row is Chain of its First
abbrev pub is_decided : Memory → ℕ → Bool
is_decided m a = not (is_unknown (m.old_tail a)) || is_chain_of (m.link m.tail.row) (m.notice a).first

-- behind which place that was
abbrev pub decided_behind : Option Place → Place → Place
decided_behind (Some q) tail = q
decided_behind None tail = tail

-- The new dummy of a decided batch on n values: the stopper where that is linked, and else the row so many links behind
-- the old dummy as the batch gets values.
abbrev pub new_dummy : Memory → Notice → ℕ → ℕ
new_dummy m s n = if is_stopped s.counts n then s.last else row_behind m s.old_head.row (successes_of s.counts n)

-- the row behind which the queue is shown: the dummy, or, where a decided announcement stands, the new one
abbrev pub shown_head : Memory → HeadWord → ℕ
shown_head m (Node p) = p.row
shown_head m (Ann a n) = if is_decided m a
    then new_dummy m (m.notice a) ((decided_behind (m.old_tail a) m.tail).count - (m.notice a).old_head.count)
    else (m.notice a).old_head.row

-- the words show this queue
abbrev pub Shows : Memory → Queue → Type 0
Shows m queue = Along m queue.shut (shown_head m m.head) queue.values
