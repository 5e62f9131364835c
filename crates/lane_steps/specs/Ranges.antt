-- The ranges of what a step names and counts.
use Rattle.std.specs.Prelude.{ℕ, ◌+◌, ◌^◌, ◌<◌}
use Rattle.word_rows.specs.declared.content.Content.{Content}
use Rattle.word_rows.specs.declared.content.Content.TheVariants.{OfHead, OfTail, OfLink}
use Rattle.word_rows.specs.declared.head_word.HeadWord.TheVariants.{Node}
use Rattle.word_rows.specs.declared.link_word.LinkWord.TheVariants.{Single, Chain}
use Rattle.word_rows.specs.declared.location.Location.{Location}
use Rattle.word_rows.specs.declared.location.Location.TheVariants.{Head, Tail, Link, Value, Mark, NodeHazard, AnnHazard, AnnWord}
use Rattle.lane_steps.specs.declared.point.Point.{Point}
use Rattle.lane_steps.specs.declared.point.DequeuePoint.TheVariants as deq
use Rattle.lane_steps.specs.declared.point.TakePoint.TheVariants as take
use Rattle.lane_steps.specs.declared.point.ClosePoint.TheVariants as close
use Rattle.lane_steps.specs.declared.point.ManyPoint.TheVariants as many
use Rattle.lane_steps.specs.declared.point.Point.TheVariants as point
use Rattle.lane_steps.specs.declared.point.EnqueuePoint.TheVariants as enq
use Rattle.lane_steps.specs.declared.point.HelpPoint.TheVariants as help
use Rattle.lane_steps.specs.Stopper.{linked_rows}
use Rattle.lane_steps.specs.Help.{before_it}

-- a word of a lane with so many rows, callers and announcements
abbrev pub IsWord : ℕ → ℕ → ℕ → Location → Type 0
IsWord rows callers anns (Link r) = r < rows
IsWord rows callers anns (Value r) = r < rows
IsWord rows callers anns (Mark r) = r < rows
IsWord rows callers anns (NodeHazard c) = c < callers
IsWord rows callers anns (AnnHazard c) = c < callers
IsWord rows callers anns (AnnWord a f) = a < anns
IsWord rows callers anns Head = Unit {0}
IsWord rows callers anns Tail = Unit {0}

-- the row, or the count of a place, that the call counts on from
abbrev pub RowsFit : Point → Type 0
RowsFit (point.Take t (take.LoadMark r l)) = r < 2 ^ 31
RowsFit (point.Close a (close.MarkRow q read passed stopped)) = q.count < 2 ^ 44
RowsFit _ = Unit {0}

-- the count that the step raises to and stores
abbrev pub CountsFit : Point → Type 0
CountsFit (point.Enqueue x (enq.PassTail p n)) = p.count + 1 < 2 ^ 44
CountsFit (point.Enqueue x (enq.MoveTail p n)) = p.count + 1 < 2 ^ 44
CountsFit (point.Dequeue (deq.PassTail p n)) = p.count + 1 < 2 ^ 44
CountsFit (point.Dequeue (deq.MoveHead p n v)) = p.count + 1 < 2 ^ 44
CountsFit (point.Many d (many.MoveHead r)) = d.notice.old_head.count + d.notice.counts.deqs < 2 ^ 44
CountsFit (point.Many d (many.PassTail p n)) = p.count + 1 < 2 ^ 44
CountsFit (point.Help h (help.PassTail p n)) = p.count + 1 < 2 ^ 44
CountsFit (point.Help h (help.MoveTailOver q)) = q.count + linked_rows h.counts (before_it h q) < 2 ^ 44
CountsFit (point.Help h (help.MoveHead m r)) = h.old_head.count + m < 2 ^ 44
CountsFit _ = Unit {0}

-- what is found in HEAD, in TAIL or in a link names rows of a lane with so many, and has counts below the limit
abbrev pub NamesRows : ℕ → Location → Content → Type 0
NamesRows rows Head (OfHead (Node p)) = (p.row < rows) × (p.count < 2 ^ 44)
NamesRows rows Tail (OfTail p) = (p.row < rows) × (p.count < 2 ^ 44)
NamesRows rows (Link r) (OfLink (Single n)) = n < rows
NamesRows rows (Link r) (OfLink (Chain n)) = n < rows
NamesRows rows _ _ = Unit {0}
