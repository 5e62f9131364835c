-- A help of an announcement that the caller holds: it reads the announcement, links its chain or its stopper where it has
-- one to link, records its old tail, and moves TAIL and HEAD.
use Rattle.std.specs.Prelude.{◌<◌, ℕ, zero, suc, ◌-◌, ◌==◌, nat_lt, cond, List, [], ◌∷◌, length, Option, Some, None, false, ◌&&◌, nat_le, Bool}
use Rattle.bq_model.specs.declared.op.Op.TheVariants.{Enq, Deq}
use Rattle.word_rows.specs.declared.place.Place.{Place}
use Rattle.word_rows.specs.declared.head_word.HeadWord.TheVariants.{Node, Ann}
use Rattle.word_rows.specs.declared.link_word.LinkWord.{LinkWord}
use Rattle.word_rows.specs.declared.link_word.LinkWord.TheVariants.{Nil, Single, Chain, Shut}
use Rattle.word_rows.specs.declared.location.AnnField.TheVariants as field
use Rattle.word_rows.specs.declared.location.Location.TheVariants.{Head, Tail, Link, AnnWord}
use Rattle.word_rows.specs.declared.content.Content.{Content}
use Rattle.word_rows.specs.declared.content.Content.TheVariants.{OfHead, OfTail, OfLink, OfOldTail}
use Rattle.lane_steps.specs.declared.act.Act.{Act}
use Rattle.lane_steps.specs.declared.act.Act.TheVariants.{Load, Exchange}
use Rattle.lane_steps.specs.declared.course.Course.{Course}
use Rattle.lane_steps.specs.declared.course.Course.TheVariants.{GoesOn}
use Rattle.lane_steps.specs.declared.kind.StepKind.{StepKind}
use Rattle.lane_steps.specs.declared.kind.StepKind.TheVariants as kind
use Rattle.lane_steps.specs.declared.point.Back.{Back}
use Rattle.lane_steps.specs.declared.point.Back.TheVariants as back
use Rattle.lane_steps.specs.declared.point.Help.{Help}
use Rattle.lane_steps.specs.declared.point.Draft.{Draft}
use Rattle.lane_steps.specs.declared.point.Guarding.TheVariants as guard
use Rattle.lane_steps.specs.declared.point.GuardPoint.TheVariants.{StoreHazard}
use Rattle.lane_steps.specs.declared.point.HelpPoint.{HelpPoint}
use Rattle.lane_steps.specs.declared.point.HelpPoint.TheVariants.{LoadOldHead, LoadFirst, LoadLast, LoadCounts, LoadTail, LoadOldTail, LoadLink, LinkChain, Decide, PassTail, RecordTail, LoadTailOver, MoveTailOver, LoadWalk, MoveHead}
use Rattle.lane_steps.specs.declared.point.EnqueuePoint.TheVariants as enq
use Rattle.lane_steps.specs.declared.point.DequeuePoint.TheVariants as deq
use Rattle.lane_steps.specs.declared.point.BatchPoint.TheVariants as batch
use Rattle.lane_steps.specs.declared.point.ManyPoint.TheVariants as many
use Rattle.lane_steps.specs.declared.point.AnswerPoint.TheVariants as answer
use Rattle.lane_steps.specs.declared.point.Point.{Point}
use Rattle.lane_steps.specs.declared.point.Point.TheVariants as point
use Rattle.lane_steps.specs.Notices.{place, batch_counts, dummy_in, chain_end_in, counts_in}
use Rattle.excess_count.specs.Counts.{successes_of}
use Rattle.lane_steps.specs.State.{Command, tail_in, link_in, old_tail_in}
use Rattle.lane_steps.specs.Act.{same_place, far_behind, by_one}
use Rattle.lane_steps.specs.Fact.{Fact, owns, holds_item, linked, tail_seen, next_is, by_single, linearized_is, is_op, reads, stands_at, before_end, is_old_tail, old_tail_is, tail_over, gets_so_many, walks, takes_effect, batch_facts, too_few, enough, has_links, many_facts}
use Rattle.bq_model.specs.declared.shape.Shape.{Shape}
use Rattle.word_rows.specs.Fits.{limits_of, PlaceFits}
use Rattle.word_rows.specs.Sizes.{rows_of}
use Rattle.lane_steps.specs.Stopper.{is_stopped, linked_rows}

-- the help of an announcement that was found in HEAD with this count, and of which nothing is read yet
abbrev pub help_of : ℕ → ℕ → Back → Help
help_of a n b = record { ann = a; old_head = place 0 n; first = 0; last = 0; counts = batch_counts 0 0 0; back = b }

-- that of the own one, as it was written
abbrev pub own_help : Draft → Help
own_help d = record { ann = d.ann; old_head = d.notice.old_head; first = d.notice.first; last = d.notice.last; counts = d.notice.counts; back = back.Own }

-- how many values are queued before the batch, by its old tail
abbrev pub before_it : Help → Place → ℕ
before_it h q = q.count - h.old_head.count

abbrev pub act : Help → HelpPoint → Act
act h LoadOldHead = Load (AnnWord h.ann field.OldHead)
act h LoadFirst = Load (AnnWord h.ann field.First)
act h LoadLast = Load (AnnWord h.ann field.Last)
act h LoadCounts = Load (AnnWord h.ann field.Counts)
act h LoadTail = Load Tail
act h (LoadOldTail p) = Load (AnnWord h.ann field.OldTail)
act h (LoadLink p) = Load (Link p.row)
act h (LinkChain p) = Exchange (Link p.row) (OfLink Nil) (OfLink (Chain h.first))
act h (Decide p) = Exchange (AnnWord h.ann field.OldTail) (OfOldTail None) (OfOldTail (Some p))
act h (PassTail p n) = by_one p n
act h (RecordTail p) = Exchange (AnnWord h.ann field.OldTail) (OfOldTail None) (OfOldTail (Some p))
act h (LoadTailOver q) = Load Tail
act h (MoveTailOver q) = Exchange Tail (OfTail q) (OfTail (far_behind q h.last (linked_rows h.counts (before_it h q))))
act h (LoadWalk n r l) = Load (Link r)
act h (MoveHead n r) = Exchange Head (OfHead (Ann h.ann h.old_head.count)) (OfHead (Node (far_behind h.old_head r n)))

abbrev pub after_link : Help → Place → LinkWord → HelpPoint
after_link h p Nil = LinkChain p
after_link h p (Single n) = PassTail p n
after_link h p (Chain n) = cond (n == h.first) (RecordTail p) LoadTail
after_link h p Shut = LoadTail

-- the walk to the new dummy has come to the row r, with l links to go
abbrev pub walk_on : ℕ → ℕ → ℕ → HelpPoint
walk_on n r zero = MoveHead n r
walk_on n r (suc l) = LoadWalk n r l

-- it begins, where n values are queued before the batch, which gets s
abbrev pub walk_from : Help → Place → ℕ → ℕ → HelpPoint
walk_from h q n s = cond (nat_lt s n) (walk_on s h.old_head.row s) (walk_on s q.row (s - n))

-- the new dummy is the stopper where that is linked, right behind all the values that were queued
abbrev pub walk : Help → Place → HelpPoint
walk h q = cond (is_stopped h.counts (before_it h q)) (MoveHead (suc (before_it h q)) h.last) (walk_from h q (before_it h q) (successes_of h.counts (before_it h q)))

-- OldTail is known: TAIL is to move over the rows that were linked, if any
abbrev pub at_old_tail : Help → Place → HelpPoint
at_old_tail h q = cond (nat_lt 0 (linked_rows h.counts (before_it h q))) (LoadTailOver q) (walk h q)

-- dequeues alone find enough values before this tail
abbrev pub has_enough : Help → Place → Bool
has_enough h p = (h.counts.enqs == 0) && nat_le h.counts.deqs (before_it h p)

-- where it goes on with its announcement
abbrev pub after_old_tail : Help → Place → Option Place → HelpPoint
after_old_tail h p None = cond (has_enough h p) (Decide p) (LoadLink p)
after_old_tail h p (Some q) = at_old_tail h q

-- OldTail is known, from this exchange or from an earlier one
abbrev pub after_record : Help → Place → Option Place → HelpPoint
after_record h p None = at_old_tail h p
after_record h p (Some q) = at_old_tail h q

-- after the help
abbrev pub back_point : Help → Back → Point
back_point h back.Own = point.Answer (answer.LoadOldTail h)
back_point h (back.Enqueue i) = point.Enqueue i enq.LoadTail
back_point h back.Dequeue = point.Dequeue deq.LoadHead
back_point h (back.Batch d) = point.Batch d batch.LoadHead
back_point h (back.Many d) = point.Many d many.LoadHead

abbrev pub after_walk : Help → ℕ → ℕ → LinkWord → Point
after_walk h n l Nil = back_point h h.back
after_walk h n l (Single r) = point.Help h (walk_on n r l)
after_walk h n l (Chain r) = point.Help h (walk_on n r l)
after_walk h n l Shut = back_point h h.back

abbrev pub course : Help → HelpPoint → Content → Course
course h LoadOldHead x = GoesOn (point.Help (record h { old_head = dummy_in x }) LoadFirst)
course h LoadFirst x = GoesOn (point.Help (record h { first = chain_end_in x }) LoadLast)
course h LoadLast x = GoesOn (point.Help (record h { last = chain_end_in x }) LoadCounts)
course h LoadCounts x = GoesOn (point.Help (record h { counts = counts_in x }) LoadTail)
course h LoadTail x = GoesOn (point.Guard (guard.HelpTail h (tail_in x)) StoreHazard)
course h (LoadOldTail p) x = GoesOn (point.Help h (after_old_tail h p (old_tail_in x)))
course h (LoadLink p) x = GoesOn (point.Help h (after_link h p (link_in x)))
course h (LinkChain p) x = GoesOn (point.Help h LoadTail)
course h (Decide p) x = GoesOn (point.Help h (after_record h p (old_tail_in x)))
course h (PassTail p r) x = GoesOn (point.Help h LoadTail)
course h (RecordTail p) x = GoesOn (point.Help h (after_record h p (old_tail_in x)))
course h (LoadTailOver q) x = GoesOn (point.Help h (cond (same_place (tail_in x) q) (MoveTailOver q) (walk h q)))
course h (MoveTailOver q) x = GoesOn (point.Help h (walk h q))
course h (LoadWalk m r l) x = GoesOn (after_walk h m l (link_in x))
course h (MoveHead m r) x = GoesOn (back_point h h.back)

abbrev pub kind_of : Help → HelpPoint → StepKind
kind_of h LoadOldHead = kind.LoadAnn
kind_of h LoadFirst = kind.LoadAnn
kind_of h LoadLast = kind.LoadAnn
kind_of h LoadCounts = kind.LoadAnn
kind_of h LoadTail = kind.LoadTail
kind_of h (LoadOldTail p) = kind.LoadAnn
kind_of h (LoadLink p) = kind.LoadLink
kind_of h (LinkChain p) = cond (h.counts.enqs == 0) kind.LinkStopper kind.LinkChain
kind_of h (Decide p) = kind.Decide
kind_of h (PassTail p n) = kind.MoveTail
kind_of h (RecordTail p) = kind.RecordTail
kind_of h (LoadTailOver q) = kind.LoadTail
kind_of h (MoveTailOver q) = kind.MoveTailOver
kind_of h (LoadWalk m r l) = kind.LoadLink
kind_of h (MoveHead m r) = kind.MoveHeadAnn

-- What a helping caller knows of its own command. Of an own announcement it knows only what no helper's step changes.
abbrev pub back_facts : ℕ → Command → ℕ → Back → List Fact
back_facts c m a back.Own = takes_effect a m.rows m.started_at (record { caller = c; batch = length m.mine; ops = m.ops }) ∷ []
back_facts c m a (back.Enqueue x) = linearized_is false (x.row ∷ []) [] [] ∷ is_op m.ops m.rows (Enq x.value) ∷ owns false x.row ∷ holds_item x ∷ []
back_facts c m a back.Dequeue = linearized_is false [] [] [] ∷ is_op m.ops m.rows Deq ∷ []
back_facts c m a (back.Batch d) = batch_facts m d field.OldHead
back_facts c m a (back.Many d) = many_facts m d

-- how many fields it has loaded; and what it knows of the announcement by them
abbrev pub loaded : HelpPoint → ℕ
loaded LoadOldHead = 0
loaded LoadFirst = 1
loaded LoadLast = 2
loaded LoadCounts = 3
loaded _ = 4

-- what it knows of the announcement and of its command, and besides at each of its steps
abbrev pub call_knows : ℕ → Command → Help → HelpPoint → List Fact
call_knows c m h p = reads (loaded p) h ∷ back_facts c m h.ann h.back

abbrev pub knows : Help → HelpPoint → List Fact
knows h (LoadOldTail p) = linked p ∷ tail_seen p ∷ stands_at h.ann p ∷ []
knows h (LoadLink p) = linked p ∷ tail_seen p ∷ stands_at h.ann p ∷ before_end h.ann p ∷ too_few h p ∷ []
knows h (LinkChain p) = linked p ∷ tail_seen p ∷ stands_at h.ann p ∷ before_end h.ann p ∷ too_few h p ∷ []
knows h (Decide p) = linked p ∷ tail_seen p ∷ stands_at h.ann p ∷ enough h p ∷ []
knows h (PassTail p n) = next_is p n ∷ by_single p ∷ []
knows h (RecordTail p) = is_old_tail h.ann p ∷ []
knows h (LoadTailOver q) = old_tail_is h.ann q ∷ has_links h q ∷ []
knows h (MoveTailOver q) = old_tail_is h.ann q ∷ has_links h q ∷ []
knows h (LoadWalk m r l) = walks h.ann r (suc l) ∷ gets_so_many h m ∷ tail_over h.ann ∷ []
knows h (MoveHead m r) = walks h.ann r 0 ∷ gets_so_many h m ∷ tail_over h.ann ∷ []
knows h _ = []

-- what it has read fits in the lane
abbrev pub fits : Shape → HelpPoint → Type 0
fits s (LoadOldTail p) = PlaceFits (limits_of s) p
fits s (LoadLink p) = PlaceFits (limits_of s) p
fits s (LinkChain p) = PlaceFits (limits_of s) p
fits s (Decide p) = PlaceFits (limits_of s) p
fits s (PassTail p n) = PlaceFits (limits_of s) p × (n < rows_of s)
fits s (RecordTail p) = PlaceFits (limits_of s) p
fits s (LoadTailOver q) = PlaceFits (limits_of s) q
fits s (MoveTailOver q) = PlaceFits (limits_of s) q
fits s (LoadWalk m r l) = r < rows_of s
fits s (MoveHead m r) = r < rows_of s
fits s _ = Unit {0}
