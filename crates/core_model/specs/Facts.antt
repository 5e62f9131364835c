-- What a caller knows of the lane while it makes its steps.
use Rattle.std.specs.Prelude.{◌≡◌, ◌≢◌, ℕ, suc, ◌+◌, ◌-◌, ◌*◌, ◌<◌, ◌≤◌, ◌++◌, nat_lt, true, false, List, [], ◌∷◌, length, get_or, take, Some, None, IsSome, ◌⊎◌}
use Rattle.bq_model.specs.declared.op.Op.{Op}
use Rattle.bq_model.specs.declared.group.Group.{Group}
use Rattle.bq_model.specs.History.{last_queue}
use Rattle.bq_model.specs.NoShut.{NoShut}
use Rattle.bq_model.specs.Values.{enqueued}
use Rattle.excess_count.specs.Got.{values_from}
use Rattle.excess_count.specs.Unhindered.{Unhindered}
use Rattle.word_rows.specs.Order.{order_word_of}
use Rattle.word_rows.specs.declared.place.Place.{Place}
use Rattle.word_rows.specs.declared.link_word.LinkWord.TheVariants.{Nil}
use Rattle.lane_steps.specs.declared.point.Notice.{Notice}
use Rattle.lane_steps.specs.declared.point.Help.{Help}
use Rattle.lane_steps.specs.declared.point.Plan.{Plan}
use Rattle.lane_steps.specs.declared.point.Reading.{Reading}
use Rattle.lane_steps.specs.declared.point.Back.{Back}
use Rattle.lane_steps.specs.declared.point.Back.TheVariants as back
use Rattle.lane_steps.specs.declared.point.Hold.TheVariants.{Free}
use Rattle.lane_steps.specs.declared.point.Point.{Point}
use Rattle.lane_steps.specs.declared.point.Point.TheVariants.{Idle}
use Rattle.lane_steps.specs.declared.point.Point.TheVariants as point
use Rattle.lane_steps.specs.Functions.{run, Distinct, upto}
use Rattle.lane_steps.specs.LaneSizes.{LaneSizes, own_row, own_count}
use Rattle.lane_steps.specs.Notices.{batch_number}
use Rattle.excess_count.specs.Counts.{successes_of, counts_of}
use Rattle.node_guard.specs.Pick.{among}
use Rattle.node_guard.specs.Retired.{first_unheld}
use Rattle.lane_steps.specs.Batches.{owner_of, is_alone}
use Rattle.lane_steps.specs.State.{Caller, Command, command}
use Rattle.lane_steps.specs.Fact.{Fact, seeks, free_row, takes_row, owns, holds_item, apart_from, retires_these, row_hazard_is, owes_rows, passes_first, own_rows, loose_row, lets_go, goes_first, holds_nothing, is_caller, may_lack, whole, plans, out_of_head, linked, head_seen, tail_seen, tail_past, next_is, by_single, next_value, linearized_is, is_op, answered, since, kept, rests, drafts, fills, enqueues, goes_on, written, head_written, reads, stands_at, before_end, is_old_tail, old_tail_is, tail_over, gets_so_many, walks, takes_effect, has_read, is_reading, only_dequeues, is_spare, spares, scanned, is_other, helps, hazard_is, has_walked, is_walking, to_walk, too_few, enough, has_links}
use Rattle.lane_steps.specs.Help as helping
use Rattle.lane_steps.specs.Enqueue as enqueue
use Rattle.lane_steps.specs.Dequeue as dequeue
use Rattle.lane_steps.specs.Fill as filling
use Rattle.lane_steps.specs.Batch as batching
use Rattle.lane_steps.specs.Many as dequeuing
use Rattle.lane_steps.specs.Help.{before_it}
use Rattle.lane_steps.specs.Stopper.{is_stopped, linked_rows, passes}
use Rattle.lane_steps.specs.Take as taking
use Rattle.lane_steps.specs.Guard as guarding
use Rattle.lane_steps.specs.Close.{to_pass}
use Rattle.lane_steps.specs.Close as closing
use Rattle.excess_count.specs.Excess.{excess_of, enqueue_count}
use Rattle.lane_steps.specs.Answer as answering
use Rattle.lane_steps.specs.Step.{rows_left}
use Rattle.core_model.specs.Chosen.{IsSpare, Spares, Scanned, Written, HeadWritten}
use Rattle.core_model.specs.Ghost.{waiting, decided, owes, World, positions, at, On, Installed}
use Rattle.core_model.specs.Kept.{Stands, Kept}
use Rattle.core_model.specs.Rows.{IsUnlinked, IsTaken, Fills, IsWhole, Takes, Debts, IsLoose, OwnRows, Retires, RetiresThese, OwesRows}

-- The announcement says of a command of caller c what it is.
pub record Describes (c : ℕ) (m : Command) (n : Notice) : Type 0 where
  pub counts : n.counts ≡ counts_of m.ops
  pub number : n.number ≡ batch_number (length m.mine) c
  pub order0 : n.order0 ≡ order_word_of m.ops 0
  pub order1 : n.order1 ≡ order_word_of m.ops 1
  pub order2 : n.order2 ≡ order_word_of m.ops 2
  pub order3 : n.order3 ≡ order_word_of m.ops 3

-- this is what the running batch of caller c, of several operations, is to say
pub record IsDraft (z : LaneSizes) (c : ℕ) (m : Command) (n : Notice) : Type 0 where
  pub known : c < z.callers
  pub describes : Describes c m n
  pub several : 1 < length m.ops
  pub plain : NoShut m.ops

-- The announcement a of caller c is decided at the position i, and the group of its batch stands in the history behind n groups or
-- more, on the queue of the rows from its old dummy up to there.
pub record Linearized (z : LaneSizes) (w : World) (c a i n : ℕ) (g : Group) : Type 0 where
  pub pre : List Group
  pub post : List Group
  pub stands : w.history ≡ (pre ++ g ∷ []) ++ post
  pub since_start : n ≤ length pre
  pub counts : (w.memory.notice a).counts ≡ counts_of g.ops
  -- it has no Shut, and enqueues nothing where the queue was shut
  pub plain : NoShut g.ops
  pub unhindered : Unhindered (last_queue pre) g.ops
  -- The position of the old dummy. The queue was as long as the rows behind it up to the old tail, or these are enough for
  -- all its dequeues.
  pub dummy : ℕ
  pub old_head : (w.memory.notice a).old_head ≡ at z.first w.ghost.path dummy
  pub before : dummy ≤ i
  pub no_shorter : i - dummy ≤ length (last_queue pre).values
  pub length_queue : (length (last_queue pre).values ≡ i - dummy) ⊎ (excess_of g.ops ≤ i - dummy)
  pub inside : dummy + passes (w.memory.notice a).counts (i - dummy) < positions w.ghost
  -- the values that the batch gets are those of the rows behind the old dummy; these rows are there, and its owner has yet to
  -- mark them and the old dummy
  pub values : take (successes_of (w.memory.notice a).counts (i - dummy)) (values_from (last_queue pre).values g.ops) ≡ run (λ j. w.memory.value (w.ghost.path j)) (suc dummy) (successes_of (w.memory.notice a).counts (i - dummy))
  pub rows : (x : ℕ) → x ≤ successes_of (w.memory.notice a).counts (i - dummy) → 0 < passes (w.memory.notice a).counts (i - dummy) → On w (dummy + x) (w.ghost.path (dummy + x))
  pub to_pass : (x : ℕ) → x < passes (w.memory.notice a).counts (i - dummy) → w.ghost.passer (dummy + x) ≡ owes c
  pub to_read : (x : ℕ) → 0 < x → x ≤ successes_of (w.memory.notice a).counts (i - dummy) → w.ghost.reader (dummy + x) ≡ owes c

-- a caller that helps its own announcement
abbrev pub IsOwn : Back → Type 0
IsOwn back.Own = Unit {0}
IsOwn _ = ⊥

-- what caller c, which keeps k, knows at any point of its call, and besides at this one
abbrev pub call_knows : ℕ → Caller → Point → List Fact
call_knows c k Idle = linearized_is false [] [] [] ∷ []
call_knows c k (point.Enqueue x p) = enqueue.call_knows c k x p
call_knows c k (point.Dequeue p) = dequeue.call_knows (command k)
call_knows c k (point.Fill n p) = filling.call_knows (command k) n
call_knows c k (point.Batch d p) = batching.call_knows (command k) d
call_knows c k (point.Many d p) = dequeuing.call_knows (command k) d
call_knows c k (point.Help h p) = helping.call_knows c (command k) h p
call_knows c k (point.Answer p) = answering.call_knows
call_knows c k (point.Take t p) = taking.call_knows (command k) t p
call_knows c k (point.Guard t p) = guarding.call_knows c k t
call_knows c k (point.Close a p) = closing.call_knows c k a p

abbrev pub knows : LaneSizes → ℕ → Caller → Point → List Fact
knows z c k Idle = rests k ∷ []
knows z c k (point.Enqueue x p) = enqueue.knows p
knows z c k (point.Dequeue p) = dequeue.knows p
knows z c k (point.Fill n p) = filling.knows k.named (command k) n p
knows z c k (point.Batch d p) = batching.knows d p
knows z c k (point.Many d p) = dequeuing.knows k.values k.walked d p
knows z c k (point.Help h p) = helping.knows h p
knows z c k (point.Answer p) = answering.knows c k p
knows z c k (point.Take t p) = taking.knows k.rows t p
knows z c k (point.Guard t p) = guarding.knows t p
knows z c k (point.Close a p) = closing.knows z k p

-- the enqueue of this number is there, and has this value
pub record Enqueues (ops : List Op) (s : Notice) (i v : ℕ) : Type 0 where
  pub inside : i < s.counts.enqs
  pub value : v ≡ get_or (enqueued ops) i 0

-- the row of this number is r, and another comes behind it, which is n
pub record Chains (rows : List ℕ) (i r n : ℕ) : Type 0 where
  pub inside : suc i < length rows
  pub row : r ≡ get_or rows i 0
  pub next : n ≡ get_or rows (suc i) 0

-- dequeues alone that have chosen an announcement have taken their stopper; else they have no row
abbrev pub Plans : Plan → List ℕ → Type 0
Plans d rows = (d.ann ≡ None → rows ≡ []) × (d.ann ≢ None → IsWhole d.notice rows)

module _ (z : LaneSizes) (w : World) where
  -- the announcement is installed, and held by caller c or its own, and the first n of the fields that a help loads are as it says
  pub record Reads (c n : ℕ) (h : Help) : Type 0 where
    pub installed : Installed w h.ann
    pub kept : (w.ghost.held c ≡ Some h.ann) ⊎ (owner_of z h.ann ≡ c)
    pub inside : h.ann < z.callers * z.callers
    pub old_head : 0 < n → (w.memory.notice h.ann).old_head ≡ h.old_head
    pub first : 1 < n → (w.memory.notice h.ann).first ≡ h.first
    pub last : 2 < n → (w.memory.notice h.ann).last ≡ h.last
    pub counts : 3 < n → (w.memory.notice h.ann).counts ≡ h.counts

  -- Of the batch of the group g of caller c these values are read, of the rows behind its old dummy, which are these. The row
  -- r is the last one read, with l to come.
  pub record HasRead (c n : ℕ) (g : Group) (b : Reading) (vs ws : List ℕ) (l r : ℕ) : Type 0 where
    pub ann : ℕ
    pub owner : owner_of z ann ≡ c
    pub position : ℕ
    pub is_decided : w.ghost.stage ann ≡ decided position
    pub linearized : Linearized z w c ann position n g
    pub read : ℕ
    pub dummy : b.dummy ≡ at z.first w.ghost.path linearized.dummy
    pub queued : b.queued ≡ position - linearized.dummy
    pub stopped : b.stopped ≡ is_stopped (counts_of g.ops) b.queued
    pub left : read + l ≡ successes_of (counts_of g.ops) b.queued
    pub last_row : w.ghost.path (linearized.dummy + read) ≡ r
    pub values : vs ≡ run (λ j. w.memory.value (w.ghost.path j)) (suc linearized.dummy) read
    pub walked : ws ≡ run w.ghost.path (suc linearized.dummy) read
    pub passed : linearized.dummy + passes (counts_of g.ops) b.queued ≤ w.ghost.head

  -- the same where the row r is the next one, with l behind it
  pub record IsReading (c n : ℕ) (g : Group) (b : Reading) (vs ws : List ℕ) (l r : ℕ) : Type 0 where
    pub ann : ℕ
    pub owner : owner_of z ann ≡ c
    pub position : ℕ
    pub is_decided : w.ghost.stage ann ≡ decided position
    pub linearized : Linearized z w c ann position n g
    pub read : ℕ
    pub dummy : b.dummy ≡ at z.first w.ghost.path linearized.dummy
    pub queued : b.queued ≡ position - linearized.dummy
    pub stopped : b.stopped ≡ is_stopped (counts_of g.ops) b.queued
    pub left : read + suc l ≡ successes_of (counts_of g.ops) b.queued
    pub next_row : w.ghost.path (suc (linearized.dummy + read)) ≡ r
    pub values : vs ≡ run (λ j. w.memory.value (w.ghost.path j)) (suc linearized.dummy) read
    pub walked : ws ≡ run w.ghost.path (suc linearized.dummy) read
    pub passed : linearized.dummy + passes (counts_of g.ops) b.queued ≤ w.ghost.head

  -- the place is that of a linked row, which caller c holds
  pub record Linked (c : ℕ) (p : Place) : Type 0 where
    pub position : ℕ
    pub count : p.count ≡ z.first + position
    pub on : On w position p.row
    pub inside : p.row < z.rows
    pub kept : w.ghost.row_held c ≡ Some p.row

  -- the row n is linked behind this place
  pub record NextIs (p : Place) (n : ℕ) : Type 0 where
    pub from : z.first ≤ p.count
    pub inside : n < z.rows
    pub there : (i : ℕ) → p.count ≡ z.first + i → (suc i < positions w.ghost) × (w.ghost.path (suc i) ≡ n)

  -- the announcement is decided, and where rows were linked for it, behind the row at this place
  pub record IsDecidedBehind (a : ℕ) (p : Place) : Type 0 where
    pub position : ℕ
    pub is_decided : w.ghost.stage a ≡ decided position
    pub inside : position < positions w.ghost
    pub place : 0 < w.ghost.span a → p ≡ at z.first w.ghost.path position

  -- OldTail of the announcement is this place
  pub record HasOldTail (a : ℕ) (q : Place) : Type 0 where
    pub position : ℕ
    pub is_decided : w.ghost.stage a ≡ decided position
    pub old_tail : w.memory.old_tail a ≡ Some q

  -- OldTail of the announcement is known, and TAIL isn't there any more
  pub record IsOver (a : ℕ) : Type 0 where
    pub position : ℕ
    pub is_decided : w.ghost.stage a ≡ decided position
    pub known : (q : Place) × (w.memory.old_tail a ≡ Some q)
    pub past : w.ghost.ann ≡ Some a → position + w.ghost.span a ≤ w.ghost.tail

  -- the head passes m rows for the batch of the helped announcement
  pub record Gets (h : Help) (m : ℕ) : Type 0 where
    pub position : ℕ
    pub is_decided : w.ghost.stage h.ann ≡ decided position
    pub shown : w.ghost.ann ≡ Some h.ann → w.ghost.shown ≡ m
    pub inside : h.old_head.count + m < z.first + positions w.ghost

  -- the row r lies x rows behind the dummy, and l before the new one
  pub record LiesBefore (r l : ℕ) : Type 0 where
    pub behind : ℕ
    pub sum : behind + l ≡ w.ghost.shown
    pub inside : w.ghost.head + behind < positions w.ghost
    pub row : w.ghost.path (w.ghost.head + behind) ≡ r

  -- the walk to the new dummy has come to the row r, with l links to go
  pub record Walks (a r l : ℕ) : Type 0 where
    pub position : ℕ
    pub is_decided : w.ghost.stage a ≡ decided position
    pub inside : r < z.rows
    pub lies : w.ghost.ann ≡ Some a → LiesBefore r l

  -- While HEAD names the place p, the values are those of the rows behind it, which are these, and r is the last of these.
  pub record HasWalked (p : Place) (vs ws : List ℕ) (r : ℕ) : Type 0 where
    pub inside : r < z.rows
    pub as_many : length ws ≡ length vs
    pub seen : p.count ≤ z.first + w.ghost.head
    pub there : p.count ≡ z.first + w.ghost.head → (length vs ≤ w.ghost.rest) × (w.ghost.path (w.ghost.head + length vs) ≡ r)
        × (vs ≡ run (λ j. w.memory.value (w.ghost.path j)) (suc w.ghost.head) (length vs)) × (ws ≡ run w.ghost.path (suc w.ghost.head) (length vs))

  -- the same, where the row r comes behind these
  pub record IsWalking (p : Place) (vs ws : List ℕ) (r : ℕ) : Type 0 where
    pub inside : r < z.rows
    pub as_many : length ws ≡ length vs
    pub seen : p.count ≤ z.first + w.ghost.head
    pub there : p.count ≡ z.first + w.ghost.head → (length vs < w.ghost.rest) × (w.ghost.path (suc (w.ghost.head + length vs)) ≡ r)
        × (vs ≡ run (λ j. w.memory.value (w.ghost.path j)) (suc w.ghost.head) (length vs)) × (ws ≡ run w.ghost.path (suc w.ghost.head) (length vs))

-- What caller c knows of an own batch in the world w.
module _ (z : LaneSizes) (w : World) (c : ℕ) where
  -- what is so of an own batch on the announcement a that is decided at i, and has taken these rows
  pub record Effect (a i n : ℕ) (g : Group) (rows : List ℕ) : Type 0 where
    pub stands : w.ghost.linearized c ≡ true
    pub batch : Linearized z w c a i n g
    pub taken : Takes z w c (rows_left (nat_lt 0 (linked_rows (w.memory.notice a).counts (i - batch.dummy))) rows)
    pub loose : OwnRows z w c (rows_left (nat_lt 0 (linked_rows (w.memory.notice a).counts (i - batch.dummy))) rows)
    pub debts : Debts z w c (upto (z.first + batch.dummy) (passes (w.memory.notice a).counts (i - batch.dummy))) (upto (z.first + suc batch.dummy) (successes_of (w.memory.notice a).counts (i - batch.dummy)))

  -- The announcement a is installed, and is the caller's only one in HEAD. Where it is decided, its group stands in the history
  -- behind n groups or more, and its rows are to be marked; while it waits, these rows are taken, and none is twice there.
  pub record TakesEffect (a : ℕ) (rows : List ℕ) (n : ℕ) (g : Group) : Type 0 where
    pub installed : Installed w a
    pub owner : owner_of z a ≡ c
    pub stands : (i : ℕ) → w.ghost.stage a ≡ decided i → Effect a i n g rows
    pub takes : w.ghost.stage a ≡ waiting → Takes z w c rows × Debts z w c [] [] × Distinct rows
    pub only : (x : ℕ) → w.ghost.ann ≡ Some x → owner_of z x ≡ c → x ≡ a

module _ (z : LaneSizes) where
  -- In the world w, of caller c.
  module _ (w : World) (c : ℕ) where
    abbrev pub Holds : Fact → Type 0
    Holds (seeks b r l) = (i : ℕ) × (own_row z c b i ≡ r) × (i + l < own_count z b)
    Holds (free_row b r) = IsUnlinked z c w.ghost.spot b r × ((w.memory.mark r).free ≡ true)
    Holds (takes_row b r) = IsTaken z c w.ghost.spot w.memory.mark b r
    Holds (owns b r) = IsTaken z c w.ghost.spot w.memory.mark b r × (w.memory.link r ≡ Nil)
    Holds (holds_item x) = IsTaken z c w.ghost.spot w.memory.mark false x.row × (w.memory.value x.row ≡ x.value)
    Holds (apart_from r rows) = among rows r ≡ false
    Holds (retires_these rows) = RetiresThese z w c rows
    Holds (row_hazard_is r) = w.memory.node_hazard c ≡ Some r
    Holds (owes_rows q read stopped rows) = OwesRows z w c q read stopped rows
    Holds (passes_first passed stopped rows) = passed ≡ nat_lt 0 (to_pass (length rows) stopped)
    Holds (own_rows rows) = OwnRows z w c rows
    Holds (loose_row r) = IsLoose z w c r
    Holds (lets_go d rows named) = (e r : ℕ) → e < d → among rows r ≡ true → among named r ≡ false → Retires z w c r × (w.ghost.row_held e ≢ Some r)
    Holds (is_caller d) = d < z.callers
    Holds (may_lack ops) = (0 < enqueue_count ops) ⊎ (is_alone ops ≡ true)
    Holds (holds_nothing h r) = (h ≡ Free) × (r ≡ Free)
    Holds (goes_first rows named r) = first_unheld named rows ≡ Some r
    Holds (linked p) = Linked z w c p
    Holds (head_seen p) = p.count ≤ z.first + w.ghost.head
    Holds (tail_seen p) = p.count ≤ z.first + w.ghost.tail
    Holds (tail_past p) = p.count < z.first + w.ghost.tail
    Holds (next_is p n) = NextIs z w p n
    Holds (by_single p) = (i : ℕ) → p.count ≡ z.first + i → (suc i < positions w.ghost) × (w.ghost.chained i ≡ false)
    Holds (next_value p v) = (p.count ≤ z.first + w.ghost.head)
        × (p.count ≡ z.first + w.ghost.head → (0 < w.ghost.rest) × (w.memory.value (w.ghost.path (suc w.ghost.head)) ≡ v))
    Holds (linearized_is b rows ps rs) = (w.ghost.linearized c ≡ b) × ((a : ℕ) → w.ghost.ann ≡ Some a → owner_of z a ≢ c) × (b ≡ false → (a : ℕ) → w.ghost.held c ≡ Some a → owner_of z a ≢ c)
        × Takes z w c rows × Debts z w c ps rs
    Holds out_of_head = (a : ℕ) → w.ghost.ann ≡ Some a → owner_of z a ≢ c
    Holds (is_op ops rows op) = (ops ≡ op ∷ []) × (c < z.callers) × (rows ≡ [])
    Holds (answered n g xs) = (s : Stands w.history g xs) × (n ≤ length s.before)
    Holds (since n) = n ≤ length w.history
    Holds (kept k) = Kept w.history c k
    Holds (rests k) = (k.ops ≡ []) × (k.outcome ≢ None → IsSome k.ended_at) × (k.hold ≡ Free) × (k.row_hold ≡ Free)
    Holds (drafts m n) = IsDraft z c m n
    Holds (is_spare a) = IsSpare z w.ghost.ann w.ghost.held c a
    Holds (spares x) = Spares z w.ghost.ann w.ghost.held c x
    Holds (scanned e xs) = Scanned z w.ghost.ann w.ghost.held c e xs
    Holds (is_other e) = (e < z.callers) × (e ≢ c)
    Holds (fills rows ops j) = Fills z c w.ghost.spot w.memory.value w.memory.link w.memory.mark rows ops j
    Holds (whole n rows) = IsWhole n rows
    Holds (plans d rows) = Plans d rows
    Holds (enqueues ops s i v) = Enqueues ops s i v
    Holds (goes_on rows i r n) = Chains rows i r n
    Holds (written d f) = Written z c (w.ghost.stage d.ann) (w.memory.old_tail d.ann) (w.memory.notice d.ann) d f
    Holds (head_written d) = HeadWritten z c (w.ghost.stage d.ann) (w.memory.notice d.ann) d
    Holds (only_dequeues n) = (n.counts.enqs ≡ 0) × (0 < n.counts.deqs)
    Holds (has_walked p vs ws r) = HasWalked z w p vs ws r
    Holds (is_walking p vs ws r) = IsWalking z w p vs ws r
    Holds (to_walk n vs l) = length vs + l ≡ n.counts.deqs
    Holds (too_few h p) = h.counts.enqs ≡ 0 → before_it h p < h.counts.deqs
    Holds (enough h p) = (h.counts.enqs ≡ 0) × (h.counts.deqs ≤ before_it h p)
    Holds (has_links h q) = 0 < linked_rows h.counts (before_it h q)
    Holds (reads n h) = Reads z w c n h
    Holds (helps h) = IsOwn h.back → Reads z w c 4 h × (owner_of z h.ann ≡ c)
    Holds (hazard_is a) = w.memory.ann_hazard c ≡ Some a
    Holds (stands_at a p) = Installed w a × (w.ghost.ann ≡ Some a → z.first + w.ghost.head ≤ p.count)
    Holds (before_end a p) = Installed w a × ((i : ℕ) → p.count ≡ z.first + i → (i < positions w.ghost) × ((j : ℕ) → w.ghost.stage a ≡ decided j → 0 < w.ghost.span a → suc i < positions w.ghost))
    Holds (is_old_tail a p) = Installed w a × (w.ghost.ann ≡ Some a → IsDecidedBehind z w a p)
    Holds (old_tail_is a q) = HasOldTail z w a q
    Holds (tail_over a) = IsOver z w a
    Holds (gets_so_many h m) = Gets z w h m
    Holds (walks a r l) = Walks z w a r l
    Holds (takes_effect a rows n g) = TakesEffect z w c a rows n g
    Holds (has_read n g b vs ws l r) = HasRead z w c n g b vs ws l r
    Holds (is_reading n g b vs ws l r) = IsReading z w c n g b vs ws l r

    abbrev pub Each : List Fact → Type 0
    Each [] = Unit {0}
    Each (f ∷ fs) = Holds f × Each fs

  module _ (w : World) (c : ℕ) where
    -- what a caller knows of its call, and besides at its point
    pub record Parts (all now : List Fact) : Type 0 where
      pub call : Each w c all
      pub here : Each w c now

    -- what it knows at the point t, where it keeps k
    abbrev pub AtPoint : Caller → Point → Type 0
    AtPoint k t = Parts (call_knows c k t) (knows z c k t)

    -- what caller c, which keeps k, knows
    pub record Knows (k : Caller) : Type 0 where
      pub retired : Holds w c (retires_these k.retired)
      pub started : Holds w c (since k.started_at)
      pub last : Holds w c (kept k)
      pub at_point : AtPoint k k.point
