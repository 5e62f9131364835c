-- What is true of a lane between any two steps.
use Rattle.std.specs.Prelude.{◌≡◌, ◌≢◌, ◌⊎◌, ℕ, suc, ◌+◌, ◌-◌, ◌*◌, ◌<◌, ◌≤◌, ◌++◌, ◌==◌, Bool, true, false, cond, List, [], ◌∷◌, length, map, Option, Some, None}
use Rattle.bq_model.specs.declared.op.Op.{Op}
use Rattle.bq_model.specs.declared.group.Group.{Group}
use Rattle.bq_model.specs.History.{operations, last_queue}
use Rattle.bq_model.specs.Own.{mine, no_items, items_from}
use Rattle.bq_model.specs.NoShut.{NoShut, NeverShut}
use Rattle.bq_model.specs.Queue.{unshut}
use Rattle.bq_model.specs.Proper.{IsProper}
use Rattle.bq_model.specs.Values.{enqueued}
use Rattle.word_rows.specs.declared.place.Place.{Place}
use Rattle.word_rows.specs.declared.head_word.HeadWord.{HeadWord}
use Rattle.word_rows.specs.declared.head_word.HeadWord.TheVariants.{Node, Ann}
use Rattle.word_rows.specs.declared.link_word.LinkWord.{LinkWord}
use Rattle.word_rows.specs.declared.link_word.LinkWord.TheVariants.{Nil, Single, Chain}
use Rattle.lane_steps.specs.declared.point.Notice.{Notice}
use Rattle.lane_steps.specs.declared.point.Guarding.{Guarding}
use Rattle.lane_steps.specs.declared.point.Guarding.TheVariants as guard
use Rattle.lane_steps.specs.declared.point.Point.{Point}
use Rattle.lane_steps.specs.declared.point.Point.TheVariants as point
use Rattle.lane_steps.specs.Functions.{run}
use Rattle.lane_steps.specs.LaneSizes.{LaneSizes, IsItem, IsLane}
use Rattle.lane_steps.specs.Stopper.{chain_rows, linked_rows, passes}
use Rattle.lane_steps.specs.Batches.{owner_of}
use Rattle.lane_steps.specs.State.{Memory, Caller, State, command, own_group}
use Rattle.core_model.specs.Ghost.{Stage, unused, waiting, decided, Due, due, paid, is_paid, Ghost, World, joint, at}
use Rattle.core_model.specs.Facts.{Describes, Knows, IsOwn}
use Rattle.lane_steps.specs.declared.point.Hold.{Hold}
use Rattle.lane_steps.specs.Take.{taken_marks}
use Rattle.node_guard.specs.Pick.{among}
use Rattle.word_rows.specs.declared.marks.Marks.{Marks}
use Rattle.lane_steps.specs.declared.point.Hold.TheVariants.{Free, Names, Held}

-- the values of the rows behind the shown head, first to last
abbrev pub shown_queue : (ℕ → ℕ) → Ghost → List ℕ
shown_queue value g = run (λ i. value (g.path i)) (suc (g.head + g.shown)) g.queued

-- A proper history in which no group shuts the queue.
pub record PlainHistory (callers : ℕ) (h : List Group) : Type 0 where
  pub proper : IsProper callers h
  pub never_shut : NeverShut h

-- who enqueued each value of the last queue
abbrev pub queue_owners : List Group → List ℕ
queue_owners h = map (λ item. item.caller) (items_from no_items h).items

-- the homes of the rows behind the shown head
abbrev pub shown_owners : (ℕ → ℕ) → Ghost → List ℕ
shown_owners home g = run (λ i. home (g.path i)) (suc (g.head + g.shown)) g.queued

-- the rows from the dummy on, along the links
pub record Listed (rows : ℕ) (link : ℕ → LinkWord) (path : ℕ → ℕ) (chained : ℕ → Bool) (spot : ℕ → Option ℕ) (head rest : ℕ) : Type 0 where
  -- each is linked to the next, and the last one to none
  pub joined : (i : ℕ) → head ≤ i → i < head + rest → link (path i) ≡ joint (chained i) (path (suc i))
  pub last : link (path (head + rest)) ≡ Nil
  -- each is at one position alone
  pub spots : (i : ℕ) → head ≤ i → i < suc (head + rest) → spot (path i) ≡ Some i
  pub inside : (i : ℕ) → i < suc (head + rest) → path i < rows
  -- a row with a position is the row of that position
  pub placed : (r i : ℕ) → spot r ≡ Some i → (i < suc (head + rest)) × (path i ≡ r)

-- The marks of a row with a position are those that were set at that position. The rows up to the shown head were read, and
-- those before it passed, and no others; a stopper counts as read.
pub record Marked (mark : ℕ → Marks) (spot : ℕ → Option ℕ) (reader passer : ℕ → Due) (head shown : ℕ) : Type 0 where
  pub kept : (r i : ℕ) → spot r ≡ Some i → (mark r).free ≡ false
  pub read : (r i : ℕ) → spot r ≡ Some i → (mark r).read ≡ is_paid (reader i)
  pub passed : (r i : ℕ) → spot r ≡ Some i → (mark r).passed ≡ is_paid (passer i)
  pub unread : (i : ℕ) → head + shown < i → reader i ≡ due
  pub unpassed : (i : ℕ) → head + shown ≤ i → passer i ≡ due
  pub was_read : (i : ℕ) → i ≤ head + shown → reader i ≢ due
  pub was_passed : (i : ℕ) → i < head + shown → passer i ≢ due
  pub behind : (i : ℕ) → passer i ≡ paid → i < head

-- the rows behind the shown head are item rows
abbrev pub ItemRows : LaneSizes → (ℕ → ℕ) → ℕ → ℕ → ℕ → Type 0
ItemRows z path head rest shown = (i : ℕ) → head + shown < i → i < suc (head + rest) → IsItem z (path i)

-- TAIL names a row at or behind the dummy, and one row at most lies behind it where its link is Single
pub record Tailed (first : ℕ) (word : Place) (path : ℕ → ℕ) (chained : ℕ → Bool) (head rest tail : ℕ) : Type 0 where
  pub named : word ≡ at first path tail
  pub after_head : head ≤ tail
  pub within : tail ≤ head + rest
  pub lags : tail < head + rest → chained tail ≡ false → head + rest ≤ suc tail

-- HEAD names the dummy, or the announcement that stands before it
abbrev pub head_word : ℕ → (ℕ → ℕ) → ℕ → Option ℕ → HeadWord
head_word first path head None = Node (at first path head)
head_word first path head (Some a) = Ann a (first + head)

pub record Headed (first : ℕ) (word : HeadWord) (path : ℕ → ℕ) (head rest : ℕ) (ann : Option ℕ) (shown queued : ℕ) : Type 0 where
  pub named : word ≡ head_word first path head ann
  pub none : ann ≡ None → shown ≡ 0
  pub fits : shown + queued ≡ rest

-- the groups of a caller are those of its ended commands, and that of the running one where that has taken effect
abbrev pub OwnGroups : ℕ → List Group → Caller → Bool → Type 0
OwnGroups c h k linearized = mine h c ≡ k.mine ++ cond linearized (own_group c k ∷ []) []

-- a caller whose commands made these groups, and which runs these operations, is within its allowance
abbrev pub Allowed : LaneSizes → List Group → List Op → Type 0
Allowed z groups running = length (operations groups) + length running ≤ z.allowance

-- what a hazard word names, and what its caller holds
abbrev pub named_by : Hold → Option ℕ
named_by Free = None
named_by (Names a) = Some a
named_by (Held a) = Some a

abbrev pub held_by : Hold → Option ℕ
held_by Free = None
held_by (Names a) = None
held_by (Held a) = Some a

-- The hazard word of caller c names what the caller has stored there, which it may hold. What it holds was installed, and
-- is not given for another use.
pub record Guarded (callers : ℕ) (hazard : Option ℕ) (stage : ℕ → Stage) (held : Option ℕ) (c : ℕ) (hold : Hold) : Type 0 where
  pub word : hazard ≡ named_by hold
  pub holds : held ≡ held_by hold
  pub installed : (a : ℕ) → held ≡ Some a → stage a ≢ unused
  pub known : (a : ℕ) → held ≡ Some a → c < callers

-- The same of its NODE_HAZARD, and the row that it holds has a position.
pub record RowGuarded (callers : ℕ) (hazard : Option ℕ) (spot : ℕ → Option ℕ) (held : Option ℕ) (c : ℕ) (hold : Hold) : Type 0 where
  pub word : hazard ≡ named_by hold
  pub holds : held ≡ held_by hold
  pub placed : (r : ℕ) → held ≡ Some r → spot r ≢ None
  pub known : (r : ℕ) → held ≡ Some r → c < callers

abbrev pub GuardsRow : LaneSizes → Memory → Ghost → ℕ → Hold → Type 0
GuardsRow z m g c hold = RowGuarded z.callers (m.node_hazard c) g.spot (g.row_held c) c hold

abbrev pub Guards : LaneSizes → Memory → Ghost → ℕ → Hold → Type 0
Guards z m g c hold = Guarded z.callers (m.ann_hazard c) g.stage (g.held c) c hold

-- each link names a row of the lane
abbrev pub LinksIn : ℕ → LinkWord → Type 0
LinksIn rows (Single r) = r < rows
LinksIn rows (Chain r) = r < rows
LinksIn rows _ = Unit {0}

-- the rows of a decided announcement, so many, lie behind the position i, for ever
pub record Bound (first : ℕ) (path : ℕ → ℕ) (chained : ℕ → Bool) (cause : ℕ → ℕ) (total tail : ℕ) (notice : Notice) (a i span : ℕ) : Type 0 where
  pub causes : 0 < span → cause i ≡ a
  pub by_chain : 0 < span → chained i ≡ true
  pub within : i + span ≤ total
  pub starts : 0 < span → path (suc i) ≡ notice.first
  pub ends : 0 < span → path (i + span) ≡ notice.last
  pub joined : (j : ℕ) → i < j → j < i + span → chained j ≡ false
  pub reached : i ≤ tail
  -- its old dummy is no later, and tells with i how many rows were linked
  pub old_dummy : (h : ℕ) × (notice.old_head ≡ at first path h) × (h ≤ i) × (span ≡ linked_rows notice.counts (i - h))
  -- its dequeues pass its enqueues by the excess at most, and those of dequeues alone by as much
  pub covered : notice.counts.deqs ≤ notice.counts.enqs + notice.counts.excess
  pub all_excess : notice.counts.enqs ≡ 0 → notice.counts.excess ≡ notice.counts.deqs

-- while it stands, the shown head lies as many rows behind the dummy as its batch passes, and TAIL is at the old tail or
-- past the rows
pub record Standing (head shown tail : ℕ) (notice : Notice) (i span : ℕ) : Type 0 where
  pub from : head ≤ i
  pub shows : shown ≡ passes notice.counts (i - head)
  pub inside : head + shown ≤ i + span
  pub tails : (tail ≡ i) ⊎ (i + span ≤ tail)

-- the announcements, so many, among `total` rows behind the position 0
pub record Stages (first anns : ℕ) (stage : ℕ → Stage) (ann : Option ℕ) (notice : ℕ → Notice) (old_tail : ℕ → Option Place) (span : ℕ → ℕ)
    (path : ℕ → ℕ) (chained : ℕ → Bool) (cause : ℕ → ℕ) (head total shown tail : ℕ) : Type 0 where
  -- one in HEAD is installed, and its OldHead names the dummy; one that waits is in HEAD, with nothing shown behind the dummy
  pub inside : (a : ℕ) → ann ≡ Some a → a < anns
  pub installed : (a : ℕ) → ann ≡ Some a → stage a ≢ unused
  pub old_head : (a : ℕ) → ann ≡ Some a → (notice a).old_head ≡ at first path head
  pub waits : (a : ℕ) → stage a ≡ waiting → (ann ≡ Some a) × (shown ≡ 0)
  pub bound : (a i : ℕ) → stage a ≡ decided i → Bound first path chained cause total tail (notice a) a i (span a)
  pub standing : (a i : ℕ) → ann ≡ Some a → stage a ≡ decided i → Standing head shown tail (notice a) i (span a)
  -- OldTail is the tail word behind which it was decided; while that isn't recorded, the announcement stands, rows were linked
  -- for it, and TAIL is there
  pub unknown : (a : ℕ) → stage a ≡ waiting → old_tail a ≡ None
  pub recorded : (a i : ℕ) (q : Place) → stage a ≡ decided i → old_tail a ≡ Some q → q ≡ at first path i
  pub unrecorded : (a i : ℕ) → stage a ≡ decided i → old_tail a ≡ None → (ann ≡ Some a) × (tail ≤ i) × (0 < span a)
  -- one that has left HEAD was passed by as many rows as its batch passes
  pub left : (a i h : ℕ) → stage a ≡ decided i → ann ≢ Some a → (notice a).old_head ≡ at first path h → h + passes (notice a).counts (i - h) ≤ head
  -- where TAIL lags over a Chain link, that links the rows of the decided announcement in HEAD, and no others
  pub lags : tail < total → chained tail ≡ true → (a : ℕ) × (stage a ≡ decided tail) × (ann ≡ Some a) × (total ≤ tail + span a)

abbrev pub Announced : LaneSizes → Memory → Ghost → Type 0
Announced z m g = Stages z.first (z.callers * z.callers) g.stage g.ann m.notice m.old_tail g.span g.path g.chained g.cause g.head (g.head + g.rest) g.shown g.tail

-- the caller helps its own announcement, or makes sure of it or of a row for that
abbrev pub GuardsOwn : Guarding → Type 0
GuardsOwn (guard.Help h) = IsOwn h.back
GuardsOwn (guard.HelpTail h p) = IsOwn h.back
GuardsOwn _ = ⊥

abbrev pub HelpsOwn : Point → Type 0
HelpsOwn (point.Help h p) = IsOwn h.back
HelpsOwn (point.Guard t p) = GuardsOwn t
HelpsOwn _ = ⊥

-- An announcement in HEAD says what the command of its owner c, which keeps k, is, and names rows of it, and the owner helps
-- it. Where it is decided, its rows have the values of the enqueues in order.
pub record Told (home value path : ℕ → ℕ) (stage : Stage) (notice : Notice) (c : ℕ) (k : Caller) : Type 0 where
  pub describes : Describes c (command k) notice
  pub several : 1 < length k.ops
  pub plain : NoShut k.ops
  pub first : home notice.first ≡ c
  pub last : home notice.last ≡ c
  pub helps : HelpsOwn k.point
  pub values : (i : ℕ) → stage ≡ decided i → enqueued k.ops ≡ run (λ j. value (path j)) (suc i) notice.counts.enqs

abbrev pub IsTold : LaneSizes → Memory → Ghost → (ℕ → Caller) → ℕ → Type 0
IsTold z m g callers a = g.ann ≡ Some a → Told z.home m.value g.path (g.stage a) (m.notice a) (owner_of z a) (callers (owner_of z a))

-- The rows of an announcement that waits are unlinked rows of its owner c, which keeps k, joined by Single links, with
-- the values of the enqueues in order; or its one row is a stopper.
pub record Pending (z : LaneSizes) (link : ℕ → LinkWord) (value : ℕ → ℕ) (mark : ℕ → Marks) (spot : ℕ → Option ℕ) (chain : ℕ → ℕ) (linearized : Bool) (notice : Notice) (c : ℕ) (k : Caller) : Type 0 where
  pub known : c < z.callers
  pub not_yet : linearized ≡ false
  pub starts : chain 0 ≡ notice.first
  pub ends : (i : ℕ) → suc i ≡ chain_rows notice.counts → chain i ≡ notice.last
  pub homes : (i : ℕ) → i < chain_rows notice.counts → z.home (chain i) ≡ c
  pub inside : (i : ℕ) → i < chain_rows notice.counts → chain i < z.rows
  pub items : (i : ℕ) → i < notice.counts.enqs → IsItem z (chain i)
  pub unlinked : (i : ℕ) → i < chain_rows notice.counts → spot (chain i) ≡ None
  pub marks : (i : ℕ) → i < chain_rows notice.counts → mark (chain i) ≡ taken_marks (notice.counts.enqs == 0)
  -- these are the rows that its owner took
  pub taken : (r : ℕ) → among k.rows r ≡ true → (i : ℕ) × (i < chain_rows notice.counts) × (chain i ≡ r)
  pub apart : (i j : ℕ) → i < j → j < chain_rows notice.counts → chain i ≢ chain j
  pub joined : (i : ℕ) → suc i < chain_rows notice.counts → link (chain i) ≡ Single (chain (suc i))
  pub last : (i : ℕ) → suc i ≡ chain_rows notice.counts → link (chain i) ≡ Nil
  pub values : enqueued k.ops ≡ run (λ i. value (chain i)) 0 notice.counts.enqs

abbrev pub Waits : LaneSizes → Memory → Ghost → (ℕ → Caller) → ℕ → Type 0
Waits z m g callers a = g.stage a ≡ waiting → Pending z m.link m.value m.mark g.spot g.chain (g.linearized (owner_of z a)) (m.notice a) (owner_of z a) (callers (owner_of z a))

-- the list of rows with HEAD and TAIL, in a lane whose history has so many operations
pub record Ordered (z : LaneSizes) (head_is : HeadWord) (tail_is : Place) (link : ℕ → LinkWord) (made : ℕ) (path : ℕ → ℕ) (chained : ℕ → Bool) (spot : ℕ → Option ℕ)
    (first_at rest tail_at : ℕ) (ann : Option ℕ) (shown queued : ℕ) : Type 0 where
  pub rows : Listed z.rows link path chained spot first_at rest
  pub item_rows : ItemRows z path first_at rest shown
  pub head : Headed z.first head_is path first_at rest ann shown queued
  pub tail : Tailed z.first tail_is path chained first_at rest tail_at
  -- each linked row came with an operation of the history
  pub counts : first_at + rest ≤ made
  pub links : (r : ℕ) → LinksIn z.rows (link r)

abbrev pub InOrder : LaneSizes → Memory → List Group → Ghost → Type 0
InOrder z m h g = Ordered z m.head m.tail m.link (length (operations h)) g.path g.chained g.spot g.head g.rest g.tail g.ann g.shown g.queued

-- what is true of caller c, which keeps k
pub record OfCaller (z : LaneSizes) (w : World) (c : ℕ) (k : Caller) : Type 0 where
  pub guards : Guards z w.memory w.ghost c k.hold
  pub own_groups : OwnGroups c w.history k (w.ghost.linearized c)
  pub guards_row : GuardsRow z w.memory w.ghost c k.row_hold
  pub allowed : Allowed z k.mine k.ops
  pub knows : Knows z w c k

pub record Lawful (z : LaneSizes) (s : State) : Type 0 where
  pub ghost : Ghost
  -- the history is proper, and the shown queue is its last queue, which isn't shut
  pub history : PlainHistory z.callers s.history
  pub queue : last_queue s.history ≡ unshut (shown_queue s.memory.value ghost)
  -- each of its values stands in a row of the caller that enqueued it
  pub owners : queue_owners s.history ≡ shown_owners z.home ghost
  pub sizes : IsLane z
  pub list : InOrder z s.memory s.history ghost
  pub marks : Marked s.memory.mark ghost.spot ghost.reader ghost.passer ghost.head ghost.shown
  pub announced : Announced z s.memory ghost
  pub told : (a : ℕ) → IsTold z s.memory ghost s.callers a
  pub pending : (a : ℕ) → Waits z s.memory ghost s.callers a
  pub callers : (c : ℕ) → OfCaller z record { memory = s.memory; history = s.history; ghost = ghost } c (s.callers c)
