-- What a caller expects of the words on which its next steps rest, with the ranks that it kept.
use Rattle.std.specs.Prelude.{◌≡◌, ◌≢◌, ◌⊎◌, ◌<◌, ◌≤◌, ◌==◌, ℕ, Bool, true, false, List, [], ◌∷◌, None}
use Rattle.word_rows.specs.declared.place.Place.{Place}
use Rattle.word_rows.specs.declared.head_word.HeadWord.TheVariants.{Node, Ann}
use Rattle.word_rows.specs.declared.link_word.LinkWord.TheVariants.{Nil, Chain}
use Rattle.word_rows.specs.declared.location.AnnField.{AnnField}
use Rattle.word_rows.specs.declared.location.AnnField.TheVariants as field
use Rattle.word_rows.specs.declared.location.Location.{Location}
use Rattle.word_rows.specs.declared.location.Location.TheVariants.{Head, Tail, Link, AnnWord}
use Rattle.word_rows.specs.declared.content.Content.{Content}
use Rattle.word_rows.specs.declared.content.Content.TheVariants.{OfHead, OfTail, OfLink, OfOldTail}
use Rattle.lane_steps.specs.declared.point.Notice.{Notice}
use Rattle.lane_steps.specs.declared.point.Draft.{Draft}
use Rattle.lane_steps.specs.declared.point.Plan.{Plan}
use Rattle.lane_steps.specs.declared.point.Help.{Help}
use Rattle.lane_steps.specs.declared.point.Taking.{Taking}
use Rattle.lane_steps.specs.declared.point.Taking.TheVariants as taking
use Rattle.lane_steps.specs.declared.point.Guarding.{Guarding}
use Rattle.lane_steps.specs.declared.point.Guarding.TheVariants as guard
use Rattle.lane_steps.specs.declared.point.EnqueuePoint.{EnqueuePoint}
use Rattle.lane_steps.specs.declared.point.EnqueuePoint.TheVariants as enq
use Rattle.lane_steps.specs.declared.point.DequeuePoint.{DequeuePoint}
use Rattle.lane_steps.specs.declared.point.DequeuePoint.TheVariants as deq
use Rattle.lane_steps.specs.declared.point.FillPoint.{FillPoint}
use Rattle.lane_steps.specs.declared.point.FillPoint.TheVariants as fill
use Rattle.lane_steps.specs.declared.point.BatchPoint.{BatchPoint}
use Rattle.lane_steps.specs.declared.point.BatchPoint.TheVariants as batch
use Rattle.lane_steps.specs.declared.point.ManyPoint.{ManyPoint}
use Rattle.lane_steps.specs.declared.point.ManyPoint.TheVariants as many
use Rattle.lane_steps.specs.declared.point.HelpPoint.{HelpPoint}
use Rattle.lane_steps.specs.declared.point.HelpPoint.TheVariants as help
use Rattle.lane_steps.specs.declared.point.Point.{Point}
use Rattle.lane_steps.specs.declared.point.Point.TheVariants as point
use Rattle.lane_steps.specs.State.{Memory, State, read}
use Rattle.lane_rank.specs.Rank.{rank}

pub data Expected : Type 0 where
  -- this word has this
  has : Location → Content → Expected
  -- TAIL's row has a Chain link, or some link
  chain_ahead : Expected
  link_ahead : Expected

abbrev pub IsThere : Memory → Expected → Type 0
IsThere m (has l x) = read m l ≡ x
IsThere m chain_ahead = (r : ℕ) × (m.link m.tail.row ≡ Chain r)
IsThere m link_ahead = m.link m.tail.row ≢ Nil

-- each is there, or the rank is greater than the kept one now
abbrev pub AllThere : State → ℕ → List Expected → Type 0
AllThere s kept [] = Unit {0}
AllThere s kept (e ∷ es) = (IsThere s.memory e ⊎ (kept < rank s)) × AllThere s kept es

-- HEAD names this node, or has this announcement with this count
abbrev pub head_node : Place → Expected
head_node p = has Head (OfHead (Node p))

abbrev pub head_ann : ℕ → ℕ → Expected
head_ann a n = has Head (OfHead (Ann a n))

abbrev pub helped : Help → Expected
helped h = head_ann h.ann h.old_head.count

-- TAIL names this place
abbrev pub tail_at : Place → Expected
tail_at p = has Tail (OfTail p)

-- behind this place nothing is linked, or this row by a Chain link
abbrev pub nil_behind : Place → Expected
nil_behind p = has (Link p.row) (OfLink Nil)

abbrev pub chain_behind : Place → ℕ → Expected
chain_behind p r = has (Link p.row) (OfLink (Chain r))

-- OldTail of this announcement isn't known
abbrev pub not_recorded : ℕ → Expected
not_recorded a = has (AnnWord a field.OldTail) (OfOldTail None)

-- With the rank that was kept as the call, or the help that it makes, began its round.
abbrev pub outer_enqueue : EnqueuePoint → List Expected
outer_enqueue (enq.LoadLink p) = tail_at p ∷ []
outer_enqueue (enq.LinkSingle p) = nil_behind p ∷ tail_at p ∷ []
outer_enqueue (enq.PassTail p n) = tail_at p ∷ []
outer_enqueue (enq.MoveTail p n) = tail_at p ∷ []
outer_enqueue enq.LoadHead = chain_ahead ∷ []
outer_enqueue _ = []

abbrev pub outer_dequeue : DequeuePoint → List Expected
outer_dequeue deq.LoadHead = []
outer_dequeue (deq.LoadLink p) = head_node p ∷ []
outer_dequeue (deq.LoadTail p n) = head_node p ∷ []
outer_dequeue (deq.LoadTailOver p n) = head_node p ∷ chain_behind p n ∷ []
outer_dequeue (deq.PassTail p n) = tail_at p ∷ []
outer_dequeue (deq.LoadValue p n) = head_node p ∷ []
outer_dequeue (deq.MoveHead p n v) = head_node p ∷ []

-- dequeues alone take a stopper and choose an announcement within a round
abbrev pub outer_take : Taking → List Expected
outer_take (taking.Stopper n) = head_node n.old_head ∷ []
outer_take _ = []

abbrev pub outer_scan : Bool → Notice → List Expected
outer_scan true n = head_node n.old_head ∷ []
outer_scan false n = []

abbrev pub outer_fill : Notice → FillPoint → List Expected
outer_fill n (fill.LoadHazard e) = outer_scan (n.counts.enqs == 0) n
outer_fill n _ = []

abbrev pub outer_field : Draft → AnnField → List Expected
outer_field d field.OldHead = head_node d.notice.old_head ∷ []
outer_field d _ = []

abbrev pub outer_batch : Draft → BatchPoint → List Expected
outer_batch d (batch.StoreField f) = outer_field d f
outer_batch d (batch.StoreAll f) = head_node d.notice.old_head ∷ []
outer_batch d batch.LoadHead = []
outer_batch d batch.Install = head_node d.notice.old_head ∷ []

abbrev pub outer_many : Plan → ManyPoint → List Expected
outer_many d many.LoadHead = []
outer_many d (many.LoadBehind p) = tail_at p ∷ link_ahead ∷ []
outer_many d (many.PassTail p n) = tail_at p ∷ []
outer_many d many.LoadChained = chain_ahead ∷ []
outer_many d _ = head_node d.notice.old_head ∷ []

abbrev pub outer_guard : Guarding → List Expected
outer_guard (guard.Enqueue x p) = tail_at p ∷ []
outer_guard (guard.Dequeue p) = head_node p ∷ []
outer_guard (guard.Many d) = head_node d.notice.old_head ∷ []
outer_guard (guard.ManyTail d p) = tail_at p ∷ link_ahead ∷ []
outer_guard (guard.Help h) = helped h ∷ []
outer_guard (guard.HelpTail h p) = helped h ∷ []

abbrev pub outer : Point → List Expected
outer (point.Take t p) = outer_take t
outer (point.Guard t p) = outer_guard t
outer (point.Enqueue x p) = outer_enqueue p
outer (point.Dequeue p) = outer_dequeue p
outer (point.Fill n p) = outer_fill n p
outer (point.Batch d p) = outer_batch d p
outer (point.Many d p) = outer_many d p
outer (point.Help h p) = helped h ∷ []
outer _ = []

-- With the rank that was kept as the help last began to load TAIL.
abbrev pub inner_help : Help → HelpPoint → List Expected
inner_help h (help.LoadOldTail p) = tail_at p ∷ []
inner_help h (help.LoadLink p) = helped h ∷ tail_at p ∷ not_recorded h.ann ∷ []
inner_help h (help.LinkChain p) = nil_behind p ∷ []
inner_help h (help.Decide p) = not_recorded h.ann ∷ []
inner_help h (help.PassTail p n) = tail_at p ∷ []
inner_help h (help.RecordTail p) = not_recorded h.ann ∷ []
inner_help h (help.MoveTailOver q) = tail_at q ∷ []
inner_help h _ = []

abbrev pub inner_guard : Guarding → List Expected
inner_guard (guard.HelpTail h p) = tail_at p ∷ []
inner_guard _ = []

abbrev pub inner : Point → List Expected
inner (point.Guard t p) = inner_guard t
inner (point.Help h p) = inner_help h p
inner _ = []

-- a caller at this point kept these two ranks
pub record Keeps (s : State) (t : Point) (o i : ℕ) : Type 0 where
  pub outer_there : AllThere s o (outer t)
  pub inner_there : AllThere s i (inner t)
  pub outer_past : o ≤ rank s
  pub inner_past : i ≤ rank s

-- which of the two was kept with the word that the step at this point expects
abbrev pub kept_in_help : HelpPoint → ℕ → ℕ → ℕ
kept_in_help (help.LinkChain p) o i = i
kept_in_help (help.Decide p) o i = i
kept_in_help (help.PassTail p n) o i = i
kept_in_help (help.RecordTail p) o i = i
kept_in_help (help.MoveTailOver q) o i = i
kept_in_help _ o i = o

abbrev pub kept_in_guard : Guarding → ℕ → ℕ → ℕ
kept_in_guard (guard.HelpTail h p) o i = i
kept_in_guard _ o i = o

abbrev pub kept_with : Point → ℕ → ℕ → ℕ
kept_with (point.Help h p) o i = kept_in_help p o i
kept_with (point.Guard t p) o i = kept_in_guard t o i
kept_with _ o i = o
