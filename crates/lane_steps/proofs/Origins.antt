-- At which point a course comes up: most courses are those of one kind of point alone.
use Rattle.std.proofs.Common.{◌≡◌, ℕ, zero, suc, Bool, true, false, cond, Option, Some, None, refl}
use Rattle.word_rows.specs.declared.content.Content.{Content}
use Rattle.word_rows.specs.declared.link_word.LinkWord.{LinkWord}
use Rattle.word_rows.specs.declared.link_word.LinkWord.TheVariants.{Nil, Single, Chain, Shut}
use Rattle.word_rows.specs.declared.place.Place.{Place}
use Rattle.word_rows.specs.declared.location.Location.TheVariants.{NodeHazard}
use Rattle.lane_steps.specs.declared.course.Course.{Course}
use Rattle.lane_steps.specs.declared.course.Course.TheVariants.{GoesOn, Guards, Holds, ClearsNode, ClearsAnn, Passes, Fills, Chains, Stops, Hears, Reads, ReadsMore, WalksMore, Moves, Marks, Retires, Finds, Frees}
use Rattle.lane_steps.specs.declared.point.Guarding.{Guarding}
use Rattle.lane_steps.specs.declared.point.Guarding.TheVariants as guard
use Rattle.lane_steps.specs.declared.point.GuardPoint.{GuardPoint}
use Rattle.lane_steps.specs.declared.point.GuardPoint.TheVariants.{StoreHazard, LoadAgain}
use Rattle.lane_steps.specs.declared.point.Help.{Help}
use Rattle.lane_steps.specs.declared.point.Hold.{Hold}
use Rattle.lane_steps.specs.declared.point.Notice.{Notice}
use Rattle.lane_steps.specs.declared.point.Plan.{Plan}
use Rattle.lane_steps.specs.declared.point.Point.{Point}
use Rattle.lane_steps.specs.declared.point.Point.TheVariants as point
use Rattle.lane_steps.specs.declared.point.AnswerPoint.TheVariants as answer
use Rattle.lane_steps.specs.declared.point.BatchPoint.TheVariants as batch
use Rattle.lane_steps.specs.declared.point.ClosePoint.TheVariants as close
use Rattle.lane_steps.specs.declared.point.DequeuePoint.TheVariants as dequeue
use Rattle.lane_steps.specs.declared.point.EnqueuePoint.TheVariants as enqueue
use Rattle.lane_steps.specs.declared.point.FillPoint.TheVariants as fill
use Rattle.lane_steps.specs.declared.point.HelpPoint.TheVariants as help
use Rattle.lane_steps.specs.declared.point.ManyPoint.TheVariants as many
use Rattle.lane_steps.specs.declared.point.TakePoint.TheVariants as take
use Rattle.lane_steps.specs.declared.point.Taking.{Taking}
use Rattle.lane_steps.specs.declared.point.Taking.TheVariants as taking
use Rattle.lane_steps.specs.Act.{same_content, is_node}
use Rattle.lane_steps.specs.State.{head_in, link_in, old_tail_in, mark_in}
use Rattle.lane_steps.specs.Answer as answering
use Rattle.lane_steps.specs.Dequeue as dequeuing
use Rattle.lane_steps.specs.Guard as guarding
use Rattle.lane_steps.specs.Many as walking
use Rattle.lane_steps.specs.Take as taking_of
use Rattle.lane_steps.specs.Step.{course}

-- the point that such a course has come from
abbrev pub From : Course → Point → Type 0
From (Passes a p r) t = (v : ℕ) × (t ≡ point.Dequeue (dequeue.MoveHead p r v))
From (Fills n r) t = (v : ℕ) × (t ≡ point.Fill n (fill.StoreValue r v))
From (Chains n i) t = (r : ℕ) × (q : ℕ) × (t ≡ point.Fill n (fill.StoreChain i r q))
From (Stops n r) t = t ≡ point.Take (taking.Stopper n) (take.ClearLink r)
From (Hears n e x) t = t ≡ point.Fill n (fill.LoadHazard e)
From (Reads b r l linked) t = (h : Help) × (t ≡ point.Answer (answer.LoadOldTail h))
From (ReadsMore b r l v) t = t ≡ point.Answer (answer.LoadValue b r l)
From (WalksMore u r v) t = (d : Plan) × (l : ℕ) × (t ≡ point.Many d (many.LoadValue r l))
From (Moves p m) t = (d : Plan) × (r : ℕ) × (t ≡ point.Many d (many.MoveHead r))
From (Marks a q both stopped) t = (read : Bool) × (passed : Bool) × (t ≡ point.Close a (close.MarkRow q read passed stopped))
From (Retires a r) t = t ≡ point.Close a (close.MarkLoose r)
From (Finds a d x) t = t ≡ point.Close a (close.LoadHazard d)
From (Frees a) t = (r : ℕ) × (t ≡ point.Close a (close.MarkFree r))
From (Guards u h) t = (x : Help) × (p : GuardPoint) × (t ≡ point.Guard (guard.Help x) p)
From (Holds u h) t = (g : Guarding) × (p : GuardPoint) × (t ≡ point.Guard g p) × ((c : ℕ) → guarding.hazard c g ≡ NodeHazard c)
From (ClearsNode a) t = t ≡ point.Close a close.ClearNode
From (ClearsAnn a) t = t ≡ point.Close a close.ClearAnn
From _ t = Unit {0}

module _ (t : Point) where
  either : (b : Bool) (y z : Course) → From y t → From z t → From (cond b y z) t
  either true y z f g = f
  either false y z f g = g

  mark : (k : Taking) (r l : ℕ) (b : Bool) → From (taking_of.after_mark k r l b) t
  mark k r l true = tt
  mark k r zero false = tt
  mark k r (suc l) false = tt

  announced : (n : Notice) (a : Option ℕ) → From (walking.announces n a) t
  announced n None = tt
  announced n (Some a) = tt

  dummy : (d : Plan) (x : LinkWord) → From (walking.after_dummy d x) t
  dummy d Nil = tt
  dummy d (Single r) = tt
  dummy d (Chain r) = tt
  dummy d Shut = tt

  walked : (d : Plan) (l : ℕ) (x : LinkWord) → From (walking.after_link d l x) t
  walked d l Nil = announced d.notice d.ann
  walked d l (Single r) = tt
  walked d l (Chain r) = tt
  walked d l Shut = tt

  linked : (p : Place) (x : LinkWord) → From (dequeuing.after_link p x) t
  linked p Nil = tt
  linked p (Single r) = tt
  linked p (Chain r) = tt
  linked p Shut = tt

rehold : (g : Guarding) (p : GuardPoint) (u : Point) (h : Hold) → From (guarding.rehold g u h) (point.Guard g p)
rehold (guard.Enqueue x q) p u h = (guard.Enqueue x q, p, refl, λ _. refl)
rehold (guard.Dequeue q) p u h = (guard.Dequeue q, p, refl, λ _. refl)
rehold (guard.Many d) p u h = (guard.Many d, p, refl, λ _. refl)
rehold (guard.ManyTail d q) p u h = (guard.ManyTail d q, p, refl, λ _. refl)
rehold (guard.Help x) p u h = (x, p, refl)
rehold (guard.HelpTail x q) p u h = (guard.HelpTail x q, p, refl, λ _. refl)

old_tail : (h : Help) (x : Option Place) → From (answering.after_old_tail h x) (point.Answer (answer.LoadOldTail h))
old_tail h None = tt
old_tail h (Some q) = (h, refl)

taken : (k : Taking) (r : ℕ) → From (taking_of.after_take k r) (point.Take k (take.ClearLink r))
taken (taking.Enqueue v) r = tt
taken (taking.Batch n v) r = tt
taken (taking.Stopper n) r = refl

pub comes_from : (t : Point) (x : Content) → From (course t x) t
comes_from point.Idle x = tt
comes_from (point.Enqueue i enqueue.StoreValue) x = tt
comes_from (point.Enqueue i enqueue.LoadTail) x = tt
comes_from (point.Enqueue i (enqueue.LoadLink p)) x = tt
comes_from (point.Enqueue i (enqueue.LinkSingle p)) x = tt
comes_from (point.Enqueue i (enqueue.PassTail p n)) x = tt
comes_from (point.Enqueue i (enqueue.MoveTail p n)) x = tt
comes_from (point.Enqueue i enqueue.LoadHead) x = tt
comes_from (point.Dequeue dequeue.LoadHead) x = tt
comes_from (point.Dequeue (dequeue.LoadLink p)) x = linked (point.Dequeue (dequeue.LoadLink p)) p (link_in x)
comes_from (point.Dequeue (dequeue.LoadTail p n)) x = tt
comes_from (point.Dequeue (dequeue.LoadTailOver p n)) x = tt
comes_from (point.Dequeue (dequeue.PassTail p n)) x = tt
comes_from (point.Dequeue (dequeue.LoadValue p n)) x = tt
comes_from (point.Dequeue (dequeue.MoveHead p n v)) x = either (point.Dequeue (dequeue.MoveHead p n v)) (is_node (head_in x) p) _ (GoesOn (point.Dequeue dequeue.LoadHead)) (v, refl) tt
comes_from (point.Fill n (fill.StoreValue r v)) x = (v, refl)
comes_from (point.Fill n (fill.StoreChain i r q)) x = (r, q, refl)
comes_from (point.Fill n (fill.LoadHazard e)) x = refl
comes_from (point.Batch d (batch.StoreField f)) x = tt
comes_from (point.Batch d (batch.StoreAll f)) x = tt
comes_from (point.Batch d batch.LoadHead) x = tt
comes_from (point.Batch d batch.Install) x = tt
comes_from (point.Many d many.LoadHead) x = tt
comes_from (point.Many d many.LoadDummy) x = dummy (point.Many d many.LoadDummy) d (link_in x)
comes_from (point.Many d (many.LoadLink r l)) x = walked (point.Many d (many.LoadLink r l)) d l (link_in x)
comes_from (point.Many d (many.LoadValue r l)) x = (d, l, refl)
comes_from (point.Many d (many.LoadTail r)) x = tt
comes_from (point.Many d (many.MoveHead r)) x = either (point.Many d (many.MoveHead r)) (is_node (head_in x) d.notice.old_head) (Moves d.notice.old_head d.notice.counts.deqs) (GoesOn (point.Many d many.LoadHead)) (d, r, refl) tt
comes_from (point.Many d (many.LoadBehind p)) x = tt
comes_from (point.Many d (many.PassTail p n)) x = tt
comes_from (point.Many d many.LoadChained) x = tt
comes_from (point.Help h help.LoadOldHead) x = tt
comes_from (point.Help h help.LoadFirst) x = tt
comes_from (point.Help h help.LoadLast) x = tt
comes_from (point.Help h help.LoadCounts) x = tt
comes_from (point.Help h help.LoadTail) x = tt
comes_from (point.Help h (help.LoadOldTail p)) x = tt
comes_from (point.Help h (help.LoadLink p)) x = tt
comes_from (point.Help h (help.LinkChain p)) x = tt
comes_from (point.Help h (help.Decide p)) x = tt
comes_from (point.Help h (help.PassTail p n)) x = tt
comes_from (point.Help h (help.RecordTail p)) x = tt
comes_from (point.Help h (help.LoadTailOver p)) x = tt
comes_from (point.Help h (help.MoveTailOver p)) x = tt
comes_from (point.Help h (help.LoadWalk m r l)) x = tt
comes_from (point.Help h (help.MoveHead m r)) x = tt
comes_from (point.Answer (answer.LoadOldTail h)) x = old_tail h (old_tail_in x)
comes_from (point.Answer (answer.LoadLink b r l)) x = tt
comes_from (point.Answer (answer.LoadValue b r l)) x = refl
comes_from (point.Take k (take.LoadMark r l)) x = mark (point.Take k (take.LoadMark r l)) k r l (mark_in x).free
comes_from (point.Take k (take.ClearMark r)) x = tt
comes_from (point.Take k (take.ClearLink r)) x = taken k r
comes_from (point.Guard g StoreHazard) x = rehold g StoreHazard _ _
comes_from (point.Guard g LoadAgain) x = either (point.Guard g LoadAgain) (same_content x (guarding.expected g)) (guarding.rehold g (guarding.held g) _) (GoesOn (guarding.again g)) (rehold g LoadAgain _ _) tt
comes_from (point.Close a (close.MarkRow q read passed stopped)) x = (read, passed, refl)
comes_from (point.Close a (close.MarkLoose r)) x = refl
comes_from (point.Close a close.ClearNode) x = refl
comes_from (point.Close a close.ClearAnn) x = refl
comes_from (point.Close a (close.LoadHazard d)) x = refl
comes_from (point.Close a (close.MarkFree r)) x = (r, refl)
