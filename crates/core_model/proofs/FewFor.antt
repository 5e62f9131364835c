-- A point leads on with so few rows in the caller's lists as its step asks for.
use Rattle.std.proofs.Common.{◌≡◌, ◌==◌, nat_le, ◌-◌, ℕ, suc, ◌++◌, [], ◌∷◌, Bool, true, false, cond, Option, Some, None, ap, arith, zero, length-append}
use Rattle.bq_model.specs.declared.shape.Shape.{Shape}
use Rattle.word_rows.specs.declared.content.Content.{Content}
use Rattle.word_rows.specs.declared.head_word.HeadWord.{HeadWord}
use Rattle.word_rows.specs.declared.head_word.HeadWord.TheVariants.{Node, Ann}
use Rattle.word_rows.specs.declared.link_word.LinkWord.{LinkWord}
use Rattle.word_rows.specs.declared.link_word.LinkWord.TheVariants.{Nil, Single, Chain, Shut}
use Rattle.word_rows.specs.declared.place.Place.{Place}
use Rattle.word_rows.specs.Layout.{IsValid}
use Rattle.lane_steps.specs.declared.course.Course.{Course}
use Rattle.lane_steps.specs.declared.point.Point.{Point}
use Rattle.lane_steps.specs.declared.point.Point.TheVariants as point
use Rattle.lane_steps.specs.declared.point.EnqueuePoint.TheVariants as enqueue
use Rattle.lane_steps.specs.declared.point.DequeuePoint.TheVariants as dequeue
use Rattle.lane_steps.specs.declared.point.FillPoint.TheVariants as fill
use Rattle.lane_steps.specs.declared.point.BatchPoint.TheVariants as batch
use Rattle.lane_steps.specs.declared.point.ManyPoint.TheVariants as many
use Rattle.lane_steps.specs.declared.point.HelpPoint.TheVariants as help
use Rattle.lane_steps.specs.declared.point.AnswerPoint.TheVariants as answer
use Rattle.lane_steps.specs.declared.point.TakePoint.TheVariants as take
use Rattle.lane_steps.specs.declared.point.GuardPoint.TheVariants as guard_at
use Rattle.lane_steps.specs.declared.point.ClosePoint.TheVariants as close
use Rattle.lane_steps.specs.declared.point.Back.{Back}
use Rattle.lane_steps.specs.declared.point.Back.TheVariants as back
use Rattle.lane_steps.specs.declared.point.Closing.{Closing}
use Rattle.lane_steps.specs.declared.point.Draft.{Draft}
use Rattle.lane_steps.specs.declared.point.Guarding.{Guarding}
use Rattle.lane_steps.specs.declared.point.Guarding.TheVariants as guard
use Rattle.lane_steps.specs.declared.point.Help.{Help}
use Rattle.lane_steps.specs.declared.point.Hold.{Hold}
use Rattle.lane_steps.specs.declared.point.Item.{Item}
use Rattle.lane_steps.specs.declared.point.Notice.{Notice}
use Rattle.lane_steps.specs.declared.point.Plan.{Plan}
use Rattle.lane_steps.specs.declared.point.Taking.{Taking}
use Rattle.lane_steps.specs.declared.point.Taking.TheVariants as taking_for
use Rattle.lane_steps.specs.Act.{is_node, same_content}
use Rattle.lane_steps.specs.State.{Caller, head_in, link_in, old_tail_in, tail_in, mark_in, hazard_in}
use Rattle.lane_steps.specs.Step.{course, target}
use Rattle.lane_steps.specs.Answer as answering
use Rattle.lane_steps.specs.Batch as batching
use Rattle.lane_steps.specs.Dequeue as dequeuing
use Rattle.lane_steps.specs.Enqueue as enqueuing
use Rattle.lane_steps.specs.Guard as guarding
use Rattle.lane_steps.specs.Help as helping
use Rattle.lane_steps.specs.Many as walking
use Rattle.lane_steps.specs.Take as taking
use Rattle.core_model.specs.Few.{ListsFit, Early, Few, IsEarly, ReadsOn, FewFor}

module _ (s : Shape) (c : ℕ) (k : Caller) where
  abbrev For : Course → Type 0
  For y = FewFor s c y k

  either : (b : Bool) (y z : Course) → For y → For z → For (cond b y z)
  either true y z p q = p
  either false y z p q = q

  -- at a point before the end of the call
  abbrev At : Point → Type 0
  At t = Few s c t k.ops k.rows k.walked k.retired k.named

  one_of : (b : Bool) (t u : Point) → At t → At u → At (cond b t u)
  one_of true t u p q = p
  one_of false t u p q = q

  module _ (f : IsEarly s c k) where
    enqueue_head : (i : Item) (w : HeadWord) → At (enqueuing.after_head i w)
    enqueue_head i (Node p) = f
    enqueue_head i (Ann a n) = f

    dequeue_head : (w : HeadWord) → At (dequeuing.after_head w)
    dequeue_head (Node p) = f
    dequeue_head (Ann a n) = f

    dequeue_link : (p : Place) (l : LinkWord) → For (dequeuing.after_link p l)
    dequeue_link p Nil = f
    dequeue_link p (Single r) = f
    dequeue_link p (Chain r) = f
    dequeue_link p Shut = f

    batch_head : (d : Draft) (w : HeadWord) → At (batching.after_head d w)
    batch_head d (Node p) = f
    batch_head d (Ann a n) = f

    many_head : (d : Plan) (w : HeadWord) → At (walking.after_head d w)
    many_head d (Node p) = f
    many_head d (Ann a n) = f

    many_chained : (d : Plan) (w : HeadWord) → At (walking.after_chained d w)
    many_chained d (Node p) = f
    many_chained d (Ann a n) = f

    -- nothing is walked any more
    none_walked : Early s k.ops k.rows [] k.retired
    none_walked = record { few_rows = f.few_rows; few_walked = (let most = f.few_walked in omega (arith, most)); few_retired = f.few_retired }

    many_dummy : (d : Plan) (l : LinkWord) → For (walking.after_dummy d l)
    many_dummy d Nil = f
    many_dummy d (Single r) = none_walked
    many_dummy d (Chain r) = none_walked
    many_dummy d Shut = f

    announces : (n : Notice) (a : Option ℕ) → For (walking.announces n a)
    announces n None = f
    announces n (Some a) = f

    many_link : (d : Plan) (l : ℕ) (x : LinkWord) → For (walking.after_link d l x)
    many_link d l Nil = announces d.notice d.ann
    many_link d l (Single n) = f
    many_link d l (Chain n) = f
    many_link d l Shut = f

    many_tail : (d : Plan) (r : ℕ) (p : Place) → At (walking.after_tail d r p)
    many_tail d r p = one_of (nat_le d.notice.counts.deqs (p.count - d.notice.old_head.count)) (point.Many d (many.MoveHead r)) (point.Guard (guard.ManyTail d p) guard_at.StoreHazard) f f

    goes_back : (h : Help) (b : Back) → At (helping.back_point h b)
    goes_back h back.Own = f
    goes_back h (back.Enqueue i) = f
    goes_back h back.Dequeue = f
    goes_back h (back.Batch d) = f
    goes_back h (back.Many d) = f

    help_walk : (h : Help) (n l : ℕ) (x : LinkWord) → At (helping.after_walk h n l x)
    help_walk h n l Nil = goes_back h h.back
    help_walk h n l (Single r) = f
    help_walk h n l (Chain r) = f
    help_walk h n l Shut = goes_back h h.back

    answer_tail : (h : Help) (o : Option Place) → For (answering.after_old_tail h o)
    answer_tail h None = f
    answer_tail h (Some q) = f

    take_mark : (t : Taking) (r l : ℕ) (free : Bool) → For (taking.after_mark t r l free)
    take_mark t r l true = f
    take_mark t r zero false = f
    take_mark t r (suc l) false = f

    takes : (t : Taking) (r : ℕ) → For (taking.after_take t r)
    takes (taking_for.Enqueue v) r = f
    takes (taking_for.Batch n v) r = f
    takes (taking_for.Stopper n) r = f

    guard_held : (t : Guarding) (h : Hold) → For (guarding.rehold t (guarding.held t) h)
    guard_held (guard.Enqueue i p) h = f
    guard_held (guard.Dequeue p) h = f
    guard_held (guard.Many d) h = f
    guard_held (guard.ManyTail d p) h = f
    guard_held (guard.Help a) h = f
    guard_held (guard.HelpTail a p) h = f

    guard_named : (t : Guarding) (h : Hold) → For (guarding.rehold t (point.Guard t guard_at.LoadAgain) h)
    guard_named (guard.Help a) h = f
    guard_named _ h = f

    guard_again : (t : Guarding) → At (guarding.again t)
    guard_again (guard.Enqueue i p) = f
    guard_again (guard.Dequeue p) = f
    guard_again (guard.Many d) = f
    guard_again (guard.ManyTail d p) = f
    guard_again (guard.Help a) = goes_back a a.back
    guard_again (guard.HelpTail a p) = f

  -- one row more is walked
  pub more_walked : (r : ℕ) → IsEarly s c k → ReadsOn k → Early s k.ops k.rows (k.walked ++ r ∷ []) k.retired
  more_walked r f on = record { few_rows = f.few_rows; few_walked = (let n = length-append k.walked (r ∷ []) in let left = on.left in let same = on.paired in omega (arith, n, left, same)); few_retired = f.few_retired }

module _ (s : Shape) (c : ℕ) (k : Caller) (l : ListsFit s.callers k) (x : Content) where
  -- what is so of the lists at the point is so for what the step leads to
  pub leads : (t : Point) → k.point ≡ t → Few s c t k.ops k.rows k.walked k.retired k.named → IsValid s (target c t) → ((a : Closing) → t ≡ point.Close a (close.LoadHazard c) → hazard_in x ≡ None)
      → FewFor s c (course t x) k
  leads point.Idle is f word own = f
  leads (point.Enqueue i enqueue.StoreValue) is f word own = f
  leads (point.Enqueue i enqueue.LoadTail) is f word own = f
  leads (point.Enqueue i (enqueue.LoadLink p)) is f word own = f
  leads (point.Enqueue i (enqueue.LinkSingle p)) is f word own = f
  leads (point.Enqueue i (enqueue.PassTail p n)) is f word own = f
  leads (point.Enqueue i (enqueue.MoveTail p n)) is f word own = f
  leads (point.Enqueue i enqueue.LoadHead) is f word own = enqueue_head s c k f i (head_in x)
  leads (point.Dequeue dequeue.LoadHead) is f word own = dequeue_head s c k f (head_in x)
  leads (point.Dequeue (dequeue.LoadLink p)) is f word own = dequeue_link s c k f p (link_in x)
  leads (point.Dequeue (dequeue.LoadTail p n)) is f word own = f
  leads (point.Dequeue (dequeue.LoadTailOver p n)) is f word own = f
  leads (point.Dequeue (dequeue.PassTail p n)) is f word own = f
  leads (point.Dequeue (dequeue.LoadValue p n)) is f word own = f
  leads (point.Dequeue (dequeue.MoveHead p n v)) is f word own = either s c k (is_node (head_in x) p) _ _ f f
  leads (point.Fill n (fill.StoreValue r v)) is f word own = (f, l.fills n r v is)
  leads (point.Fill n (fill.StoreChain i r q)) is f word own = (f, l.chains n i r q is)
  leads (point.Fill n (fill.LoadHazard e)) is f word own = let h = l.hears n e is in (f, h.0, h.1)
  leads (point.Batch d (batch.StoreField a)) is f word own = f
  leads (point.Batch d (batch.StoreAll a)) is f word own = f
  leads (point.Batch d batch.LoadHead) is f word own = batch_head s c k f d (head_in x)
  leads (point.Batch d batch.Install) is f word own = one_of s c k (is_node (head_in x) d.notice.old_head) _ _ f (one_of s c k (d.notice.counts.enqs == 0) _ _ f f)
  leads (point.Many d many.LoadHead) is f word own = many_head s c k f d (head_in x)
  leads (point.Many d many.LoadDummy) is f word own = many_dummy s c k f d (link_in x)
  leads (point.Many d (many.LoadLink r i)) is f word own = many_link s c k f d i (link_in x)
  leads (point.Many d (many.LoadValue r i)) is f word own = let on = l.walks d r i is in (more_walked s c k r f on, on)
  leads (point.Many d (many.LoadTail r)) is f word own = many_tail s c k f d r (tail_in x)
  leads (point.Many d (many.MoveHead r)) is f word own = either s c k (is_node (head_in x) d.notice.old_head) _ _ f f
  leads (point.Many d (many.LoadBehind p)) is f word own = f
  leads (point.Many d (many.PassTail p n)) is f word own = f
  leads (point.Many d many.LoadChained) is f word own = many_chained s c k f d (head_in x)
  leads (point.Help h help.LoadOldHead) is f word own = f
  leads (point.Help h (help.LoadWalk m r i)) is f word own = help_walk s c k f h m i (link_in x)
  leads (point.Help h (help.MoveHead m r)) is f word own = goes_back s c k f h h.back
  leads (point.Help h help.LoadFirst) is f word own = f
  leads (point.Help h help.LoadLast) is f word own = f
  leads (point.Help h help.LoadCounts) is f word own = f
  leads (point.Help h help.LoadTail) is f word own = f
  leads (point.Help h (help.LoadOldTail p)) is f word own = f
  leads (point.Help h (help.LoadLink p)) is f word own = f
  leads (point.Help h (help.LinkChain p)) is f word own = f
  leads (point.Help h (help.Decide p)) is f word own = f
  leads (point.Help h (help.PassTail p n)) is f word own = f
  leads (point.Help h (help.RecordTail p)) is f word own = f
  leads (point.Help h (help.LoadTailOver p)) is f word own = f
  leads (point.Help h (help.MoveTailOver p)) is f word own = f
  leads (point.Answer (answer.LoadOldTail h)) is f word own = answer_tail s c k f h (old_tail_in x)
  leads (point.Answer (answer.LoadLink b r i)) is f word own = f
  leads (point.Answer (answer.LoadValue b r i)) is f word own = (f, l.reads b r i is)
  leads (point.Take t (take.LoadMark r i)) is f word own = take_mark s c k f t r i (mark_in x).free
  leads (point.Take t (take.ClearMark r)) is f word own = f
  leads (point.Take t (take.ClearLink r)) is f word own = takes s c k f t r
  leads (point.Guard t guard_at.StoreHazard) is f word own = guard_named s c k f t _
  leads (point.Guard t guard_at.LoadAgain) is f word own = either s c k (same_content x (guarding.expected t)) _ _ (guard_held s c k f t _) (guard_again s c k f t)
  leads (point.Close a (close.MarkRow q read passed stopped)) is f word own = (f, l.marks a q read passed stopped is)
  leads (point.Close a (close.MarkLoose r)) is f word own = f
  leads (point.Close a close.ClearNode) is f word own = tt
  leads (point.Close a close.ClearAnn) is f word own = tt
  leads (point.Close a (close.LoadHazard d)) is f word own = (f.0, f.1, word, λ same. own a (ap (λ (e : ℕ). point.Close a (close.LoadHazard e)) same))
  leads (point.Close a (close.MarkFree r)) is f word own = f
