-- At each point the step of a caller leads on with what it knows of its search.
use Rattle.std.proofs.Common.{◌≡◌, ℕ, zero, suc, ◌-◌, List, [], length, Bool, true, false, cond, Option, Some, None, refl, ap, arith}
use Rattle.std.specs.Prelude.{◌==◌, nat_le}
use Rattle.bq_model.specs.declared.group.Group.{Group}
use Rattle.bq_model.specs.declared.shape.Shape.{Shape}
use Rattle.excess_count.specs.Excess.{enqueue_count}
use Rattle.excess_count.proofs.ExcessLaws.{enqueue_count-enq}
use Rattle.word_rows.specs.declared.content.Content.{Content}
use Rattle.word_rows.specs.declared.head_word.HeadWord.{HeadWord}
use Rattle.word_rows.specs.declared.head_word.HeadWord.TheVariants.{Node, Ann}
use Rattle.word_rows.specs.declared.link_word.LinkWord.{LinkWord}
use Rattle.word_rows.specs.declared.link_word.LinkWord.TheVariants.{Nil, Single, Chain, Shut}
use Rattle.word_rows.specs.declared.marks.Marks.{Marks}
use Rattle.word_rows.specs.declared.place.Place.{Place}
use Rattle.lane_steps.specs.declared.course.Course.{Course}
use Rattle.lane_steps.specs.declared.point.Point.{Point}
use Rattle.lane_steps.specs.declared.point.Point.TheVariants as point
use Rattle.lane_steps.specs.declared.point.AnswerPoint.TheVariants as answer
use Rattle.lane_steps.specs.declared.point.Back.{Back}
use Rattle.lane_steps.specs.declared.point.Back.TheVariants as back
use Rattle.lane_steps.specs.declared.point.BatchPoint.TheVariants as batch
use Rattle.lane_steps.specs.declared.point.Closing.{Closing}
use Rattle.lane_steps.specs.declared.point.ClosePoint.{ClosePoint}
use Rattle.lane_steps.specs.declared.point.ClosePoint.TheVariants as close
use Rattle.lane_steps.specs.declared.point.DequeuePoint.TheVariants as deq
use Rattle.lane_steps.specs.declared.point.Draft.{Draft}
use Rattle.lane_steps.specs.declared.point.EnqueuePoint.TheVariants as enq
use Rattle.lane_steps.specs.declared.point.FillPoint.TheVariants as fill
use Rattle.lane_steps.specs.declared.point.Guarding.{Guarding}
use Rattle.lane_steps.specs.declared.point.Guarding.TheVariants as guard
use Rattle.lane_steps.specs.declared.point.GuardPoint.TheVariants.{StoreHazard, LoadAgain}
use Rattle.lane_steps.specs.declared.point.Help.{Help}
use Rattle.lane_steps.specs.declared.point.HelpPoint.TheVariants as help
use Rattle.lane_steps.specs.declared.point.Hold.{Hold}
use Rattle.lane_steps.specs.declared.point.Item.{Item}
use Rattle.lane_steps.specs.declared.point.ManyPoint.TheVariants as many
use Rattle.lane_steps.specs.declared.point.Notice.{Notice}
use Rattle.lane_steps.specs.declared.point.Plan.{Plan}
use Rattle.lane_steps.specs.declared.point.Taking.{Taking}
use Rattle.lane_steps.specs.declared.point.Taking.TheVariants as taking_for
use Rattle.lane_steps.specs.declared.point.TakePoint.TheVariants as take
use Rattle.lane_steps.specs.Act.{is_node, same_content}
use Rattle.lane_steps.specs.Answer as answering
use Rattle.lane_steps.specs.Batch as batching
use Rattle.lane_steps.specs.Close as closing
use Rattle.lane_steps.specs.Dequeue as dequeuing
use Rattle.lane_steps.specs.Enqueue as enqueuing
use Rattle.lane_steps.specs.Guard as guarding
use Rattle.lane_steps.specs.Help as helping
use Rattle.lane_steps.specs.Many as walking
use Rattle.lane_steps.specs.Take as taking
use Rattle.lane_steps.specs.Take.{is_stopper}
use Rattle.lane_steps.specs.LaneSizes.{own_row, lane_sizes}
use Rattle.lane_steps.specs.State.{Caller, State, command, read}
use Rattle.lane_steps.specs.Step.{target, course, history_with}
use Rattle.core_model.specs.Facts.{Each}
use Rattle.core_model.specs.Lawful.{Lawful}
use Rattle.core_model.proofs.Filled.{has_enqueues}
use Rattle.core_model.proofs.Preserves.{known}
use Rattle.core_model.proofs.Rely.{world, third}
use Rattle.core_model.proofs.Steps.{no_operation}
use Rattle.lane_room.specs.Search.{IsAbove, Search, CauseAt}
use Rattle.lane_room.proofs.Causes.{OntoOf, Why, CauseFor}
use Rattle.lane_room.proofs.Searches.{search_on, search_fails, stopper_found, search_stays}
use Rattle.lane_room.proofs.StillFree.{wrote, marks_same}

-- most points say nothing of it
module _ (z : Shape) (mark : ℕ → Marks) (h : List Group) (c : ℕ) (k : Caller) where
  abbrev For : Course → Type 0
  For y = CauseFor z mark h c y k

  abbrev At : Point → Type 0
  At t = OntoOf z mark h c k t

  either : (b : Bool) (y x : Course) → For y → For x → For (cond b y x)
  either true y x p q = p
  either false y x p q = q

  one_of : (b : Bool) (t u : Point) → At t → At u → At (cond b t u)
  one_of true t u p q = p
  one_of false t u p q = q

  enqueue_head : (i : Item) (w : HeadWord) → At (enqueuing.after_head i w)
  enqueue_head i (Node p) = tt
  enqueue_head i (Ann a n) = tt

  dequeue_head : (w : HeadWord) → At (dequeuing.after_head w)
  dequeue_head (Node p) = tt
  dequeue_head (Ann a n) = tt

  dequeue_link : (p : Place) (l : LinkWord) → For (dequeuing.after_link p l)
  dequeue_link p Nil = tt
  dequeue_link p (Single r) = tt
  dequeue_link p (Chain r) = tt
  dequeue_link p Shut = tt

  batch_head : (d : Draft) (w : HeadWord) → At (batching.after_head d w)
  batch_head d (Node p) = tt
  batch_head d (Ann a n) = tt

  many_head : (d : Plan) (w : HeadWord) → At (walking.after_head d w)
  many_head d (Node p) = tt
  many_head d (Ann a n) = tt

  many_chained : (d : Plan) (w : HeadWord) → At (walking.after_chained d w)
  many_chained d (Node p) = tt
  many_chained d (Ann a n) = tt

  many_dummy : (d : Plan) (l : LinkWord) → For (walking.after_dummy d l)
  many_dummy d Nil = tt
  many_dummy d (Single r) = tt
  many_dummy d (Chain r) = tt
  many_dummy d Shut = tt

  announces : (n : Notice) (a : Option ℕ) → For (walking.announces n a)
  announces n None = tt
  announces n (Some a) = tt

  many_link : (d : Plan) (l : ℕ) (x : LinkWord) → For (walking.after_link d l x)
  many_link d l Nil = announces d.notice d.ann
  many_link d l (Single n) = tt
  many_link d l (Chain n) = tt
  many_link d l Shut = tt

  many_tail : (d : Plan) (r : ℕ) (p : Place) → At (walking.after_tail d r p)
  many_tail d r p = one_of (nat_le d.notice.counts.deqs (p.count - d.notice.old_head.count)) (point.Many d (many.MoveHead r)) (point.Guard (guard.ManyTail d p) StoreHazard) tt tt

  goes_back : (g : Help) (b : Back) → At (helping.back_point g b)
  goes_back g back.Own = tt
  goes_back g (back.Enqueue i) = tt
  goes_back g back.Dequeue = tt
  goes_back g (back.Batch d) = tt
  goes_back g (back.Many d) = tt

  help_walk : (g : Help) (n l : ℕ) (x : LinkWord) → At (helping.after_walk g n l x)
  help_walk g n l Nil = goes_back g g.back
  help_walk g n l (Single r) = tt
  help_walk g n l (Chain r) = tt
  help_walk g n l Shut = goes_back g g.back

  answer_tail : (g : Help) (o : Option Place) → For (answering.after_old_tail g o)
  answer_tail g None = tt
  answer_tail g (Some q) = tt

  takes : (t : Taking) (r : ℕ) → For (taking.after_take t r)
  takes (taking_for.Enqueue v) r = tt
  takes (taking_for.Batch n v) r = tt
  takes (taking_for.Stopper n) r = tt

  guard_held : (t : Guarding) (x : Hold) → For (guarding.rehold t (guarding.held t) x)
  guard_held (guard.Enqueue i p) x = tt
  guard_held (guard.Dequeue p) x = tt
  guard_held (guard.Many d) x = tt
  guard_held (guard.ManyTail d p) x = tt
  guard_held (guard.Help a) x = tt
  guard_held (guard.HelpTail a p) x = tt

  guard_named : (t : Guarding) (x : Hold) → For (guarding.rehold t (point.Guard t LoadAgain) x)
  guard_named (guard.Help a) x = tt
  guard_named _ x = tt

  guard_again : (t : Guarding) → At (guarding.again t)
  guard_again (guard.Enqueue i p) = tt
  guard_again (guard.Dequeue p) = tt
  guard_again (guard.Many d) = tt
  guard_again (guard.ManyTail d p) = tt
  guard_again (guard.Help a) = goes_back a a.back
  guard_again (guard.HelpTail a p) = tt

  closes_on : (a : Closing) (p : ClosePoint) (x : Content) → Why z mark h c k a → For (closing.course a p x)
  closes_on a (close.MarkRow q as_read as_passed stopped) x w = w
  closes_on a (close.MarkLoose r) x w = w
  closes_on a close.ClearNode x w = w
  closes_on a close.ClearAnn x w = w
  closes_on a (close.LoadHazard d) x w = w
  closes_on a (close.MarkFree r) x w = w

module _ (z : Shape) (s : State) (L : Lawful (lane_sizes z) s) (c : ℕ) where
  abbrev me : Caller
  me = s.callers c

  -- a search that finds none of the rows free
  fails : (t : Taking) (r : ℕ) → Each (lane_sizes z) (world s L.ghost) c (taking.command_knows (command (s.callers c)) t) → (s.memory.mark r).free ≡ false
      → Search z s.memory.mark s.history c (s.callers c).started_at (is_stopper t) (length (s.callers c).rows) r 0 → IsAbove z s.history c (s.callers c).ops (s.callers c).started_at
  fails (taking_for.Enqueue v) r g kept S = let one = ap enqueue_count g.0.0 in let more = enqueue_count-enq v [] in let none = ap length g.0.2 in
      (omega (arith, one, more), search_fails z c s.memory.mark s.history me.started_at (length me.rows) r (enqueue_count me.ops) kept (omega (arith, one, more, none)) S)
  fails (taking_for.Batch n v) r g kept S = let more = has_enqueues (lane_sizes z) c (command me) n (length me.rows) v g.0 (third g) in
      (omega (arith, more), search_fails z c s.memory.mark s.history me.started_at (length me.rows) r (enqueue_count me.ops) kept more S)
  fails (taking_for.Stopper n) r g kept S = absurd (stopper_found z c s.memory.mark s.history me.started_at (length me.rows) r kept (ap length ((third g).0 refl)) S)

  abbrev found : Point → Content
  found t = read s.memory (target c t)

  -- of what the step at this point leads to
  abbrev pub LeadsTo : Point → Course → Type 0
  LeadsTo t y = CauseFor z (wrote s c t).mark (history_with (lane_sizes z) s c t (read s.memory (target c t))) c y (s.callers c)

  looks_on : (t : Taking) (r l : ℕ) → (s.callers c).point ≡ point.Take t (take.LoadMark r l) → (b : Bool) → (s.memory.mark r).free ≡ b
      → Search z s.memory.mark s.history c (s.callers c).started_at (is_stopper t) (length (s.callers c).rows) r l → LeadsTo (point.Take t (take.LoadMark r l)) (taking.after_mark t r l b)
  looks_on t r l is true _ S = tt
  looks_on t r zero is false kept S = fails t r (known (lane_sizes z) s L c (point.Take t (take.LoadMark r zero)) is).call.1 kept S
  looks_on t r (suc l) is false kept S = search_stays z c s.memory.mark s.history me.started_at (length me.rows) (wrote s c (point.Take t (take.LoadMark r (suc l)))).mark (is_stopper t) (suc r) l
      (λ i _ e. marks_same s.memory.mark r (own_row (lane_sizes z) c (is_stopper t) i) e) (search_on z c s.memory.mark s.history me.started_at (length me.rows) (is_stopper t) r l kept S)

  -- what it knows at its point is so for what its step leads to
  pub leads : (t : Point) → (s.callers c).point ≡ t → CauseAt z s.memory.mark s.history c (s.callers c).ops (s.callers c).started_at (length (s.callers c).rows) t → LeadsTo t (course t (read s.memory (target c t)))
  leads point.Idle is w = no_operation (lane_sizes z) s L c is
  leads (point.Enqueue i enq.LoadHead) is w = enqueue_head z _ _ c me i s.memory.head
  leads (point.Enqueue i enq.StoreValue) is w = tt
  leads (point.Enqueue i _) is w = tt
  leads (point.Dequeue deq.LoadHead) is w = dequeue_head z _ _ c me s.memory.head
  leads (point.Dequeue (deq.LoadLink p)) is w = dequeue_link z _ _ c me p (s.memory.link p.row)
  leads (point.Dequeue (deq.MoveHead p n v)) is w = either z _ _ c me (is_node s.memory.head p) _ _ tt tt
  leads (point.Dequeue _) is w = tt
  leads (point.Fill n (fill.StoreValue r v)) is w = tt
  leads (point.Fill n (fill.StoreChain i r q)) is w = tt
  leads (point.Fill n (fill.LoadHazard e)) is w = tt
  leads (point.Batch d batch.LoadHead) is w = batch_head z _ _ c me d s.memory.head
  leads (point.Batch d batch.Install) is w = one_of z _ _ c me (is_node s.memory.head d.notice.old_head) _ _ tt (one_of z _ _ c me (d.notice.counts.enqs == 0) _ _ tt tt)
  leads (point.Batch d _) is w = tt
  leads (point.Many d many.LoadHead) is w = many_head z _ _ c me d s.memory.head
  leads (point.Many d many.LoadDummy) is w = many_dummy z _ _ c me d (s.memory.link d.notice.old_head.row)
  leads (point.Many d (many.LoadLink r l)) is w = many_link z _ _ c me d l (s.memory.link r)
  leads (point.Many d (many.LoadTail r)) is w = many_tail z _ _ c me d r s.memory.tail
  leads (point.Many d (many.MoveHead r)) is w = either z _ _ c me (is_node s.memory.head d.notice.old_head) _ _ tt tt
  leads (point.Many d many.LoadChained) is w = many_chained z _ _ c me d s.memory.head
  leads (point.Many d _) is w = tt
  leads (point.Help g (help.LoadWalk m r l)) is w = help_walk z _ _ c me g m l (s.memory.link r)
  leads (point.Help g (help.MoveHead m r)) is w = goes_back z _ _ c me g g.back
  leads (point.Help g _) is w = tt
  leads (point.Answer (answer.LoadOldTail g)) is w = answer_tail z _ _ c me g (s.memory.old_tail g.ann)
  leads (point.Answer _) is w = tt
  leads (point.Take t (take.LoadMark r l)) is w = looks_on t r l is (s.memory.mark r).free refl w
  leads (point.Take t (take.ClearMark r)) is w = tt
  leads (point.Take t (take.ClearLink r)) is w = takes z _ _ c me t r
  leads (point.Guard t StoreHazard) is w = guard_named z _ _ c me t _
  leads (point.Guard t LoadAgain) is w = either z _ _ c me (same_content (read s.memory (guarding.source t)) (guarding.expected t)) _ _ (guard_held z _ _ c me t _) (guard_again z _ _ c me t)
  leads (point.Close a p) is w = closes_on z _ _ c me a p (read s.memory (target c (point.Close a p))) w
