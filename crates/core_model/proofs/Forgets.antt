-- The stage of an announcement is forgotten. A caller that neither owns nor holds it goes on knowing what it knew.
use Rattle.std.proofs.Common.{◌≡◌, ◌≢◌, ◌⊎◌, inl, inr, ℕ, Bool, List, [], ◌∷◌, sym, refl, ap, ◌∙◌, Some, ◌+◌}
use Rattle.bq_model.specs.declared.group.Group.{Group}
use Rattle.word_rows.specs.declared.location.AnnField.{AnnField}
use Rattle.word_rows.specs.declared.location.AnnField.TheVariants as field
use Rattle.word_rows.specs.declared.place.Place.{Place}
use Rattle.lane_steps.specs.declared.point.Draft.{Draft}
use Rattle.lane_steps.specs.declared.point.Plan.{Plan}
use Rattle.lane_steps.specs.declared.point.Help.{Help}
use Rattle.lane_steps.specs.declared.point.Back.{Back}
use Rattle.lane_steps.specs.declared.point.Back.TheVariants as back
use Rattle.lane_steps.specs.declared.point.HelpPoint.{HelpPoint}
use Rattle.lane_steps.specs.declared.point.HelpPoint.TheVariants as help
use Rattle.lane_steps.specs.declared.point.EnqueuePoint.{EnqueuePoint}
use Rattle.lane_steps.specs.declared.point.EnqueuePoint.TheVariants as enq
use Rattle.lane_steps.specs.declared.point.DequeuePoint.{DequeuePoint}
use Rattle.lane_steps.specs.declared.point.DequeuePoint.TheVariants as deq
use Rattle.lane_steps.specs.declared.point.FillPoint.TheVariants as fill
use Rattle.lane_steps.specs.declared.point.BatchPoint.TheVariants as batch
use Rattle.lane_steps.specs.declared.point.ManyPoint.{ManyPoint}
use Rattle.lane_steps.specs.declared.point.ManyPoint.TheVariants as many
use Rattle.lane_steps.specs.declared.point.AnswerPoint.TheVariants as answer
use Rattle.lane_steps.specs.declared.point.Taking.{Taking}
use Rattle.lane_steps.specs.declared.point.Taking.TheVariants as taking_for
use Rattle.lane_steps.specs.declared.point.TakePoint.TheVariants as take
use Rattle.lane_steps.specs.declared.point.Guarding.{Guarding}
use Rattle.lane_steps.specs.declared.point.Guarding.TheVariants as guard
use Rattle.lane_steps.specs.declared.point.GuardPoint.TheVariants.{StoreHazard, LoadAgain}
use Rattle.lane_steps.specs.declared.point.Closing.{Closing}
use Rattle.lane_steps.specs.declared.point.Closing.TheVariants.{Plain, Batch, Full}
use Rattle.lane_steps.specs.declared.point.ClosePoint.{ClosePoint}
use Rattle.lane_steps.specs.declared.point.ClosePoint.TheVariants as close
use Rattle.lane_steps.specs.declared.point.Point.{Point}
use Rattle.lane_steps.specs.declared.point.Point.TheVariants.{Idle}
use Rattle.lane_steps.specs.declared.point.Point.TheVariants as point
use Rattle.lane_steps.specs.Functions.{put}
use Rattle.lane_steps.specs.LaneSizes.{LaneSizes}
use Rattle.lane_steps.specs.Batches.{owner_of}
use Rattle.lane_steps.specs.State.{Caller, Command, command}
use Rattle.lane_steps.specs.Fact.{Fact, linearized_is, retires_these, owes_rows, own_rows, loose_row, lets_go, linked, next_is, has_walked, is_walking, written, head_written, reads, helps, stands_at, before_end, is_old_tail, old_tail_is, tail_over, gets_so_many, walks, takes_effect, has_read, is_reading}
use Rattle.lane_steps.specs.Help as helping
use Rattle.lane_steps.specs.Enqueue as enqueue
use Rattle.lane_steps.specs.Dequeue as dequeue
use Rattle.lane_steps.specs.Batch as batching
use Rattle.lane_steps.specs.Many as dequeuing
use Rattle.lane_steps.specs.Take as taking
use Rattle.lane_steps.specs.Guard as guarding
use Rattle.lane_steps.specs.Close as closing
use Rattle.core_model.specs.Ghost.{unused, World, On}
use Rattle.core_model.specs.Rows.{Debts, IsLoose, OwnRows, Retires, RetiresThese, OwesRows}
use Rattle.core_model.specs.Facts.{call_knows, knows, Reads, Linearized, Effect, Holds, Each, AtPoint, Knows}
use Rattle.core_model.proofs.Puts.{put_else, put_all}

module _ (z : LaneSizes) (w : World) (x : ℕ) (e : ℕ) where
  abbrev pub forgetting : World
  forgetting = record { memory = w.memory; history = w.history; ghost = record w.ghost { stage = put w.ghost.stage x unused } }

  abbrev V : World
  V = forgetting

  -- what speaks of rows alone
  pub debts_left : (ps rs : List ℕ) → Debts z w e ps rs → Debts z forgetting e ps rs
  debts_left ps rs d = record { passes = d.passes; unread = d.unread }

  loose_row_left : (r : ℕ) → IsLoose z w e r → IsLoose z V e r
  loose_row_left r o = record { at_home = o.at_home; inside = o.inside; unlinked = o.unlinked; kept = o.kept; unmarked = o.unmarked }

  own_rows_left : (rows : List ℕ) → OwnRows z w e rows → OwnRows z V e rows
  own_rows_left rows o = record { each = λ r is. loose_row_left r (o.each r is); distinct = o.distinct }

  retires_left : (r : ℕ) → Retires z w e r → Retires z V e r
  retires_left r (inl (i, t)) = inl (i, record { spot = t.spot; before = t.before; was_read = t.was_read; was_passed = t.was_passed; kept = t.kept })
  retires_left r (inr l) = inr (record { at_home = l.at_home; inside = l.inside; unlinked = l.unlinked; marks = l.marks })

  retired_before : (r : ℕ) → Retires z V e r → Retires z w e r
  retired_before r (inl (i, t)) = inl (i, record { spot = t.spot; before = t.before; was_read = t.was_read; was_passed = t.was_passed; kept = t.kept })
  retired_before r (inr l) = inr (record { at_home = l.at_home; inside = l.inside; unlinked = l.unlinked; marks = l.marks })

  pub retired_left : (rows : List ℕ) → RetiresThese z w e rows → RetiresThese z forgetting e rows
  retired_left rows o = record { distinct = o.distinct; each = λ r is. retires_left r (o.each r is); all = λ r t. o.all r (retired_before r t) }

  owes_rows_left : (q : Place) (read stopped : Bool) (rows : List ℕ) → OwesRows z w e q read stopped rows → OwesRows z V e q read stopped rows
  owes_rows_left q read stopped rows o = record { position = o.position; count = o.count; row = o.row; inside = o.inside; behind = o.behind; owed = o.owed; spots = o.spots; first_read = o.first_read; reads = o.reads; passes = o.passes }

  on_left : (i r : ℕ) → On w i r → On V i r
  on_left i r on = record { inside = on.inside; spot = on.spot; row = on.row; link = on.link }

  linearized_left : (a i n : ℕ) (g : Group) → Linearized z w e a i n g → Linearized z V e a i n g
  linearized_left a i n g R = record {
    pre = R.pre;
    post = R.post;
    stands = R.stands;
    since_start = R.since_start;
    counts = R.counts;
    plain = R.plain;
    unhindered = R.unhindered;
    dummy = R.dummy;
    old_head = R.old_head;
    before = R.before;
    no_shorter = R.no_shorter;
    length_queue = R.length_queue;
    inside = R.inside;
    values = R.values;
    rows = λ y l some. on_left (R.dummy + y) (w.ghost.path (R.dummy + y)) (R.rows y l some);
    to_pass = R.to_pass;
    to_read = R.to_read;
  }

  effect_left : (a i n : ℕ) (g : Group) (rows : List ℕ) → Effect z w e a i n g rows → Effect z V e a i n g rows
  unfolding linearized_left
  effect_left a i n g rows t = record { stands = t.stands; batch = linearized_left a i n g t.batch; taken = t.taken; loose = own_rows_left _ t.loose; debts = debts_left _ _ t.debts }

-- The announcement x isn't caller e's, which doesn't hold it.
module _ (z : LaneSizes) (w : World) (x : ℕ) (e : ℕ) (other : owner_of z x ≢ e) (unheld : w.ghost.held e ≢ Some x) where
  abbrev U : World
  U = forgetting z w x e

  stage_else : (a : ℕ) → a ≢ x → put w.ghost.stage x unused a ≡ w.ghost.stage a
  stage_else a ne = put_else w.ghost.stage x unused a ne

  not_own : (a : ℕ) → owner_of z a ≡ e → a ≢ x
  not_own a own same = other (ap (owner_of z) (sym same) ∙ own)

  not_kept : (a : ℕ) → (w.ghost.held e ≡ Some a) ⊎ (owner_of z a ≡ e) → a ≢ x
  not_kept a (inl held) same = unheld (held ∙ ap Some same)
  not_kept a (inr own) same = not_own a own same

  still_unused : (a : ℕ) → w.ghost.stage a ≡ unused → put w.ghost.stage x unused a ≡ unused
  still_unused a u = put_all w.ghost.stage x unused (λ a y. w.ghost.stage a ≡ unused → y ≡ unused) (λ _. refl) (λ a _ u. u) a u

  -- the fact names another announcement, if any
  abbrev Apart : Fact → Type 0
  Apart (stands_at a p) = a ≢ x
  Apart (before_end a p) = a ≢ x
  Apart (is_old_tail a p) = a ≢ x
  Apart (old_tail_is a q) = a ≢ x
  Apart (tail_over a) = a ≢ x
  Apart (gets_so_many h m) = h.ann ≢ x
  Apart (walks a r l) = a ≢ x
  Apart _ = Unit {0}

  reads_left : (n : ℕ) (h : Help) → Reads z w e n h → Reads z U e n h
  reads_left n h y = record { installed = λ u. y.installed (sym (stage_else h.ann (not_kept h.ann y.kept)) ∙ u); kept = y.kept; inside = y.inside; old_head = y.old_head; first = y.first; last = y.last; counts = y.counts }

  left : (f : Fact) → Apart f → Holds z w e f → Holds z U e f
  unfolding linearized_left
  left (linearized_is b rows ps rs) _ y = (y.0, y.1, y.2, y.3, debts_left z w x e ps rs y.4)
  left (retires_these rows) _ y = retired_left z w x e rows y
  left (owes_rows q read stopped rows) _ y = owes_rows_left z w x e q read stopped rows y
  left (own_rows rows) _ y = own_rows_left z w x e rows y
  left (loose_row r) _ y = loose_row_left z w x e r y
  left (lets_go d rows named) _ y = λ d r below there off. let t = y d r below there off in (retires_left z w x e r t.0, t.1)
  left (linked p) _ y = record { position = y.position; count = y.count; on = on_left z w x e y.position p.row y.on; inside = y.inside; kept = y.kept }
  left (next_is p n) _ y = record { from = y.from; inside = y.inside; there = y.there }
  left (has_walked p vs ws r) _ y = record { inside = y.inside; as_many = y.as_many; seen = y.seen; there = y.there }
  left (is_walking p vs ws r) _ y = record { inside = y.inside; as_many = y.as_many; seen = y.seen; there = y.there }
  left (written d f) _ y = record { fresh = still_unused d.ann y.fresh; owner = y.owner; fields = y.fields }
  left (head_written d) _ y = record { fresh = still_unused d.ann y.fresh; owner = y.owner; old_head = y.old_head }
  left (reads n h) _ y = reads_left n h y
  left (helps h) _ y = λ own. let r = y own in (reads_left 4 h r.0, r.1)
  left (stands_at a p) ne y = ((λ u. y.0 (sym (stage_else a ne) ∙ u)), y.1)
  left (before_end a p) ne y = ((λ u. y.0 (sym (stage_else a ne) ∙ u)), λ i is. let t = y.1 i is in (t.0, λ j d. t.1 j (sym (stage_else a ne) ∙ d)))
  left (is_old_tail a p) ne y = ((λ u. y.0 (sym (stage_else a ne) ∙ u)), λ at. let t = y.1 at in record { position = t.position; is_decided = stage_else a ne ∙ t.is_decided; inside = t.inside; place = t.place })
  left (old_tail_is a q) ne y = record { position = y.position; is_decided = stage_else a ne ∙ y.is_decided; old_tail = y.old_tail }
  left (tail_over a) ne y = record { position = y.position; is_decided = stage_else a ne ∙ y.is_decided; known = y.known; past = y.past }
  left (gets_so_many h m) ne y = record { position = y.position; is_decided = stage_else h.ann ne ∙ y.is_decided; shown = y.shown; inside = y.inside }
  left (walks a r l) ne y = record { position = y.position; is_decided = stage_else a ne ∙ y.is_decided; inside = y.inside; lies = λ at. let t = y.lies at in record { behind = t.behind; sum = t.sum; inside = t.inside; row = t.row } }
  left (takes_effect a rows n g) _ y = let ne = not_own a y.owner in record {
    installed = λ u. y.installed (sym (stage_else a ne) ∙ u);
    owner = y.owner;
    stands = λ i d. effect_left z w x e a i n g rows (y.stands i (sym (stage_else a ne) ∙ d));
    takes = λ d. let t = y.takes (sym (stage_else a ne) ∙ d) in (t.0, debts_left z w x e [] [] t.1, t.2);
    only = y.only;
  }
  left (has_read n g b vs ws l r) _ y = record { ann = y.ann; owner = y.owner; position = y.position; is_decided = stage_else y.ann (not_own y.ann y.owner) ∙ y.is_decided; linearized = linearized_left z w x e y.ann y.position n g y.linearized; read = y.read; dummy = y.dummy; queued = y.queued; stopped = y.stopped; left = y.left; last_row = y.last_row; values = y.values; walked = y.walked; passed = y.passed }
  left (is_reading n g b vs ws l r) _ y = record { ann = y.ann; owner = y.owner; position = y.position; is_decided = stage_else y.ann (not_own y.ann y.owner) ∙ y.is_decided; linearized = linearized_left z w x e y.ann y.position n g y.linearized; read = y.read; dummy = y.dummy; queued = y.queued; stopped = y.stopped; left = y.left; next_row = y.next_row; values = y.values; walked = y.walked; passed = y.passed }
  left _ _ y = y

  abbrev AllApart : List Fact → Type 0
  AllApart [] = Unit {0}
  AllApart (f ∷ fs) = Apart f × AllApart fs

  each_left : (fs : List Fact) → AllApart fs → Each z w e fs → Each z U e fs
  each_left [] _ y = tt
  each_left (f ∷ fs) ne y = (left f ne.0 y.0, each_left fs ne.1 y.1)

  -- what a help knows names the announcement that it helps, and no other
  back_apart : (m : Command) (a : ℕ) (b : Back) → AllApart (helping.back_facts e m a b)
  back_apart m a back.Own = (tt, tt)
  back_apart m a (back.Enqueue i) = (tt, (tt, (tt, (tt, tt))))
  back_apart m a back.Dequeue = (tt, (tt, tt))
  back_apart m a (back.Batch d) = (tt, (tt, (tt, (tt, (tt, tt)))))
  back_apart m a (back.Many d) = (tt, (tt, (tt, (tt, (tt, (tt, tt))))))

  helping_apart : (h : Help) (p : HelpPoint) → Reads z w e (helping.loaded p) h → AllApart (helping.knows h p)
  helping_apart h help.LoadOldHead r = tt
  helping_apart h help.LoadFirst r = tt
  helping_apart h help.LoadLast r = tt
  helping_apart h help.LoadCounts r = tt
  helping_apart h help.LoadTail r = tt
  helping_apart h (help.LoadOldTail p) r = (tt, (tt, (not_kept h.ann r.kept, tt)))
  helping_apart h (help.LoadLink p) r = let ne = not_kept h.ann r.kept in (tt, (tt, (ne, (ne, (tt, tt)))))
  helping_apart h (help.LinkChain p) r = let ne = not_kept h.ann r.kept in (tt, (tt, (ne, (ne, (tt, tt)))))
  helping_apart h (help.Decide p) r = (tt, (tt, (not_kept h.ann r.kept, (tt, tt))))
  helping_apart h (help.PassTail p n) r = (tt, (tt, tt))
  helping_apart h (help.RecordTail p) r = (not_kept h.ann r.kept, tt)
  helping_apart h (help.LoadTailOver q) r = (not_kept h.ann r.kept, (tt, tt))
  helping_apart h (help.MoveTailOver q) r = (not_kept h.ann r.kept, (tt, tt))
  helping_apart h (help.LoadWalk m q l) r = let ne = not_kept h.ann r.kept in (ne, (ne, (ne, tt)))
  helping_apart h (help.MoveHead m q) r = let ne = not_kept h.ann r.kept in (ne, (ne, (ne, tt)))

  -- what it knows at other points names none
  enqueue_apart : (p : EnqueuePoint) → AllApart (enqueue.knows p)
  enqueue_apart enq.StoreValue = tt
  enqueue_apart enq.LoadTail = tt
  enqueue_apart (enq.LoadLink p) = (tt, (tt, tt))
  enqueue_apart (enq.LinkSingle p) = (tt, (tt, tt))
  enqueue_apart (enq.PassTail p n) = (tt, (tt, tt))
  enqueue_apart (enq.MoveTail p n) = (tt, (tt, tt))
  enqueue_apart enq.LoadHead = tt

  dequeue_apart : (p : DequeuePoint) → AllApart (dequeue.knows p)
  dequeue_apart deq.LoadHead = tt
  dequeue_apart (deq.LoadLink p) = (tt, (tt, tt))
  dequeue_apart (deq.LoadTail p n) = (tt, (tt, (tt, (tt, tt))))
  dequeue_apart (deq.LoadTailOver p n) = (tt, (tt, (tt, tt)))
  dequeue_apart (deq.PassTail p n) = (tt, (tt, tt))
  dequeue_apart (deq.LoadValue p n) = (tt, (tt, (tt, tt)))
  dequeue_apart (deq.MoveHead p n v) = (tt, (tt, (tt, tt)))

  field_apart : (d : Draft) (f : AnnField) → Apart (batching.field_knows d f)
  field_apart d field.OldTail = tt
  field_apart d _ = tt

  whole_apart : (d : Draft) (f : AnnField) → AllApart (batching.whole_knows d f)
  whole_apart d field.OldHead = (tt, tt)
  whole_apart d _ = (tt, (tt, tt))

  many_apart : (vs ws : List ℕ) (d : Plan) (p : ManyPoint) → AllApart (dequeuing.knows vs ws d p)
  many_apart vs ws d many.LoadHead = (tt, tt)
  many_apart vs ws d many.LoadDummy = (tt, (tt, (tt, tt)))
  many_apart vs ws d (many.LoadLink r l) = (tt, (tt, (tt, tt)))
  many_apart vs ws d (many.LoadValue r l) = (tt, (tt, (tt, tt)))
  many_apart vs ws d (many.LoadTail r) = (tt, (tt, (tt, tt)))
  many_apart vs ws d (many.MoveHead r) = (tt, (tt, (tt, (tt, tt))))
  many_apart vs ws d (many.LoadBehind p) = (tt, (tt, tt))
  many_apart vs ws d (many.PassTail p n) = (tt, (tt, (tt, tt)))
  many_apart vs ws d many.LoadChained = (tt, tt)

  taking_apart : (m : Command) (t : Taking) → AllApart (taking.command_knows m t)
  taking_apart m (taking_for.Enqueue v) = (tt, tt)
  taking_apart m (taking_for.Batch n v) = (tt, (tt, (tt, tt)))
  taking_apart m (taking_for.Stopper n) = (tt, (tt, (tt, tt)))

  guarding_apart : (k : Caller) (t : Guarding) → AllApart (guarding.call_knows e k t)
  guarding_apart k (guard.Enqueue i p) = (tt, (tt, (tt, (tt, tt))))
  guarding_apart k (guard.Dequeue p) = (tt, (tt, tt))
  guarding_apart k (guard.Many d) = (tt, (tt, (tt, (tt, (tt, tt)))))
  guarding_apart k (guard.ManyTail d p) = (tt, (tt, (tt, (tt, (tt, tt)))))
  guarding_apart k (guard.Help h) = (tt, back_apart (command k) h.ann h.back)
  guarding_apart k (guard.HelpTail h p) = (tt, back_apart (command k) h.ann h.back)

  seen_apart : (t : Guarding) → AllApart (guarding.seen t)
  seen_apart (guard.Enqueue i p) = tt
  seen_apart (guard.Dequeue p) = tt
  seen_apart (guard.Many d) = (tt, tt)
  seen_apart (guard.ManyTail d p) = (tt, tt)
  seen_apart (guard.Help h) = tt
  seen_apart (guard.HelpTail h p) = tt

  hazard_apart : (t : Guarding) → Apart (guarding.hazard_fact t)
  hazard_apart (guard.Help h) = tt
  hazard_apart _ = tt

  answers_apart : (k : Caller) (a : Closing) → AllApart (closing.answer_known e k a)
  answers_apart k (Plain r) = (tt, tt)
  answers_apart k (Batch m) = (tt, tt)
  answers_apart k Full = (tt, (tt, tt))

  owed_apart : (k : Caller) (a : Closing) (p : ClosePoint) → Apart (closing.owed_at k a p)
  owed_apart k a (close.MarkRow q read passed stopped) = tt
  owed_apart k a (close.MarkLoose r) = tt
  owed_apart k a _ = tt

  closing_apart : (k : Caller) (p : ClosePoint) → AllApart (closing.knows z k p)
  closing_apart k (close.MarkRow q read passed stopped) = (tt, (tt, (tt, tt)))
  closing_apart k (close.MarkLoose r) = (tt, (tt, (tt, tt)))
  closing_apart k close.ClearNode = tt
  closing_apart k close.ClearAnn = (tt, tt)
  closing_apart k (close.LoadHazard d) = (tt, (tt, (tt, tt)))
  closing_apart k (close.MarkFree r) = (tt, (tt, (tt, tt)))

  call_apart : (k : Caller) (t : Point) → AllApart (call_knows e k t)
  call_apart k Idle = (tt, tt)
  call_apart k (point.Enqueue i enq.StoreValue) = (tt, (tt, (tt, tt)))
  call_apart k (point.Enqueue i (enq.MoveTail p n)) = (tt, (tt, (tt, tt)))
  call_apart k (point.Enqueue i _) = (tt, (tt, (tt, (tt, tt))))
  call_apart k (point.Dequeue p) = (tt, (tt, tt))
  call_apart k (point.Take t p) = (tt, taking_apart (command k) t)
  call_apart k (point.Guard t p) = guarding_apart k t
  call_apart k (point.Fill n p) = (tt, tt)
  call_apart k (point.Batch d p) = (tt, (tt, (tt, (tt, tt))))
  call_apart k (point.Many d p) = (tt, (tt, (tt, (tt, (tt, tt)))))
  call_apart k (point.Help h p) = (tt, back_apart (command k) h.ann h.back)
  call_apart k (point.Answer p) = tt
  call_apart k (point.Close a p) = (owed_apart k a p, answers_apart k a)

  point_apart : (k : Caller) (t : Point) → AtPoint z w e k t → AllApart (knows z e k t)
  point_apart k Idle f = (tt, tt)
  point_apart k (point.Enqueue i p) f = enqueue_apart p
  point_apart k (point.Dequeue p) f = dequeue_apart p
  point_apart k (point.Take t (take.LoadMark r l)) f = (tt, tt)
  point_apart k (point.Take t (take.ClearMark r)) f = (tt, tt)
  point_apart k (point.Take t (take.ClearLink r)) f = (tt, (tt, tt))
  point_apart k (point.Guard t StoreHazard) f = seen_apart t
  point_apart k (point.Guard t LoadAgain) f = (hazard_apart t, seen_apart t)
  point_apart k (point.Fill n (fill.StoreValue r v)) f = (tt, (tt, (tt, (tt, (tt, tt)))))
  point_apart k (point.Fill n (fill.StoreChain i r q)) f = (tt, (tt, (tt, (tt, tt))))
  point_apart k (point.Fill n (fill.LoadHazard d)) f = (tt, (tt, (tt, (tt, (tt, tt)))))
  point_apart k (point.Batch d (batch.StoreField g)) f = (field_apart d g, tt)
  point_apart k (point.Batch d (batch.StoreAll g)) f = (tt, whole_apart d g)
  point_apart k (point.Batch d batch.LoadHead) f = (tt, tt)
  point_apart k (point.Batch d batch.Install) f = (tt, (tt, tt))
  point_apart k (point.Many d p) f = many_apart k.values k.walked d p
  point_apart k (point.Help h p) f = helping_apart h p f.call.0
  point_apart k (point.Answer (answer.LoadOldTail h)) f = (tt, (tt, (not_kept h.ann f.here.1.0.kept, (tt, tt))))
  point_apart k (point.Answer (answer.LoadLink b r l)) f = (tt, (tt, (tt, tt)))
  point_apart k (point.Answer (answer.LoadValue b r l)) f = (tt, (tt, (tt, tt)))
  point_apart k (point.Close a p) f = closing_apart k p

  pub knows_left : (k : Caller) → Knows z w e k → Knows z (forgetting z w x e) e k
  knows_left k f = let a = f.at_point in record {
    retired = retired_left z w x e k.retired f.retired;
    started = f.started;
    last = f.last;
    at_point = record { call = each_left (call_knows e k k.point) (call_apart k k.point) a.call; here = each_left (knows z e k k.point) (point_apart k k.point a) a.here };
  }
