-- What a step finds and stores can be coded, and the numbers of a lane can be after each step.
use Rattle.std.proofs.Common.{◌≡◌, ◌≢◌, inl, inr, ℕ, suc, ◌^◌, ◌<◌, Bool, true, false, cond, length, get_or, sym, refl, ap, ◌∙◌, subst, arith}
use Rattle.std.proofs.lemmas.Bool.{cases_eq}
use Rattle.bq_model.specs.declared.shape.Shape.{Shape}
use Rattle.bq_model.specs.Values.{enqueued}
use Rattle.word_rows.specs.declared.location.AnnField.{AnnField}
use Rattle.word_rows.specs.declared.location.AnnField.TheVariants.{OldHead, OldTail, First, Last, Counts, BatchNo, Order0, Order1, Order2, Order3}
use Rattle.word_rows.specs.declared.location.Location.{Location}
use Rattle.word_rows.specs.declared.location.Location.TheVariants.{AnnWord}
use Rattle.word_rows.specs.declared.content.Content.{Content}
use Rattle.word_rows.specs.Memory.{Writes}
use Rattle.word_rows.specs.Contents.{MayHold}
use Rattle.word_rows.specs.Layout.{IsValid, index_of}
use Rattle.word_rows.specs.Sizes.{rows_of, anns_of}
use Rattle.word_rows.proofs.LayoutLemmas.{index_of-once}
use Rattle.lane_steps.specs.declared.act.Act.{Act}
use Rattle.lane_steps.specs.declared.act.Act.TheVariants.{Load, Store, Exchange, Join}
use Rattle.lane_steps.specs.declared.course.Course.{Course}
use Rattle.lane_steps.specs.declared.course.Course.TheVariants as course
use Rattle.lane_steps.specs.declared.point.Closing.{Closing}
use Rattle.lane_steps.specs.declared.point.ClosePoint.{ClosePoint}
use Rattle.lane_steps.specs.declared.point.ClosePoint.TheVariants as close
use Rattle.lane_steps.specs.declared.point.Guarding.{Guarding}
use Rattle.lane_steps.specs.declared.point.Guarding.TheVariants as guard
use Rattle.lane_steps.specs.declared.point.GuardPoint.TheVariants.{StoreHazard, LoadAgain}
use Rattle.lane_steps.specs.declared.point.Taking.{Taking}
use Rattle.lane_steps.specs.declared.point.TakePoint.{TakePoint}
use Rattle.lane_steps.specs.declared.point.TakePoint.TheVariants as take
use Rattle.lane_steps.specs.Guard as guarding
use Rattle.lane_steps.proofs.Origins.{From, comes_from}
use Rattle.lane_steps.specs.declared.point.FillPoint.TheVariants as fill
use Rattle.lane_steps.specs.declared.point.Draft.{Draft}
use Rattle.lane_steps.specs.declared.point.Notice.{Notice}
use Rattle.lane_steps.specs.declared.point.Point.{Point}
use Rattle.lane_steps.specs.declared.point.Point.TheVariants as point
use Rattle.lane_steps.specs.declared.point.EnqueuePoint.TheVariants as enq
use Rattle.lane_steps.specs.declared.point.DequeuePoint.TheVariants as deq
use Rattle.lane_steps.specs.declared.point.BatchPoint.TheVariants as batch
use Rattle.lane_steps.specs.declared.point.ManyPoint.TheVariants as many
use Rattle.lane_steps.specs.declared.point.HelpPoint.TheVariants as help
use Rattle.lane_steps.specs.declared.point.AnswerPoint.TheVariants as answer
use Rattle.lane_steps.specs.Act.{location, effect, same_content}
use Rattle.lane_steps.specs.Coded.{GuardingFits, PointFits, IsCoded}
use Rattle.lane_steps.specs.Fits.{IsHeld, DraftFits, ActFits}
use Rattle.lane_steps.specs.LaneSizes.{LaneSizes, lane_sizes}
use Rattle.core_model.specs.Lawful.{Lawful}
use Rattle.lane_steps.specs.Notices.{field_in}
use Rattle.lane_steps.specs.Ranges.{IsWord, CountsFit}
use Rattle.lane_steps.specs.State.{Memory, State, read, read_field, write}
use Rattle.lane_steps.specs.Step.{act, target, stored, course, history_with, after, next}
use Rattle.core_model.proofs.Puts.{put_all}
use Rattle.core_model.proofs.Memories.{writes}
use Rattle.core_model.proofs.Coding.{SeeksInside, course_fits}
use Rattle.core_model.proofs.CodedCourses.{ListsFit, CallerFits, Counted, below_at, all_below, followed_fits}
use Rattle.core_model.proofs.InRange.{all_within, is_word, counts_fit, shape_fits}
use Rattle.core_model.proofs.Known.{caller_known}
use Rattle.core_model.proofs.Rely.{third, fourth}
use Rattle.core_model.proofs.Takes.{next_inside}
use Rattle.core_model.proofs.Preserves.{known}

-- each word holds a content of its kind
field_held : (n : Notice) (a : ℕ) (f : AnnField) → IsHeld (AnnWord a f) (field_in n f)
field_held n a OldHead = tt
field_held n a OldTail = tt
field_held n a First = tt
field_held n a Last = tt
field_held n a Counts = tt
field_held n a BatchNo = tt
field_held n a Order0 = tt
field_held n a Order1 = tt
field_held n a Order2 = tt
field_held n a Order3 = tt

read_held : (m : Memory) (a : ℕ) (f : AnnField) → IsHeld (AnnWord a f) (read_field m a f)
read_held m a OldHead = tt
read_held m a OldTail = tt
read_held m a First = tt
read_held m a Last = tt
read_held m a Counts = tt
read_held m a BatchNo = tt
read_held m a Order0 = tt
read_held m a Order1 = tt
read_held m a Order2 = tt
read_held m a Order3 = tt

chosen : (P : Content → Type 0) (b : Bool) (y x : Content) → P y → P x → P (cond b y x)
chosen P true y x a b = a
chosen P false y x a b = b

module _ (m : Memory) (c : ℕ) where
  take_found : (t : Taking) (p : TakePoint) → IsHeld (target c (point.Take t p)) (read m (target c (point.Take t p)))
  take_found t (take.LoadMark r l) = tt
  take_found t (take.ClearMark r) = tt
  take_found t (take.ClearLink r) = tt

  hazard_found : (t : Guarding) → IsHeld (target c (point.Guard t StoreHazard)) (read m (target c (point.Guard t StoreHazard)))
  hazard_found (guard.Help h) = tt
  hazard_found (guard.Enqueue x p) = tt
  hazard_found (guard.Dequeue p) = tt
  hazard_found (guard.Many d) = tt
  hazard_found (guard.ManyTail d p) = tt
  hazard_found (guard.HelpTail h p) = tt

  source_found : (t : Guarding) → IsHeld (target c (point.Guard t LoadAgain)) (read m (target c (point.Guard t LoadAgain)))
  source_found (guard.Help h) = tt
  source_found (guard.Enqueue x p) = tt
  source_found (guard.Dequeue p) = tt
  source_found (guard.Many d) = tt
  source_found (guard.ManyTail d p) = tt
  source_found (guard.HelpTail h p) = tt

  close_found : (a : Closing) (p : ClosePoint) → IsHeld (target c (point.Close a p)) (read m (target c (point.Close a p)))
  close_found a (close.MarkRow q as_read as_passed stopped) = tt
  close_found a (close.MarkLoose r) = tt
  close_found a close.ClearNode = tt
  close_found a close.ClearAnn = tt
  close_found a (close.LoadHazard d) = tt
  close_found a (close.MarkFree r) = tt

  found_held : (t : Point) → IsHeld (target c t) (read m (target c t))
  found_held (point.Batch d (batch.StoreField f)) = read_held m d.ann f
  found_held (point.Batch d (batch.StoreAll f)) = read_held m d.ann f
  found_held (point.Enqueue i enq.StoreValue) = tt
  found_held (point.Dequeue deq.LoadHead) = tt
  found_held (point.Fill n (fill.StoreValue r v)) = tt
  found_held (point.Fill n (fill.StoreChain i r q)) = tt
  found_held (point.Batch d batch.LoadHead) = tt
  found_held (point.Many d many.LoadHead) = tt
  found_held (point.Help h help.LoadOldHead) = tt
  found_held (point.Answer (answer.LoadOldTail h)) = tt
  found_held (point.Answer (answer.LoadLink b r l)) = tt
  found_held (point.Take t p) = take_found t p
  found_held (point.Guard t StoreHazard) = hazard_found t
  found_held (point.Guard t LoadAgain) = source_found t
  found_held (point.Close a p) = close_found a p
  found_held _ = tt

  -- and so does the word of a step after it
  abbrev ActHeld : Act → Type 0
  ActHeld (Load l) = Unit {0}
  ActHeld (Store l x) = IsHeld l x
  ActHeld (Exchange l old new) = IsHeld l new
  ActHeld (Join r b) = Unit {0}

  effect_held : (a : Act) (x : Content) → ActHeld a → IsHeld (location a) x → IsHeld (location a) (effect a x)
  effect_held (Load l) x a m = m
  effect_held (Store l y) x a m = a
  effect_held (Exchange l old new) x a m = chosen (IsHeld l) (same_content x old) new x a m
  effect_held (Join r b) x a m = tt

  hazard_held : (t : Guarding) → ActHeld (act c (point.Guard t StoreHazard))
  hazard_held (guard.Help h) = tt
  hazard_held (guard.Enqueue x p) = tt
  hazard_held (guard.Dequeue p) = tt
  hazard_held (guard.Many d) = tt
  hazard_held (guard.ManyTail d p) = tt
  hazard_held (guard.HelpTail h p) = tt

  act_held : (t : Point) → ActHeld (act c t)
  act_held (point.Batch d (batch.StoreField f)) = field_held d.notice d.ann f
  act_held (point.Batch d (batch.StoreAll f)) = field_held d.notice d.ann f
  act_held (point.Enqueue i enq.StoreValue) = tt
  act_held (point.Dequeue deq.LoadHead) = tt
  act_held (point.Fill n (fill.StoreValue r v)) = tt
  act_held (point.Fill n (fill.StoreChain i r q)) = tt
  act_held (point.Batch d batch.LoadHead) = tt
  act_held (point.Many d many.LoadHead) = tt
  act_held (point.Help h help.LoadOldHead) = tt
  act_held (point.Answer (answer.LoadOldTail h)) = tt
  act_held (point.Answer (answer.LoadLink b r l)) = tt
  act_held (point.Answer (answer.LoadValue b r l)) = tt
  act_held (point.Take t (take.LoadMark r l)) = tt
  act_held (point.Take t (take.ClearMark r)) = tt
  act_held (point.Take t (take.ClearLink r)) = tt
  act_held (point.Guard t StoreHazard) = hazard_held t
  act_held (point.Guard t LoadAgain) = tt
  act_held (point.Close a (close.MarkRow q as_read as_passed stopped)) = tt
  act_held (point.Close a (close.MarkLoose r)) = tt
  act_held (point.Close a close.ClearNode) = tt
  act_held (point.Close a close.ClearAnn) = tt
  act_held (point.Close a (close.LoadHazard d)) = tt
  act_held (point.Close a (close.MarkFree r)) = tt
  act_held _ = tt

  stored_held : (t : Point) → IsHeld (target c t) (stored c t (read m (target c t)))
  stored_held t = effect_held (act c t) (read m (target c t)) (act_held t) (found_held t)

  -- a step writes its word, and no other
  pub step_writes : (t : Point) → Writes (read m) (target c t) (stored c t (read m (target c t))) (read (write m (target c t) (stored c t (read m (target c t)))))
  step_writes t = writes m (target c t) (stored c t (read m (target c t))) (stored_held t)

module _ (s : Shape) where
  field_fits : (d : Draft) (f : AnnField) → DraftFits s d → MayHold s (AnnWord d.ann f) (field_in d.notice f)
  field_fits d OldHead a = (tt, a.1.old_head)
  field_fits d OldTail a = (tt, tt)
  field_fits d First a = (tt, a.1.first)
  field_fits d Last a = (tt, a.1.last)
  field_fits d Counts a = (tt, a.1.counts)
  field_fits d BatchNo a = (tt, a.1.number)
  field_fits d Order0 a = (tt, a.1.order0)
  field_fits d Order1 a = (tt, a.1.order1)
  field_fits d Order2 a = (tt, a.1.order2)
  field_fits d Order3 a = (tt, a.1.order3)

  -- the row to which a batch links one of its rows
  abbrev NextFits : Point → Type 0
  NextFits (point.Fill n (fill.StoreChain i r q)) = q < rows_of s
  NextFits _ = Unit {0}

  -- what a hazard word is to name
  hazard_fits : (c : ℕ) (t : Guarding) → GuardingFits s t → guarding.fits s t → ActFits s (act c (point.Guard t StoreHazard))
  hazard_fits c (guard.Help h) a b = (tt, a.ann)
  hazard_fits c (guard.Enqueue x p) a b = (tt, b.0)
  hazard_fits c (guard.Dequeue p) a b = (tt, b.0)
  hazard_fits c (guard.Many d) a b = (tt, a.1.old_head.0)
  hazard_fits c (guard.ManyTail d p) a b = (tt, b.0)
  hazard_fits c (guard.HelpTail h p) a b = (tt, b.0)

  act_fits : (c : ℕ) (t : Point) → PointFits s t → CountsFit t → NextFits t → ActFits s (act c t)
  act_fits c (point.Enqueue i enq.StoreValue) a b n = (tt, a.0.value)
  act_fits c (point.Enqueue i (enq.LinkSingle p)) a b n = ((tt, tt), (tt, a.0.row))
  act_fits c (point.Enqueue i (enq.PassTail p r)) a b n = ((tt, a.1.0), (tt, (a.1.1, b)))
  act_fits c (point.Enqueue i (enq.MoveTail p r)) a b n = ((tt, a.1.0), (tt, (a.1.1, b)))
  act_fits c (point.Dequeue (deq.PassTail p r)) a b n = ((tt, a.0), (tt, (a.1, b)))
  act_fits c (point.Dequeue (deq.MoveHead p r v)) a b n = ((tt, a.0), (tt, (a.1, b)))
  act_fits c (point.Fill d (fill.StoreValue r v)) a b n = (tt, a.1.1)
  act_fits c (point.Fill d (fill.StoreChain i r q)) a b n = (tt, n)
  act_fits c (point.Batch d (batch.StoreField f)) a b n = field_fits d f a
  act_fits c (point.Batch d (batch.StoreAll f)) a b n = field_fits d f a
  act_fits c (point.Batch d batch.Install) a b n = let old = a.1.old_head in ((tt, old), (tt, (a.0, old.1)))
  act_fits c (point.Many d (many.MoveHead r)) a b n = let old = a.0.1.old_head in ((tt, old), (tt, (a.1, b)))
  act_fits c (point.Many d (many.PassTail p r)) a b n = ((tt, a.1.0), (tt, (a.1.1, b)))
  act_fits c (point.Help h (help.Decide p)) a b n = ((tt, tt), (tt, a.1))
  act_fits c (point.Help h (help.LinkChain p)) a b n = ((tt, tt), (tt, a.0.first))
  act_fits c (point.Help h (help.PassTail p r)) a b n = ((tt, a.1.0), (tt, (a.1.1, b)))
  act_fits c (point.Help h (help.RecordTail p)) a b n = ((tt, tt), (tt, a.1))
  act_fits c (point.Help h (help.MoveTailOver q)) a b n = ((tt, a.1), (tt, (a.0.last, b)))
  act_fits c (point.Help h (help.MoveHead i r)) a b n = ((tt, (a.0.ann, a.0.old_head.1)), (tt, (a.1, b)))
  act_fits c (point.Answer (answer.LoadOldTail h)) a b n = tt
  act_fits c (point.Answer (answer.LoadLink i r l)) a b n = tt
  act_fits c (point.Answer (answer.LoadValue i r l)) a b n = tt
  act_fits c (point.Take t (take.LoadMark r l)) a b n = tt
  act_fits c (point.Take t (take.ClearMark r)) a b n = (tt, tt)
  act_fits c (point.Take t (take.ClearLink r)) a b n = (tt, tt)
  act_fits c (point.Guard t StoreHazard) a b n = hazard_fits c t a.0 a.1
  act_fits c (point.Guard t LoadAgain) a b n = tt
  act_fits c (point.Close x (close.MarkRow q as_read as_passed stopped)) a b n = a.0
  act_fits c (point.Close x (close.MarkLoose r)) a b n = a
  act_fits c (point.Close x close.ClearNode) a b n = (tt, tt)
  act_fits c (point.Close x close.ClearAnn) a b n = (tt, tt)
  act_fits c (point.Close x (close.LoadHazard d)) a b n = tt
  act_fits c (point.Close x (close.MarkFree r)) a b n = a
  act_fits c _ a b n = tt

  effect_fits : (a : Act) (x : Content) → ActFits s a → MayHold s (location a) x → MayHold s (location a) (effect a x)
  effect_fits (Load l) x a m = m
  effect_fits (Store l y) x a m = a
  effect_fits (Exchange l old new) x a m = chosen (MayHold s l) (same_content x old) new x a.1 m
  effect_fits (Join r b) x a m = (tt, tt)

-- the word of a step is one of the table
pub is_valid : (s : Shape) (c : ℕ) (t : Point) → IsWord (rows_of s) s.callers (anns_of s) (target c t) → IsValid s (target c t)
is_valid s c (point.Enqueue i enq.StoreValue) w = w
is_valid s c (point.Dequeue deq.LoadHead) w = w
is_valid s c (point.Fill n (fill.StoreValue r v)) w = w
is_valid s c (point.Fill n (fill.StoreChain i r q)) w = w
is_valid s c (point.Batch d batch.LoadHead) w = w
is_valid s c (point.Many d many.LoadHead) w = w
is_valid s c (point.Help h help.LoadOldHead) w = w
is_valid s c (point.Answer (answer.LoadOldTail h)) w = w
is_valid s c (point.Answer (answer.LoadLink i r l)) w = w
is_valid s c (point.Take t (take.LoadMark r l)) w = w
is_valid s c (point.Take t (take.ClearMark r)) w = w
is_valid s c (point.Take t (take.ClearLink r)) w = w
is_valid s c (point.Guard t StoreHazard) w = hazard t w where
  hazard : (t : Guarding) → IsWord (rows_of s) s.callers (anns_of s) (target c (point.Guard t StoreHazard)) → IsValid s (target c (point.Guard t StoreHazard))
  hazard (guard.Help h) w = w
  hazard (guard.Enqueue x p) w = w
  hazard (guard.Dequeue p) w = w
  hazard (guard.Many d) w = w
  hazard (guard.ManyTail d p) w = w
  hazard (guard.HelpTail h p) w = w
is_valid s c (point.Guard t LoadAgain) w = source t w where
  source : (t : Guarding) → IsWord (rows_of s) s.callers (anns_of s) (target c (point.Guard t LoadAgain)) → IsValid s (target c (point.Guard t LoadAgain))
  source (guard.Help h) w = w
  source (guard.Enqueue x p) w = w
  source (guard.Dequeue p) w = w
  source (guard.Many d) w = w
  source (guard.ManyTail d p) w = w
  source (guard.HelpTail h p) w = w
is_valid s c (point.Close a (close.MarkRow q as_read as_passed stopped)) w = w
is_valid s c (point.Close a (close.MarkLoose r)) w = w
is_valid s c (point.Close a close.ClearNode) w = w
is_valid s c (point.Close a close.ClearAnn) w = w
is_valid s c (point.Close a (close.LoadHazard d)) w = w
is_valid s c (point.Close a (close.MarkFree r)) w = w
is_valid s c _ w = w

module _ (key : Shape) (s : State) (L : Lawful (lane_sizes key) s) (R : IsCoded key s) (c : ℕ) where
  abbrev z : LaneSizes
  z = lane_sizes key

  next_fits : (t : Point) → (s.callers c).point ≡ t → NextFits key t
  next_fits (point.Fill n (fill.StoreChain i r q)) is = let chain = fourth (known z s L c (point.Fill n (fill.StoreChain i r q)) is).here in subst (λ (y : ℕ). y < rows_of key) (sym chain.next) (R.taken c (suc i))
  next_fits (point.Fill n (fill.StoreValue r v)) is = tt
  next_fits (point.Fill n (fill.LoadHazard e)) is = tt
  next_fits _ is = tt

  -- a search seeks rows of the lane
  seeks_inside : (t : Point) → (s.callers c).point ≡ t → SeeksInside (rows_of key) t
  seeks_inside (point.Take t p) is = next_inside z s L c t p is
  seeks_inside _ is = tt

  pub point_valid : IsValid key (target c (s.callers c).point)
  point_valid = is_valid key c (s.callers c).point (is_word z s L c)

  pub found_fits : MayHold key (target c (s.callers c).point) (read s.memory (target c (s.callers c).point))
  found_fits = R.words (target c (s.callers c).point) point_valid

  pub acts_fit : ActFits key (act c (s.callers c).point)
  acts_fit = act_fits key c (s.callers c).point (R.points c) (counts_fit z s L (shape_fits key) c) (next_fits (s.callers c).point refl)

  pub stored_fits : MayHold key (target c (s.callers c).point) (stored c (s.callers c).point (read s.memory (target c (s.callers c).point)))
  stored_fits = effect_fits key (act c (s.callers c).point) (read s.memory (target c (s.callers c).point)) acts_fit found_fits

  abbrev here : Point
  here = (s.callers c).point

  abbrev groups : ℕ
  groups = length (history_with z s c (s.callers c).point (read s.memory (target c (s.callers c).point)))

  words_fit : (l : Location) → IsValid key l → MayHold key l (read (write s.memory (target c here) (stored c here (read s.memory (target c here)))) l)
  words_fit l ok = let w = step_writes s.memory c here in elim (cases_eq (index_of key l) (index_of key (target c here))) [
    | inl same ↦ let one : l ≡ target c here = index_of-once key l (target c here) ok point_valid same in
        subst (λ (k : Location). MayHold key k (read (write s.memory (target c here) (stored c here (read s.memory (target c here)))) k)) (sym one) (subst (MayHold key (target c here)) (sym w.here) stored_fits)
    | inr other ↦ subst (MayHold key l) (sym (w.elsewhere l (λ e. other (ap (index_of key) e)))) (R.words l ok)
  ]

  -- the row that it marks has a next one where another is to be marked, and a scan is of the lane's callers
  counted : (t : Point) → (s.callers c).point ≡ t → (x : Content) → Counted key (s.callers c) (course t x)
  counted t is x = by (course t x) (comes_from t x) where
    by : (y : Course) → From y t → Counted key (s.callers c) y
    by (course.Marks a q both stopped) o = λ some. let owe = (known z s L c (point.Close a (close.MarkRow q o.0 o.1 stopped)) (is ∙ o.2)).here.0 in
        let count = owe.count in let inside = owe.inside in let made = L.list.counts in let all = all_within z s L in let fits = shape_fits key in omega arith
    by (course.Finds a d x) o = third (known z s L c (point.Close a (close.LoadHazard d)) (is ∙ o)).here
    by _ o = tt

  lists_fit : (d : ℕ) → ListsFit key (s.callers d)
  lists_fit d = (all_below (rows_of key) (s.callers d).rows (R.taken d), all_below (rows_of key) (s.callers d).walked (R.walked d), all_below (rows_of key) (s.callers d).retired (R.retired d), R.puts d)

  -- where the caller is after the step
  goes_on : (n : ℕ) (t : Point) → (s.callers c).point ≡ t → t ≢ point.Idle → CallerFits key (after z n c (s.callers c) t (read s.memory (target c t)))
  goes_on n t is runs = followed_fits key L.sizes c (caller_known z s L c (s.callers c) t runs (known z s L c t is)) n (s.callers c) (course t (read s.memory (target c t))) (counted t is (read s.memory (target c t)))
      (course_fits key c t (read s.memory (target c t)) (subst (PointFits key) is (R.points c)) (seeks_inside t is) (subst (λ (u : Point). MayHold key (target c u) (read s.memory (target c u))) is found_fits)) (lists_fit c)

  after_fits : (n : ℕ) (t : Point) → (s.callers c).point ≡ t → CallerFits key (after z n c (s.callers c) t (read s.memory (target c t)))
  after_fits n point.Idle is = (tt, lists_fit c)
  after_fits n (point.Enqueue x p) is = goes_on n (point.Enqueue x p) is (λ e. cc e)
  after_fits n (point.Dequeue p) is = goes_on n (point.Dequeue p) is (λ e. cc e)
  after_fits n (point.Fill d p) is = goes_on n (point.Fill d p) is (λ e. cc e)
  after_fits n (point.Batch d p) is = goes_on n (point.Batch d p) is (λ e. cc e)
  after_fits n (point.Many d p) is = goes_on n (point.Many d p) is (λ e. cc e)
  after_fits n (point.Help h p) is = goes_on n (point.Help h p) is (λ e. cc e)
  after_fits n (point.Answer p) is = goes_on n (point.Answer p) is (λ e. cc e)
  after_fits n (point.Take t p) is = goes_on n (point.Take t p) is (λ e. cc e)
  after_fits n (point.Guard t p) is = goes_on n (point.Guard t p) is (λ e. cc e)
  after_fits n (point.Close a p) is = goes_on n (point.Close a p) is (λ e. cc e)

  -- row 0 is there
  some_row : 0 < rows_of key
  some_row = omega arith

  pub step_coded : IsCoded key (next (lane_sizes key) s c)
  unfolding next
  step_coded = let k = after z groups c (s.callers c) here (read s.memory (target c here)) in let f = after_fits groups here refl in record {
    words = words_fit;
    points = put_all s.callers c k (λ d y. PointFits key y.point) f.0 (λ d _. R.points d);
    taken = put_all s.callers c k (λ d y. (j : ℕ) → get_or y.rows j 0 < rows_of key) (below_at (rows_of key) k.rows some_row f.1.0) (λ d _. R.taken d);
    walked = put_all s.callers c k (λ d y. (j : ℕ) → get_or y.walked j 0 < rows_of key) (below_at (rows_of key) k.walked some_row f.1.1) (λ d _. R.walked d);
    retired = put_all s.callers c k (λ d y. (j : ℕ) → get_or y.retired j 0 < rows_of key) (below_at (rows_of key) k.retired some_row f.1.2) (λ d _. R.retired d);
    puts = put_all s.callers c k (λ d y. (j : ℕ) → get_or (enqueued y.ops) j 0 < 2 ^ 64) f.1.3 (λ d _. R.puts d);
  }
