-- The rows that a caller has yet to mark, and those that it has retired, are no more than its share.
use Rattle.std.proofs.Common.{◌≡◌, ⊎_elim, ℕ, zero, suc, ◌+◌, ◌-◌, ◌<◌, ◌≤◌, Bool, true, false, cond, List, [], length, sym, refl, ap, subst, arith}
use Rattle.bq_model.specs.declared.group.Group.{Group}
use Rattle.bq_model.specs.declared.op.Op.{Op}
use Rattle.bq_model.specs.declared.shape.Shape.{Shape}
use Rattle.excess_count.specs.declared.counts.Counts.{Counts}
use Rattle.excess_count.specs.Counts.{counts_of, successes_of}
use Rattle.core_model.proofs.Excess.{counted_most}
use Rattle.node_guard.specs.Pick.{among}
use Rattle.lane_steps.specs.declared.point.AnswerPoint.TheVariants as answer
use Rattle.lane_steps.specs.declared.point.Back.{Back}
use Rattle.lane_steps.specs.declared.point.Back.TheVariants as back
use Rattle.lane_steps.specs.declared.point.ClosePoint.TheVariants as close
use Rattle.lane_steps.specs.declared.point.FillPoint.TheVariants as fill
use Rattle.lane_steps.specs.declared.point.Guarding.{Guarding}
use Rattle.lane_steps.specs.declared.point.Guarding.TheVariants as guard
use Rattle.lane_steps.specs.declared.point.Point.{Point}
use Rattle.lane_steps.specs.declared.point.Point.TheVariants.{Idle}
use Rattle.lane_steps.specs.declared.point.Point.TheVariants as point
use Rattle.lane_steps.specs.Close.{to_pass}
use Rattle.lane_steps.specs.Functions.{upto}
use Rattle.lane_steps.specs.Guard as guarding
use Rattle.lane_steps.specs.Help.{back_facts}
use Rattle.lane_steps.specs.LaneSizes.{LaneSizes, lane_sizes}
use Rattle.lane_steps.specs.State.{Caller, command, State}
use Rattle.lane_steps.specs.Stopper.{is_stopped, passes}
use Rattle.core_model.specs.Facts.{Each, AtPoint, TakesEffect}
use Rattle.core_model.specs.Few.{Few}
use Rattle.core_model.specs.Ghost.{Stage, unused, waiting, decided, owes, Owed}
use Rattle.core_model.specs.Lawful.{Lawful}
use Rattle.core_model.specs.Rows.{Debts}
use Rattle.core_model.proofs.Lists.{among_cases, among_none, among_upto}
use Rattle.core_model.proofs.Preserves.{known}
use Rattle.core_model.proofs.Rely.{world, fourth}
use Rattle.lane_room.specs.Busy.{share}
use Rattle.lane_room.specs.Share.{Share}

pub length_upto : (a n : ℕ) → length (upto a n) ≡ n
length_upto a zero = refl
length_upto a (suc n) = ap suc (length_upto (suc a) n)

in_upto : (a n x : ℕ) → among (upto a n) x ≡ true → (a ≤ x) × (x < a + n)
in_upto a zero x is = absurd (among_none x is)
in_upto a (suc n) x is = ⊎_elim (λ (same : a ≡ x). (omega (arith, same), omega (arith, same)))
    (λ (there : among (upto (suc a) n) x ≡ true). let y = in_upto (suc a) n x there in let low = y.0 in let high = y.1 in (omega (arith, low), omega (arith, high))) (among_cases (upto (suc a) n) a x is)

within : (a n b m x : ℕ) → b ≤ a → a + n ≤ b + m → among (upto a n) x ≡ true → among (upto b m) x ≡ true
within a n b m x from to is = let y = in_upto a n x is in let low = y.0 in let high = y.1 in among_upto b m x (omega (arith, from, low)) (omega (arith, to, high))

-- a batch gets no more values than it has operations, and passes one more row at most
gets_few : (ops : List Op) (n : ℕ) → successes_of (counts_of ops) n ≤ length ops
gets_few ops n = let all = counted_most ops in omega (arith, all)

passes_few : (k : Counts) (n : ℕ) → passes k n ≤ suc (successes_of k n)
passes_few k n = by (is_stopped k n) where
  by : (b : Bool) → successes_of k n + cond b 1 0 ≤ suc (successes_of k n)
  by true = omega arith
  by false = omega arith

module _ (shape : Shape) (s : State) (L : Lawful (lane_sizes shape) s) (c : ℕ) where
  -- the counts of the places that caller c has yet to mark
  pub record ToMark : Type 0 where
    pub counts : List ℕ
    pub all : (i : ℕ) → Owed (world s L.ghost) c i → among counts (shape.first_count + i) ≡ true
    pub fits : length counts + length (s.callers c).retired ≤ share shape

  owes_none : Debts (lane_sizes shape) (world s L.ghost) c [] [] → (i : ℕ) → Owed (world s L.ghost) c i → among [] (shape.first_count + i) ≡ true
  owes_none d i owed = ⊎_elim (λ (e : L.ghost.reader i ≡ owes c). d.unread i e) (λ (e : L.ghost.passer i ≡ owes c). d.passes i e) owed

  -- who is idle owes none
  pub idle_owes : (s.callers c).point ≡ Idle → (i : ℕ) → Owed (world s L.ghost) c i → ⊥
  idle_owes idle i owed = among_none (shape.first_count + i) (owes_none (known (lane_sizes shape) s L c Idle idle).call.0.4 i owed)

module _ (shape : Shape) (s : State) (L : Lawful (lane_sizes shape) s) (c : ℕ) (S : Share shape c (s.callers c)) where
  abbrev z : LaneSizes
  z = lane_sizes shape

  abbrev k : Caller
  k = s.callers c

  -- it owes none
  none : Debts (lane_sizes shape) (world s L.ghost) c [] [] → ToMark shape s L c
  none d = record {
    counts = [];
    all = owes_none shape s L c d;
    fits = let most = S.waits in omega (arith, most);
  }

  -- it owes marks of rows behind one another
  of_run : (ps rs : List ℕ) (a n : ℕ) → Debts (lane_sizes shape) (world s L.ghost) c ps rs → ((x : ℕ) → among ps x ≡ true → among (upto a n) x ≡ true) → ((x : ℕ) → among rs x ≡ true → among (upto a n) x ≡ true)
      → n + length (s.callers c).retired ≤ share shape → ToMark shape s L c
  of_run ps rs a n d p r fits = record {
    counts = upto a n;
    all = λ i owed. ⊎_elim (λ (e : L.ghost.reader i ≡ owes c). r (z.first + i) (d.unread i e)) (λ (e : L.ghost.passer i ≡ owes c). p (z.first + i) (d.passes i e)) owed;
    fits = let long = length_upto a n in omega (arith, long, fits);
  }

  -- the old dummy and those whose values it got
  of_values : (a b p n : ℕ) → b ≡ suc a → Debts (lane_sizes shape) (world s L.ghost) c (upto a p) (upto b n) → p ≤ suc n → n ≤ length (s.callers c).ops → length (s.callers c).retired < shape.callers → ToMark shape s L c
  of_values a b p n next d few less fits = of_run (upto a p) (upto b n) a (suc n) d (λ x. within a p a (suc n) x (omega arith) (omega (arith, few))) (λ x. within b n a (suc n) x (omega (arith, next)) (omega (arith, next)))
      (let short = S.short in omega (arith, short, less, fits))

  -- of an own announcement, which waits or is decided
  of_effect : (a n : ℕ) (rows : List ℕ) (own : Group) → own.ops ≡ (s.callers c).ops → length (s.callers c).retired < shape.callers → TakesEffect (lane_sizes shape) (world s L.ghost) c a rows n own → ToMark shape s L c
  of_effect a n rows own same fits x = by (L.ghost.stage a) refl where
    by : (t : Stage) → L.ghost.stage a ≡ t → ToMark shape s L c
    by unused e = absurd (x.installed e)
    by waiting e = none (x.takes e).1
    by (decided i) e = let y = x.stands i e in let j = i - y.batch.dummy in let counts = (s.memory.notice a).counts in
        let got : successes_of counts j ≤ length k.ops = subst (λ (m : Counts). successes_of m j ≤ length k.ops) (sym y.batch.counts) (subst (λ (ops : List Op). successes_of (counts_of own.ops) j ≤ length ops) same (gets_few own.ops j)) in
        of_values (z.first + y.batch.dummy) (z.first + suc y.batch.dummy) (passes counts j) (successes_of counts j) (omega arith) y.debts (passes_few counts j) got fits

  behind_it : (a : ℕ) (b : Back) → length (s.callers c).retired < shape.callers → Each (lane_sizes shape) (world s L.ghost) c (back_facts c (command (s.callers c)) a b) → ToMark shape s L c
  behind_it a back.Own fits f = of_effect a k.started_at k.rows _ refl fits f.0
  behind_it a (back.Enqueue x) fits f = none f.0.4
  behind_it a back.Dequeue fits f = none f.0.4
  behind_it a (back.Batch d) fits f = none f.0.4
  behind_it a (back.Many d) fits f = none f.1.0.4

  beside_it : (t : Guarding) → length (s.callers c).retired < shape.callers → Each (lane_sizes shape) (world s L.ghost) c (guarding.call_knows c (s.callers c) t) → ToMark shape s L c
  beside_it (guard.Enqueue x p) fits f = none f.0.4
  beside_it (guard.Dequeue p) fits f = none f.0.4
  beside_it (guard.Many d) fits f = none f.0.4
  beside_it (guard.ManyTail d p) fits f = none f.0.4
  beside_it (guard.Help h) fits f = behind_it h.ann h.back fits f.1
  beside_it (guard.HelpTail h p) fits f = behind_it h.ann h.back fits f.1

  at_it : (t : Point) → Few shape c t (s.callers c).ops (s.callers c).rows (s.callers c).walked (s.callers c).retired (s.callers c).named → AtPoint (lane_sizes shape) (world s L.ghost) c (s.callers c) t → ToMark shape s L c
  at_it Idle few f = none f.call.0.4
  at_it (point.Enqueue x p) few f = none f.call.0.4
  at_it (point.Dequeue p) few f = none f.call.0.4
  at_it (point.Take t p) few f = none f.call.0.4
  at_it (point.Guard t p) few f = beside_it t few.few_retired f.call
  at_it (point.Fill n (fill.StoreValue q v)) few f = none f.here.0.4
  at_it (point.Fill n (fill.StoreChain i q y)) few f = none f.here.0.4
  at_it (point.Fill n (fill.LoadHazard e)) few f = none f.here.0.4
  at_it (point.Batch d p) few f = none f.call.0.4
  at_it (point.Many d p) few f = none f.call.0.4
  at_it (point.Help h p) few f = behind_it h.ann h.back few.few_retired f.call.1
  at_it (point.Answer (answer.LoadOldTail h)) few f = of_effect h.ann k.started_at k.rows _ refl few.few_retired (fourth f.here)
  at_it (point.Answer (answer.LoadLink b q l)) few f = of_values b.dummy.count (suc b.dummy.count) (passes (counts_of k.ops) b.queued) (successes_of (counts_of k.ops) b.queued) refl f.here.0.4 (passes_few (counts_of k.ops) b.queued) (gets_few k.ops b.queued) few.few_retired
  at_it (point.Answer (answer.LoadValue b q l)) few f = of_values b.dummy.count (suc b.dummy.count) (passes (counts_of k.ops) b.queued) (successes_of (counts_of k.ops) b.queued) refl f.here.0.4 (passes_few (counts_of k.ops) b.queued) (gets_few k.ops b.queued) few.few_retired
  at_it (point.Close a (close.MarkRow q read passed stopped)) few f = of_run (upto q.count (to_pass (length k.walked) stopped)) (cond read (upto q.count (suc (length k.walked))) (upto (suc q.count) (length k.walked))) q.count (suc (length k.walked))
      f.call.0.4 (λ x. passing stopped x) (λ x. reading read x) (omega (arith, few)) where
        passing : (b : Bool) (x : ℕ) → among (upto q.count (to_pass (length (s.callers c).walked) b)) x ≡ true → among (upto q.count (suc (length (s.callers c).walked))) x ≡ true
        passing true x = within q.count (length k.walked + 1) q.count (suc (length k.walked)) x (omega arith) (omega arith)
        passing false x = within q.count (length k.walked + 0) q.count (suc (length k.walked)) x (omega arith) (omega arith)

        reading : (b : Bool) (x : ℕ) → among (cond b (upto q.count (suc (length (s.callers c).walked))) (upto (suc q.count) (length (s.callers c).walked))) x ≡ true → among (upto q.count (suc (length (s.callers c).walked))) x ≡ true
        reading true x is = is
        reading false x is = within (suc q.count) (length k.walked) q.count (suc (length k.walked)) x (omega arith) (omega arith) is
  at_it (point.Close a (close.MarkLoose q)) few f = none f.call.0.4
  at_it (point.Close a close.ClearNode) few f = none f.call.0.4
  at_it (point.Close a close.ClearAnn) few f = none f.call.0.4
  at_it (point.Close a (close.LoadHazard d)) few f = none f.call.0.4
  at_it (point.Close a (close.MarkFree q)) few f = none f.call.0.4

  pub to_mark : ToMark shape s L c
  to_mark = at_it k.point S.few (known z s L c k.point refl)
