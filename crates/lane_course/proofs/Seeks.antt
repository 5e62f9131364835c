-- The steps of a search for a free row, one after another.
use Rattle.std.proofs.Common.{◌≡◌, ◌<◌, ◌≤◌, arith, ℕ, suc, Bool, true, false, List, ap, sym, refl, subst}
use Rattle.atomic_table.specs.Seated.{TableId}
use Rattle.atomic_table.specs.declared.shared.Seat.{Seat}
use Rattle.bq_model.specs.declared.op.Op.{Op}
use Rattle.bq_model.specs.declared.shape.Shape.{Shape}
use Rattle.excess_count.specs.Pairing.{paired}
use Rattle.word_rows.specs.declared.content.Content.{Content}
use Rattle.lane_steps.specs.declared.point.Closing.TheVariants.{Plain, Batch, Full}
use Rattle.lane_steps.specs.declared.point.Point.TheVariants.{Take}
use Rattle.lane_steps.specs.declared.point.TakePoint.TheVariants.{LoadMark, ClearMark}
use Rattle.lane_steps.specs.declared.point.Taking.{Taking}
use Rattle.lane_steps.specs.LaneSizes.{lane_sizes}
use Rattle.lane_steps.specs.State.{Caller, mark_in}
use Rattle.lane_steps.specs.Step.{closes, followed}
use Rattle.lane_steps.specs.Take as taking
use Rattle.lane_rule.specs.declared.view.View.{View}
use Rattle.lane_rule.specs.Plays.{Moves}
use Rattle.lane_course.specs.declared.next.Next.{Next}
use Rattle.lane_course.specs.declared.next.Next.TheVariants.{Goes, Ends}
use Rattle.lane_course.specs.declared.scratch.Scratch.{Scratch}
use Rattle.lane_course.specs.Next.{Becomes}
use Rattle.lane_course.specs.Running.{Running, GoesTo, EndsTo, IsNext}
use Rattle.lane_course.specs.Scratch.{keeping, SamePuts}
use Rattle.lane_course.proofs.Advances.{follows_next}
use Rattle.lane_course.proofs.Continues.{goes_then, done_then, full_then}
use Rattle.lane_rule.specs.Goes.{left_of}

-- nothing at hand has changed
pub same_puts : (a : Scratch) → SamePuts a a
same_puts a = record { puts = refl; room = record { puts = refl; rows = refl; values = refl; walked = refl; retired = refl; named = refl } }

-- what comes next of a command that has gone on comes next of what it was
pub next_then : (id : TableId) (key s : Shape) (c : ℕ) (b : Scratch) (p q r : Seat ℕ View) (y : Next) → GoesTo p q → left_of q.me.0 ≤ left_of p.me.0 → IsNext id key s c b q r y → IsNext id key s c b p r y
next_then id key s c b p q r (Goes t) goes most next = (next.0, goes_then p q r goes next.1, let less = next.2 in omega (arith, most, less))
next_then id key s c b p q r (Ends (Plain x)) goes most next = done_then p q r p.me.0.kept.ops b refl goes _ next
next_then id key s c b p q r (Ends (Batch m)) goes most next = done_then p q r p.me.0.kept.ops b refl goes (paired p.me.0.kept.ops m b.values.items) (subst (λ (os : List Op). EndsTo q q.me.0.kept.ops (paired os m b.values.items) b r) goes.ops next)
next_then id key s c b p q r (Ends Full) goes most next = full_then p q r p.me.0.kept.ops b refl goes next

module _ (id : TableId) (key s : Shape) (c : ℕ) (t : Taking) (r l : ℕ) (a : Scratch) (p : Seat ℕ View) (run : Running id key s c (Take t (LoadMark r l)) a p) (q : Seat ℕ View) (x : Content) (m : Moves p x q) where
  told : (free : Bool) → (mark_in x).free ≡ free → (b : Scratch) (y : Next) → ((n : ℕ) (w : Caller) → Becomes n c w b y (followed (lane_sizes s) n c (keeping w a) (taking.after_mark t r l free))) → SamePuts a b → IsNext id key s c b p q y
  told free is b y becomes same = follows_next id key s c (Take t (LoadMark r l)) a p run q x m b y
      (λ n w _. subst (λ (f : Bool). Becomes n c w b y (followed (lane_sizes s) n c (keeping w a) (taking.after_mark t r l f))) (sym is) (becomes n w)) same

  pub finds_free : (mark_in x).free ≡ true → Running id key s c (Take t (ClearMark r)) a q × GoesTo p q × (left_of q.me.0 < left_of p.me.0)
  finds_free is = told true is a (Goes (Take t (ClearMark r))) (λ n w. refl) (same_puts a)

  pub seeks_on : (left : ℕ) → l ≡ suc left → (mark_in x).free ≡ false → Running id key s c (Take t (LoadMark (suc r) left)) a q × GoesTo p q × (left_of q.me.0 < left_of p.me.0)
  seeks_on left more is = told false is a (Goes (Take t (LoadMark (suc r) left)))
      (λ n w. ap (λ (k : ℕ). followed (lane_sizes s) n c (keeping w a) (taking.after_mark t r k false)) more) (same_puts a)

  pub lacks : l ≡ 0 → (mark_in x).free ≡ false → (b : Scratch) (y : Next) → ((n : ℕ) (w : Caller) → Becomes n c w b y (closes n c (keeping w a) Full)) → SamePuts a b → IsNext id key s c b p q y
  lacks none is b y becomes same = told false is b y
      (λ n w. subst (λ (k : ℕ). Becomes n c w b y (followed (lane_sizes s) n c (keeping w a) (taking.after_mark t r k false))) (sym none) (becomes n w)) same
