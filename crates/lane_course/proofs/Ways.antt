-- A running command that goes on step by step, to where it ends or leaves its usual way.
use Rattle.std.proofs.Common.{◌≡◌, ◌<◌, ℕ, arith, ◌∙◌, sym, subst, refl}
use Rattle.atomic_table.specs.Seated.{TableId}
use Rattle.atomic_table.specs.declared.shared.Seat.{Seat}
use Rattle.bq_model.specs.declared.shape.Shape.{Shape}
use Rattle.bq_model.specs.Values.{enqueued}
use Rattle.word_rows.specs.declared.content.Content.{Content}
use Rattle.lane_steps.specs.declared.point.Hold.{Hold}
use Rattle.lane_steps.specs.declared.point.Point.{Point}
use Rattle.lane_steps.specs.LaneSizes.{lane_sizes}
use Rattle.lane_steps.specs.State.{Caller}
use Rattle.lane_steps.specs.Step.{act, course, followed}
use Rattle.lane_rule.specs.declared.view.View.{View}
use Rattle.lane_rule.specs.Goes.{left_of}
use Rattle.lane_rule.specs.Plays.{IsAt, Moves}
use Rattle.lane_course.specs.declared.next.Next.{Next}
use Rattle.lane_course.specs.declared.next.Next.TheVariants.{Goes}
use Rattle.lane_course.specs.declared.scratch.Scratch.{Scratch}
use Rattle.lane_course.specs.Along.{Along}
use Rattle.lane_course.specs.Led.{Led}
use Rattle.lane_course.specs.Next.{Becomes}
use Rattle.lane_course.specs.Running.{Running, GoesTo, IsNext}
use Rattle.lane_course.specs.Scratch.{keeping, HasRoom, SamePuts}
use Rattle.lane_course.proofs.Advances.{room_for, follows_next}
use Rattle.lane_course.proofs.Continues.{goes_here, goes_then}
use Rattle.lane_course.proofs.Seeks.{next_then}

pub same_then : {a b d : Scratch} → SamePuts a b → SamePuts b d → SamePuts a d
same_then x y = record {
  puts = y.puts ∙ x.puts;
  room = record {
    puts = y.room.puts ∙ x.room.puts;
    rows = y.room.rows ∙ x.room.rows;
    values = y.room.values ∙ x.room.values;
    walked = y.room.walked ∙ x.room.walked;
    retired = y.room.retired ∙ x.room.retired;
    named = y.room.named ∙ x.room.named;
  };
}

-- it stands where it begins
pub here : {id : TableId} {key s : Shape} {c : ℕ} {t : Point} {a : Scratch} {p : Seat ℕ View} → Running id key s c t a p → Along id key s c t a p p
here {p} run = record { runs = run; goes = goes_here p; most = omega arith }

module _ {id : TableId} {key s : Shape} {c : ℕ} {t : Point} {a : Scratch} {p q : Seat ℕ View} (way : Along id key s c t a p q) where
  -- what comes next of it comes next of what it was
  pub next : (b : Scratch) (r : Seat ℕ View) (y : Next) → IsNext id key s c b q r y → IsNext id key s c b p r y
  next b r y is = next_then id key s c b p q r y way.goes way.most is

  -- it has gone on at this point
  pub on : {u : Point} {b : Scratch} {r : Seat ℕ View} → Running id key s c u b r × GoesTo q r × (left_of r.me.0 < left_of q.me.0) → Along id key s c u b p r
  on {r} is = record { runs = is.0; goes = goes_then p q r way.goes is.1; most = let most = way.most in let less = is.2 in omega (arith, most, less) }

  module _ (r : Seat ℕ View) (x : Content) (m : Moves q x r) where
    -- there is room for what the step adds to the lists
    pub room : HasRoom s.callers (course t x) a
    room = room_for id key s c t a q way.runs r x m

    -- the step leads to the point u
    pub steps_to : (u : Point) (b : Scratch) → ((n : ℕ) (w : Caller) → a.puts.items ≡ enqueued w.ops → Becomes n c w b (Goes u) (followed (lane_sizes s) n c (keeping w a) (course t x))) → SamePuts a b → Along id key s c u b p r
    steps_to u b becomes same = on (follows_next id key s c t a q way.runs r x m b (Goes u) becomes same)

    -- the step leaves less of it
    pub less : (u : Point) (b : Scratch) → ((n : ℕ) (w : Caller) → a.puts.items ≡ enqueued w.ops → Becomes n c w b (Goes u) (followed (lane_sizes s) n c (keeping w a) (course t x))) → SamePuts a b → left_of r.me.0 < left_of q.me.0
    less u b becomes same = (follows_next id key s c t a q way.runs r x m b (Goes u) becomes same).2

    -- this comes next after the step
    pub ends : (y : Next) (b : Scratch) → ((n : ℕ) (w : Caller) → a.puts.items ≡ enqueued w.ops → Becomes n c w b y (followed (lane_sizes s) n c (keeping w a) (course t x))) → SamePuts a b → IsNext id key s c b p r y
    ends y b becomes same = next b r y (follows_next id key s c t a q way.runs r x m b y becomes same)

    -- whatever f of what is at hand says comes next
    pub led : (f : ℕ → Caller → Caller) (b : Scratch) → ((n : ℕ) (w : Caller) → f n (keeping w b) ≡ followed (lane_sizes s) n c (keeping w a) (course t x)) → SamePuts a b → Led id key s c f b p r
    led f b says same = record { then = λ y d becomes kept. ends y d (λ n w _. subst (Becomes n c w d y) (says n w) (becomes n w)) (same_then same kept) }

-- where the seat of a running command stands, in its own words
pub stands_at : {id : TableId} {key s : Shape} {c : ℕ} {t : Point} {a : Scratch} {p : Seat ℕ View} → Running id key s c t a p → IsAt id key s p.me.0.caller p.me.0.kept.point p
stands_at {id} {key} {s} {p} run = let at = run.stands in subst (λ (y : ℕ × Point). IsAt id key s y.0 y.1 p) (λ i. (sym at.caller i, sym at.point i)) at

pub acts : {id : TableId} {key s : Shape} {c : ℕ} {t : Point} {a : Scratch} {p : Seat ℕ View} → Running id key s c t a p → act p.me.0.caller p.me.0.kept.point ≡ act c t
acts run = let at = run.stands in λ i. act (at.caller i) (at.point i)

module _ {id : TableId} {key s : Shape} {c : ℕ} {f : ℕ → Caller → Caller} {a : Scratch} {p q : Seat ℕ View} (is : Led id key s c f a p q) where
  -- g of what is at hand says the same
  pub led_as : (g : ℕ → Caller → Caller) (b : Scratch) → ((n : ℕ) (w : Caller) → g n (keeping w b) ≡ f n (keeping w a)) → SamePuts a b → Led id key s c g b p q
  led_as g b says same = record { then = λ y d becomes kept. is.then y d (λ n w. subst (Becomes n c w d y) (says n w) (becomes n w)) (same_then same kept) }

-- the command of p goes on so, and what comes next of it then comes next of it
pub then_next : {id : TableId} {key s : Shape} {c : ℕ} {u : Point} {a : Scratch} {p q : Seat ℕ View} → IsNext id key s c a p q (Goes u) → (b : Scratch) (r : Seat ℕ View) (y : Next) → IsNext id key s c b q r y → IsNext id key s c b p r y
then_next {id} {key} {s} {c} {p} {q} is b r y after = let less = is.2 in next_then id key s c b p q r y is.1 (omega (arith, less)) after

-- what comes next of it, in other words
pub is_told : (id : TableId) (key s : Shape) (c : ℕ) (a : Scratch) (p q : Seat ℕ View) (y z : Next) → z ≡ y → IsNext id key s c a p q y → IsNext id key s c a p q z
is_told id key s c a p q y z same is = subst (λ (x : Next). IsNext id key s c a p q x) (sym same) is

-- what its hazard words name has changed at hand
pub same_row_hold : (a : Scratch) (h : Hold) → SamePuts a (record a { row_hold = h })
same_row_hold a h = record { puts = refl; room = record { puts = refl; rows = refl; values = refl; walked = refl; retired = refl; named = refl } }

pub same_hold : (a : Scratch) (h : Hold) → SamePuts a (record a { hold = h })
same_hold a h = record { puts = refl; room = record { puts = refl; rows = refl; values = refl; walked = refl; retired = refl; named = refl } }
