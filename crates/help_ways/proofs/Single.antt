-- One step of a running command, and what comes after it.
use Rattle.std.proofs.Common.{◌≡◌, ◌<◌, ℕ, suc, Bool, false, [], ◌∷◌, ◌++◌, arith, ◌∙◌, ap, sym, refl, subst}
use Rattle.atomic_table.specs.Seated.{TableId}
use Rattle.atomic_table.specs.declared.shared.Seat.{Seat}
use Rattle.bq_model.specs.declared.shape.Shape.{Shape}
use Rattle.bq_model.specs.Values.{enqueued}
use Rattle.word_rows.specs.declared.content.Content.{Content}
use Rattle.lane_steps.specs.declared.act.Act.{Act}
use Rattle.lane_steps.specs.declared.course.Course.{Course}
use Rattle.lane_steps.specs.declared.course.Course.TheVariants as goes
use Rattle.lane_steps.specs.declared.point.Closing.{Closing}
use Rattle.lane_steps.specs.declared.point.Closing.TheVariants.{Batch}
use Rattle.lane_steps.specs.declared.point.Reading.{Reading}
use Rattle.lane_steps.specs.declared.point.AnswerPoint.TheVariants.{LoadLink}
use Rattle.lane_steps.specs.declared.point.Point.TheVariants.{Answer}
use Rattle.word_rows.specs.declared.place.Place.{Place}
use Rattle.lane_steps.specs.declared.point.Hold.{Hold}
use Rattle.lane_steps.specs.declared.point.Point.{Point}
use Rattle.lane_steps.specs.LaneSizes.{lane_sizes}
use Rattle.lane_steps.specs.State.{Caller}
use Rattle.lane_steps.specs.Step.{act, course, followed, closes, marks_all, rows_left}
use Rattle.lane_rule.specs.declared.view.View.{View}
use Rattle.lane_rule.specs.Goes.{left_of}
use Rattle.lane_rule.specs.Plays.{IsAt, Moves}
use Rattle.lane_course.specs.declared.next.Next.{Next}
use Rattle.lane_course.specs.declared.next.Next.TheVariants.{Goes}
use Rattle.lane_course.specs.declared.scratch.Scratch.{Scratch}
use Rattle.lane_course.specs.Along.{Along}
use Rattle.lane_course.specs.Led.{Led}
use Rattle.lane_course.specs.Next.{Becomes}
use Rattle.lane_course.specs.Running.{Running, GoesTo, IsNext}
use Rattle.lane_course.specs.Scratch.{keeping, HasRoom, SamePuts}
use Rattle.lane_course.proofs.Advances.{room_for, follows_next}
use Rattle.lane_course.proofs.Seeks.{next_then, same_puts}

pub same_then : {a b d : Scratch} → SamePuts a b → SamePuts b d → SamePuts a d
same_then x y = record {
  puts = y.puts ∙ x.puts;
  room = record {
    puts = y.room.puts ∙ x.room.puts;
    rows = y.room.rows ∙ x.room.rows;
    values = y.room.values ∙ x.room.values;
    walked = y.room.walked ∙ x.room.walked;
    retired = y.room.retired ∙ x.room.retired;
    named = y.room.named ∙ x.room.named;
  };
}

module _ {id : TableId} {key s : Shape} {c : ℕ} {t : Point} {a : Scratch} {p : Seat ℕ View} (run : Running id key s c t a p) where
  -- it stands at its own point
  pub stands_own : IsAt id key s p.me.0.caller p.me.0.kept.point p
  stands_own = let at = run.stands in subst (λ (y : ℕ × Point). IsAt id key s y.0 y.1 p) (λ i. (sym at.caller i, sym at.point i)) at

  pub acts_own : (y : Act) → act c t ≡ y → act p.me.0.caller p.me.0.kept.point ≡ y
  acts_own y is = let at = run.stands in (λ i. act (at.caller i) (at.point i)) ∙ is

  module _ {q : Seat ℕ View} {x : Content} (m : Moves p x q) where
    -- there is room for what the step adds to the lists
    pub room_then : HasRoom s.callers (course t x) a
    room_then = room_for id key s c t a p run q x m

    -- this comes next after the step
    pub leads : (y : Next) (b : Scratch) → ((n : ℕ) (w : Caller) → a.puts.items ≡ enqueued w.ops → Becomes n c w b y (followed (lane_sizes s) n c (keeping w a) (course t x))) → SamePuts a b → IsNext id key s c b p q y
    leads y b becomes same = follows_next id key s c t a p run q x m b y becomes same

    -- the command goes on at the point u, and nothing at hand has changed
    pub steps : (u : Point) → course t x ≡ goes.GoesOn u → Running id key s c u a q × GoesTo p q × (left_of q.me.0 < left_of p.me.0)
    steps u is = leads (Goes u) a (λ n w _. ap (followed (lane_sizes s) n c (keeping w a)) is) (same_puts a)

    -- it goes on so, and names this in its NODE_HAZARD or its ANN_HAZARD
    pub holds : (u : Point) (h : Hold) → course t x ≡ goes.Holds u h → Running id key s c u (record a { row_hold = h }) q × GoesTo p q × (left_of q.me.0 < left_of p.me.0)
    holds u h is = leads (Goes u) (record a { row_hold = h }) (λ n w _. ap (followed (lane_sizes s) n c (keeping w a)) is) (record { puts = refl; room = record { puts = refl; rows = refl; values = refl; walked = refl; retired = refl; named = refl } })

    pub guards : (u : Point) (h : Hold) → course t x ≡ goes.Guards u h → Running id key s c u (record a { hold = h }) q × GoesTo p q × (left_of q.me.0 < left_of p.me.0)
    guards u h is = leads (Goes u) (record a { hold = h }) (λ n w _. ap (followed (lane_sizes s) n c (keeping w a)) is) (record { puts = refl; room = record { puts = refl; rows = refl; values = refl; walked = refl; retired = refl; named = refl } })

    follows_so : (n : ℕ) (w : Caller) (z : Course) → course t x ≡ z → followed (lane_sizes s) n c (keeping w a) (course t x) ≡ followed (lane_sizes s) n c (keeping w a) z
    follows_so n w z is = ap (followed (lane_sizes s) n c (keeping w a)) is

    -- it goes on with no value read, or with one more
    pub walks : (u : Point) → course t x ≡ goes.Walks u → (d : Scratch) → ((k : Caller) → keeping k d ≡ record (keeping k a) { values = []; walked = [] }) → SamePuts a d
        → Running id key s c u d q × GoesTo p q × (left_of q.me.0 < left_of p.me.0)
    walks u is d none same = leads (Goes u) d (λ n w _. follows_so n w (goes.Walks u) is ∙ ap (λ (k : Caller). record k { point = u }) (sym (none w))) same

    pub walks_more : (u : Point) (r v : ℕ) → course t x ≡ goes.WalksMore u r v → (d : Scratch) → ((k : Caller) → keeping k d ≡ record (keeping k a) { values = a.values.items ++ v ∷ []; walked = a.walked.items ++ r ∷ [] }) → SamePuts a d
        → Running id key s c u d q × GoesTo p q × (left_of q.me.0 < left_of p.me.0)
    walks_more u r v is d one same = leads (Goes u) d (λ n w _. follows_so n w (goes.WalksMore u r v) is ∙ ap (λ (k : Caller). record k { point = u }) (sym (one w))) same

    -- it begins to read its answers, of which some are left, or none
    module _ (b : Reading) (r l : ℕ) (linked : Bool) (is : course t x ≡ goes.Reads b r l linked) (d : Scratch) (read : (k : Caller) → keeping k d ≡ record (keeping k a) { rows = rows_left linked a.rows.items; values = []; walked = [] }) (same : SamePuts a d) where
      pub reads : (left : ℕ) → l ≡ suc left → Running id key s c (Answer (LoadLink b r left)) d q × GoesTo p q × (left_of q.me.0 < left_of p.me.0)
      reads left more = leads (Goes (Answer (LoadLink b r left))) d
          (λ n w _. follows_so n w (goes.Reads b r (suc left) linked) (is ∙ ap (λ (k : ℕ). goes.Reads b r k linked) more) ∙ ap (λ (k : Caller). record k { point = Answer (LoadLink b r left) }) (sym (read w))) same

      pub reads_none : l ≡ 0 → Led id key s c (λ n k. marks_all n c k (Batch b.queued) b.stopped b.dummy) d p q
      reads_none none = record {
        then = λ y e becomes less. leads y e
            (λ n w _. subst (Becomes n c w e y) (ap (λ (k : Caller). marks_all n c k (Batch b.queued) b.stopped b.dummy) (read w) ∙ sym (follows_so n w (goes.Reads b r 0 linked) (is ∙ ap (λ (k : ℕ). goes.Reads b r k linked) none))) (becomes n w)) (same_then same less);
      }

    -- it has read one more value, and others are left, or none
    module _ (b : Reading) (r l v : ℕ) (is : course t x ≡ goes.ReadsMore b r l v) (d : Scratch) (one : (k : Caller) → keeping k d ≡ record (keeping k a) { values = a.values.items ++ v ∷ []; walked = a.walked.items ++ r ∷ [] }) (same : SamePuts a d) where
      pub reads_more : (left : ℕ) → l ≡ suc left → Running id key s c (Answer (LoadLink b r left)) d q × GoesTo p q × (left_of q.me.0 < left_of p.me.0)
      reads_more left more = leads (Goes (Answer (LoadLink b r left))) d
          (λ n w _. follows_so n w (goes.ReadsMore b r (suc left) v) (is ∙ ap (λ (k : ℕ). goes.ReadsMore b r k v) more) ∙ ap (λ (k : Caller). record k { point = Answer (LoadLink b r left) }) (sym (one w))) same

      pub reads_last : l ≡ 0 → Led id key s c (λ n k. marks_all n c k (Batch b.queued) b.stopped b.dummy) d p q
      reads_last none = record {
        then = λ y e becomes less. leads y e
            (λ n w _. subst (Becomes n c w e y) (ap (λ (k : Caller). marks_all n c k (Batch b.queued) b.stopped b.dummy) (one w) ∙ sym (follows_so n w (goes.ReadsMore b r 0 v) (is ∙ ap (λ (k : ℕ). goes.ReadsMore b r k v) none))) (becomes n w)) (same_then same less);
      }

    -- it has moved the head over all its rows
    pub moves : (dummy : Place) (n : ℕ) → course t x ≡ goes.Moves dummy n → Led id key s c (λ m k. marks_all m c k (Batch n) false dummy) a p q
    moves dummy n is = record { then = λ y e becomes same. leads y e (λ m w _. subst (Becomes m c w e y) (sym (follows_so m w (goes.Moves dummy n) is)) (becomes m w)) same }

    -- it marks no row of its list, or ends
    pub closes_so : (z : Closing) → course t x ≡ goes.Closes z → Led id key s c (λ m k. closes m c k z) a p q
    closes_so z is = record { then = λ y e becomes same. leads y e (λ m w _. subst (Becomes m c w e y) (sym (follows_so m w (goes.Closes z) is)) (becomes m w)) same }

-- what comes next of a command that has gone on comes next of what it was
module _ {id : TableId} {key s : Shape} {c : ℕ} {u : Point} {a : Scratch} {p q : Seat ℕ View} (on : Running id key s c u a q × GoesTo p q × (left_of q.me.0 < left_of p.me.0)) where
  pub then : (b : Scratch) (r : Seat ℕ View) (y : Next) → IsNext id key s c b q r y → IsNext id key s c b p r y
  then b r y is = next_then id key s c b p q r y on.1 (let less = on.2 in omega (arith, less)) is

  pub then_on : {v : Point} {b : Scratch} {r : Seat ℕ View} → Running id key s c v b r × GoesTo q r × (left_of r.me.0 < left_of q.me.0) → Running id key s c v b r × GoesTo p r × (left_of r.me.0 < left_of p.me.0)
  then_on {v} {b} {r} is = then b r (Goes v) is

-- the same of one that has gone on for some steps, or for none
module _ {id : TableId} {key s : Shape} {c : ℕ} {t : Point} {a : Scratch} {p q : Seat ℕ View} (way : Along id key s c t a p q) where
  pub at_last : (b : Scratch) (r : Seat ℕ View) (y : Next) → IsNext id key s c b q r y → IsNext id key s c b p r y
  at_last b r y is = next_then id key s c b p q r y way.goes way.most is

  pub at_last_on : {v : Point} {b : Scratch} {r : Seat ℕ View} → Running id key s c v b r × GoesTo q r × (left_of r.me.0 < left_of q.me.0) → Running id key s c v b r × GoesTo p r × (left_of r.me.0 < left_of p.me.0)
  at_last_on {v} {b} {r} is = at_last b r (Goes v) is

  pub along : {v : Point} {b : Scratch} {r : Seat ℕ View} → Running id key s c v b r × GoesTo q r × (left_of r.me.0 < left_of q.me.0) → Along id key s c v b p r
  along {v} {b} {r} is = let on = at_last_on is in record { runs = on.0; goes = on.1; most = let less = on.2 in omega (arith, less) }

-- it is at the same point, by another name
pub at_point : {A : Type 0} {id : TableId} {key s : Shape} {c : ℕ} {a : Scratch} {p q : Seat ℕ View} (f : A → Point) {u v : A} → Running id key s c (f u) a q × GoesTo p q × (left_of q.me.0 < left_of p.me.0) → u ≡ v → Running id key s c (f v) a q × GoesTo p q × (left_of q.me.0 < left_of p.me.0)
at_point {A} {id} {key} {s} {c} {a} {p} {q} f on is = (subst (λ (w : A). Running id key s c (f w) a q) is on.0, on.1, on.2)
