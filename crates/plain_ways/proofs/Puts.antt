-- The steps of an enqueue, as what its command is then.
use Rattle.std.proofs.Common.{◌≡◌, ◌<◌, ℕ, Bool, true, false, cond, arith, refl, sym, ap}
use Rattle.atomic_table.specs.Seated.{TableId}
use Rattle.atomic_table.specs.declared.shared.Seat.{Seat}
use Rattle.bq_model.specs.declared.op.Answer.TheVariants.{Done}
use Rattle.bq_model.specs.declared.shape.Shape.{Shape}
use Rattle.word_rows.specs.declared.content.Content.{Content}
use Rattle.word_rows.specs.declared.content.Content.TheVariants.{OfTail}
use Rattle.word_rows.specs.declared.link_word.LinkWord.{LinkWord}
use Rattle.word_rows.specs.declared.place.Place.{Place}
use Rattle.lane_steps.specs.declared.course.Course.{Course}
use Rattle.lane_steps.specs.declared.course.Course.TheVariants.{GoesOn, Holds}
use Rattle.lane_steps.specs.declared.point.Closing.TheVariants.{Plain}
use Rattle.lane_steps.specs.declared.point.EnqueuePoint.TheVariants.{StoreValue, LoadTail, LoadLink, LinkSingle, MoveTail}
use Rattle.lane_steps.specs.declared.point.GuardPoint.TheVariants.{StoreHazard, LoadAgain}
use Rattle.lane_steps.specs.declared.point.Guarding.TheVariants as guard
use Rattle.lane_steps.specs.declared.point.Hold.{Hold}
use Rattle.lane_steps.specs.declared.point.Hold.TheVariants.{Names, Held}
use Rattle.lane_steps.specs.declared.point.Item.{Item}
use Rattle.lane_steps.specs.declared.point.Point.{Point}
use Rattle.lane_steps.specs.declared.point.Point.TheVariants.{Take, Guard, Enqueue}
use Rattle.lane_steps.specs.declared.point.TakePoint.TheVariants.{ClearMark, ClearLink}
use Rattle.lane_steps.specs.declared.point.Taking.TheVariants as taking
use Rattle.lane_steps.specs.Act.{is_nil, same_content}
use Rattle.lane_steps.specs.Enqueue.{after_link}
use Rattle.lane_steps.specs.LaneSizes.{lane_sizes}
use Rattle.lane_steps.specs.State.{link_in, tail_in}
use Rattle.lane_steps.specs.Step.{closes, followed}
use Rattle.lane_rule.specs.declared.view.View.{View}
use Rattle.lane_rule.specs.Goes.{left_of}
use Rattle.lane_rule.specs.Plays.{Moves}
use Rattle.lane_course.specs.Along.{Along}
use Rattle.lane_course.specs.Led.{Led}
use Rattle.lane_course.specs.declared.next.Next.TheVariants.{Goes}
use Rattle.lane_course.specs.declared.scratch.Scratch.{Scratch}
use Rattle.lane_course.specs.Running.{IsNext}
use Rattle.lane_course.specs.Scratch.{keeping, SamePuts}
use Rattle.lane_course.proofs.Seeks.{same_puts}
use Rattle.lane_course.proofs.Ways.{steps_to, ends, led, less}
use Rattle.lane_course.proofs.Continues.{goes_then}

-- what its hazard word names changes nothing else at hand
pub same_held : (a : Scratch) (h : Hold) → SamePuts a (record a { row_hold = h })
same_held a h = record { puts = refl; room = record { puts = refl; rows = refl; values = refl; walked = refl; retired = refl; named = refl } }

-- one way after another
pub then_along : {id : TableId} {key s : Shape} {c : ℕ} {t u : Point} {a b : Scratch} {p q r : Seat ℕ View} → Along id key s c t a p q → Along id key s c u b q r → Along id key s c u b p r
then_along {p} {q} {r} x y = record { runs = y.runs; goes = goes_then p q r x.goes y.goes; most = let first = x.most in let second = y.most in omega (arith, first, second) }

-- the tail is found as before, or not
abbrev after_again : Item → Place → Bool → Course
after_again x tail b = cond b (Holds (Enqueue x (LoadLink tail)) (Held tail.row)) (GoesOn (Enqueue x LoadTail))

module _ {id : TableId} {key s : Shape} {c : ℕ} {x : Item} {a : Scratch} {p q : Seat ℕ View} (r : Seat ℕ View) (found : Content) (m : Moves q found r) where
  pub mark_cleared : Along id key s c (Take (taking.Enqueue x.value) (ClearMark x.row)) a p q → Along id key s c (Take (taking.Enqueue x.value) (ClearLink x.row)) a p r
  mark_cleared way = steps_to way r found m (Take (taking.Enqueue x.value) (ClearLink x.row)) a (λ n w _. refl) (same_puts a)

  pub link_cleared : Along id key s c (Take (taking.Enqueue x.value) (ClearLink x.row)) a p q → Along id key s c (Enqueue x StoreValue) a p r
  link_cleared way = steps_to way r found m (Enqueue x StoreValue) a (λ n w _. refl) (same_puts a)

  pub value_stored : Along id key s c (Enqueue x StoreValue) a p q → Along id key s c (Enqueue x LoadTail) a p r
  value_stored way = steps_to way r found m (Enqueue x LoadTail) a (λ n w _. refl) (same_puts a)

  pub tail_loaded : (tail : Place) → tail ≡ tail_in found → Along id key s c (Enqueue x LoadTail) a p q → Along id key s c (Guard (guard.Enqueue x tail) StoreHazard) a p r
  tail_loaded tail is way = steps_to way r found m (Guard (guard.Enqueue x tail) StoreHazard) a (λ n w _. ap (λ (y : Place). record (keeping w a) { point = Guard (guard.Enqueue x y) StoreHazard }) (sym is)) (same_puts a)

  pub hazard_stored : (tail : Place) → Along id key s c (Guard (guard.Enqueue x tail) StoreHazard) a p q → Along id key s c (Guard (guard.Enqueue x tail) LoadAgain) (record a { row_hold = Names tail.row }) p r
  hazard_stored tail way = steps_to way r found m (Guard (guard.Enqueue x tail) LoadAgain) (record a { row_hold = Names tail.row }) (λ n w _. refl) (same_held a (Names tail.row))

  pub held : (tail : Place) → same_content found (OfTail tail) ≡ true → Along id key s c (Guard (guard.Enqueue x tail) LoadAgain) a p q → Along id key s c (Enqueue x (LoadLink tail)) (record a { row_hold = Held tail.row }) p r
  held tail is way = steps_to way r found m (Enqueue x (LoadLink tail)) (record a { row_hold = Held tail.row }) (λ n w _. ap (λ (b : Bool). followed (lane_sizes s) n c (keeping w a) (after_again x tail b)) is) (same_held a (Held tail.row))

  pub not_held : (tail : Place) → same_content found (OfTail tail) ≡ false → Along id key s c (Guard (guard.Enqueue x tail) LoadAgain) a p q → Along id key s c (Enqueue x LoadTail) a p r
  not_held tail is way = steps_to way r found m (Enqueue x LoadTail) a (λ n w _. ap (λ (b : Bool). followed (lane_sizes s) n c (keeping w a) (after_again x tail b)) is) (same_puts a)

  pub link_loaded : (tail : Place) (link : LinkWord) → link_in found ≡ link → Along id key s c (Enqueue x (LoadLink tail)) a p q → Along id key s c (Enqueue x (after_link tail link)) a p r
  link_loaded tail link is way = steps_to way r found m (Enqueue x (after_link tail link)) a (λ n w _. ap (λ (y : LinkWord). record (keeping w a) { point = Enqueue x (after_link tail y) }) is) (same_puts a)

  pub single_linked : (tail : Place) (b : Bool) → is_nil (link_in found) ≡ b → Along id key s c (Enqueue x (LinkSingle tail)) a p q → Along id key s c (Enqueue x (cond b (MoveTail tail x.row) LoadTail)) a p r
  single_linked tail b is way = steps_to way r found m (Enqueue x (cond b (MoveTail tail x.row) LoadTail)) a (λ n w _. ap (λ (y : Bool). record (keeping w a) { point = Enqueue x (cond y (MoveTail tail x.row) LoadTail) }) is) (same_puts a)

  pub tail_moved : (tail : Place) → Along id key s c (Enqueue x (MoveTail tail x.row)) a p q → Led id key s c (λ n k. closes n c k (Plain Done)) a p r
  tail_moved tail way = led way r found m (λ n k. closes n c k (Plain Done)) a (λ n w. refl) (same_puts a)

  pub link_less : (tail : Place) (link : LinkWord) → link_in found ≡ link → Along id key s c (Enqueue x (LoadLink tail)) a p q → left_of r.me.0 < left_of q.me.0
  link_less tail link is way = less way r found m (Enqueue x (after_link tail link)) a (λ n w _. ap (λ (y : LinkWord). record (keeping w a) { point = Enqueue x (after_link tail y) }) is) (same_puts a)

  pub tail_less : (tail : Place) → tail ≡ tail_in found → Along id key s c (Enqueue x LoadTail) a p q → left_of r.me.0 < left_of q.me.0
  tail_less tail is way = less way r found m (Guard (guard.Enqueue x tail) StoreHazard) a (λ n w _. ap (λ (y : Place). record (keeping w a) { point = Guard (guard.Enqueue x y) StoreHazard }) (sym is)) (same_puts a)

  -- it leaves the way after its load of a link
  pub leaves : (tail : Place) (link : LinkWord) → link_in found ≡ link → Along id key s c (Enqueue x (LoadLink tail)) a p q → IsNext id key s c a p r (Goes (Enqueue x (after_link tail link)))
  leaves tail link is way = ends way r found m (Goes (Enqueue x (after_link tail link))) a (λ n w _. ap (λ (y : LinkWord). record (keeping w a) { point = Enqueue x (after_link tail y) }) is) (same_puts a)
