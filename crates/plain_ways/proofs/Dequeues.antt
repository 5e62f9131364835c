-- The steps of a plain dequeue, each as its caller finds it.
use Rattle.std.proofs.Common.{◌≡◌, ◌<◌, ◌∙◌, ℕ, Bool, true, false, cond, List, [], ◌∷◌, length, refl, sym, ap}
use Rattle.atomic_table.specs.Seated.{TableId}
use Rattle.atomic_table.specs.declared.shared.Seat.{Seat}
use Rattle.bq_model.specs.declared.shape.Shape.{Shape}
use Rattle.bq_model.specs.declared.op.Op.{Op}
use Rattle.bq_model.specs.declared.op.Answer.TheVariants.{Got, Empty}
use Rattle.bq_model.specs.Values.{enqueued}
use Rattle.word_rows.specs.declared.content.Content.{Content}
use Rattle.word_rows.specs.declared.content.Content.TheVariants.{OfHead, OfTail, OfLink, OfValue, OfMark, OfNodeHazard, OfAnnHazard, OfOldTail, OfChainEnd, OfCounts, OfBatchNo, OfOrder}
use Rattle.word_rows.specs.declared.head_word.HeadWord.{HeadWord}
use Rattle.word_rows.specs.declared.head_word.HeadWord.TheVariants.{Node}
use Rattle.word_rows.specs.declared.link_word.LinkWord.{LinkWord}
use Rattle.word_rows.specs.declared.link_word.LinkWord.TheVariants.{Nil, Single}
use Rattle.word_rows.specs.declared.place.Place.{Place}
use Rattle.lane_steps.specs.Act.{is_node, same_content, same_place}
use Rattle.lane_steps.specs.Dequeue.{after_head, after_link}
use Rattle.lane_steps.specs.Functions.{Distinct}
use Rattle.lane_steps.specs.LaneSizes.{lane_sizes}
use Rattle.lane_steps.specs.State.{Caller, head_in, tail_in, link_in, value_in}
use Rattle.lane_steps.specs.Step.{followed, closes, marks_all}
use Rattle.lane_steps.specs.declared.course.Course.TheVariants.{GoesOn, Holds, Passes}
use Rattle.lane_steps.specs.declared.point.Closing.TheVariants.{Plain}
use Rattle.lane_steps.specs.declared.point.DequeuePoint.TheVariants.{LoadHead, LoadLink, LoadTail, PassTail, LoadValue, MoveHead}
use Rattle.lane_steps.specs.declared.point.GuardPoint.TheVariants.{StoreHazard, LoadAgain}
use Rattle.lane_steps.specs.declared.point.Guarding.TheVariants as guarding
use Rattle.lane_steps.specs.declared.point.Hold.TheVariants.{Names, Held}
use Rattle.lane_steps.specs.declared.point.Point.TheVariants.{Guard, Dequeue}
use Rattle.lane_rule.specs.declared.view.View.{View}
use Rattle.lane_rule.specs.Plays.{IsIdle, Moves, Starts}
use Rattle.lane_course.specs.declared.next.Next.TheVariants.{Goes}
use Rattle.lane_course.specs.Along.{Along}
use Rattle.lane_course.specs.Led.{Led}
use Rattle.lane_course.specs.Running.{Agrees, IsNext, begun_seat}
use Rattle.lane_course.specs.Scratch.{SamePuts, Reserves, keeping}
use Rattle.lane_course.specs.declared.scratch.Scratch.{Scratch}
use Rattle.lane_course.proofs.Seeks.{same_puts}
use Rattle.lane_course.proofs.Advances.{starts_running}
use Rattle.lane_course.proofs.Ways.{here, steps_to, ends, led}

-- a head that names the dummy is what its guard expects, and no other content is
expects : (x : Content) (d : Place) → same_content x (OfHead (Node d)) ≡ is_node (head_in x) d
expects (OfHead x) d = refl
expects (OfTail x) d = refl
expects (OfLink x) d = refl
expects (OfValue x) d = refl
expects (OfMark x) d = refl
expects (OfNodeHazard x) d = refl
expects (OfAnnHazard x) d = refl
expects (OfOldTail x) d = refl
expects (OfChainEnd x) d = refl
expects (OfCounts x) d = refl
expects (OfBatchNo x) d = refl
expects (OfOrder x) d = refl

by_again : (s : Shape) (n c : ℕ) (w : Caller) (x : Content) (d : Place) → followed (lane_sizes s) n c w (cond (is_node (head_in x) d) (Holds (Dequeue (LoadLink d)) (Held d.row)) (GoesOn (Dequeue LoadHead))) ≡ followed (lane_sizes s) n c w (cond (same_content x (OfHead (Node d))) (Holds (Dequeue (LoadLink d)) (Held d.row)) (GoesOn (Dequeue LoadHead)))
by_again s n c w x d = ap (λ (b : Bool). followed (lane_sizes s) n c w (cond b (Holds (Dequeue (LoadLink d)) (Held d.row)) (GoesOn (Dequeue LoadHead)))) (sym (expects x d))

module _ {id : TableId} {key s : Shape} {c : ℕ} {a : Scratch} {p q : Seat ℕ View} (r : Seat ℕ View) (x : Content) (m : Moves q x r) where
  -- it has loaded the head, which names the dummy d
  pub finds_dummy : Along id key s c (Dequeue LoadHead) a p q → (d : Place) → head_in x ≡ Node d → Along id key s c (Guard (guarding.Dequeue d) StoreHazard) a p r
  finds_dummy way d is = steps_to way r x m (Guard (guarding.Dequeue d) StoreHazard) a (λ n w _. ap (λ (h : HeadWord). record (keeping w a) { point = after_head h }) is) (same_puts a)

  module _ (d : Place) where
    -- it has named that, and what its hazard word names is at hand
    pub names_dummy : Along id key s c (Guard (guarding.Dequeue d) StoreHazard) a p q → (b : Scratch) → ((k : Caller) → keeping k b ≡ record (keeping k a) { row_hold = Names d.row }) → SamePuts a b → Along id key s c (Guard (guarding.Dequeue d) LoadAgain) b p r
    names_dummy way b kept same = steps_to way r x m (Guard (guarding.Dequeue d) LoadAgain) b (λ n w _. ap (λ (k : Caller). record k { point = Guard (guarding.Dequeue d) LoadAgain }) (sym (kept w))) same

    -- it holds the dummy, or begins again
    pub holds_dummy : Along id key s c (Guard (guarding.Dequeue d) LoadAgain) a p q → is_node (head_in x) d ≡ true → (b : Scratch) → ((k : Caller) → keeping k b ≡ record (keeping k a) { row_hold = Held d.row }) → SamePuts a b → Along id key s c (Dequeue (LoadLink d)) b p r
    holds_dummy way is b kept same = steps_to way r x m (Dequeue (LoadLink d)) b (λ n w _. sym (by_again s n c (keeping w a) x d)
        ∙ (ap (λ (t : Bool). followed (lane_sizes s) n c (keeping w a) (cond t (Holds (Dequeue (LoadLink d)) (Held d.row)) (GoesOn (Dequeue LoadHead)))) is
        ∙ ap (λ (k : Caller). record k { point = Dequeue (LoadLink d) }) (sym (kept w)))) same

    pub lost_dummy : Along id key s c (Guard (guarding.Dequeue d) LoadAgain) a p q → is_node (head_in x) d ≡ false → IsNext id key s c a p r (Goes (Dequeue LoadHead))
    lost_dummy way is = ends way r x m (Goes (Dequeue LoadHead)) a (λ n w _. sym (by_again s n c (keeping w a) x d)
        ∙ ap (λ (t : Bool). followed (lane_sizes s) n c (keeping w a) (cond t (Holds (Dequeue (LoadLink d)) (Held d.row)) (GoesOn (Dequeue LoadHead)))) is) (same_puts a)

    -- it has found a row behind the dummy, or none
    pub finds_row : Along id key s c (Dequeue (LoadLink d)) a p q → (row : ℕ) → link_in x ≡ Single row → Along id key s c (Dequeue (LoadTail d row)) a p r
    finds_row way row is = steps_to way r x m (Dequeue (LoadTail d row)) a (λ n w _. ap (λ (l : LinkWord). followed (lane_sizes s) n c (keeping w a) (after_link d l)) is) (same_puts a)

    pub finds_none : Along id key s c (Dequeue (LoadLink d)) a p q → link_in x ≡ Nil → Led id key s c (λ n k. closes n c k (Plain Empty)) a p r
    finds_none way is = led way r x m (λ n k. closes n c k (Plain Empty)) a (λ n w. sym (ap (λ (l : LinkWord). followed (lane_sizes s) n c (keeping w a) (after_link d l)) is)) (same_puts a)

    module _ (row : ℕ) where
      -- the tail names the dummy, or lies behind it
      pub tail_lags : Along id key s c (Dequeue (LoadTail d row)) a p q → same_place (tail_in x) d ≡ true → IsNext id key s c a p r (Goes (Dequeue (PassTail d row)))
      tail_lags way is = ends way r x m (Goes (Dequeue (PassTail d row))) a (λ n w _. ap (λ (t : Bool). record (keeping w a) { point = Dequeue (cond t (PassTail d row) (LoadValue d row)) }) is) (same_puts a)

      pub tail_is_past : Along id key s c (Dequeue (LoadTail d row)) a p q → same_place (tail_in x) d ≡ false → Along id key s c (Dequeue (LoadValue d row)) a p r
      tail_is_past way is = steps_to way r x m (Dequeue (LoadValue d row)) a (λ n w _. ap (λ (t : Bool). record (keeping w a) { point = Dequeue (cond t (PassTail d row) (LoadValue d row)) }) is) (same_puts a)

      -- it has read the value
      pub reads_value : Along id key s c (Dequeue (LoadValue d row)) a p q → (v : ℕ) → v ≡ value_in x → Along id key s c (Dequeue (MoveHead d row v)) a p r
      reads_value way v is = steps_to way r x m (Dequeue (MoveHead d row v)) a (λ n w _. ap (λ (y : ℕ). record (keeping w a) { point = Dequeue (MoveHead d row y) }) (sym is)) (same_puts a)

      module _ (v : ℕ) where
        -- it has moved the head, or another caller has
        pub moves_head : Along id key s c (Dequeue (MoveHead d row v)) a p q → is_node (head_in x) d ≡ true → Led id key s c (λ n k. marks_all n c (record k { walked = row ∷ [] }) (Plain (Got v)) false d) a p r
        moves_head way is = led way r x m (λ n k. marks_all n c (record k { walked = row ∷ [] }) (Plain (Got v)) false d) a
            (λ n w. sym (ap (λ (t : Bool). followed (lane_sizes s) n c (keeping w a) (cond t (Passes (Plain (Got v)) d row) (GoesOn (Dequeue LoadHead)))) is)) (same_puts a)

        pub head_has_moved : Along id key s c (Dequeue (MoveHead d row v)) a p q → is_node (head_in x) d ≡ false → IsNext id key s c a p r (Goes (Dequeue LoadHead))
        head_has_moved way is = ends way r x m (Goes (Dequeue LoadHead)) a (λ n w _. ap (λ (t : Bool). followed (lane_sizes s) n c (keeping w a) (cond t (Passes (Plain (Got v)) d row) (GoesOn (Dequeue LoadHead)))) is) (same_puts a)

-- the same of the first step of a dequeue
module _ (id : TableId) (key s : Shape) (c : ℕ) (ops : List Op) (p : Seat ℕ View) (at : IsIdle id key s c ops (Dequeue LoadHead) p) (a : Scratch) (known : c < s.callers) (puts : a.puts.items ≡ enqueued ops) (agrees : (n : ℕ) → Agrees (begun_seat p n ops).me.0.kept a) (reserves : Reserves s a) (few : length p.me.0.kept.retired < s.callers) (apart : Distinct p.me.0.kept.retired) (q : Seat ℕ View) (x : Content) (m : Starts p ops x q) where
  pub starts_at_dummy : (d : Place) → head_in x ≡ Node d → Along id key s c (Guard (guarding.Dequeue d) StoreHazard) a (begun_seat p m.2.0 ops) q
  starts_at_dummy d is = finds_dummy {q = begun_seat p m.2.0 ops} q x (m.0, m.1, m.2.2, m.3) (here (starts_running id key s c ops (Dequeue LoadHead) p at a known puts agrees reserves few apart m.2.0)) d is
