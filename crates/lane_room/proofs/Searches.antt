-- The search of a caller for a free row goes on over a row that isn't free; and where none is left, its own queued items and its
-- enqueues passed the room at a moment of its call.
use Rattle.std.proofs.Common.{◌≡◌, ℕ, zero, suc, ◌+◌, ◌-◌, ◌<◌, ◌≤◌, Bool, true, false, cond, List, [], ◌∷◌, ◌++◌, length, append_assoc, sym, refl, ap, ◌∙◌, subst, le_refl, arith}
use Rattle.bq_model.specs.declared.group.Group.{Group}
use Rattle.bq_model.specs.declared.shape.Shape.{Shape}
use Rattle.word_rows.specs.declared.marks.Marks.{Marks}
use Rattle.word_rows.specs.Sizes.{waiting_of}
use Rattle.lane_steps.specs.LaneSizes.{lane_sizes, own_row, own_count}
use Rattle.core_model.proofs.Rely.{true_false}
use Rattle.lane_room.specs.Busy.{busy, held_back}
use Rattle.lane_room.specs.Search.{AboveRoom, Search}

-- where fewer rows aren't free, fewer are busy
pub busy_less : (m m' : ℕ → Marks) (r n : ℕ) → ((j : ℕ) → r ≤ j → j < r + n → (m' j).free ≡ false → (m j).free ≡ false) → length (busy m' r n) ≤ length (busy m r n)
busy_less m m' r zero less = le_refl 0
busy_less m m' r (suc n) less = by (m' r).free (m r).free refl refl (busy_less m m' (suc r) n (λ j from below. less j (omega arith) (omega arith))) where
  by : (a b : Bool) → (m' r).free ≡ a → (m r).free ≡ b → length (busy m' (suc r) n) ≤ length (busy m (suc r) n)
      → length (cond a (busy m' (suc r) n) (r ∷ busy m' (suc r) n)) ≤ length (cond b (busy m (suc r) n) (r ∷ busy m (suc r) n))
  by true true _ _ rest = rest
  by true false _ _ rest = omega arith
  by false false _ _ rest = omega arith
  by false true new old rest = absurd (true_false (sym old ∙ less r (le_refl r) (omega arith) new))

-- what was so at a moment of the history is so as that goes on
pub above_stays : (room : ℕ) (h more : List Group) (c from enqs : ℕ) → AboveRoom room h c from enqs → AboveRoom room (h ++ more) c from enqs
above_stays room h more c from enqs A = record {
  before = A.before;
  behind = A.behind ++ more;
  whole = ap (λ (x : List Group). x ++ more) A.whole ∙ append_assoc A.before A.behind more;
  since_start = A.since_start;
  above = A.above;
}

module _ (z : Shape) (c : ℕ) where
  -- the own rows of a kind follow each other
  row_at : (stops : Bool) (i more : ℕ) → own_row (lane_sizes z) c stops (i + more) ≡ own_row (lane_sizes z) c stops i + more
  row_at true i more = omega arith
  row_at false i more = omega arith

  module _ (mark : ℕ → Marks) (h : List Group) (from taken : ℕ) where
    -- a row was found that isn't free: the search goes on
    pub search_on : (stops : Bool) (r l : ℕ) → (mark r).free ≡ false → Search z mark h c from stops taken r (suc l) → Search z mark h c from stops taken (suc r) l
    search_on stops r l kept S = record {
      number = suc S.number;
      row = (let i = S.number in let more = row_at stops i 1 in let at = S.row in let e : own_row (lane_sizes z) c stops (i + 1) ≡ suc r = omega (arith, more, at) in ap (own_row (lane_sizes z) c stops) (let one : suc i ≡ i + 1 = omega arith in one) ∙ e);
      ends = let e = S.ends in omega (arith, e);
      before = S.before;
      behind = S.behind;
      whole = S.whole;
      since_start = S.since_start;
      few = let f = S.few in let same : length (busy mark r (suc (suc l))) ≡ suc (length (busy mark (suc r) (suc l))) = ap (λ (b : Bool). length (cond b (busy mark (suc r) (suc l)) (r ∷ busy mark (suc r) (suc l)))) kept in omega (arith, f, same);
    }

    -- no item row is left
    pub search_fails : (r enqs : ℕ) → (mark r).free ≡ false → taken < enqs → Search z mark h c from false taken r 0 → AboveRoom z.room h c from enqs
    search_fails r enqs kept fewer S = record {
      before = S.before;
      behind = S.behind;
      whole = S.whole;
      since_start = S.since_start;
      above = let f = S.few in let e = S.ends in let same : length (busy mark r 1) ≡ 1 = ap (λ (b : Bool). length (cond b [] (r ∷ []))) kept in
          let all : own_count (lane_sizes z) false ≡ z.room + 1 + waiting_of z = refl in let held : held_back z ≡ suc (waiting_of z) = refl in omega (arith, f, e, same, all, held, fewer);
    }

    -- there is always a stopper
    pub stopper_found : (r : ℕ) → (mark r).free ≡ false → taken ≡ 0 → Search z mark h c from true taken r 0 → ⊥
    stopper_found r kept none S = let f = S.few in let e = S.ends in let same : length (busy mark r 1) ≡ 1 = ap (λ (b : Bool). length (cond b [] (r ∷ []))) kept in
        let all : own_count (lane_sizes z) true ≡ 2 + waiting_of z = refl in let held : held_back z ≡ suc (waiting_of z) = refl in omega (arith, f, e, same, all, held, none)

    -- it stays as it is where no own row was taken that was free
    pub search_stays : (mark' : ℕ → Marks) (stops : Bool) (r l : ℕ)
        → ((i : ℕ) → i < own_count (lane_sizes z) stops → (mark' (own_row (lane_sizes z) c stops i)).free ≡ false → (mark (own_row (lane_sizes z) c stops i)).free ≡ false)
        → Search z mark h c from stops taken r l → Search z mark' h c from stops taken r l
    search_stays mark' stops r l still S = record {
      number = S.number;
      row = S.row;
      ends = S.ends;
      before = S.before;
      behind = S.behind;
      whole = S.whole;
      since_start = S.since_start;
      few = let f = S.few in let less = busy_less mark mark' r (suc l) each in omega (arith, f, less);
    } where
      each : (j : ℕ) → r ≤ j → j < r + suc l → (mark' j).free ≡ false → (mark j).free ≡ false
      each j low high = let e = S.ends in let at = S.row in let more = row_at stops S.number (j - r) in
          let is : own_row (lane_sizes z) c stops (S.number + (j - r)) ≡ j = omega (arith, at, more, low) in
          subst (λ (x : ℕ). (mark' x).free ≡ false → (mark x).free ≡ false) is (still (S.number + (j - r)) (omega (arith, e, low, high)))

    -- and as the history goes on
    pub search_lasts : (more : List Group) (stops : Bool) (r l : ℕ) → Search z mark h c from stops taken r l → Search z mark (h ++ more) c from stops taken r l
    search_lasts more stops r l S = record {
      number = S.number;
      row = S.row;
      ends = S.ends;
      before = S.before;
      behind = S.behind ++ more;
      whole = ap (λ (x : List Group). x ++ more) S.whole ∙ append_assoc S.before S.behind more;
      since_start = S.since_start;
      few = S.few;
    }
