-- At the end of a call the caller's lists are short, and each way into it leads to a point from which few steps are left.
use Rattle.std.proofs.Common.{◌≡◌, ◌⊎◌, inl, inr, ⊎_elim, nat_lt, ℕ, ◌+◌, ◌*◌, ◌<◌, ◌≤◌, List, [], ◌∷◌, length, Bool, true, false, cond, Option, Some, None, refl, arith}
use Rattle.bq_model.specs.declared.shape.Shape.{Shape}
use Rattle.excess_count.specs.Excess.{enqueue_count}
use Rattle.word_rows.specs.declared.place.Place.{Place}
use Rattle.node_guard.specs.Retired.{first_unheld, without_first_unheld, is_unheld}
use Rattle.lane_steps.specs.Close.{to_pass}
use Rattle.lane_steps.specs.Functions.{rising}
use Rattle.lane_steps.specs.declared.point.Closing.{Closing}
use Rattle.lane_steps.specs.declared.point.Closing.TheVariants.{Plain, Batch, Full}
use Rattle.lane_steps.specs.declared.point.ClosePoint.{ClosePoint}
use Rattle.lane_steps.specs.declared.point.ClosePoint.TheVariants.{MarkRow, MarkLoose, ClearNode, ClearAnn, LoadHazard, MarkFree}
use Rattle.lane_steps.specs.declared.point.Hold.{Hold}
use Rattle.lane_steps.specs.declared.point.Hold.TheVariants.{Free, Names, Held}
use Rattle.lane_steps.specs.declared.point.Point.TheVariants as point
use Rattle.lane_steps.specs.State.{Caller}
use Rattle.lane_steps.specs.Step.{ended, frees, frees_next, scans, clears_ann, clears_node, loses, closes, marks_on, marks_from, marks_all}
use Rattle.core_model.specs.Few.{IsEarly}
use Rattle.core_model.proofs.FewAfter.{length_rising}
use Rattle.lane_steps.specs.LaneSizes.{lane_sizes}
use Rattle.core_model.specs.Lawful.{Lawful}
use Rattle.lane_steps.specs.declared.point.Point.{Point}
use Rattle.lane_steps.specs.State.{State}
use Rattle.lane_steps.specs.Step.{step_at}
use Rattle.lane_rank.specs.Expected.{Keeps}
use Rattle.lane_rank.specs.Return.{Onward}
use Rattle.lane_rank.specs.Weight.{close_weight, whole_close, weight}
use Rattle.lane_rank.proofs.Onwards.{goes}

-- its command has ended, or it stands at the end of its call and less than w is left there
abbrev pub Ending : ℕ → Shape → ℕ → Caller → Type 0
Ending M s w k = (k.point ≡ point.Idle) ⊎ ((a : Closing) × (p : ClosePoint) × (k.point ≡ point.Close a p) × (close_weight M s k p < w))

-- one row leaves the list where one isn't held
pub fewer_retired : (held rows : List ℕ) (r : ℕ) → first_unheld held rows ≡ Some r → length (without_first_unheld held rows) < length rows
fewer_retired held [] r e = absurd (cc e)
fewer_retired held (row ∷ rows) r e = by (is_unheld held row) (fewer_retired held rows r) e where
  by : (b : Bool) → (first_unheld held rows ≡ Some r → length (without_first_unheld held rows) < length rows) → cond b (Some row) (first_unheld held rows) ≡ Some r
      → length (cond b rows (row ∷ without_first_unheld held rows)) < length (row ∷ rows)
  by true rest e = omega arith
  by false rest e = let less = rest e in omega arith

module _ (M : ℕ) (s : Shape) (n c : ℕ) where
  pub ending_more : (v w : ℕ) (k : Caller) → v ≤ w → Ending M s v k → Ending M s w k
  ending_more v w k more (inl idle) = inl idle
  ending_more v w k more (inr (a, p, is, less)) = inr (a, p, is, omega arith)

  has_ended : (w : ℕ) (k : Caller) (a : Closing) → Ending M s w (ended n c k a)
  has_ended w k (Plain answer) = inl refl
  has_ended w k (Batch m) = inl refl
  has_ended w k Full = inl refl

  pub ends_freeing : (w : ℕ) (k : Caller) (a : Closing) → length k.retired < w → Ending M s w (frees_next n c k a)
  ends_freeing w k a less = by (first_unheld k.named k.retired) where
    by : (o : Option ℕ) → Ending M s w (frees n c k a o)
    by None = has_ended w k a
    by (Some r) = inr (a, MarkFree r, refl, less)

  pub ends_scanning : (k : Caller) (a : Closing) → Ending M s (length k.retired + s.callers + 2) (scans n c k a k.retired)
  ends_scanning k a = by k.retired where
    by : (rows : List ℕ) → Ending M s (length k.retired + s.callers + 2) (scans n c k a rows)
    by [] = has_ended _ k a
    by (r ∷ rs) = inr (a, LoadHazard 0, refl, omega arith)

  pub ends_clearing : (k : Caller) (a : Closing) (h : Hold) → Ending M s (length k.retired + s.callers + 3) (clears_ann n c k a h)
  ends_clearing k a Free = ending_more _ _ (scans n c k a k.retired) (omega arith) (ends_scanning k a)
  ends_clearing k a (Names x) = inr (a, ClearAnn, refl, omega arith)
  ends_clearing k a (Held x) = inr (a, ClearAnn, refl, omega arith)

  ends_clearing_both : (k : Caller) (a : Closing) (h : Hold) → Ending M s (length k.retired + s.callers + 4) (clears_node n c k a h)
  ends_clearing_both k a Free = ending_more _ _ (clears_ann n c k a k.hold) (omega arith) (ends_clearing k a k.hold)
  ends_clearing_both k a (Names x) = inr (a, ClearNode, refl, omega arith)
  ends_clearing_both k a (Held x) = inr (a, ClearNode, refl, omega arith)

  pub ends_losing : (k : Caller) (a : Closing) (rows : List ℕ) → Ending M s (length k.retired + s.callers + 4 + 2 * length rows) (loses n c k a rows)
  ends_losing k a [] = ending_more _ _ (clears_node n c (record k { rows = [] }) a k.row_hold) (omega arith) (ends_clearing_both (record k { rows = [] }) a k.row_hold)
  ends_losing k a (r ∷ rs) = inr (a, MarkLoose r, refl, omega arith)

  pub ends_closing : (w : ℕ) (k : Caller) (a : Closing) → length k.retired + s.callers + 4 + 2 * length k.rows ≤ w → Ending M s w (closes n c k a)
  ends_closing w k a less = let same = length_rising k.rows in ending_more _ w (closes n c k a) (omega (arith, same, less)) (ends_losing k a (rising k.rows))

  pub ends_marking : (w : ℕ) (k : Caller) (a : Closing) (stopped : Bool) (q : Place) (ws : List ℕ) → length k.retired + s.callers + 5 + 2 * length k.rows + 2 * length ws ≤ w → Ending M s w (marks_on n c k a stopped q ws)
  ends_marking w k a stopped q [] less = ends_closing w (record k { walked = [] }) a (omega (arith, less))
  ends_marking w k a stopped q (r ∷ rs) less = inr (a, MarkRow _ _ _ _, refl, omega (arith, less))

  pub ends_marking_all : (w : ℕ) (k : Caller) (a : Closing) (stopped : Bool) (p : Place) → length k.retired + s.callers + 7 + 2 * length k.rows + 2 * length k.walked ≤ w → Ending M s w (marks_all n c k a stopped p)
  ends_marking_all w k a stopped p less = by (nat_lt 0 (to_pass (length k.walked) stopped)) where
    by : (b : Bool) → Ending M s w (marks_from n c k a stopped p b)
    by true = inr (a, MarkRow _ _ _ _, refl, omega (arith, less))
    by false = ends_closing w (record k { walked = [] }) a (omega (arith, less))

  -- from a point before the end
  module _ (k : Caller) (short : length k.ops ≤ s.batch) (f : IsEarly s c k) where
    pub closes_light : (a : Closing) → Ending M s (whole_close M s) (closes n c k a)
    closes_light a = ends_closing (whole_close M s) k a (⊎_elim (λ (one : length k.rows ≤ 1). let r = f.few_retired in omega (arith, one, r)) (λ (fewer : length k.rows ≤ enqueue_count k.ops). let r = f.few_retired in let most = f.few_walked in omega (arith, fewer, most, short, r)) f.few_rows)

    pub marks_light : (a : Closing) (stopped : Bool) (p : Place) → Ending M s (whole_close M s) (marks_all n c k a stopped p)
    marks_light a stopped p = ends_marking_all (whole_close M s) k a stopped p (⊎_elim (λ (one : length k.rows ≤ 1). let r = f.few_retired in let most = f.few_walked in omega (arith, one, r, most, short))
        (λ (fewer : length k.rows ≤ enqueue_count k.ops). let r = f.few_retired in let most = f.few_walked in omega (arith, fewer, most, short, r)) f.few_rows)

    pub passes_light : (a : Closing) (r : ℕ) (p : Place) → Ending M s (whole_close M s) (marks_all n c (record k { walked = r ∷ [] }) a false p)
    passes_light a r p = ends_marking_all (whole_close M s) (record k { walked = r ∷ [] }) a false p (⊎_elim (λ (one : length k.rows ≤ 1). let r = f.few_retired in omega (arith, one, r))
        (λ (fewer : length k.rows ≤ enqueue_count k.ops). let r = f.few_retired in let most = f.few_walked in omega (arith, fewer, most, short, r)) f.few_rows)

-- a caller's step leads there from a point of which less is left than w
module _ (z : Shape) (s : State) (L : Lawful (lane_sizes z) s) (c M : ℕ) (t : Point) (is : (s.callers c).point ≡ t) (o i : ℕ) (K : Keeps s t o i) where
  pub ends : (k : Caller) → Ending M z (weight M z (s.callers c) t) k → Onward M z (step_at (lane_sizes z) s c t) (s.callers c) k o i
  ends k (inl idle) = inl idle
  ends k (inr (a, p, there, less)) = goes z s L c M t is o i K k (point.Close a p) there tt tt less

  pub ends_light : (k : Caller) → whole_close M z ≤ weight M z (s.callers c) t → Ending M z (whole_close M z) k → Onward M z (step_at (lane_sizes z) s c t) (s.callers c) k o i
  ends_light k most x = ends k (ending_more M z 0 c (whole_close M z) (weight M z (s.callers c) t) k most x)
