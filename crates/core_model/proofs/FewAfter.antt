-- What a step leads to has few rows in the caller's lists, where there were few before it.
use Rattle.std.proofs.Common.{◌≡◌, ⊎_elim, inl, inr, ◌==◌, nat_lt, ℕ, zero, suc, ◌+◌, ◌<◌, ◌≤◌, ◌++◌, List, [], ◌∷◌, length, Bool, true, false, cond, Option, Some, None, refl, ap, ◌∙◌, arith, length-append}
use Rattle.std.proofs.lemmas.Bool.{cases_lt, eqb-true}
use Rattle.bq_model.specs.declared.shape.Shape.{Shape}
use Rattle.excess_count.specs.Excess.{enqueue_count}
use Rattle.word_rows.specs.declared.place.Place.{Place}
use Rattle.node_guard.specs.Retired.{first_unheld, without_first_unheld}
use Rattle.lane_steps.specs.Close.{to_pass}
use Rattle.lane_steps.specs.Fill.{noted, past}
use Rattle.lane_steps.specs.Functions.{Distinct, inserted, rising}
use Rattle.lane_steps.specs.LaneSizes.{LaneSizes, lane_sizes}
use Rattle.lane_steps.specs.declared.course.Course.{Course}
use Rattle.lane_steps.specs.declared.course.Course.TheVariants as course
use Rattle.lane_steps.specs.declared.point.Closing.{Closing}
use Rattle.lane_steps.specs.declared.point.Closing.TheVariants.{Plain, Batch, Full}
use Rattle.lane_steps.specs.declared.point.Hold.{Hold}
use Rattle.lane_steps.specs.declared.point.Hold.TheVariants.{Free, Names, Held}
use Rattle.lane_steps.specs.declared.point.Notice.{Notice}
use Rattle.lane_steps.specs.declared.point.Point.{Point}
use Rattle.lane_steps.specs.declared.point.Point.TheVariants as point
use Rattle.lane_steps.specs.declared.point.ClosePoint.TheVariants.{LoadHazard}
use Rattle.lane_steps.specs.declared.point.Reading.{Reading}
use Rattle.lane_steps.specs.State.{Caller}
use Rattle.lane_steps.specs.Step.{ended, frees, frees_next, scans, clears_ann, clears_node, loses, closes, marks_on, marks_from, marks_all, retires, reads_on, rows_left, listening, links_on, takes_on, scans_on, followed}
use Rattle.core_model.specs.Few.{room_of, Early, Few, HasFew, IsEarly, FewFor}
use Rattle.core_model.proofs.FewFor.{more_walked}
use Rattle.core_model.proofs.Unheld.{all_are_held}

length_inserted : (x : ℕ) (xs : List ℕ) → length (inserted x xs) ≡ suc (length xs)
length_inserted x [] = refl
length_inserted x (y ∷ ys) = by (length_inserted x ys) (nat_lt y x) where
  by : length (inserted x ys) ≡ suc (length ys) → (b : Bool) → length (cond b (y ∷ inserted x ys) (x ∷ y ∷ ys)) ≡ suc (suc (length ys))
  by rest true = ap suc rest
  by rest false = refl

pub length_rising : (xs : List ℕ) → length (rising xs) ≡ length xs
length_rising [] = refl
length_rising (x ∷ xs) = length_inserted x (rising xs) ∙ ap suc (length_rising xs)

module _ (s : Shape) (c n : ℕ) (known : c < s.callers) where
  abbrev z : LaneSizes
  z = lane_sizes s

  few_ended : (k : Caller) (x : Closing) → length k.retired < s.callers → HasFew s c (ended n c k x)
  few_ended k (Plain a) f = f
  few_ended k (Batch m) f = f
  few_ended k Full f = f

  few_frees : (k : Caller) (x : Closing) → length k.named < s.callers → Distinct (frees_next n c k x).retired → HasFew s c (frees_next n c k x)
  few_frees k x f = by (first_unheld k.named k.retired) refl where
    by : (o : Option ℕ) → first_unheld k.named k.retired ≡ o → Distinct (frees n c k x o).retired → HasFew s c (frees n c k x o)
    by (Some r) is d = f
    by None is d = few_ended k x (let most = all_are_held k.named k.retired (distinct x d) is in omega (arith, f, most)) where
      distinct : (y : Closing) → Distinct (ended n c k y).retired → Distinct k.retired
      distinct (Plain a) e = e
      distinct (Batch m) e = e
      distinct Full e = e

  few_scans : (k : Caller) (x : Closing) (rows : List ℕ) → k.retired ≡ rows → HasFew s c (scans n c k x rows)
  few_scans k x [] is = few_ended k x (let none = ap length is in omega (arith, none, known))
  few_scans k x (r ∷ rs) is = (omega arith, λ below. absurd (omega (arith, below)))

  few_clears_ann : (k : Caller) (x : Closing) (h : Hold) → HasFew s c (clears_ann n c k x h)
  few_clears_ann k x Free = few_scans k x k.retired refl
  few_clears_ann k x (Names a) = tt
  few_clears_ann k x (Held a) = tt

  few_clears_node : (k : Caller) (x : Closing) (h : Hold) → HasFew s c (clears_node n c k x h)
  few_clears_node k x Free = few_clears_ann k x k.hold
  few_clears_node k x (Names a) = tt
  few_clears_node k x (Held a) = tt

  few_loses : (k : Caller) (x : Closing) (rows : List ℕ) → length rows + length k.retired ≤ room_of s → HasFew s c (loses n c k x rows)
  few_loses k x [] f = few_clears_node (record k { rows = [] }) x k.row_hold
  few_loses k x (r ∷ rs) f = f

  few_closes : (k : Caller) (x : Closing) → length k.rows + length k.retired ≤ room_of s → HasFew s c (closes n c k x)
  few_closes k x f = few_loses k x (rising k.rows) (let same = length_rising k.rows in omega (arith, f, same))

  few_marks_on : (k : Caller) (x : Closing) (stopped : Bool) (q : Place) (ws : List ℕ) → length ws + length k.rows + length k.retired ≤ room_of s → HasFew s c (marks_on n c k x stopped q ws)
  few_marks_on k x stopped q [] f = few_closes (record k { walked = [] }) x (omega (arith, f))
  few_marks_on k x stopped q (w ∷ ws) f = omega (arith, f)

  module _ (some : 1 ≤ s.batch) where
    few_marks_all : (k : Caller) (x : Closing) (stopped : Bool) (p : Place) → length k.walked + length k.rows ≤ s.batch + 1 → length k.retired < s.callers → HasFew s c (marks_all n c k x stopped p)
    few_marks_all k x stopped p f g = by (nat_lt 0 (to_pass (length k.walked) stopped)) where
      by : (b : Bool) → HasFew s c (marks_from n c k x stopped p b)
      by true = omega (arith, f, g)
      by false = few_closes (record k { walked = [] }) x (omega (arith, f, g))

    -- at the end of a call
    module _ (k : Caller) (short : length k.ops ≤ s.batch) where
      few_rows : IsEarly s c k → (length k.walked + length k.rows ≤ s.batch + 1) × (length k.rows ≤ s.batch)
      few_rows f = ⊎_elim (λ (one : length k.rows ≤ 1). let most = f.few_walked in (omega (arith, one, most, short), omega (arith, one, some)))
          (λ (fewer : length k.rows ≤ enqueue_count k.ops). let most = f.few_walked in (omega (arith, fewer, most, short), omega (arith, fewer, most, short))) f.few_rows

      few_ends : (x : Closing) → IsEarly s c k → HasFew s c (closes n c k x)
      few_ends x f = few_closes k x (let g = (few_rows f).1 in let r = f.few_retired in omega (arith, g, r))

      few_passes : (x : Closing) (p : Place) (r : ℕ) → IsEarly s c k → HasFew s c (marks_all n c (record k { walked = r ∷ [] }) x false p)
      few_passes x p r f = few_marks_all (record k { walked = r ∷ [] }) x false p (let g = (few_rows f).1 in omega (arith, g)) f.few_retired

      few_moves : (x : Closing) (stopped : Bool) (p : Place) → IsEarly s c k → HasFew s c (marks_all n c k x stopped p)
      few_moves x stopped p f = few_marks_all k x stopped p (few_rows f).0 f.few_retired

    few_reads : (k : Caller) (short : length k.ops ≤ s.batch) (b : Reading) (r l : ℕ) (vs ws : List ℕ) → Early s k.ops k.rows ws k.retired → HasFew s c (reads_on n c k b r l vs ws)
    few_reads k short b r zero vs ws f = few_moves (record k { values = vs; walked = ws }) short (Batch b.queued) b.stopped b.dummy f
    few_reads k short b r (suc l) vs ws f = f

  either : {A : Type 0} (P : A → Type 0) (b : Bool) (y x : A) → P y → P x → P (cond b y x)
  either P true y x a b = a
  either P false y x a b = b

  few_listens : (k : Caller) (m : Notice) (e : ℕ) (xs : List ℕ) → IsEarly s c k → HasFew s c (listening z c k m e xs)
  few_listens k m e xs f = either At (nat_lt (past c e) z.callers) _ _ f (either At (m.counts.enqs == 0) _ _ f f) where
    At : Point → Type 0
    At t = Few s c t k.ops k.rows k.walked k.retired xs

  few_links : (k : Caller) (m : Notice) (i : ℕ) (b : Bool) → IsEarly s c k → HasFew s c (links_on z c k m i b)
  few_links k m i true f = few_listens k m 0 [] f
  few_links k m i false f = f

  few_takes : (k : Caller) (m : Notice) (b : Bool) → IsEarly s c k → HasFew s c (takes_on z c k m b)
  few_takes k m true f = few_links k _ 0 (length k.rows == 1) f
  few_takes k m false f = f

  few_finds : (k : Caller) (x : Closing) (d : ℕ) (o : Option ℕ) → FewFor s c (course.Finds x d o) k → Distinct (scans_on z n c (record k { named = noted k.named o }) x d).retired
      → HasFew s c (scans_on z n c (record k { named = noted k.named o }) x d)
  few_finds k x d o (most, fewer, inside, own) = by (suc d == s.callers) refl where
    more_than : length k.named ≤ d → length (noted k.named o) ≤ suc d
    more_than below = at o where
      at : (p : Option ℕ) → length (noted k.named p) ≤ suc d
      at None = omega (arith, below)
      at (Some r) = let all = length-append k.named (r ∷ []) in omega (arith, all, below)

    passed : c < suc d → length (noted k.named o) < suc d
    passed below = at o refl where
      at : (p : Option ℕ) → p ≡ o → length (noted k.named p) < suc d
      at None is = omega (arith, most)
      at (Some r) is = let all = length-append k.named (r ∷ []) in ⊎_elim (λ (less : c < d). let few = fewer less in omega (arith, few, all)) (λ (above : d ≤ c). absurd (none (is ∙ own (omega (arith, above, below))))) (cases_lt c d) where
        none : Some r ≡ None → ⊥
        none e = cc e

    scans_then : Bool → Caller
    scans_then b = cond b (frees_next n c (record k { named = noted k.named o }) x) (record k { named = noted k.named o; point = point.Close x (LoadHazard (suc d)) })

    by : (b : Bool) → (suc d == s.callers) ≡ b → Distinct (scans_then b).retired → HasFew s c (scans_then b)
    by true is apart = few_frees (record k { named = noted k.named o }) x (let last = eqb-true (suc d) s.callers is in let few = passed (omega (arith, last, known)) in omega (arith, last, few)) apart
    by false is apart = (more_than most, passed)

  pub few_after : 1 ≤ s.batch → (k : Caller) → length k.ops ≤ s.batch → (y : Course) → FewFor s c y k → Distinct (followed z n c k y).retired → HasFew s c (followed z n c k y)
  few_after some k short (course.GoesOn t) f d = f
  few_after some k short (course.Closes x) f d = few_ends some k short x f
  few_after some k short course.Lacks f d = few_ends some k short Full f
  few_after some k short (course.Passes x p r) f d = few_passes some k short x p r f
  few_after some k short (course.Fills m r) f d = few_takes (record k { rows = k.rows ++ r ∷ [] }) m (length (k.rows ++ r ∷ []) == m.counts.enqs)
      (record { few_rows = inr (let all = length-append k.rows (r ∷ []) in let less = f.1 in omega (arith, all, less)); few_walked = f.0.few_walked; few_retired = f.0.few_retired })
  few_after some k short (course.Chains m i) f d = few_links k m (suc i) (suc (suc i) == length k.rows) f.0
  few_after some k short (course.Stops m r) f d = few_listens (record k { rows = r ∷ [] }) _ 0 [] (record { few_rows = inl (omega arith); few_walked = f.few_walked; few_retired = f.few_retired })
  few_after some k short (course.Takes t) f d = f
  few_after some k short (course.Hears m e x) f d = few_listens k m (suc e) (noted k.named x) f.0
  few_after some k short (course.Guards t h) f d = f
  few_after some k short (course.Holds t h) f d = f
  few_after some k short (course.Reads b r l linked) f d = few_reads some (record k { rows = rows_left linked k.rows }) short b r l [] [] (left linked) where
    left : (b : Bool) → Early s k.ops (rows_left b k.rows) [] k.retired
    left true = record { few_rows = inl (omega arith); few_walked = (let most = f.few_walked in omega (arith, most)); few_retired = f.few_retired }
    left false = record { few_rows = f.few_rows; few_walked = (let most = f.few_walked in omega (arith, most)); few_retired = f.few_retired }
  few_after some k short (course.ReadsMore b r l v) f d = few_reads some k short b r l (k.values ++ v ∷ []) (k.walked ++ r ∷ []) (more_walked s c k r f.0 f.1)
  few_after some k short (course.Walks t) f d = f
  few_after some k short (course.WalksMore t r v) f d = f.0
  few_after some k short (course.Moves p m) f d = few_moves some k short (Batch m) false p f
  few_after some k short (course.Marks x q both stopped) f d = by both where
    by : (b : Bool) → HasFew s c (marks_on n c (retires k q.row b) x stopped q (retires k q.row b).walked)
    by true = few_marks_on (retires k q.row true) x stopped q k.walked (let all = length-append k.retired (q.row ∷ []) in let g = f.0 in omega (arith, all, g))
    by false = few_marks_on k x stopped q k.walked (let g = f.0 in omega (arith, g))
  few_after some k short (course.Retires x r) f d = few_loses (record k { retired = k.retired ++ r ∷ [] }) x k.rows (let all = length-append k.retired (r ∷ []) in omega (arith, all, f))
  few_after some k short (course.ClearsNode x) f d = few_clears_ann (record k { row_hold = Free }) x k.hold
  few_after some k short (course.ClearsAnn x) f d = few_scans (record k { hold = Free }) x k.retired refl
  few_after some k short (course.Finds x e o) f d = few_finds k x e o f d
  few_after some k short (course.Frees x) f d = few_frees (record k { retired = without_first_unheld k.named k.retired }) x f d
