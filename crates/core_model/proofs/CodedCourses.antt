-- A caller goes on with what fits, where what its step found and its lists did.
use Rattle.std.proofs.Common.{◌≡◌, ⊎_elim, ℕ, zero, suc, ◌+◌, ◌-◌, ◌*◌, ◌^◌, ◌<◌, ◌≤◌, Bool, true, false, cond, List, [], ◌∷◌, ◌++◌, length, get_or, Option, Some, None, eqb, ltb, not, sym, refl, ◌∙◌, subst, mul-le-mul, le_refl, arith}
use Rattle.std.proofs.lemmas.Bool.{eqb-false}
use mathlib.Core.Logic.{dite}
use native.Mathlib.Decide.{dec_le}
use Rattle.bq_model.specs.declared.shape.Shape.{Shape}
use Rattle.bq_model.specs.Values.{enqueued}
use Rattle.word_rows.specs.declared.place.Place.{Place}
use Rattle.word_rows.specs.declared.location.AnnField.TheVariants as field
use Rattle.word_rows.specs.Fits.{limits_of, PlaceFits}
use Rattle.word_rows.specs.Sizes.{rows_of, anns_of}
use Rattle.node_guard.specs.Pick.{among, pick}
use Rattle.node_guard.specs.Retired.{first_unheld, without_first_unheld}
use Rattle.node_guard.proofs.Picks.{first_is_left}
use Rattle.lane_steps.specs.declared.course.Course.{Course}
use Rattle.lane_steps.specs.declared.course.Course.TheVariants as course
use Rattle.lane_steps.specs.declared.point.BatchPoint.TheVariants as batch
use Rattle.lane_steps.specs.declared.point.Closing.{Closing}
use Rattle.lane_steps.specs.declared.point.Closing.TheVariants.{Plain, Batch, Full}
use Rattle.lane_steps.specs.declared.point.Draft.{Draft}
use Rattle.lane_steps.specs.declared.point.FillPoint.TheVariants as fill
use Rattle.lane_steps.specs.declared.point.Hold.{Hold}
use Rattle.lane_steps.specs.declared.point.Hold.TheVariants.{Free, Names, Held}
use Rattle.lane_steps.specs.declared.point.Notice.{Notice}
use Rattle.lane_steps.specs.declared.point.Point.TheVariants as point
use Rattle.lane_steps.specs.declared.point.Reading.{Reading}
use Rattle.lane_steps.specs.declared.point.ClosePoint.TheVariants as close
use Rattle.lane_steps.specs.declared.point.Taking.{Taking}
use Rattle.lane_steps.specs.declared.point.Taking.TheVariants as taking
use Rattle.lane_steps.specs.Batches.{with_rows}
use Rattle.lane_steps.specs.Close.{to_pass}
use Rattle.lane_steps.specs.Coded.{TakingFits, PointFits, CourseFits}
use Rattle.lane_steps.specs.Fill.{first_store, past, chosen, scan_from, noted}
use Rattle.lane_steps.specs.Fits.{NoticeFits, DraftFits}
use Rattle.lane_steps.specs.Functions.{rising}
use Rattle.lane_steps.specs.LaneSizes.{IsLane, lane_sizes}
use Rattle.lane_steps.specs.State.{Caller}
use Rattle.lane_steps.specs.Step.{ended, frees, frees_next, scans, clears_ann, clears_node, loses, closes, marks_on, marks_from, marks_all, reads_on, rows_left, links_on, takes_on, scans_on, followed}
use Rattle.lane_steps.specs.Take.{is_stopper, search}
use Rattle.core_model.proofs.Fitting.{point_either}
use Rattle.core_model.proofs.Lists.{among_here, among_there, among_cases, among_none, among_one, among_pushed, among_index}
use Rattle.core_model.proofs.RowLists.{among_rising, first_is_there}

-- each row of the list is one of so many
abbrev pub AllBelow : ℕ → List ℕ → Type 0
AllBelow n rows = (r : ℕ) → among rows r ≡ true → r < n

pub below_at : (n : ℕ) (rows : List ℕ) → 0 < n → AllBelow n rows → (j : ℕ) → get_or rows j 0 < n
below_at n [] some all j = omega arith
below_at n (x ∷ rows) some all zero = all x (among_here rows x x refl)
below_at n (x ∷ rows) some all (suc j) = below_at n rows some (λ r is. all r (among_there rows x r is)) j

pub all_below : (n : ℕ) (rows : List ℕ) → ((j : ℕ) → get_or rows j 0 < n) → AllBelow n rows
all_below n rows at r is = let y = among_index rows r is in subst (λ (q : ℕ). q < n) y.2 (at y.0)

none_below : (n : ℕ) → AllBelow n []
none_below n r is = absurd (among_none r is)

one_below : (n r : ℕ) → r < n → AllBelow n (r ∷ [])
one_below n r below q is = subst (λ (y : ℕ). y < n) (among_one r q is) below

more_below : (n : ℕ) (rows : List ℕ) (r : ℕ) → AllBelow n rows → r < n → AllBelow n (rows ++ r ∷ [])
more_below n rows r all below q is = ⊎_elim (λ (e : r ≡ q). subst (λ (y : ℕ). y < n) e below) (λ (there : among rows q ≡ true). all q there) (among_pushed rows r q is)

rest_below : (n r : ℕ) (rows : List ℕ) → AllBelow n (r ∷ rows) → AllBelow n rows
rest_below n r rows all q is = all q (among_there rows r q is)

fewer_below : (n : ℕ) (named rows : List ℕ) → AllBelow n rows → AllBelow n (without_first_unheld named rows)
fewer_below n named [] all = none_below n
fewer_below n named (x ∷ rows) all = by (not (among named x)) (fewer_below n named rows (rest_below n x rows all)) where
  by : (b : Bool) → AllBelow n (without_first_unheld named rows) → AllBelow n (cond b rows (x ∷ without_first_unheld named rows))
  by true fewer = rest_below n x rows all
  by false fewer = λ q is. ⊎_elim (λ (e : x ≡ q). all q (among_here rows x q e)) (λ (there : among (without_first_unheld named rows) q ≡ true). fewer q there) (among_cases (without_first_unheld named rows) x q is)

-- what a caller has in its lists, and with that at its point
abbrev pub ListsFit : Shape → Caller → Type 0
ListsFit s k = AllBelow (rows_of s) k.rows × AllBelow (rows_of s) k.walked × AllBelow (rows_of s) k.retired × ((j : ℕ) → get_or (enqueued k.ops) j 0 < 2 ^ 64)

abbrev pub CallerFits : Shape → Caller → Type 0
CallerFits s k = PointFits s k.point × ListsFit s k

-- what a course says that isn't told by its words: a row to be marked has a next one, and the scan is of a caller
abbrev pub Counted : Shape → Caller → Course → Type 0
Counted s k (course.Marks a q both stopped) = 0 < length k.walked → q.count + 1 < 2 ^ 44
Counted s k (course.Finds a d x) = d < s.callers
Counted s k _ = Unit {0}

-- One of the callers of a lane of this shape.
module _ (s : Shape) (lane : IsLane (lane_sizes s)) (c : ℕ) (known : c < s.callers) where
  some_row : 0 < rows_of s
  some_row = let one = lane.inside false c 0 known (lane.some false) in omega arith

  -- what it picks is an announcement of the lane
  picked_fits : (xs : List ℕ) → pick s.callers c xs < anns_of s
  picked_fits xs = let most = (first_is_left xs (s.callers - 1) (c * s.callers)).1 in let all : suc c * s.callers ≤ s.callers * s.callers = mul-le-mul known (le_refl s.callers) in omega arith

  stores_fit : (d : Draft) → DraftFits s d → PointFits s (first_store d)
  stores_fit d a = point_either s (eqb d.notice.counts.enqs 0) (point.Batch d (batch.StoreAll field.OldHead)) (point.Batch d (batch.StoreField field.OldTail)) a a

  listens_fit : (n : Notice) (e : ℕ) (xs : List ℕ) → NoticeFits s n → PointFits s (scan_from (lane_sizes s) c xs n e)
  listens_fit n e xs a = point_either s (ltb (past c e) s.callers) (point.Fill n (fill.LoadHazard (past c e))) (first_store (chosen (lane_sizes s) c xs n)) (a, tt)
      (stores_fit (chosen (lane_sizes s) c xs n) (picked_fits xs, a))

  pub search_fits : (t : Taking) → TakingFits s t → PointFits s (search (lane_sizes s) c t)
  search_fits t a = (a, lane.inside (is_stopper t) c 0 known (lane.some (is_stopper t)))

  rows_fit : (n : Notice) (rows : List ℕ) → NoticeFits s n → AllBelow (rows_of s) rows → NoticeFits s (with_rows n rows)
  rows_fit n rows a all = record { old_head = a.old_head; first = below_at (rows_of s) rows some_row all 0; last = below_at (rows_of s) rows some_row all (length rows - 1); counts = a.counts; number = a.number; order0 = a.order0; order1 = a.order1; order2 = a.order2; order3 = a.order3 }

  module _ (n : ℕ) where
    ended_fits : (k : Caller) (a : Closing) → ListsFit s k → CallerFits s (ended n c k a)
    ended_fits k (Plain x) l = (tt, (l.0, l.1, l.2, λ j. omega arith))
    ended_fits k (Batch m) l = (tt, (l.0, l.1, l.2, λ j. omega arith))
    ended_fits k Full l = (tt, (l.0, l.1, l.2, λ j. omega arith))

    frees_fits : (k : Caller) (a : Closing) → ListsFit s k → CallerFits s (frees_next n c k a)
    frees_fits k a l = by (first_unheld k.named k.retired) refl where
      by : (o : Option ℕ) → first_unheld k.named k.retired ≡ o → CallerFits s (frees n c k a o)
      by None _ = ended_fits k a l
      by (Some r) is = (l.2 r (first_is_there k.named k.retired r is).0, l)

    scans_fits : (k : Caller) (a : Closing) (xs : List ℕ) → ListsFit s k → CallerFits s (scans n c k a xs)
    scans_fits k a [] l = ended_fits k a l
    scans_fits k a (x ∷ xs) l = ((omega arith), l)

    clears_ann_fits : (k : Caller) (a : Closing) (h : Hold) → ListsFit s k → CallerFits s (clears_ann n c k a h)
    clears_ann_fits k a Free l = scans_fits k a k.retired l
    clears_ann_fits k a (Names x) l = (tt, l)
    clears_ann_fits k a (Held x) l = (tt, l)

    clears_node_fits : (k : Caller) (a : Closing) (h : Hold) → ListsFit s k → CallerFits s (clears_node n c k a h)
    clears_node_fits k a Free l = clears_ann_fits k a k.hold l
    clears_node_fits k a (Names x) l = (tt, l)
    clears_node_fits k a (Held x) l = (tt, l)

    loses_fits : (k : Caller) (a : Closing) (xs : List ℕ) → AllBelow (rows_of s) xs → ListsFit s k → CallerFits s (loses n c k a xs)
    loses_fits k a [] all l = clears_node_fits (record k { rows = [] }) a k.row_hold (none_below (rows_of s), l.1, l.2, l.3)
    loses_fits k a (x ∷ xs) all l = (all x (among_here xs x x refl), (rest_below (rows_of s) x xs all, l.1, l.2, l.3))

    closes_fits : (k : Caller) (a : Closing) → ListsFit s k → CallerFits s (closes n c k a)
    closes_fits k a l = loses_fits k a (rising k.rows) (λ r is. l.0 r (sym (among_rising k.rows r) ∙ is)) l

    marks_on_fits : (k : Caller) (a : Closing) (stopped : Bool) (q : Place) (xs : List ℕ) → AllBelow (rows_of s) xs → (0 < length xs → q.count + 1 < 2 ^ 44) → ListsFit s k → CallerFits s (marks_on n c k a stopped q xs)
    marks_on_fits k a stopped q [] all count l = closes_fits (record k { walked = [] }) a (l.0, none_below (rows_of s), l.2, l.3)
    marks_on_fits k a stopped q (x ∷ xs) all count l = ((all x (among_here xs x x refl), count (omega arith)), (l.0, rest_below (rows_of s) x xs all, l.2, l.3))

    marks_from_fits : (k : Caller) (a : Closing) (stopped : Bool) (p : Place) (b : Bool) → PlaceFits (limits_of s) p → ListsFit s k → CallerFits s (marks_from n c k a stopped p b)
    marks_from_fits k a stopped p false fits l = closes_fits (record k { walked = [] }) a (l.0, none_below (rows_of s), l.2, l.3)
    marks_from_fits k a stopped p true fits l = (fits, l)

    marks_all_fits : (k : Caller) (a : Closing) (stopped : Bool) (p : Place) → PlaceFits (limits_of s) p → ListsFit s k → CallerFits s (marks_all n c k a stopped p)
    marks_all_fits k a stopped p fits l = marks_from_fits k a stopped p (ltb 0 (to_pass (length k.walked) stopped)) fits l

    reads_fits : (k : Caller) (b : Reading) (r l : ℕ) (vs ws : List ℕ) → PlaceFits (limits_of s) b.dummy × (r < rows_of s) → AllBelow (rows_of s) ws → ListsFit s k → CallerFits s (reads_on n c k b r l vs ws)
    reads_fits k b r zero vs ws fits all l = marks_all_fits (record k { values = vs; walked = ws }) (Batch b.queued) b.stopped b.dummy fits.0 (l.0, all, l.2, l.3)
    reads_fits k b r (suc x) vs ws fits all l = (fits, (l.0, all, l.2, l.3))

    links_fits : (k : Caller) (d : Notice) (i : ℕ) (b : Bool) → NoticeFits s d → ListsFit s k → CallerFits s (links_on (lane_sizes s) c k d i b)
    links_fits k d i true a l = (listens_fit d 0 [] a, l)
    links_fits k d i false a l = ((a, tt), l)

    takes_fits : (k : Caller) (d : Notice) (b : Bool) → NoticeFits s d → ListsFit s k → CallerFits s (takes_on (lane_sizes s) c k d b)
    takes_fits k d false a l = (search_fits (taking.Batch d (get_or (enqueued k.ops) (length k.rows) 0)) (a, l.3 (length k.rows)), l)
    takes_fits k d true a l = links_fits k (with_rows d k.rows) 0 (eqb (length k.rows) 1) (rows_fit d k.rows a l.0) l

    left_fit : (linked : Bool) (rows : List ℕ) → AllBelow (rows_of s) rows → AllBelow (rows_of s) (rows_left linked rows)
    left_fit true rows all = none_below (rows_of s)
    left_fit false rows all = all

    scans_on_fits : (k : Caller) (a : Closing) (d : ℕ) → d < s.callers → ListsFit s k → CallerFits s (scans_on (lane_sizes s) n c k a d)
    scans_on_fits k a d below l = by (eqb (suc d) s.callers) refl where
      by : (b : Bool) → eqb (suc d) s.callers ≡ b → CallerFits s (cond b (frees_next n c k a) (record k { point = point.Close a (close.LoadHazard (suc d)) }))
      by true _ = frees_fits k a l
      by false e = (dite (dec_le (suc (suc d)) s.callers) (λ inside. inside) (λ over. absurd (eqb-false (suc d) s.callers e (omega arith))), l)

    marks_fits : (k : Caller) (a : Closing) (q : Place) (stopped both : Bool) → PlaceFits (limits_of s) q → (0 < length k.walked → q.count + 1 < 2 ^ 44) → ListsFit s k → CallerFits s (followed (lane_sizes s) n c k (course.Marks a q both stopped))
    marks_fits k a q stopped true fits count l = marks_on_fits (record k { retired = k.retired ++ q.row ∷ [] }) a stopped q k.walked l.1 count (l.0, l.1, more_below (rows_of s) k.retired q.row l.2 fits.0, l.3)
    marks_fits k a q stopped false fits count l = marks_on_fits k a stopped q k.walked l.1 count l

  pub followed_fits : (n : ℕ) (k : Caller) (x : Course) → Counted s k x → CourseFits s x → ListsFit s k → CallerFits s (followed (lane_sizes s) n c k x)
  followed_fits n k (course.GoesOn t) _ a l = (a, l)
  followed_fits n k (course.Closes x) _ a l = closes_fits n k x l
  followed_fits n k course.Lacks _ a l = closes_fits n k Full l
  followed_fits n k (course.Passes x p r) _ a l = marks_all_fits n (record k { walked = r ∷ [] }) x false p a.0 (l.0, one_below (rows_of s) r a.1, l.2, l.3)
  followed_fits n k (course.Fills d r) _ a l = takes_fits n (record k { rows = k.rows ++ r ∷ [] }) d _ a.0 (more_below (rows_of s) k.rows r l.0 a.1, l.1, l.2, l.3)
  followed_fits n k (course.Chains d i) _ a l = links_fits n k d (suc i) _ a l
  followed_fits n k (course.Stops d r) _ a l = (listens_fit (with_rows d (r ∷ [])) 0 [] (rows_fit d (r ∷ []) a.0 (one_below (rows_of s) r a.1)), (one_below (rows_of s) r a.1, l.1, l.2, l.3))
  followed_fits n k (course.Takes t) _ a l = (search_fits t a, l)
  followed_fits n k (course.Hears d e x) _ a l = (listens_fit d (suc e) (noted k.named x) a, l)
  followed_fits n k (course.Guards t h) _ a l = (a, l)
  followed_fits n k (course.Holds t h) _ a l = (a, l)
  followed_fits n k (course.Reads b r x linked) _ a l = reads_fits n (record k { rows = rows_left linked k.rows }) b r x [] [] a (none_below (rows_of s)) (left_fit n linked k.rows l.0, l.1, l.2, l.3)
  followed_fits n k (course.ReadsMore b r x v) _ a l = reads_fits n k b r x (k.values ++ v ∷ []) (k.walked ++ r ∷ []) a (more_below (rows_of s) k.walked r l.1 a.1) l
  followed_fits n k (course.Walks t) _ a l = (a, (l.0, none_below (rows_of s), l.2, l.3))
  followed_fits n k (course.WalksMore t r v) _ a l = (a.0, (l.0, more_below (rows_of s) k.walked r l.1 a.1, l.2, l.3))
  followed_fits n k (course.Moves p m) _ a l = marks_all_fits n k (Batch m) false p a l
  followed_fits n k (course.Marks x q both stopped) count a l = marks_fits n k x q stopped both a count l
  followed_fits n k (course.Retires x r) _ a l = loses_fits n (record k { retired = k.retired ++ r ∷ [] }) x k.rows l.0 (l.0, l.1, more_below (rows_of s) k.retired r l.2 a, l.3)
  followed_fits n k (course.ClearsNode x) _ a l = clears_ann_fits n (record k { row_hold = Free }) x k.hold l
  followed_fits n k (course.ClearsAnn x) _ a l = scans_fits n (record k { hold = Free }) x k.retired l
  followed_fits n k (course.Finds x d y) below a l = scans_on_fits n (record k { named = noted k.named y }) x d below l
  followed_fits n k (course.Frees x) _ a l = frees_fits n (record k { retired = without_first_unheld k.named k.retired }) x (l.0, l.1, fewer_below (rows_of s) k.named k.retired l.2, l.3)
