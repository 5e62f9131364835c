-- The owner of a batch fills its rows: it stores the value of each, takes the next one, and links them to each other.
use Rattle.std.proofs.Common.{◌≡◌, ◌≢◌, ℕ, suc, ◌-◌, ◌<◌, eqb, Bool, true, false, List, [], ◌∷◌, ◌++◌, length, get_or, sym, refl, ap, ◌∙◌, subst, arith, length-append}
use Rattle.std.proofs.lemmas.Bool.{eqb-true, eqb-false}
use Rattle.bq_model.specs.Values.{enqueued}
use Rattle.excess_count.specs.Excess.{enqueue_count}
use Rattle.word_rows.specs.declared.marks.Marks.{Marks}
use Rattle.word_rows.specs.declared.link_word.LinkWord.{LinkWord}
use Rattle.word_rows.specs.declared.link_word.LinkWord.TheVariants.{Single}
use Rattle.lane_steps.specs.declared.point.Notice.{Notice}
use Rattle.lane_steps.specs.declared.point.Point.{Point}
use Rattle.lane_steps.specs.declared.point.Point.TheVariants as point
use Rattle.lane_steps.specs.declared.point.Taking.TheVariants as taking_for
use Rattle.lane_steps.specs.declared.point.FillPoint.{FillPoint}
use Rattle.lane_steps.specs.declared.point.FillPoint.TheVariants as fill
use Rattle.bq_model.specs.declared.shape.Shape.{Shape}
use Rattle.word_rows.specs.declared.content.Content.{Content}
use Rattle.lane_steps.specs.Fits.{NoticeFits}
use Rattle.lane_steps.specs.Coded.{CourseFits}
use Rattle.lane_steps.specs.Fill as filling
use Rattle.lane_steps.specs.Batches.{with_rows}
use Rattle.lane_steps.specs.Functions.{put}
use Rattle.lane_steps.specs.LaneSizes.{LaneSizes}
use Rattle.lane_steps.specs.State.{Caller, command, State, both_marks}
use Rattle.lane_steps.specs.Take.{search}
use Rattle.lane_steps.specs.Fill.{scan_from}
use Rattle.lane_steps.specs.Fact.{linearized_is, fills, owns}
use Rattle.lane_steps.specs.Step.{takes_on, links_on, step_at}
use Rattle.core_model.specs.Facts.{Holds, AtPoint}
use Rattle.core_model.specs.Ghost.{World}
use Rattle.core_model.specs.Rows.{IsTaken}
use Rattle.core_model.specs.Lawful.{Lawful}
use Rattle.core_model.proofs.Announces.{links_put}
use Rattle.core_model.proofs.Filled.{takes_last, draft_with, has_enqueues, whole_with, fills_push, fills_link}
use Rattle.core_model.proofs.FillScans.{scan_begins, preserves_load_hazard}
use Rattle.core_model.proofs.Preserves.{known, changed}
use Rattle.core_model.proofs.Puts.{put_else}
use Rattle.core_model.proofs.Rely.{world, third, fourth, true_false}
use Rattle.core_model.proofs.RowStores.{row_stored, linearized_stored}

module _ (z : LaneSizes) (s : State) (L : Lawful z s) (c : ℕ) where
  abbrev me : Caller
  me = s.callers c

  -- a row that was taken isn't retired
  not_retired : (b : Bool) (r : ℕ) → IsTaken z c L.ghost.spot s.memory.mark b r → s.memory.mark r ≢ both_marks
  not_retired b r taken e = true_false (ap (λ (m : Marks). m.passed) (sym e ∙ taken.marks))

  -- the value of the row r
  module _ (n : Notice) (r v : ℕ) (f : AtPoint z (world s L.ghost) c (s.callers c) (point.Fill n (fill.StoreValue r v))) where
    abbrev rows' : List ℕ
    rows' = (s.callers c).rows ++ r ∷ []

    abbrev V : World
    V = record { memory = record s.memory { value = put s.memory.value r v }; history = s.history; ghost = L.ghost }

    own : Holds z (world s L.ghost) c (owns false r)
    own = fourth f.here

    longer : length rows' ≡ suc (length me.rows)
    longer = let total = length-append me.rows (r ∷ []) in omega arith

    off : Holds z V c (linearized_is false rows' [] [])
    off = takes_last z V c false me.rows r [] [] (linearized_stored z s L c r own.0.free.at_home own.0.free.unlinked s.memory.link (put s.memory.value r v) s.memory.mark (λ _ _. refl) (λ q apart. put_else s.memory.value r v q apart) (λ _ _. refl) L.list.links refl false (r ∷ me.rows) [] [] f.here.0)

    filled : Holds z V c (fills rows' me.ops 0)
    filled = fills_push z c L.ghost.spot s.memory.value s.memory.link s.memory.mark me.rows me.ops r v f.here.1.0 own.0 own.1 f.here.1.1.1.1.0 (has_enqueues z c (command me) n (length me.rows) v f.call.0 (third f.here)) (third f.here).value

    goes : (t : Point) (named : List ℕ) → AtPoint z V c (record (s.callers c) { point = t; rows = rows'; named = named }) t → Lawful z (changed s c (record s.memory { value = put s.memory.value r v }) s.history (record (s.callers c) { point = t; rows = rows'; named = named }))
    goes t named at = row_stored z s L c r own.0.free.at_home own.0.free.unlinked s.memory.link (put s.memory.value r v) s.memory.mark (λ _ _. refl) (λ q apart. put_else s.memory.value r v q apart) (λ _ _. refl) L.list.links
        (not_retired false r own.0) (not_retired false r own.0) f.here.0.1 t rows' named at

    -- all rows are there: it links them, or there is one
    linked_next : (b : Bool) → eqb (length rows') 1 ≡ b → length rows' ≡ n.counts.enqs
        → Lawful z (changed s c (record s.memory { value = put s.memory.value r v }) s.history (links_on z c (record (s.callers c) { rows = rows' }) (with_rows n rows') 0 b))
    linked_next true one all = goes (scan_from z c [] (with_rows n rows') 0) [] (scan_begins z s L c V.memory rows' (with_rows n rows') off (draft_with z c (command me) n rows' _ _ f.call.0)
        (subst (λ (j : ℕ). Holds z V c (fills rows' me.ops j)) (let e = eqb-true (length rows') 1 one in let zero : 0 ≡ length rows' - 1 = omega arith in zero) filled) (whole_with n rows' (let e = longer in omega arith) all))
    linked_next false more all = let ne = eqb-false (length rows') 1 more in let e = longer in goes (point.Fill (with_rows n rows') (fill.StoreChain 0 (get_or rows' 0 0) (get_or rows' 1 0))) me.named (record {
      call = (draft_with z c (command me) n rows' _ _ f.call.0, tt);
      here = (off, (filled, (whole_with n rows' (omega arith) all, (record { inside = omega arith; row = refl; next = refl }, tt))));
    })

    next : (b : Bool) → eqb (length rows') n.counts.enqs ≡ b
        → Lawful z (changed s c (record s.memory { value = put s.memory.value r v }) s.history (takes_on z c (record (s.callers c) { rows = rows' }) n b))
    next true all = linked_next (eqb (length rows') 1) refl (eqb-true (length rows') n.counts.enqs all)
    next false fewer = let ne = eqb-false (length rows') n.counts.enqs fewer in let e = longer in let inside = (third f.here).inside in let some = L.sizes.some false in
        goes (search z c (taking_for.Batch n (get_or (enqueued me.ops) (length rows') 0))) me.named (record {
          call = (off, (draft_with z c (command me) n rows' n.first n.last f.call.0, (filled, (record { inside = omega arith; value = refl }, tt))));
          here = ((0, refl, omega arith), tt);
        })

  preserves_fill_value : (n : Notice) (r v : ℕ) → (s.callers c).point ≡ point.Fill n (fill.StoreValue r v) → Lawful z (step_at z s c (point.Fill n (fill.StoreValue r v)))
  preserves_fill_value n r v is = next n r v (known z s L c (point.Fill n (fill.StoreValue r v)) is) (eqb (length (me.rows ++ r ∷ [])) n.counts.enqs) refl

  -- the link of the row of the number i to the next one
  module _ (n : Notice) (i : ℕ) (f : AtPoint z (world s L.ghost) c (s.callers c) (point.Fill n (fill.StoreChain i (get_or (s.callers c).rows i 0) (get_or (s.callers c).rows (suc i) 0)))) where
    abbrev r : ℕ
    r = get_or (s.callers c).rows i 0

    abbrev link' : ℕ → LinkWord
    link' = put s.memory.link (get_or (s.callers c).rows i 0) (Single (get_or (s.callers c).rows (suc i) 0))

    abbrev U : World
    U = record { memory = record s.memory { link = link' }; history = s.history; ghost = L.ghost }

    another : suc i < length me.rows
    another = (fourth f.here).inside

    joined : Holds z (world s L.ghost) c (fills (s.callers c).rows (s.callers c).ops i)
    joined = f.here.1.0

    row : IsTaken z c L.ghost.spot s.memory.mark (eqb (enqueue_count me.ops) 0) r
    row = joined.taken i (let more = another in omega arith)

    ranges : (q : ℕ) → Rattle.core_model.specs.Lawful.LinksIn z.rows (link' q)
    ranges = links_put z.rows s.memory.link r (Single (get_or me.rows (suc i) 0)) (joined.taken (suc i) another).free.inside L.list.links

    off_linked : Holds z U c (linearized_is false me.rows [] [])
    off_linked = linearized_stored z s L c r row.free.at_home row.free.unlinked link' s.memory.value s.memory.mark (λ q apart. put_else s.memory.link r (Single (get_or me.rows (suc i) 0)) q apart) (λ _ _. refl) (λ _ _. refl) ranges refl false me.rows [] [] f.here.0

    joined_next : Holds z U c (fills me.rows me.ops (suc i))
    joined_next = fills_link z c L.ghost.spot s.memory.value s.memory.link s.memory.mark me.rows me.ops i another joined

    goes_linked : (t : Point) (named : List ℕ) → AtPoint z U c (record (s.callers c) { point = t; named = named }) t → Lawful z (changed s c (record s.memory { link = link' }) s.history (record (s.callers c) { point = t; named = named }))
    goes_linked t named at = row_stored z s L c r row.free.at_home row.free.unlinked link' s.memory.value s.memory.mark (λ q apart. put_else s.memory.link r (Single (get_or me.rows (suc i) 0)) q apart) (λ _ _. refl) (λ _ _. refl) ranges
        (not_retired (eqb (enqueue_count me.ops) 0) r row) (not_retired (eqb (enqueue_count me.ops) 0) r row) f.here.0.1 t me.rows named at

    next_link : (b : Bool) → eqb (suc (suc i)) (length me.rows) ≡ b → Lawful z (changed s c (record s.memory { link = link' }) s.history (links_on z c (s.callers c) n (suc i) b))
    next_link true end = let last = eqb-true (suc (suc i)) (length me.rows) end in goes_linked (scan_from z c [] n 0) [] (scan_begins z s L c U.memory me.rows n off_linked f.call.0
        (subst (λ (j : ℕ). Holds z U c (fills me.rows me.ops j)) (let e : suc i ≡ length me.rows - 1 = omega arith in e) joined_next) (third f.here))
    next_link false more = let ne = eqb-false (suc (suc i)) (length me.rows) more in let there = another in goes_linked (point.Fill n (fill.StoreChain (suc i) (get_or me.rows (suc i) 0) (get_or me.rows (suc (suc i)) 0))) me.named (record {
      call = f.call;
      here = (off_linked, (joined_next, (third f.here, (record { inside = omega arith; row = refl; next = refl }, tt))));
    })

  preserves_fill_chain : (n : Notice) (i r q : ℕ) → (s.callers c).point ≡ point.Fill n (fill.StoreChain i r q) → Lawful z (step_at z s c (point.Fill n (fill.StoreChain i r q)))
  preserves_fill_chain n i r q is = let f = known z s L c (point.Fill n (fill.StoreChain i r q)) is in let named = fourth f.here in
      subst (λ (y : ℕ × ℕ). Lawful z (step_at z s c (point.Fill n (fill.StoreChain i y.0 y.1)))) (sym (pairs named.row named.next))
      (next_link n i (subst (λ (y : ℕ × ℕ). AtPoint z (world s L.ghost) c me (point.Fill n (fill.StoreChain i y.0 y.1))) (pairs named.row named.next) f) (eqb (suc (suc i)) (length me.rows)) refl) where
        pair : ℕ → ℕ → ℕ × ℕ
        pair a b = (a, b)

        pairs : r ≡ get_or me.rows i 0 → q ≡ get_or me.rows (suc i) 0 → pair r q ≡ pair (get_or me.rows i 0) (get_or me.rows (suc i) 0)
        pairs e f = λ k. (e k, f k)

  -- each step of the owner of a batch, until its announcement is chosen
  pub preserves_fill : (n : Notice) (p : FillPoint) → (s.callers c).point ≡ point.Fill n p → Lawful z (step_at z s c (point.Fill n p))
  preserves_fill n (fill.StoreValue r v) is = preserves_fill_value n r v is
  preserves_fill n (fill.StoreChain i r q) is = preserves_fill_chain n i r q is
  preserves_fill n (fill.LoadHazard e) is = preserves_load_hazard z s L c n e is

-- and it goes on with what fits
module _ (s : Shape) where
  pub fill_fits : (n : Notice) (p : FillPoint) (x : Content) → NoticeFits s n → filling.fits s p → CourseFits s (filling.course n p x)
  fill_fits n (fill.StoreValue r v) x a b = (a, b.0)
  fill_fits n (fill.StoreChain i r q) x a b = a
  fill_fits n (fill.LoadHazard e) x a b = a
