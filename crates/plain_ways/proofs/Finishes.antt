-- The end of a call, one decision after another: what f says of what is at hand.
use Rattle.std.proofs.Common.{◌≡◌, ◌≢◌, ◌++◌, ℕ, suc, Bool, true, false, cond, nat_lt, List, [], ◌∷◌, length, Some, None, ap, sym, subst, refl, ◌∙◌}
use Rattle.std.proofs.lemmas.Bool.{eq-eqb, ne_eqb}
use Rattle.std.proofs.lemmas.List.{nil_from_length}
use Rattle.atomic_table.specs.Seated.{TableId}
use Rattle.atomic_table.specs.declared.shared.Seat.{Seat}
use Rattle.bq_model.specs.declared.shape.Shape.{Shape}
use Rattle.word_rows.specs.declared.content.Content.{Content}
use Rattle.word_rows.specs.declared.place.Place.{Place}
use Rattle.node_guard.specs.Retired.{first_unheld, without_first_unheld}
use Rattle.lane_steps.specs.Act.{behind}
use Rattle.lane_steps.specs.Close.{to_pass, both_set}
use Rattle.lane_steps.specs.Fill.{noted}
use Rattle.lane_steps.specs.Functions.{rising}
use Rattle.lane_steps.specs.LaneSizes.{lane_sizes}
use Rattle.lane_steps.specs.State.{Caller, hazard_in, mark_in}
use Rattle.lane_steps.specs.Step.{frees, frees_next, scans, scans_on, clears_ann, clears_node, loses, closes, marks_on, marks_from, marks_all, retires}
use Rattle.lane_steps.specs.declared.point.ClosePoint.TheVariants.{MarkRow, MarkLoose, ClearNode, ClearAnn, LoadHazard, MarkFree}
use Rattle.lane_steps.specs.declared.point.Closing.{Closing}
use Rattle.lane_steps.specs.declared.point.Hold.TheVariants.{Free, Names, Held}
use Rattle.lane_steps.specs.declared.point.Point.TheVariants.{Close}
use Rattle.lane_rule.specs.declared.view.View.{View}
use Rattle.lane_rule.specs.Plays.{Moves}
use Rattle.lane_course.specs.declared.next.Next.TheVariants.{Goes, Ends}
use Rattle.lane_course.specs.declared.scratch.Scratch.{Scratch}
use Rattle.lane_course.specs.Along.{Along}
use Rattle.lane_course.specs.Led.{Led}
use Rattle.lane_course.specs.Running.{IsNext}
use Rattle.lane_course.specs.Scratch.{keeping, SamePuts}
use Rattle.lane_course.proofs.Losing.{loses_alike}
use Rattle.lane_course.proofs.Seeks.{same_puts}
use Rattle.lane_course.proofs.Ways.{led, led_as}

module _ {id : TableId} {key s : Shape} {c : ℕ} {x : Closing} {a : Scratch} {p q : Seat ℕ View} where
  -- it frees a row, or none is left that it can free
  pub frees_one : Led id key s c (λ n k. frees_next n c k x) a p q → (row : ℕ) → first_unheld a.named.items a.retired.items ≡ Some row → IsNext id key s c a p q (Goes (Close x (MarkFree row)))
  frees_one led row is = led.then (Goes (Close x (MarkFree row))) a (λ n w. ap (frees n c (keeping w a) x) is) (same_puts a)

  pub frees_none : Led id key s c (λ n k. frees_next n c k x) a p q → first_unheld a.named.items a.retired.items ≡ None → IsNext id key s c a p q (Ends x)
  frees_none led is = led.then (Ends x) a (λ n w. ap (frees n c (keeping w a) x) is) (same_puts a)

  -- it loads the next hazard word, or has loaded all
  pub scans_more : (d e : ℕ) → suc d ≡ e → Led id key s c (λ n k. scans_on (lane_sizes s) n c k x d) a p q → e ≢ s.callers → IsNext id key s c a p q (Goes (Close x (LoadHazard e)))
  scans_more d e next way other = subst (λ (n : ℕ). IsNext id key s c a p q (Goes (Close x (LoadHazard n)))) next
      (way.then (Goes (Close x (LoadHazard (suc d)))) a (λ n w. ap (λ (b : Bool). cond b (frees_next n c (keeping w a) x) (record (keeping w a) { point = Close x (LoadHazard (suc d)) })) (ne_eqb (suc d) s.callers (λ is. other (sym next ∙ is)))) (same_puts a))

  pub scanned : (d : ℕ) → Led id key s c (λ n k. scans_on (lane_sizes s) n c k x d) a p q → suc d ≡ s.callers → Led id key s c (λ n k. frees_next n c k x) a p q
  scanned d way last = led_as way (λ n k. frees_next n c k x) a (λ n w. sym (ap (λ (b : Bool). cond b (frees_next n c (keeping w a) x) (record (keeping w a) { point = Close x (LoadHazard (suc d)) })) (eq-eqb (suc d) s.callers last))) (same_puts a)

  -- it scans for its rows, or has none
  pub scans_none : Led id key s c (λ n k. scans n c k x k.retired) a p q → length a.retired.items ≡ 0 → IsNext id key s c a p q (Ends x)
  scans_none led none = led.then (Ends x) a (λ n w. ap (scans n c (keeping w a) x) (nil_from_length a.retired.items none)) (same_puts a)

  pub scans_some : Led id key s c (λ n k. scans n c k x k.retired) a p q → length a.retired.items ≢ 0 → (b : Scratch) → ((k : Caller) → keeping k b ≡ record (keeping k a) { named = [] }) → SamePuts a b → IsNext id key s c b p q (Goes (Close x (LoadHazard 0)))
  scans_some led some b kept same = led.then (Goes (Close x (LoadHazard 0))) b (λ n w. by n w a.retired.items some ∙ ap (λ (k : Caller). record k { point = Close x (LoadHazard 0) }) (sym (kept w))) same where
    by : (n : ℕ) (w : Caller) (rows : List ℕ) → length rows ≢ 0 → scans n c (keeping w a) x rows ≡ record (keeping w a) { point = Close x (LoadHazard 0); named = [] }
    by n w [] none = absurd (none refl)
    by n w (r ∷ rs) more = refl

  -- it clears its ANN_HAZARD, or that names nothing
  pub ann_free : Led id key s c (λ n k. clears_ann n c k x k.hold) a p q → a.hold ≡ Free → Led id key s c (λ n k. scans n c k x k.retired) a p q
  ann_free way is = led_as way (λ n k. scans n c k x k.retired) a (λ n w. sym (ap (clears_ann n c (keeping w a) x) is)) (same_puts a)

  pub ann_names : Led id key s c (λ n k. clears_ann n c k x k.hold) a p q → (n : ℕ) → a.hold ≡ Names n → IsNext id key s c a p q (Goes (Close x ClearAnn))
  ann_names led r is = led.then (Goes (Close x ClearAnn)) a (λ n w. ap (clears_ann n c (keeping w a) x) is) (same_puts a)

  pub ann_held : Led id key s c (λ n k. clears_ann n c k x k.hold) a p q → (n : ℕ) → a.hold ≡ Held n → IsNext id key s c a p q (Goes (Close x ClearAnn))
  ann_held led r is = led.then (Goes (Close x ClearAnn)) a (λ n w. ap (clears_ann n c (keeping w a) x) is) (same_puts a)

  -- it clears its NODE_HAZARD, or that names nothing
  pub node_free : Led id key s c (λ n k. clears_node n c k x k.row_hold) a p q → a.row_hold ≡ Free → Led id key s c (λ n k. clears_ann n c k x k.hold) a p q
  node_free way is = led_as way (λ n k. clears_ann n c k x k.hold) a (λ n w. sym (ap (clears_node n c (keeping w a) x) is)) (same_puts a)

  pub node_names : Led id key s c (λ n k. clears_node n c k x k.row_hold) a p q → (n : ℕ) → a.row_hold ≡ Names n → IsNext id key s c a p q (Goes (Close x ClearNode))
  node_names led r is = led.then (Goes (Close x ClearNode)) a (λ n w. ap (clears_node n c (keeping w a) x) is) (same_puts a)

  pub node_held : Led id key s c (λ n k. clears_node n c k x k.row_hold) a p q → (n : ℕ) → a.row_hold ≡ Held n → IsNext id key s c a p q (Goes (Close x ClearNode))
  node_held led r is = led.then (Goes (Close x ClearNode)) a (λ n w. ap (clears_node n c (keeping w a) x) is) (same_puts a)

  -- it marks the next row that it didn't link, or none is left
  pub loses_one : Led id key s c (λ n k. loses n c k x k.rows) a p q → (row : ℕ) (b : Scratch) → a.rows.items ≡ row ∷ b.rows.items → ((k : Caller) → keeping k b ≡ record (keeping k a) { rows = b.rows.items }) → SamePuts a b → IsNext id key s c b p q (Goes (Close x (MarkLoose row)))
  loses_one led row b is kept same = led.then (Goes (Close x (MarkLoose row))) b (λ n w. ap (loses n c (keeping w a) x) is ∙ ap (λ (k : Caller). record k { point = Close x (MarkLoose row) }) (sym (kept w))) same

  pub loses_none : Led id key s c (λ n k. loses n c k x k.rows) a p q → (b : Scratch) → a.rows.items ≡ [] → ((k : Caller) → keeping k b ≡ record (keeping k a) { rows = [] }) → SamePuts a b → Led id key s c (λ n k. clears_node n c k x k.row_hold) b p q
  loses_none way b is kept same = led_as way (λ n k. clears_node n c k x k.row_hold) b (λ n w. ap (λ (k : Caller). clears_node n c k x k.row_hold) (kept w) ∙ sym (ap (loses n c (keeping w a) x) is)) same

  -- its rows that it didn't link are put in order
  pub closes_rising : Led id key s c (λ n k. closes n c k x) a p q → (b : Scratch) → ((k : Caller) → keeping k b ≡ record (keeping k a) { rows = rising a.rows.items }) → SamePuts a b → Led id key s c (λ n k. loses n c k x k.rows) b p q
  closes_rising way b kept same = led_as way (λ n k. loses n c k x k.rows) b (λ n w. ap (λ (k : Caller). loses n c k x k.rows) (kept w) ∙ loses_alike n c (keeping w a) x (rising a.rows.items) (rising a.rows.items)) same

  module _ (stopped : Bool) where
    -- it marks the next row of its list, or none is left
    pub marks_one : (at : Place) → Led id key s c (λ n k. marks_on n c k x stopped at k.walked) a p q → (row : ℕ) (b : Scratch) (passed : Bool) → a.walked.items ≡ row ∷ b.walked.items → passed ≡ nat_lt 0 (to_pass (length b.walked.items) stopped) → ((k : Caller) → keeping k b ≡ record (keeping k a) { walked = b.walked.items }) → SamePuts a b → IsNext id key s c b p q (Goes (Close x (MarkRow (behind at row) true passed stopped)))
    marks_one at led row b passed is left kept same = led.then (Goes (Close x (MarkRow (behind at row) true passed stopped))) b (λ n w. ap (marks_on n c (keeping w a) x stopped at) is
        ∙ (ap (λ (d : Bool). record (keeping w a) { point = Close x (MarkRow (behind at row) true d stopped); walked = b.walked.items }) (sym left)
        ∙ ap (λ (k : Caller). record k { point = Close x (MarkRow (behind at row) true passed stopped) }) (sym (kept w)))) same

    pub marks_none : (at : Place) → Led id key s c (λ n k. marks_on n c k x stopped at k.walked) a p q → (b : Scratch) → a.walked.items ≡ [] → ((k : Caller) → keeping k b ≡ record (keeping k a) { walked = [] }) → SamePuts a b → Led id key s c (λ n k. closes n c k x) b p q
    marks_none at way b is kept same = led_as way (λ n k. closes n c k x) b (λ n w. ap (λ (k : Caller). closes n c k x) (kept w) ∙ sym (ap (marks_on n c (keeping w a) x stopped at) is)) same

    -- it marks the old dummy, or that was not passed
    pub marks_dummy : (at : Place) → Led id key s c (λ n k. marks_all n c k x stopped at) a p q → nat_lt 0 (to_pass (length a.walked.items) stopped) ≡ true → IsNext id key s c a p q (Goes (Close x (MarkRow at false true stopped)))
    marks_dummy at led is = led.then (Goes (Close x (MarkRow at false true stopped))) a (λ n w. ap (marks_from n c (keeping w a) x stopped at) is) (same_puts a)

    pub marks_nothing : (at : Place) → Led id key s c (λ n k. marks_all n c k x stopped at) a p q → (b : Scratch) → nat_lt 0 (to_pass (length a.walked.items) stopped) ≡ false → ((k : Caller) → keeping k b ≡ record (keeping k a) { walked = [] }) → SamePuts a b → Led id key s c (λ n k. closes n c k x) b p q
    marks_nothing at way b is kept same = led_as way (λ n k. closes n c k x) b (λ n w. ap (λ (k : Caller). closes n c k x) (kept w) ∙ sym (ap (marks_from n c (keeping w a) x stopped at) is)) same

-- it marks this one row of its list
pub marks_only : {id : TableId} {key s : Shape} {c : ℕ} {a : Scratch} {p q : Seat ℕ View} (x : Closing) (stopped : Bool) (at : Place) (row : ℕ) → Led id key s c (λ n k. marks_all n c (record k { walked = row ∷ [] }) x stopped at) a p q → (b : Scratch) → ((k : Caller) → keeping k b ≡ record (keeping k a) { walked = row ∷ [] }) → SamePuts a b → Led id key s c (λ n k. marks_all n c k x stopped at) b p q
marks_only {c} x stopped at row way b kept same = led_as way (λ n k. marks_all n c k x stopped at) b (λ n w. ap (λ (k : Caller). marks_all n c k x stopped at) (kept w)) same

-- the same after each step of the end, with what it changes at hand
module _ {id : TableId} {key s : Shape} {c : ℕ} {x : Closing} {a : Scratch} {p q : Seat ℕ View} (r : Seat ℕ View) (y : Content) (m : Moves q y r) (b : Scratch) where
  pub freed : {row : ℕ} → Along id key s c (Close x (MarkFree row)) a p q → ((k : Caller) → keeping k b ≡ record (keeping k a) { retired = without_first_unheld a.named.items a.retired.items }) → SamePuts a b → Led id key s c (λ n k. frees_next n c k x) b p r
  freed way kept same = led way r y m (λ n k. frees_next n c k x) b (λ n w. ap (λ (k : Caller). frees_next n c k x) (kept w)) same

  pub scanned_one : {d : ℕ} → Along id key s c (Close x (LoadHazard d)) a p q → ((k : Caller) → keeping k b ≡ record (keeping k a) { named = noted a.named.items (hazard_in y) }) → SamePuts a b → Led id key s c (λ n k. scans_on (lane_sizes s) n c k x d) b p r
  scanned_one {d} way kept same = led way r y m (λ n k. scans_on (lane_sizes s) n c k x d) b (λ n w. ap (λ (k : Caller). scans_on (lane_sizes s) n c k x d) (kept w)) same

  pub ann_cleared : Along id key s c (Close x ClearAnn) a p q → ((k : Caller) → keeping k b ≡ record (keeping k a) { hold = Free }) → SamePuts a b → Led id key s c (λ n k. scans n c k x k.retired) b p r
  ann_cleared way kept same = led way r y m (λ n k. scans n c k x k.retired) b (λ n w. ap (λ (k : Caller). scans n c k x k.retired) (kept w)) same

  pub node_cleared : Along id key s c (Close x ClearNode) a p q → ((k : Caller) → keeping k b ≡ record (keeping k a) { row_hold = Free }) → SamePuts a b → Led id key s c (λ n k. clears_ann n c k x k.hold) b p r
  node_cleared way kept same = led way r y m (λ n k. clears_ann n c k x k.hold) b (λ n w. ap (λ (k : Caller). clears_ann n c k x k.hold) (kept w)) same

  pub lost_one : {row : ℕ} → Along id key s c (Close x (MarkLoose row)) a p q → ((k : Caller) → keeping k b ≡ record (keeping k a) { retired = a.retired.items ++ row ∷ [] }) → SamePuts a b → Led id key s c (λ n k. loses n c k x k.rows) b p r
  lost_one way kept same = led way r y m (λ n k. loses n c k x k.rows) b (λ n w. ap (λ (k : Caller). loses n c k x k.rows) (kept w)) same

  pub marked : {at : Place} {read passed stopped : Bool} → Along id key s c (Close x (MarkRow at read passed stopped)) a p q → ((k : Caller) → keeping k b ≡ retires (keeping k a) at.row (both_set (mark_in y) read passed)) → SamePuts a b → Led id key s c (λ n k. marks_on n c k x stopped at k.walked) b p r
  marked {at} {stopped} way kept same = led way r y m (λ n k. marks_on n c k x stopped at k.walked) b (λ n w. ap (λ (k : Caller). marks_on n c k x stopped at k.walked) (kept w)) same
