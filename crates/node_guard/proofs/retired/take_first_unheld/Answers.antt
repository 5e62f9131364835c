use Rattle.std.proofs.Common.{◌≡◌, List, ℕ, Option, None, Some, sym, ◌∙◌, ap}
use Rattle.std.specs.Prelude.{position}
use Rattle.node_guard.specs.Retired.{is_unheld}
use Rattle.node_guard.proofs.RetiredRows.{all_stay, no_place, its_place}
use Rattle.node_guard.proofs.retired.take_first_unheld.Goals as goal

-- what was found in the slice was found in the vector
found_in : (held rows items : List ℕ) (place found : Option ℕ) → rows ≡ items → place ≡ position (is_unheld held) rows → place ≡ found → position (is_unheld held) items ≡ found
found_in held rows items place found same of is = ap (position (is_unheld held)) (sym same) ∙ (sym of ∙ is)

pub returns-in_err-place-clause-given : goal.returns-in_err-place-clause-given
returns-in_err-place-clause-given c = c.from_residual.ensures ∙ sym (no_place c.args.held.now c.args.rows.now.items (found_in c.args.held.now c.as_slice.result.now c.args.rows.now.items c.place_of_unheld.result None c.as_slice.ensures.value c.place_of_unheld.ensures c.in_err-place.was))

pub returns-in_err-place-clause-left : goal.returns-in_err-place-clause-left
returns-in_err-place-clause-left c = sym (all_stay c.args.held.now c.args.rows.now.items (no_place c.args.held.now c.args.rows.now.items (found_in c.args.held.now c.as_slice.result.now c.args.rows.now.items c.place_of_unheld.result None c.as_slice.ensures.value c.place_of_unheld.ensures c.in_err-place.was)))

pub returns-clause-given : goal.returns-clause-given
returns-clause-given c = (its_place c.args.held.now c.args.rows.now.items c.in_ok-place.place c.remove.result (found_in c.args.held.now c.as_slice.result.now c.args.rows.now.items c.place_of_unheld.result (Some c.in_ok-place.place) c.as_slice.ensures.value c.place_of_unheld.ensures c.in_ok-place.was) c.remove.ensures.value).0

pub returns-clause-left : goal.returns-clause-left
returns-clause-left c = c.remove.ensures.items ∙ (its_place c.args.held.now c.args.rows.now.items c.in_ok-place.place c.remove.result (found_in c.args.held.now c.as_slice.result.now c.args.rows.now.items c.place_of_unheld.result (Some c.in_ok-place.place) c.as_slice.ensures.value c.place_of_unheld.ensures c.in_ok-place.was) c.remove.ensures.value).1
