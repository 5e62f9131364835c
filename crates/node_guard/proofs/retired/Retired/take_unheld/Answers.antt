use Rattle.std.proofs.Common.{◌≡◌, ◌↔◌, ℕ, Option, IfSome, IsSome, IsNone, subst, sym, ap, ◌∙◌}
use Rattle.std.specs.Prelude.{All, Contains}
use Rattle.bq_model.specs.Bounded.{BoundedList}
use Rattle.node_guard.specs.Retired.{first_unheld}
use Rattle.node_guard.proofs.RetiredRows.{given_is_unheld, none_is_given, some_is_given}
use Rattle.node_guard.proofs.retired.Retired.take_unheld.Goals as goal

given : (c : goal.After-take_first_unheld) → c.take_first_unheld.result ≡ first_unheld c.args.held.now c.args.self.now.items
given c = c.take_first_unheld.ensures.given ∙ ap (λ (rows : BoundedList ℕ). first_unheld c.args.held.now rows.items) c.self.view_is

pub returns-clause-nothing_held_is_given : goal.returns-clause-nothing_held_is_given
returns-clause-nothing_held_is_given c = let held = c.args.held.now in subst (λ (row : Option ℕ). IfSome row (λ r. ¬ Contains held r)) (sym (given c)) (given_is_unheld held c.args.self.now.items)

pub returns-clause-none_where_all_are_held : goal.returns-clause-none_where_all_are_held
returns-clause-none_where_all_are_held c = let held = c.args.held.now in let rows = c.args.self.now.items in
    subst (λ (row : Option ℕ). IsNone row ↔ All (λ r. Contains held r) rows) (sym (given c)) (none_is_given held rows)

pub returns-clause-some_where_fewer_are_held : goal.returns-clause-some_where_fewer_are_held
returns-clause-some_where_fewer_are_held c apart fewer = subst IsSome (sym (given c)) (some_is_given c.args.held.now c.args.self.now.items apart fewer)
