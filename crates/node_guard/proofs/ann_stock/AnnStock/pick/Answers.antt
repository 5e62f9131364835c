use Rattle.std.proofs.Common.{◌*◌, ◌+◌, ◌<◌, ◌≤◌, ℕ, subst, sym}
use Rattle.std.specs.Prelude.{Contains}
use Rattle.node_guard.proofs.Picks.{pick_right, pick_not_held, pick_least}
use Rattle.node_guard.proofs.ann_stock.AnnStock.pick.Goals as goal

pub returns-clause-own : goal.returns-clause-own
returns-clause-own c = let s = c.args.self.now in let right = pick_right s.callers s.caller c.args.held.now c.requires in
    subst (λ (a : ℕ). (s.caller * s.callers ≤ a) × (a < s.caller * s.callers + s.callers)) (sym c.first_left.ensures) (right.0, right.1)

pub returns-clause-never_a_held_one : goal.returns-clause-never_a_held_one
returns-clause-never_a_held_one c = let s = c.args.self.now in subst (λ (a : ℕ). ¬ Contains c.args.held.now a) (sym c.first_left.ensures) (pick_not_held s.callers s.caller c.args.held.now c.requires)

pub returns-clause-all_before_are_held : goal.returns-clause-all_before_are_held
returns-clause-all_before_are_held c a from before = let s = c.args.self.now in pick_least s.callers s.caller c.args.held.now c.requires a from (subst (λ (n : ℕ). a < n) c.first_left.ensures before)
