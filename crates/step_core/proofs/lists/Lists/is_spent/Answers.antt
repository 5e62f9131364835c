use Rattle.std.proofs.Common.{rules, ◌≤◌, ℕ, sym, subst}
use Rattle.step_core.proofs.Sound.{made_within, spent_is}
use Rattle.step_core.proofs.lists.Lists.is_spent.Goals as goal

pub overflow_sub-result : goal.overflow_sub-result
overflow_sub-result c = let P : ℕ → Type 0 = λ n. c.index.result.now.operations ≤ n in
    subst P (sym c.allowance.ensures) (made_within c.args.self.now c.requires.sound c.args.caller c.index.result.now (search rules) c.index.ensures)

pub returns : goal.returns
returns c = spent_is c.args.self.now c.requires.sound c.args.caller c.index.result.now c.allowance.result c.args.more (search rules) c.index.ensures c.allowance.ensures
