use Rattle.std.proofs.Common.{rules, ◌≢◌}
use Rattle.bq_c.specs.declared.pass.BqPass.{BqPass}
use Rattle.bq_c.proofs.Lasts.{all_of_it}
use Rattle.bq_c.proofs.some_open.Goals as goal

pub returns-then-is_open-clause-some : goal.returns-then-is_open-clause-some
returns-then-is_open-clause-some c = λ _. (c.loop-pass.pass-index, c.pass-item.result, c.loop-pass-test.true, search rules, c.is_open.ensures.0 c.if-is_open.true)

pub returns-clause-none : goal.returns-clause-none
returns-clause-none c = λ _. all_of_it (λ (p : BqPass). p.state ≢ 1) c.args.passes.now c.loop-pass.pass-index (search rules) c.loop-pass.invariant
