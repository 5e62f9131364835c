use Rattle.std.proofs.Common.{ℕ, Contains, subst}
use Rattle.bq_model.specs.Grows.{SawMore}
use Rattle.bq_lane.specs.Pass.{PassState}
use Rattle.bq_lane.proofs.Gathers.{rests_gathered, goes_on_first, goes_on_second}
use Rattle.bq_lane.proofs.pass.Seated.gather.Goals as goal

pub invariant_of-result : goal.invariant_of-result
invariant_of-result c = let p = c.self.inside in let q = c.other.inside in let e = c.gather.ensures in
    rests_gathered p.token.me q.token.me c.gather.result.me p.shape q.shape p.caller p.operated _ q.caller q.operated _ p.batches q.batches c.self.invariant c.other.invariant e.holds.0 e.holds.1 e.whole e.holds.2 e.table.1 e.shape

pub returns-clause-goes_on_the_first : goal.returns-clause-goes_on_the_first
returns-clause-goes_on_the_first c = let p = c.self.inside in let q = c.other.inside in let e = c.gather.ensures in
    subst (λ (s : PassState). (d : ℕ) → Contains s.callers d → SawMore d s.seen c.gather.result.me.0.seen) c.self.view_is (goes_on_first p.token.me q.token.me c.gather.result.me p.shape q.shape p.caller p.operated _ q.caller q.operated _ p.batches q.batches c.self.invariant c.other.invariant e.holds.0 e.holds.1 e.whole e.seen.0)

pub returns-clause-goes_on_the_second : goal.returns-clause-goes_on_the_second
returns-clause-goes_on_the_second c = let p = c.self.inside in let q = c.other.inside in let e = c.gather.ensures in
    subst (λ (s : PassState). (d : ℕ) → Contains s.callers d → SawMore d s.seen c.gather.result.me.0.seen) c.other.view_is (goes_on_second p.token.me q.token.me c.gather.result.me p.shape q.shape p.caller p.operated _ q.caller q.operated _ p.batches q.batches c.self.invariant c.other.invariant e.holds.0 e.holds.1 e.whole e.seen.1)
