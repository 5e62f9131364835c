use Rattle.std.proofs.Common.{◌<◌, ◌≤◌, ◌^◌, ℕ, List, length, get_or, sym, ap, ◌∙◌, subst, refl, arith}
use Rattle.bq_model.specs.declared.shape.Shape.{Shape}
use Rattle.bq_lane.specs.Pass.{LaneState}
use Rattle.bq_lane.proofs.Passes.{its}
use Rattle.bq_lane.proofs.Commands.{begins_agreed}
use Rattle.bq_lane.proofs.Calls.{one_here, spent_if, begins, grows, sees_more, passed_room}
use Rattle.bq_lane.proofs.lane.BqLane.make_ops.Goals as goal

pub returns-then-seated-operations-clause-spent : goal.returns-then-seated-operations-clause-spent
returns-then-seated-operations-clause-spent c = let p = c.seated.inside in let e = ap (λ (l : LaneState). l.shape.allowance) c.self.view_is in let a = c.allowance.ensures in let more = c.if-seated-operations.true in (
  (λ _. (spent_if p.token p.shape p.caller p.batches p.operated _ c.seated.invariant c.args.seated.now c.seated.view_is c.requires.one_caller c.args.ops.now c.args.self.now.shape c.requires.of_this_lane.1).0 (omega (arith, e, a, more))),
  λ _. refl,
)

pub perform-done-requires-clause-idle : goal.perform-done-requires-clause-idle
perform-done-requires-clause-idle c = let p = c.seated.inside in let shape = ap (λ (l : LaneState). l.shape) c.self.view_is in let few = c.if-seated-operations.false in let a = c.allowance.ensures in
    begins p.token p.shape p.caller p.batches p.operated _ c.seated.invariant c.args.seated.now c.seated.view_is c.requires.one_caller c.args.ops.now c.self.inside.table.shared.table_id c.self.inside.table.shared.key c.self.inside.shape c.first_point-first.result
    (c.requires.of_this_lane.0 ∙ sym (ap (λ (l : LaneState). l.table) c.self.view_is)) (c.requires.of_this_lane.1 ∙ sym shape) c.self.invariant.0 c.self.invariant.1 c.requires.some_operation c.requires.no_shut
    (subst (λ (s : Shape). length c.args.ops.now ≤ s.batch) (sym shape) c.requires.not_too_long) (λ more. omega (arith, few, a, more))
    (subst (λ (vs : List ℕ). (j : ℕ) → get_or vs j 0 < 2 ^ 64) c.lay_out.ensures.puts c.lay_out.ensures.words) c.first_point-first.ensures

pub perform-done-requires-clause-agrees : goal.perform-done-requires-clause-agrees
perform-done-requires-clause-agrees c = let p = c.seated.inside in let one = one_here p.token p.shape p.caller p.batches p.operated _ c.seated.invariant c.args.seated.now c.seated.view_is c.requires.one_caller c.args.ops.now in
    λ n. begins_agreed p.token.me.0 p.scratch c.lay_out.new.scratch (its p.token.me p.shape p.caller p.batches p.operated _ c.seated.invariant one).agrees c.lay_out.ensures.nothing_taken n c.args.ops.now

pub returns-then-not-done-clause-refused : goal.returns-then-not-done-clause-refused
returns-then-not-done-clause-refused c = let p = c.seated.inside in sees_more p.token p.shape p.caller p.batches p.operated _ c.seated.invariant c.args.seated.now c.seated.view_is c.requires.one_caller c.args.ops.now c.perform-done.new.token c.perform-done.new.scratch c.if-not-done.ensures.called.0

pub returns-then-not-done-clause-full : goal.returns-then-not-done-clause-full
returns-then-not-done-clause-full c = let p = c.seated.inside in λ _. passed_room p.token p.shape p.caller p.batches p.operated _ c.seated.invariant c.args.seated.now c.seated.view_is c.requires.one_caller c.args.ops.now c.args.self.now.shape c.requires.of_this_lane.1 c.perform-done.new.token c.perform-done.new.scratch c.if-not-done.ensures.called.0

pub returns-clause-ok : goal.returns-clause-ok
returns-clause-ok c = let p = c.seated.inside in grows p.token p.shape p.caller p.batches p.operated _ c.seated.invariant c.args.seated.now c.seated.view_is c.requires.one_caller c.args.ops.now c.perform-done.new.token c.perform-done.new.out.items c.perform-done.new.scratch c.if-not-done.ensures.called

pub returns-clause-spent : goal.returns-clause-spent
returns-clause-spent c = let p = c.seated.inside in let e = ap (λ (l : LaneState). l.shape.allowance) c.self.view_is in let a = c.allowance.ensures in let few = c.if-seated-operations.false in (
  (λ other. absurd (cc other)),
  λ passes. absurd (let more = (spent_if p.token p.shape p.caller p.batches p.operated _ c.seated.invariant c.args.seated.now c.seated.view_is c.requires.one_caller c.args.ops.now c.args.self.now.shape c.requires.of_this_lane.1).1 passes in omega (arith, e, a, few, more)),
)
