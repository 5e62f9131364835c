use Rattle.std.proofs.Common.{lit<, ◌≢◌, [], ◌∷◌, sym, ap, ◌∙◌, refl, arith}
use Rattle.bq_model.specs.declared.op.Op.TheVariants.{Deq}
use Rattle.bq_lane.specs.Pass.{LaneState}
use Rattle.bq_lane.proofs.Passes.{its}
use Rattle.bq_lane.proofs.Commands.{begins_agreed}
use Rattle.bq_lane.proofs.Calls.{one_here, spent_if, begins, grows, sees_more}
use Rattle.bq_lane.proofs.lane.BqLane.make_dequeue.Goals as goal

some_dequeue : Deq ∷ [] ≢ []
some_dequeue e = cc e

pub returns-then-seated-operations-clause-spent : goal.returns-then-seated-operations-clause-spent
returns-then-seated-operations-clause-spent c = let p = c.seated.inside in let e = ap (λ (l : LaneState). l.shape.allowance) c.self.view_is in let a = c.allowance.ensures in let more = c.if-seated-operations.true in (
  (λ _. (spent_if p.token p.shape p.caller p.batches p.operated _ c.seated.invariant c.args.seated.now c.seated.view_is c.requires.one_caller (Deq ∷ []) c.args.self.now.shape c.requires.of_this_lane.1).0 (omega (arith, e, a, more))),
  λ _. refl,
)

pub perform_dequeue-done-requires-clause-idle : goal.perform_dequeue-done-requires-clause-idle
perform_dequeue-done-requires-clause-idle c = let p = c.seated.inside in let shape = ap (λ (l : LaneState). l.shape) c.self.view_is in let few = c.if-seated-operations.false in let a = c.allowance.ensures in
    begins p.token p.shape p.caller p.batches p.operated _ c.seated.invariant c.args.seated.now c.seated.view_is c.requires.one_caller (Deq ∷ []) c.self.inside.table.shared.table_id c.self.inside.table.shared.key c.self.inside.shape _
    (c.requires.of_this_lane.0 ∙ sym (ap (λ (l : LaneState). l.table) c.self.view_is)) (c.requires.of_this_lane.1 ∙ sym shape) c.self.invariant.0 c.self.invariant.1 some_dequeue tt
    c.self.inside.shape.some_batch.0 (λ more. omega (arith, few, a, more))
    (λ j. lit< tt) (λ k _. refl)

pub perform_dequeue-done-requires-clause-agrees : goal.perform_dequeue-done-requires-clause-agrees
perform_dequeue-done-requires-clause-agrees c = let p = c.seated.inside in let one = one_here p.token p.shape p.caller p.batches p.operated _ c.seated.invariant c.args.seated.now c.seated.view_is c.requires.one_caller (Deq ∷ []) in
    λ n. begins_agreed p.token.me.0 p.scratch c.lay_out_nothing.new.scratch (its p.token.me p.shape p.caller p.batches p.operated _ c.seated.invariant one).agrees c.lay_out_nothing.ensures.nothing_taken n (Deq ∷ [])

pub returns-else-done-clause-refused : goal.returns-else-done-clause-refused
returns-else-done-clause-refused c = let p = c.seated.inside in sees_more p.token p.shape p.caller p.batches p.operated _ c.seated.invariant c.args.seated.now c.seated.view_is c.requires.one_caller (Deq ∷ []) c.perform_dequeue-done.new.token c.perform_dequeue-done.new.scratch c.if-done.ensures.called.0

pub returns-else-done-clause-never_full : goal.returns-else-done-clause-never_full
returns-else-done-clause-never_full c = λ _. let some = c.if-done.ensures.called.0.some in omega (arith, some)

pub returns-then-done-clause-ok : goal.returns-then-done-clause-ok
returns-then-done-clause-ok c = let p = c.seated.inside in grows p.token p.shape p.caller p.batches p.operated _ c.seated.invariant c.args.seated.now c.seated.view_is c.requires.one_caller (Deq ∷ []) c.perform_dequeue-done.new.token c.perform_dequeue-done.new.out.items c.perform_dequeue-done.new.scratch c.if-done.ensures.called

pub returns-then-done-clause-spent : goal.returns-then-done-clause-spent
returns-then-done-clause-spent c = let p = c.seated.inside in let e = ap (λ (l : LaneState). l.shape.allowance) c.self.view_is in let a = c.allowance.ensures in let few = c.if-seated-operations.false in (
  (λ other. absurd (cc other)),
  λ passes. absurd (let more = (spent_if p.token p.shape p.caller p.batches p.operated _ c.seated.invariant c.args.seated.now c.seated.view_is c.requires.one_caller (Deq ∷ []) c.args.self.now.shape c.requires.of_this_lane.1).1 passes in omega (arith, e, a, few, more)),
)
