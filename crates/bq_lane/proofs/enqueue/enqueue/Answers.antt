use Rattle.std.proofs.Common.{◌<◌, ◌^◌, ℕ, List, [], ◌∷◌, get_or, subst, refl, arith}
use Rattle.bq_model.specs.declared.op.Op.{Op}
use Rattle.bq_model.specs.declared.op.Op.TheVariants.{Enq}
use Rattle.bq_lane.proofs.Passes.{its}
use Rattle.bq_lane.proofs.Commands.{begins_agreed}
use Rattle.bq_lane.proofs.Calls.{one_here, spent_if, begins, grows, sees_more, passed_room}
use Rattle.bq_lane.proofs.enqueue.enqueue.Goals as goal

pub returns-then-seated-allowance-clause-spent : goal.returns-then-seated-allowance-clause-spent
returns-then-seated-allowance-clause-spent c = let p = c.seated.inside in let a = c.allowance.ensures in let more = c.if-seated-allowance.true in (
  (λ _. (spent_if p.token p.shape p.caller p.batches p.operated _ c.seated.invariant c.args.seated.now c.seated.view_is c.requires.one_caller (Enq c.args.value ∷ []) c.args.shape.now c.requires.of_this_lane.1).0 (omega (arith, a, more))),
  λ _. refl,
)

pub perform_put-done-requires-clause-idle : goal.perform_put-done-requires-clause-idle
perform_put-done-requires-clause-idle c = let p = c.seated.inside in let few = c.if-seated-allowance.false in let a = c.allowance.ensures in let some = c.args.shape.now.some_batch.0 in let ops : List Op = Enq c.args.value ∷ [] in
    begins p.token p.shape p.caller p.batches p.operated _ c.seated.invariant c.args.seated.now c.seated.view_is c.requires.one_caller ops c.args.words.now.table_id c.args.words.now.key c.args.shape.now _
    c.requires.of_this_lane.0 c.requires.of_this_lane.1 c.requires.size.0 c.requires.size.1 (λ e. cc e) tt
    (omega (arith, some)) (λ more. omega (arith, few, a, more))
    (subst (λ (vs : List ℕ). (j : ℕ) → get_or vs j 0 < 2 ^ 64) c.lay_out.ensures.puts c.lay_out.ensures.words) (λ k e. refl)

pub perform_put-done-requires-clause-agrees : goal.perform_put-done-requires-clause-agrees
perform_put-done-requires-clause-agrees c = let p = c.seated.inside in let ops : List Op = Enq c.args.value ∷ [] in let one = one_here p.token p.shape p.caller p.batches p.operated _ c.seated.invariant c.args.seated.now c.seated.view_is c.requires.one_caller ops in
    λ n. begins_agreed p.token.me.0 p.scratch c.lay_out.new.scratch (its p.token.me p.shape p.caller p.batches p.operated _ c.seated.invariant one).agrees c.lay_out.ensures.nothing_taken n ops

pub returns-then-not-done-clause-refused : goal.returns-then-not-done-clause-refused
returns-then-not-done-clause-refused c = let p = c.seated.inside in sees_more p.token p.shape p.caller p.batches p.operated _ c.seated.invariant c.args.seated.now c.seated.view_is c.requires.one_caller (Enq c.args.value ∷ []) c.perform_put-done.new.token c.perform_put-done.new.scratch c.if-not-done.ensures.called.0

pub returns-then-not-done-clause-full : goal.returns-then-not-done-clause-full
returns-then-not-done-clause-full c = let p = c.seated.inside in λ _. passed_room p.token p.shape p.caller p.batches p.operated _ c.seated.invariant c.args.seated.now c.seated.view_is c.requires.one_caller (Enq c.args.value ∷ []) c.args.shape.now c.requires.of_this_lane.1 c.perform_put-done.new.token c.perform_put-done.new.scratch c.if-not-done.ensures.called.0

pub returns-clause-ok : goal.returns-clause-ok
returns-clause-ok c = let p = c.seated.inside in grows p.token p.shape p.caller p.batches p.operated _ c.seated.invariant c.args.seated.now c.seated.view_is c.requires.one_caller (Enq c.args.value ∷ []) c.perform_put-done.new.token c.perform_put-done.new.out.items c.perform_put-done.new.scratch c.if-not-done.ensures.called

pub returns-clause-spent : goal.returns-clause-spent
returns-clause-spent c = let p = c.seated.inside in let a = c.allowance.ensures in let few = c.if-seated-allowance.false in (
  (λ other. absurd (cc other)),
  λ passes. absurd (let more = (spent_if p.token p.shape p.caller p.batches p.operated _ c.seated.invariant c.args.seated.now c.seated.view_is c.requires.one_caller (Enq c.args.value ∷ []) c.args.shape.now c.requires.of_this_lane.1).1 passes in omega (arith, a, few, more)),
)
