use Rattle.std.proofs.Common.{rules, ℕ, sym, ap, ◌∙◌, subst}
use Rattle.lane_steps.specs.Functions.{put}
use Rattle.lane_steps.specs.LaneSizes.{lane_sizes}
use Rattle.lane_steps.specs.Step.{after}
use Rattle.std.proofs.lemmas.List.Elements.{All-set}
use Rattle.step_core.specs.Calls.{IsReady}
use Rattle.step_core.specs.Lists.{callers_of}
use Rattle.step_core.proofs.Callers.{caller_is, callers_set, due_set}
use Rattle.step_core.proofs.lists.Lists.go.Goals as goal

pub returns-clause-callers : goal.returns-clause-callers
returns-clause-callers c = let ks = c.args.self.now.calls.items in callers_set ks c.args.caller c.go.new.self (search rules)
    ∙ ap (put (callers_of ks) c.args.caller) (c.go.ensures.goes ∙ (let now = c.len-now.ensures in let before = sym (caller_is ks c.args.caller c.index_mut-call.result.now (search rules) c.index_mut-call.ensures.value) in
    λ i. after (lane_sizes c.args.self.now.shape) (now i) c.args.caller (before i) (before i).point c.args.found))

pub returns-clause-due : goal.returns-clause-due
returns-clause-due c = due_set c.args.self.now.calls.items c.args.caller c.go.new.self (search rules)

pub returns-clause-ready : goal.returns-clause-ready
returns-clause-ready c = let before = c.index_mut-call.result.now in let R : IsReady c.args.self.now.shape.batch c.args.self.now.shape.callers before = subst (IsReady c.args.self.now.shape.batch c.args.self.now.shape.callers) (sym c.index_mut-call.ensures.value) (c.requires.ready c.args.caller before (search rules)) in
    All-set (IsReady c.args.self.now.shape.batch c.args.self.now.shape.callers) c.args.self.now.calls.items c.args.caller c.go.new.self (subst (λ (p : ℕ × ℕ). IsReady p.0 p.1 c.go.new.self) (λ i. (R.answers i, R.named i)) c.go.ensures.ready) c.requires.ready
