use Rattle.std.proofs.Common.{rules, ◌≡◌, ◌≤◌, ℕ, [], sym, ap, subst, refl, ◌∙◌, arith, None, vec_len, vec_capacity, length, slice_set, get_or-set_same, get_or-set_other}
use Rattle.std.proofs.lemmas.List.Elements.{All-set}
use Rattle.lane_steps.specs.Functions.{put}
use Rattle.lane_steps.specs.LaneSizes.{lane_sizes}
use Rattle.lane_room.specs.Roomy.{Roomy}
use Rattle.lane_room.proofs.Roomy.{roomy_starts}
use Rattle.excess_count.specs.declared.counts.Counts.{Counts}
use Rattle.lane_steps.specs.State.{Caller, State}
use Rattle.lane_steps.specs.Start.{first_point, begun}
use Rattle.step_core.specs.Calls.{IsReady}
use Rattle.step_core.specs.Lists.{callers_of, state_of, all_due}
use Rattle.step_core.specs.Words.{memory_of}
use Rattle.step_core.proofs.Callers.{caller_is, callers_set}
use Rattle.step_core.proofs.Refusals.{why_begun}
use Rattle.step_core.proofs.Sound.{put_sound, due_within}
use Rattle.step_core.proofs.lists.Lists.begin.Goals as goal

pub returns-clause-callers : goal.returns-clause-callers
returns-clause-callers c = let a = c.args.self.now in let ks = a.calls.items in let who = c.args.caller in let ops = c.args.ops in let z = lane_sizes a.shape in let k = callers_of ks who in
    let is = caller_is ks who c.index.result.now (search rules) c.index.ensures in let made : length c.index.result.now.mine.items ≡ c.len-batch.result = search rules in
    let before = sym (caller_is ks who c.index_mut-call.result.now (search rules) c.index_mut-call.ensures.value) in let now = c.len-now.ensures in
    let point = c.first_point-point.ensures k (ap (λ (y : Caller). length y.mine) is ∙ made) ∙ ap (first_point z who k) c.as_slice.ensures in
    callers_set ks who c.begin.new.self (search rules)
    ∙ ap (put (callers_of ks) who) (c.begin.ensures.begins ∙ λ i. record (before i) { point = point i; ops = ops; rows = []; values = []; walked = []; started_at = now i; ended_at = None })

pub returns-clause-counted : goal.returns-clause-counted
returns-clause-counted c = get_or-set_same c.args.self.now.enqueues.items c.args.caller c.args.counts.enqs 0 (let n = c.requires.sound.numbers in let below = c.requires.known in omega arith) ∙ ap (λ (n : Counts). n.enqs) c.requires.counts

pub returns-clause-others : goal.returns-clause-others
returns-clause-others c = λ d apart. get_or-set_other c.args.self.now.enqueues.items c.args.caller d c.args.counts.enqs 0 apart

pub returns-clause-sound : goal.returns-clause-sound
returns-clause-sound c = let a = c.args.self.now in let ks = a.calls.items in let who = c.args.caller in let ops = c.args.ops in let S = c.requires.sound in let n : length a.history.items ≡ vec_len a.history = search rules in
    let before = c.index_mut-call.result.now in let R : IsReady a.shape.batch a.shape.callers before = subst (IsReady a.shape.batch a.shape.callers) (sym c.index_mut-call.ensures.value) (S.ready who before (search rules)) in
    let s : State = record { memory = memory_of a.words; history = a.history.items; callers = put (callers_of ks) who (begun (lane_sizes a.shape) (vec_len a.history) who (callers_of ks who) ops) } in
    let R' : Roomy a.shape s = subst (λ (m : ℕ). Roomy a.shape record { memory = memory_of a.words; history = a.history.items; callers = put (callers_of ks) who (begun (lane_sizes a.shape) m who (callers_of ks who) ops) }) n
    (roomy_starts a.shape (state_of a) S.roomy who ops c.requires.known c.requires.idle c.requires.command c.requires.most c.requires.left) in
    let same : length (slice_set ks who c.begin.new.self) ≡ vec_len a.calls = search rules in let callers = S.calls in
    put_sound a _ S who _ (returns-clause-callers c) R'
    refl refl refl (search rules) (search rules)
    (All-set (IsReady a.shape.batch a.shape.callers) ks who c.begin.new.self (subst (λ (p : ℕ × ℕ). IsReady p.0 p.1 c.begin.new.self) (λ i. (R.answers i, R.named i)) c.begin.ensures.ready) S.ready)
    (let due = due_within a.shape s (slice_set ks who c.begin.new.self) R'.lawful (returns-clause-callers c) (same ∙ callers) in let room = c.requires.history in
    let all : all_due (slice_set ks who c.begin.new.self) ≤ vec_capacity a.history = omega arith in all)
    (λ _. get_or-set_same a.copies.items who c.args.copy [] (search rules) ∙ c.requires.copy)
    (λ d apart. get_or-set_other a.copies.items who d c.args.copy [] apart)
    (search rules)
    (why_begun (lane_sizes a.shape) a.shape.room a.history.items (vec_len a.history) who (callers_of ks who) ops _ c.requires.command (returns-clause-counted c))
    (returns-clause-others c)
