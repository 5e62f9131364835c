use Rattle.std.proofs.Common.{arith, ap, sym, subst, ◌∙◌, ◌≡◌, ℕ, ◌+◌, ◌-◌, ◌<◌, ◌≤◌, List, [], ◌∷◌, ◌++◌, length, length-append, IsErrOf, Err}
use Rattle.std.proofs.lemmas.Option.{get_or_from_slice_get}
use Rattle.bq_model.specs.declared.op.Op.{Op}
use Rattle.bq_model.specs.declared.op.Answer.TheVariants.{Done}
use Rattle.bq_model.specs.Grows.{AtSomePoint}
use Rattle.bq_model.specs.NoShut.{NoShut}
use Rattle.bq_model.specs.Rooms.{PassesAllowance, PassesRoom}
use Rattle.bq_model.specs.Values.{enqueued}
use Rattle.bq_model.proofs.NoShuts.{NoShut-push}
use Rattle.bq_model.proofs.OpenQueues.{accepted-at}
use Rattle.bq_session.specs.declared.claim.Outcome.{Outcome}
use Rattle.bq_session.specs.declared.error.PlainFault.TheVariants as fault
use Rattle.bq_session.specs.Faults.{plain_fault}
use Rattle.bq_session.specs.Futures.{HavePlaces}
use Rattle.bq_session.specs.Outcome.{KeepsAnswers}
use Rattle.bq_session.specs.Session.{SessionState, IsMadeWith}
use Rattle.bq_session.proofs.Names.{length-grew}
use Rattle.bq_session.proofs.Whole.{IsWhole-refused, IsWhole-made}
use Rattle.bq_session.proofs.Evaluated.{IsMadeWith-made, ClaimsOwn-with}
use Rattle.bq_session.proofs.Faults.{spent_is, full_is, never_batch_full, popped, fault_is}
use Rattle.bq_session.proofs.session.Session.make_with.Goals as goal

pub make_group-made-requires-clause-no_shut : goal.make_group-made-requires-clause-no_shut
make_group-made-requires-clause-no_shut g c κs within = subst NoShut (sym c.push.ensures.appended) (NoShut-push c.self.inside.pending.items c.args.op c.self.invariant.no_shut c.requires.no_shut)

pub new-requires : goal.new-requires
new-requires g c = λ refused.
    let answers = c.make_group-made.new.answers.items in
    let place = c.len-place.result - 1 in
    accepted-at answers place c.in-Ok.ensures.none_refused (get_or_from_slice_get answers place c.get.result Done c.get.ensures ∙ refused)

pub get-requires : goal.get-requires
get-requires g c =
    let more = ap length c.push.ensures.appended ∙ length-append c.self.inside.pending.items (c.args.op ∷ []) in
    let same = length-grew _ _ _ _ _ c.in-Ok.ensures.ok in
    omega (arith, more, same, c.len-place.ensures.items)

pub invariant_of-self : goal.invariant_of-self
invariant_of-self g c =
    let e = c.in-Ok.ensures in
    let more : length c.push.new.self.items ≡ length c.self.inside.pending.items + 1 = ap length c.push.ensures.appended ∙ length-append c.self.inside.pending.items (c.args.op ∷ []) in
    let enough : c.self.inside.futures.waiting ≤ length c.push.new.self.items = (let h = c.self.invariant.as_many in omega arith) in
    IsWhole-made _ _ _ _ _ _ _ _ _ _ _ _ c.push.new.self.items c.in-Ok.first c.self.invariant e.pass_stays.2 (ap (λ s. s.batch) e.pass_stays.1) e.ok e.none_refused e.places enough e.first
    c.clear.ensures.empty (c.clear.ensures.capacity_stays ∙ c.push.ensures.capacity_stays) e.capacity_stays e.settled

pub invariant_of-self-in-Err : goal.invariant_of-self-in-Err
invariant_of-self-in-Err g c =
    let e = c.in-Err.ensures in
    IsWhole-refused _ _ _ _ _ _ _ _ _ _ _ _ c.self.invariant e.pass_stays.2 (ap (λ s. s.batch) e.pass_stays.1) e.refused
    (popped c.pop.result c.self.inside.pending.items c.push.new.self.items c.pop.new.self.items c.args.op c.push.ensures.appended c.pop.ensures.none_where_empty.0 c.pop.ensures.last)
    (c.pop.ensures.capacity_stays ∙ c.push.ensures.capacity_stays) e.capacity_stays e.futures_stay_when_refused

pub returns-in-Ok-clause-ok : goal.returns-in-Ok-clause-ok
returns-in-Ok-clause-ok g c =
    let e = c.in-Ok.ensures in
    let more : length c.push.new.self.items ≡ length c.self.inside.pending.items + 1 = ap length c.push.ensures.appended ∙ length-append c.self.inside.pending.items (c.args.op ∷ []) in
    let last : c.len-place.result - 1 ≡ length c.self.inside.pending.items = (let n = c.len-place.ensures.items in omega arith) in
    let P : SessionState _ → Type 0 = λ s. IsMadeWith c.new.result c.args.op s.pending s.futures c.make_group-made.new.futures (g.L.Lane.seen s.pass) (g.L.Lane.seen c.make_group-made.new.pass) in
    subst P c.self.view_is
    (IsMadeWith-made c.new.result c.args.op c.self.inside.pending.items c.push.new.self.items c.make_group-made.new.answers.items c.self.inside.futures c.make_group-made.new.futures _ _ c.in-Ok.first
    c.lane.result c.caller.result (c.in-Ok.first + c.from.result) (c.len-place.result - 1) c.get.result c.push.ensures.appended e.ok e.first e.settled c.lane.ensures c.caller.ensures c.get.ensures last
    (ap (λ (n : ℕ). c.in-Ok.first + n) c.from.ensures) c.new.ensures)

pub returns-in-Ok-clause-claims : goal.returns-in-Ok-clause-claims
returns-in-Ok-clause-claims g c =
    let w = c.self.invariant in
    let Agree : SessionState _ → Type 0 = λ s. HavePlaces s.futures.waiting s.futures.live × (s.futures.waiting ≡ length s.pending) × KeepsAnswers (g.L.Lane.seen s.pass) s.futures in
    let agree = subst Agree c.self.view_is (c.in-Ok.ensures.places, w.as_many, w.keeps) in
    ClaimsOwn-with _ _ _ _ _ _ _ (returns-in-Ok-clause-ok g c) agree.0 agree.1 agree.2

pub returns-in-Ok-clause-keeps : goal.returns-in-Ok-clause-keeps
returns-in-Ok-clause-keeps g c = (invariant_of-self g c).keeps

pub returns-in-Err-clause-all_stays_when_refused : goal.returns-in-Err-clause-all_stays_when_refused
returns-in-Err-clause-all_stays_when_refused g c =
    let items = popped c.pop.result c.self.inside.pending.items c.push.new.self.items c.pop.new.self.items c.args.op c.push.ensures.appended c.pop.ensures.none_where_empty.0 c.pop.ensures.last in
    (λ i. record {
      pass = c.make_group-made.new.pass;
      pending = (items ∙ ap (λ s. s.pending) c.self.view_is) i;
      futures = (c.in-Err.ensures.futures_stay_when_refused ∙ ap (λ s. s.futures) c.self.view_is) i;
    })

pub returns-in-Err-clause-batch_full : goal.returns-in-Err-clause-batch_full
returns-in-Err-clause-batch_full g c =
    let pending = ap (λ s. length s.pending) c.self.view_is in
    let batch = ap (λ s. s.futures.batch) c.self.view_is in (
      λ is. absurd (never_batch_full c.in-Err.refusal (sym c.into.ensures ∙ fault_is c.into.result _ is)),
      λ full. absurd (c.if-len-batch.false (c.len.ensures.items ∙ pending ∙ full ∙ sym batch ∙ sym c.batch.ensures)),
    )

pub returns-in-Err-clause-spent : goal.returns-in-Err-clause-spent
returns-in-Err-clause-spent g c =
    let w = c.self.invariant in
    let shape = g.L.Lane.lane_shape c.args.lane.now in
    let P : SessionState _ → Type 0 = λ s.
    (IsErrOf {T = Outcome} (Err c.into.result) fault.Spent → (length s.pending < s.futures.batch) × PassesAllowance shape (g.L.Lane.seen s.pass) s.futures.caller (s.pending ++ c.args.op ∷ []))
    × ((length s.pending < s.futures.batch) × PassesAllowance shape (g.L.Lane.seen s.pass) s.futures.caller (s.pending ++ c.args.op ∷ []) → IsErrOf {T = Outcome} (Err c.into.result) fault.Spent) in
    let Q : List Op → Type 0 = λ ops. PassesAllowance shape (g.L.Lane.seen c.self.inside.pass) c.self.inside.futures.caller ops in
    let left : length c.self.inside.pending.items < c.self.inside.futures.batch = omega (arith, w.fits, c.len.ensures.items, c.batch.ensures, c.if-len-batch.false) in
    subst P c.self.view_is (
      λ is. (left, subst Q c.push.ensures.appended (c.in-Err.ensures.spent.0 (ap (λ r. Err r) (spent_is c.in-Err.refusal (sym c.into.ensures ∙ fault_is c.into.result _ is))))),
      λ passes. ap (λ f. Err f) (c.into.ensures ∙ ap plain_fault (fault_is c.in-Err.refusal _ (c.in-Err.ensures.spent.1 (subst Q (sym c.push.ensures.appended) passes.1)))),
    )

pub returns-in-Err-clause-full : goal.returns-in-Err-clause-full
returns-in-Err-clause-full g c is =
    let shape = g.L.Lane.lane_shape c.args.lane.now in
    let P : SessionState _ → Type 0 = λ s. (0 < length (enqueued (s.pending ++ c.args.op ∷ []))) × AtSomePoint (λ point. PassesRoom shape point s.futures.caller (s.pending ++ c.args.op ∷ [])) (g.L.Lane.seen s.pass) (g.L.Lane.seen c.make_group-made.new.pass) in
    let Q : List Op → Type 0 = λ ops. (0 < length (enqueued ops)) × AtSomePoint (λ point. PassesRoom shape point c.self.inside.futures.caller ops) (g.L.Lane.seen c.self.inside.pass) (g.L.Lane.seen c.make_group-made.new.pass) in
    subst P c.self.view_is (subst Q c.push.ensures.appended (c.in-Err.ensures.full (ap (λ r. Err r) (full_is c.in-Err.refusal (sym c.into.ensures ∙ fault_is c.into.result _ is)))))

pub returns-in-Err-clause-keeps : goal.returns-in-Err-clause-keeps
returns-in-Err-clause-keeps g c = (invariant_of-self-in-Err g c).keeps
