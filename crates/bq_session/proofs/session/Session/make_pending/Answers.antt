use Rattle.std.proofs.Common.{arith, ap, ◌≤◌, length, refl}
use Rattle.bq_session.proofs.Whole.{IsWhole-refused, IsWhole-made}
use Rattle.bq_session.proofs.session.Session.make_pending.Goals as goal

pub make_group-requires-clause-not_too_long : goal.make_group-requires-clause-not_too_long
make_group-requires-clause-not_too_long g c κs inside =
    let w = c.self.invariant in
    let longest = ap (λ s. (g.L.Lane.pass_shape s.pass).batch) c.self.view_is in
    let same = ap (λ s. s.batch) c.requires.of_this_lane.1 in
    omega (arith, w.fits, w.not_too_long, longest, same)

pub make_group-requires-clause-room_for_answers : goal.make_group-requires-clause-room_for_answers
make_group-requires-clause-room_for_answers g c κs inside = omega (arith, c.self.invariant.fits, c.self.invariant.room_for_answers)

pub invariant_of-self : goal.invariant_of-self
invariant_of-self g c =
    let e = c.in_err-make_group.ensures in
    IsWhole-refused _ _ _ _ _ _ _ _ _ _ _ _ c.self.invariant e.pass_stays.2 (ap (λ s. s.batch) e.pass_stays.1) e.refused refl refl e.capacity_stays e.futures_stay_when_refused

pub returns-in_err-make_group-clause-keeps : goal.returns-in_err-make_group-clause-keeps
returns-in_err-make_group-clause-keeps g c = (invariant_of-self g c).keeps

pub invariant_of-self-2 : goal.invariant_of-self-2
invariant_of-self-2 g c =
    let e = c.in_ok-make_group.ensures in
    let enough : c.self.inside.futures.waiting ≤ length c.self.inside.pending.items = (let h = c.self.invariant.as_many in omega arith) in
    IsWhole-made _ _ _ _ _ _ _ _ _ _ _ _ c.self.inside.pending.items c.in_ok-make_group.field-0 c.self.invariant e.pass_stays.2 (ap (λ s. s.batch) e.pass_stays.1) e.ok e.none_refused e.places enough e.first
    c.clear.ensures.empty c.clear.ensures.capacity_stays e.capacity_stays e.settled

pub returns-clause-keeps : goal.returns-clause-keeps
returns-clause-keeps g c = (invariant_of-self-2 g c).keeps
