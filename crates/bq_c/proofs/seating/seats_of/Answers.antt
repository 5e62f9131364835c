use Rattle.std.proofs.Common.{◌≡◌, List, [], ◌∷◌, ◌++◌, length, length-append, map, reverse, sym, ap, subst, ◌∙◌, All, arith, Box}
use Rattle.std.proofs.lemmas.List.Elements.{All-push}
use Rattle.std.specs.Global.{Global}
use Rattle.bq_lane.specs.Pass.{PassState}
use Rattle.std.specs.Arc.{arc_value}
use Rattle.bq_c.specs.Gathering.{OneCallerOf}
use Rattle.bq_c.specs.declared.seat.Seat.{Seat}
use Rattle.bq_c.proofs.Lasts.{goes_over}
use Rattle.bq_c.proofs.seating.seats_of.Goals as goal

pub loop-pass-preserved : goal.loop-pass-preserved
loop-pass-preserved c =
    let i = c.loop-pass.invariant in
    let taken = c.in-Some.ensures in
    let box = c.in_ok-new.field-0 in
    let more = ap length c.in_ok-push.ensures.items ∙ length-append c.loop-pass.seats.items (box ∷ []) in
    let fresh = ap (λ (s : Seat). s.pass.seen) c.in_ok-new.ensures.ok ∙ (ap (λ (p : PassState). p.seen) c.in_ok-seat.ensures.pass ∙ taken.it_saw_nothing) in
    let of_lane = λ (s : Box Seat Global). OneCallerOf (arc_value c.args.lane.now) s.value.pass in
    let here : OneCallerOf (arc_value c.args.lane.now) box.value.pass = (
      ap (λ (s : Seat). length s.pass.callers) c.in_ok-new.ensures.ok ∙ (ap (λ (p : PassState). length p.callers) c.in_ok-seat.ensures.pass ∙ taken.its_caller),
      ap (λ (s : Seat). s.pass.table) c.in_ok-new.ensures.ok ∙ (ap (λ (p : PassState). p.table) c.in_ok-seat.ensures.pass ∙ taken.its_lane.0),
      ap (λ (s : Seat). s.pass.shape) c.in_ok-new.ensures.ok ∙ (ap (λ (p : PassState). p.shape) c.in_ok-seat.ensures.pass ∙ taken.its_lane.1),
    ) in
    let callers = λ (p : PassState). p.callers in
    let its_callers = λ (s : Box Seat Global). s.value.pass.callers in
    record {
      told = goes_over its_callers (map callers c.loop-pass.passes.items) (map callers c.last_pass.new.passes.items) (map callers c.args.passes.items) c.loop-pass.seats.items c.push.new.self.items box c.in-Some.pass.callers
          taken.callers c.in_ok-push.ensures.items (ap (λ (s : Seat). s.pass.callers) c.in_ok-new.ensures.ok ∙ ap callers c.in_ok-seat.ensures.pass) i.told;
      table = c.last_pass.ensures.table;
      shape = c.last_pass.ensures.shape;
      callers = c.last_pass.ensures.one_caller;
      seen = c.last_pass.ensures.nothing_seen;
      count = omega (arith, more, taken.one_less, i.count);
      lane = subst (All of_lane) (sym c.in_ok-push.ensures.items) (All-push of_lane c.loop-pass.seats.items box i.lane here);
      seats = subst (All (λ (s : Box Seat Global). s.value.pass.seen ≡ [])) (sym c.in_ok-push.ensures.items) (All-push (λ (s : Box Seat Global). s.value.pass.seen ≡ []) c.loop-pass.seats.items box i.seats fresh);
    }

pub returns-clause-callers : goal.returns-clause-callers
returns-clause-callers c =
    let callers = λ (p : PassState). p.callers in
    let its_callers = λ (s : Box Seat Global). s.value.pass.callers in
    sym (ap (λ (ps : List PassState). map callers ps ++ reverse (map its_callers c.loop-pass.seats.items)) c.in_default.ensures.all_taken) ∙ c.loop-pass.invariant.told
