use Rattle.std.proofs.Common.{◌≡◌, ◌≢◌, ℕ, ◌<◌, ◌≤◌, Result, Ok, Err, IfOk, OnOk, IfErr, OnErr, ap, arith}
use Rattle.bq_session.specs.declared.claim.Outcome.{Outcome}
use Rattle.bq_session.specs.declared.error.EvalFault.{EvalFault}
use Rattle.bq_session.specs.declared.error.EvalFault.TheVariants as fault
use Rattle.bq_session.specs.declared.future.Standing.TheVariants.{Pending, Withdrawn}
use Rattle.bq_session.proofs.Pending.{stands_once}
use Rattle.hand_tickets.proofs.Holding.{first_pending, held-made}
use Rattle.hand_tickets.proofs.tickets.make_all.Goals as goal

in_ok : {A D : Outcome → Type 0} {B C : Type 0} (r : Result Outcome EvalFault) → ((o : Outcome) → A o → B → C → D o) → IfOk r A → OnOk r B → OnOk r C → IfOk r D
in_ok (Ok o) f a b c = f o a b c
in_ok (Err e) f a b c = tt

not_passed : (r : Result Outcome EvalFault) (f : EvalFault) (a b : ℕ) → (b < a → r ≡ Err f) → OnOk r (a ≤ b)
not_passed (Ok o) f a b h = let not : (b < a → ⊥) = (λ l. cc (h l)) in omega (arith, not)
not_passed (Err e) f a b h = tt

in_err : {A B : EvalFault → Type 0} (r : Result Outcome EvalFault) → ((f : EvalFault) → A f → f ≢ fault.Withdrawn → B f) → IfErr r A → (r ≡ Err fault.Withdrawn → ⊥) → IfErr r B
in_err (Ok o) g a h = tt
in_err (Err e) g a h = g e a (λ same. h (ap (λ f. Err f) same))

on_err : {A : EvalFault → Type 0} {B : Type 0} (r : Result Outcome EvalFault) → ((f : EvalFault) → A f → f ≢ fault.Withdrawn → B) → IfErr r A → (r ≡ Err fault.Withdrawn → ⊥) → OnErr r B
on_err (Ok o) g a h = tt
on_err (Err e) g a h = g e a (λ same. h (ap (λ f. Err f) same))

pub evaluate-requires-clause-owned : goal.evaluate-requires-clause-owned
evaluate-requires-clause-owned g c κs within = (Pending 0, first_pending c.args.session.now c.requires.holds)

pub returns-clause-made : goal.returns-clause-made
returns-clause-made g c =
    let lane = g.L.Lane in
    let stands = first_pending c.args.session.now c.requires.holds in
    in_ok c.evaluate.result
    (λ o made none counted. held-made c.args.session.now.futures.lane c.args.session.now.futures.caller c.args.session.now.pending c.args.ticket c.args.held.now.items o (lane.seen c.args.session.now.pass) (lane.seen c.evaluate.new.self.pass) c.args.session.now c.evaluate.new.self c.requires.holds made none counted)
    (c.evaluate.ensures.makes_what_is_pending 0 stands) (c.evaluate.ensures.nothing_pending (0, stands)) c.evaluate.ensures.counted

pub returns-clause-within_allowance : goal.returns-clause-within_allowance
returns-clause-within_allowance g c =
    let stands = first_pending c.args.session.now c.requires.holds in
    not_passed c.evaluate.result (fault.Spent c.args.ticket) _ _ (λ l. c.evaluate.ensures.spent.1 ((0, stands), l))

pub returns-clause-ticket : goal.returns-clause-ticket
returns-clause-ticket g c =
    let stands = first_pending c.args.session.now c.requires.holds in
    in_err c.evaluate.result (λ f gives not. (gives, not)) c.evaluate.ensures.ticket_comes_back (λ e. cc (stands_once c.args.session.now.futures c.args.ticket (Pending 0) Withdrawn stands (c.evaluate.ensures.withdrawn.0 e)))

pub returns-clause-saw_more : goal.returns-clause-saw_more
returns-clause-saw_more g c =
    let stands = first_pending c.args.session.now c.requires.holds in
    on_err c.evaluate.result (λ f refused not. (refused not).0) c.evaluate.ensures.refused (λ e. cc (stands_once c.args.session.now.futures c.args.ticket (Pending 0) Withdrawn stands (c.evaluate.ensures.withdrawn.0 e)))

pub returns-clause-all_stays : goal.returns-clause-all_stays
returns-clause-all_stays g c =
    let stands = first_pending c.args.session.now c.requires.holds in
    on_err c.evaluate.result (λ f refused not. (refused not).1) c.evaluate.ensures.refused (λ e. cc (stands_once c.args.session.now.futures c.args.ticket (Pending 0) Withdrawn stands (c.evaluate.ensures.withdrawn.0 e)))

pub returns-clause-spent : goal.returns-clause-spent
returns-clause-spent g c = λ is. (c.evaluate.ensures.spent.0 is).1

pub returns-clause-full : goal.returns-clause-full
returns-clause-full g c = λ is. let full = c.evaluate.ensures.full is in (full.1, full.2)
