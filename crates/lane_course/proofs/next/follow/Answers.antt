use Rattle.std.proofs.Common.{◌≡◌, subst, ap, sym, ◌∙◌, ◌+◌, ℕ, suc, List, nat_eq, Bool, arith}
use Rattle.lane_steps.specs.declared.course.Course.{Course}
use Rattle.lane_steps.specs.LaneSizes.{lane_sizes}
use Rattle.lane_steps.specs.State.{Caller}
use Rattle.lane_steps.specs.Step.{links_on, listening, followed}
use Rattle.lane_course.specs.Next.{Becomes}
use Rattle.lane_course.specs.Scratch.{keeping, HasRoom}
use Rattle.lane_course.proofs.next.follow.Goals as goal

pub overflow_add-number : goal.overflow_add-number
overflow_add-number c = let below = subst (λ (y : Course). HasRoom c.args.shape.now.callers y c.args.scratch.now) (sym c.course.ensures ∙ c.in-Chains.is) c.requires.room in omega (arith, below)

pub returns-in-Chains-clause-next : goal.returns-in-Chains-clause-next
returns-in-Chains-clause-next c = λ n k puts. let i = c.in-Chains.number in let next : i + 1 ≡ suc i = omega arith in let after : i + 2 ≡ suc (suc i) = omega arith in
    subst (λ (y : Course). Becomes n c.args.caller k c.link_on.new.scratch c.link_on.result (followed (lane_sizes c.args.shape.now) n c.args.caller (keeping k c.args.scratch.now) y)) (sym (sym c.course.ensures ∙ c.in-Chains.is))
    (subst (λ (y : ℕ × Bool). Becomes n c.args.caller k c.link_on.new.scratch c.link_on.result (links_on (lane_sizes c.args.shape.now) c.args.caller (keeping k c.args.scratch.now) c.in-Chains.notice y.0 y.1))
    (λ j. (next j, nat_eq (after j) ((c.len.ensures ∙ c.args.scratch.now.rows.ok.0) j))) (c.link_on.ensures.next n k))

pub returns-in-Hears-clause-next : goal.returns-in-Hears-clause-next
returns-in-Hears-clause-next c = λ n k puts. let next : c.in-Hears.other + 1 ≡ suc c.in-Hears.other = omega arith in let a = c.args.scratch.now in
    subst (λ (y : Course). Becomes n c.args.caller k (record a { named = c.note.new.named }) c.listen.result (followed (lane_sizes c.args.shape.now) n c.args.caller (keeping k a) y)) (sym (sym c.course.ensures ∙ c.in-Hears.is))
    (subst (λ (y : ℕ × List ℕ). Becomes n c.args.caller k (record a { named = c.note.new.named }) c.listen.result (listening (lane_sizes c.args.shape.now) c.args.caller (keeping k a) c.in-Hears.notice y.0 y.1))
    (λ j. (next j, c.note.ensures.noted j)) (c.listen.ensures n k))

pub returns-in-Walks-clause-next : goal.returns-in-Walks-clause-next
returns-in-Walks-clause-next c = λ n k puts. ap (followed (lane_sizes c.args.shape.now) n c.args.caller (keeping k c.args.scratch.now)) (sym c.course.ensures ∙ c.in-Walks.is)
    ∙ ap (λ (w : Caller). record w { point = c.in-Walks.point }) (sym (c.forget.ensures.nothing_read k))

pub returns-in-WalksMore-clause-next : goal.returns-in-WalksMore-clause-next
returns-in-WalksMore-clause-next c = λ n k puts. ap (followed (lane_sizes c.args.shape.now) n c.args.caller (keeping k c.args.scratch.now)) (sym c.course.ensures ∙ c.in-WalksMore.is)
    ∙ ap (λ (w : Caller). record w { point = c.in-WalksMore.point }) (sym (c.remember.ensures.one_more k))
