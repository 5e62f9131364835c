use Rattle.std.proofs.Common.{rules, ◌≡◌, ◌+◌, ◌-◌, ◌<◌, ℕ, suc, sym, ◌∙◌, arith}
use Rattle.node_guard.specs.Pick.{first_left}
use Rattle.node_guard.proofs.Picks.{first_left-held}
use Rattle.node_guard.proofs.ann_stock.first_left.Goals as goal

pub loop-number-preserved : goal.loop-number-preserved
loop-number-preserved c = let i = c.loop-number.invariant in let held = c.args.held.now in let number : ℕ = c.loop-number.number in let behind : ℕ = c.args.first + c.args.count in
    let inside : number < behind = search rules in let left : ℕ = behind - (number + 1) in
    let one : number + 1 ≡ suc number = omega arith in let more : suc left ≡ behind - number = omega arith in
    (omega arith, (λ k. first_left held left (one k)) ∙ (sym (first_left-held held left number (sym c.contains.ensures.value ∙ c.if-contains.true)) ∙ ((λ k. first_left held (more k) number) ∙ i.1)))
