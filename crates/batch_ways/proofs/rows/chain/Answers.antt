use Rattle.std.proofs.Common.{◌≡◌, ◌+◌, ℕ, suc, length, get_or, vec_capacity, refl, subst, arith, eq-eqb, ne_eqb}
use Rattle.lane_steps.specs.declared.point.FillPoint.TheVariants.{StoreChain}
use Rattle.lane_steps.specs.declared.point.Point.TheVariants.{Fill}
use Rattle.lane_course.specs.Along.{Along}
use Rattle.batch_ways.proofs.Fills.{chained, chains_on}
use Rattle.lane_course.proofs.Ways.{here, next}
use Rattle.batch_ways.proofs.rows.chain.Goals as goal

pub links-init : goal.links-init
links-init c = record { along = here c.requires; at_hand = refl }

pub choose-requires-clause-runs : goal.choose-requires-clause-runs
choose-requires-clause-runs c = let a = c.links.scratch in let l = c.len.ensures in let o = a.rows.ok.0 in let last = c.if-number-len.true in let e : suc (suc c.links.number) ≡ length a.rows.items = omega (arith, l, o, last) in let wide : vec_capacity c.clear.new.self ≡ vec_capacity a.named = omega arith in
    (chained _ _ c.store.ensures c.links.number _ _ (eq-eqb (suc (suc c.links.number)) (length a.rows.items) e) (record a { named = c.clear.new.self }) c.clear.ensures.items wide c.links.invariant.along).runs

pub returns-then-number-len-clause-next : goal.returns-then-number-len-clause-next
returns-then-number-len-clause-next c = let a = c.links.scratch in let l = c.len.ensures in let o = a.rows.ok.0 in let last = c.if-number-len.true in let e : suc (suc c.links.number) ≡ length a.rows.items = omega (arith, l, o, last) in let wide : vec_capacity c.clear.new.self ≡ vec_capacity a.named = omega arith in
    next (chained _ _ c.store.ensures c.links.number _ _ (eq-eqb (suc (suc c.links.number)) (length a.rows.items) e) (record a { named = c.clear.new.self }) c.clear.ensures.items wide c.links.invariant.along) c.choose.new.scratch c.choose.new.token c.choose.result c.choose.ensures.next

pub links-preserved : goal.links-preserved
links-preserved c = let i = c.links.invariant in let a = c.links.scratch in let l = c.len.ensures in let o = a.rows.ok.0 in let more = c.if-number-len.false in let after : suc c.links.number ≡ c.links.number + 1 = omega arith in record {
  along = subst (λ (k : ℕ). Along c.args.words.now.table_id c.args.words.now.key c.args.shape.now c.args.caller (Fill c.args.notice (StoreChain k (get_or a.rows.items k 0) (get_or a.rows.items (suc k) 0))) a c.args.token.now c.store.new.token) after
      (chains_on _ _ c.store.ensures c.links.number _ _ (ne_eqb (suc (suc c.links.number)) (length a.rows.items) (λ e. more (omega (arith, l, o, e)))) i.along);
  at_hand = i.at_hand;
}
