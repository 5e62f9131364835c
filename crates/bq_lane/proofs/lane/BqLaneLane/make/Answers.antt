use Rattle.std.proofs.Common.{rules, ◌≡◌, ℕ, ap, ◌∙◌, sym, subst, refl, map, All, List, []}
use Rattle.std.specs.List.{range_with_len}
use Rattle.atomic_table.specs.Table.{opening}
use Rattle.lane_rule.specs.Rule.{Ruled, opened}
use Rattle.bq_lane.specs.Pass.{PassState}
use Rattle.bq_lane.proofs.Makes.{made_ruled}
use Rattle.bq_lane.proofs.NewPasses.{callers_of, all_new}
use Rattle.bq_lane.proofs.lane.BqLaneLane.make.Goals as goal

pub of_words-requires : goal.of_words-requires
of_words-requires c = let e = c.in_ok-words.ensures in subst (λ (ws : List ℕ). Ruled c.args.shape.now (opening ws [] (opened c.args.shape.now))) (sym c.as_slice.ensures.value) (made_ruled c.args.shape.now c.in_ok-words.words.items (search rules) e.1)

pub returns-clause-one_pass_each : goal.returns-clause-one_pass_each
returns-clause-one_pass_each c = let e = c.in_ok-passes.ensures in
    ap (map (λ (p : PassState). p.callers)) e ∙ callers_of c.in_ok-table.table.shared.table_id c.args.shape.now (range_with_len 0 c.args.shape.now.callers)

pub returns-clause-of_this_lane : goal.returns-clause-of_this_lane
returns-clause-of_this_lane c = let e = c.in_ok-passes.ensures in let id = c.in_ok-table.table.shared.table_id in
    subst (All (λ (p : PassState). p.table ≡ id)) (sym e) (all_new id c.args.shape.now (λ (p : PassState). p.table ≡ id) (range_with_len 0 c.args.shape.now.callers) (λ _. refl))

pub returns-clause-of_this_shape : goal.returns-clause-of_this_shape
returns-clause-of_this_shape c = let e = c.in_ok-passes.ensures in let id = c.in_ok-table.table.shared.table_id in
    subst (All (λ (p : PassState). p.shape ≡ c.args.shape.now)) (sym e) (all_new id c.args.shape.now (λ (p : PassState). p.shape ≡ c.args.shape.now) (range_with_len 0 c.args.shape.now.callers) (λ _. refl))

pub returns-clause-nothing_seen : goal.returns-clause-nothing_seen
returns-clause-nothing_seen c = let e = c.in_ok-passes.ensures in let id = c.in_ok-table.table.shared.table_id in
    subst (All (λ (p : PassState). p.seen ≡ [])) (sym e) (all_new id c.args.shape.now (λ (p : PassState). p.seen ≡ []) (range_with_len 0 c.args.shape.now.callers) (λ _. refl))
