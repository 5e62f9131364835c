use Rattle.std.proofs.Common.{◌≡◌, ◌++◌, ℕ, List, [], ◌∷◌, vec_capacity, ap, ◌∙◌, arith}
use Rattle.std.specs.VecDeque.{deque_capacity}
use Rattle.batch_ways.proofs.Stoppers.{mark_cleared, stopped}
use Rattle.lane_course.proofs.Ways.{acts, here, next, stands_at}
use Rattle.batch_ways.proofs.stopper.stop_from.Goals as goal

pub store-requires : goal.store-requires
store-requires c = record { at = stands_at c.requires; store = acts c.requires }

pub store-requires-2 : goal.store-requires-2
store-requires-2 c = let w = mark_cleared _ _ c.store.ensures c.args.notice c.args.row (here c.requires) in record { at = stands_at w.runs; store = acts w.runs }

pub choose-requires-clause-runs : goal.choose-requires-clause-runs
choose-requires-clause-runs c = let a = c.args.scratch.now in let f = c.push_back_reserved.new.self in let g = c.clear-2.new.self in let one : f.items ≡ c.args.row ∷ [] = ◌∙◌ {A = List ℕ} c.push_back_reserved.ensures.items (ap (λ (xs : List ℕ). xs ++ c.args.row ∷ []) c.clear.ensures.items) in let cap : deque_capacity f ≡ deque_capacity a.rows = omega arith in let wide : vec_capacity g ≡ vec_capacity a.named = omega arith in
    (stopped _ _ c.store-2.ensures c.args.notice c.args.row (record a { rows = f }) (record a { named = g }) one cap c.clear-2.ensures.items wide c.with_rows-whole.result c.with_rows-whole.ensures (mark_cleared _ _ c.store.ensures c.args.notice c.args.row (here c.requires))).runs

pub returns-clause-next : goal.returns-clause-next
returns-clause-next c = let a = c.args.scratch.now in let f = c.push_back_reserved.new.self in let g = c.clear-2.new.self in let one : f.items ≡ c.args.row ∷ [] = ◌∙◌ {A = List ℕ} c.push_back_reserved.ensures.items (ap (λ (xs : List ℕ). xs ++ c.args.row ∷ []) c.clear.ensures.items) in let cap : deque_capacity f ≡ deque_capacity a.rows = omega arith in let wide : vec_capacity g ≡ vec_capacity a.named = omega arith in
    next (stopped _ _ c.store-2.ensures c.args.notice c.args.row (record a { rows = f }) (record a { named = g }) one cap c.clear-2.ensures.items wide c.with_rows-whole.result c.with_rows-whole.ensures (mark_cleared _ _ c.store.ensures c.args.notice c.args.row (here c.requires))) c.choose.new.scratch c.choose.new.token c.choose.result c.choose.ensures.next
