use Rattle.std.proofs.Common.{◌≡◌, ◌-◌, ℕ, length, get_or, ap, sym, ◌∙◌, arith, eq-eqb, ne_eqb}
use Rattle.std.specs.VecDeque.{deque_capacity}
use Rattle.batch_ways.proofs.Fills.{grown, links, searches}
use Rattle.plain_ways.proofs.Puts.{then_along}
use Rattle.lane_course.proofs.Seeks.{same_puts}
use Rattle.lane_course.proofs.Ways.{acts, here, next, room, same_then, stands_at}
use Rattle.batch_ways.proofs.rows.fill_from.Goals as goal

pub rows-init : goal.rows-init
rows-init c = record { along = here c.requires; same = same_puts c.args.scratch.now }

pub store-requires : goal.store-requires
store-requires c = let w = c.take_row.ensures in record { at = stands_at w.runs; store = acts w.runs }

pub push_back_reserved-requires : goal.push_back_reserved-requires
push_back_reserved-requires c = room c.take_row.ensures _ _ c.store.ensures

pub chain-requires : goal.chain-requires
chain-requires c = let a = c.rows.scratch in let d = c.push_back_reserved.new.self in let long : length d.items ≡ c.len-taken.result = sym (c.len-taken.ensures ∙ d.ok.0) in let cap : deque_capacity d ≡ deque_capacity a.rows = omega arith in
    (links _ _ c.store.ensures c.rows.value c.rows.row (record a { rows = d }) c.push_back_reserved.ensures.items cap c.take_row.ensures
    (eq-eqb (length d.items) c.args.notice.counts.enqs (long ∙ c.if-taken-notice.true)) (ne_eqb (length d.items) 1 (λ e. c.if-taken-eq1.false (sym long ∙ e))) c.with_rows-whole.result c.with_rows-whole.ensures).runs

pub returns-then-taken-notice-clause-next : goal.returns-then-taken-notice-clause-next
returns-then-taken-notice-clause-next c = let a = c.rows.scratch in let d = c.push_back_reserved.new.self in let long : length d.items ≡ c.len-taken.result = sym (c.len-taken.ensures ∙ d.ok.0) in let cap : deque_capacity d ≡ deque_capacity a.rows = omega arith in
    next (then_along c.rows.invariant.along (links _ _ c.store.ensures c.rows.value c.rows.row (record a { rows = d }) c.push_back_reserved.ensures.items cap c.take_row.ensures
    (eq-eqb (length d.items) c.args.notice.counts.enqs (long ∙ c.if-taken-notice.true)) (ne_eqb (length d.items) 1 (λ e. c.if-taken-eq1.false (sym long ∙ e))) c.with_rows-whole.result c.with_rows-whole.ensures)) c.chain.new.scratch c.chain.new.token c.chain.result c.chain.ensures.next

pub find-requires : goal.find-requires
find-requires c = let a = c.rows.scratch in let d = c.push_back_reserved.new.self in let long : length d.items ≡ c.len-taken.result = sym (c.len-taken.ensures ∙ d.ok.0) in let cap : deque_capacity d ≡ deque_capacity a.rows = omega arith in
    (searches _ _ c.store.ensures c.rows.value c.rows.row (record a { rows = d }) c.push_back_reserved.ensures.items cap c.take_row.ensures (ne_eqb (length d.items) c.args.notice.counts.enqs (λ e. c.if-taken-notice.false (sym long ∙ e)))
    c.value_at-value.result c.item_row-from.result (c.items-behind.result - 1) (c.value_at-value.ensures ∙ (λ i. get_or (c.as_slice.ensures.value i) (sym long i) 0)) c.item_row-from.ensures.by_number (ap (λ (k : ℕ). k - 1) c.items-behind.ensures)).runs

pub rows-preserved : goal.rows-preserved
rows-preserved c = let i = c.rows.invariant in let a = c.rows.scratch in let d = c.push_back_reserved.new.self in let long : length d.items ≡ c.len-taken.result = sym (c.len-taken.ensures ∙ d.ok.0) in let cap : deque_capacity d ≡ deque_capacity a.rows = omega arith in
    let w = searches _ _ c.store.ensures c.rows.value c.rows.row (record a { rows = d }) c.push_back_reserved.ensures.items cap c.take_row.ensures (ne_eqb (length d.items) c.args.notice.counts.enqs (λ e. c.if-taken-notice.false (sym long ∙ e)))
    c.value_at-value.result c.item_row-from.result (c.items-behind.result - 1) (c.value_at-value.ensures ∙ (λ i. get_or (c.as_slice.ensures.value i) (sym long i) 0)) c.item_row-from.ensures.by_number (ap (λ (k : ℕ). k - 1) c.items-behind.ensures) in record {
      along = then_along i.along (then_along w c.in-Some.ensures.found);
      same = same_then i.same (grown a (record a { rows = d }) cap);
    }

pub returns-in-None-clause-next : goal.returns-in-None-clause-next
returns-in-None-clause-next c = let i = c.rows.invariant in let a = c.rows.scratch in let d = c.push_back_reserved.new.self in let long : length d.items ≡ c.len-taken.result = sym (c.len-taken.ensures ∙ d.ok.0) in let cap : deque_capacity d ≡ deque_capacity a.rows = omega arith in
    let w = searches _ _ c.store.ensures c.rows.value c.rows.row (record a { rows = d }) c.push_back_reserved.ensures.items cap c.take_row.ensures (ne_eqb (length d.items) c.args.notice.counts.enqs (λ e. c.if-taken-notice.false (sym long ∙ e)))
    c.value_at-value.result c.item_row-from.result (c.items-behind.result - 1) (c.value_at-value.ensures ∙ (λ i. get_or (c.as_slice.ensures.value i) (sym long i) 0)) c.item_row-from.ensures.by_number (ap (λ (k : ℕ). k - 1) c.items-behind.ensures) in
    next (then_along i.along w) c.close.new.scratch _ c.close.result (c.in-None.ensures.lacks.then c.close.result c.close.new.scratch (λ n w. c.close.ensures.next n _ w) c.close.ensures.same)
