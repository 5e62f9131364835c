use Rattle.std.proofs.Common.{◌≡◌, ℕ, suc, ◌+◌, ◌-◌, ap, sym, ◌∙◌, subst, arith}
use Rattle.word_rows.specs.declared.marks.Marks.{Marks}
use Rattle.lane_steps.specs.declared.point.Point.TheVariants.{Take}
use Rattle.lane_steps.specs.declared.point.TakePoint.TheVariants.{LoadMark}
use Rattle.lane_steps.specs.declared.point.Taking.TheVariants as taking
use Rattle.lane_course.specs.Along.{Along}
use Rattle.lane_course.specs.Running.{Running, begun_seat}
use Rattle.lane_course.proofs.Begins.{moved, stood}
use Rattle.lane_course.proofs.Seeks.{finds_free, seeks_on, lacks}
use Rattle.lane_course.proofs.Ways.{next, on}
use Rattle.lane_course.specs.Next.{told}
use Rattle.plain_ways.proofs.put_way.put_first.Goals as goal

pub put_into-requires : goal.put_into-requires
put_into-requires g c = let r = c.requires in let m = c.first_load-found.ensures in let w = stood r.idle c.args.scratch.now r.known r.puts r.agrees r.reserves r.few r.apart _ _ m in
    (finds_free _ _ _ _ _ _ _ c.args.scratch.now _ w.runs _ _ (moved r.idle c.args.scratch.now r.known r.puts r.agrees r.reserves r.few r.apart _ _ m) (ap (λ (y : Marks). y.free) (sym c.mark_in.ensures) ∙ c.if-mark_in.true)).0

pub returns-then-mark_in-clause-next : goal.returns-then-mark_in-clause-next
returns-then-mark_in-clause-next g c = let r = c.requires in let m = c.first_load-found.ensures in let w = stood r.idle c.args.scratch.now r.known r.puts r.agrees r.reserves r.few r.apart _ _ m in
    (m.2.0, m.2.1, next (on w (finds_free _ _ _ _ _ _ _ c.args.scratch.now _ w.runs _ _ (moved r.idle c.args.scratch.now r.known r.puts r.agrees r.reserves r.few r.apart _ _ m) (ap (λ (y : Marks). y.free) (sym c.mark_in.ensures) ∙ c.if-mark_in.true))) c.put_into.new.scratch c.put_into.new.token (told c.put_into.result c.put_into.new.goes) c.put_into.ensures.next)

pub returns-then-left-eq0-clause-next : goal.returns-then-left-eq0-clause-next
returns-then-left-eq0-clause-next g c = let r = c.requires in let m = c.first_load-found.ensures in let w = stood r.idle c.args.scratch.now r.known r.puts r.agrees r.reserves r.few r.apart _ _ m in
    (m.2.0, m.2.1, next w c.close_full.new.scratch _ (told c.close_full.result c.close_full.new.goes) (lacks _ _ _ _ _ _ _ c.args.scratch.now _ w.runs _ _ (moved r.idle c.args.scratch.now r.known r.puts r.agrees r.reserves r.few r.apart _ _ m) c.if-left-eq0.true (ap (λ (y : Marks). y.free) (sym c.mark_in.ensures) ∙ c.if-mark_in.false) c.close_full.new.scratch (told c.close_full.result c.close_full.new.goes) (λ n k. c.close_full.ensures.next n _ k) c.close_full.ensures.same))

pub overflow_add-next : goal.overflow_add-next
overflow_add-next g c = let fits = c.requires.idle.ready.rows in omega (arith, fits)

pub put-requires : goal.put-requires
put-requires g c = let r = c.requires in let m = c.first_load-found.ensures in let w = stood r.idle c.args.scratch.now r.known r.puts r.agrees r.reserves r.few r.apart _ _ m in
    let some = c.if-left-eq0.false in let more : c.args.left ≡ suc (c.args.left - 1) = omega (arith, some) in let after : suc c.args.row ≡ c.args.row + 1 = omega arith in
    subst (λ (k : ℕ). Running c.args.words.now.table_id c.args.words.now.key c.args.shape.now c.args.caller (Take (taking.Enqueue c.args.value) (LoadMark k (c.args.left - 1))) c.args.scratch.now c.first_load-found.new.token) after
    (seeks_on _ _ _ _ _ _ _ c.args.scratch.now _ w.runs _ _ (moved r.idle c.args.scratch.now r.known r.puts r.agrees r.reserves r.few r.apart _ _ m) (c.args.left - 1) more (ap (λ (y : Marks). y.free) (sym c.mark_in.ensures) ∙ c.if-mark_in.false)).0

pub returns-clause-next : goal.returns-clause-next
returns-clause-next g c = let r = c.requires in let m = c.first_load-found.ensures in let w = stood r.idle c.args.scratch.now r.known r.puts r.agrees r.reserves r.few r.apart _ _ m in
    let some = c.if-left-eq0.false in let more : c.args.left ≡ suc (c.args.left - 1) = omega (arith, some) in let after : suc c.args.row ≡ c.args.row + 1 = omega arith in (
      m.2.0,
      m.2.1,
      next (subst (λ (k : ℕ). Along c.args.words.now.table_id c.args.words.now.key c.args.shape.now c.args.caller (Take (taking.Enqueue c.args.value) (LoadMark k (c.args.left - 1))) c.args.scratch.now (begun_seat c.args.token.now m.2.0 g.C.Command.ops) c.first_load-found.new.token) after
          (on w (seeks_on _ _ _ _ _ _ _ c.args.scratch.now _ w.runs _ _ (moved r.idle c.args.scratch.now r.known r.puts r.agrees r.reserves r.few r.apart _ _ m) (c.args.left - 1) more (ap (λ (y : Marks). y.free) (sym c.mark_in.ensures) ∙ c.if-mark_in.false)))) c.put.new.scratch c.put.new.token (told c.put.result c.put.new.goes) c.put.ensures.next,
    )
