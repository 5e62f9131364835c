use Rattle.std.proofs.Common.{◌≡◌, ℕ, suc, ◌+◌, ◌-◌, subst, arith}
use Rattle.lane_steps.specs.declared.point.Point.TheVariants.{Take}
use Rattle.lane_steps.specs.declared.point.TakePoint.TheVariants.{LoadMark}
use Rattle.lane_course.specs.Along.{Along}
use Rattle.lane_course.proofs.Seeks.{finds_free, seeks_on, lacks}
use Rattle.lane_course.proofs.Ways.{here, next, on}
use Rattle.plain_ways.proofs.row_search.find.Goals as goal

pub returns-then-marks-clause-found : goal.returns-then-marks-clause-found
returns-then-marks-clause-found c = let i = c.rows.invariant in on i (finds_free _ _ _ _ _ _ _ c.args.scratch.now _ i.runs _ _ c.load_marks-marks.ensures c.if-marks.true)

pub returns-then-marks-clause-less : goal.returns-then-marks-clause-less
returns-then-marks-clause-less c = let i = c.rows.invariant in let most = i.most in let less = (finds_free _ _ _ _ _ _ _ c.args.scratch.now _ i.runs _ _ c.load_marks-marks.ensures c.if-marks.true).2 in omega (arith, most, less)

pub returns-then-left-eq0-clause-lacks : goal.returns-then-left-eq0-clause-lacks
returns-then-left-eq0-clause-lacks c = let i = c.rows.invariant in record {
  then = λ y b becomes same. next i b _ y (lacks _ _ _ _ _ _ _ c.args.scratch.now _ i.runs _ _ c.load_marks-marks.ensures c.if-left-eq0.true c.if-marks.false b y becomes same);
}

pub rows-init : goal.rows-init
rows-init c = here c.requires

pub rows-preserved : goal.rows-preserved
rows-preserved c = let i = c.rows.invariant in let some = c.if-left-eq0.false in let more : c.rows.left ≡ suc (c.rows.left - 1) = omega (arith, some) in let after : suc c.rows.row ≡ c.rows.row + 1 = omega arith in
    subst (λ (r : ℕ). Along c.args.words.now.table_id c.args.words.now.key c.args.shape.now c.args.caller (Take c.args.taking (LoadMark r (c.rows.left - 1))) c.args.scratch.now c.args.token.now c.load_marks-marks.new.token) after
    (on i (seeks_on _ _ _ _ _ _ _ c.args.scratch.now _ i.runs _ _ c.load_marks-marks.ensures (c.rows.left - 1) more c.if-marks.false))
