use Rattle.std.proofs.Common.{◌≡◌, ◌<◌, ℕ, suc, ◌+◌, vec_capacity, ap, ◌∙◌, subst, arith}
use Rattle.lane_steps.specs.Fill.{noted, scan_from}
use Rattle.lane_steps.specs.LaneSizes.{lane_sizes}
use Rattle.lane_course.specs.Along.{Along}
use Rattle.batch_ways.proofs.Announces.{hears, listens}
use Rattle.batch_ways.proofs.Fills as fills
use Rattle.lane_course.proofs.Seeks.{same_puts}
use Rattle.lane_course.proofs.Ways.{here, room, same_then}
use Rattle.batch_ways.proofs.announce.listen_to_all.Goals as goal

pub callers-init : goal.callers-init
callers-init c = record { along = here c.requires.runs; same = same_puts c.args.scratch.now; within = omega arith; left = c.requires.left }

pub callers-preserved : goal.callers-preserved
callers-preserved c = let i = c.callers.invariant in let a = c.callers.scratch in let other = c.past-other.result in let w = listens c.args.notice.now c.callers.next i.along other c.past-other.ensures (omega arith) in
    let r = room w _ _ c.load-found.ensures in let inside : other < c.args.shape.now.callers = r.0 in let some = r.1 in let most = c.note.ensures.one_at_most in let wide : vec_capacity c.note.new.named ≡ vec_capacity a.named = c.note.ensures.capacity in
    let after : suc other ≡ other + 1 = omega arith in record {
      along = subst (λ (k : ℕ). Along c.args.words.now.table_id c.args.words.now.key c.args.shape.now c.args.caller (scan_from (lane_sizes c.args.shape.now) c.args.caller c.note.new.named.items c.args.notice.now k) (record a { named = c.note.new.named }) c.args.token.now c.load-found.new.token) after
          (hears _ _ c.load-found.ensures c.args.notice.now other (record a { named = c.note.new.named }) (c.note.ensures.noted ∙ ap (noted a.named.items) c.hazard_in.ensures) wide w);
      same = same_then i.same (fills.noted a (record a { named = c.note.new.named }) wide);
      within = omega (arith, inside);
      left = omega (arith, some, most);
    }
