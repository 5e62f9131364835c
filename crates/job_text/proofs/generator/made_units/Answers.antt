use Rattle.std.proofs.Common.{◌≡◌, ◌+◌, ◌-◌, ◌%◌, ◌++◌, ◌∷◌, [], List, sym, ap, ◌∙◌, arith, append_assoc}
use Rattle.job_work.specs.declared.job.Job.{Job}
use Rattle.job_text.specs.declared.file.Unit.{Unit}
use Rattle.job_text.specs.Generator.{dealt, jobs_from}
use Rattle.job_text.proofs.GeneratorLemmas.{next_unit, dealt-more}
use Rattle.job_text.proofs.generator.made_units.Goals as goal

pub loop-first-preserved : goal.loop-first-preserved
loop-first-preserved c =
    let n = c.args.n in
    let unit = c.loop-first.unit in
    let first = c.loop-first.first in
    let count = c.min-count.result in
    let kept = c.loop-first.invariant in
    let behind = kept.behind in
    let within = kept.within in
    let count_is = c.min-count.ensures in
    let one : Unit = next_unit unit first count in
    let later = dealt (n - (unit + 1)) (unit + 1) (jobs_from (first + count) (n - (first + count))) in
    let dealt_is = dealt-more n unit first count behind c.loop-first-test.true count_is in
    let pushed : c.push.new.self.items ≡ c.loop-first.units.items ++ one ∷ [] =
    c.in_ok-push.ensures.items ∙ ap (λ (jobs : List Job). c.loop-first.units.items ++ record { lane = unit % 3; jobs = jobs } ∷ []) c.in_ok-jobs.ensures in
    record {
      dealt_is =
          ap (λ (units : List Unit). units ++ later) pushed
          ∙ (append_assoc c.loop-first.units.items (one ∷ []) later ∙ (ap (λ (units : List Unit). c.loop-first.units.items ++ units) (sym dealt_is) ∙ kept.dealt_is));
      behind = omega arith;
      within = omega arith;
    }
