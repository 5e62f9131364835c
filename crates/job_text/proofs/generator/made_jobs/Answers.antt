use Rattle.std.proofs.Common.{arith}
use Rattle.std.proofs.lemmas.Grind.{common_steps}
use Rattle.job_text.proofs.GeneratorLemmas.{jobs_from-more}
use Rattle.job_text.proofs.generator.made_jobs.Goals as goal

pub loop-place-preserved : goal.loop-place-preserved
loop-place-preserved c =
    let more = jobs_from-more c.args.first c.loop-place.place in
    grind (arith, common_steps, more)
