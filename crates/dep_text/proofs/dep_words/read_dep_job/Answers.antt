use Rattle.std.proofs.Common.{ap}
use Rattle.std.proofs.lemmas.Result.{err_from_is_err_and}
use Rattle.dep_text.specs.DepWords.{dep_job_of}
use Rattle.dep_text.proofs.SoFarLemmas.{ReadsPart-both}
use Rattle.dep_text.proofs.dep_words.read_dep_job.Goals as goal

pub returns-in_err-lane : goal.returns-in_err-lane
returns-in_err-lane c =
    let returned = err_from_is_err_and c.from_residual.result c.from_residual.ensures.1 in
    rw (returned.1, returned.2) (ReadsPart-both _ c.read_lane.result _ _ _ c.in_err-lane.field-0.0 c.read_lane.ensures (ap (dep_job_of c.args.jobs.now) c.in-Some.ensures.steps) (c.in_err-lane.ensures _ c.read_work.ensures))
