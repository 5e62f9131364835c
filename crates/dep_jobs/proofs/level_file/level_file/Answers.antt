use Rattle.job_text.specs.JobFile.{IsJobFile}
use Rattle.std.proofs.Common.{sym, subst}
use Rattle.dep_jobs.proofs.Files.{IsJobFile-units_for}
use Rattle.dep_jobs.proofs.level_file.level_file.Goals as goal

pub new-requires : goal.new-requires
new-requires c =
    subst IsJobFile (sym c.in_ok-units.ensures) (IsJobFile-units_for c.args.texts.now c.args.jobs.now c.requires.bytes c.requires.ranges c.args.numbers.now c.requires.few)
