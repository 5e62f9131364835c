use Rattle.std.proofs.Common.{sym, subst}
use Rattle.job_text.specs.JobFile.{IsJobFile}
use Rattle.job_text.proofs.GeneratorLemmas.{IsJobFile-gen_of}
use Rattle.job_text.proofs.generator.generated.Goals as goal

pub new-requires : goal.new-requires
new-requires c = subst IsJobFile (sym c.in_ok-units.ensures) (IsJobFile-gen_of c.args.n c.requires)
