use Rattle.std.proofs.Common.{◌≡◌}
use Rattle.job_text.specs.Generator.{jobs_from}
use Rattle.job_text.proofs.generator.made_jobs.Given as goal

-- the jobs so far
abbrev pub invariant-loop-place : goal.invariant-loop-place
invariant-loop-place l = l.jobs.items ≡ jobs_from l.first l.place
