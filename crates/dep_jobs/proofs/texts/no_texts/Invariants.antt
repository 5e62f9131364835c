use Rattle.std.proofs.Common.{◌≡◌, [], replicate}
use Rattle.dep_jobs.proofs.texts.no_texts.Given as goal

-- the texts so far
abbrev pub invariant-loop-job : goal.invariant-loop-job
invariant-loop-job l = l.texts.items ≡ replicate l._job []
