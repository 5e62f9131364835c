use Rattle.std.proofs.Common.{◌≡◌, ◌-◌, ◌≤◌, ◌++◌}
use Rattle.job_text.specs.Generator.{gen_of, dealt, jobs_from}
use Rattle.job_text.proofs.generator.made_units.Given as goal

-- the units so far and those of the jobs that are left are all units
abbrev pub invariant-loop-first : goal.invariant-loop-first
invariant-loop-first l = record {
  dealt_is : l.units.items ++ dealt (l.n - l.unit) l.unit (jobs_from l.first (l.n - l.first)) ≡ gen_of l.n;
  behind : l.unit ≤ l.first;
  within : l.first ≤ l.n;
}

abbrev pub decreases-loop-first : goal.decreases-loop-first
decreases-loop-first l = l.n - l.first
