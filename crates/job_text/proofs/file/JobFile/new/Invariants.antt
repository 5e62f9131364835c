use Rattle.std.proofs.Common.{◌≡◌, ◌<◌, ℕ, length, slice_index, take}
use Rattle.job_text.specs.JobFile.{job_count}
use Rattle.job_text.proofs.file.JobFile.new.Given as goal

-- the starts of the units so far, and how many jobs these have
abbrev pub invariant-loop-unit : goal.invariant-loop-unit
invariant-loop-unit l = record {
  length_is : length l.starts.items ≡ l.unit-index;
  start : (k : ℕ) → k < l.unit-index → slice_index l.starts.items k ≡ job_count (take k l.unit-items);
  count_is : l.count ≡ job_count (take l.unit-index l.unit-items);
}
