use Rattle.std.proofs.Common.{◌+◌, ap, arith}
use Rattle.job_text.specs.JobFile.{job_count}
use Rattle.job_text.proofs.JobFileLemmas.{job_count-more, job_count-take-le}
use Rattle.job_text.proofs.file.JobFile.new.Goals as goal

pub overflow_add-count : goal.overflow_add-count
overflow_add-count c =
    let units = c.deref-unit-items.result.now in
    let same = ap job_count c.deref-unit-items.ensures.value in
    let more = job_count-more units c.loop-unit.unit-index c.unit-item.result c.loop-unit-test.true c.unit-item.is in
    let part = job_count-take-le units (c.loop-unit.unit-index + 1) in
    let count_is = c.loop-unit.invariant.count_is in
    omega arith
