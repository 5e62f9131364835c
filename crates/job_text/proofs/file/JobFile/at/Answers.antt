use Rattle.std.proofs.Common.{◌≡◌, ◌≤◌, ◌<◌, ◌+◌, ◌-◌, arith, ap, sym, ◌∙◌, List, ℕ, length, slice_index, take}
use Rattle.std.proofs.lemmas.List.{get_or_read}
use Rattle.job_text.specs.declared.file.Unit.{Unit}
use Rattle.job_text.specs.JobFile.{job_count, job_at, IsWhole}
use Rattle.job_text.proofs.JobFileLemmas.{job_at-past, job_at-unit, starts_rise, within_unit}
use Rattle.job_text.proofs.file.JobFile.at.Goals as goal

pub returns-then-number-self-clause-job : goal.returns-then-number-self-clause-job
returns-then-number-self-clause-job c =
    let kept : IsWhole c.args.self.now c.self.inside.starts.items c.self.inside.count = rw (← c.self.view_is) c.self.invariant in
    let count_is = kept.count_is in
    sym (job_at-past c.args.self.now c.args.number (omega arith))

pub unit_at-index-requires-clause-rising : goal.unit_at-index-requires-clause-rising
unit_at-index-requires-clause-rising c =
    rw c.deref.ensures.value (starts_rise c.self.inside.units.items c.self.inside.starts.items c.self.invariant.starts_is)

pub returns-clause-job : goal.returns-clause-job
returns-clause-job c =
    let units = c.self.inside.units.items in
    let starts = c.self.inside.starts.items in
    let number = c.args.number in
    let i = c.unit_at-index.result in
    let unit = c.index-unit.result.now in
    let kept = c.self.invariant in
    let starts_same : c.deref.result.now ≡ starts = c.deref.ensures.value in
    let said = c.unit_at-index.ensures in
    let within : i < length starts = rw starts_same at said.within in
    let reached : slice_index starts i ≤ number = rw starts_same at said.reached in
    let last : (k : ℕ) → i < k → k < length starts → number < slice_index starts k = rw starts_same at said.last in
    let length_is = kept.starts_is.length_is in
    let count_is = kept.count_is in
    let start_is : c.index.result.now ≡ slice_index starts i = get_or_read starts i c.index.result.now within c.index.ensures 0 in
    let first = kept.starts_is.start i (omega arith) in
    let place : number - c.index.result.now < length unit.jobs =
    rw start_is (within_unit units starts i number unit kept.starts_is within c.index-unit.ensures (omega arith) reached last) in
    let jobs_same : c.as_slice.result.now ≡ unit.jobs = c.as_slice.ensures in
    let job_is = rw jobs_same at c.index-as_slice-place.is in
    let found = job_at-unit units i (number - c.index.result.now) unit c.index-as_slice-place.result (omega arith) place c.index-unit.ensures job_is in
    let number_is : job_count (take i units) + (number - c.index.result.now) ≡ number = omega arith in
    sym (ap (λ (us : List Unit). job_at us number) (sym c.self.view_is) ∙ (ap (job_at units) (sym number_is) ∙ found))
