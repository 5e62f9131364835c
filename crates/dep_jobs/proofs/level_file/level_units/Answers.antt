use Rattle.std.proofs.Common.{ℕ, ◌<◌, List, [], ◌∷◌, ◌++◌, length, ap₂, ◌∙◌}
use Rattle.std.proofs.lemmas.List.Elements.{All-get_or}
use Rattle.job_text.specs.declared.file.Unit.{Unit as JobUnit}
use Rattle.dep_jobs.proofs.Files.{units_for-more}
use Rattle.dep_jobs.proofs.level_file.level_units.Goals as goal

pub loop-number-preserved : goal.loop-number-preserved
loop-number-preserved c =
    let jobs = c.args.jobs.now in
    let numbers = c.args.numbers.now in
    let i = c.loop-number.number-index in
    let in_jobs = All-get_or (λ (k : ℕ). k < length jobs) numbers i 0 c.loop-number-test.true c.requires in
    c.in_ok-push.ensures.items
    ∙ (ap₂ (λ (units : List JobUnit) (unit : JobUnit). units ++ unit ∷ []) c.loop-number.invariant c.in_ok-unit.ensures
    ∙ units_for-more c.args.texts.now jobs numbers i c.index-jobs-number.result c.in_ok-work.work c.loop-number-test.true in_jobs c.index-jobs-number.is c.in_ok-work.ensures)
