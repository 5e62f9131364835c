use Rattle.std.proofs.Common.{◌≡◌}
use Rattle.dep_text.specs.Levels.{level_behind, levels_of}
use Rattle.dep_text.proofs.LevelLemmas.{AreLeveled-push}
use Rattle.dep_text.proofs.progress.Progress.push.Goals as goal

pub invariant_of-self-else-is_err : goal.invariant_of-self-else-is_err
invariant_of-self-else-is_err c =
    let jobs = c.self.inside.jobs.items in
    let level_is : c.args.level ≡ level_behind (levels_of jobs) c.args.job.work = rw c.self.view_is c.requires.leveled in
    let jobs_are = rw c.if-is_err.ensures.negation at c.push-2.ensures.items in
    AreLeveled-push jobs _ c.self.inside.levels.items _ c.args.job c.args.level c.self.invariant (rw c.self.view_is c.requires.room) level_is c.requires.low jobs_are c.in_ok-push.ensures.items
