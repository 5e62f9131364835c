use Rattle.std.proofs.Common.{map}
use Rattle.std.specs.List.{AllZip, range_with_len}
use Rattle.bulk_dispatcher.specs.Ran.{JobsRan}
use Rattle.dep_jobs.specs.LevelFile.{level_of}
use Rattle.dep_jobs.specs.Texts.{AreReached}
use Rattle.dep_jobs.proofs.run.run_deps.Given as goal

-- the answers below this level are there, and the rounds so far are runs of the files of these levels
abbrev pub invariant-loop-on_level : goal.invariant-loop-on_level
invariant-loop-on_level g l = record {
  reached : AreReached l.jobs l.on_level-index l.texts.items;
  rounds : AllZip (λ level round. JobsRan (level_of l.jobs level) l.hands l.batch (map g.L.Lane.history round.books) round.replies) (range_with_len 0 l.on_level-index) l.rounds.items;
}
