use Rattle.std.proofs.Common.{◌≡◌}
use Rattle.job_work.specs.Mix.{mixed}
use Rattle.job_work.proofs.mix.after_turns.Given as goal

-- the turns so far are made
abbrev pub invariant-loop-turn : goal.invariant-loop-turn
invariant-loop-turn l = l.number ≡ mixed l.start l._turn
