use Rattle.std.proofs.Common.{◌≡◌, ◌≤◌, ◌++◌, length, take}
use Rattle.bq_model.specs.History.{answers_of}
use Rattle.bq_model.specs.Replay.{answers_from}
use Rattle.bq_model.proofs.judge.legal.Given as goal

abbrev pub invariant-loop-answer : goal.invariant-loop-answer
invariant-loop-answer l =
    (answers_of l.groups ≡ take l.answer-index l.answers ++ answers_from l.replay.queue l.replay.coming)
    × (length l.replay.queue.values ≤ l.answer-index)
