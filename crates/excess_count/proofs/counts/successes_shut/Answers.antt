use Rattle.std.proofs.Common.{◌≡◌, ℕ, min, true, ap, ◌∙◌, arith, drop, length}
use Rattle.bq_model.specs.Queue.{queue_of}
use Rattle.excess_count.specs.declared.counts.Counts.{Counts}
use Rattle.excess_count.specs.Excess.{dequeue_count}
use Rattle.excess_count.proofs.ReplayLaws.{got_count-shut, queue_from-shut}
use Rattle.excess_count.proofs.counts.successes_shut.Goals as goal

pub returns-clause-as_many_as_the_replay_gets : goal.returns-clause-as_many_as_the_replay_gets
returns-clause-as_many_as_the_replay_gets c = λ ops q counted long.
    let d = ap (λ (n : Counts). n.deqs) counted in let h = got_count-shut q ops in let m = c.min.ensures in omega (arith, d, h, m, long)

pub returns-clause-the_last_queue_lacks_as_many : goal.returns-clause-the_last_queue_lacks_as_many
returns-clause-the_last_queue_lacks_as_many c = λ ops q counted long.
    let d = ap (λ (n : Counts). n.deqs) counted in let m = c.min.ensures in
    queue_from-shut q ops ∙ ap (λ (n : ℕ). queue_of (drop n q) true) (let same : min (dequeue_count ops) (length q) ≡ c.min.result = omega (arith, d, m, long) in same)
