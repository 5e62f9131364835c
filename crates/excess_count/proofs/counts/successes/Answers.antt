use Rattle.std.proofs.Common.{◌≡◌, ℕ, ◌∙◌, ap, arith, drop}
use Rattle.bq_model.specs.Queue.{unshut}
use Rattle.excess_count.specs.Counts.{successes_of}
use Rattle.excess_count.specs.Got.{values_from}
use Rattle.excess_count.proofs.ReplayLaws.{got_count-counted, queue_from-counted}
use Rattle.excess_count.proofs.counts.successes.Goals as goal

pub returns-clause-as_many_as_the_replay_gets : goal.returns-clause-as_many_as_the_replay_gets
returns-clause-as_many_as_the_replay_gets c = λ ops q none counted long.
    let e = got_count-counted c.args.counts.now ops q c.args.n none counted long in omega (arith, e)

pub returns-clause-the_last_queue_lacks_as_many : goal.returns-clause-the_last_queue_lacks_as_many
returns-clause-the_last_queue_lacks_as_many c = λ ops q none counted long.
    let same : successes_of c.args.counts.now c.args.n ≡ _ = omega arith in
    queue_from-counted c.args.counts.now ops q c.args.n none counted long ∙ ap (λ (m : ℕ). unshut (drop m (values_from q ops))) same
