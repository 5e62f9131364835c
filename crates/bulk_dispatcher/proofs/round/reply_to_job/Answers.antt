use Rattle.std.proofs.Common.{arith}
use Rattle.bulk_dispatcher.proofs.Rounds.{no_reply}
use Rattle.bulk_dispatcher.proofs.round.reply_to_job.Goals as goal

pub returns-then-value-from : goal.returns-then-value-from
returns-then-value-from g c = no_reply c.args.jobs.now c.args.claim c.args.replies.now.items (omega (arith, c.value.ensures, c.from.ensures, c.count.ensures.count, c.if-value-from.true))
