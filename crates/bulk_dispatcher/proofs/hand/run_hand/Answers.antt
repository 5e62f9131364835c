use Rattle.bulk_dispatcher.proofs.Progress.{start_put, start_replied}
use Rattle.bulk_dispatcher.proofs.hand.run_hand.Goals as goal

pub work_through-requires-clause-nothing_put : goal.work_through-requires-clause-nothing_put
work_through-requires-clause-nothing_put g c κs within = start_put _ (λ s. g.L.Lane.seen s.pass) c.args.part.hand c.args.numbers.now c.args.desk.sessions.items c.requires.at_rest c.requires.nothing_seen

pub work_through-requires-clause-nothing_caught : goal.work_through-requires-clause-nothing_caught
work_through-requires-clause-nothing_caught g c κs within = start_replied _ (λ s. g.L.Lane.seen s.pass) c.args.jobs.now c.args.part.hand c.args.numbers.now c.args.desk.sessions.items c.new-replies.result.items c.new-replies.ensures.items c.requires.at_rest c.requires.nothing_seen
