use Rattle.bulk_dispatcher.proofs.Rounds.{holds_again}
use Rattle.bulk_dispatcher.proofs.round.withdraw_round.Goals as goal

pub spend_all-requires-clause-holds : goal.spend_all-requires-clause-holds
spend_all-requires-clause-holds g c κs within = holds_again _ c.withdraw_all.ensures.holds
