-- One desk less at each turn.
use Rattle.std.proofs.Common.{length}
use Rattle.bulk_dispatcher.proofs.beside.+hands.Given as goal

abbrev pub decreases-join+arg3 : goal.decreases-join+arg3
decreases-join+arg3 g l = length l.desks.items

abbrev pub decreases-run_beside : goal.decreases-run_beside
decreases-run_beside g l = length l.desks.items
