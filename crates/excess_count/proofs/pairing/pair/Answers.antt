use Rattle.excess_count.proofs.PairingLaws.{all_answered}
use Rattle.excess_count.proofs.pairing.pair.Goals as goal

pub returns-clause-answers : goal.returns-clause-answers
returns-clause-answers c = let l = c.loop-op in all_answered c.args.ops.now c.args.queued l.op-index l.standing.queued c.args.values.now _ l.out.items c.loop-op-test.false l.invariant.rest
