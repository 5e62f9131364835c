use Rattle.std.proofs.Common.{◌∙◌, ap, arith}
use Rattle.std.proofs.lemmas.List.{take_all}
use Rattle.bq_model.proofs.NoShuts.{NoShut-index}
use Rattle.excess_count.specs.Counts.{counts_of}
use Rattle.excess_count.proofs.CountsLaws.{IsExcess-counted}
use Rattle.excess_count.proofs.counts.count.Goals as goal

pub returns-clause-excess_is_the_greatest : goal.returns-clause-excess_is_the_greatest
returns-clause-excess_is_the_greatest c =
    IsExcess-counted _ _ (c.loop-op.invariant.counted ∙ ap counts_of (take_all c.loop-op.op-index c.args.ops.now (omega arith)))

pub add-requires-clause-no_shut : goal.add-requires-clause-no_shut
add-requires-clause-no_shut c = NoShut-index c.args.ops.now c.loop-op.op-index _ c.requires.no_shut (omega (arith, c.loop-op-test.true))
