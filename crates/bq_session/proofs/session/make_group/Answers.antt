use Rattle.std.proofs.Common.{arith, ap, length}
use Rattle.bq_session.proofs.Names.{length-grew, accepted-grew}
use Rattle.bq_session.proofs.session.make_group.Goals as goal

pub settle-requires-clause-enough : goal.settle-requires-clause-enough
settle-requires-clause-enough g c =
    let same = length-grew _ _ _ _ _ c.in_ok-apply.ensures.ok in
    omega (arith, c.requires.of_the_futures, ap length c.as_slice.ensures.items, same)

pub returns-clause-none_refused : goal.returns-clause-none_refused
returns-clause-none_refused g c = accepted-grew _ _ _ _ _ c.in_ok-apply.ensures.ok c.in_ok-apply.ensures.never_shut
