use Rattle.std.proofs.Common.{rules, sym, subst}
use Rattle.bq_model.specs.NoShut.{NoShut}
use Rattle.bq_c.proofs.Laid.{as_many, laid_plain}
use Rattle.bq_c.proofs.seat.Seat.apply.Goals as goal

pub apply-requires-clause-no_shut : goal.apply-requires-clause-no_shut
apply-requires-clause-no_shut c = subst NoShut (sym (c.lay_out.ensures.ops (search rules))) (laid_plain c.args.ops.now)

pub hand_out-requires : goal.hand_out-requires
hand_out-requires c = let many = as_many _ _ _ c.args.ops.now _ _ c.as_slice.result.now (c.lay_out.ensures.ops (search rules)) c.in-Ok.ensures.ok c.as_slice.ensures.items in search (rules, many)
