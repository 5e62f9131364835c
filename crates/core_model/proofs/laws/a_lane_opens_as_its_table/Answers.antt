use Rattle.core_model.proofs.Tables.{opens_as_its_table, home_is}
use Rattle.core_model.proofs.laws.a_lane_opens_as_its_table.Goals as goal

pub returns-clause-opening : goal.returns-clause-opening
returns-clause-opening c = opens_as_its_table

pub returns-clause-home : goal.returns-clause-home
returns-clause-home c = home_is
