use Rattle.lane_rank.proofs.Bounded.{few_steps}
use Rattle.lane_rank.proofs.EachRun.{ends_in_each_run}
use Rattle.lane_rank.proofs.laws.each_command_ends.Goals as goal

pub returns-clause-from_here : goal.returns-clause-from_here
returns-clause-from_here c = λ z s o i who R es on. few_steps z who s o i R es on

pub returns-clause-in_each_run : goal.returns-clause-in_each_run
returns-clause-in_each_run c = λ z es who ops run may later on. ends_in_each_run z es run who ops may later on
