use Rattle.core_model.proofs.Ends.{ended_done, no_answers, idle_groups, one_position}
use Rattle.core_model.proofs.laws.ended_commands_stand_in_the_history.Goals as goal

pub returns-clause-done : goal.returns-clause-done
returns-clause-done c = λ z s who L idle done. ended_done z s L who idle done

pub returns-clause-full : goal.returns-clause-full
returns-clause-full c = λ z s who L other. no_answers z s L who other

pub returns-clause-own_groups : goal.returns-clause-own_groups
returns-clause-own_groups c = λ z s who L idle. idle_groups z s L who idle

pub returns-clause-once : goal.returns-clause-once
returns-clause-once c = λ z s before behind g L is. one_position z s L before behind g is
