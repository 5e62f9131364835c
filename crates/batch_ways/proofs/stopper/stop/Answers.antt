use Rattle.lane_course.proofs.Ways.{next}
use Rattle.batch_ways.proofs.stopper.stop.Goals as goal

pub stop_from-requires : goal.stop_from-requires
stop_from-requires c = c.in-Some.ensures.found.runs

pub returns-in-Some-clause-next : goal.returns-in-Some-clause-next
returns-in-Some-clause-next c = next c.in-Some.ensures.found c.stop_from.new.scratch c.stop_from.new.token c.stop_from.result c.stop_from.ensures.next

pub returns-in-None-clause-next : goal.returns-in-None-clause-next
returns-in-None-clause-next c = c.in-None.ensures.lacks.then c.close.result c.close.new.scratch (λ n w. c.close.ensures.next n _ w) c.close.ensures.same
