use Rattle.lane_course.proofs.Ways.{next}
use Rattle.lane_course.specs.Next.{told}
use Rattle.plain_ways.proofs.put_way.put.Goals as goal

pub put_into-requires : goal.put_into-requires
put_into-requires c = c.in-Some.ensures.found.runs

pub returns-in-Some-clause-next : goal.returns-in-Some-clause-next
returns-in-Some-clause-next c = next c.in-Some.ensures.found c.put_into.new.scratch c.put_into.new.token (told c.put_into.result c.put_into.new.goes) c.put_into.ensures.next

pub returns-in-None-clause-next : goal.returns-in-None-clause-next
returns-in-None-clause-next c = c.in-None.ensures.lacks.then (told c.close_full.result c.close_full.new.goes) c.close_full.new.scratch (λ n w. c.close_full.ensures.next n _ w) c.close_full.ensures.same
