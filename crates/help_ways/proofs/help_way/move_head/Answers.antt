use Rattle.std.proofs.Common.{ap, sym}
use Rattle.word_rows.specs.declared.content.Content.TheVariants.{OfHead}
use Rattle.word_rows.specs.declared.head_word.HeadWord.TheVariants.{Node, Ann}
use Rattle.word_rows.specs.declared.location.Location.TheVariants.{Head}
use Rattle.word_rows.specs.declared.place.Place.{Place}
use Rattle.lane_steps.specs.declared.act.Act.TheVariants.{Exchange}
use Rattle.lane_steps.specs.declared.course.Course.TheVariants.{GoesOn}
use Rattle.lane_steps.specs.declared.point.AnswerPoint.TheVariants.{LoadOldTail}
use Rattle.lane_steps.specs.declared.point.Back.{Back}
use Rattle.lane_steps.specs.declared.point.Point.TheVariants.{Answer}
use Rattle.lane_steps.specs.Help.{back_point}
use Rattle.help_ways.proofs.Single.{stands_own, acts_own, steps, leads, room_then, then}
use Rattle.help_ways.proofs.help_way.move_head.Goals as goal

pub far_behind-requires : goal.far_behind-requires
far_behind-requires c = c.requires.stands.ready.counts

pub exchange-found-requires-clause-at : goal.exchange-found-requires-clause-at
exchange-found-requires-clause-at c = stands_own c.requires

pub exchange-found-requires-clause-exchange : goal.exchange-found-requires-clause-exchange
exchange-found-requires-clause-exchange c = acts_own c.requires _ (ap (λ (p : Place). Exchange Head (OfHead (Ann c.args.help.now.ann c.args.help.now.old_head.count)) (OfHead (Node p))) (sym c.far_behind.ensures))

pub read_answers-requires : goal.read_answers-requires
read_answers-requires c = (steps c.requires c.exchange-found.ensures (Answer (LoadOldTail c.args.help.now)) (ap (λ (b : Back). GoesOn (back_point c.args.help.now b)) c.in-Own.is)).0

pub returns-in-Own-clause-next : goal.returns-in-Own-clause-next
returns-in-Own-clause-next c = then (steps c.requires c.exchange-found.ensures (Answer (LoadOldTail c.args.help.now)) (ap (λ (b : Back). GoesOn (back_point c.args.help.now b)) c.in-Own.is)) _ _ c.read_answers.result c.read_answers.ensures.next

pub follow-requires-clause-room : goal.follow-requires-clause-room
follow-requires-clause-room c = room_then c.requires c.exchange-found.ensures

pub returns-in_default-clause-next : goal.returns-in_default-clause-next
returns-in_default-clause-next c = leads c.requires c.exchange-found.ensures c.follow.result c.follow.new.scratch c.follow.ensures.next c.follow.ensures.same
