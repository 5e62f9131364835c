use Rattle.std.proofs.Common.{refl, sym}
use Rattle.word_rows.specs.declared.head_word.HeadWord.TheVariants.{Ann}
use Rattle.batch_ways.proofs.Announces.{head_loaded}
use Rattle.lane_course.proofs.Ways.{here, next}
use Rattle.batch_ways.proofs.announce.install.Goals as goal

pub tries-init : goal.tries-init
tries-init c = record { along = here c.requires.runs; puts = c.requires.puts; at_hand = refl }

pub returns-in-Ann-clause-next : goal.returns-in-Ann-clause-next
returns-in-Ann-clause-next c = next (head_loaded _ _ c.load.ensures c.tries.draft (Ann c.in-Ann.ann c.in-Ann.count) (sym c.in-Ann.ensures) c.tries.invariant.along) c.help_found-in-Ann.new.scratch c.help_found-in-Ann.new.token c.help_found-in-Ann.result c.help_found-in-Ann.ensures.next
