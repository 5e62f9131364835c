use Rattle.word_rows.specs.declared.location.Location.TheVariants.{Mark}
use Rattle.lane_steps.specs.declared.act.Act.TheVariants.{Load}
use Rattle.lane_rule.proofs.Seated.{is_valid, load_owes}
use Rattle.plain_ways.proofs.Looks.{none_is_read, marks_loaded}
use Rattle.plain_ways.proofs.look.load_marks.Goals as goal

pub mark-requires : goal.mark-requires
mark-requires c = is_valid _ _ _ _ _ _ c.requires.at (Load (Mark c.args.row)) c.requires.load

pub load-found-requires : goal.load-found-requires
load-found-requires c = load_owes _ _ _ _ _ _ c.requires.at c.mark.result (Mark c.args.row) c.mark.ensures.by_the_layout c.requires.load

pub returns-in-Some : goal.returns-in-Some
returns-in-Some c = marks_loaded c.args.row _ _ c.unpack.ensures _ _ c.requires.load c.load-found.ensures _ c.in-Some.is

pub returns-in-None : goal.returns-in-None
returns-in-None c = none_is_read c.args.row _ _ c.unpack.ensures _ _ c.requires.load c.load-found.ensures c.in-None.is
