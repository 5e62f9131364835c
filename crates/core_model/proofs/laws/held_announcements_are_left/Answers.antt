use Rattle.core_model.proofs.Holdings.{names_its_hold, not_given, stored_own, none_holds, held_is_left}
use Rattle.core_model.proofs.HoldSteps.{hold_begins, hold_ends, start_leaves, scan_says, scan_reads, none_begins}
use Rattle.core_model.proofs.laws.held_announcements_are_left.Goals as goal

pub returns-clause-begins : goal.returns-clause-begins
returns-clause-begins c = λ z s who a L. hold_begins z s L who a

pub returns-clause-ends : goal.returns-clause-ends
returns-clause-ends c = λ z s who a L. hold_ends z s L who a

pub returns-clause-starts : goal.returns-clause-starts
returns-clause-starts c = λ z s who d ops. (start_leaves z s who d ops).0

pub returns-clause-named : goal.returns-clause-named
returns-clause-named c = λ z s who a L. names_its_hold z s L who a

pub returns-clause-left : goal.returns-clause-left
returns-clause-left c = λ z s who e a L held. held_is_left z s L who e a held

pub returns-clause-own : goal.returns-clause-own
returns-clause-own c = λ z s who n d p L is. stored_own z s L who n d p is

pub returns-clause-not_given : goal.returns-clause-not_given
returns-clause-not_given c = λ z s who e d p L is. not_given z s L who e d p is

pub returns-clause-kept : goal.returns-clause-kept
returns-clause-kept c = λ z s who e a L is. none_holds z s L who e a is

pub returns-clause-read : goal.returns-clause-read
returns-clause-read c = λ z s who d a n L is other. scan_reads z s L who d a other

pub returns-clause-scan : goal.returns-clause-scan
returns-clause-scan c = λ z s who d e a n L is. scan_says z s L who n d e a is

pub returns-clause-stays : goal.returns-clause-stays
returns-clause-stays c = λ z s who d e a L. none_begins z s L who d e a
