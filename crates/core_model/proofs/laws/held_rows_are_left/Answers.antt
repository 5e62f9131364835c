use Rattle.core_model.proofs.Holdings.{names_its_row}
use Rattle.core_model.proofs.HoldSteps.{row_hold_begins, row_hold_ends, start_leaves}
use Rattle.core_model.proofs.HeldRows.{held_not_free, held_row_is_left, row_not_given, row_not_freed, row_scan_says, row_scan_ends, row_scan_reads, no_row_begins}
use Rattle.core_model.proofs.laws.held_rows_are_left.Goals as goal

pub returns-clause-begins : goal.returns-clause-begins
returns-clause-begins c = λ z s who r L. row_hold_begins z s L who r

pub returns-clause-ends : goal.returns-clause-ends
returns-clause-ends c = λ z s who r L. row_hold_ends z s L who r

pub returns-clause-starts : goal.returns-clause-starts
returns-clause-starts c = λ z s who d ops. (start_leaves z s who d ops).1

pub returns-clause-named : goal.returns-clause-named
returns-clause-named c = λ z s who r L. names_its_row z s L who r

pub returns-clause-not_free : goal.returns-clause-not_free
returns-clause-not_free c = λ z s who r L. held_not_free z s L who r

pub returns-clause-left : goal.returns-clause-left
returns-clause-left c = λ z s who e r L held. held_row_is_left z s L who e r held

pub returns-clause-not_given : goal.returns-clause-not_given
returns-clause-not_given c = λ z s who e r t L is. row_not_given z s L who e r t is

pub returns-clause-not_freed : goal.returns-clause-not_freed
returns-clause-not_freed c = λ z s who e r a L is. row_not_freed z s L who e r a is

pub returns-clause-read : goal.returns-clause-read
returns-clause-read c = λ z s who d r L other. row_scan_reads z s L who d r other

pub returns-clause-scan : goal.returns-clause-scan
returns-clause-scan c = λ z s who d e r a L is. row_scan_says z s L who d e r a is

pub returns-clause-frees : goal.returns-clause-frees
returns-clause-frees c = λ z s who d q r a L is. row_scan_ends z s L who d q r a is

pub returns-clause-stays : goal.returns-clause-stays
returns-clause-stays c = λ z s who d e r L. no_row_begins z s L who d e r
