use Rattle.std.proofs.Common.{true, false, ap, ◌∙◌, List, slice_index_or, slice_set}
use Rattle.word_rows.specs.declared.marks.Marks.{Marks}
use Rattle.word_rows.specs.Opening.{opening_marks}
use Rattle.lane_steps.specs.State.{marks}
use Rattle.step_core.proofs.Fields.{opening_all}
use Rattle.step_core.proofs.words.first_marks.Goals as goal

pub returns-clause-opening : goal.returns-clause-opening
returns-clause-opening c = let items = c.in_ok-marks.ensures.items_if_clones_equal (λ y e. e) in
    λ i r. (ap (λ (xs : List Marks). slice_index_or (slice_set xs 0 (marks true false false)) r (opening_marks r)) items ∙ opening_all c.args.rows c.requires r) i
