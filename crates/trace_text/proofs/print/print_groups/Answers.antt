use Rattle.std.proofs.Common.{List, All, subst}
use Rattle.std.proofs.lemmas.List.{take_all}
use Rattle.std.proofs.lemmas.List.Elements.{All-more}
use Rattle.bq_model.specs.declared.group.Group.{Group}
use Rattle.trace_text.specs.Ranges.{IsGroupInRange}
use Rattle.trace_text.proofs.PrintLemmas.{groups_printed-more}
use Rattle.trace_text.proofs.print.print_groups.Goals as goal

pub loop-group-preserved : goal.loop-group-preserved
loop-group-preserved c =
    let h = c.args.history.now in
    let k = c.loop-group.group-index in
    let g = c.group-item.result in
    let before = c.loop-group.invariant in
    let e = c.in_ok-print_group.ensures in
    record {
      printed = groups_printed-more c.loop-group.queue c.print_group.new.queue h k g c.loop-group-test.true c.group-item.is e.queue c.loop-group.text c.print_group.new.text _ e.text before.printed;
      in_range = All-more IsGroupInRange h k g c.loop-group-test.true before.in_range (subst IsGroupInRange c.group-item.is e.in_range);
    }

pub returns-clause-in_range : goal.returns-clause-in_range
returns-clause-in_range c =
    let P : List Group → Type 0 = All IsGroupInRange in
    subst P (take_all c.loop-group.group-index c.args.history.now c.loop-group-test.false) c.loop-group.invariant.in_range
