use Rattle.std.proofs.Common.{◌≡◌, ◌-◌, ◌≤◌, vec_len, is_some}
use Rattle.std.specs.Io.KnownBytes.{Consumes}
use Rattle.bqd.specs.declared.input.TheConstants.{MAX_READ}
use Rattle.bqd.proofs.input.read_input.Given as goal

abbrev pub invariant-loop-piece : goal.invariant-loop-piece
invariant-loop-piece g l = record {
  at_most : vec_len l.input ≤ MAX_READ;
  consumed : Consumes (g.S.Source.left l.fn.source) (g.S.Source.left l.source) l.input.items;
  told : is_some (g.S.Source.left l.source) ≡ is_some (g.S.Source.left l.fn.source);
  count_never_falls : g.S.Source.faults l.fn.source ≤ g.S.Source.faults l.source;
}

abbrev pub decreases-loop-piece : goal.decreases-loop-piece
decreases-loop-piece g l = MAX_READ - vec_len l.input
