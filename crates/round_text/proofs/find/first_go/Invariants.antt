use Rattle.std.proofs.Common.{◌-◌, ◌≤◌, length, take, drop}
use Rattle.round_text.specs.Cutting.{IsLine, IsOpen}
use Rattle.round_text.proofs.find.first_go.Given as goal

abbrev pub invariant-loop-feed : goal.invariant-loop-feed
invariant-loop-feed l = record {
  order : l.line ≤ l.seen;
  within : l.seen ≤ length l.bytes;
  lines : IsOpen (take l.line l.bytes);
  no_feed : IsLine (take (l.seen - l.line) (drop l.line l.bytes));
}

abbrev pub decreases-loop-feed : goal.decreases-loop-feed
decreases-loop-feed l = length l.bytes - l.seen
