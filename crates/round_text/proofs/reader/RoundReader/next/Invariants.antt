use Rattle.std.proofs.Common.{◌≡◌, ◌-◌, ◌^◌, ◌<◌, ◌≤◌, length, is_some}
use Rattle.round_text.specs.Rounds.{most_rounds}
use Rattle.round_text.specs.Coming.{HasRead}
use Rattle.round_text.proofs.reader.RoundReader.next.Given as goal

abbrev pub invariant-loop-text : goal.invariant-loop-text
invariant-loop-text g l = record {
  read : HasRead l.fn.self l.self (g.S.Source.left l.fn.source) (g.S.Source.left l.source);
  below : l.self.number < most_rounds;
  told : is_some (g.S.Source.left l.source) ≡ is_some (g.S.Source.left l.fn.source);
  count_never_falls : g.S.Source.faults l.fn.source ≤ g.S.Source.faults l.source;
}

abbrev pub decreases-loop-text : goal.decreases-loop-text
decreases-loop-text g l = 2 ^ 64 - length l.self.ahead
