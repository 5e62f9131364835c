use Rattle.std.proofs.Common.{◌≡◌}
use Rattle.trace_text.specs.Played.{ran}
use Rattle.trace_text.proofs.play.Play.run.Given as goal

-- the steps so far and those behind them are those of the call
abbrev pub invariant-loop-to_go : goal.invariant-loop-to_go
invariant-loop-to_go l = record {
  shape : l.self.shape ≡ l.fn.self.shape;
  walked : ran l.name l.to_go l.caller l.self ≡ ran l.name l.limit l.caller l.fn.self;
}

abbrev pub decreases-loop-to_go : goal.decreases-loop-to_go
decreases-loop-to_go l = l.to_go
