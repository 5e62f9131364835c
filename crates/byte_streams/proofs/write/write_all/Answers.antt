use Rattle.std.proofs.Common.{rules}
use Rattle.byte_streams.proofs.Known.{Appends-take_more}
use Rattle.byte_streams.proofs.write.write_all.Goals as goal

pub loop-sent-preserved : goal.loop-sent-preserved
loop-sent-preserved g c = record {
  within = search rules;
  wrote = Appends-take_more _ _ _ c.loop-sent.sent _ _ c.loop-sent.invariant.wrote c.in_ok-sent.ensures.appended;
  told = search rules;
  count_never_falls = search rules;
}
