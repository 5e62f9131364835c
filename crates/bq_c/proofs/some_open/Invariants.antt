use Rattle.std.proofs.Common.{◌≢◌, take, All}
use Rattle.bq_c.proofs.some_open.Given as goal

abbrev pub invariant-loop-pass : goal.invariant-loop-pass
invariant-loop-pass l = All (λ pass. pass.state ≢ 1) (take l.pass-index l.passes)
