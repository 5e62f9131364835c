use Rattle.std.proofs.Common.{arith}
use Rattle.std.proofs.lemmas.Grind.{common_steps}
use Rattle.memchr.specs.Find.{is_byte}
use Rattle.memchr.proofs.lemmas.CallerLemmas.{length-places}
use Rattle.job_work.proofs.count.count_text.Goals as goal

-- the places of the byte are as many as the bytes that equal it
pub returns : goal.returns
returns c =
    let counted = length-places (is_byte c.args.byte) c.args.bytes.now in
    grind (arith, common_steps, counted)
