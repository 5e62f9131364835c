use Rattle.std.proofs.Common.{ℕ, List, length, ap, ◌∙◌, arith}
use Rattle.text_lines.proofs.ReadingLemmas.{length-lines_of}
use Rattle.trace_text.proofs.check.line_behind.Goals as goal

pub loop-line-init : goal.loop-line-init
loop-line-init c =
    let lines_are = ap (λ (lines : List (List ℕ)). length lines) (c.into_iter-line-iterator.ensures.into_iter_gives ∙ c.new-line-items.ensures) in
    record {
      exact = omega arith;
      few = omega (arith, length-lines_of c.args.bytes.now);
    }
