use Rattle.std.proofs.Common.{sym, ◌∙◌, arith}
use Rattle.std.proofs.lemmas.Bool.Decides.{nat_tests}
use Rattle.text_lines.proofs.NumberLemmas.{number_of-stops, number_of-whole, digits-more, value-more}
use Rattle.text_lines.proofs.numbers.number.Goals as goal

pub returns-in_err-value : goal.returns-in_err-value
returns-in_err-value c =
    c.from_residual.ensures ∙ sym (number_of-stops c.args.word.now c.loop-byte.byte-index c.loop-byte.value c.loop-byte-test.true c.loop-byte.invariant.value_is c.in_err-value.ensures)

pub loop-byte-preserved : goal.loop-byte-preserved
loop-byte-preserved c =
    let word = c.args.word.now in
    let i = c.loop-byte.byte-index in
    let said = c.in_ok-value.ensures in
    let more = value-more word i c.loop-byte-test.true said.0.0 in
    record {
      digits = digits-more word i c.loop-byte-test.true said.0.0 c.loop-byte.invariant.digits;
      value_is = omega arith;
      small = omega arith;
    }

pub returns : goal.returns
returns c =
    let kept = c.loop-byte.invariant in
    number_of-whole c.args.word.now c.loop-byte.byte-index c.loop-byte.value (grind (arith, nat_tests, c.if-is_empty.ensures)) c.loop-byte-test.false kept.digits kept.value_is kept.small
