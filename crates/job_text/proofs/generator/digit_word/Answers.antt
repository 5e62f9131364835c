use Rattle.std.proofs.Common.{◌%◌, arith, rules}
use Rattle.std.proofs.lemmas.Fmt.{decimal_digit}
use Rattle.job_text.proofs.generator.digit_word.Goals as goal

pub returns : goal.returns
returns c = let digit = decimal_digit (c.args.number % 10) (omega arith) in rw digit (search rules)
