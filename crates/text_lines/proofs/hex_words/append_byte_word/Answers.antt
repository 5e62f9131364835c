use Rattle.std.proofs.Common.{rules}
use Rattle.hex.specs.Hex.{encode_with}
use Rattle.text_lines.proofs.hex_words.append_byte_word.Goals as goal

pub returns-clause-ok : goal.returns-clause-ok
unfolding encode_with
returns-clause-ok c = search rules
