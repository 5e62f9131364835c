use Rattle.std.proofs.Common.{sym}
use Rattle.text_lines.proofs.HexLemmas.{byte_of-refused, decode_sized-refused}
use Rattle.text_lines.proofs.hex_words.byte_word.Goals as goal

pub returns-in-Err : goal.returns-in-Err
returns-in-Err c = sym (byte_of-refused c.args.word.now c.in-Err.field-0 (decode_sized-refused _ _ _ _ c.in-Err.is c.decode_to_slice.ensures.value))
