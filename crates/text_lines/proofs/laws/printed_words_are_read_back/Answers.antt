use Rattle.text_lines.proofs.PrintedLines.{words_of-lines}
use Rattle.text_lines.proofs.PrintedValues.{number_of-decimal, hex_of-printed_hex, byte_of-printed_byte}
use Rattle.text_lines.proofs.laws.printed_words_are_read_back.Goals as goal

pub returns-clause-lines : goal.returns-clause-lines
returns-clause-lines c = words_of-lines

pub returns-clause-number : goal.returns-clause-number
returns-clause-number c = number_of-decimal

pub returns-clause-hex : goal.returns-clause-hex
returns-clause-hex c = hex_of-printed_hex

pub returns-clause-byte : goal.returns-clause-byte
returns-clause-byte c = byte_of-printed_byte
