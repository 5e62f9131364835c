use Rattle.std.proofs.Common.{◌≡◌}
use Rattle.text_lines.specs.Number.{number_of}
use Rattle.text_lines.specs.Each.{each_of}
use Rattle.text_lines.proofs.EachLemmas.{onto}
use Rattle.job_text.proofs.job_words.read_numbers.Given as goal

-- the numbers so far and those of the words that are left are those of all words
abbrev pub invariant-loop-word : goal.invariant-loop-word
invariant-loop-word l = onto l.numbers (each_of number_of l.word-iterator) ≡ each_of number_of l.fn.words
