use Rattle.std.proofs.Common.{◌≡◌, true, false, None}
use Rattle.std.specs.List.{list_all}
use Rattle.bq_model.specs.NoShut.{NoShut}
use Rattle.trace_text.specs.ScheduleText.{is_op_word, op_of}
use Rattle.text_lines.specs.Each.{each_of}
use Rattle.text_lines.proofs.EachLemmas.{onto}
use Rattle.trace_text.proofs.schedule.read_op_words.Given as goal

-- the claims so far and those of the words that are left are those of all words, where all numbers so far are right
abbrev pub invariant-loop-word : goal.invariant-loop-word
invariant-loop-word l = record {
  letters : list_all is_op_word l.word-iterator ≡ list_all is_op_word l.fn.words;
  right : l.right ≡ true → onto l.ops (each_of op_of l.word-iterator) ≡ each_of op_of l.fn.words;
  wrong : l.right ≡ false → None ≡ each_of op_of l.fn.words;
  no_shut : NoShut l.ops;
}
