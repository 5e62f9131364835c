use Rattle.std.proofs.Common.{◌≡◌, ◌++◌}
use Rattle.job_text.proofs.job_words.read_texts.Given as goal

-- the words so far and those that are left are all words
abbrev pub invariant-loop-word : goal.invariant-loop-word
invariant-loop-word l = l.texts ++ l.word-iterator ≡ l.fn.words
