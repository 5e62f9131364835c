use Rattle.std.proofs.Common.{◌≡◌}
use Rattle.dep_text.specs.DepWords.{arg_of, all_of}
use Rattle.dep_text.specs.SoFar.{said, behind}
use Rattle.dep_text.proofs.dep_words.read_args.Given as goal

-- what the words so far say, and those that are left, is what all words say
abbrev pub invariant-loop-word : goal.invariant-loop-word
invariant-loop-word l = behind (said l.args l.refused) (all_of (arg_of l.jobs) l.word-iterator) ≡ all_of (arg_of l.fn.jobs) l.fn.words
