use Rattle.word_rows.proofs.PackingLemmas.{marks_word-back}
use Rattle.word_rows.proofs.marks.Marks.unpack.Goals as goal

pub returns-then-word-lt-MARKS : goal.returns-then-word-lt-MARKS
returns-then-word-lt-MARKS c = marks_word-back c.args.word c.if-word-lt-MARKS.true
