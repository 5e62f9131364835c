use Rattle.std.proofs.Common.{Some, refl}
use Rattle.word_rows.specs.Packing.{old_tail_word}
use Rattle.word_rows.specs.Fits.{OldTailFits, coding_limits}
use Rattle.word_rows.proofs.PackingLemmas.{ReadsBack-some, old_tail_word-once}
use Rattle.word_rows.proofs.old_tail.unpack_old_tail.Goals as goal

pub returns-in_ok-unpack : goal.returns-in_ok-unpack
returns-in_ok-unpack c =
    let found = (c.in_ok-unpack.ensures.its_place c.in_ok-unpack.field-0).0 refl in
    ReadsBack-some (OldTailFits coding_limits) old_tail_word c.args.word (Some c.in_ok-unpack.field-0) old_tail_word-once found.0 found.1
