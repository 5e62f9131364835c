use Rattle.word_rows.specs.Layout.{IsValid, index_of}
use Rattle.word_rows.proofs.PackingLemmas.{ReadsBack-some}
use Rattle.word_rows.proofs.LayoutLemmas.{index_of-once}
use Rattle.word_rows.proofs.location.Location.at.Goals as goal

pub returns-then-index-lt-ENDS-clause-its_word : goal.returns-then-index-lt-ENDS-clause-its_word
returns-then-index-lt-ENDS-clause-its_word c =
    let found = c.end_at.ensures c.args.shape.now in
    ReadsBack-some (IsValid c.args.shape.now) (index_of c.args.shape.now) c.args.index c.end_at.result (index_of-once c.args.shape.now) found.0 found.1
