use Rattle.std.proofs.Common.{ℕ, List, ◌∙◌}
use Rattle.word_rows.specs.Memory.{words_after}
use Rattle.word_rows.proofs.MemoryLemmas.{word_at-here, word_at-elsewhere}
use Rattle.word_rows.proofs.laws.three_writes_leave_the_rest.Goals as goal

pub returns-clause-first : goal.returns-clause-first
returns-clause-first c = λ s words held a b c x y z shown at_a at_b at_c not_b not_c.
    let once : List ℕ = words_after s words a x in
    let twice : List ℕ = words_after s once b y in
    word_at-elsewhere s twice a c z at_a at_c not_c ∙ word_at-elsewhere s once a b y at_a at_b not_b ∙ word_at-here s words a x shown.long at_a

pub returns-clause-others : goal.returns-clause-others
returns-clause-others c = λ s words held a b c k x y z shown at_a at_b at_c at_k not_a not_b not_c.
    let once : List ℕ = words_after s words a x in
    let twice : List ℕ = words_after s once b y in
    word_at-elsewhere s twice k c z at_k at_c not_c ∙ word_at-elsewhere s once k b y at_k at_b not_b ∙ word_at-elsewhere s words k a x at_k at_a not_a ∙ shown.each k at_k
