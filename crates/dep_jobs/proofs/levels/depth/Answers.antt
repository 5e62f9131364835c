use Rattle.std.proofs.Common.{ℕ, ◌+◌, max, get_or, sym, ap, ◌∙◌}
use Rattle.dep_text.proofs.LevelLemmas.{greatest-more}
use Rattle.dep_jobs.proofs.levels.depth.Goals as goal

pub loop-level-preserved : goal.loop-level-preserved
loop-level-preserved c =
    let levels = c.args.levels.now in
    let i = c.loop-level.level-index in
    c.max-depth.ensures ∙ (ap (λ (d : ℕ). max d (get_or levels i 0 + 1)) c.loop-level.invariant ∙ sym (greatest-more (λ level. level + 1) levels i 0 c.loop-level-test.true))
