use Rattle.std.proofs.Common.{max, sym, ap₂, ap, ◌∙◌, map}
use Rattle.std.proofs.lemmas.List.{take_all}
use Rattle.dep_text.specs.Levels.{greatest, arg_level}
use Rattle.dep_text.proofs.LevelLemmas.{greatest-more}
use Rattle.dep_text.proofs.level.greatest_level.Goals as goal

pub loop-arg-preserved : goal.loop-arg-preserved
loop-arg-preserved c =
    c.max-level.ensures ∙ (ap₂ max c.loop-arg.invariant c.arg_level.ensures ∙ sym (greatest-more (arg_level c.args.levels.now) c.args.args.now c.loop-arg.arg-index _ c.loop-arg-test.true))
