use Rattle.std.proofs.Common.{◌+◌, ◌≤◌, [], get_or, refl, replicate, ap, ◌∙◌, arith}
use Rattle.std.proofs.lemmas.List.Elements.{All-get_or}
use Rattle.dep_text.specs.Levels.{depth_of}
use Rattle.dep_text.proofs.LevelLemmas.{below_greatest}
use Rattle.dep_jobs.proofs.LevelFiles.{numbers_among-none, numbers_among-push, length-numbers_among}
use Rattle.dep_jobs.proofs.levels.numbers_by_level.Goals as goal

pub loop-number-init : goal.loop-number-init
loop-number-init c = c.in_ok-numbers.ensures ∙ (ap (λ depth. replicate depth []) c.depth.ensures ∙ numbers_among-none c.args.levels.now (depth_of c.args.levels.now))

pub add_number-requires : goal.add_number-requires
add_number-requires c =
    let levels = c.args.levels.now in
    let i = c.loop-number.number in
    let low = All-get_or (λ level. level + 1 ≤ depth_of levels) levels i 0 c.loop-number-test.true (below_greatest (λ level. level + 1) levels) in
    let count = length-numbers_among levels i (depth_of levels) c.loop-number.numbers.items c.loop-number.invariant in
    omega arith

pub loop-number-preserved : goal.loop-number-preserved
loop-number-preserved c =
    let levels = c.args.levels.now in
    let i = c.loop-number.number in
    let low = All-get_or (λ level. level + 1 ≤ depth_of levels) levels i 0 c.loop-number-test.true (below_greatest (λ level. level + 1) levels) in
    numbers_among-push levels (depth_of levels) i (get_or levels i 0) c.loop-number.numbers.items c.add_number.new.numbers.items (omega arith) refl c.loop-number.invariant c.in_ok-add_number.ensures
