use Rattle.std.proofs.Common.{◌∙◌, ap}
use Rattle.word_rows.specs.declared.content.Content.{Content}
use Rattle.word_rows.specs.declared.location.Location.TheVariants.{AnnWord}
use Rattle.lane_steps.specs.declared.act.Act.TheVariants.{Store}
use Rattle.batch_ways.proofs.Stoppers.{written}
use Rattle.lane_course.proofs.Ways.{acts, here, stands_at}
use Rattle.batch_ways.proofs.stopper.write.Goals as goal

pub store-requires : goal.store-requires
store-requires c = record { at = stands_at c.requires.runs; store = acts c.requires.runs ∙ ap (λ (x : Content). Store (AnnWord c.args.draft.now.ann c.args.field) x) c.requires.content }

pub returns : goal.returns
returns c = written _ _ c.store.ensures c.args.draft.now c.args.field (here c.requires.runs)
