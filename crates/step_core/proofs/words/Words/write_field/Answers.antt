use Rattle.std.proofs.Common.{rules, refl}
use Rattle.step_core.proofs.Fields.{notice_written}
use Rattle.step_core.proofs.words.Words.write_field.Goals as goal

pub returns-in_default : goal.returns-in_default
returns-in_default c = record {
  memory = notice_written c.args.self.now c.args.ann c.args.field c.args.content c.index-notice.result.now c.with_field.result (search rules) c.in_default.not-OldTail c.index-notice.ensures c.with_field.ensures;
  sizes_stay = refl;
}
