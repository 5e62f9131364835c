use Rattle.trace_text.proofs.ShapeLemmas.{shape_with-made}
use Rattle.trace_text.proofs.schedule.shape_with.Goals as goal

pub returns : goal.returns
returns c =
    let made = c.new.ensures in
    shape_with-made c.args.callers c.args.batch c.args.room c.args.allowance c.args.first c.new.result record {
      limits = made.in_limits.0;
      within = made.in_limits.1;
      callers_are = made.callers;
      batch_is = made.batch;
      room_is = made.room;
      allowance_is = made.allowance;
      first_is = made.first_count;
    }
