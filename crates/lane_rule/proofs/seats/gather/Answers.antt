use Rattle.std.proofs.Common.{ap, ◌∙◌, ℕ}
use Rattle.atomic_table.specs.Table.{Me}
use Rattle.lane_rule.specs.declared.view.View.{View}
use Rattle.lane_rule.specs.Seating.{smallest}
use Rattle.lane_rule.proofs.Seatings.{gathers, learns}
use Rattle.lane_rule.proofs.seats.gather.Goals as goal

pub join_seat-requires : goal.join_seat-requires
join_seat-requires c = let t = c.requires.table in (
  t.0,
  t.1,
  c.requires.slots.1,
  t.2,
  gathers c.args.words.now.key smallest c.args.a.id c.args.b.id c.args.a.me.0 c.args.b.me.0 c.requires.kinds.0 c.requires.kinds.1 c.requires.heard.0 c.requires.heard.1,
)

pub load-requires : goal.load-requires
load-requires c = let t = c.requires.table in let e = c.join_seat.ensures in (
  e.0 ∙ t.0,
  t.2,
  learns c.args.words.now.key c.args.words.now.table_id.slots c.join_seat.new.seat.id c.join_seat.new.seat.me (ap (λ (m : Me ℕ View). m.0.kind) e.2),
)
