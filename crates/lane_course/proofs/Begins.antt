-- The first load of a command that searches for a row, as what its command is then.
use Rattle.std.proofs.Common.{◌≡◌, ◌<◌, ◌-◌, ℕ, List, length, sym, subst}
use Rattle.atomic_table.specs.Seated.{TableId}
use Rattle.atomic_table.specs.declared.shared.Seat.{Seat}
use Rattle.bq_model.specs.declared.op.Op.{Op}
use Rattle.bq_model.specs.declared.shape.Shape.{Shape}
use Rattle.bq_model.specs.Values.{enqueued}
use Rattle.word_rows.specs.declared.content.Content.{Content}
use Rattle.word_rows.specs.Homes.{item_row_of}
use Rattle.word_rows.specs.Sizes.{items_of}
use Rattle.lane_steps.specs.Functions.{Distinct}
use Rattle.lane_steps.specs.LaneSizes.{lane_sizes}
use Rattle.lane_steps.specs.Take.{search}
use Rattle.lane_steps.specs.declared.point.Point.{Point}
use Rattle.lane_steps.specs.declared.point.Point.TheVariants.{Take}
use Rattle.lane_steps.specs.declared.point.TakePoint.TheVariants.{LoadMark}
use Rattle.lane_steps.specs.declared.point.Taking.TheVariants as taking
use Rattle.lane_rule.specs.declared.view.View.{View}
use Rattle.lane_rule.specs.Plays.{IsIdle, Starts, Moves}
use Rattle.lane_course.specs.Along.{Along}
use Rattle.lane_course.specs.declared.scratch.Scratch.{Scratch}
use Rattle.lane_course.specs.Running.{Agrees, begun_seat}
use Rattle.lane_course.specs.Scratch.{Reserves}
use Rattle.lane_course.proofs.Advances.{starts_running}
use Rattle.lane_course.proofs.Ways.{here}

pub search_is : (s : Shape) (c v row left : ℕ) → row ≡ item_row_of s c 0 → left ≡ items_of s - 1 → search (lane_sizes s) c (taking.Enqueue v) ≡ Take (taking.Enqueue v) (LoadMark row left)
search_is s c v row left e f = λ i. Take (taking.Enqueue v) (LoadMark (sym e i) (sym f i))

pub idle_at : {id : TableId} {key s : Shape} {c : ℕ} {ops : List Op} {t u : Point} {p : Seat ℕ View} → t ≡ u → IsIdle id key s c ops t p → IsIdle id key s c ops u p
idle_at {id} {key} {s} {c} {ops} {p} e at = subst (λ (y : Point). IsIdle id key s c ops y p) e at

module _ {id : TableId} {key s : Shape} {c : ℕ} {ops : List Op} {t : Point} {p : Seat ℕ View} (at : IsIdle id key s c ops t p) (a : Scratch) (known : c < s.callers) (puts : a.puts.items ≡ enqueued ops) (agrees : (n : ℕ) → Agrees (begun_seat p n ops).me.0.kept a)
    (reserves : Reserves s a) (few : length p.me.0.kept.retired < s.callers) (apart : Distinct p.me.0.kept.retired) (q : Seat ℕ View) (x : Content) (m : Starts p ops x q) where
  -- where it stood as it began, and its first step
  pub stood : Along id key s c t a (begun_seat p m.2.0 ops) (begun_seat p m.2.0 ops)
  stood = here (starts_running id key s c ops t p at a known puts agrees reserves few apart m.2.0)

  pub moved : Moves (begun_seat p m.2.0 ops) x q
  moved = (m.0, m.1, m.2.2, m.3)
