-- A search for a free row begins with few of the caller's rows in use.
use Rattle.std.proofs.Common.{◌≡◌, ℕ, suc, ◌+◌, ◌-◌, ◌<◌, ◌≤◌, Bool, List, [], length, sym, refl, ap, arith}
use Rattle.std.proofs.lemmas.List.{append-nil}
use Rattle.bq_model.specs.declared.shape.Shape.{Shape}
use Rattle.lane_steps.specs.LaneSizes.{lane_sizes, own_row, own_count}
use Rattle.lane_steps.specs.State.{State}
use Rattle.core_model.specs.Lawful.{Lawful}
use Rattle.core_model.specs.Rows.{Takes}
use Rattle.core_model.proofs.Rely.{world}
use Rattle.lane_room.specs.Busy.{busy}
use Rattle.lane_room.specs.Search.{Search}
use Rattle.lane_room.specs.Share.{Shares}
use Rattle.lane_room.proofs.Busy.{busy_few}

module _ (z : Shape) (c : ℕ) where
  -- it begins
  pub search_begins : (s : State) (L : Lawful (lane_sizes z) s) → Shares z s.callers → c < z.callers → (taken : List ℕ) → Takes (lane_sizes z) (world s L.ghost) c taken → (stops : Bool) (from : ℕ) → from ≤ length s.history
      → Search z s.memory.mark s.history c from stops (length taken) (own_row (lane_sizes z) c stops 0) (own_count (lane_sizes z) stops - 1)
  search_begins s L S known taken takes stops from since = let some = L.sizes.some stops in let all : suc (own_count (lane_sizes z) stops - 1) ≡ own_count (lane_sizes z) stops = omega arith in record {
    number = 0;
    row = refl;
    ends = let none : 0 + suc (own_count (lane_sizes z) stops - 1) ≡ own_count (lane_sizes z) stops = omega (arith, all) in none;
    before = s.history;
    behind = [];
    whole = sym (append-nil s.history);
    since_start = since;
    few = let n = busy_few z s L S c known taken takes stops in let same = ap (λ (k : ℕ). length (busy s.memory.mark (own_row (lane_sizes z) c stops 0) k)) all in omega (arith, n, same);
  }
