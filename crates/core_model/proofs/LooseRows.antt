-- The rows that a call has taken are its own and unlinked.
use Rattle.std.proofs.Common.{ℕ, Bool, List, sym, ap, ◌∙◌, subst}
use Rattle.bq_model.specs.declared.op.Op.{Op}
use Rattle.word_rows.specs.declared.marks.Marks.{Marks}
use Rattle.lane_steps.specs.LaneSizes.{LaneSizes}
use Rattle.core_model.specs.Ghost.{World}
use Rattle.core_model.specs.Rows.{IsTaken, Fills, IsLoose, OwnRows}
use Rattle.core_model.proofs.Lists.{among_index}
use Rattle.core_model.proofs.Rely.{true_false}

module _ (z : LaneSizes) (w : World) (c : ℕ) where
  pub taken_loose : (stops : Bool) (r : ℕ) → IsTaken z c w.ghost.spot w.memory.mark stops r → IsLoose z w c r
  taken_loose stops r t = record {
    at_home = t.free.at_home;
    inside = t.free.inside;
    unlinked = t.free.unlinked;
    kept = ap (λ (m : Marks). m.free) t.marks;
    unmarked = λ both. true_false (sym (ap (λ (m : Marks). m.passed) both) ∙ ap (λ (m : Marks). m.passed) t.marks);
  }

  pub fills_loose : (rows : List ℕ) (ops : List Op) (j : ℕ) → Fills z c w.ghost.spot w.memory.value w.memory.link w.memory.mark rows ops j → OwnRows z w c rows
  fills_loose rows ops j x = record { each = λ r is. let y = among_index rows r is in subst (IsLoose z w c) y.2 (taken_loose _ _ (x.taken y.0 y.1)); distinct = x.distinct }
