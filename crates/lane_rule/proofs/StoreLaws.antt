-- After a store the caller goes on whatever the word had, and each command begins with a load.
use Rattle.std.proofs.Common.{◌≡◌, ◌==◌, ℕ, Bool, true, false, sym, refl, ap, ◌∙◌, subst, List, [], ◌∷◌}
use Rattle.atomic_table.specs.Seated.{TableId}
use Rattle.atomic_table.specs.declared.shared.Seat.{Seat}
use Rattle.bq_model.specs.declared.shape.Shape.{Shape}
use Rattle.word_rows.specs.declared.content.Content.{Content}
use Rattle.word_rows.specs.Contents.{MayHold}
use Rattle.lane_steps.specs.declared.point.Point.{Point}
use Rattle.lane_steps.specs.State.{Caller}
use Rattle.lane_steps.specs.Step.{act, target, followed}
use Rattle.word_rows.specs.declared.location.Location.{Location}
use Rattle.lane_steps.specs.declared.act.Act.TheVariants.{Load, Store}
use Rattle.lane_steps.specs.declared.point.Point.TheVariants as point
use Rattle.lane_steps.specs.declared.point.Closing.{Closing}
use Rattle.lane_steps.specs.declared.point.ClosePoint.TheVariants.{LoadHazard}
use Rattle.lane_rule.specs.declared.view.View.{View}
use Rattle.lane_steps.specs.Act.{location}
use Rattle.lane_steps.specs.Fits.{ActFits}
use Rattle.lane_rule.specs.Rule.{caller_of}
use Rattle.lane_rule.specs.Plays.{IsAt, Moves, IsIdle}
use Rattle.bq_model.specs.declared.op.Op.{Op}
use Rattle.bq_model.specs.declared.op.Op.TheVariants.{Enq, Deq, Shut}
use Rattle.lane_steps.specs.LaneSizes.{LaneSizes, lane_sizes}
use Rattle.lane_steps.specs.declared.point.Notice.{Notice}
use Rattle.lane_steps.specs.Start.{first_point, batch_point, draft_of}
use Rattle.excess_count.specs.Excess.{enqueue_count}
use Rattle.lane_rule.proofs.Effects.{any_found}

pub stored_moves : (id : TableId) (key s : Shape) (c : ℕ) (t : Point) (p q : Seat ℕ View) (l : Location) (y x : Content) → IsAt id key s c t p → act c t ≡ Store l y → Moves p x q → Moves p y q
stored_moves id key s c t p q l y x at by m = let g = m.2 in (
  m.0,
  m.1,
  record {
    alone = g.alone;
    next = g.next ∙ ap (followed (lane_sizes p.me.0.shape) _ p.me.0.caller (caller_of p.me.0.kept)) (any_found p.me.0.caller p.me.0.kept.point l y x y ((λ j. act (at.caller j) (at.point j)) ∙ by));
    same = g.same;
    shape = g.shape;
    later = g.later;
    heard = g.heard;
    found = subst (λ (z : Shape × Location). MayHold z.0 z.1 y) (λ i. (sym at.planned i, (ap location (sym by) ∙ (λ j. target (sym at.caller j) (sym at.point j))) i)) (subst (ActFits key) by at.ready.fits);
    own_word = λ a is. absurd (no_load is);
    full = g.full;
    ready = g.ready;
    knows = g.knows;
    lists = g.lists;
    less = g.less;
  },
  m.3,
) where
  -- a step at this point loads
  no_load : {a : Closing} → p.me.0.kept.point ≡ point.Close a (LoadHazard p.me.0.caller) → ⊥
  no_load is = cc ((λ i. act (sym at.caller i) (sym is i)) ∙ (λ i. act (at.caller i) (at.point i)) ∙ by)

-- a command begins with a load
begins_with : (z : LaneSizes) (c : ℕ) (k : Caller) (ops : List Op) → (l : Location) × (act c (first_point z c k ops) ≡ Load l)
begins_with z c k [] = (_, refl)
begins_with z c k (Enq v ∷ []) = (_, refl)
begins_with z c k (Deq ∷ []) = (_, refl)
begins_with z c k (Shut ∷ []) = (_, refl)
begins_with z c k (op ∷ next ∷ ops) = by (enqueue_count (op ∷ next ∷ ops) == 0) (draft_of c k (op ∷ next ∷ ops)) where
  by : (b : Bool) (d : Notice) → (l : Location) × (act c (batch_point z c (op ∷ next ∷ ops) d b) ≡ Load l)
  by true d = (_, refl)
  by false d = (_, refl)

pub first_loads : (id : TableId) (key s : Shape) (c : ℕ) (ops : List Op) (t : Point) (p : Seat ℕ View) → IsIdle id key s c ops t p → (l : Location) × (act c t ≡ Load l)
first_loads id key s c ops t p at = let f = begins_with (lane_sizes key) c (caller_of p.me.0.kept) ops in (f.0, ap (act c) (sym at.point) ∙ f.1)
