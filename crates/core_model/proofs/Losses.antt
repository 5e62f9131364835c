-- The end of a call that has taken rows and not linked them: it marks these first, by rising number, and then goes on to its end.
use Rattle.std.proofs.Common.{◌≡◌, ℕ, List, [], ◌∷◌, length, sym, refl, ◌∙◌, subst}
use Rattle.bq_model.specs.declared.group.Group.{Group}
use Rattle.lane_steps.specs.declared.point.Closing.{Closing}
use Rattle.lane_steps.specs.declared.point.ClosePoint.TheVariants as close
use Rattle.lane_steps.specs.declared.point.Point.{Point}
use Rattle.lane_steps.specs.declared.point.Point.TheVariants as point
use Rattle.lane_steps.specs.Functions.{rising}
use Rattle.lane_steps.specs.LaneSizes.{LaneSizes}
use Rattle.lane_steps.specs.State.{Memory, Caller, State}
use Rattle.lane_steps.specs.Fact.{linearized_is, own_rows}
use Rattle.lane_steps.specs.Close.{is_done, answer_known}
use Rattle.lane_steps.specs.Step.{clears_node, loses, closes}
use Rattle.core_model.specs.Ghost.{World}
use Rattle.core_model.specs.Rows.{OwnRows}
use Rattle.core_model.specs.Facts.{Holds, Each, AtPoint}
use Rattle.core_model.specs.Lawful.{Lawful}
use Rattle.core_model.proofs.Lists.{among_here, among_there, among_none}
use Rattle.core_model.proofs.RowLists.{among_rising, distinct_rising}
use Rattle.core_model.proofs.Rely.{world}
use Rattle.core_model.proofs.Preserves.{changed}
use Rattle.core_model.proofs.Closes.{answers_so, clears_node_so, may_close, knows_there, may_close_there, goes_there}

-- how it goes on, with these rows to be marked
abbrev pub losing_point : Closing → List ℕ → Point
losing_point a [] = point.Close a close.ClearNode
losing_point a (r ∷ rs) = point.Close a (close.MarkLoose r)

abbrev pub rows_behind : List ℕ → List ℕ
rows_behind [] = []
rows_behind (r ∷ rs) = rs

abbrev pub losing : Caller → Closing → List ℕ → Caller
losing k a rows = record k { point = losing_point a rows; rows = rows_behind rows }

module _ (z : LaneSizes) (c : ℕ) where
  -- what it knows there
  pub losing_knows : (w : World) (k : Caller) (a : Closing) (rows : List ℕ) → Holds z w c (linearized_is (is_done a) rows [] []) → Holds z w c (own_rows rows) → Each z w c (answer_known c k a)
      → AtPoint z w c (losing k a rows) (losing_point a rows)
  losing_knows w k a [] f own answers = record { call = (f, answers_so z w c k (point.Close a close.ClearNode) [] k.walked k.retired k.named k.hold k.row_hold a answers); here = tt }
  losing_knows w k a (r ∷ rs) f own answers = record {
    call = (f, answers_so z w c k (point.Close a (close.MarkLoose r)) rs k.walked k.retired k.named k.hold k.row_hold a answers);
    here = (own.each r (among_here rs r r refl), (record { each = λ q is. own.each q (among_there rs r q is); distinct = own.distinct.1 }, (own.distinct.0, tt)));
  }

  -- it goes on from there
  pub lost : (s : State) (memory : Memory) (h : List Group) (k : Caller) (a : Closing) (rows : List ℕ) → Lawful z (changed s c memory h (losing k a rows)) → Lawful z (changed s c memory h (loses (length h) c k a rows))
  lost s memory h k a (r ∷ rs) L = L
  lost s memory h k a [] L = let f = knows_there z s c memory h (losing k a []) L (point.Close a close.ClearNode) refl in goes_there z s c memory h (losing k a []) L (clears_node (length h) c (record k { rows = [] }) a k.row_hold)
      (clears_node_so z (changed s c memory h (losing k a [])) L c a f.call.0 (record k { rows = [] }) (may_close_there z s c memory h (losing k a []) L a k.point [] k.walked k.named f.call.1))

  -- the same of all rows that it has taken
  pub closing_knows : (w : World) (k : Caller) (a : Closing) → Holds z w c (linearized_is (is_done a) k.rows [] []) → Holds z w c (own_rows k.rows) → Each z w c (answer_known c k a)
      → AtPoint z w c (losing k a (rising k.rows)) (losing_point a (rising k.rows))
  closing_knows w k a f own answers = losing_knows w k a (rising k.rows)
      (f.0, f.1, f.2, (λ r home none taken fresh. among_rising k.rows r ∙ f.3 r home none taken fresh), f.4)
      (record { each = λ r is. own.each r (sym (among_rising k.rows r) ∙ is); distinct = distinct_rising k.rows own.distinct }) answers

  pub closed : (s : State) (memory : Memory) (h : List Group) (k : Caller) (a : Closing) → Lawful z (changed s c memory h (losing k a (rising k.rows))) → Lawful z (changed s c memory h (closes (length h) c k a))
  closed s memory h k a L = lost s memory h k a (rising k.rows) L

  -- a call that has taken effect, or that ends with Full, where nothing else changes
  pub closes_so : (s : State) (L : Lawful z s) (a : Closing) → Holds z (world s L.ghost) c (linearized_is (is_done a) (s.callers c).rows [] []) → Holds z (world s L.ghost) c (own_rows (s.callers c).rows) → Each z (world s L.ghost) c (answer_known c (s.callers c) a)
      → Lawful z (changed s c s.memory s.history (closes (length s.history) c (s.callers c) a))
  closes_so s L a f own answers = let k = s.callers c in Rattle.core_model.proofs.Closes.closes_so z s L c a k (may_close z s L c a k.rows k.values k.walked answers) f own

  -- a call that has taken no rows
  pub no_rows : (w : World) (rows : List ℕ) → rows ≡ [] → Holds z w c (own_rows rows)
  no_rows w rows none = subst (OwnRows z w c) (sym none) (record { each = λ r is. absurd (among_none r is); distinct = tt })

  pub closes_bare : (s : State) (L : Lawful z s) (a : Closing) → (s.callers c).rows ≡ [] → Holds z (world s L.ghost) c (linearized_is (is_done a) [] [] []) → Each z (world s L.ghost) c (answer_known c (s.callers c) a)
      → Lawful z (changed s c s.memory s.history (closes (length s.history) c (s.callers c) a))
  closes_bare s L a none f answers = closes_so s L a (subst (λ (rows : List ℕ). Holds z (world s L.ghost) c (linearized_is (is_done a) rows [] [])) (sym none) f) (no_rows (world s L.ghost) (s.callers c).rows none) answers
