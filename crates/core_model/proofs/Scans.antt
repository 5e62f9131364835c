-- The scan of a caller that has retired rows: of each caller it learns which row that one may hold.
use Rattle.std.proofs.Common.{◌≡◌, ℕ, suc, true, List, sym, ◌∙◌, subst, arith, Option, Some, None}
use mathlib.Core.Logic.{dite}
use native.Mathlib.Decide.{ℕ_discrete}
use Rattle.node_guard.specs.Pick.{among}
use Rattle.lane_steps.specs.LaneSizes.{LaneSizes}
use Rattle.lane_steps.specs.State.{State}
use Rattle.lane_steps.specs.Fill.{noted}
use Rattle.lane_steps.specs.Fact.{lets_go}
use Rattle.core_model.specs.Facts.{Holds}
use Rattle.core_model.specs.Rows.{Retires}
use Rattle.core_model.specs.Lawful.{Lawful, named_by, held_by}
use Rattle.core_model.proofs.Rely.{world, one_some, some_none}
use Rattle.core_model.proofs.Stocks.{among-push}
use Rattle.lane_steps.specs.declared.point.Hold.{Hold}
use Rattle.lane_steps.specs.declared.point.Hold.TheVariants.{Free, Names, Held}

module _ (z : LaneSizes) (s : State) (L : Lawful z s) (c : ℕ) where
  -- who holds a row names it in its hazard word
  pub row_named : (d r : ℕ) → L.ghost.row_held d ≡ Some r → s.memory.node_hazard d ≡ Some r
  row_named d r holds = let G = (L.callers d).guards_row in G.word ∙ by (s.callers d).row_hold (sym G.holds ∙ holds) where
    by : (h : Hold) → held_by h ≡ Some r → named_by h ≡ Some r
    by Free e = absurd (some_none (sym e))
    by (Names x) e = absurd (some_none (sym e))
    by (Held x) e = e

  -- one hazard word more
  pub heard : (d : ℕ) (rows named : List ℕ) (x : Option ℕ) → s.memory.node_hazard d ≡ x → ((r : ℕ) → among rows r ≡ true → Retires z (world s L.ghost) c r)
      → Holds z (world s L.ghost) c (lets_go d rows named) → Holds z (world s L.ghost) c (lets_go (suc d) rows (noted named x))
  heard d rows named None is each f e r below there off = dite (ℕ_discrete e d)
      (λ same. (each r there, λ holds. some_none (sym (row_named d r (subst (λ (y : ℕ). L.ghost.row_held y ≡ Some r) same holds)) ∙ is)))
      (λ ne. f e r (omega arith) there off)
  heard d rows named (Some y) is each f e r below there off = let o = among-push named y r off in dite (ℕ_discrete e d)
      (λ same. (each r there, λ holds. o.1 (one_some (sym (row_named d r (subst (λ (y : ℕ). L.ghost.row_held y ≡ Some r) same holds)) ∙ is))))
      (λ ne. f e r (omega arith) there o.0)
