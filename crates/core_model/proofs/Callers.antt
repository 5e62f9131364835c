-- What is true of a caller goes on to be so while others make their steps.
use Rattle.std.proofs.Common.{◌≡◌, ℕ, Bool, cond, [], ◌∷◌, ◌++◌, sym, refl, ap, ◌∙◌, Option, Some, None, ⊎_elim}
use Rattle.bq_model.specs.Own.{mine}
use Rattle.lane_steps.specs.declared.point.Hold.{Hold}
use Rattle.lane_steps.specs.LaneSizes.{LaneSizes}
use Rattle.lane_steps.specs.State.{Caller, own_group}
use Rattle.core_model.specs.Ghost.{World, Installed}
use Rattle.core_model.specs.Lawful.{Guards, GuardsRow, OfCaller}
use Rattle.core_model.proofs.Rely.{Drafts, LetGo, RowRely, NoDebts, Rely, some_none}
use Rattle.core_model.proofs.OwnStable.{knows_stable}

-- what guards a caller goes on to do so where its hazard word and its hold are left
pub guards_stable : (z : LaneSizes) (a b : World) (d : ℕ) (h : Hold) → b.memory.ann_hazard d ≡ a.memory.ann_hazard d → b.ghost.held d ≡ a.ghost.held d → ((x : ℕ) → Installed a x → Installed b x)
    → Guards z a.memory a.ghost d h → Guards z b.memory b.ghost d h
guards_stable z a b d h hazard held on x = record { word = hazard ∙ x.word; holds = held ∙ x.holds; installed = λ y e. on y (x.installed y (sym held ∙ e)); known = λ y e. x.known y (sym held ∙ e) }

pub guards_row_stable : (z : LaneSizes) (a b : World) (d : ℕ) (h : Hold) → RowRely a b → b.memory.node_hazard d ≡ a.memory.node_hazard d → b.ghost.row_held d ≡ a.ghost.row_held d
    → GuardsRow z a.memory a.ghost d h → GuardsRow z b.memory b.ghost d h
guards_row_stable z a b d h g hazard held x = record {
  word = hazard ∙ x.word;
  holds = held ∙ x.holds;
  placed = λ r e none. let was = sym held ∙ e in x.placed r was (by r was none (a.ghost.spot r) refl);
  known = λ r e. x.known r (sym held ∙ e);
} where
  by : (r : ℕ) → a.ghost.row_held d ≡ Some r → b.ghost.spot r ≡ None → (o : Option ℕ) → a.ghost.spot r ≡ o → a.ghost.spot r ≡ None
  by r holds none None at = at
  by r holds none (Some i) at = ⊎_elim (λ (y : b.ghost.spot r ≡ Some i). absurd (some_none (sym y ∙ none))) (λ (y : LetGo a b r i). absurd (y.unheld d holds)) (g.spots r i at)

-- what a step leaves of a caller d that isn't its own
pub record Apart (z : LaneSizes) (a b : World) (d : ℕ) : Type 0 where
  pub linearized : b.ghost.linearized d ≡ a.ghost.linearized d
  pub made : mine b.history d ≡ mine a.history d
  pub drafts : Drafts z a b d
  pub hazard : b.memory.ann_hazard d ≡ a.memory.ann_hazard d
  pub held : b.ghost.held d ≡ a.ghost.held d
  pub row_hazard : b.memory.node_hazard d ≡ a.memory.node_hazard d
  pub row_held : b.ghost.row_held d ≡ a.ghost.row_held d
  pub debts : NoDebts a b d

pub caller_stable : (z : LaneSizes) (Touch : ℕ → Type 0) (a b : World) → Rely z Touch a b → (d : ℕ) (k : Caller) → ((r : ℕ) → z.home r ≡ d → ¬ (Touch r)) → Apart z a b d → OfCaller z a d k → OfCaller z b d k
caller_stable z Touch a b g d k off o old = record {
  guards = guards_stable z a b d k.hold o.hazard o.held g.anns.installed old.guards;
  own_groups = o.made ∙ (old.own_groups ∙ ap (λ (b : Bool). k.mine ++ cond b (own_group d k ∷ []) []) (sym o.linearized));
  guards_row = guards_row_stable z a b d k.row_hold g.rows o.row_hazard o.row_held old.guards_row;
  allowed = old.allowed;
  knows = knows_stable z Touch a b g d off o.linearized o.drafts o.debts o.hazard o.held o.row_hazard o.row_held k old.knows;
}
