-- A caller's own hazard words change, and what it holds by them. All that others know stays, and so does what it knows of its
-- own command.
use Rattle.std.proofs.Common.{◌≡◌, ◌≢◌, ◌⊎◌, inl, inr, ℕ, ◌<◌, ◌≤◌, List, [], ◌∷◌, sym, refl, subst, ◌∙◌, le_refl, Option, Some, None}
use Rattle.std.proofs.lemmas.List.{append-nil}
use mathlib.Core.Logic.{dite}
use native.Mathlib.Decide.{ℕ_discrete}
use Rattle.lane_steps.specs.declared.point.Back.{Back}
use Rattle.lane_steps.specs.declared.point.Back.TheVariants as back
use Rattle.lane_steps.specs.declared.point.Hold.{Hold}
use Rattle.lane_steps.specs.declared.point.Hold.TheVariants.{Held}
use Rattle.lane_steps.specs.declared.point.Point.{Point}
use Rattle.lane_steps.specs.Functions.{put}
use Rattle.lane_steps.specs.LaneSizes.{LaneSizes}
use Rattle.lane_steps.specs.State.{Memory, Caller, Command, State}
use Rattle.lane_steps.specs.Help.{back_facts}
use Rattle.lane_steps.specs.Fact.{Fact, retires_these}
use Rattle.lane_steps.specs.Step.{guarding, holding}
use Rattle.core_model.specs.Ghost.{Ghost, World, unused}
use Rattle.core_model.specs.Facts.{Each, AtPoint}
use Rattle.core_model.specs.Lawful.{HelpsOwn, Guards, GuardsRow, named_by, held_by, Lawful}
use Rattle.core_model.proofs.Puts.{put_here, put_else}
use Rattle.core_model.proofs.Rely.{world, one_some, some_none, anns_same, RowRely, Rely}
use Rattle.core_model.proofs.OwnStable.{all_while}
use Rattle.core_model.proofs.Preserves.{Plain, regarding, preserves, changed, drafts_same, debts_same, told_regarding, waits_regarding, kept_lists}

pub none_held : (c : ℕ) (f : ℕ → Option ℕ) (x : ℕ) → put f c None c ≡ Some x → ⊥
none_held c f x e = some_none (sym e ∙ put_here f c None)

module _ (z : LaneSizes) (s : State) (L : Lawful z s) (c : ℕ) where
  -- Other hazard words and holds, which differ at caller c alone. A hold that begins is of what stands in HEAD, or of a row of
  -- the list.
  pub record Rehold : Type 0 where
    pub hazard : ℕ → Option ℕ
    pub held : ℕ → Option ℕ
    pub row_hazard : ℕ → Option ℕ
    pub row_held : ℕ → Option ℕ
    pub hazards : (d : ℕ) → d ≢ c → hazard d ≡ s.memory.ann_hazard d
    pub holds : (d : ℕ) → d ≢ c → held d ≡ L.ghost.held d
    pub row_hazards : (d : ℕ) → d ≢ c → row_hazard d ≡ s.memory.node_hazard d
    pub row_holds : (d : ℕ) → d ≢ c → row_held d ≡ L.ghost.row_held d
    pub begins : (x : ℕ) → held c ≡ Some x → (L.ghost.held c ≡ Some x) ⊎ (L.ghost.ann ≡ Some x)
    pub row_begins : (r : ℕ) → row_held c ≡ Some r → (L.ghost.row_held c ≡ Some r) ⊎ ((i : ℕ) × (L.ghost.spot r ≡ Some i) × (L.ghost.head ≤ i))

  module _ (R : Rehold) where
    abbrev G : Ghost
    G = L.ghost

    abbrev me : Caller
    me = s.callers c

    abbrev pub rewritten : Memory
    rewritten = record s.memory { ann_hazard = R.hazard; node_hazard = R.row_hazard }

    abbrev pub reheld : World
    reheld = record { memory = record s.memory { ann_hazard = R.hazard; node_hazard = R.row_hazard }; history = s.history; ghost = record L.ghost { held = R.held; row_held = R.row_held } }

    rows_held : RowRely (world s L.ghost) reheld
    rows_held = record {
      spots = λ _ _ at. inl at;
      held_new = λ d r e. dite (ℕ_discrete d c)
          (λ same. subst (λ (y : ℕ). R.row_held y ≡ Some r → (G.row_held y ≡ Some r) ⊎ ((i : ℕ) × (G.spot r ≡ Some i) × (G.head ≤ i))) (sym same) (R.row_begins r) e)
          (λ ne. inl (sym (R.row_holds d ne) ∙ e));
    }

    pub goes_on : Rely z (λ _. ⊥) (world s L.ghost) reheld
    goes_on = record {
      longer = le_refl _;
      heads = le_refl _;
      tails = le_refl _;
      path_same = λ _ _. refl;
      chained_same = λ _ _. refl;
      spot_own = λ _ u _. u;
      rows = rows_held;
      on_same = λ i r on _. (on.link, refl);
      link_own = λ _ _ _. refl;
      value_own = λ _ _ _. refl;
      mark_own = λ _ _ _. refl;
      value_path = λ _ _ _. refl;
      anns = anns_same z (world s L.ghost) reheld refl refl refl refl refl refl refl;
      holds = λ d x e. dite (ℕ_discrete d c)
          (λ same. subst (λ (y : ℕ). R.held y ≡ Some x → (G.held y ≡ Some x) ⊎ (G.ann ≡ Some x)) (sym same) (R.begins x) e)
          (λ ne. inl (sym (R.holds d ne) ∙ e));
      more = ([], sym (append-nil s.history));
    }

    -- facts that don't speak of the caller's own holds that change
    abbrev pub Leaves : List Fact → Type 0
    Leaves fs = Rattle.core_model.proofs.OwnStable.AllGuarding z (λ _. ⊥) (world s L.ghost) reheld goes_on c (λ _ _ x. x) refl (drafts_same z (world s L.ghost) reheld refl refl refl c) (debts_same (world s L.ghost) reheld refl refl refl refl refl c) fs

    pub left : (fs : List Fact) → Leaves fs → Each z (world s L.ghost) c fs → Each z reheld c fs
    left fs off x = all_while z (λ _. ⊥) (world s L.ghost) reheld goes_on c (λ _ _ x. x) refl (drafts_same z (world s L.ghost) reheld refl refl refl c) (debts_same (world s L.ghost) reheld refl refl refl refl refl c) fs off x

    -- what a helping caller knows of its own command
    pub back_leaves : (m : Command) (a : ℕ) (b : Back) → Leaves (back_facts c m a b)
    back_leaves m a back.Own = (tt, tt)
    back_leaves m a (back.Enqueue x) = (tt, (tt, (tt, (tt, tt))))
    back_leaves m a back.Dequeue = (tt, (tt, tt))
    back_leaves m a (back.Batch d) = (tt, (tt, (tt, (tt, (tt, tt)))))
    back_leaves m a (back.Many d) = (tt, (tt, (tt, (tt, (tt, (tt, tt))))))

    -- the caller goes on, with these holds
    pub reholds : (t : Point) (h r : Hold) → Plain z L.ghost c ⊎ HelpsOwn t → Guards z rewritten reheld.ghost c h → GuardsRow z rewritten reheld.ghost c r → AtPoint z reheld c (regarding (s.callers c) t h r) t
        → Lawful z (changed s c rewritten s.history (regarding (s.callers c) t h r))
    reholds t h r plain guards guards_row knows = preserves z s L c rewritten s.history reheld.ghost (regarding me t h r) (λ _. ⊥) (λ _ x. absurd x) goes_on
        (λ d ne. record {
          linearized = refl;
          made = refl;
          drafts = drafts_same z (world s L.ghost) reheld refl refl refl d;
          hazard = R.hazards d ne;
          held = R.holds d ne;
          row_hazard = R.row_hazards d ne;
          row_held = R.row_holds d ne;
          debts = debts_same (world s L.ghost) reheld refl refl refl refl refl d;
        })
        L.marks L.history L.queue L.owners L.list L.announced
        (told_regarding z s L c rewritten reheld.ghost t h r plain L.told)
        (waits_regarding z s L c rewritten reheld.ghost t h r L.pending)
        (let o = L.callers c in let f = o.knows in record {
          guards = guards;
          guards_row = guards_row;
          own_groups = o.own_groups;
          allowed = o.allowed;
          knows = record {
            retired = (left (retires_these me.retired ∷ []) (tt, tt) (f.retired, tt)).0;
            started = f.started;
            last = kept_lists s.history c me t me.rows me.values me.walked me.retired me.named h r f.last;
            at_point = knows;
          };
        })

  -- the NODE_HAZARD is stored: the caller holds no row now
  abbrev pub row_named : Option ℕ → Rehold
  row_named x = record {
    hazard = s.memory.ann_hazard;
    held = L.ghost.held;
    row_hazard = put s.memory.node_hazard c x;
    row_held = put L.ghost.row_held c None;
    hazards = λ _ _. refl;
    holds = λ _ _. refl;
    row_hazards = put_else s.memory.node_hazard c x;
    row_holds = put_else L.ghost.row_held c None;
    begins = λ _ e. inl e;
    row_begins = λ r e. absurd (none_held c L.ghost.row_held r e);
  }

  pub row_hazard_stored : (x : Option ℕ) (h : Hold) → x ≡ named_by h → None ≡ held_by h → (t : Point) → Plain z L.ghost c ⊎ HelpsOwn t → AtPoint z (reheld (row_named x)) c (holding (s.callers c) t h) t
      → Lawful z (changed s c (record s.memory { node_hazard = put s.memory.node_hazard c x }) s.history (holding (s.callers c) t h))
  row_hazard_stored x h named lets_go t plain knows = reholds (row_named x) t (s.callers c).hold h plain (L.callers c).guards
      (record { word = put_here s.memory.node_hazard c x ∙ named; holds = put_here L.ghost.row_held c None ∙ lets_go; placed = λ r e. absurd (none_held c L.ghost.row_held r e); known = λ r e. absurd (none_held c L.ghost.row_held r e) }) knows

  -- the same of the ANN_HAZARD
  abbrev pub ann_named : Option ℕ → Rehold
  ann_named x = record {
    hazard = put s.memory.ann_hazard c x;
    held = put L.ghost.held c None;
    row_hazard = s.memory.node_hazard;
    row_held = L.ghost.row_held;
    hazards = put_else s.memory.ann_hazard c x;
    holds = put_else L.ghost.held c None;
    row_hazards = λ _ _. refl;
    row_holds = λ _ _. refl;
    begins = λ a e. absurd (none_held c L.ghost.held a e);
    row_begins = λ _ e. inl e;
  }

  pub ann_hazard_stored : (x : Option ℕ) (h : Hold) → x ≡ named_by h → None ≡ held_by h → (t : Point) → Plain z L.ghost c ⊎ HelpsOwn t → AtPoint z (reheld (ann_named x)) c (guarding (s.callers c) t h) t
      → Lawful z (changed s c (record s.memory { ann_hazard = put s.memory.ann_hazard c x }) s.history (guarding (s.callers c) t h))
  ann_hazard_stored x h named lets_go t plain knows = reholds (ann_named x) t h (s.callers c).row_hold plain
      (record { word = put_here s.memory.ann_hazard c x ∙ named; holds = put_here L.ghost.held c None ∙ lets_go; installed = λ a e. absurd (none_held c L.ghost.held a e); known = λ a e. absurd (none_held c L.ghost.held a e) })
      (L.callers c).guards_row knows

  -- a row of the list is held from now on
  abbrev pub row_taken : (r i : ℕ) → L.ghost.spot r ≡ Some i → L.ghost.head ≤ i → Rehold
  row_taken r i at from = record {
    hazard = s.memory.ann_hazard;
    held = L.ghost.held;
    row_hazard = s.memory.node_hazard;
    row_held = put L.ghost.row_held c (Some r);
    hazards = λ _ _. refl;
    holds = λ _ _. refl;
    row_hazards = λ _ _. refl;
    row_holds = put_else L.ghost.row_held c (Some r);
    begins = λ _ e. inl e;
    row_begins = λ q e. inr (i, subst (λ (y : ℕ). L.ghost.spot y ≡ Some i) (one_some (sym (put_here L.ghost.row_held c (Some r)) ∙ e)) at, from);
  }

  pub row_hold_begun : (r i : ℕ) (at : L.ghost.spot r ≡ Some i) (from : L.ghost.head ≤ i) → c < z.callers → s.memory.node_hazard c ≡ Some r → (t : Point) → Plain z L.ghost c ⊎ HelpsOwn t
      → AtPoint z (reheld (row_taken r i at from)) c (holding (s.callers c) t (Held r)) t → Lawful z (changed s c s.memory s.history (holding (s.callers c) t (Held r)))
  row_hold_begun r i at from inside word t plain knows = reholds (row_taken r i at from) t (s.callers c).hold (Held r) plain (L.callers c).guards
      (record { word = word; holds = put_here L.ghost.row_held c (Some r); placed = λ q e none. some_none (sym at ∙ subst (λ (y : ℕ). L.ghost.spot y ≡ None) (sym (one_some (sym (put_here L.ghost.row_held c (Some r)) ∙ e))) none); known = λ _ _. inside }) knows

  -- the announcement in HEAD is held from now on
  abbrev pub ann_taken : (a : ℕ) → L.ghost.ann ≡ Some a → Rehold
  ann_taken a at = record {
    hazard = s.memory.ann_hazard;
    held = put L.ghost.held c (Some a);
    row_hazard = s.memory.node_hazard;
    row_held = L.ghost.row_held;
    hazards = λ _ _. refl;
    holds = put_else L.ghost.held c (Some a);
    row_hazards = λ _ _. refl;
    row_holds = λ _ _. refl;
    begins = λ x e. inr (at ∙ (sym (put_here L.ghost.held c (Some a)) ∙ e));
    row_begins = λ _ e. inl e;
  }

  pub ann_hold_begun : (a : ℕ) (at : L.ghost.ann ≡ Some a) → c < z.callers → s.memory.ann_hazard c ≡ Some a → (t : Point) → Plain z L.ghost c ⊎ HelpsOwn t
      → AtPoint z (reheld (ann_taken a at)) c (guarding (s.callers c) t (Held a)) t → Lawful z (changed s c s.memory s.history (guarding (s.callers c) t (Held a)))
  ann_hold_begun a at inside word t plain knows = reholds (ann_taken a at) t (Held a) (s.callers c).row_hold plain
      (record { word = word; holds = put_here L.ghost.held c (Some a); installed = λ x e. subst (λ (y : ℕ). L.ghost.stage y ≢ unused) (one_some (sym (put_here L.ghost.held c (Some a)) ∙ e)) (L.announced.installed a at); known = λ _ _. inside })
      (L.callers c).guards_row knows
