-- What a caller knows of its own stays true while others go on.
use Rattle.std.proofs.Common.{◌≡◌, ◌⊎◌, ℕ, suc, ◌+◌, ◌-◌, ◌<◌, ◌≤◌, nat_lt, true, false, List, [], ◌∷◌, sym, ap, ◌∙◌, subst, arith, ⊎_elim, Option, Some, None, refl, inl, inr}
use Rattle.bq_model.specs.declared.group.Group.{Group}
use Rattle.word_rows.specs.declared.marks.Marks.{Marks}
use Rattle.word_rows.specs.declared.place.Place.{Place}
use Rattle.lane_steps.specs.declared.point.Notice.{Notice}
use Rattle.lane_steps.specs.declared.point.Point.{Point}
use Rattle.lane_steps.specs.Functions.{upto}
use Rattle.lane_steps.specs.LaneSizes.{LaneSizes}
use Rattle.lane_steps.specs.Stopper.{linked_rows, passes}
use Rattle.excess_count.specs.Counts.{successes_of}
use Rattle.lane_steps.specs.Batches.{owner_of}
use Rattle.lane_steps.specs.State.{Caller}
use Rattle.lane_steps.specs.Step.{rows_left}
use Rattle.lane_steps.specs.Fact.{Fact, seeks, free_row, takes_row, owns, holds_item, apart_from, retires_these, row_hazard_is, owes_rows, passes_first, own_rows, loose_row, lets_go, goes_first, holds_nothing, is_caller, may_lack, whole, plans, out_of_head, linked, head_seen, tail_seen, tail_past, next_is, by_single, next_value, linearized_is, is_op, answered, since, kept, rests, drafts, fills, enqueues, goes_on, written, head_written, reads, stands_at, before_end, is_old_tail, old_tail_is, tail_over, gets_so_many, walks, takes_effect, has_read, is_reading, only_dequeues, has_walked, is_walking, to_walk, too_few, enough, has_links, helps, is_other, hazard_is, is_spare, spares, scanned}
use Rattle.core_model.specs.Facts.{Holds, Each, call_knows, knows, AtPoint, Knows, Effect}
use Rattle.core_model.specs.Chosen.{AllAgree, stored_before}
use Rattle.core_model.specs.Rows.{Takes, Debts, OwnRows, Loose}
use Rattle.core_model.specs.Ghost.{unused, waiting, decided, World, positions, RetiredBy, Installed}
use Rattle.core_model.proofs.Rely.{Rely, Drafts, NoDebts, unused_waits, one_some, some_none}
use Rattle.core_model.proofs.RowsStable.{unlinked_stable, taken_stable, fills_stable, takes_stable, debts_stable, loose_row_stable, own_rows_stable, loose_stable, retires_stable}
use Rattle.core_model.proofs.Stable.{shared_stable, linearized_stable, notice_stable}

module _ (z : LaneSizes) (Touch : ℕ → Type 0) (a b : World) (g : Rely z Touch a b) (c : ℕ) where
  module _ (apart : (r : ℕ) → z.home r ≡ c → ¬ (Touch r)) (linearized : b.ghost.linearized c ≡ a.ghost.linearized c) (own_drafts : Drafts z a b c) (debts : NoDebts a b c) where
    -- an own announcement in HEAD stood there before
    stood_there : (x : ℕ) → b.ghost.ann ≡ Some x → owner_of z x ≡ c → a.ghost.ann ≡ Some x
    stood_there x e own = ⊎_elim (λ (old : (a.ghost.ann ≡ Some x) × (b.ghost.head ≡ a.ghost.head) × ((i : ℕ) → a.ghost.stage x ≡ decided i → b.ghost.shown ≡ a.ghost.shown)). old.0)
        (λ (new : (a.ghost.stage x ≡ unused) × (b.ghost.stage x ≡ waiting)). absurd (unused_waits (own_drafts x own new.0).0 new.1)) (g.anns.stood x e)

    -- an own announcement is not decided by a step that leaves the caller's `linearized`
    was : (x i : ℕ) → Installed a x → owner_of z x ≡ c → b.ghost.stage x ≡ decided i → a.ghost.stage x ≡ decided i
    was x i inst own e = ⊎_elim (λ (old : a.ghost.stage x ≡ decided i). old)
        (λ (new : ((positions a.ghost < positions b.ghost) ⊎ (b.ghost.span x ≡ 0)) × (a.ghost.linearized (owner_of z x) ≡ false) × (b.ghost.linearized (owner_of z x) ≡ true)).
        absurd (differ (sym (subst (λ (o : ℕ). b.ghost.linearized o ≡ true) own new.2) ∙ (linearized ∙ subst (λ (o : ℕ). a.ghost.linearized o ≡ false) own new.1)))) (g.anns.decides x i inst e) where
          differ : true ≡ false → ⊥
          differ e = cc e

    -- these facts speak of what the caller itself holds and names
    abbrev pub Guarding : Fact → Type 0
    Guarding (reads n h) = b.ghost.held c ≡ a.ghost.held c
    Guarding (hazard_is x) = b.memory.ann_hazard c ≡ a.memory.ann_hazard c
    Guarding (linked p) = b.ghost.row_held c ≡ a.ghost.row_held c
    Guarding (row_hazard_is r) = b.memory.node_hazard c ≡ a.memory.node_hazard c
    Guarding _ = Unit {0}

    -- nobody comes to hold what isn't in HEAD
    spare_stable : (y : ℕ) → Holds z a c (is_spare y) → Holds z b c (is_spare y)
    spare_stable y x = record {
      owner = x.owner;
      apart = λ w e same. x.apart w (stood_there w e (ap (owner_of z) same ∙ x.owner)) same;
      unheld = λ d held. ⊎_elim (λ (old : a.ghost.held d ≡ Some y). x.unheld d old) (λ (at : a.ghost.ann ≡ Some y). x.apart y at refl) (g.holds d y held);
    }

    spares_stable : (y : Option ℕ) → Holds z a c (spares y) → Holds z b c (spares y)
    spares_stable None x = tt
    spares_stable (Some y) x = spare_stable y x

    -- an own batch that stands in the history goes on to do so, with what it has to mark
    effect_stable : (y i n : ℕ) (own : Group) (rows : List ℕ) → a.ghost.stage y ≡ decided i → Effect z a c y i n own rows → Effect z b c y i n own rows
    unfolding linearized_stable
    effect_stable y i n own rows old x = let R = x.batch in let notice : b.memory.notice y ≡ a.memory.notice y = notice_stable z Touch a b g c y i old in record {
      stands = linearized ∙ x.stands;
      batch = linearized_stable z Touch a b g c debts.near y i n own old R;
      taken = subst (λ (s : Notice). Takes z b c (rows_left (nat_lt 0 (linked_rows s.counts (i - R.dummy))) rows)) (sym notice) (takes_stable z Touch a b g c apart (rows_left (nat_lt 0 (linked_rows (a.memory.notice y).counts (i - R.dummy))) rows) x.taken);
      loose = subst (λ (s : Notice). OwnRows z b c (rows_left (nat_lt 0 (linked_rows s.counts (i - R.dummy))) rows)) (sym notice) (own_rows_stable z Touch a b g c apart (rows_left (nat_lt 0 (linked_rows (a.memory.notice y).counts (i - R.dummy))) rows) x.loose);
      debts = subst (λ (s : Notice). Debts z b c (upto (z.first + R.dummy) (passes s.counts (i - R.dummy))) (upto (z.first + suc R.dummy) (successes_of s.counts (i - R.dummy)))) (sym notice)
          (debts_stable z Touch a b g c debts (upto (z.first + R.dummy) (passes (a.memory.notice y).counts (i - R.dummy))) (upto (z.first + suc R.dummy) (successes_of (a.memory.notice y).counts (i - R.dummy))) x.debts);
    }

    pub stable_while : (f : Fact) → Guarding f → Holds z a c f → Holds z b c f
    stable_while (free_row d r) _ x = (unlinked_stable z Touch a b g c d r (apart r x.0.at_home) x.0, ap (λ (m : Marks). m.free) (g.mark_own r x.0.unlinked (apart r x.0.at_home)) ∙ x.1)
    stable_while (takes_row d r) _ x = taken_stable z Touch a b g c d r (apart r x.free.at_home) x
    stable_while (owns d r) _ x = (taken_stable z Touch a b g c d r (apart r x.0.free.at_home) x.0, g.link_own r x.0.free.unlinked (apart r x.0.free.at_home) ∙ x.1)
    stable_while (holds_item i) _ x = (taken_stable z Touch a b g c false i.row (apart i.row x.0.free.at_home) x.0, g.value_own i.row x.0.free.unlinked (apart i.row x.0.free.at_home) ∙ x.1)
    stable_while (retires_these rows) _ x = retires_stable z Touch a b g c debts.near (λ r l. ⊎_elim (λ (y : Loose z a c r). apart r y.at_home) (λ (y : Loose z b c r). apart r y.at_home) l) rows x
    stable_while (own_rows rows) _ x = own_rows_stable z Touch a b g c apart rows x
    stable_while (loose_row r) _ x = loose_row_stable z Touch a b g c r (apart r x.at_home) x
    stable_while (lets_go d rows named) _ x = λ e r below there not. let y = x e r below there not in (
      ⊎_elim (λ (t : (i : ℕ) × RetiredBy a c r i). inl (t.0, debts.near.retired r t.0 t.1)) (λ (t : Loose z a c r). inr (loose_stable z Touch a b g c r (apart r t.at_home) t)) y.0,
      λ holds. ⊎_elim y.1 (λ (new : (i : ℕ) × (a.ghost.spot r ≡ Some i) × (a.ghost.head ≤ i)). ⊎_elim
          (λ (t : (i : ℕ) × RetiredBy a c r i). let same = one_some (sym t.1.spot ∙ new.1) in let before = t.1.before in let from = new.2 in absurd (omega arith))
          (λ (t : Loose z a c r). absurd (some_none (sym new.1 ∙ t.unlinked))) y.0) (g.rows.held_new e r holds),
    )
    stable_while out_of_head _ x = λ y e own. x y (stood_there y e own) own
    stable_while (linearized_is d rows ps rs) _ x = (
      linearized ∙ x.0,
      (λ y e own. x.1 y (stood_there y e own) own),
      (λ off y held. ⊎_elim (λ (old : a.ghost.held c ≡ Some y). x.2 off y old) (λ (at : a.ghost.ann ≡ Some y). x.1 y at) (g.holds c y held)),
      takes_stable z Touch a b g c apart rows x.3,
      debts_stable z Touch a b g c debts ps rs x.4,
    )
    stable_while (fills rows ops j) _ x = fills_stable z Touch a b g c apart rows ops j x
    stable_while (written d f) _ x = let w = own_drafts d.ann x.owner x.fresh in record {
      fresh = w.0;
      owner = x.owner;
      fields = subst (λ (y : Option Place × Notice). AllAgree (stored_before f) y.0 y.1 d.notice) (λ i. (sym w.2 i, sym w.1 i)) x.fields;
    }
    stable_while (head_written d) _ x = let w = own_drafts d.ann x.owner x.fresh in record { fresh = w.0; owner = x.owner; old_head = ap (λ (s : Notice). s.old_head) w.1 ∙ x.old_head }
    stable_while (takes_effect y rows n own) _ x = record {
      installed = g.anns.installed y x.installed;
      owner = x.owner;
      stands = λ i e. let old = was y i x.installed x.owner e in effect_stable y i n own rows old (x.stands i old);
      takes = λ e. let r = x.takes (g.anns.waited y e x.installed) in (takes_stable z Touch a b g c apart rows r.0, debts_stable z Touch a b g c debts [] [] r.1, r.2);
      only = λ w e o. x.only w (stood_there w e o) o;
    }
    stable_while (head_seen p) _ x = shared_stable z Touch a b g c (head_seen p) tt x
    stable_while (tail_seen p) _ x = shared_stable z Touch a b g c (tail_seen p) tt x
    stable_while (tail_past p) _ x = shared_stable z Touch a b g c (tail_past p) tt x
    stable_while (next_is p n) _ x = shared_stable z Touch a b g c (next_is p n) tt x
    stable_while (by_single p) _ x = shared_stable z Touch a b g c (by_single p) tt x
    stable_while (next_value p v) _ x = shared_stable z Touch a b g c (next_value p v) tt x
    stable_while (is_op ops rows op) _ x = x
    stable_while (answered n own xs) _ x = shared_stable z Touch a b g c (answered n own xs) tt x
    stable_while (since n) _ x = shared_stable z Touch a b g c (since n) tt x
    stable_while (kept k) _ x = shared_stable z Touch a b g c (kept k) tt x
    stable_while (rests k) _ x = x
    stable_while (drafts k d) _ x = x
    stable_while (enqueues ops s i v) _ x = x
    stable_while (goes_on s i r n) _ x = x
    stable_while (only_dequeues d) _ x = x
    stable_while (has_walked p vs ws r) _ x = shared_stable z Touch a b g c (has_walked p vs ws r) tt x
    stable_while (is_walking p vs ws r) _ x = shared_stable z Touch a b g c (is_walking p vs ws r) tt x
    stable_while (to_walk d vs l) _ x = x
    stable_while (too_few h p) _ x = x
    stable_while (enough h p) _ x = x
    stable_while (has_links h q) _ x = x
    stable_while (reads n h) same x = shared_stable z Touch a b g c (reads n h) same x
    stable_while (linked p) same x = shared_stable z Touch a b g c (linked p) same x
    stable_while (row_hazard_is r) same x = same ∙ x
    stable_while (seeks d r l) _ x = x
    stable_while (apart_from r rows) _ x = x
    stable_while (goes_first rows named r) _ x = x
    stable_while (passes_first passed stopped rows) _ x = x
    stable_while (holds_nothing h r) _ x = x
    stable_while (is_caller d) _ x = x
    stable_while (may_lack ops) _ x = x
    stable_while (whole d rows) _ x = x
    stable_while (plans d rows) _ x = x
    stable_while (owes_rows q read stopped rows) _ x = shared_stable z Touch a b g c (owes_rows q read stopped rows) debts.near x
    stable_while (helps h) _ x = shared_stable z Touch a b g c (helps h) tt x
    stable_while (hazard_is y) same x = same ∙ x
    stable_while (is_spare y) _ x = spare_stable y x
    stable_while (spares y) _ x = spares_stable y x
    stable_while (scanned e xs) _ x = record {
      few = x.few;
      fewer = x.fewer;
      plain = λ y at own. x.plain y (stood_there y at own) own;
      unheld = λ d y below other own off held. ⊎_elim (λ (old : a.ghost.held d ≡ Some y). x.unheld d y below other own off old) (λ (at : a.ghost.ann ≡ Some y). x.plain y at own) (g.holds d y held);
    }
    stable_while (is_other e) _ x = x
    stable_while (stands_at y p) _ x = shared_stable z Touch a b g c (stands_at y p) tt x
    stable_while (before_end y p) _ x = shared_stable z Touch a b g c (before_end y p) tt x
    stable_while (is_old_tail y p) _ x = shared_stable z Touch a b g c (is_old_tail y p) tt x
    stable_while (old_tail_is y q) _ x = shared_stable z Touch a b g c (old_tail_is y q) tt x
    stable_while (tail_over y) _ x = shared_stable z Touch a b g c (tail_over y) tt x
    stable_while (gets_so_many h m) _ x = shared_stable z Touch a b g c (gets_so_many h m) tt x
    stable_while (walks y r l) _ x = shared_stable z Touch a b g c (walks y r l) tt x
    stable_while (has_read n own d vs ws l r) _ x = shared_stable z Touch a b g c (has_read n own d vs ws l r) debts.near x
    stable_while (is_reading n own d vs ws l r) _ x = shared_stable z Touch a b g c (is_reading n own d vs ws l r) debts.near x

    -- a caller that changes its own hold knows these as before, where they don't speak of it
    abbrev pub AllGuarding : List Fact → Type 0
    AllGuarding [] = Unit {0}
    AllGuarding (f ∷ fs) = Guarding f × AllGuarding fs

    pub all_while : (fs : List Fact) → AllGuarding fs → Each z a c fs → Each z b c fs
    all_while [] _ x = tt
    all_while (f ∷ fs) g x = (stable_while f g.0 x.0, all_while fs g.1 x.1)

    -- what the caller itself names and holds is left
    module _ (hazard : b.memory.ann_hazard c ≡ a.memory.ann_hazard c) (held : b.ghost.held c ≡ a.ghost.held c) (row_hazard : b.memory.node_hazard c ≡ a.memory.node_hazard c) (row_held : b.ghost.row_held c ≡ a.ghost.row_held c) where
      stable : (f : Fact) → Holds z a c f → Holds z b c f
      stable f x = stable_while f (guards f) x where
        guards : (f : Fact) → Guarding f
        guards (reads n h) = held
        guards (hazard_is y) = hazard
        guards (linked p) = row_held
        guards (row_hazard_is r) = row_hazard
        guards _ = tt

      pub all_stable : (fs : List Fact) → Each z a c fs → Each z b c fs
      all_stable [] x = tt
      all_stable (f ∷ fs) x = (stable f x.0, all_stable fs x.1)

      pub at_point_stable : (k : Caller) (t : Point) → AtPoint z a c k t → AtPoint z b c k t
      at_point_stable k t f = record { call = all_stable (call_knows c k t) f.call; here = all_stable (knows z c k t) f.here }

      -- what a caller knows goes on to be so
      pub knows_stable : (k : Caller) → Knows z a c k → Knows z b c k
      knows_stable k f = record { retired = stable (retires_these k.retired) f.retired; started = stable (since k.started_at) f.started; last = stable (kept k) f.last; at_point = at_point_stable k k.point f.at_point }
