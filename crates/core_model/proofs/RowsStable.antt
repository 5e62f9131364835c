-- Rows of the list that are held, or have marks to set, or are retired, stay so while the lane goes on.
use Rattle.std.proofs.Common.{◌≡◌, ◌⊎◌, ℕ, suc, ◌+◌, ◌<◌, Bool, false, List, length, get_or, sym, refl, ap, ◌∙◌, subst, arith, ⊎_elim, Option, Some, None, inl, inr}
use Rattle.word_rows.specs.declared.marks.Marks.{Marks}
use Rattle.word_rows.specs.declared.place.Place.{Place}
use Rattle.bq_model.specs.declared.op.Op.{Op}
use Rattle.lane_steps.specs.LaneSizes.{LaneSizes}
use Rattle.core_model.specs.Facts.{Linked}
use Rattle.core_model.specs.Rows.{IsUnlinked, IsTaken, Fills, Takes, Debts, IsLoose, OwnRows, Loose, RetiresThese, OwesRows}
use Rattle.core_model.specs.Ghost.{owes, paid, World, Unlinked, On, Owed, RetiredBy}
use Rattle.core_model.proofs.Puts.{run_same}
use Rattle.core_model.proofs.Rely.{Rely, LetGo, Near, NoDebts, true_false, some_none}

module _ (z : LaneSizes) (Touch : ℕ → Type 0) (a b : World) (g : Rely z Touch a b) (c : ℕ) where
  pub on_stable : (i r : ℕ) → On a i r → b.ghost.spot r ≡ Some i → On b i r
  on_stable i r on there = let inside = on.inside in let longer = g.longer in record { inside = omega arith; spot = there; row = g.path_same i on.inside ∙ on.row; link = (g.on_same i r on there).0 }

  -- a held row keeps its position, and so does one with a mark to set
  pub held_there : (r i : ℕ) → a.ghost.row_held c ≡ Some r → a.ghost.spot r ≡ Some i → b.ghost.spot r ≡ Some i
  held_there r i holds at = ⊎_elim (λ (x : b.ghost.spot r ≡ Some i). x) (λ (x : LetGo a b r i). absurd (x.unheld c holds)) (g.rows.spots r i at)

  pub owed_there : (r i : ℕ) → Owed a c i → a.ghost.spot r ≡ Some i → b.ghost.spot r ≡ Some i
  owed_there r i owe at = ⊎_elim (λ (x : b.ghost.spot r ≡ Some i). x)
      (λ (x : LetGo a b r i). absurd (⊎_elim (λ (y : a.ghost.reader i ≡ owes c). never (sym y ∙ x.was_read)) (λ (y : a.ghost.passer i ≡ owes c). never (sym y ∙ x.was_passed)) owe)) (g.rows.spots r i at) where
        never : owes c ≡ paid → ⊥
        never e = cc e

  pub owed_stable : Near a b c → (i : ℕ) → Owed a c i → Owed b c i
  owed_stable near i owe = ⊎_elim (λ (x : a.ghost.reader i ≡ owes c). inl (near.reads i x)) (λ (x : a.ghost.passer i ≡ owes c). inr (near.passes i x)) owe

  pub linked_stable : (p : Place) → b.ghost.row_held c ≡ a.ghost.row_held c → Linked z a c p → Linked z b c p
  linked_stable p same x = record {
    position = x.position;
    count = x.count;
    on = on_stable x.position p.row x.on (held_there p.row x.position x.kept x.on.spot);
    inside = x.inside;
    kept = same ∙ x.kept;
  }

  -- an unlinked row that isn't touched was unlinked, where it isn't free
  was_unlinked : (r : ℕ) → Unlinked b r → (b.memory.mark r).free ≡ false → Unlinked a r
  was_unlinked r none taken = by (a.ghost.spot r) refl where
    by : (o : Option ℕ) → a.ghost.spot r ≡ o → Unlinked a r
    by None at = at
    by (Some i) at = ⊎_elim (λ (y : b.ghost.spot r ≡ Some i). absurd (some_none (sym y ∙ none))) (λ (y : LetGo a b r i). absurd (true_false (sym y.free ∙ taken))) (g.rows.spots r i at)

  pub unlinked_stable : (stops : Bool) (r : ℕ) → ¬ (Touch r) → IsUnlinked z c a.ghost.spot stops r → IsUnlinked z c b.ghost.spot stops r
  unlinked_stable stops r off o = record { at_home = o.at_home; inside = o.inside; of_kind = o.of_kind; unlinked = g.spot_own r o.unlinked off }

  pub taken_stable : (stops : Bool) (r : ℕ) → ¬ (Touch r) → IsTaken z c a.ghost.spot a.memory.mark stops r → IsTaken z c b.ghost.spot b.memory.mark stops r
  taken_stable stops r off o = record { free = unlinked_stable stops r off o.free; marks = g.mark_own r o.free.unlinked off ∙ o.marks }

  pub fills_stable : ((r : ℕ) → z.home r ≡ c → ¬ (Touch r)) → (rows : List ℕ) (ops : List Op) (j : ℕ) → Fills z c a.ghost.spot a.memory.value a.memory.link a.memory.mark rows ops j
      → Fills z c b.ghost.spot b.memory.value b.memory.link b.memory.mark rows ops j
  fills_stable apart rows ops j x = let off = λ (l : ℕ) (below : l < length rows). apart (get_or rows l 0) (x.taken l below).free.at_home in record {
    taken = λ l below. taken_stable _ (get_or rows l 0) (off l below) (x.taken l below);
    distinct = x.distinct;
    values = λ l below more. g.value_own (get_or rows l 0) (x.taken l below).free.unlinked (off l below) ∙ x.values l below more;
    joined = λ l below more. g.link_own (get_or rows l 0) (x.taken l below).free.unlinked (off l below) ∙ x.joined l below more;
    nil = λ l below more. g.link_own (get_or rows l 0) (x.taken l below).free.unlinked (off l below) ∙ x.nil l below more;
  }

  -- the rows that the caller has taken and not linked, and the marks that it has to set
  pub takes_stable : ((r : ℕ) → z.home r ≡ c → ¬ (Touch r)) → (rows : List ℕ) → Takes z a c rows → Takes z b c rows
  takes_stable apart rows x r home none taken fresh = let at = was_unlinked r none taken in let same = g.mark_own r at (apart r home) in
      x r home at (sym (ap (λ (m : Marks). m.free) same) ∙ taken) (λ e. fresh (same ∙ e))

  pub debts_stable : NoDebts a b c → (passes unread : List ℕ) → Debts z a c passes unread → Debts z b c passes unread
  debts_stable other passes unread x = record { passes = λ i e. x.passes i (other.no_passes i e); unread = λ i e. x.unread i (other.no_reads i e) }

  pub loose_row_stable : (r : ℕ) → ¬ (Touch r) → IsLoose z a c r → IsLoose z b c r
  loose_row_stable r off o = let same = g.mark_own r o.unlinked off in record {
    at_home = o.at_home;
    inside = o.inside;
    unlinked = g.spot_own r o.unlinked off;
    kept = ap (λ (m : Marks). m.free) same ∙ o.kept;
    unmarked = λ e. o.unmarked (sym same ∙ e);
  }

  pub own_rows_stable : ((r : ℕ) → z.home r ≡ c → ¬ (Touch r)) → (rows : List ℕ) → OwnRows z a c rows → OwnRows z b c rows
  own_rows_stable apart rows x = record { each = λ r is. let o = x.each r is in loose_row_stable r (apart r o.at_home) o; distinct = x.distinct }

  -- the rows that it has retired
  pub loose_stable : (r : ℕ) → ¬ (Touch r) → Loose z a c r → Loose z b c r
  loose_stable r off l = record { at_home = l.at_home; inside = l.inside; unlinked = g.spot_own r l.unlinked off; marks = g.mark_own r l.unlinked off ∙ l.marks }

  pub loose_back : (r : ℕ) → ¬ (Touch r) → Loose z b c r → Loose z a c r
  loose_back r off l = let at = was_unlinked r l.unlinked (ap (λ (m : Marks). m.free) l.marks) in record { at_home = l.at_home; inside = l.inside; unlinked = at; marks = sym (g.mark_own r at off) ∙ l.marks }

  pub retires_stable : Near a b c → ((r : ℕ) → Loose z a c r ⊎ Loose z b c r → ¬ (Touch r)) → (rows : List ℕ) → RetiresThese z a c rows → RetiresThese z b c rows
  retires_stable near off rows x = record {
    distinct = x.distinct;
    each = λ r is. ⊎_elim (λ (y : (i : ℕ) × RetiredBy a c r i). inl (y.0, near.retired r y.0 y.1)) (λ (y : Loose z a c r). inr (loose_stable r (off r (inl y)) y)) (x.each r is);
    all = λ r is. ⊎_elim (λ (y : (i : ℕ) × RetiredBy b c r i). x.all r (inl (y.0, near.no_retired r y.0 y.1))) (λ (y : Loose z b c r). x.all r (inr (loose_back r (off r (inr y)) y))) is;
  }

  -- who is to mark rows goes on to be so
  pub owes_rows_stable : Near a b c → (q : Place) (read stopped : Bool) (rows : List ℕ) → OwesRows z a c q read stopped rows → OwesRows z b c q read stopped rows
  owes_rows_stable near q read stopped rows x = let inside = x.inside in let longer = g.longer in let heads = g.heads in record {
    position = x.position;
    count = x.count;
    row = g.path_same x.position (omega arith) ∙ x.row;
    inside = omega arith;
    behind = x.behind ∙ run_same a.ghost.path b.ghost.path (suc x.position) (length rows) (λ j from below. sym (g.path_same j (omega arith)));
    owed = λ y l. owed_stable near (x.position + y) (x.owed y l);
    spots = λ y l. subst (λ (r : ℕ). b.ghost.spot r ≡ Some (x.position + y)) (sym (g.path_same (x.position + y) (omega arith))) (owed_there (a.ghost.path (x.position + y)) (x.position + y) (x.owed y l) (x.spots y l));
    first_read = λ is. near.reads x.position (x.first_read is);
    reads = λ y some l. near.reads (x.position + y) (x.reads y some l);
    passes = λ y l. let p = x.passes y l in let early = p.1 in (near.passes (x.position + y) p.0, omega arith);
  }
