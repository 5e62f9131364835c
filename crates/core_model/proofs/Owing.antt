-- An operation passes rows and reads the values of rows: its caller is given the marks of these to set.
use Rattle.std.proofs.Common.{◌≡◌, ◌≢◌, ◌⊎◌, ⊎_elim, ℕ, suc, ◌+◌, ◌<◌, ◌≤◌, true, false, List, [], sym, refl, ap, ◌∙◌, arith, Some}
use mathlib.Core.Logic.{dite}
use native.Mathlib.Decide.{dec_le}
use Rattle.bq_model.specs.declared.group.Group.{Group}
use Rattle.node_guard.specs.Pick.{among}
use Rattle.lane_steps.specs.Functions.{upto}
use Rattle.lane_steps.specs.LaneSizes.{LaneSizes}
use Rattle.lane_steps.specs.State.{Memory, State}
use Rattle.core_model.specs.Ghost.{Due, due, owes, paid, is_paid, Ghost, World}
use Rattle.core_model.specs.Rows.{Debts}
use Rattle.core_model.specs.Lawful.{Marked, Lawful}
use Rattle.core_model.proofs.Rely.{world, Near, NoDebts}
use Rattle.core_model.proofs.Lists.{among_upto, among_none}
use Rattle.core_model.proofs.Spans.{put_run, run_in, run_out, run_all}

-- who marks are due to
pub due_owes : {x : Due} {c : ℕ} → x ≡ due → x ≡ owes c → ⊥
due_owes {c = c} e f = never (sym e ∙ f) where
  never : due ≡ owes c → ⊥
  never e = cc e

pub due_paid : {x : Due} → x ≡ due → x ≡ paid → ⊥
due_paid e f = never (sym e ∙ f) where
  never : due ≡ paid → ⊥
  never e = cc e

pub owes_paid : {x : Due} {c : ℕ} → x ≡ owes c → x ≡ paid → ⊥
owes_paid {c = c} e f = never (sym e ∙ f) where
  never : owes c ≡ paid → ⊥
  never e = cc e

pub one_owes : {c d : ℕ} → owes c ≡ owes d → c ≡ d
one_owes e = cc e

-- PASSED of the dummy and of so many rows behind it is due to caller o, and READ of the rows behind it. A stopper behind those
-- that were read counts as read.
abbrev pub owed_passer : (ℕ → Due) → ℕ → ℕ → ℕ → ℕ → ℕ → Due
owed_passer passer head o got stops = put_run passer head (got + stops) (owes o)

abbrev pub owed_reader : (ℕ → Due) → ℕ → ℕ → ℕ → ℕ → ℕ → Due
owed_reader reader head o got stops = put_run (put_run reader (suc head) got (owes o)) (suc (head + got)) stops paid

-- Nothing is shown behind the dummy; the operation is that of caller o, reads so many values and passes as many stoppers.
module _ (z : LaneSizes) (s : State) (L : Lawful z s) (bare : L.ghost.shown ≡ 0) (o got stops : ℕ) where
  abbrev g : Ghost
  g = L.ghost

  abbrev passer' : ℕ → Due
  passer' = owed_passer L.ghost.passer L.ghost.head o got stops

  abbrev reader' : ℕ → Due
  reader' = owed_reader L.ghost.reader L.ghost.head o got stops

  reads_due : (i : ℕ) → g.head < i → g.reader i ≡ due
  reads_due i late = let none = bare in L.marks.unread i (omega arith)

  passes_due : (i : ℕ) → g.head ≤ i → g.passer i ≡ due
  passes_due i late = let none = bare in L.marks.unpassed i (omega arith)

  -- a fact of each mark, due to the caller or as it was
  each_passer : (P : ℕ → Due → Type 0) → ((i : ℕ) → L.ghost.head ≤ i → i < L.ghost.head + (got + stops) → P i (owes o)) → ((i : ℕ) → (L.ghost.head ≤ i → L.ghost.head + (got + stops) ≤ i) → P i (L.ghost.passer i)) → (i : ℕ) → P i (owed_passer L.ghost.passer L.ghost.head o got stops i)
  each_passer P owed was i = run_all g.passer g.head (got + stops) (owes o) P owed (λ i off. was i (λ above. dite (dec_le (g.head + (got + stops)) i) (λ late. late) (λ early. absurd (off above (omega arith))))) i

  each_reader : (P : ℕ → Due → Type 0) → ((i : ℕ) → L.ghost.head < i → i ≤ L.ghost.head + got → P i (owes o)) → ((i : ℕ) → L.ghost.head + got < i → i ≤ L.ghost.head + (got + stops) → P i paid)
      → ((i : ℕ) → (L.ghost.head < i → L.ghost.head + (got + stops) < i) → P i (L.ghost.reader i)) → (i : ℕ) → P i (owed_reader L.ghost.reader L.ghost.head o got stops i)
  each_reader P owed stop was i = run_all (put_run g.reader (suc g.head) got (owes o)) (suc (g.head + got)) stops paid P (λ i above below. stop i above (omega arith))
      (λ i off. run_all g.reader (suc g.head) got (owes o) (λ i y. (suc (g.head + got) ≤ i → i < suc (g.head + got) + stops → ⊥) → P i y) (λ i above below _. owed i above (omega arith))
      (λ i out off. was i (λ above. dite (dec_le (suc (g.head + (got + stops))) i) (λ late. late) (λ early. dite (dec_le (suc (g.head + got)) i) (λ beyond. absurd (off beyond (omega arith))) (λ within. absurd (out above (omega arith)))))) i off) i

  pub pass_owed : (i : ℕ) → L.ghost.head ≤ i → i < L.ghost.head + (got + stops) → owed_passer L.ghost.passer L.ghost.head o got stops i ≡ owes o
  pass_owed i above below = run_in g.passer g.head (got + stops) (owes o) i above below

  pub read_owed : (i : ℕ) → L.ghost.head < i → i ≤ L.ghost.head + got → owed_reader L.ghost.reader L.ghost.head o got stops i ≡ owes o
  read_owed i above below = run_out (put_run g.reader (suc g.head) got (owes o)) (suc (g.head + got)) stops paid i (λ late _. omega arith) ∙ run_in g.reader (suc g.head) got (owes o) i above (omega arith)

  pub stop_paid : (i : ℕ) → L.ghost.head + got < i → i ≤ L.ghost.head + (got + stops) → owed_reader L.ghost.reader L.ghost.head o got stops i ≡ paid
  stop_paid i above below = run_in (put_run g.reader (suc g.head) got (owes o)) (suc (g.head + got)) stops paid i above (omega arith)

  pub not_paid : stops ≡ 0 → (i : ℕ) → L.ghost.head < i → is_paid (owed_reader L.ghost.reader L.ghost.head o got stops i) ≡ false
  not_paid none = each_reader (λ i y. g.head < i → is_paid y ≡ false) (λ _ _ _ _. refl) (λ i late early _. absurd (omega arith)) (λ i _ late. ap is_paid (reads_due i late))

  early_passer : (i : ℕ) → i < g.head → passer' i ≡ g.passer i
  early_passer i early = run_out g.passer g.head (got + stops) (owes o) i (λ late _. omega arith)

  early_reader : (i : ℕ) → i < g.head → reader' i ≡ g.reader i
  early_reader i early = run_out (put_run g.reader (suc g.head) got (owes o)) (suc (g.head + got)) stops paid i (λ late _. omega arith) ∙ run_out g.reader (suc g.head) got (owes o) i (λ late _. omega arith)

  paid_before : (i : ℕ) → passer' i ≡ paid → i < g.head
  paid_before = each_passer (λ i y. y ≡ paid → i < g.head) (λ i _ _ e. absurd (owes_paid refl e)) (λ i _ e. L.marks.behind i e)

  -- the world after it, in which the head may have moved over these rows, and rows may have been linked
  module _ (memory : Memory) (history : List Group) (after : Ghost) (heads : L.ghost.head ≤ after.head) where
    abbrev w : World
    w = record { memory = memory; history = history; ghost = record after { reader = reader'; passer = passer'; keeper = L.ghost.keeper } }

    -- the marks of a row with a position; of one that was linked by the step none is set but that of a stopper
    pub marked_owed : after.head + after.shown ≡ L.ghost.head + (got + stops) → (0 < stops → got ≡ L.ghost.rest)
        → ((r i : ℕ) → after.spot r ≡ Some i → (L.ghost.spot r ≡ Some i)
        ⊎ ((L.ghost.head ≤ i) × ((s.memory.mark r).free ≡ false) × ((s.memory.mark r).passed ≡ false) × ((s.memory.mark r).read ≡ is_paid (owed_reader L.ghost.reader L.ghost.head o got stops i))))
        → Marked s.memory.mark after.spot (owed_reader L.ghost.reader L.ghost.head o got stops) (owed_passer L.ghost.passer L.ghost.head o got stops) after.head after.shown
    marked_owed shows last rows = let M = L.marks in record {
      kept = λ r i at. ⊎_elim (λ (old : g.spot r ≡ Some i). M.kept r i old) (λ (new : New r i). new.1) (rows r i at);
      read = λ r i at. ⊎_elim (λ (old : g.spot r ≡ Some i). let below = (L.list.rows.placed r i old).0 in
          each_reader (λ i y. g.spot r ≡ Some i → i < suc (g.head + g.rest) → (s.memory.mark r).read ≡ is_paid y) (λ i late _ old _. M.read r i old ∙ ap is_paid (reads_due i late)) (λ i late early _ below. let same = last (omega arith) in absurd (omega arith)) (λ i _ old _. M.read r i old) i old below)
          (λ (new : New r i). new.3) (rows r i at);
      passed = λ r i at. ⊎_elim (λ (old : g.spot r ≡ Some i). each_passer (λ i y. g.spot r ≡ Some i → (s.memory.mark r).passed ≡ is_paid y) (λ i late _ old. M.passed r i old ∙ ap is_paid (passes_due i late)) (λ i _ old. M.passed r i old) i old)
          (λ (new : New r i). new.2 ∙ each_passer (λ i y. g.head ≤ i → false ≡ is_paid y) (λ _ _ _ _. refl) (λ i _ late. sym (ap is_paid (passes_due i late))) i new.0) (rows r i at);
      unread = λ i late. each_reader (λ i y. g.head + (got + stops) < i → y ≡ due) (λ i _ early late. absurd (omega arith)) (λ i _ early late. absurd (omega arith)) (λ i _ late. reads_due i (omega arith)) i (omega arith);
      unpassed = λ i late. each_passer (λ i y. g.head + (got + stops) ≤ i → y ≡ due) (λ i _ early late. absurd (omega arith)) (λ i _ late. passes_due i (omega arith)) i (omega arith);
      was_read = λ i early e. each_reader (λ i y. i ≤ g.head + (got + stops) → y ≡ due → ⊥) (λ i _ _ _ e. due_owes e refl) (λ i _ _ _ e. due_paid e refl)
          (λ i out early e. let none = bare in M.was_read i (dite (dec_le (suc g.head) i) (λ late. let more = out late in absurd (omega arith)) (λ no. omega arith)) e) i (omega arith) e;
      was_passed = λ i early e. each_passer (λ i y. i < g.head + (got + stops) → y ≡ due → ⊥) (λ i _ _ _ e. due_owes e refl)
          (λ i out early e. let none = bare in M.was_passed i (dite (dec_le g.head i) (λ late. let more = out late in absurd (omega arith)) (λ no. omega arith)) e) i (omega arith) e;
      behind = λ i e. let before = paid_before i e in omega arith;
    } where
      New : ℕ → ℕ → Type 0
      New r i = (g.head ≤ i) × ((s.memory.mark r).free ≡ false) × ((s.memory.mark r).passed ≡ false) × ((s.memory.mark r).read ≡ is_paid (reader' i))

    -- all debts and retired rows stay
    pub near_owed : ((r i : ℕ) → L.ghost.spot r ≡ Some i → after.spot r ≡ Some i) → ((r i : ℕ) → after.spot r ≡ Some i → i < L.ghost.head → L.ghost.spot r ≡ Some i) → (d : ℕ)
        → Near (world s L.ghost) record { memory = memory; history = history; ghost = record after { reader = owed_reader L.ghost.reader L.ghost.head o got stops; passer = owed_passer L.ghost.passer L.ghost.head o got stops; keeper = L.ghost.keeper } } d
    near_owed there back d = record {
      reads = each_reader (λ i y. g.reader i ≡ owes d → y ≡ owes d) (λ i late _ e. absurd (due_owes (reads_due i late) e)) (λ i late _ e. absurd (due_owes (reads_due i (omega arith)) e)) (λ i _ e. e);
      passes = each_passer (λ i y. g.passer i ≡ owes d → y ≡ owes d) (λ i late _ e. absurd (due_owes (passes_due i late) e)) (λ i _ e. e);
      retired = λ r i t. let before = t.before in record { spot = there r i t.spot; before = omega arith; was_read = early_reader i before ∙ t.was_read; was_passed = early_passer i before ∙ t.was_passed; kept = t.kept };
      no_retired = λ r i t. let before = paid_before i t.was_passed in record { spot = back r i t.spot before; before = before; was_read = sym (early_reader i before) ∙ t.was_read; was_passed = sym (early_passer i before) ∙ t.was_passed; kept = t.kept };
    }

    -- and no other caller has new ones
    pub no_debts_owed : ((r i : ℕ) → L.ghost.spot r ≡ Some i → after.spot r ≡ Some i) → ((r i : ℕ) → after.spot r ≡ Some i → i < L.ghost.head → L.ghost.spot r ≡ Some i) → (d : ℕ) → d ≢ o
        → NoDebts (world s L.ghost) record { memory = memory; history = history; ghost = record after { reader = owed_reader L.ghost.reader L.ghost.head o got stops; passer = owed_passer L.ghost.passer L.ghost.head o got stops; keeper = L.ghost.keeper } } d
    no_debts_owed there back d apart = record {
      near = near_owed there back d;
      no_reads = each_reader (λ i y. y ≡ owes d → g.reader i ≡ owes d) (λ i _ _ e. absurd (apart (sym (one_owes e)))) (λ i _ _ e. absurd (owes_paid e refl)) (λ i _ e. e);
      no_passes = each_passer (λ i y. y ≡ owes d → g.passer i ≡ owes d) (λ i _ _ e. absurd (apart (sym (one_owes e)))) (λ i _ e. e);
    }

    -- the caller, which had none, has these
    pub debts_owed : Debts z (world s L.ghost) o [] []
        → Debts z record { memory = memory; history = history; ghost = record after { reader = owed_reader L.ghost.reader L.ghost.head o got stops; passer = owed_passer L.ghost.passer L.ghost.head o got stops; keeper = L.ghost.keeper } } o
        (upto (z.first + L.ghost.head) (got + stops)) (upto (z.first + suc L.ghost.head) got)
    debts_owed none = record {
      passes = each_passer (λ i y. y ≡ owes o → among (upto (z.first + g.head) (got + stops)) (z.first + i) ≡ true) (λ i late early _. among_upto (z.first + g.head) (got + stops) (z.first + i) (omega arith) (omega arith)) (λ i _ e. absurd (among_none (z.first + i) (none.passes i e)));
      unread = each_reader (λ i y. y ≡ owes o → among (upto (z.first + suc g.head) got) (z.first + i) ≡ true) (λ i late early _. among_upto (z.first + suc g.head) got (z.first + i) (omega arith) (omega arith)) (λ i _ _ e. absurd (owes_paid e refl)) (λ i _ e. absurd (among_none (z.first + i) (none.unread i e)));
    }
