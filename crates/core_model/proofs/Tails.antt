-- The tail moves by one over a Single link.
use Rattle.std.proofs.Common.{◌≡◌, inr, ⊎_elim, ◌*◌, ℕ, suc, ◌+◌, ◌≤◌, Bool, true, false, cond, [], sym, refl, ap, ◌∙◌, arith, le_refl, inl}
use Rattle.std.proofs.lemmas.List.{append-nil}
use Rattle.word_rows.specs.declared.place.Place.{Place}
use Rattle.word_rows.specs.declared.location.Location.TheVariants.{Tail}
use Rattle.word_rows.specs.declared.content.Content.TheVariants.{OfTail}
use Rattle.lane_steps.specs.Functions.{put}
use Rattle.lane_steps.specs.LaneSizes.{LaneSizes}
use Rattle.lane_steps.specs.State.{Memory, Caller, State, write}
use Rattle.lane_steps.specs.Act.{same_place, behind}
use Rattle.lane_steps.specs.Fact.{next_is, by_single}
use Rattle.core_model.specs.Facts.{Holds}
use Rattle.core_model.specs.Ghost.{decided, Ghost, World}
use Rattle.core_model.specs.Lawful.{Lawful}
use Rattle.core_model.proofs.Rely.{world, anns_same, rows_same, Rely}
use Rattle.core_model.proofs.Callers.{caller_stable}
use Rattle.core_model.proofs.Preserves.{changed, drafts_same, debts_same}
use Rattle.core_model.proofs.StoredAgain.{same_places}
use Rattle.core_model.proofs.Announces.{stages_moved}
use mathlib.Core.Logic.{dite}
use native.Mathlib.Decide.{dec_le}

module _ (z : LaneSizes) (s : State) (L : Lawful z s) (c : ℕ) where
  abbrev G : Ghost
  G = L.ghost

  -- the tail alone moves
  pub advances : (p : Place) (n : ℕ) → Holds z (world s L.ghost) c (next_is p n) → Holds z (world s L.ghost) c (by_single p) → s.memory.tail ≡ p
      → Lawful z record { memory = record s.memory { tail = behind p n }; history = s.history; callers = s.callers }
  advances p n next single is = record {
    ghost = G';
    sizes = L.sizes;
    marks = L.marks;
    history = L.history;
    queue = L.queue;
    owners = L.owners;
    list = record {
      rows = L.list.rows;
      item_rows = L.list.item_rows;
      head = L.list.head;
      tail = let inside = (next.there G.tail count).0 in let from = L.list.tail.after_head in let lags = L.list.tail.lags (omega arith) (single G.tail count).1 in let here = count in record {
        named = λ i. record { row = sym (next.there G.tail count).1 i; count = (let y : p.count + 1 ≡ z.first + suc G.tail = omega arith in y) i };
        after_head = omega arith;
        within = omega arith;
        lags = λ below _. absurd (omega arith);
      };
      counts = L.list.counts;
      links = L.list.links;
    };
    announced = stages_moved z.first (z.callers * z.callers) G.stage G.ann s.memory.notice s.memory.old_tail G.span G.path G.path G.chained G.chained G.cause G.head G.head (G.head + G.rest) (G.head + G.rest) G.shown G.shown G.tail (suc G.tail)
        (le_refl _) (le_refl _) (omega arith) (λ _ _. refl) (λ _ _. refl) (omega arith) (λ _ _. (refl, refl))
        (λ a i e f. ⊎_elim (λ (here : G.tail ≡ i). let none = not_here a i f here in inr (omega arith)) (λ (past : i + G.span a ≤ G.tail). inr (omega arith)) (L.announced.standing a i e f).tails)
        (λ a i f none. let reached = (L.announced.bound a i f).reached in let before = (L.announced.unrecorded a i f none).1 in let some = (L.announced.unrecorded a i f none).2 in let unlinked = not_here a i f (omega arith) in absurd (omega arith))
        (λ below _. let inside = (next.there G.tail count).0 in let last = L.list.tail.lags (omega arith) (single G.tail count).1 in absurd (omega arith)) L.announced;
    told = L.told;
    pending = L.pending;
    callers = λ d. caller_stable z (λ _. ⊥) (world s G) W rely d (s.callers d) (λ _ _ x. x) (record { linearized = refl; made = refl; drafts = drafts_same z (world s G) W refl refl refl d; hazard = refl; held = refl; row_hazard = refl; row_held = refl; debts = debts_same (world s G) W refl refl refl refl refl d }) (L.callers d);
  } where
    count : p.count ≡ z.first + G.tail
    count = ap (λ (q : Place). q.count) (sym is ∙ L.list.tail.named)

    -- no rows of an announcement are linked by a Single link
    not_here : (a i : ℕ) → G.stage a ≡ decided i → G.tail ≡ i → G.span a ≤ 0
    not_here a i f here = dite (dec_le (G.span a) 0) (λ none. none) (λ some. absurd (differ (sym ((L.announced.bound a i f).by_chain (omega arith)) ∙ (ap G.chained (sym here) ∙ (single G.tail count).1)))) where
      differ : true ≡ false → ⊥
      differ e = cc e

    G' : Ghost
    G' = record G { tail = suc G.tail }

    W : World
    W = record { memory = record s.memory { tail = behind p n }; history = s.history; ghost = G' }

    rely : Rely z (λ _. ⊥) (world s G) W
    rely = record {
      longer = le_refl _;
      heads = le_refl _;
      tails = omega arith;
      path_same = λ _ _. refl;
      chained_same = λ _ _. refl;
      spot_own = λ _ u _. u;
      rows = rows_same (world s G) W (λ _ _ at. at) refl;
      on_same = λ i r on _. (on.link, refl);
      link_own = λ _ _ _. refl;
      value_own = λ _ _ _. refl;
      mark_own = λ _ _ _. refl;
      value_path = λ _ _ _. refl;
      anns = anns_same z (world s G) W refl refl refl refl refl refl refl;
      holds = λ _ _ e. inl e;
      more = ([], sym (append-nil s.history));
    }

  abbrev pub with_memory : Memory → State
  with_memory memory = record { memory = memory; history = s.history; callers = s.callers }

  -- an exchange of the tail, whatever it found, after which the caller goes on as k
  pub exchanges : (p : Place) (n : ℕ) (k : Caller) → Holds z (world s L.ghost) c (next_is p n) → Holds z (world s L.ghost) c (by_single p)
      → ((memory : Memory) → Lawful z (with_memory memory) → Lawful z record { memory = memory; history = s.history; callers = put s.callers c k })
      → (b : Bool) → same_place s.memory.tail p ≡ b
      → Lawful z (changed s c (write s.memory Tail (cond b (OfTail (behind p n)) (OfTail s.memory.tail))) s.history k)
  exchanges p n k next single goes true is = goes (record s.memory { tail = behind p n }) (advances p n next single (same_places s.memory.tail p is))
  exchanges p n k next single goes false is = goes s.memory L
