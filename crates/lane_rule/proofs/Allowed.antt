-- Each step of the machine is allowed on the table: one lemma for all kinds.
use Rattle.std.proofs.Common.{◌≡◌, ◌≢◌, ℕ, zero, suc, inl, None, ◌<◌, List, [], ◌∷◌, ◌++◌, length, get_or, set, sym, refl, ap, ◌∙◌, subst, ⊎_elim, append_assoc, arith}
use Rattle.std.proofs.lemmas.List.{append-nil}
use mathlib.Core.Option.{some, some-ne-none}
use lib.ListN.{get_elem?}
use Rattle.atomic_table.specs.Table as table
use Rattle.atomic_table.specs.Table.{Me, keeps, stepped, Allows}
use Rattle.atomic_table.proofs.Lists.{at_set}
use Rattle.bq_model.specs.declared.group.Group.{Group}
use Rattle.bq_model.specs.declared.shape.Shape.{Shape}
use Rattle.word_rows.specs.declared.content.Content.{Content}
use Rattle.word_rows.specs.Layout.{index_of}
use Rattle.word_rows.specs.Contents.{coded, MayHold}
use Rattle.word_rows.specs.Memory.{Shows}
use Rattle.word_rows.proofs.MemoryLemmas.{Shows-words_after}
use Rattle.lane_steps.specs.LaneSizes.{LaneSizes, lane_sizes}
use Rattle.lane_steps.specs.declared.point.Point.{Point}
use Rattle.lane_steps.specs.State.{Caller, State, own_group, read, hazard_in}
use Rattle.lane_steps.specs.Step.{target, stored, linearizes, group_owner, added_by, history_with, after, step_at}
use Rattle.lane_steps.specs.Coded.{IsCoded}
use Rattle.core_model.specs.Few.{ListsFit}
use Rattle.core_model.specs.Lawful.{Lawful}
use Rattle.core_model.proofs.Puts.{put_here, put_else}
use Rattle.core_model.proofs.CodedSteps.{step_writes}
use Rattle.core_model.proofs.FewSteps.{lists_fit}
use Rattle.lane_room.specs.Search.{IsAbove}
use Rattle.lane_room.proofs.RoomySteps.{roomy_at, full_at}
use Rattle.lane_rule.specs.declared.view.View.{View}
use Rattle.lane_rule.specs.declared.view.Held.{Held}
use Rattle.lane_rule.specs.declared.view.Kind.{Kind}
use Rattle.lane_rule.specs.declared.view.Kind.TheVariants.{Maker, Alone, Gathered, Spent}
use Rattle.lane_rule.specs.Rule.{caller_of, kept_of, Begins, Runs, AllHeld, SitsAs, Sits, Ruled, RanksOf}
use Rattle.lane_rule.specs.Goes.{Ready, Goes, left_of}
use Rattle.lane_rule.proofs.Ready.{ready, found_at, own_is_free, grew, knows}
use Rattle.lane_steps.specs.Functions.{put}
use Rattle.lane_rank.specs.Return.{left, Ranked}
use Rattle.lane_rank.proofs.RankedSteps.{ranked_at}

module _ {A : Type 0} where
  -- a list that has an item at i takes another there
  pub set_there : (l : List A) (i : ℕ) (a b : A) → get_elem? l i ≡ some a → get_elem? (set l i b) i ≡ some b
  set_there [] i a b e = absurd (some-ne-none a (sym e))
  set_there (x ∷ xs) zero a b e = refl
  set_there (x ∷ xs) (suc i) a b e = set_there xs i a b e

-- a seat whose callers keep what they have goes on, while the history grows
held_stay : (key : Shape) (core core' : State) (seat : ℕ → ℕ) (j : ℕ) → ((d : ℕ) → seat d ≡ j → core'.callers d ≡ core.callers d) → (ks : List Held) → AllHeld key core seat j ks → AllHeld key core' seat j ks
held_stay key core core' seat j same [] a = tt
held_stay key core core' seat j same (k ∷ ks) a = (a.0, a.1, same k.caller a.1 ∙ a.2, held_stay key core core' seat j same ks a.3)

-- a view of another seat has its caller's ranks still, where caller c keeps others
pub ranks_else : (key : Shape) (core : State) (seat : ℕ → ℕ) (j c o i : ℕ) (outer inner : ℕ → ℕ) → (seat c ≡ j → ⊥) → (k : Kind) (u : View) → SitsAs key core seat j k u → RanksOf outer inner k u → RanksOf (put outer c o) (put inner c i) k u
ranks_else key core seat j c o i outer inner apart Maker u s e = tt
ranks_else key core seat j c o i outer inner apart Alone u s e = let other = λ (same : u.caller ≡ c). apart (ap seat (sym same) ∙ s.alone) in (e.0 ∙ sym (put_else outer c o u.caller other), e.1 ∙ sym (put_else inner c i u.caller other))
ranks_else key core seat j c o i outer inner apart Gathered u s e = tt
ranks_else key core seat j c o i outer inner apart Spent u s e = tt

pub longer : (seen h added : List Group) → Begins seen h → Begins seen (h ++ added)
longer seen h added b = (b.0 ++ added, ap (λ (y : List Group). y ++ added) b.1 ∙ append_assoc seen b.0 added)

pub sits_stay : (key : Shape) (core core' : State) (seat : ℕ → ℕ) (j : ℕ) (added : List Group) → ((d : ℕ) → seat d ≡ j → core'.callers d ≡ core.callers d) → core'.history ≡ core.history ++ added → (k : Kind) (u : View) → SitsAs key core seat j k u → SitsAs key core' seat j k u
sits_stay key core core' seat j added same grew Maker u s = (s.0, s.1, λ c l. let y = s.2 c l in (y.0, same c y.0 ∙ y.1))
sits_stay key core core' seat j added same grew Alone u s = record { alone = s.alone; shown = same u.caller s.alone ∙ s.shown; begins = subst (Begins u.seen) (sym grew) (longer u.seen core.history added s.begins); planned = s.planned; known = s.known }
sits_stay key core core' seat j added same grew Gathered u s = (held_stay key core core' seat j same u.gathered s.0, subst (Begins u.seen) (sym grew) (longer u.seen core.history added s.1), subst (Begins u.heard) (sym grew) (longer u.heard core.history added s.2), s.3, s.4)
sits_stay key core core' seat j added same grew Spent u s = s

module _ (key : Shape) (slots id : ℕ) (me : Me ℕ View) (alone : me.0.kind ≡ Alone) where
  abbrev z : LaneSizes
  z = lane_sizes key

  abbrev v : View
  v = me.0

  abbrev t : Point
  t = me.0.kept.point

  module _ (s : table.State ℕ View) (r : Ruled key s) (here : get_elem? s.views id ≡ some me.0) where
    abbrev x : Content
    x = read r.core.memory (target me.0.caller me.0.kept.point)

    abbrev core' : State
    core' = step_at z r.core me.0.caller me.0.kept.point

    abbrev h' : List Group
    h' = history_with z r.core me.0.caller me.0.kept.point (read r.core.memory (target me.0.caller me.0.kept.point))

    abbrev k' : Caller
    k' = after z (length h') me.0.caller (r.core.callers me.0.caller) me.0.kept.point x

    sits : Runs key r.core r.seat id me.0
    sits = subst (λ (k : Kind). SitsAs key r.core r.seat id k me.0) alone (r.each_seat id me.0 here)

    point_is : (r.core.callers me.0.caller).point ≡ me.0.kept.point
    point_is = ap (λ (k : Caller). k.point) sits.shown

    -- the ranks that the caller keeps then
    kept_ranks : (o : ℕ) × (i : ℕ) × Ranked key core' (put r.outer me.0.caller o) (put r.inner me.0.caller i) × (0 < length k'.ops → left key k' o i < left key (r.core.callers me.0.caller) (r.outer me.0.caller) (r.inner me.0.caller))
    kept_ranks = ranked_at key r.core r.outer r.inner r.ranked me.0.caller sits.known me.0.kept.point point_is

    abbrev w : View
    w = record me.0 { kept = kept_of k'; outer = kept_ranks.0; inner = kept_ranks.1; seen = h'; gathered = []; heard = [] }

    grows : h' ≡ r.core.history ++ added_by z r.core.callers me.0.caller me.0.kept.point x
    grows = grew (linearizes me.0.kept.point x) r.core.history (own_group (group_owner z me.0.caller me.0.kept.point) (r.core.callers (group_owner z me.0.caller me.0.kept.point)))

    lawful' : Lawful z core'
    lawful' = kept_ranks.2.lawful

    codable' : IsCoded key core'
    codable' = kept_ranks.2.coded

    is_ready : Ready key me.0.caller me.0.kept.point
    is_ready = subst (Ready key me.0.caller) point_is (ready key r.core r.ranked.lawful r.ranked.coded me.0.caller)

    found_word : get_or s.words (index_of key (target me.0.caller me.0.kept.point)) 0 ≡ coded x
    found_word = r.shows.each (target me.0.caller me.0.kept.point) is_ready.word

    new_words : (n : ℕ) → n ≡ coded (stored me.0.caller me.0.kept.point x) → Shows key (set s.words (index_of key (target me.0.caller me.0.kept.point)) n) (read core'.memory)
    new_words n is = subst (λ (y : ℕ). Shows key (set s.words (index_of key (target me.0.caller me.0.kept.point)) y) (read core'.memory)) (sym is)
        (Shows-words_after key s.words (read r.core.memory) (read core'.memory) (target me.0.caller me.0.kept.point) (stored me.0.caller me.0.kept.point x) r.shows is_ready.word
        (step_writes r.core.memory me.0.caller me.0.kept.point))

    here' : core'.callers me.0.caller ≡ k'
    here' = put_here r.core.callers me.0.caller k'

    seated : (j : ℕ) (u : View) → get_elem? (set s.views id w) j ≡ some u → Sits key core' r.seat j u
    seated j u e = ⊎_elim
        (λ (p : (j ≡ id) × (w ≡ u)). subst (λ (y : ℕ × View). Sits key core' r.seat y.0 y.1) (λ i. (sym p.0 i, p.1 i)) (subst (λ (k : Kind). SitsAs key core' r.seat id k w) (sym alone) record {
          alone = sits.alone;
          shown = here';
          begins = ([], sym (append-nil h'));
          planned = sits.planned;
          known = sits.known;
        }))
        (λ (p : (j ≢ id) × (get_elem? s.views j ≡ some u)). sits_stay key r.core core' r.seat j (added_by z r.core.callers me.0.caller me.0.kept.point x)
        (λ d at. put_else r.core.callers me.0.caller k' d (λ e. p.0 (sym at ∙ (ap r.seat e ∙ sits.alone)))) grows u.kind u (r.each_seat j u p.1)) (at_set s.views id j w u e)

    own_ranks : (k : Kind) → RanksOf (put r.outer me.0.caller kept_ranks.0) (put r.inner me.0.caller kept_ranks.1) k w
    own_ranks Maker = tt
    own_ranks Alone = (sym (put_here r.outer me.0.caller kept_ranks.0), sym (put_here r.inner me.0.caller kept_ranks.1))
    own_ranks Gathered = tt
    own_ranks Spent = tt

    ranks : (j : ℕ) (u : View) → get_elem? (set s.views id w) j ≡ some u → RanksOf (put r.outer me.0.caller kept_ranks.0) (put r.inner me.0.caller kept_ranks.1) u.kind u
    ranks j u e = ⊎_elim
        (λ (p : (j ≡ id) × (w ≡ u)). subst (λ (y : View). RanksOf (put r.outer me.0.caller kept_ranks.0) (put r.inner me.0.caller kept_ranks.1) y.kind y) p.1 (own_ranks me.0.kind))
        (λ (p : (j ≢ id) × (get_elem? s.views j ≡ some u)). ranks_else key r.core r.seat j me.0.caller kept_ranks.0 kept_ranks.1 r.outer r.inner (λ at. p.0 (sym at ∙ sits.alone)) u.kind u (r.each_seat j u p.1) (r.each_rank j u p.1)) (at_set s.views id j w u e)

    -- what the view kept is what the caller did
    was_left : left_of me.0 ≡ left key (r.core.callers me.0.caller) (r.outer me.0.caller) (r.inner me.0.caller)
    was_left = let e = subst (λ (k : Kind). RanksOf r.outer r.inner k me.0) alone (r.each_rank id me.0 here) in λ j. left (sits.planned j) (sym sits.shown j) (e.0 j) (e.1 j)

    less : 0 < length k'.ops → left_of w < left_of me.0
    less runs = let fewer = kept_ranks.3 runs in let was = was_left in let now : left_of w ≡ left key k' kept_ranks.0 kept_ranks.1 = λ j. left (sits.planned j) k' kept_ranks.0 kept_ranks.1 in omega arith

    steps : (n : ℕ) → n ≡ coded (stored me.0.caller me.0.kept.point x) → Ruled key (stepped s (index_of key (target me.0.caller me.0.kept.point)) n id me.1 w keeps)
    steps n is = record {
      core = core';
      outer = put r.outer me.0.caller kept_ranks.0;
      inner = put r.inner me.0.caller kept_ranks.1;
      ranked = kept_ranks.2;
      roomy = roomy_at key r.core r.roomy me.0.caller me.0.kept.point point_is;
      seat = r.seat;
      shows = new_words n is;
      each_seat = seated;
      each_rank = ranks;
      longest = (id, w, set_there s.views id me.0 w here, inl refl);
    }

    goes : Goes me.0 x w
    goes = record {
      alone = alone;
      next = subst (λ (y : Shape). k' ≡ after (lane_sizes y) (length h') me.0.caller (caller_of me.0.kept) me.0.kept.point x) (sym sits.planned) (ap (λ (k : Caller). after z (length h') me.0.caller k me.0.kept.point x) sits.shown);
      same = refl;
      shape = refl;
      later = (sits.begins.0 ++ added_by z r.core.callers me.0.caller me.0.kept.point x, grows ∙ ap (λ (h : List Group). h ++ added_by z r.core.callers me.0.caller me.0.kept.point x) sits.begins.1 ∙ append_assoc me.0.seen sits.begins.0 (added_by z r.core.callers me.0.caller me.0.kept.point x));
      heard = refl;
      found = subst (λ (p : Shape). MayHold p (target me.0.caller me.0.kept.point) x) (sym sits.planned) (found_at key r.core r.ranked.lawful r.ranked.coded me.0.caller me.0.kept.point point_is);
      own_word = λ a is. subst (λ (t : Point). hazard_in (read r.core.memory (target me.0.caller t)) ≡ None) point_is (own_is_free key r.core r.ranked.lawful r.ranked.coded me.0.caller a (point_is ∙ is));
      full = λ runs idle full. subst (λ (y : Shape × Caller). IsAbove y.0 h' me.0.caller y.1.ops y.1.started_at) (λ i. (sym sits.planned i, sits.shown i)) (full_at key r.core r.roomy me.0.caller me.0.kept.point point_is (subst (λ (k : Caller). 0 < length k.ops) (sym sits.shown) runs) (ap (λ (k : Caller). k.point) here' ∙ idle) (ap (λ (k : Caller). k.outcome) here' ∙ full));
      ready = subst (λ (p : Shape). Ready p me.0.caller k'.point) (sym sits.planned) (subst (λ (k : Caller). Ready key me.0.caller k.point) here' (ready key core' lawful' codable' me.0.caller));
      knows = knows key core' lawful' w sits.planned refl here';
      less = less;
      lists = subst (λ (y : Shape × Caller). ListsFit y.0.callers y.1) (λ i. (sym sits.planned i, here' i)) (lists_fit key core' lawful' me.0.caller);
    }

  -- the step is allowed where it writes what the machine stores
  pub allows : (f : ℕ → ℕ) (then : ℕ → Me ℕ View → Type 0) → me.0.shape ≡ key → ((x : Content) → MayHold key (target me.0.caller me.0.kept.point) x → f (coded x) ≡ coded (stored me.0.caller me.0.kept.point x))
      → ((x : Content) (w : View) → Goes me.0 x w → then (coded x) (w, me.1)) → Allows (Ruled key) slots id me (index_of key (target me.0.caller me.0.kept.point)) f then
  allows f then planned writes tells s r _ here _ = let g = goes s r here in let found = found_word s r here in (
    w s r here,
    keeps,
    tt,
    steps s r here (f (get_or s.words (index_of key (target me.0.caller me.0.kept.point)) 0)) (ap f found ∙ writes (x s r here) (subst (λ (p : Shape). MayHold p (target me.0.caller me.0.kept.point) (x s r here)) planned g.found)),
    subst (λ (n : ℕ). then n (w s r here, me.1)) (sym found) (tells (x s r here) (w s r here) g),
  )
