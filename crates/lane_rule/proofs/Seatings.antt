-- Splitting and joining of seats, and the load that ends a gathering, leave the machine as it is.
use Rattle.std.proofs.Common.{◌≡◌, ◌≢◌, ◌⊎◌, ℕ, zero, suc, ◌<◌, eqb, Bool, cond, List, [], ◌∷◌, ◌++◌, length, set, sym, refl, ap, ◌∙◌, subst, inl, inr, ⊎_elim, arith, eq-eqb, ne_eqb, length-set}
use Rattle.std.proofs.lemmas.List.{append-nil}
use mathlib.Core.Logic.{dite}
use mathlib.Core.Option.{some, some-injective, some-ne-none}
use native.Mathlib.Decide.{ℕ_discrete}
use lib.ListN.{get_elem?}
use lib.Seq.{set-get_or}
use Rattle.atomic_table.specs.Table as table
use Rattle.atomic_table.specs.Table.{Me, keeps, Splits, Joins, Allows}
use Rattle.atomic_table.proofs.Lists.{at_set, set_else, at_longer}
use Rattle.bq_model.specs.declared.group.Group.{Group}
use Rattle.bq_model.specs.declared.shape.Shape.{Shape}
use Rattle.lane_steps.specs.Functions.{put}
use Rattle.bq_model.specs.Own.{mine as mine_of}
use Rattle.bq_model.specs.Proper.{IsProper}
use Rattle.lane_steps.specs.LaneSizes.{lane_sizes}
use Rattle.lane_steps.specs.declared.point.Point.TheVariants.{Idle}
use Rattle.lane_steps.specs.State.{Caller, State}
use Rattle.core_model.proofs.Ends.{idle_groups}
use Rattle.lane_rule.specs.declared.view.Kept.{Kept}
use Rattle.core_model.proofs.Puts.{put_here, put_else}
use Rattle.lane_rule.specs.declared.view.View.{View}
use Rattle.lane_rule.specs.declared.view.Held.{Held}
use Rattle.lane_rule.specs.declared.view.Kind.{Kind}
use Rattle.lane_rule.specs.declared.view.Kind.TheVariants.{Maker, Alone, Gathered, Spent}
use Rattle.lane_rule.specs.Rule.{caller_of, Begins, AllHeld, HasOne, SitsAs, Sits, Longest, Ruled, RanksOf}
use Rattle.lane_rule.specs.Plays.{IsWhole}
use Rattle.lane_rule.specs.Seating.{made, newcomer_of, held_as, joined, spent, Idles, Has, Holds, caught_up}
use Rattle.lane_rule.proofs.Allowed.{set_there, ranks_else}
use Rattle.lane_rule.proofs.Begun.{longest_set}
use Rattle.lane_rank.proofs.Ranked.{resets}

module _ {A : Type 0} where
  at_end : (l : List A) (a b : A) (j : ℕ) → get_elem? (l ++ a ∷ []) j ≡ some b → (get_elem? l j ≡ some b) ⊎ ((a ≡ b) × (j ≡ length l))
  at_end [] a b zero e = inr (some-injective a b e, refl)
  at_end [] a b (suc j) e = absurd (some-ne-none b (sym e))
  at_end (x ∷ xs) a b zero e = inl e
  at_end (x ∷ xs) a b (suc j) e = ⊎_elim (λ t. inl t) (λ t. let n = t.1 in inr (t.0, ap suc n)) (at_end xs a b j e)

  inside : (l : List A) (i : ℕ) (a : A) → get_elem? l i ≡ some a → i < length l
  inside [] i a e = absurd (some-ne-none a (sym e))
  inside (x ∷ xs) zero a e = omega arith
  inside (x ∷ xs) (suc i) a e = let l = inside xs i a e in omega arith

held_moves : (key : Shape) (core : State) (seat seat' : ℕ → ℕ) (j k : ℕ) → ((d : ℕ) → seat d ≡ j → seat' d ≡ k) → (ks : List Held) → AllHeld key core seat j ks → AllHeld key core seat' k ks
held_moves key core seat seat' j k same [] a = tt
held_moves key core seat seat' j k same (x ∷ ks) a = (a.0, same x.caller a.1, a.2, held_moves key core seat seat' j k same ks a.3)

held_both : (key : Shape) (core : State) (seat : ℕ → ℕ) (j : ℕ) (ks ls : List Held) → AllHeld key core seat j ks → AllHeld key core seat j ls → AllHeld key core seat j (ks ++ ls)
held_both key core seat j [] ls a b = b
held_both key core seat j (k ∷ ks) ls a b = (a.0, a.1, a.2, held_both key core seat j ks ls a.3 b)

-- callers that keep their seat
moves : (key : Shape) (core : State) (seat seat' : ℕ → ℕ) (j : ℕ) → ((d : ℕ) → seat d ≡ j → seat' d ≡ j) → (k : Kind) (v : View) → SitsAs key core seat j k v → SitsAs key core seat' j k v
moves key core seat seat' j same Maker v s = (s.0, s.1, λ c l. let y = s.2 c l in (same c y.0, y.1))
moves key core seat seat' j same Alone v s = record { alone = same v.caller s.alone; shown = s.shown; begins = s.begins; planned = s.planned; known = s.known }
moves key core seat seat' j same Gathered v s = (held_moves key core seat seat' j j same v.gathered s.0, s.1, s.2, s.3, s.4)
moves key core seat seat' j same Spent v s = s

pub makes : (key : Shape) (id : ℕ) (v : View) → v.kind ≡ Maker → v.caller < v.shape.callers → Splits (Ruled key) id v (made v) (newcomer_of v)
makes key id v is room s r at = record {
  core = r.core;
  outer = put r.outer v.caller 0;
  inner = put r.inner v.caller 0;
  ranked = resets key r.core r.outer r.inner r.ranked v.caller (ap (λ (k : Caller). k.point) (mine.2 v.caller (omega arith)).1);
  each_rank = λ j u e. ⊎_elim (λ (t : get_elem? (set s.views id (made v)) j ≡ some u). old_rank j u t)
      (λ (t : (newcomer_of v ≡ u) × (j ≡ length (set s.views id (made v)))). subst (λ (y : View). RanksOf (put r.outer v.caller 0) (put r.inner v.caller 0) y.kind y) t.0 (sym (put_here r.outer v.caller 0), sym (put_here r.inner v.caller 0)))
      (at_end (set s.views id (made v)) (newcomer_of v) u j e);
  seat = seat';
  roomy = r.roomy;
  shows = r.shows;
  longest = later (longest_set s.views r.core.history id v (made v) at refl maker_not r.longest);
  each_seat = λ j u e. ⊎_elim (λ (t : get_elem? (set s.views id (made v)) j ≡ some u). old j u t) (λ (t : (newcomer_of v ≡ u) × (j ≡ length (set s.views id (made v)))). subst (Sits key r.core seat' j) t.0 (new j (t.1 ∙ length-set s.views id (made v))))
      (at_end (set s.views id (made v)) (newcomer_of v) u j e);
} where
  maker_not : v.kind ≡ Gathered → ⊥
  maker_not g = differs (sym is ∙ g) where
    differs : Maker ≡ Gathered → ⊥
    differs e = cc e

  later : Longest (set s.views id (made v)) r.core.history → Longest (set s.views id (made v) ++ newcomer_of v ∷ []) r.core.history
  later (j, u, e, or) = (j, u, at_longer (set s.views id (made v)) (newcomer_of v ∷ []) j u e, or)

  seat' : ℕ → ℕ
  seat' = put r.seat v.caller (length s.views)

  mine : SitsAs key r.core r.seat id Maker v
  mine = subst (λ (k : Kind). SitsAs key r.core r.seat id k v) is (r.each_seat id v at)

  here : r.seat v.caller ≡ id
  here = (mine.2 v.caller (omega arith)).0

  stays : (d j : ℕ) → j ≢ id → r.seat d ≡ j → put r.seat v.caller (length s.views) d ≡ j
  stays d j ne e = put_else r.seat v.caller (length s.views) d (λ same. ne (sym e ∙ (ap r.seat same ∙ here))) ∙ e

  old_rank : (j : ℕ) (u : View) → get_elem? (set s.views id (made v)) j ≡ some u → RanksOf (put r.outer v.caller 0) (put r.inner v.caller 0) u.kind u
  old_rank j u e = ⊎_elim (λ (t : (j ≡ id) × (made v ≡ u)). subst (λ (y : View). RanksOf (put r.outer v.caller 0) (put r.inner v.caller 0) y.kind y) t.1 (subst (λ (k : Kind). RanksOf (put r.outer v.caller 0) (put r.inner v.caller 0) k (made v)) (sym is) tt))
      (λ (t : (j ≢ id) × (get_elem? s.views j ≡ some u)). ranks_else key r.core r.seat j v.caller 0 0 r.outer r.inner (λ e. t.0 (sym e ∙ here)) u.kind u (r.each_seat j u t.1) (r.each_rank j u t.1)) (at_set s.views id j (made v) u e)

  maker : SitsAs key r.core (put r.seat v.caller (length s.views)) id Maker (made v)
  maker = (mine.0, mine.1, λ c l. let y = mine.2 c (omega arith) in (put_else r.seat v.caller (length s.views) c (λ e. omega arith) ∙ y.0, y.1))

  new : (j : ℕ) → j ≡ length s.views → Sits key r.core (put r.seat v.caller (length s.views)) j (newcomer_of v)
  new j e = record { alone = put_here r.seat v.caller (length s.views) ∙ sym e; shown = (mine.2 v.caller (omega arith)).1; begins = (r.core.history, refl); planned = mine.0; known = subst (λ (p : Shape). v.caller < p.callers) mine.0 room }

  old : (j : ℕ) (u : View) → get_elem? (set s.views id (made v)) j ≡ some u → Sits key r.core (put r.seat v.caller (length s.views)) j u
  old j u e = ⊎_elim (λ (t : (j ≡ id) × (made v ≡ u)). subst (λ (y : ℕ × View). Sits key r.core (put r.seat v.caller (length s.views)) y.0 y.1) (λ i. (sym t.0 i, t.1 i)) (subst (λ (k : Kind). SitsAs key r.core (put r.seat v.caller (length s.views)) id k (made v)) (sym is) maker))
      (λ (t : (j ≢ id) × (get_elem? s.views j ≡ some u)). moves key r.core r.seat (put r.seat v.caller (length s.views)) j (λ d. stays d j t.0) u.kind u (r.each_seat j u t.1)) (at_set s.views id j (made v) u e)

begins_none : (xs : List Group) → Begins xs [] → xs ≡ []
begins_none [] b = refl
begins_none (x ∷ xs) b = absurd (cc b.1)

held_of : (key : Shape) (core : State) (seat : ℕ → ℕ) (j : ℕ) (k : Kind) (v : View) → Idles k → SitsAs key core seat j k v → AllHeld key core seat j (held_as k v) × Begins v.seen core.history × (v.shape ≡ key)
held_of key core seat j Maker v i s = absurd i
held_of key core seat j Alone v i s = ((s.known, s.alone, s.shown, tt), s.begins, s.planned)
held_of key core seat j Gathered v i s = (s.0, s.1, s.3)
held_of key core seat j Spent v i s = absurd i

has_one : (key : Shape) (core : State) (seat : ℕ → ℕ) (j : ℕ) (k : Kind) (v : View) (ks : List Held) → Idles k → SitsAs key core seat j k v → HasOne key core seat j (held_as k v ++ ks)
has_one key core seat j Maker v ks i s = absurd i
has_one key core seat j Alone v ks i s = tt
has_one key core seat j Gathered v ks i s = some v.gathered s.4 where
  some : (ls : List Held) → HasOne key core seat j ls → HasOne key core seat j (ls ++ ks)
  some [] h = absurd h
  some (l ∷ ls) h = tt
has_one key core seat j Spent v ks i s = absurd i

abbrev rejoined : (ℕ → ℕ) → ℕ → ℕ → ℕ → ℕ
rejoined seat id other c = cond (eqb (seat c) other) id (seat c)

pub gathers : (key sh : Shape) (id other : ℕ) (v w : View) → Idles v.kind → Idles w.kind → v.heard ≡ [] → w.heard ≡ [] → Joins (Ruled key) id v other w (joined v w) (spent sh)
gathers key sh id other v w iv iw hv hw s r at ne at' = record {
  longest = best r.longest;
  core = r.core;
  outer = r.outer;
  inner = r.inner;
  ranked = r.ranked;
  each_rank = λ j u e. ⊎_elim (λ (t : (j ≡ other) × (spent sh ≡ u)). subst (λ (y : View). RanksOf r.outer r.inner y.kind y) t.1 tt)
      (λ (t : (j ≢ other) × (get_elem? (set s.views id (joined v w)) j ≡ some u)). ⊎_elim (λ (q : (j ≡ id) × (joined v w ≡ u)). subst (λ (y : View). RanksOf r.outer r.inner y.kind y) q.1 tt)
      (λ (q : (j ≢ id) × (get_elem? s.views j ≡ some u)). r.each_rank j u q.1) (at_set s.views id j (joined v w) u t.1)) (at_set (set s.views id (joined v w)) other j (spent sh) u e);
  seat = rejoined r.seat id other;
  roomy = r.roomy;
  shows = r.shows;
  each_seat = λ j u e. ⊎_elim (λ (t : (j ≡ other) × (spent sh ≡ u)). subst (Sits key r.core (rejoined r.seat id other) j) t.1 refl)
      (λ (t : (j ≢ other) × (get_elem? (set s.views id (joined v w)) j ≡ some u)). rest j u t.0 t.1) (at_set (set s.views id (joined v w)) other j (spent sh) u e);
} where
  here : get_elem? (set (set s.views id (joined v w)) other (spent sh)) id ≡ some (joined v w)
  here = set_else (set s.views id (joined v w)) other id (spent sh) (λ e. ne (sym e)) ∙ set_there s.views id v (joined v w) at

  was : get_elem? s.views other ≡ some w
  was = ⊎_elim (λ (t : (other ≡ id) × (joined v w ≡ w)). absurd (ne t.0)) (λ (t : (other ≢ id) × (get_elem? s.views other ≡ some w)). t.1) (at_set s.views id other (joined v w) w at')

  stays : (d j : ℕ) → j ≢ other → r.seat d ≡ j → rejoined r.seat id other d ≡ j
  stays d j n e = ap (λ (b : Bool). cond b id (r.seat d)) (ne_eqb (r.seat d) other (λ x. n (sym e ∙ x))) ∙ e

  comes : (d : ℕ) → r.seat d ≡ other → rejoined r.seat id other d ≡ id
  comes d e = ap (λ (b : Bool). cond b id (r.seat d)) (eq-eqb (r.seat d) other e)

  one : AllHeld key r.core r.seat id (held_as v.kind v) × Begins v.seen r.core.history × (v.shape ≡ key)
  one = held_of key r.core r.seat id v.kind v iv (r.each_seat id v at)

  two : AllHeld key r.core r.seat other (held_as w.kind w) × Begins w.seen r.core.history × (w.shape ≡ key)
  two = held_of key r.core r.seat other w.kind w iw (r.each_seat other w was)

  best : Longest s.views r.core.history → Longest (set (set s.views id (joined v w)) other (spent sh)) r.core.history
  best (j, u, e, or) = dite (ℕ_discrete j id)
      (λ is. let same : u ≡ v = some-injective u v (sym e ∙ (ap (get_elem? s.views) is ∙ at)) in (
        id,
        joined v w,
        here,
        ⊎_elim (λ (x : u.seen ≡ r.core.history). inl (ap (λ (y : View). y.seen) (sym same) ∙ x))
            (λ (x : (u.kind ≡ Gathered) × (u.heard ≡ r.core.history)). let none : [] ≡ r.core.history = sym hv ∙ (ap (λ (y : View). y.heard) (sym same) ∙ x.1) in inl (begins_none v.seen (subst (Begins v.seen) (sym none) one.1) ∙ none)) or,
      ))
      (λ n. dite (ℕ_discrete j other)
      (λ is. let same : u ≡ w = some-injective u w (sym e ∙ (ap (get_elem? s.views) is ∙ was)) in (
        id,
        joined v w,
        here,
        ⊎_elim (λ (x : u.seen ≡ r.core.history). inr (refl, ap (λ (y : View). y.seen) (sym same) ∙ x))
            (λ (x : (u.kind ≡ Gathered) × (u.heard ≡ r.core.history)). let none : [] ≡ r.core.history = sym hw ∙ (ap (λ (y : View). y.heard) (sym same) ∙ x.1) in inr (refl, begins_none w.seen (subst (Begins w.seen) (sym none) two.1) ∙ none)) or,
      ))
      (λ n'. (j, u, set_else (set s.views id (joined v w)) other j (spent sh) n' ∙ (set_else s.views id j (joined v w) n ∙ e), or)))

  both : Sits key r.core (rejoined r.seat id other) id (joined v w)
  both = (
    held_both key r.core (rejoined r.seat id other) id (held_as v.kind v) (held_as w.kind w) (held_moves key r.core r.seat (rejoined r.seat id other) id id (λ d. stays d id (λ e. ne (sym e))) (held_as v.kind v) one.0)
        (held_moves key r.core r.seat (rejoined r.seat id other) other id comes (held_as w.kind w) two.0),
    one.1,
    two.1,
    one.2,
    has_one key r.core r.seat id v.kind v (held_as w.kind w) iv (r.each_seat id v at),
  )

  rest : (j : ℕ) (u : View) → j ≢ other → get_elem? (set s.views id (joined v w)) j ≡ some u → Sits key r.core (rejoined r.seat id other) j u
  rest j u n e = ⊎_elim (λ (t : (j ≡ id) × (joined v w ≡ u)). subst (λ (y : ℕ × View). Sits key r.core (rejoined r.seat id other) y.0 y.1) (λ i. (sym t.0 i, t.1 i)) both)
      (λ (t : (j ≢ id) × (get_elem? s.views j ≡ some u)). moves key r.core r.seat (rejoined r.seat id other) j (λ d. stays d j n) u.kind u (r.each_seat j u t.1)) (at_set s.views id j (joined v w) u e)

-- after the load that ends a gathering the view has seen the history
pub learns : (key : Shape) (slots id : ℕ) (me : Me ℕ View) → me.0.kind ≡ Gathered
    → Allows (Ruled key) slots id me 0 (λ n. n) (λ n m. (m.0.kind ≡ Gathered) × (m.0.gathered ≡ me.0.gathered) × Begins me.0.seen m.0.seen × Begins me.0.heard m.0.seen × (m.0.heard ≡ []) × (m.0.shape ≡ me.0.shape) × (m.1 ≡ me.1) × IsWhole m.0)
learns key slots id me is s r _ at _ = let w : View = caught_up me.0 r.core.history in (
  w,
  keeps,
  tt,
  subst (λ (ws : List ℕ). Ruled key record { words = ws; homes = s.homes; views = set s.views id w }) (sym (set-get_or s.words 0 0)) record {
    core = r.core;
    outer = r.outer;
    inner = r.inner;
    ranked = r.ranked;
    each_rank = λ j u e. ⊎_elim (λ (t : (j ≡ id) × (w ≡ u)). subst (λ (y : View). RanksOf r.outer r.inner y.kind y) t.1 (subst (λ (k : Kind). RanksOf r.outer r.inner k w) (sym is) tt))
        (λ (t : (j ≢ id) × (get_elem? s.views j ≡ some u)). r.each_rank j u t.1) (at_set s.views id j w u e);
    seat = r.seat;
    roomy = r.roomy;
    shows = r.shows;
    longest = (id, w, set_there s.views id me.0 w at, inl refl);
    each_seat = λ j u e. ⊎_elim (λ (t : (j ≡ id) × (w ≡ u)). subst (λ (y : ℕ × View). Sits key r.core r.seat y.0 y.1) (λ i. (sym t.0 i, t.1 i)) (subst (λ (k : Kind). SitsAs key r.core r.seat id k w) (sym is) (mine.0, ([], sym (append-nil r.core.history)), (r.core.history, refl), mine.3, mine.4)))
        (λ (t : (j ≢ id) × (get_elem? s.views j ≡ some u)). r.each_seat j u t.1) (at_set s.views id j w u e);
  },
  (is, refl, mine.1, mine.2, refl, refl, refl, whole),
) where
  own : (c : ℕ) (k : Kept) (ks : List Held) → AllHeld key r.core r.seat id ks → Holds c k ks → k.point ≡ Idle → mine_of r.core.history c ≡ k.mine
  own c k [] a h idle = absurd h
  own c k (x ∷ xs) a h idle = ⊎_elim
      (λ (e : (x.caller ≡ c) × (x.kept ≡ k)). let shown : r.core.callers c ≡ caller_of k = ap r.core.callers (sym e.0) ∙ (a.2 ∙ ap caller_of e.1) in
      idle_groups (lane_sizes key) r.core r.ranked.lawful c (ap (λ (y : Caller). y.point) shown ∙ idle) ∙ ap (λ (y : Caller). y.mine) shown)
      (λ (t : Holds c k xs). own c k xs a.3 t idle) h

  whole : IsWhole (caught_up me.0 r.core.history)
  whole = record {
    proper = subst (λ (z : Shape). IsProper z.callers r.core.history) (sym (subst (λ (k : Kind). SitsAs key r.core r.seat id k me.0) is (r.each_seat id me.0 at)).3) r.ranked.lawful.history.proper;
    never_shut = r.ranked.lawful.history.never_shut;
    own = λ c k has idle. own c k me.0.gathered (subst (λ (k : Kind). SitsAs key r.core r.seat id k me.0) is (r.each_seat id me.0 at)).0 has idle;
  }

  mine : SitsAs key r.core r.seat id Gathered me.0
  mine = subst (λ (k : Kind). SitsAs key r.core r.seat id k me.0) is (r.each_seat id me.0 at)

held_seat : (key : Shape) (core : State) (seat : ℕ → ℕ) (j c : ℕ) (ks : List Held) → AllHeld key core seat j ks → Has c ks → seat c ≡ j
held_seat key core seat j c [] a h = absurd h
held_seat key core seat j c (k ∷ ks) a h = ⊎_elim (λ (e : k.caller ≡ c). ap seat (sym e) ∙ a.1) (λ (t : Has c ks). held_seat key core seat j c ks a.3 t) h

-- where all callers sit elsewhere, a view that has seen the history has seen none
elsewhere : (key : Shape) (core : State) (seat : ℕ → ℕ) (id j : ℕ) → j ≢ id → ((c : ℕ) → c < key.callers → seat c ≡ id) → (k : Kind) (v : View) → SitsAs key core seat j k v → ((v.seen ≡ core.history) ⊎ ((k ≡ Gathered) × (v.heard ≡ core.history))) → [] ≡ core.history
elsewhere key core seat id j ne every Maker v s or = ⊎_elim (λ (e : v.seen ≡ core.history). sym s.1 ∙ e) (λ (x : (Maker ≡ Gathered) × (v.heard ≡ core.history)). absurd (cc x.0)) or
elsewhere key core seat id j ne every Alone v s or = absurd (ne (sym s.alone ∙ every v.caller s.known))
elsewhere key core seat id j ne every Gathered v s or = absurd (first v.gathered s.0 s.4) where
  first : (ks : List Held) → AllHeld key core seat j ks → HasOne key core seat j ks → ⊥
  first [] a h = h
  first (k ∷ ks) a h = ne (sym a.1 ∙ every k.caller a.0)
elsewhere key core seat id j ne every Spent v s or = ⊎_elim (λ (e : v.seen ≡ core.history). sym s ∙ e) (λ (x : (Spent ≡ Gathered) × (v.heard ≡ core.history)). absurd (cc x.0)) or

-- What a pass has seen that holds every caller, after the load that ended its gathering, is the whole history.
pub closes : (key : Shape) (s : table.State ℕ View) (r : Ruled key s) (id : ℕ) (v : View) → get_elem? s.views id ≡ some v → v.kind ≡ Gathered → v.heard ≡ [] → ((c : ℕ) → c < key.callers → Has c v.gathered) → v.seen ≡ r.core.history
closes key s r id v at is quiet every = best r.longest where
  mine : SitsAs key r.core r.seat id Gathered v
  mine = subst (λ (k : Kind). SitsAs key r.core r.seat id k v) is (r.each_seat id v at)

  empty : [] ≡ r.core.history → v.seen ≡ r.core.history
  empty none = begins_none v.seen (subst (Begins v.seen) (sym none) mine.1) ∙ none

  best : Longest s.views r.core.history → v.seen ≡ r.core.history
  best (j, u, e, or) = dite (ℕ_discrete j id)
      (λ same_j. let same : u ≡ v = some-injective u v (sym e ∙ (ap (get_elem? s.views) same_j ∙ at)) in ⊎_elim (λ (x : u.seen ≡ r.core.history). ap (λ (y : View). y.seen) (sym same) ∙ x)
      (λ (x : (u.kind ≡ Gathered) × (u.heard ≡ r.core.history)). empty (sym quiet ∙ (ap (λ (y : View). y.heard) (sym same) ∙ x.1))) or)
      (λ ne. empty (elsewhere key r.core r.seat id j ne (λ c l. held_seat key r.core r.seat id c v.gathered mine.0 (every c l)) u.kind u (r.each_seat j u e) or))

-- Of each caller that the pass holds, idle, the history has the groups of its ended commands.
pub closed_own : (key : Shape) (s : table.State ℕ View) (r : Ruled key s) (id : ℕ) (v : View) → get_elem? s.views id ≡ some v → v.kind ≡ Gathered → v.seen ≡ r.core.history → (c : ℕ) (k : Kept) → Holds c k v.gathered → k.point ≡ Idle → mine_of v.seen c ≡ k.mine
closed_own key s r id v at is all c k has idle = by v.gathered mine.0 has where
  mine : SitsAs key r.core r.seat id Gathered v
  mine = subst (λ (k : Kind). SitsAs key r.core r.seat id k v) is (r.each_seat id v at)

  one : r.core.callers c ≡ caller_of k → mine_of v.seen c ≡ k.mine
  one e = ap (λ (h : List Group). mine_of h c) all ∙ (idle_groups (lane_sizes key) r.core r.ranked.lawful c (ap (λ (y : Caller). y.point) e ∙ idle) ∙ ap (λ (y : Caller). y.mine) e)

  by : (ks : List Held) → AllHeld key r.core r.seat id ks → Holds c k ks → mine_of v.seen c ≡ k.mine
  by [] a h = absurd h
  by (x ∷ xs) a h = ⊎_elim (λ (e : (x.caller ≡ c) × (x.kept ≡ k)). one (ap r.core.callers (sym e.0) ∙ (a.2 ∙ ap caller_of e.1))) (λ (t : Holds c k xs). by xs a.3 t) h

pub closed_proper : (key : Shape) (s : table.State ℕ View) (r : Ruled key s) (v : View) → v.seen ≡ r.core.history → IsProper key.callers v.seen
closed_proper key s r v all = subst (IsProper key.callers) (sym all) r.ranked.lawful.history.proper
