-- The first step of a call starts the command and makes its first step.
use Rattle.std.proofs.Common.{◌≡◌, ◌≢◌, ℕ, ◌≤◌, List, [], length, set, get_or, sym, refl, ap, ◌∙◌, subst, inl, ⊎_elim, arith, set-set}
use Rattle.std.proofs.lemmas.List.{append-nil, length-append}
use mathlib.Core.Logic.{dite}
use native.Mathlib.Decide.{ℕ_discrete}
use mathlib.Core.Option.{some, some-injective}
use lib.ListN.{get_elem?}
use Rattle.atomic_table.specs.Table as table
use Rattle.atomic_table.specs.Table.{Me, homes_after, Allows}
use Rattle.atomic_table.proofs.Lists.{at_set, set_else}
use Rattle.bq_model.specs.declared.op.Op.{Op}
use Rattle.bq_model.specs.declared.group.Group.{Group}
use Rattle.bq_model.specs.declared.shape.Shape.{Shape}
use Rattle.word_rows.specs.declared.content.Content.{Content}
use Rattle.word_rows.specs.Layout.{index_of}
use Rattle.word_rows.specs.Contents.{coded, MayHold}
use Rattle.lane_steps.specs.Functions.{put}
use Rattle.lane_steps.specs.LaneSizes.{lane_sizes}
use Rattle.lane_steps.specs.declared.point.Point.{Point}
use Rattle.lane_steps.specs.declared.point.Point.TheVariants.{Idle}
use Rattle.lane_steps.specs.State.{Caller, State}
use Rattle.lane_steps.specs.Step.{target, stored}
use Rattle.lane_steps.specs.Start as starting
use Rattle.lane_steps.specs.Start.{PassesAllowance}
use Rattle.core_model.proofs.Puts.{put_here, put_else}
use Rattle.lane_room.proofs.Roomy.{roomy_starts}
use Rattle.lane_rule.specs.declared.view.View.{View}
use Rattle.lane_rule.specs.declared.view.Kind.{Kind}
use Rattle.lane_rule.specs.declared.view.Kind.TheVariants.{Alone, Gathered}
use Rattle.lane_rule.specs.Rule.{Runs, SitsAs, Sits, Longest, Ruled, RanksOf}
use Rattle.lane_rule.specs.Goes.{Goes}
use Rattle.lane_rule.specs.Begun.{MayStart, begun}
use Rattle.lane_rule.proofs.Allowed.{set_there, allows, sits_stay}
use Rattle.lane_rank.proofs.Ranked.{starts_as_it_was}

-- the same view has seen the history, if it was that of the seat id and w keeps what it had seen
pub longest_set : (views : List View) (h : List Group) (id : ℕ) (v w : View) → get_elem? views id ≡ some v → w.seen ≡ v.seen → (v.kind ≡ Gathered → ⊥) → Longest views h → Longest (set views id w) h
longest_set views h id v w at seen plain (j, u, e, or) = dite (ℕ_discrete j id)
    (λ is. let same : u ≡ v = some-injective u v (sym e ∙ (ap (get_elem? views) is ∙ at)) in (
      id,
      w,
      set_there views id v w at,
      ⊎_elim (λ (x : u.seen ≡ h). inl (seen ∙ (ap (λ (y : View). y.seen) (sym same) ∙ x)))
          (λ (x : (u.kind ≡ Gathered) × (u.heard ≡ h)). absurd (plain (ap (λ (y : View). y.kind) (sym same) ∙ x.0))) or,
    ))
    (λ ne. (j, u, set_else views id j w ne ∙ e, or))

alone_not : (v : View) → v.kind ≡ Alone → v.kind ≡ Gathered → ⊥
alone_not v a g = differs (sym a ∙ g) where
  differs : Alone ≡ Gathered → ⊥
  differs e = cc e

module _ (key : Shape) (s : table.State ℕ View) (r : Ruled key s) (id : ℕ) (v : View) (at : get_elem? s.views id ≡ some v) (ops : List Op) (alone : v.kind ≡ Alone) (may : MayStart v ops) where
  sits : Runs key r.core r.seat id v
  sits = subst (λ (k : Kind). SitsAs key r.core r.seat id k v) alone (r.each_seat id v at)

  abbrev n : ℕ
  n = length r.core.history

  abbrev k' : Caller
  k' = starting.begun (lane_sizes key) (length r.core.history) v.caller (r.core.callers v.caller) ops

  abbrev core' : State
  core' = record { memory = r.core.memory; history = r.core.history; callers = put r.core.callers v.caller (starting.begun (lane_sizes key) (length r.core.history) v.caller (r.core.callers v.caller) ops) }

  idle : (r.core.callers v.caller).point ≡ Idle
  idle = ap (λ (k : Caller). k.point) sits.shown ∙ may.idle

  -- what the rule asks of the machine's caller, from what the view shows
  left : ¬ (PassesAllowance (lane_sizes key) (r.core.callers v.caller) (length ops))
  left = subst (λ (y : Shape × Caller). ¬ (PassesAllowance (lane_sizes y.0) y.1 (length ops))) (λ i. (sits.planned i, sym sits.shown i)) may.left

  short : length ops ≤ key.batch
  short = subst (λ (y : Shape). length ops ≤ y.batch) sits.planned may.short

  began_seat : Runs key core' r.seat id (begun v n ops)
  began_seat = record {
    alone = sits.alone;
    shown = put_here r.core.callers v.caller k' ∙ (λ i. starting.begun (lane_sizes (sym sits.planned i)) n v.caller (sits.shown i) ops);
    begins = sits.begins;
    planned = sits.planned;
    known = sits.known;
  }

  pub start_ruled : Ruled key record { words = s.words; homes = s.homes; views = set s.views id (begun v n ops) }
  start_ruled = record {
    core = core';
    outer = r.outer;
    inner = r.inner;
    ranked = starts_as_it_was key r.core r.outer r.inner r.ranked v.caller ops record { caller = sits.known; idle = idle; command = may.command; short = short; allowed = left; words = may.values };
    each_rank = λ j u e. ⊎_elim (λ (p : (j ≡ id) × (begun v n ops ≡ u)). subst (λ (y : View). RanksOf r.outer r.inner y.kind y) p.1 (subst (λ (k : Kind). RanksOf r.outer r.inner k (begun v n ops)) (sym alone) (subst (λ (k : Kind). RanksOf r.outer r.inner k v) alone (r.each_rank id v at))))
        (λ (p : (j ≢ id) × (get_elem? s.views j ≡ some u)). r.each_rank j u p.1) (at_set s.views id j (begun v n ops) u e);
    roomy = roomy_starts key r.core r.roomy v.caller ops sits.known idle may.command short left;
    seat = r.seat;
    shows = r.shows;
    longest = longest_set s.views r.core.history id v (begun v n ops) at refl (alone_not v alone) r.longest;
    each_seat = λ j u e. ⊎_elim (λ (p : (j ≡ id) × (begun v n ops ≡ u)). subst (λ (y : ℕ × View). Sits key core' r.seat y.0 y.1) (λ i. (sym p.0 i, p.1 i)) (subst (λ (k : Kind). SitsAs key core' r.seat id k (begun v n ops)) (sym alone) began_seat))
        (λ (p : (j ≢ id) × (get_elem? s.views j ≡ some u)). sits_stay key r.core core' r.seat j [] (λ d is. put_else r.core.callers v.caller k' d (λ e. p.0 (sym is ∙ (ap r.seat e ∙ sits.alone)))) (sym (append-nil r.core.history)) u.kind u (r.each_seat j u p.1)) (at_set s.views id j (begun v n ops) u e);
  }

  pub seen_less : length v.seen ≤ n
  seen_less = let e = ap (λ (h : List Group). length h) sits.begins.1 in let all = length-append v.seen sits.begins.0 in omega arith

module _ (key : Shape) (slots id : ℕ) (me : Me ℕ View) (ops : List Op) (alone : me.0.kind ≡ Alone) (planned : me.0.shape ≡ key) (may : MayStart me.0 ops) (c : ℕ) (of : me.0.caller ≡ c) (t : Point) (point : (n : ℕ) → (begun me.0 n ops).kept.point ≡ t) where
  pub first_allowed : (f : ℕ → ℕ) (then : ℕ → Me ℕ View → Type 0) → ((x : Content) → MayHold key (target c t) x → f (coded x) ≡ coded (stored c t x))
      → ((n : ℕ) (x : Content) (w : View) → length me.0.seen ≤ n → Goes (begun me.0 n ops) x w → then (coded x) (w, me.1)) → Allows (Ruled key) slots id me (index_of key (target c t)) f then
  first_allowed f then writes tells s r len at lt =
      let n : ℕ = length r.core.history in
      let first : Me ℕ View = (begun me.0 n ops, me.1) in
      let less : length me.0.seen ≤ n = seen_less key s r id me.0 at ops alone may in
      let a : Allows (Ruled key) slots id first (index_of key (target c t)) f then = subst (λ (u : ℕ × Point). Allows (Ruled key) slots id first (index_of key (target u.0 u.1)) f then) (λ j. (of j, point n j))
      (allows key slots id first alone f then planned (subst (λ (u : ℕ × Point). (x : Content) → MayHold key (target u.0 u.1) x → f (coded x) ≡ coded (stored u.0 u.1 x)) (λ j. (sym of j, sym (point n) j)) writes) (λ x w g. tells n x w less g)) in
      let y = a record { words = s.words; homes = s.homes; views = set s.views id first.0 } (start_ruled key s r id me.0 at ops alone may) len (set_there s.views id me.0 first.0 at) lt in
      (y.0, y.1, y.2, subst (λ (vs : List View). Ruled key record { words = set s.words (index_of key (target c t)) (f (get_or s.words (index_of key (target c t)) 0)); homes = homes_after s.homes me.1 y.1; views = vs }) (set-set s.views id first.0 y.0) y.3, y.4)
