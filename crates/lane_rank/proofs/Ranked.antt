-- A lawful lane whose callers kept ranks goes on as one, and what is left of the caller that made the step falls.
use Rattle.std.proofs.Common.{◌≡◌, ◌⊎◌, inl, inr, ◌==◌, ℕ, ◌<◌, ◌≤◌, Bool, true, false, List, [], ◌∷◌, length, sym, ap, subst, refl, arith, le_refl}
use mathlib.Core.Logic.{dite}
use native.Mathlib.Decide.{ℕ_discrete}
use Rattle.bq_model.specs.declared.op.Op.{Op}
use Rattle.bq_model.specs.declared.op.Op.TheVariants.{Enq, Deq, Shut}
use Rattle.bq_model.specs.declared.shape.Shape.{Shape}
use Rattle.excess_count.specs.Excess.{enqueue_count}
use Rattle.lane_steps.specs.Functions.{put}
use Rattle.lane_steps.specs.LaneSizes.{lane_sizes}
use Rattle.lane_steps.specs.Start.{draft_of, batch_point, first_point, begun, start, opening}
use Rattle.lane_steps.specs.State.{Caller, State}
use Rattle.lane_steps.specs.Step.{next}
use Rattle.lane_steps.specs.declared.point.Notice.{Notice}
use Rattle.lane_steps.specs.declared.point.Point.{Point}
use Rattle.lane_steps.specs.declared.point.Point.TheVariants.{Idle}
use Rattle.core_model.specs.Alone.{GoesOnOrEnds}
use Rattle.core_model.specs.Few.{Few}
use Rattle.core_model.proofs.Alone.{others_stay, goes_on_or_ends}
use Rattle.core_model.proofs.CodedStarts.{opening_coded, start_coded}
use Rattle.core_model.proofs.CodedSteps.{step_coded}
use Rattle.core_model.proofs.FewSteps.{few_starts, few_stays}
use Rattle.core_model.proofs.Opens.{opens}
use Rattle.core_model.proofs.Puts.{put_here, put_else, put_all, put_same}
use Rattle.core_model.proofs.Steps.{no_operation, preserves_next, preserves_start}
use Rattle.lane_rank.specs.Expected.{Expected, AllThere, outer, inner, Keeps}
use Rattle.lane_rank.specs.Rank.{most_rank, rank}
use Rattle.lane_rank.specs.Return.{Fits, left, most_count, Onward, Ranked}
use Rattle.lane_rank.specs.Runs.{MayBegin}
use Rattle.lane_rank.proofs.Bounds.{left_falls, rank_bounded}
use Rattle.lane_rank.proofs.Expecting.{keeps_over}
use Rattle.lane_rank.proofs.Onward.{onward}

-- no word is expected by a caller that begins a command, or is idle
keeps_nothing : (s : State) (t : Point) (o i : ℕ) → outer t ≡ [] → inner t ≡ [] → o ≤ rank s → i ≤ rank s → Keeps s t o i
keeps_nothing s t o i none none' past past' = record {
  outer_there = subst (AllThere s o) (sym none) tt;
  inner_there = subst (AllThere s i) (sym none') tt;
  outer_past = past;
  inner_past = past';
}

module _ (z : Shape) (s : State) (o i : ℕ → ℕ) (R : Ranked z s o i) (c : ℕ) (inside : c < z.callers) where
  abbrev s' : State
  s' = next (lane_sizes z) s c

  -- the step of caller c leaves no command longer
  short_next : (d : ℕ) → d < z.callers → length ((next (lane_sizes z) s c).callers d).ops ≤ z.batch
  short_next d known = dite (ℕ_discrete d c)
      (λ same. subst (λ (e : ℕ). length (s'.callers e).ops ≤ z.batch) (sym same) (own (goes_on_or_ends (lane_sizes z) s c)))
      (λ apart. subst (λ (k : Caller). length k.ops ≤ z.batch) (sym (others_stay (lane_sizes z) s c d apart)) (R.fits d known).1) where
        own : GoesOnOrEnds c (s.callers c) ((next (lane_sizes z) s c).callers c) → length ((next (lane_sizes z) s c).callers c).ops ≤ z.batch
        own (inl goes_on) = let same = ap length goes_on.0 in let short = (R.fits c inside).1 in omega (arith, same, short)
        own (inr ended) = let none = ap length (no_operation (lane_sizes z) s' (preserves_next (lane_sizes z) s R.lawful c) c ended.0) in omega (arith, none)

  fits_next : (d : ℕ) → d < z.callers → Fits z d ((next (lane_sizes z) s c).callers d)
  fits_next d known = (few_stays z s R.lawful c R.fits d known, short_next d known)

  -- with the ranks that it keeps then
  with_ranks : (o' i' : ℕ) → Keeps (next (lane_sizes z) s c) ((next (lane_sizes z) s c).callers c).point o' i' → Ranked z (next (lane_sizes z) s c) (put o c o') (put i c i')
  with_ranks o' i' K = record {
    lawful = preserves_next (lane_sizes z) s R.lawful c;
    coded = step_coded z s R.lawful R.coded c;
    fits = fits_next;
    keeps = λ d. put_all o c o' (λ d x. Keeps s' (s'.callers d).point x (put i c i' d))
        (subst (Keeps s' (s'.callers c).point o') (sym (put_here i c i')) K)
        (λ d apart. subst (λ (x : ℕ × Caller). Keeps s' x.1.point (o d) x.0) (λ j. (sym (put_else i c i' d apart) j, sym (others_stay (lane_sizes z) s c d apart) j)) (keeps_over (lane_sizes z) s R.lawful d c (λ e. apart (sym e)) (o d) (i d) (R.keeps d))) d;
  }

  -- so it is where the step goes onward
  less_left_by : Onward most_count z (next (lane_sizes z) s c) (s.callers c) ((next (lane_sizes z) s c).callers c) (o c) (i c) → (o' : ℕ) × (i' : ℕ) × Ranked z (next (lane_sizes z) s c) (put o c o') (put i c i')
      × ((((next (lane_sizes z) s c).callers c).point ≡ Idle) ⊎ (left z ((next (lane_sizes z) s c).callers c) o' i' < left z (s.callers c) (o c) (i c)))
  less_left_by (inl idle) = (0, 0, with_ranks 0 0 (subst (λ (t : Point). Keeps s' t 0 0) (sym idle) (keeps_nothing s' Idle 0 0 refl refl (omega arith) (omega arith))), inl idle)
  less_left_by (inr (o', i', K, falls)) = let most = rank_bounded (lane_sizes z) s' (preserves_next (lane_sizes z) s R.lawful c) in let old = K.outer_past in let old' = K.inner_past in
      (o', i', with_ranks o' i' K, inr (left_falls most_count z (most_rank (lane_sizes z)) (s.callers c) (s'.callers c) (o c) (i c) o' i' (omega (arith, most, old)) (omega (arith, most, old')) falls))

  -- THE return of a lane: the command of the caller that made the step has ended, or less is left of it
  pub less_left : (o' : ℕ) × (i' : ℕ) × Ranked z (next (lane_sizes z) s c) (put o c o') (put i c i')
      × ((((next (lane_sizes z) s c).callers c).point ≡ Idle) ⊎ (left z ((next (lane_sizes z) s c).callers c) o' i' < left z (s.callers c) (o c) (i c)))
  less_left = less_left_by (onward z s R.lawful R.coded c (R.fits c inside) (o c) (i c) (R.keeps c))

-- a command starts, whose caller keeps these ranks
module _ (z : Shape) (s : State) (o i : ℕ → ℕ) (R : Ranked z s o i) (d : ℕ) (ops : List Op) (may : MayBegin z s d ops) (o' i' : ℕ) (past : o' ≤ rank s) (past' : i' ≤ rank s) where
  abbrev then : State
  then = start (lane_sizes z) s d ops

  abbrev begins : Caller
  begins = begun (lane_sizes z) (length s.history) d (s.callers d) ops

  there_still : (kept : ℕ) (es : List Expected) → AllThere s kept es → AllThere (start (lane_sizes z) s d ops) kept es
  there_still kept [] x = tt
  there_still kept (e ∷ es) x = (x.0, there_still kept es x.1)

  -- the words and the rank are the same
  moved : (t : Point) (x y : ℕ) → Keeps s t x y → Keeps (start (lane_sizes z) s d ops) t x y
  moved t x y K = record { outer_there = there_still x (outer t) K.outer_there; inner_there = there_still y (inner t) K.inner_there; outer_past = K.outer_past; inner_past = K.inner_past }

  bare : (t : Point) → outer t ≡ [] → inner t ≡ [] → Keeps s t o' i'
  bare t none none' = keeps_nothing s t o' i' none none' past past'

  at_first : (os : List Op) → Keeps s (first_point (lane_sizes z) d (s.callers d) os) o' i'
  at_first [] = bare Idle refl refl
  at_first (Enq v ∷ []) = bare _ refl refl
  at_first (Deq ∷ []) = bare _ refl refl
  at_first (Shut ∷ []) = bare Idle refl refl
  at_first (op ∷ op' ∷ os) = by (op ∷ op' ∷ os) (draft_of d (s.callers d) (op ∷ op' ∷ os)) (enqueue_count (op ∷ op' ∷ os) == 0) where
    by : (xs : List Op) (m : Notice) (b : Bool) → Keeps s (batch_point (lane_sizes z) d xs m b) o' i'
    by xs m true = bare (batch_point (lane_sizes z) d xs m true) refl refl
    by xs m false = bare (batch_point (lane_sizes z) d xs m false) refl refl

  few : length (s.callers d).retired < z.callers
  few = subst (λ (t : Point). Few z d t (s.callers d).ops (s.callers d).rows (s.callers d).walked (s.callers d).retired (s.callers d).named) may.idle (R.fits d may.caller).0

  pub starts_with : Ranked z (start (lane_sizes z) s d ops) (put o d o') (put i d i')
  starts_with = record {
    lawful = preserves_start (lane_sizes z) s R.lawful d ops may.command may.idle may.caller may.allowed;
    coded = start_coded z s R.lawful R.coded d may.idle may.caller ops may.command may.allowed may.short may.words;
    fits = put_all s.callers d begins (λ e k. e < z.callers → Fits z e k) (λ _. (few_starts z d (length s.history) (s.callers d) few ops, may.short)) (λ e apart. R.fits e);
    keeps = λ e. put_all o d o' (λ e x. Keeps then (put s.callers d begins e).point x (put i d i' e))
        (subst (λ (x : Caller × ℕ). Keeps then x.0.point o' x.1) (λ j. (sym (put_here s.callers d begins) j, sym (put_here i d i') j)) (moved begins.point o' i' (at_first ops)))
        (λ e apart. subst (λ (x : Caller × ℕ). Keeps then x.0.point (o e) x.1) (λ j. (sym (put_else s.callers d begins e apart) j, sym (put_else i d i' e apart) j)) (moved (s.callers e).point (o e) (i e) (R.keeps e))) e;
  }

-- with the rank of now, or with those that it kept
module _ (z : Shape) (s : State) (o i : ℕ → ℕ) (R : Ranked z s o i) (d : ℕ) (ops : List Op) (may : MayBegin z s d ops) where
  pub starts : Ranked z (start (lane_sizes z) s d ops) (put o d (rank s)) (put i d (rank s))
  starts = starts_with z s o i R d ops may (rank s) (rank s) (le_refl _) (le_refl _)

  pub starts_as_it_was : Ranked z (start (lane_sizes z) s d ops) o i
  starts_as_it_was = let K = R.keeps d in subst (λ (x : (ℕ → ℕ) × (ℕ → ℕ)). Ranked z (start (lane_sizes z) s d ops) x.0 x.1) (λ j. (put_same o d j, put_same i d j))
      (starts_with z s o i R d ops may (o d) (i d) K.outer_past K.inner_past)

-- an idle caller may keep no rank
pub resets : (z : Shape) (s : State) (o i : ℕ → ℕ) → Ranked z s o i → (c : ℕ) → (s.callers c).point ≡ Idle → Ranked z s (put o c 0) (put i c 0)
resets z s o i R c idle = record {
  lawful = R.lawful;
  coded = R.coded;
  fits = R.fits;
  keeps = λ d. put_all o c 0 (λ d x. Keeps s (s.callers d).point x (put i c 0 d))
      (subst (λ (x : Point × ℕ). Keeps s x.0 0 x.1) (λ j. (sym idle j, sym (put_here i c 0) j)) (keeps_nothing s Idle 0 0 refl refl (omega arith) (omega arith)))
      (λ d apart. subst (Keeps s (s.callers d).point (o d)) (sym (put_else i c 0 d apart)) (R.keeps d)) d;
}

-- an empty lane
pub ranked_opens : (z : Shape) → Ranked z (opening (lane_sizes z)) (λ _. 0) (λ _. 0)
ranked_opens z = record {
  lawful = opens z;
  coded = opening_coded z;
  fits = λ c known. (z.some_callers.0, omega arith);
  keeps = λ c. keeps_nothing (opening (lane_sizes z)) Idle 0 0 refl refl (omega arith) (omega arith);
}
