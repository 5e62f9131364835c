-- What a caller keeps after its own step.
use Rattle.std.proofs.Common.{◌≡◌, ◌⊎◌, inl, inr, ℕ, ◌+◌, ◌<◌, ◌≤◌, List, sym, subst, arith, le_refl}
use Rattle.bq_model.specs.declared.shape.Shape.{Shape}
use Rattle.lane_steps.specs.declared.point.Point.{Point}
use Rattle.lane_steps.specs.LaneSizes.{lane_sizes}
use Rattle.lane_steps.specs.State.{Caller, State}
use Rattle.lane_steps.specs.Step.{step_at}
use Rattle.core_model.specs.Lawful.{Lawful}
use Rattle.lane_rank.specs.Expected.{Expected, IsThere, AllThere, outer, inner, Keeps}
use Rattle.lane_rank.specs.Rank.{rank, Climbs}
use Rattle.lane_rank.specs.Return.{Onward}
use Rattle.lane_rank.specs.Weight.{weight, most_weight}
use Rattle.lane_rank.proofs.Expecting.{Safe, AllSafe, rank_up, still, all_still}
use Rattle.lane_rank.proofs.Frames.{climbs_at}

module _ (z : Shape) (s : State) (L : Lawful (lane_sizes z) s) (c M : ℕ) (t : Point) (is : (s.callers c).point ≡ t) (o i : ℕ) (K : Keeps s t o i) where
  -- the state after the step
  abbrev pub s' : State
  s' = step_at (lane_sizes z) s c t

  pub up : Climbs t L.ghost s (step_at (lane_sizes z) s c t)
  up = climbs_at (lane_sizes z) s L c t is

  pub no_lower : rank s ≤ rank (step_at (lane_sizes z) s c t)
  no_lower = rank_up (lane_sizes z) s L t s' up

  -- what is expected goes on to be so over the step: with the outer rank, and with the inner
  pub carry : (es : List Expected) → AllSafe (lane_sizes z) s L t es → AllThere s o es → AllThere (step_at (lane_sizes z) s c t) o es
  carry es safe x = all_still (lane_sizes z) s L t s' up o K.outer_past es safe x

  pub carry_in : (es : List Expected) → AllSafe (lane_sizes z) s L t es → AllThere s i es → AllThere (step_at (lane_sizes z) s c t) i es
  carry_in es safe x = all_still (lane_sizes z) s L t s' up i K.inner_past es safe x

  pub above : (kept : ℕ) → kept < rank s → kept < rank (step_at (lane_sizes z) s c t)
  above kept below = let more = no_lower in omega arith

  -- what isn't there any more shows a greater rank
  pub gone : (kept : ℕ) (e : Expected) → (IsThere s.memory e) ⊎ (kept < rank s) → (IsThere s.memory e → ⊥) → kept < rank (step_at (lane_sizes z) s c t)
  gone kept e (inl x) off = absurd (off x)
  gone kept e (inr below) off = above kept below

  -- also where it went with this step
  pub went : (kept : ℕ) (e : Expected) → Safe (lane_sizes z) s L t e → kept ≤ rank s → (IsThere s.memory e) ⊎ (kept < rank s) → (IsThere (step_at (lane_sizes z) s c t).memory e → ⊥) → kept < rank (step_at (lane_sizes z) s c t)
  went kept e safe past x off = by (still (lane_sizes z) s L t s' up kept past e safe x) where
    by : (IsThere (step_at (lane_sizes z) s c t).memory e) ⊎ (kept < rank (step_at (lane_sizes z) s c t)) → kept < rank (step_at (lane_sizes z) s c t)
    by (inl x) = absurd (off x)
    by (inr below) = below

  -- its caller keeps k' then, at the point t'
  module _ (k' : Caller) (t' : Point) (there : k'.point ≡ t') where
    onto : (o' i' : ℕ) → Keeps (step_at (lane_sizes z) s c t) t' o' i'
        → ((weight M z k' t' < weight M z (s.callers c) t) × (o ≤ o') × (i ≤ i')) ⊎ ((weight M z k' t' ≤ most_weight M z) × (o ≤ o') × (i ≤ i') × (o + i < o' + i'))
        → Onward M z (step_at (lane_sizes z) s c t) (s.callers c) k' o i
    onto o' i' keeps x = inr (
      o',
      i',
      subst (λ (p : Point). Keeps s' p o' i') (sym there) keeps,
      subst (λ (p : Point). ((weight M z k' k'.point < weight M z (s.callers c) p) × (o ≤ o') × (i ≤ i')) ⊎ ((weight M z k' k'.point ≤ most_weight M z) × (o ≤ o') × (i ≤ i') × (o + i < o' + i'))) (sym is)
          (subst (λ (p : Point). ((weight M z k' p < weight M z (s.callers c) t) × (o ≤ o') × (i ≤ i')) ⊎ ((weight M z k' p ≤ most_weight M z) × (o ≤ o') × (i ≤ i') × (o + i < o' + i'))) (sym there) x),
    )

    -- it goes on with the ranks that it kept
    pub goes : AllThere (step_at (lane_sizes z) s c t) o (outer t') → AllThere (step_at (lane_sizes z) s c t) i (inner t') → weight M z k' t' < weight M z (s.callers c) t
        → Onward M z (step_at (lane_sizes z) s c t) (s.callers c) k' o i
    goes out_there in_there less = let more = no_lower in let old = K.outer_past in let old' = K.inner_past in
        onto o i (record { outer_there = out_there; inner_there = in_there; outer_past = omega arith; inner_past = omega arith }) (inl (less, le_refl _, le_refl _))

    -- a load after which all that is expected is there: the rank of now is kept with it
    pub loads : AllThere (step_at (lane_sizes z) s c t) (rank (step_at (lane_sizes z) s c t)) (outer t') → AllThere (step_at (lane_sizes z) s c t) (rank (step_at (lane_sizes z) s c t)) (inner t') → weight M z k' t' < weight M z (s.callers c) t
        → Onward M z (step_at (lane_sizes z) s c t) (s.callers c) k' o i
    loads out_there in_there less = let more = no_lower in let old = K.outer_past in let old' = K.inner_past in let r = rank s' in
        onto r r (record { outer_there = out_there; inner_there = in_there; outer_past = le_refl _; inner_past = le_refl _ }) (inl (less, (omega arith), omega arith))

    -- the same of a load of TAIL in a help
    pub loads_in : AllThere (step_at (lane_sizes z) s c t) o (outer t') → AllThere (step_at (lane_sizes z) s c t) (rank (step_at (lane_sizes z) s c t)) (inner t') → weight M z k' t' < weight M z (s.callers c) t
        → Onward M z (step_at (lane_sizes z) s c t) (s.callers c) k' o i
    loads_in out_there in_there less = let more = no_lower in let old = K.outer_past in let old' = K.inner_past in let r = rank s' in
        onto o r (record { outer_there = out_there; inner_there = in_there; outer_past = omega arith; inner_past = le_refl _ }) (inl (less, le_refl _, omega arith))

    -- a round begins again, as the rank is greater than the one that was kept for it
    pub restarts : AllThere (step_at (lane_sizes z) s c t) (rank (step_at (lane_sizes z) s c t)) (outer t') → AllThere (step_at (lane_sizes z) s c t) (rank (step_at (lane_sizes z) s c t)) (inner t') → o < rank (step_at (lane_sizes z) s c t) → weight M z k' t' ≤ most_weight M z
        → Onward M z (step_at (lane_sizes z) s c t) (s.callers c) k' o i
    restarts out_there in_there above fits = let more = no_lower in let old' = K.inner_past in let r = rank s' in
        onto r r (record { outer_there = out_there; inner_there = in_there; outer_past = le_refl _; inner_past = le_refl _ }) (inr (fits, (omega arith), (omega arith), omega arith))

    -- a help loads TAIL again, as the rank is greater than the one that was kept for that
    pub again : AllThere (step_at (lane_sizes z) s c t) o (outer t') → AllThere (step_at (lane_sizes z) s c t) (rank (step_at (lane_sizes z) s c t)) (inner t') → i < rank (step_at (lane_sizes z) s c t) → weight M z k' t' ≤ most_weight M z
        → Onward M z (step_at (lane_sizes z) s c t) (s.callers c) k' o i
    again out_there in_there above fits = let more = no_lower in let old = K.outer_past in let r = rank s' in
        onto o r (record { outer_there = out_there; inner_there = in_there; outer_past = omega arith; inner_past = le_refl _ }) (inr (fits, (omega arith), (omega arith), omega arith))
