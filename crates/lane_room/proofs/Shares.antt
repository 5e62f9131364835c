-- Each caller keeps back no more than its share, at each step and each start of a command.
use Rattle.std.proofs.Common.{◌≡◌, ℕ, ◌<◌, ◌≤◌, List, [], length, sym, ap, ◌∙◌, subst, refl, arith, inl, inr, None}
use mathlib.Core.Logic.{dite}
use native.Mathlib.Decide.{ℕ_discrete}
use Rattle.bq_model.specs.declared.op.Op.{Op}
use Rattle.bq_model.specs.declared.shape.Shape.{Shape}
use Rattle.word_rows.specs.declared.content.Content.{Content}
use Rattle.lane_steps.specs.declared.point.Closing.{Closing}
use Rattle.lane_steps.specs.declared.point.ClosePoint.TheVariants as close
use Rattle.lane_steps.specs.declared.point.Point.{Point}
use Rattle.lane_steps.specs.declared.point.Point.TheVariants.{Idle}
use Rattle.lane_steps.specs.declared.point.Point.TheVariants as point
use Rattle.lane_steps.specs.LaneSizes.{LaneSizes, lane_sizes}
use Rattle.lane_steps.specs.Start.{begun, start, opening}
use Rattle.lane_steps.specs.State.{Caller, State, read, hazard_in}
use Rattle.lane_steps.specs.Step.{target, course, after, next, history_with}
use Rattle.core_model.specs.Alone.{GoesOnOrEnds}
use Rattle.core_model.specs.Few.{Few}
use Rattle.core_model.specs.Lawful.{Lawful}
use Rattle.core_model.proofs.Alone.{others_stay, goes_on_or_ends}
use Rattle.core_model.proofs.CodedSteps.{is_valid}
use Rattle.core_model.proofs.FewFor.{leads}
use Rattle.core_model.proofs.FewSteps.{lists_fit, few_starts, few_stays}
use Rattle.core_model.proofs.InRange.{is_word}
use Rattle.core_model.proofs.Puts.{put_here, put_else, put_all}
use Rattle.core_model.proofs.ReadValues.{own_unnamed}
use Rattle.core_model.proofs.Steps.{no_operation, preserves_next}
use Rattle.lane_room.specs.Busy.{share}
use Rattle.lane_room.specs.Share.{Share, Shares}
use Rattle.lane_room.proofs.Waiting.{waits_after}

module _ (shape : Shape) (s : State) (L : Lawful (lane_sizes shape) s) (S : Shares shape s.callers) (c : ℕ) where
  abbrev z : LaneSizes
  z = lane_sizes shape

  abbrev me : Caller
  me = s.callers c

  abbrev found : Content
  found = read s.memory (target c me.point)

  abbrev s' : State
  s' = next (lane_sizes shape) s c

  -- in its scan for rows it finds nothing in its own hazard word
  own_word : (a : Closing) → me.point ≡ point.Close a (close.LoadHazard c) → hazard_in (read s.memory (target c me.point)) ≡ None
  own_word a is = ap (λ t. hazard_in (read s.memory (target c t))) is ∙ own_unnamed z s L c a is

  waits_next : c < shape.callers → length ((next (lane_sizes shape) s c).callers c).retired ≤ share shape
  unfolding next
  waits_next known = let H = S.each c known in let n = length (history_with z s c me.point found) in
      subst (λ (k : Caller). length k.retired ≤ share shape) (sym (put_here s.callers c (after z n c me me.point found)))
      (waits_after shape c n me H.waits (course me.point found)
      (leads shape c me (lists_fit shape s L c) found me.point refl H.few (is_valid shape c me.point (is_word z s L c)) own_word))

  short_next : c < shape.callers → length ((next (lane_sizes shape) s c).callers c).ops ≤ shape.batch
  short_next known = own (goes_on_or_ends z s c) where
    own : GoesOnOrEnds c (s.callers c) ((next (lane_sizes shape) s c).callers c) → length ((next (lane_sizes shape) s c).callers c).ops ≤ shape.batch
    own (inl goes_on) = let same = ap length goes_on.0 in let short = (S.each c known).short in omega (arith, same, short)
    own (inr ended) = let none = ap length (no_operation z s' (preserves_next z s L c) c ended.0) in omega (arith, none)

  share_next : (d : ℕ) → d < shape.callers → Share shape d ((next (lane_sizes shape) s c).callers d)
  share_next d known = record {
    few = few_stays shape s L c (λ e inside. let H = S.each e inside in (H.few, H.short)) d known;
    short = of_each (λ k. length k.ops ≤ shape.batch) (λ inside. short_next inside) (S.each d known).short;
    waits = of_each (λ k. length k.retired ≤ share shape) (λ inside. waits_next inside) (S.each d known).waits;
  } where
    of_each : (P : Caller → Type 0) → (c < shape.callers → P ((next (lane_sizes shape) s c).callers c)) → P (s.callers d) → P ((next (lane_sizes shape) s c).callers d)
    of_each P own other = dite (ℕ_discrete d c)
        (λ same. subst (λ (e : ℕ). P (s'.callers e)) (sym same) (own (subst (λ (e : ℕ). e < shape.callers) same known)))
        (λ apart. subst P (sym (others_stay z s c d apart)) other)

  -- who is idle stays as it is
  stays_idle : (t : Point) → me.point ≡ t → t ≡ Idle → (next (lane_sizes shape) s c).callers c ≡ s.callers c
  unfolding next
  stays_idle t is idle = put_here s.callers c _ ∙ ap (λ (u : Point). after z (length (history_with z s c me.point found)) c me u found) (is ∙ idle) ∙ same (s.callers c) (is ∙ idle) where
    same : (k : Caller) → k.point ≡ Idle → record k { point = Idle } ≡ k
    same k e = λ j. record k { point = sym e j }

  pub shares_next : Shares shape (next (lane_sizes shape) s c).callers
  shares_next = record {
    each = share_next;
    resting = λ d above. dite (ℕ_discrete d c)
        (λ same. let rests = S.resting d above in subst (λ (e : ℕ). ((s'.callers e).point ≡ Idle) × ((s'.callers e).retired ≡ [])) (sym same)
        (subst (λ (k : Caller). (k.point ≡ Idle) × (k.retired ≡ [])) (sym (stays_idle Idle (own same above).0 refl)) (own same above)))
        (λ apart. subst (λ (k : Caller). (k.point ≡ Idle) × (k.retired ≡ [])) (sym (others_stay z s c d apart)) (S.resting d above));
  } where
    own : {d : ℕ} → d ≡ c → shape.callers ≤ d → (me.point ≡ Idle) × (me.retired ≡ [])
    own {d = d} same above = subst (λ (e : ℕ). ((s.callers e).point ≡ Idle) × ((s.callers e).retired ≡ [])) same (S.resting d above)

-- a command starts, no longer than a batch may be
pub shares_start : (shape : Shape) (s : State) → Shares shape s.callers → (c : ℕ) (ops : List Op) → c < shape.callers → (s.callers c).point ≡ Idle → length ops ≤ shape.batch
    → Shares shape (start (lane_sizes shape) s c ops).callers
shares_start shape s S c ops known idle short = record {
  each = put_all s.callers c (begun (lane_sizes shape) (length s.history) c (s.callers c) ops) (λ d k. d < shape.callers → Share shape d k)
      (λ _. record { few = few_starts shape c (length s.history) (s.callers c) few ops; short = short; waits = (S.each c known).waits })
      (λ d _ inside. S.each d inside);
  resting = λ d above. subst (λ (k : Caller). (k.point ≡ Idle) × (k.retired ≡ [])) (sym (put_else s.callers c (begun (lane_sizes shape) (length s.history) c (s.callers c) ops) d (λ e. absurd (omega (arith, e, above, known))))) (S.resting d above);
} where
  few : length (s.callers c).retired < shape.callers
  few = subst (λ (t : Point). Few shape c t (s.callers c).ops (s.callers c).rows (s.callers c).walked (s.callers c).retired (s.callers c).named) idle (S.each c known).few

pub shares_open : (shape : Shape) → Shares shape (opening (lane_sizes shape)).callers
shares_open shape = record {
  each = λ d known. record { few = shape.some_callers.0; short = omega arith; waits = omega arith };
  resting = λ d above. (refl, refl);
}
