-- Each step of each caller keeps the lane lawful, and so does the start of a command.
use Rattle.std.proofs.Common.{◌≡◌, ◌≢◌, ℕ, ◌-◌, ◌<◌, eqb, Bool, true, false, cond, List, [], ◌∷◌, ◌++◌, length, sym, refl, ap, ◌∙◌, arith, le_refl, Some, None}
use Rattle.std.proofs.lemmas.Bool.{eqb-true, eqb-false}
use Rattle.bq_model.specs.declared.op.Op.{Op}
use Rattle.bq_model.specs.declared.op.Op.TheVariants.{Enq, Deq, Shut}
use Rattle.excess_count.specs.Excess.{enqueue_count}
use Rattle.excess_count.proofs.ExcessLaws.{count-ops}
use Rattle.lane_steps.specs.declared.point.Notice.{Notice}
use Rattle.lane_steps.specs.declared.point.Point.{Point}
use Rattle.lane_steps.specs.declared.point.Point.TheVariants.{Idle}
use Rattle.lane_steps.specs.declared.point.Point.TheVariants as point
use Rattle.lane_steps.specs.LaneSizes.{LaneSizes, own_row, own_count}
use Rattle.lane_steps.specs.State.{Caller, State, own_group, command}
use Rattle.lane_steps.specs.Fact.{linearized_is, drafts, fills, seeks}
use Rattle.lane_steps.specs.Step.{step_at, next}
use Rattle.lane_steps.specs.Start.{PassesAllowance, IsCommand, draft_of, first_point, batch_point, begun, start}
use Rattle.core_model.specs.Facts.{Holds, AtPoint}
use Rattle.core_model.specs.Kept.{Kept}
use Rattle.core_model.specs.Lawful.{Allowed, Lawful}
use Rattle.core_model.proofs.Rely.{world}
use Rattle.core_model.proofs.Preserves.{known, stutters_at, replaced}
use Rattle.core_model.proofs.EnqueueSteps.{preserves_enqueue}
use Rattle.core_model.proofs.DequeueSteps.{preserves_dequeue}
use Rattle.core_model.proofs.FillRows.{preserves_fill}
use Rattle.core_model.proofs.BatchSteps.{preserves_batch}
use Rattle.core_model.proofs.ManySteps.{preserves_many}
use Rattle.core_model.proofs.HelpSteps.{preserves_help}
use Rattle.core_model.proofs.AnswerSteps.{preserves_answer}
use Rattle.core_model.proofs.Takes.{preserves_take}
use Rattle.core_model.proofs.Guards.{preserves_guard}
use Rattle.core_model.proofs.CallEnds.{preserves_close}

module _ (z : LaneSizes) (s : State) (L : Lawful z s) (c : ℕ) where
  pub preserves_at : (t : Point) → (s.callers c).point ≡ t → Lawful z (step_at z s c t)
  preserves_at Idle is = let f = known z s L c Idle is in stutters_at z s L c Idle Idle refl refl refl (record { call = f.call; here = f.here })
  preserves_at (point.Enqueue x p) is = preserves_enqueue z s L c x p is
  preserves_at (point.Dequeue p) is = preserves_dequeue z s L c p is
  preserves_at (point.Fill n p) is = preserves_fill z s L c n p is
  preserves_at (point.Batch d p) is = preserves_batch z s L c d p is
  preserves_at (point.Many d p) is = preserves_many z s L c d p is
  preserves_at (point.Help h p) is = preserves_help z s L c h p is
  preserves_at (point.Answer p) is = preserves_answer z s L c p is
  preserves_at (point.Take t p) is = preserves_take z s L c t p is
  preserves_at (point.Guard t p) is = preserves_guard z s L c t p is
  preserves_at (point.Close a p) is = preserves_close z s L c a p is

  -- THE core theorem: a step of any caller keeps the lane lawful
  pub preserves_next : Lawful z (next z s c)
  unfolding next
  preserves_next = preserves_at (s.callers c).point refl

  pub no_operation : (s.callers c).point ≡ Idle → (s.callers c).ops ≡ []
  no_operation idle = (known z s L c Idle idle).here.0.0

  module _ (idle : (s.callers c).point ≡ Idle) (known_caller : c < z.callers) where
    nothing_yet : Holds z (world s L.ghost) c (linearized_is false [] [] [])
    nothing_yet = (known z s L c Idle idle).call.0

    -- its search begins at the first of its rows
    seeks_first : (b : Bool) → Holds z (world s L.ghost) c (seeks b (own_row z c b 0) (own_count z b - 1))
    seeks_first b = (0, refl, let some = L.sizes.some b in omega arith)

    -- a batch begins with a row for its first value, or with its walk
    module _ (op op' : Op) (ops : List Op) (is : IsCommand (op ∷ op' ∷ ops)) where
      abbrev all : List Op
      all = op ∷ op' ∷ ops

      abbrev k : Caller
      k = begun z (length s.history) c (s.callers c) (op ∷ op' ∷ ops)

      abbrev d : Notice
      d = draft_of c (s.callers c) (op ∷ op' ∷ ops)

      draft_knows : Holds z (world s L.ghost) c (drafts (command k) d)
      draft_knows = record { known = known_caller; describes = record { counts = refl; number = refl; order0 = refl; order1 = refl; order2 = refl; order3 = refl }; several = omega arith; plain = is.1 }

      none_filled : Holds z (world s L.ghost) c (fills [] (op ∷ op' ∷ ops) 0)
      none_filled = record {
        taken = λ l below. absurd (omega arith);
        distinct = tt;
        values = λ l below _. absurd (omega arith);
        joined = λ l below _. absurd (omega arith);
        nil = λ l below _. absurd (omega arith);
      }

      batch_knows : (b : Bool) → eqb (enqueue_count (op ∷ op' ∷ ops)) 0 ≡ b → AtPoint z (world s L.ghost) c k (batch_point z c (op ∷ op' ∷ ops) d b)
      batch_knows true e = let none = eqb-true (enqueue_count all) 0 e in let parts = count-ops all is.1 in record {
        call = (nothing_yet, (draft_knows, (none_filled, (((λ _. refl), λ some. absurd (some refl)), ((none, omega arith), tt)))));
        here = (tt, tt);
      }
      batch_knows false e = let some = eqb-false (enqueue_count all) 0 e in record {
        call = (nothing_yet, (draft_knows, (none_filled, (record { inside = positive (enqueue_count all) some; value = refl }, tt))));
        here = (seeks_first false, tt);
      } where
        positive : (n : ℕ) → n ≢ 0 → 0 < n
        positive n ne = omega arith

    first_knows : (ops : List Op) → IsCommand ops → AtPoint z (world s L.ghost) c (begun z (length s.history) c (s.callers c) ops) (first_point z c (s.callers c) ops)
    first_knows [] is = let some = is.0 in absurd (omega arith)
    first_knows (Enq v ∷ []) is = record { call = (nothing_yet, ((refl, known_caller, refl), tt)); here = (seeks_first false, tt) }
    first_knows (Deq ∷ []) is = record { call = (nothing_yet, ((refl, known_caller, refl), tt)); here = tt }
    first_knows (Shut ∷ []) is = absurd is.1
    first_knows (op ∷ op' ∷ ops) is = batch_knows op op' ops is (eqb (enqueue_count (op ∷ op' ∷ ops)) 0) refl

  -- what is kept of the last command, as the next one starts
  kept_begun : (ops : List Op) → Kept s.history c (begun z (length s.history) c (s.callers c) ops)
  kept_begun ops = let K = (L.callers c).knows.last in record {
    none = K.none;
    done = λ is. let y = K.done is in record { earlier = y.earlier; ops = y.ops; last = y.last; stands = y.stands; timely = λ n e. absurd (nothing n e) };
  } where
    nothing : (n : ℕ) → None ≡ Some n → ⊥
    nothing n e = cc e

  -- the start of a command keeps the lane lawful
  pub preserves_start : (ops : List Op) → IsCommand ops → (s.callers c).point ≡ Idle → c < z.callers → ¬ (PassesAllowance z (s.callers c) (length ops)) → Lawful z (start z s c ops)
  preserves_start ops is idle at left = let k : Caller = begun z (length s.history) c (s.callers c) ops in let off = (nothing_yet idle at).0 in let o = L.callers c in replaced z s L c k refl refl (nothing_yet idle at).1
      (o.own_groups ∙ (ap (λ (b : Bool). (s.callers c).mine ++ cond b (own_group c (s.callers c) ∷ []) []) off ∙ sym (ap (λ (b : Bool). k.mine ++ cond b (own_group c k ∷ []) []) off)))
      (within left)
      (record { retired = o.knows.retired; started = le_refl _; last = kept_begun ops; at_point = first_knows idle at ops is }) where
        within : ¬ (PassesAllowance z (s.callers c) (length ops)) → Allowed z (s.callers c).mine ops
        within left = omega arith
