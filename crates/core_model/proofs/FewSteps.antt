-- In a lawful lane the lists of each caller fit, and few rows stay few at each step of each caller and at each start.
use Rattle.std.proofs.Common.{◌≡◌, ◌==◌, ℕ, ◌<◌, ◌≤◌, ◌∙◌, Bool, true, false, List, [], ◌∷◌, length, ap, sym, subst, refl, arith, inl, None}
use Rattle.bq_model.specs.declared.op.Op.{Op}
use Rattle.bq_model.specs.declared.op.Op.TheVariants.{Enq, Deq, Shut}
use Rattle.bq_model.specs.declared.shape.Shape.{Shape}
use Rattle.std.proofs.lemmas.List.Sums.{count_by-le-length}
use Rattle.excess_count.specs.Excess.{enqueue_count, is_enqueue}
use Rattle.word_rows.proofs.SizeLemmas.{rows_within}
use Rattle.word_rows.specs.Layout.{IsValid}
use Rattle.lane_steps.specs.declared.point.Closing.{Closing}
use Rattle.lane_steps.specs.declared.point.ClosePoint.TheVariants as close
use Rattle.lane_steps.specs.declared.point.Point.TheVariants as point
use Rattle.lane_steps.specs.LaneSizes.{LaneSizes, lane_sizes}
use Rattle.lane_steps.specs.Ranges.{RowsFit}
use Rattle.lane_steps.specs.declared.point.Notice.{Notice}
use Rattle.lane_steps.specs.declared.point.Point.{Point}
use Rattle.lane_steps.specs.Functions.{Distinct}
use Rattle.lane_steps.specs.Start.{begun, batch_point, draft_of}
use Rattle.lane_steps.specs.State.{Caller, State, read, hazard_in}
use Rattle.lane_steps.specs.Step.{target, course, after, next, history_with}
use Rattle.core_model.specs.Few.{ListsFit, Early, Few, HasFew}
use Rattle.core_model.specs.Lawful.{Lawful}
use mathlib.Core.Logic.{dite}
use native.Mathlib.Decide.{ℕ_discrete}
use Rattle.core_model.proofs.Alone.{others_stay}
use Rattle.core_model.proofs.CodedSteps.{is_valid}
use Rattle.core_model.proofs.Puts.{put_here}
use Rattle.core_model.proofs.Steps.{preserves_next}
use Rattle.core_model.proofs.FewAfter.{few_after}
use Rattle.core_model.proofs.FewFor.{leads}
use Rattle.core_model.proofs.InRange.{is_word, rows_fit, shape_fits}
use Rattle.core_model.proofs.ReadValues.{values_fit, walked_fit, rows_left, chains_left, named_fit, own_unnamed, retired_apart}

module _ (key : Shape) (s : State) (L : Lawful (lane_sizes key) s) (c : ℕ) where
  abbrev z : LaneSizes
  z = lane_sizes key

  abbrev me : Caller
  me = s.callers c

  pub lists_fit : ListsFit key.callers me
  lists_fit = record {
    reads = λ b r l is. let f = values_fit z s L c b r l is in record { left = f.0; paired = f.1 };
    walks = λ d r l is. let f = walked_fit z s L c d r l is in record { left = f.0; paired = f.1 };
    fills = rows_left z s L c;
    chains = chains_left z s L c;
    marks = λ a q read passed stopped is. subst RowsFit is (rows_fit z s L (shape_fits key) (let most = rows_within key in omega arith) c);
    hears = named_fit z s L c;
    retired = retired_apart z s L c;
  }

  -- in its scan for rows it finds nothing in its own hazard word
  own_word : (a : Closing) → me.point ≡ point.Close a (close.LoadHazard c) → hazard_in (read s.memory (target c me.point)) ≡ None
  own_word a is = ap (λ t. hazard_in (read s.memory (target c t))) is ∙ own_unnamed z s L c a is

  -- few rows stay few at a step
  pub few_goes : c < key.callers → length me.ops ≤ key.batch → IsValid key (target c me.point) → HasFew key c me → (n : ℕ) → Distinct (after z n c me me.point (read s.memory (target c me.point))).retired
      → HasFew key c (after z n c me me.point (read s.memory (target c me.point)))
  few_goes known short valid few n apart = few_after key c n known key.some_batch.0 me short (course me.point (read s.memory (target c me.point)))
      (leads key c me lists_fit (read s.memory (target c me.point)) me.point refl few valid own_word) apart

  few_next : c < key.callers → length me.ops ≤ key.batch → HasFew key c me → HasFew key c ((next z s c).callers c)
  unfolding next
  few_next known short few = let x = read s.memory (target c me.point) in let n = length (history_with z s c me.point x) in let k = after z n c me me.point x in
      subst (HasFew key c) (sym (put_here s.callers c k)) (few_goes known short (is_valid key c me.point (is_word z s L c)) few n
      (subst (λ (y : Caller). Distinct y.retired) (put_here s.callers c k) (retired_apart z (next z s c) (preserves_next z s L c) c)))

-- of every caller
pub few_stays : (key : Shape) (s : State) → Lawful (lane_sizes key) s → (c : ℕ) → ((d : ℕ) → d < key.callers → HasFew key d (s.callers d) × (length (s.callers d).ops ≤ key.batch))
    → (d : ℕ) → d < key.callers → HasFew key d ((next (lane_sizes key) s c).callers d)
few_stays key s L c few d inside = dite (ℕ_discrete d c)
    (λ same. subst (λ (e : ℕ). HasFew key e ((next (lane_sizes key) s c).callers e)) (sym same) (let own : c < key.callers = subst (λ (e : ℕ). e < key.callers) same inside in few_next key s L c own (few c own).1 (few c own).0))
    (λ apart. subst (HasFew key d) (sym (others_stay (lane_sizes key) s c d apart)) (few d inside).0)

-- and at a start
module _ (key : Shape) (c n : ℕ) (k : Caller) (few : length k.retired < key.callers) where
  early : (ops : List Op) → Early key ops [] [] k.retired
  early ops = record { few_rows = inl (omega arith); few_walked = (let most = count_by-le-length is_enqueue ops in omega arith); few_retired = few }

  abbrev At : List Op → Point → Type 0
  At ops t = Few key c t ops [] [] k.retired k.named

  of_batch : (ops os : List Op) (m : Notice) (b : Bool) → At ops (batch_point (lane_sizes key) c os m b)
  of_batch ops os m true = early ops
  of_batch ops os m false = early ops

  pub few_starts : (ops : List Op) → HasFew key c (begun (lane_sizes key) n c k ops)
  few_starts [] = few
  few_starts (Enq v ∷ []) = early (Enq v ∷ [])
  few_starts (Deq ∷ []) = early (Deq ∷ [])
  few_starts (Shut ∷ []) = few
  few_starts (op ∷ next ∷ ops) = of_batch (op ∷ next ∷ ops) (op ∷ next ∷ ops) (draft_of c k (op ∷ next ∷ ops)) (enqueue_count (op ∷ next ∷ ops) == 0)
