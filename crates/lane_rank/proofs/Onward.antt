-- Each step of a caller ends its command, or lowers what is left to it.
use Rattle.std.proofs.Common.{◌≡◌, inl, ℕ, ◌≤◌, length, sym, refl, subst, arith}
use Rattle.bq_model.specs.declared.shape.Shape.{Shape}
use Rattle.excess_count.specs.declared.counts.Counts.{Counts}
use Rattle.word_rows.specs.Fits.{CountsFit}
use Rattle.lane_steps.specs.declared.point.AnswerPoint.{AnswerPoint}
use Rattle.lane_steps.specs.declared.point.AnswerPoint.TheVariants as answer
use Rattle.lane_steps.specs.declared.point.Point.{Point}
use Rattle.lane_steps.specs.declared.point.Point.TheVariants as point
use Rattle.lane_steps.specs.Coded.{PointFits, IsCoded}
use Rattle.lane_steps.specs.LaneSizes.{lane_sizes}
use Rattle.lane_steps.specs.State.{Caller, State, read}
use Rattle.lane_steps.specs.Step.{target, after, history_with, step_at, next}
use Rattle.core_model.specs.Few.{Few}
use Rattle.core_model.specs.Lawful.{Lawful}
use Rattle.core_model.proofs.Puts.{put_here}
use Rattle.lane_rank.specs.Expected.{Keeps}
use Rattle.lane_rank.specs.Return.{most_count, Onward, Fits}
use Rattle.lane_rank.proofs.AnswerOnward.{FewRead, answer_onward}
use Rattle.lane_rank.proofs.BatchOnward.{batch_onward}
use Rattle.lane_rank.proofs.CloseOnward.{close_onward}
use Rattle.lane_rank.proofs.DequeueOnward.{dequeue_onward}
use Rattle.lane_rank.proofs.EnqueueOnward.{enqueue_onward}
use Rattle.lane_rank.proofs.FillOnward.{fill_onward}
use Rattle.lane_rank.proofs.GuardOnward.{guard_onward}
use Rattle.lane_rank.proofs.HelpOnwards.{help_onward}
use Rattle.lane_rank.proofs.ManyOnward.{many_onward}
use Rattle.lane_rank.proofs.TakeOnward.{take_onward}

-- no count of a batch is greater, by the word that has it
few_counts : (k : Counts) → CountsFit k → k.deqs ≤ most_count
few_counts k f = let few = f.1 in omega arith

module _ (z : Shape) (s : State) (L : Lawful (lane_sizes z) s) (c n o i : ℕ) (short : length (s.callers c).ops ≤ z.batch) where
  abbrev M : ℕ
  M = most_count

  abbrev k : Caller
  k = s.callers c

  -- what it keeps after a step at this point
  abbrev then : Point → Caller
  then t = after (lane_sizes z) n c k t (read s.memory (target c t))

  few_read : (p : AnswerPoint) → PointFits z (point.Answer p) → FewRead most_count p
  few_read (answer.LoadOldTail h) f = few_counts h.counts f.counts
  few_read (answer.LoadLink b r l) f = tt
  few_read (answer.LoadValue b r l) f = tt

  pub onward_at : (t : Point) → (s.callers c).point ≡ t → PointFits z t → Few z c t (s.callers c).ops (s.callers c).rows (s.callers c).walked (s.callers c).retired (s.callers c).named → Keeps s t o i
      → Onward most_count z (step_at (lane_sizes z) s c t) (s.callers c) (after (lane_sizes z) n c (s.callers c) t (read s.memory (target c t))) o i
  onward_at point.Idle is fits few K = inl refl
  onward_at (point.Take t p) is fits few K = take_onward z s L c M n o i short few t p is K
  onward_at (point.Guard g p) is fits few K = guard_onward z s L c M n g p is o i K
  onward_at (point.Enqueue x p) is fits few K = enqueue_onward z s L c M n o i short few x p is K
  onward_at (point.Dequeue p) is fits few K = dequeue_onward z s L c M n o i short few p is K
  onward_at (point.Fill m p) is fits few K = fill_onward z s L c M n o i short few m p is K
  onward_at (point.Batch d p) is fits few K = batch_onward z s L c M n o i d p is K
  onward_at (point.Many d p) is fits few K = many_onward z s L c M n o i short few d (few_counts d.notice.counts fits.0.1.counts) p is K
  onward_at (point.Help h p) is fits few K = help_onward z s L c M n h p (few_counts h.counts fits.0.counts) is o i K
  onward_at (point.Answer p) is fits few K = answer_onward z s L c M short few n p (few_read p fits) is o i K
  onward_at (point.Close a p) is fits few K = close_onward z s L c M n o i a p is K

-- THE step: what its caller keeps then
pub onward : (z : Shape) (s : State) → Lawful (lane_sizes z) s → IsCoded z s → (c : ℕ) → Fits z c (s.callers c) → (o i : ℕ) → Keeps s (s.callers c).point o i
    → Onward most_count z (next (lane_sizes z) s c) (s.callers c) ((next (lane_sizes z) s c).callers c) o i
unfolding next
onward z s L coded c fits o i K = let x = read s.memory (target c (s.callers c).point) in let n = length (history_with (lane_sizes z) s c (s.callers c).point x) in let k = after (lane_sizes z) n c (s.callers c) (s.callers c).point x in
    subst (λ (y : Caller). Onward most_count z (step_at (lane_sizes z) s c (s.callers c).point) (s.callers c) y o i) (sym (put_here s.callers c k))
    (onward_at z s L c n o i fits.1 (s.callers c).point refl (coded.points c) fits.0 K)
