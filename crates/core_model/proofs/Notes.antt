-- A start and a step note what becomes of a command, and change one word at most.
use Rattle.std.proofs.Common.{◌≡◌, ◌≢◌, inl, inr, ℕ, List, length, refl, sym, subst}
use Rattle.bq_model.specs.declared.op.Op.{Op}
use Rattle.word_rows.specs.declared.location.Location.{Location}
use Rattle.lane_steps.specs.declared.point.Closing.{Closing}
use Rattle.lane_steps.specs.declared.point.Closing.TheVariants.{Plain, Batch, Full}
use Rattle.lane_steps.specs.declared.point.Hold.{Hold}
use Rattle.lane_steps.specs.LaneSizes.{LaneSizes}
use Rattle.lane_steps.specs.State.{Caller, State, read}
use Rattle.lane_steps.specs.Step.{target, stored, course, history_with, after, next, ended}
use Rattle.lane_steps.specs.Start.{begun, start}
use Rattle.core_model.specs.Noted.{Begins, IsNoted}
use Rattle.core_model.proofs.Follows.{holding_these, Somehow, ends_somehow, follows}
use Rattle.core_model.proofs.Memories.{written_elsewhere}
use Rattle.core_model.proofs.Puts.{put_here}

ends_noted : (n c : ℕ) (k : Caller) (rows vs ws retired named : List ℕ) (h r : Hold) (a : Closing) → IsNoted n c k (ended n c (holding_these k rows vs ws retired named h r) a)
ends_noted n c k rows vs ws retired named h r (Plain x) = inr (inl record { point = refl; ops = refl; mine = refl; started_at = refl; ended_at = refl; outcome = refl })
ends_noted n c k rows vs ws retired named h r (Batch m) = inr (inl record { point = refl; ops = refl; mine = refl; started_at = refl; ended_at = refl; outcome = refl })
ends_noted n c k rows vs ws retired named h r Full = inr (inr record { point = refl; ops = refl; mine = refl; started_at = refl; ended_at = refl; outcome = refl; answers = refl })

pub step_noted : (z : LaneSizes) (s : State) (c : ℕ) → IsNoted (length (next z s c).history) c (s.callers c) ((next z s c).callers c)
unfolding next
step_noted z s c = let k = s.callers c in let x = read s.memory (target c k.point) in let n = length (history_with z s c k.point x) in
    subst (IsNoted n c k) (sym (put_here s.callers c (after z n c k k.point x)))
    (follows z n c k (IsNoted n c k) (λ _ _ _ _ _ _ _ _. inl record { ops = refl; mine = refl; started_at = refl; ended_at = refl; outcome = refl; answers = refl }) Somehow (λ rows vs ws retired named h r a _. ends_noted n c k rows vs ws retired named h r a) (course k.point x) (ends_somehow (course k.point x)))

pub other_words : (z : LaneSizes) (s : State) (c : ℕ) (l : Location) → l ≢ target c (s.callers c).point → read (next z s c).memory l ≡ read s.memory l
unfolding next
other_words z s c l other = let t = (s.callers c).point in written_elsewhere s.memory (target c t) l (stored c t (read s.memory (target c t))) other

pub start_noted : (z : LaneSizes) (s : State) (c : ℕ) (ops : List Op) → Begins (length s.history) ops (s.callers c) ((start z s c ops).callers c)
start_noted z s c ops = subst (Begins (length s.history) ops (s.callers c)) (sym (put_here s.callers c (begun z (length s.history) c (s.callers c) ops)))
    record { ops = refl; mine = refl; retired = refl; started_at = refl; ended_at = refl; outcome = refl; answers = refl }
