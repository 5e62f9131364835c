-- An exchange that finds another word than it expects, and a second load that does, find a greater rank than the one that was
-- kept with that word.
use Rattle.std.proofs.Common.{◌≡◌, ◌≢◌, ◌⊎◌, inl, inr, ℕ, ◌<◌, subst}
use Rattle.word_rows.specs.declared.location.Location.{Location}
use Rattle.word_rows.specs.declared.content.Content.{Content}
use Rattle.lane_steps.specs.declared.act.Act.TheVariants.{Exchange}
use Rattle.lane_steps.specs.declared.point.AnswerPoint.{AnswerPoint}
use Rattle.lane_steps.specs.declared.point.AnswerPoint.TheVariants as answer
use Rattle.lane_steps.specs.declared.point.BatchPoint.{BatchPoint}
use Rattle.lane_steps.specs.declared.point.BatchPoint.TheVariants as batch
use Rattle.lane_steps.specs.declared.point.ClosePoint.{ClosePoint}
use Rattle.lane_steps.specs.declared.point.ClosePoint.TheVariants as close
use Rattle.lane_steps.specs.declared.point.DequeuePoint.{DequeuePoint}
use Rattle.lane_steps.specs.declared.point.DequeuePoint.TheVariants as deq
use Rattle.lane_steps.specs.declared.point.EnqueuePoint.{EnqueuePoint}
use Rattle.lane_steps.specs.declared.point.EnqueuePoint.TheVariants as enq
use Rattle.lane_steps.specs.declared.point.FillPoint.{FillPoint}
use Rattle.lane_steps.specs.declared.point.FillPoint.TheVariants as fill
use Rattle.lane_steps.specs.declared.point.Guarding.{Guarding}
use Rattle.lane_steps.specs.declared.point.GuardPoint.{GuardPoint}
use Rattle.lane_steps.specs.declared.point.GuardPoint.TheVariants.{StoreHazard, LoadAgain}
use Rattle.lane_steps.specs.declared.point.HelpPoint.{HelpPoint}
use Rattle.lane_steps.specs.declared.point.HelpPoint.TheVariants as help
use Rattle.lane_steps.specs.declared.point.ManyPoint.{ManyPoint}
use Rattle.lane_steps.specs.declared.point.ManyPoint.TheVariants as many
use Rattle.lane_steps.specs.declared.point.Point.{Point}
use Rattle.lane_steps.specs.declared.point.Point.TheVariants as point
use Rattle.lane_steps.specs.declared.point.TakePoint.{TakePoint}
use Rattle.lane_steps.specs.declared.point.TakePoint.TheVariants as take
use Rattle.lane_steps.specs.Guard.{source, expected}
use Rattle.lane_steps.specs.State.{State, read}
use Rattle.lane_steps.specs.Step.{act}
use Rattle.lane_rank.specs.Expected.{has, IsThere, Keeps, kept_with}
use Rattle.lane_rank.specs.Rank.{rank}
use Rattle.lane_rank.proofs.GuardOnward.{found_else}

module _ (s : State) (c o i : ℕ) where
  -- an exchange at l of old is the one at l' of old'
  same_word : (l l' : Location) (old old' new new' : Content) → Exchange l old new ≡ Exchange l' old' new' → (kept : ℕ) → (IsThere s.memory (has l old)) ⊎ (kept < rank s) → read s.memory l' ≢ old' → kept < rank s
  same_word l l' old old' new new' e kept (inl there) off = absurd (off (subst (λ (x : Location). read s.memory x ≡ old') (locations e) (subst (λ (x : Content). read s.memory l ≡ x) (contents e) there))) where
    locations : Exchange l old new ≡ Exchange l' old' new' → l ≡ l'
    locations e = cc e

    contents : Exchange l old new ≡ Exchange l' old' new' → old ≡ old'
    contents e = cc e
  same_word l l' old old' new new' e kept (inr below) off = below

  module _ (l : Location) (old new : Content) (off : read s.memory l ≢ old) where
    abbrev Failed : Point → Type 0
    Failed t = Keeps s t o i → act c t ≡ Exchange l old new → kept_with t o i < rank s

    failed_take : (t : _) (p : TakePoint) → Failed (point.Take t p)
    failed_take t (take.LoadMark r x) K e = absurd (cc e)
    failed_take t (take.ClearMark r) K e = absurd (cc e)
    failed_take t (take.ClearLink r) K e = absurd (cc e)

    failed_enqueue : (x : _) (p : EnqueuePoint) → Failed (point.Enqueue x p)
    failed_enqueue x enq.StoreValue K e = absurd (cc e)
    failed_enqueue x enq.LoadTail K e = absurd (cc e)
    failed_enqueue x (enq.LoadLink p) K e = absurd (cc e)
    failed_enqueue x (enq.LinkSingle p) K e = same_word _ l _ old _ new e o K.outer_there.0 off
    failed_enqueue x (enq.PassTail p n) K e = same_word _ l _ old _ new e o K.outer_there.0 off
    failed_enqueue x (enq.MoveTail p n) K e = same_word _ l _ old _ new e o K.outer_there.0 off
    failed_enqueue x enq.LoadHead K e = absurd (cc e)

    failed_dequeue : (p : DequeuePoint) → Failed (point.Dequeue p)
    failed_dequeue deq.LoadHead K e = absurd (cc e)
    failed_dequeue (deq.LoadLink p) K e = absurd (cc e)
    failed_dequeue (deq.LoadTail p n) K e = absurd (cc e)
    failed_dequeue (deq.LoadTailOver p n) K e = absurd (cc e)
    failed_dequeue (deq.PassTail p n) K e = same_word _ l _ old _ new e o K.outer_there.0 off
    failed_dequeue (deq.LoadValue p n) K e = absurd (cc e)
    failed_dequeue (deq.MoveHead p n v) K e = same_word _ l _ old _ new e o K.outer_there.0 off

    failed_fill : (n : _) (p : FillPoint) → Failed (point.Fill n p)
    failed_fill n (fill.StoreValue r v) K e = absurd (cc e)
    failed_fill n (fill.StoreChain j r q) K e = absurd (cc e)
    failed_fill n (fill.LoadHazard d) K e = absurd (cc e)

    failed_batch : (d : _) (p : BatchPoint) → Failed (point.Batch d p)
    failed_batch d (batch.StoreField f) K e = absurd (cc e)
    failed_batch d (batch.StoreAll f) K e = absurd (cc e)
    failed_batch d batch.LoadHead K e = absurd (cc e)
    failed_batch d batch.Install K e = same_word _ l _ old _ new e o K.outer_there.0 off

    failed_many : (d : _) (p : ManyPoint) → Failed (point.Many d p)
    failed_many d many.LoadHead K e = absurd (cc e)
    failed_many d many.LoadDummy K e = absurd (cc e)
    failed_many d (many.LoadLink r x) K e = absurd (cc e)
    failed_many d (many.LoadValue r x) K e = absurd (cc e)
    failed_many d (many.LoadTail r) K e = absurd (cc e)
    failed_many d (many.MoveHead r) K e = same_word _ l _ old _ new e o K.outer_there.0 off
    failed_many d (many.LoadBehind p) K e = absurd (cc e)
    failed_many d (many.PassTail p n) K e = same_word _ l _ old _ new e o K.outer_there.0 off
    failed_many d many.LoadChained K e = absurd (cc e)

    failed_help : (h : _) (p : HelpPoint) → Failed (point.Help h p)
    failed_help h help.LoadOldHead K e = absurd (cc e)
    failed_help h help.LoadFirst K e = absurd (cc e)
    failed_help h help.LoadLast K e = absurd (cc e)
    failed_help h help.LoadCounts K e = absurd (cc e)
    failed_help h help.LoadTail K e = absurd (cc e)
    failed_help h (help.LoadOldTail p) K e = absurd (cc e)
    failed_help h (help.LoadLink p) K e = absurd (cc e)
    failed_help h (help.LinkChain p) K e = same_word _ l _ old _ new e i K.inner_there.0 off
    failed_help h (help.Decide p) K e = same_word _ l _ old _ new e i K.inner_there.0 off
    failed_help h (help.PassTail p n) K e = same_word _ l _ old _ new e i K.inner_there.0 off
    failed_help h (help.RecordTail p) K e = same_word _ l _ old _ new e i K.inner_there.0 off
    failed_help h (help.LoadTailOver q) K e = absurd (cc e)
    failed_help h (help.MoveTailOver q) K e = same_word _ l _ old _ new e i K.inner_there.0 off
    failed_help h (help.LoadWalk m r x) K e = absurd (cc e)
    failed_help h (help.MoveHead m r) K e = same_word _ l _ old _ new e o K.outer_there.0 off

    failed_answer : (p : AnswerPoint) → Failed (point.Answer p)
    failed_answer (answer.LoadOldTail h) K e = absurd (cc e)
    failed_answer (answer.LoadLink b r x) K e = absurd (cc e)
    failed_answer (answer.LoadValue b r x) K e = absurd (cc e)

    failed_guard : (g : Guarding) (p : GuardPoint) → Failed (point.Guard g p)
    failed_guard g StoreHazard K e = absurd (cc e)
    failed_guard g LoadAgain K e = absurd (cc e)

    failed_close : (a : _) (p : ClosePoint) → Failed (point.Close a p)
    failed_close a (close.MarkRow q x y stopped) K e = absurd (cc e)
    failed_close a (close.MarkLoose r) K e = absurd (cc e)
    failed_close a close.ClearNode K e = absurd (cc e)
    failed_close a close.ClearAnn K e = absurd (cc e)
    failed_close a (close.LoadHazard d) K e = absurd (cc e)
    failed_close a (close.MarkFree r) K e = absurd (cc e)

  pub failed : (t : Point) → Keeps s t o i → (l : Location) (old new : Content) → act c t ≡ Exchange l old new → read s.memory l ≢ old → kept_with t o i < rank s
  failed point.Idle K l old new e off = absurd (cc e)
  failed (point.Take x p) K l old new e off = failed_take l old new off x p K e
  failed (point.Guard g p) K l old new e off = failed_guard l old new off g p K e
  failed (point.Enqueue x p) K l old new e off = failed_enqueue l old new off x p K e
  failed (point.Dequeue p) K l old new e off = failed_dequeue l old new off p K e
  failed (point.Fill n p) K l old new e off = failed_fill l old new off n p K e
  failed (point.Batch d p) K l old new e off = failed_batch l old new off d p K e
  failed (point.Many d p) K l old new e off = failed_many l old new off d p K e
  failed (point.Help h p) K l old new e off = failed_help l old new off h p K e
  failed (point.Answer p) K l old new e off = failed_answer l old new off p K e
  failed (point.Close a p) K l old new e off = failed_close l old new off a p K e

  -- the same of a second load
  pub looked_again : (g : Guarding) → Keeps s (point.Guard g LoadAgain) o i → read s.memory (source g) ≢ expected g → kept_with (point.Guard g LoadAgain) o i < rank s
  looked_again g K off = by (found_else s o i g K) where
    by : (IsThere s.memory (has (source g) (expected g))) ⊎ (kept_with (point.Guard g LoadAgain) o i < rank s) → kept_with (point.Guard g LoadAgain) o i < rank s
    by (inl there) = absurd (off there)
    by (inr below) = below
