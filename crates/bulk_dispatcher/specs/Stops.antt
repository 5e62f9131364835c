-- How few operations a hand makes, and what one leaves that met the end of its allowance.
use Rattle.std.specs.Prelude.{◌≡◌, ℕ, ◌+◌, ◌*◌, ◌^◌, ◌<◌, ◌≤◌, Bool, true, false, List, [], length, take, slice_index_or}
use Rattle.std.specs.List.{AllZip}
use Rattle.bq_model.specs.declared.shape.Shape.{Shape}
use Rattle.bq_model.specs.declared.group.Group.{Group}
use Rattle.bq_session.specs.Outcome.{made_by}
use Rattle.job_text.specs.declared.file.Unit.{Unit as JobUnit}
use Rattle.bulk_dispatcher.specs.declared.work.Work.{Work}
use Rattle.bulk_dispatcher.specs.declared.work.Work.TheVariants as work
use Rattle.bulk_dispatcher.specs.Books.{Numbered}
use Rattle.bulk_dispatcher.specs.Hands.{units_of, found_nothing_by, HandPut}

-- a lane that a hand works on: it takes 256 values of each caller, and 2^38 operations
pub record Serves (shape : Shape) : Type 0 where
  pub room : shape.room ≡ 256
  pub allowance : shape.allowance ≡ 2 ^ 38

-- Caller c put these units on a lane, and for each of them few of its dequeues found nothing.
pub record HandTried (units : List Numbered) (c : ℕ) (h : List Group) : Type 0 where
  pub put : HandPut units c h
  pub few : found_nothing_by h c ≤ 256 * length units

-- The allowance of caller c on a lane is spent but for less than a batch.
abbrev pub NearlySpent : ℕ → List Group → Type 0
NearlySpent c h = 2 ^ 38 < made_by h c + 256

-- Caller c put no unit on a lane, and stopped where its allowance was spent.
pub record MetSpent (c : ℕ) (old new : List Group) : Type 0 where
  pub put : (units : List Numbered) → HandPut units c old → HandPut units c new
  pub few : found_nothing_by new c ≤ found_nothing_by old c + 256
  pub spent : NearlySpent c new

-- A hand met the end of its allowance on one of these lanes. It had put those of its units that are among the first of the file.
pub record HandStopped (lanes : List ℕ) (file : List JobUnit) (hands c : ℕ) (seen : List (List Group)) : Type 0 where
  pub place : ℕ
  pub put : AllZip (λ lane h. HandPut (units_of (take place file) hands lane c) c h) lanes seen
  pub at : ℕ
  pub within : at < length lanes
  pub few : found_nothing_by (slice_index_or seen at []) c ≤ 256 * length file + 256
  pub spent : NearlySpent c (slice_index_or seen at [])

abbrev pub has_stopped : Work → Bool
has_stopped work.Done = false
has_stopped work.Spent = true

-- what is so where a part of a hand's work is done, and where the hand stopped
abbrev pub AtWork : Work → Type 0 → Type 0 → Type 0
AtWork work.Done done stopped = done
AtWork work.Spent done stopped = stopped
