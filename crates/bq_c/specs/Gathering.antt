-- Passes of one lane, and what a pass is that the callers of two were gathered into.
use Rattle.std.specs.Prelude.{◌≡◌, ◌++◌, ℕ, List, [], length, All, Contains, Option, Some, None, IfSome}
use Rattle.bq_model.specs.Proper.{IsProper}
use Rattle.bq_model.specs.Grows.{SawMore}
use Rattle.bq_lane.specs.Pass.{LaneState, PassState}
use Rattle.bq_c.specs.declared.pass.BqPass.{BqPass}
use Rattle.bq_c.specs.declared.seat.Seat.{Seat}

-- a pass of this lane that holds one caller
abbrev pub OneCallerOf : LaneState → PassState → Type 0
OneCallerOf lane pass = (length pass.callers ≡ 1) × (pass.table ≡ lane.table) × (pass.shape ≡ lane.shape)

-- there is a lane of which each of these is a pass that holds one caller
pub record OfOneLane (passes : List BqPass) : Type 0 where
  pub lane : LaneState
  pub each : All (λ pass. IfSome pass.address.seat (λ seat. OneCallerOf lane seat.pass)) passes

-- the callers of a seat, and none where there is none
abbrev pub callers_at : Option Seat → List ℕ
callers_at (Some seat) = seat.pass.callers
callers_at None = []

-- the callers that a pass holds
abbrev pub callers_of : BqPass → List ℕ
callers_of pass = callers_at pass.address.seat

-- It has the callers of both, and goes on what each of them had seen.
pub record Gathered (first second both : PassState) : Type 0 where
  pub of_this_lane : (both.table ≡ first.table) × (both.shape ≡ first.shape)
  pub of_both : both.callers ≡ first.callers ++ second.callers
  pub goes_on_the_first : (c : ℕ) → Contains first.callers c → SawMore c first.seen both.seen
  pub goes_on_the_second : (c : ℕ) → Contains second.callers c → SawMore c second.seen both.seen
  pub proper : IsProper both.shape.callers both.seen
