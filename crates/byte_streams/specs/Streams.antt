-- What a call did to a stream.
use Rattle.std.specs.Prelude.{◌≡◌, ℕ, List, Option}
use Rattle.bq_model.specs.Device.{Rose}
use Rattle.byte_streams.specs.Output.{WroteFront}

-- The bytes of a stream, where it tells them, and the count of its faults, before a call and after it. The bytes of a
-- source are those that it has left, the bytes of a sink those that were written.
pub record Change : Type 0 where
  pub before : Option (List ℕ)
  pub after : Option (List ℕ)
  pub faults_before : ℕ
  pub faults_after : ℕ

-- the stream is as it was
pub record IsUntouched (stream : Change) : Type 0 where
  pub bytes : stream.after ≡ stream.before
  pub faults : stream.faults_after ≡ stream.faults_before

-- a read or a write failed in the call, or so many have failed that the count says no more
abbrev pub IsFaulty : Change → Type 0
IsFaulty stream = Rose stream.faults_before stream.faults_after

-- A write failed at the sink that was due, which has a front of its text. The other sink is as it was.
pub record FailsAt (due other : Change) (text : List ℕ) : Type 0 where
  pub faulty : IsFaulty due
  pub front : WroteFront due.before due.after text
  pub other_stays : IsUntouched other

-- what a call did to a stream of this kind
abbrev pub change : {X : Type 0} → (X → Option (List ℕ)) → (X → ℕ) → X → X → Change
change bytes faults old new = record { before = bytes old; after = bytes new; faults_before = faults old; faults_after = faults new }
