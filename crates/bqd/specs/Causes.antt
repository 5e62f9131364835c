-- The causes of each status, over the command, the input's bytes and the counts of faults.
use Rattle.std.specs.Prelude.{◌≡◌, true, false, ℕ, map, ◌+◌, List, Option, None, IsSome, IfSome, nat_le, take, ◌⊎◌, if◌then◌else◌}
use Rattle.std.specs.Io.KnownBytes.{Appends, Consumes, IsAtEnd}
use Rattle.std.specs.String.{string_bytes}
use Rattle.std.specs.declared.string.String.{String}
use Rattle.text_lines.specs.Reading.{most_bytes}
use Rattle.bqd.specs.declared.command.Command.{Command}
use Rattle.bqd.specs.Command.{command_in, reads, checks}
use Rattle.bqd.specs.Due.{Due, due_of}
use Rattle.byte_streams.specs.Streams.{Change, IsUntouched, IsFaulty, FailsAt}

-- a call of the program: the command that its words are, if they are one, and what it did to its streams
pub record Call : Type 0 where
  pub command : Option Command
  pub source : Change
  pub out : Change
  pub err : Change

-- a call with these words, which did this to its streams
abbrev pub call : {Z : Type 0} → List (String Z) → Change → Change → Change → Call
call words source out err = record { command = command_in (map (λ word. string_bytes word) words); source = source; out = out; err = err }

abbrev pub IsCommand : Call → Type 0
IsCommand call = IsSome call.command

-- the words are a command that reads its input
abbrev pub ReadsInput : Call → Type 0
ReadsInput call = reads call.command ≡ true

-- what is due of the call
abbrev pub due_in : Call → Option Due
due_in call = due_of call.command call.source.before

-- the sink that a text of this status goes to: from status 2 on it is a line of an error
abbrev pub sink_of : ℕ → Call → Change
sink_of status call = if nat_le 2 status then call.err else call.out

abbrev pub other_sink : ℕ → Call → Change
other_sink status call = if nat_le 2 status then call.out else call.err

-- the text that was due with this status was written, and nothing else
pub record IsTold (status : ℕ) (call : Call) : Type 0 where
  pub due : IfSome (due_in call) (λ due. (due.status ≡ status) × Appends (sink_of status call).before (sink_of status call).after due.text)
  pub other_stays : IsUntouched (other_sink status call)

-- 0: the command was done
pub record IsDone (call : Call) : Type 0 where
  pub command : IsCommand call
  pub told : IsTold 0 call
  pub to_the_end : ReadsInput call → IsAtEnd call.source.after

-- 1: the command was to check a history, which is illegal
pub record IsIllegal (call : Call) : Type 0 where
  pub command : checks call.command ≡ true
  pub told : IsTold 1 call
  pub to_the_end : IsAtEnd call.source.after

-- 2: the words are no command, and the usage line was written
pub record IsUsage (call : Call) : Type 0 where
  pub no_command : call.command ≡ None
  pub told : IsTold 2 call

-- 3: the grammar of the command refuses the input, which was read to its end or one byte further than a text may go
pub record IsRefused (call : Call) : Type 0 where
  pub command : ReadsInput call
  pub told : IsTold 3 call
  pub is_read : IfSome call.source.before (λ bytes. Consumes call.source.before call.source.after (take (most_bytes + 1) bytes))

-- 4: a read failed, and nothing was written
pub record IsReadFailure (call : Call) : Type 0 where
  pub command : ReadsInput call
  pub faulty : IsFaulty call.source
  pub out_stays : IsUntouched call.out
  pub err_stays : IsUntouched call.err

-- a write failed at the sink of what is due, which has a front of its text
abbrev pub FailsToTell : Call → Due → Type 0
FailsToTell call due = FailsAt (sink_of due.status call) (other_sink due.status call) due.text

-- 5: a write of what is due failed
pub record IsWriteFailure (call : Call) : Type 0 where
  pub faulty : IsFaulty call.out ⊎ IsFaulty call.err
  pub due : IfSome (due_in call) (FailsToTell call)

-- 6: memory was lacking, and nothing was written
pub record IsOutOfMemory (call : Call) : Type 0 where
  pub command : IsCommand call
  pub out_stays : IsUntouched call.out
  pub err_stays : IsUntouched call.err

-- What is due comes where no read of the input and no write of the text fails, if memory is not lacking.
abbrev pub DueComes : ℕ → Call → Type 0
DueComes status call = IfSome (due_in call) (λ due. (ReadsInput call → ¬ IsFaulty call.source) → ¬ IsFaulty (sink_of due.status call)
    → (status ≡ due.status) ⊎ (status ≡ 6) × IsCommand call)

-- the numbers that a call may end with
abbrev pub IsStatus : ℕ → Type 0
IsStatus status = (status ≡ 0) ⊎ (status ≡ 1) ⊎ (status ≡ 2) ⊎ (status ≡ 3) ⊎ (status ≡ 4) ⊎ (status ≡ 5) ⊎ (status ≡ 6)

-- each status has its cause
pub record IsExplained (status : ℕ) (call : Call) : Type 0 where
  pub known : IsStatus status
  pub done : status ≡ 0 → IsDone call
  pub illegal : status ≡ 1 → IsIllegal call
  pub usage : status ≡ 2 → IsUsage call
  pub refused : status ≡ 3 → IsRefused call
  pub read_failed : status ≡ 4 → IsReadFailure call
  pub write_failed : status ≡ 5 → IsWriteFailure call
  pub out_of_memory : status ≡ 6 → IsOutOfMemory call
  pub due_comes : DueComes status call
  pub source_stays : reads call.command ≡ false → IsUntouched call.source
