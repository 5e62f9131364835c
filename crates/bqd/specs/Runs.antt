-- What is said of jobs that were run.
use Rattle.std.specs.Prelude.{◌≡◌, ◌≢◌, ℕ, List, Some, Ok, Err, Result, IfSome}
use Rattle.std.specs.Io.KnownBytes.{Appends, IsAtEnd}
use Rattle.bq_model.specs.declared.group.Group.{Group}
use Rattle.job_text.specs.declared.file.Unit.{Unit as JobUnit}
use Rattle.job_text.specs.Generator.{gen_of}
use Rattle.job_text.specs.Grammar.{jobs_of}
use Rattle.job_text.specs.Replies.{replies_of}
use Rattle.bulk_dispatcher.specs.declared.reply.Reply.{Reply}
use Rattle.bulk_dispatcher.specs.Ran.{JobsRan}
use Rattle.bqd.specs.declared.command.Command.TheVariants.{Run, Drill}
use Rattle.bqd.specs.declared.status.Status.{Status}
use Rattle.bqd.specs.declared.status.Status.TheVariants.{Done, Illegal, Usage, Refused, ReadFailed, WriteFailed, OutOfMemory}
use Rattle.bqd.specs.DrillLine.{drill_line}
use Rattle.byte_streams.specs.Output.{WroteFront}
use Rattle.bqd.specs.Status.{number_of}
use Rattle.byte_streams.specs.Streams.{Change, IsUntouched, IsFaulty}
use Rattle.bqd.specs.Causes.{Call, IsExplained}

-- The jobs of these bytes were run, and their replies are written.
pub record AreRun (hands batch : ℕ) (out : Change) (books : List (List Group)) (replies : List Reply) (bytes : List ℕ) : Type 0 where
  pub file : List JobUnit
  pub is_read : jobs_of bytes ≡ Ok file
  pub written : Appends out.before out.after (replies_of file)
  pub ran : JobsRan file hands batch books replies

-- the jobs of the whole input were run, and nothing but their replies was written
pub record IsRun (hands batch : ℕ) (call : Call) (books : List (List Group)) (replies : List Reply) : Type 0 where
  pub to_the_end : IsAtEnd call.source.after
  pub run : IfSome call.source.before (AreRun hands batch call.out books replies)
  pub err_stays : IsUntouched call.err

-- a call that did this to its streams, of words that are `run` with these numbers
abbrev pub run_call : ℕ → ℕ → Change → Change → Change → Call
run_call hands batch source out err = record { command = Some (Run hands batch); source = source; out = out; err = err }

-- the jobs of the file that is made from a number were run, and one line was written of what came of it
pub record IsDrill (jobs hands batch : ℕ) (call : Call) (books : List (List Group)) (replies : List Reply) : Type 0 where
  pub ran : JobsRan (gen_of jobs) hands batch books replies
  pub written : Appends call.out.before call.out.after (drill_line jobs)
  pub source_stays : IsUntouched call.source
  pub err_stays : IsUntouched call.err

-- a call that did this to its streams, of words that are `drill` with these numbers
abbrev pub drill_call : ℕ → ℕ → ℕ → Change → Change → Change → Call
drill_call jobs hands batch source out err = record { command = Some (Drill jobs hands batch); source = source; out = out; err = err }

-- A text that is due was written; or a write failed, and a front of it was written; or memory was lacking, and nothing
-- was written.
abbrev pub WritesDue : {A : Type 0} → List ℕ → Change → Result A Status → Type 0
WritesDue text out (Ok a) = Appends out.before out.after text
WritesDue text out (Err Done) = ⊥
WritesDue text out (Err Illegal) = ⊥
WritesDue text out (Err Usage) = ⊥
WritesDue text out (Err Refused) = ⊥
WritesDue text out (Err ReadFailed) = ⊥
WritesDue text out (Err WriteFailed) = IsFaulty out × WroteFront out.before out.after text
WritesDue text out (Err OutOfMemory) = IsUntouched out

-- a call that comes to what it is to do, which is status 0, or to another status, each with its cause
abbrev pub EndsWithCause : {A : Type 0} → Call → Result A Status → Type 0
EndsWithCause call (Ok a) = IsExplained 0 call
EndsWithCause call (Err status) = (number_of status ≢ 0) × IsExplained (number_of status) call
