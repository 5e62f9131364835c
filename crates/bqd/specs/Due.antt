-- What is due of a call, whatever reads and writes fail.
use Rattle.std.specs.Prelude.{ℕ, List, Option, None, Some, Result, Ok, Err, option_map}
use Rattle.bq_model.specs.declared.fault.TextFault.{TextFault}
use Rattle.job_text.specs.declared.file.Unit.{Unit as JobUnit}
use Rattle.job_text.specs.Grammar.{jobs_of}
use Rattle.job_text.specs.Replies.{replies_of}
use Rattle.job_text.specs.Canon.{canon}
use Rattle.job_text.specs.Generator.{gen_of}
use Rattle.bqd.specs.DrillLine.{drill_line}
use Rattle.bqd.specs.Line.{fault_text}
use Rattle.bqd.specs.Usage.{usage_text}
use Rattle.bqd.specs.VerdictLine.{verdict_text}
use Rattle.trace_text.specs.declared.verdict.Verdict.{Verdict}
use Rattle.trace_text.specs.declared.verdict.Verdict.TheVariants.{Legal, Illegal}
use Rattle.trace_text.specs.Printed.{played_in}
use Rattle.trace_text.specs.Verdicts.{verdict_in}
use Rattle.bqd.specs.declared.command.Command.{Command}
use Rattle.bqd.specs.declared.command.Command.TheVariants.{Run, Gen, Check, Play, Drill}

-- a status, and the text that is to be written with it
pub record Due : Type 0 where
  pub status : ℕ
  pub text : List ℕ

-- of a job file the replies, or the line of its fault
abbrev pub due_of_file : Result (List JobUnit) TextFault → Due
due_of_file (Ok file) = record { status = 0; text = replies_of file }
due_of_file (Err fault) = record { status = 3; text = fault_text fault }

-- the status of a verdict
abbrev pub verdict_status : Verdict → ℕ
verdict_status (Legal groups operations) = 0
verdict_status (Illegal line) = 1

-- of a history the verdict, or the line of its fault
abbrev pub due_of_history : Result Verdict TextFault → Due
due_of_history (Ok verdict) = record { status = verdict_status verdict; text = verdict_text verdict }
due_of_history (Err fault) = record { status = 3; text = fault_text fault }

-- of a schedule the history of its machine, or the line of its fault
abbrev pub due_of_schedule : Result (List ℕ) TextFault → Due
due_of_schedule (Ok text) = record { status = 0; text = text }
due_of_schedule (Err fault) = record { status = 3; text = fault_text fault }

-- What is due of a command with this input. It isn't known where the command reads an input that the source does not
-- tell.
abbrev pub due_of : Option Command → Option (List ℕ) → Option Due
due_of None input = Some (record { status = 2; text = usage_text })
due_of (Some (Run hands batch)) input = option_map (λ bytes. due_of_file (jobs_of bytes)) input
due_of (Some Check) input = option_map (λ bytes. due_of_history (verdict_in bytes)) input
due_of (Some Play) input = option_map (λ bytes. due_of_schedule (played_in bytes)) input
due_of (Some (Drill jobs hands batch)) input = Some (record { status = 0; text = drill_line jobs })
due_of (Some (Gen jobs)) input = Some (record { status = 0; text = canon (gen_of jobs) })
