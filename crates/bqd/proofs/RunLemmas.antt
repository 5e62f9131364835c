-- From what each part of a run says to the cause of its status.
use Rattle.std.proofs.Common.{◌≡◌, ◌≢◌, ℕ, ◌+◌, List, take, Option, None, Some, Result, Ok, Err, IfSome, IfOk, refl, sym, ap, subst, arith, inl, inr}
use Rattle.std.specs.Io.KnownBytes.{Consumes, IsAtEnd}
use Rattle.bq_model.specs.declared.group.Group.{Group}
use Rattle.bq_model.specs.declared.fault.TextFault.{TextFault}
use Rattle.job_text.specs.declared.file.Unit.{Unit as JobUnit}
use Rattle.job_text.specs.Grammar.{jobs_of}
use Rattle.job_text.specs.Replies.{replies_of}
use Rattle.text_lines.specs.Reading.{most_bytes}
use Rattle.bulk_dispatcher.specs.declared.reply.Reply.{Reply}
use Rattle.bqd.specs.declared.command.Command.{Command}
use Rattle.bqd.specs.declared.command.Command.TheVariants.{Run, Drill}
use Rattle.bqd.specs.declared.status.Status.{Status}
use Rattle.bqd.specs.declared.status.Status.TheVariants.{Done, Illegal, Usage, Refused, ReadFailed, WriteFailed, OutOfMemory}
use Rattle.bqd.specs.Status.{number_of}
use Rattle.bqd.specs.Line.{fault_text}
use Rattle.byte_streams.specs.Streams.{Change, IsUntouched, IsFaulty}
use Rattle.bqd.specs.Due.{Due, due_of_file}
use Rattle.bqd.specs.Causes.{IsExplained}
use Rattle.bulk_dispatcher.specs.Ran.{JobsRan}
use Rattle.bqd.specs.Runs.{AreRun, IsRun, WritesDue, EndsWithCause, run_call}
use Rattle.bqd.proofs.CauseLemmas.{explained-read, explained-memory, untouched}
use Rattle.bqd.proofs.TextLemmas.{Tells, ends-told, ends-refused}

-- what is due of the bytes of a run
abbrev due_run : List ℕ → Due
due_run bytes = due_of_file (jobs_of bytes)

if_due : (before : Option (List ℕ)) (r : Result (List JobUnit) TextFault) → IfSome before (λ bytes. jobs_of bytes ≡ r) → IfSome before (λ bytes. due_run bytes ≡ due_of_file r)
if_due None r is = tt
if_due (Some bytes) r is = ap due_of_file is

-- a run of this file, whose whole text was read
module _ (hands batch : ℕ) (source out err : Change) (file : List JobUnit) (end : IsAtEnd source.after) (is : IfSome source.before (λ bytes. jobs_of bytes ≡ Ok file)) (stays : IsUntouched err) where
  pub ends-run : {A : Type 0} (books : A → List (List Group)) (replies : A → List Reply) (r : Result A Status) → WritesDue (replies_of file) out r → IfOk r (λ done. JobsRan file hands batch (books done) (replies done))
      → IfOk r (λ done. IsRun hands batch (run_call hands batch source out err) (books done) (replies done))
  ends-run books replies (Ok done) written ran = record {
    to_the_end = end;
    run = are_run source.before is;
    err_stays = stays;
  }
    where
      are_run : (before : Option (List ℕ)) → IfSome before (λ bytes. jobs_of bytes ≡ Ok file) → IfSome before (AreRun hands batch out (books done) (replies done))
      are_run None is = tt
      are_run (Some bytes) is = record { file = file; is_read = is; written = written; ran = ran }
  ends-run books replies (Err status) written ran = tt

  told : (status : Status) → Tells status Done out (replies_of file) → IsExplained (number_of status) (run_call hands batch source out err)
  told status written = ends-told (Run hands batch) due_run refl (λ bytes. refl) source out err (replies_of file) status end (if_due source.before (Ok file) is) stays written

  -- the replies were written, or their write failed, or memory was lacking
  pub ends-answer : {A : Type 0} (r : Result A Status) → WritesDue (replies_of file) out r → EndsWithCause (run_call hands batch source out err) r
  ends-answer (Ok done) written = told Done (inl (refl, written))
  ends-answer (Err Done) none = absurd none
  ends-answer (Err Illegal) none = absurd none
  ends-answer (Err Usage) none = absurd none
  ends-answer (Err Refused) none = absurd none
  ends-answer (Err ReadFailed) none = absurd none
  ends-answer (Err WriteFailed) failed = (λ e. absurd (omega arith), told WriteFailed (inr (refl, failed.0, failed.1)))
  ends-answer (Err OutOfMemory) same = (
    λ e. absurd (omega arith),
    explained-memory (run_call hands batch source out err) (record { command = refl; out_stays = same; err_stays = stays }) (untouched (run_call hands batch source out err) refl),
  )

-- a read failed
pub ends-unread : (hands batch : ℕ) (source out err : Change) → IsFaulty source → IsUntouched out → IsUntouched err → (number_of ReadFailed ≢ 0) × IsExplained (number_of ReadFailed) (run_call hands batch source out err)
ends-unread hands batch source out err faulty out_stays err_stays = (
  λ e. absurd (omega arith),
  explained-read (run_call hands batch source out err) (record { command = refl; faulty = faulty; out_stays = out_stays; err_stays = err_stays }),
)

not_done : (status : Status) (text line : List ℕ) (sink : Change) → Tells status Refused sink line → number_of status ≢ 0
not_done status text line sink (inl told) = λ e. absurd (omega (arith, ap number_of told.0))
not_done status text line sink (inr failed) = λ e. absurd (omega (arith, ap number_of failed.0))

-- the line of a fault was written, or its write failed
pub ends-tell : (hands batch : ℕ) (source out err : Change) (status : Status) (fault : TextFault) (line : List ℕ) → line ≡ fault_text fault → IfSome source.before (λ bytes. jobs_of bytes ≡ Err fault)
    → IfSome source.before (λ bytes. Consumes source.before source.after (take (most_bytes + 1) bytes)) → IsUntouched out → Tells status Refused err line
    → (number_of status ≢ 0) × IsExplained (number_of status) (run_call hands batch source out err)
ends-tell hands batch source out err status fault line text is seen stays tells = (
  not_done status (fault_text fault) line err tells,
  ends-refused (Run hands batch) due_run refl (λ bytes. refl) source out err fault line status text (if_due source.before (Err fault) is) seen stays tells,
)

-- words that are the command to run
module _ (command : Option Command) (hands batch : ℕ) (source out err : Change) (is : command ≡ Some (Run hands batch)) where
  pub as_run : (status : ℕ) → IsExplained status (run_call hands batch source out err) → IsExplained status (record { command = command; source = source; out = out; err = err })
  as_run status explained = subst (λ (c : Option Command). IsExplained status (record { command = c; source = source; out = out; err = err })) (sym is) explained

  pub as_run-done : (h b : ℕ) (books : List (List Group)) (replies : List Reply) → command ≡ Some (Run h b) → IsRun hands batch (run_call hands batch source out err) books replies
      → IsRun h b (record { command = command; source = source; out = out; err = err }) books replies
  as_run-done h b books replies named run =
      let hands_is : hands ≡ h = cc (is, named) in
      let batch_is : batch ≡ b = cc (is, named) in
      let now = subst (λ (n : ℕ). IsRun n b (run_call n b source out err) books replies) hands_is (subst (λ (m : ℕ). IsRun hands m (run_call hands m source out err) books replies) batch_is run) in
      subst (λ (c : Option Command). IsRun h b (record { command = c; source = source; out = out; err = err }) books replies) (sym named) now

  pub no_drill : (jobs h b : ℕ) → command ≡ Some (Drill jobs h b) → ⊥
  no_drill jobs h b named = cc (is, named)
