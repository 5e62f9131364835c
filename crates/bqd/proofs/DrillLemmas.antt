-- From what each part of a drill says to the cause of its status.
use Rattle.std.proofs.Common.{◌≡◌, ℕ, List, Option, Some, Result, Ok, Err, length, refl, sym, ap, subst, ◌∙◌, arith, inl}
use Rattle.bq_model.specs.declared.group.Group.{Group}
use Rattle.job_text.specs.declared.file.Unit.{Unit as JobUnit}
use Rattle.job_text.specs.Generator.{gen_of}
use Rattle.job_text.specs.Replies.{replies_of}
use Rattle.bulk_dispatcher.specs.Books.{lanes_of}
use Rattle.bulk_dispatcher.proofs.Zips.{zip_length}
use Rattle.bulk_dispatcher.specs.declared.reply.Reply.{Reply}
use Rattle.bqd.specs.declared.command.Command.{Command}
use Rattle.bqd.specs.declared.command.Command.TheVariants.{Run, Drill}
use Rattle.bqd.specs.declared.status.Status.{Status}
use Rattle.bqd.specs.declared.status.Status.TheVariants.{Done, Illegal, Usage, Refused, ReadFailed, WriteFailed, OutOfMemory}
use Rattle.bqd.specs.DrillLine.{drill_text, drill_line}
use Rattle.byte_streams.specs.Streams.{Change, IsUntouched}
use Rattle.bqd.specs.Causes.{IsExplained}
use Rattle.bulk_dispatcher.specs.Ran.{JobsRan}
use Rattle.bqd.specs.Runs.{IsDrill, WritesDue, EndsWithCause, drill_call}
use Rattle.bqd.proofs.CauseLemmas.{explained-done, explained-write, explained-memory}

-- the line of what a drill leaves is that of its jobs
pub line_of-jobs : (jobs hands batch : ℕ) (file : List JobUnit) (books : List (List Group)) (replies : List Reply) (lanes : ℕ) (text : List ℕ) → file ≡ gen_of jobs → JobsRan file hands batch books replies
    → lanes ≡ length books → text ≡ replies_of file → drill_text jobs lanes text ≡ drill_line jobs
line_of-jobs jobs hands batch file books replies lanes text is ran counted texted =
    let count : length (lanes_of (gen_of jobs)) ≡ length books = ap (λ f. length (lanes_of f)) (sym is) ∙ zip_length _ (lanes_of file) books ran.books_fit.proper in
    ap (λ n. drill_text jobs n text) (counted ∙ sym count) ∙ ap (drill_text jobs (length (lanes_of (gen_of jobs)))) (texted ∙ ap replies_of is)

-- what comes of a drill whose line was written, or failed to be, or that lacked memory
module _ (jobs hands batch : ℕ) (source out err : Change) (unread : IsUntouched source) (stays : IsUntouched err) where
  pub ends-drill : {A : Type 0} (r : Result A Status) → WritesDue (drill_line jobs) out r → EndsWithCause (drill_call jobs hands batch source out err) r
  ends-drill (Ok done) written =
      explained-done (drill_call jobs hands batch source out err)
      (record { command = refl; told = record { due = (refl, written); other_stays = stays }; to_the_end = λ e. cc e })
      (λ _. unread)
  ends-drill (Err Done) none = absurd none
  ends-drill (Err Illegal) none = absurd none
  ends-drill (Err Usage) none = absurd none
  ends-drill (Err Refused) none = absurd none
  ends-drill (Err ReadFailed) none = absurd none
  ends-drill (Err WriteFailed) failed = (
    λ e. absurd (omega arith),
    explained-write (drill_call jobs hands batch source out err)
        (record { faulty = inl failed.0; due = record { faulty = failed.0; front = failed.1; other_stays = stays } })
        (λ _. unread),
  )
  ends-drill (Err OutOfMemory) same = (
    λ e. absurd (omega arith),
    explained-memory (drill_call jobs hands batch source out err) (record { command = refl; out_stays = same; err_stays = stays }) (λ _. unread),
  )

-- words that are the command to drill
module _ (command : Option Command) (jobs hands batch : ℕ) (source out err : Change) (is : command ≡ Some (Drill jobs hands batch)) where
  pub as_drill : (status : ℕ) → IsExplained status (drill_call jobs hands batch source out err) → IsExplained status (record { command = command; source = source; out = out; err = err })
  as_drill status explained = subst (λ (c : Option Command). IsExplained status (record { command = c; source = source; out = out; err = err })) (sym is) explained

  pub as_drill-done : (n h b : ℕ) (books : List (List Group)) (replies : List Reply) → command ≡ Some (Drill n h b) → IsUntouched source → IsUntouched err → WritesDue (drill_line jobs) out (Ok replies)
      → JobsRan (gen_of jobs) hands batch books replies → IsDrill n h b (record { command = command; source = source; out = out; err = err }) books replies
  as_drill-done n h b books replies named unread stays written ran =
      let jobs_is : jobs ≡ n = cc (is, named) in
      let hands_is : hands ≡ h = cc (is, named) in
      let batch_is : batch ≡ b = cc (is, named) in
      record {
        ran = subst (λ (k : ℕ). JobsRan (gen_of k) h b books replies) jobs_is
            (subst (λ (k : ℕ). JobsRan (gen_of jobs) k b books replies) hands_is (subst (λ (k : ℕ). JobsRan (gen_of jobs) hands k books replies) batch_is ran));
        written = subst (λ (k : ℕ). WritesDue (drill_line k) out (Ok replies)) jobs_is written;
        source_stays = unread;
        err_stays = stays;
      }

  pub no_run : (h b : ℕ) → command ≡ Some (Run h b) → ⊥
  no_run h b named = cc (is, named)
