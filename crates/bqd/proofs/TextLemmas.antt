-- What the commands come to that read a text of a history or of a schedule.
use Rattle.std.proofs.Common.{◌≡◌, true, false, Bool, cond, ℕ, ◌+◌, ◌≤◌, ◌⊎◌, List, length, take, Option, None, Some, Result, Ok, Err, IfSome, option_map, refl, sym, ap, subst, ◌∙◌, arith, inl, inr, nat_le, leb-true, codes}
use Rattle.std.proofs.lemmas.Bool.{true≢false}
use Rattle.std.specs.Io.KnownBytes.{Appends, Consumes, IsAtEnd}
use Rattle.bq_model.specs.declared.fault.TextFault.{TextFault}
use Rattle.bq_model.specs.declared.fault.TextCause.TheVariants.{TooLong}
use Rattle.text_lines.specs.Lines.{lines_of}
use Rattle.text_lines.specs.Reading.{most_bytes, fault, whole_text}
use Rattle.trace_text.specs.declared.verdict.Verdict.{Verdict}
use Rattle.trace_text.specs.declared.verdict.Verdict.TheVariants.{Legal, Illegal}
use Rattle.text_lines.specs.Parts.{◌>>=◌}
use Rattle.trace_text.specs.HistoryText.{History, meaning, nothing_yet, history_at_end, version_word, is_second}
use Rattle.trace_text.specs.Verdicts.{verdict_of, verdict_in}
use Rattle.trace_text.specs.Played.{Playing}
use Rattle.trace_text.specs.ScheduleText.{play_meaning, machine_at_end}
use Rattle.trace_text.specs.Printed.{play_text, played_in}
use Rattle.trace_text.proofs.GrammarLemmas.{hist_of-take, play_of-take}
use Rattle.bqd.specs.declared.command.Command.{Command}
use Rattle.bqd.specs.declared.command.Command.TheVariants.{Check, Play}
use Rattle.bqd.specs.declared.status.Status.{Status}
use Rattle.bqd.specs.declared.status.Status.TheVariants.{Done, Illegal as StatusIllegal, Usage, Refused, ReadFailed, WriteFailed, OutOfMemory}
use Rattle.bqd.specs.Command.{reads, checks}
use Rattle.bqd.specs.Line.{fault_text}
use Rattle.byte_streams.specs.Output.{WroteFront}
use Rattle.byte_streams.specs.Streams.{Change, IsUntouched, IsFaulty}
use Rattle.bqd.specs.Status.{number_of}
use Rattle.bqd.specs.VerdictLine.{verdict_text}
use Rattle.bqd.specs.Due.{Due, due_of, due_of_history, due_of_schedule, verdict_status}
use Rattle.bqd.specs.Causes.{Call, IsExplained}
use Rattle.bqd.proofs.CauseLemmas.{explained-done, explained-illegal, explained-refused, explained-write}
use Rattle.bqd.proofs.InputLemmas.{front_is_read}

-- a call of this command over these streams
abbrev pub text_call : Command → Change → Change → Change → Call
text_call command source out err = record { command = Some command; source = source; out = out; err = err }

-- the input has an outcome that is not a fault only where it is short
pub short_if_ok : {S T U : Type 0} (b : Bool) (whole : Result S TextFault) (found : TextFault) (f : S → Result T TextFault) (g : T → Result U TextFault) (v : U) → ((cond b whole (Err found) >>= f) >>= g) ≡ Ok v → b ≡ true
short_if_ok true whole fault f g v e = refl
short_if_ok false whole fault f g v e = cc e

-- a write of what is due, which was done or failed
abbrev pub Tells : Status → Status → Change → List ℕ → Type 0
Tells result due sink text = ((result ≡ due) × Appends sink.before sink.after text) ⊎ ((result ≡ WriteFailed) × IsFaulty sink × WroteFront sink.before sink.after text)

-- what is due of the input, by what was read of it
pub due_known : (due : List ℕ → Due) (alike : (bytes : List ℕ) → due (take (most_bytes + 1) bytes) ≡ due bytes) (before after : Option (List ℕ)) (input : List ℕ) (n : ℕ) (d : Due) → Consumes before after input
    → n ≡ length input → n ≤ most_bytes + 1 → (n ≤ most_bytes → IsAtEnd after) → due input ≡ d → IfSome before (λ bytes. due bytes ≡ d)
due_known due alike None after input n d e len most whole found = tt
due_known due alike (Some bytes) None input n d e len most whole found = absurd e
due_known due alike (Some bytes) (Some rest) input n d e len most whole found =
    sym (alike bytes) ∙ (ap due (sym (front_is_read bytes rest input e (omega arith) (λ short. whole (omega arith)))) ∙ found)

module _ (command : Command) (due : List ℕ → Due) (reading : reads (Some command) ≡ true) (due_is : (bytes : Option (List ℕ)) → due_of (Some command) bytes ≡ option_map due bytes) (source out err : Change) where
  if_due : (d : Due) (P : Due → Type 0) → IfSome source.before (λ bytes. due bytes ≡ d) → P d → IfSome (due_of (Some command) source.before) P
  if_due d P is p = subst (λ (o : Option Due). IfSome o P) (sym (due_is source.before)) (by source.before is)
    where
      by : (before : Option (List ℕ)) → IfSome before (λ bytes. due bytes ≡ d) → IfSome (option_map due before) P
      by None is = tt
      by (Some bytes) is = subst P (sym is) p

  stays : reads (Some command) ≡ false → IsUntouched source
  stays none = absurd (true≢false (sym reading ∙ none))

  -- a text that is due with status 0
  pub ends-told : (text : List ℕ) (status : Status) → IsAtEnd source.after → IfSome source.before (λ bytes. due bytes ≡ record { status = 0; text = text }) → IsUntouched err → Tells status Done out text
      → IsExplained (number_of status) (text_call command source out err)
  ends-told text status end is same (inl told) =
      subst (λ (s : Status). IsExplained (number_of s) (text_call command source out err)) (sym told.0)
      (explained-done (text_call command source out err)
      (record { command = refl; told = record { due = if_due (record { status = 0; text = text }) _ is (refl, told.1); other_stays = same }; to_the_end = λ _. end })
      stays)
  ends-told text status end is same (inr failed) =
      subst (λ (s : Status). IsExplained (number_of s) (text_call command source out err)) (sym failed.0)
      (explained-write (text_call command source out err)
      (record { faulty = inl failed.1; due = if_due (record { status = 0; text = text }) _ is (record { faulty = failed.1; front = failed.2; other_stays = same }) })
      stays)

  -- one that is due with status 1
  pub ends-illegal : (text : List ℕ) (status : Status) → checks (Some command) ≡ true → IsAtEnd source.after → IfSome source.before (λ bytes. due bytes ≡ record { status = 1; text = text }) → IsUntouched err
      → Tells status StatusIllegal out text → IsExplained (number_of status) (text_call command source out err)
  ends-illegal text status judging end is same (inl told) =
      subst (λ (s : Status). IsExplained (number_of s) (text_call command source out err)) (sym told.0)
      (explained-illegal (text_call command source out err)
      (record { command = judging; told = record { due = if_due (record { status = 1; text = text }) _ is (refl, told.1); other_stays = same }; to_the_end = end })
      stays)
  ends-illegal text status judging end is same (inr failed) =
      subst (λ (s : Status). IsExplained (number_of s) (text_call command source out err)) (sym failed.0)
      (explained-write (text_call command source out err)
      (record { faulty = inl failed.1; due = if_due (record { status = 1; text = text }) _ is (record { faulty = failed.1; front = failed.2; other_stays = same }) })
      stays)

  -- the line of a fault
  pub ends-refused : (fault : TextFault) (line : List ℕ) (status : Status) → line ≡ fault_text fault → IfSome source.before (λ bytes. due bytes ≡ record { status = 3; text = fault_text fault })
      → IfSome source.before (λ bytes. Consumes source.before source.after (take (most_bytes + 1) bytes)) → IsUntouched out → Tells status Refused err line → IsExplained (number_of status) (text_call command source out err)
  ends-refused fault line status text is seen same (inl told) =
      subst (λ (s : Status). IsExplained (number_of s) (text_call command source out err)) (sym told.0)
      (explained-refused (text_call command source out err)
      (record {
        command = reading;
        told = record { due = if_due (record { status = 3; text = fault_text fault }) _ is (refl, subst (Appends err.before err.after) text told.1); other_stays = same };
        is_read = seen;
      }))
  ends-refused fault line status text is seen same (inr failed) =
      subst (λ (s : Status). IsExplained (number_of s) (text_call command source out err)) (sym failed.0)
      (explained-write (text_call command source out err)
      (record {
        faulty = inr failed.1;
        due = if_due (record { status = 3; text = fault_text fault }) _ is (record { faulty = failed.1; front = subst (WroteFront err.before err.after) text failed.2; other_stays = same });
      })
      stays)

-- ---- histories

verdict_in-take : (bytes : List ℕ) → verdict_in (take (most_bytes + 1) bytes) ≡ verdict_in bytes
verdict_in-take bytes = ap (λ (said : Result History TextFault). said >>= (λ history. Ok (verdict_of history))) (hist_of-take bytes)

-- what is judged is no longer than a text may be
pub short_history : (input : List ℕ) (verdict : Verdict) → verdict_in input ≡ Ok verdict → length input ≤ most_bytes
short_history input verdict is =
    leb-true (length input) most_bytes
    (short_if_ok (nat_le (length input) most_bytes) (whole_text (codes "bqhist") (version_word (is_second input)) meaning (nothing_yet (is_second input)) (lines_of input)) (fault 0 TooLong)
    (λ say. history_at_end (length (lines_of input) + 1) say.callers say.entries) (λ history. Ok (verdict_of history)) verdict is)

abbrev due_check : List ℕ → Due
due_check bytes = due_of_history (verdict_in bytes)

pub check_known : (before after : Option (List ℕ)) (input : List ℕ) (n : ℕ) (said : Result Verdict TextFault) → Consumes before after input → n ≡ length input → n ≤ most_bytes + 1 → (n ≤ most_bytes → IsAtEnd after)
    → verdict_in input ≡ said → IfSome before (λ bytes. due_check bytes ≡ due_of_history said)
check_known before after input n said e len most whole is = due_known due_check (λ bytes. ap due_of_history (verdict_in-take bytes)) before after input n (due_of_history said) e len most whole (ap due_of_history is)

done_from : (s : Status) → number_of s ≡ 0 → s ≡ Done
done_from Done e = refl
done_from StatusIllegal e = absurd (omega arith)
done_from Usage e = absurd (omega arith)
done_from Refused e = absurd (omega arith)
done_from ReadFailed e = absurd (omega arith)
done_from WriteFailed e = absurd (omega arith)
done_from OutOfMemory e = absurd (omega arith)

illegal_from : (s : Status) → number_of s ≡ 1 → s ≡ StatusIllegal
illegal_from Done e = absurd (omega arith)
illegal_from StatusIllegal e = refl
illegal_from Usage e = absurd (omega arith)
illegal_from Refused e = absurd (omega arith)
illegal_from ReadFailed e = absurd (omega arith)
illegal_from WriteFailed e = absurd (omega arith)
illegal_from OutOfMemory e = absurd (omega arith)

pub ends-verdict : (source out err : Change) (verdict : Verdict) (line : List ℕ) (due status : Status) → number_of due ≡ verdict_status verdict → line ≡ verdict_text verdict → IsAtEnd source.after
    → IfSome source.before (λ bytes. due_check bytes ≡ due_of_history (Ok verdict)) → IsUntouched err → Tells status due out line → IsExplained (number_of status) (text_call Check source out err)
ends-verdict source out err (Legal groups operations) line due status number text end is same told =
    let T : Status → List ℕ → Type 0 = λ s t. Tells status s out t in
    ends-told Check due_check refl (λ bytes. refl) source out err (verdict_text (Legal groups operations)) status end is same (subst (T Done) text (subst (λ (s : Status). T s line) (done_from due number) told))
ends-verdict source out err (Illegal number_of_line) line due status number text end is same told =
    let T : Status → List ℕ → Type 0 = λ s t. Tells status s out t in
    ends-illegal Check due_check refl (λ bytes. refl) source out err (verdict_text (Illegal number_of_line)) status refl end is same (subst (T StatusIllegal) text (subst (λ (s : Status). T s line) (illegal_from due number) told))

pub ends-check_refused : (source out err : Change) (found : TextFault) (line : List ℕ) (status : Status) → line ≡ fault_text found → IfSome source.before (λ bytes. due_check bytes ≡ due_of_history (Err found))
    → IfSome source.before (λ bytes. Consumes source.before source.after (take (most_bytes + 1) bytes)) → IsUntouched out → Tells status Refused err line → IsExplained (number_of status) (text_call Check source out err)
ends-check_refused source out err found line status text is seen same told = ends-refused Check due_check refl (λ bytes. refl) source out err found line status text is seen same told

-- ---- schedules

played_in-take : (bytes : List ℕ) → played_in (take (most_bytes + 1) bytes) ≡ played_in bytes
played_in-take bytes = ap (λ (said : Result Playing TextFault). said >>= (λ p. Ok (play_text p))) (play_of-take bytes)

pub short_schedule : (input text : List ℕ) → played_in input ≡ Ok text → length input ≤ most_bytes
short_schedule input text is =
    leb-true (length input) most_bytes
    (short_if_ok (nat_le (length input) most_bytes) (whole_text (codes "bqplay") (codes "1") play_meaning None (lines_of input)) (fault 0 TooLong) (machine_at_end (length (lines_of input) + 1)) (λ p. Ok (play_text p)) text is)

abbrev due_play : List ℕ → Due
due_play bytes = due_of_schedule (played_in bytes)

pub play_known : (before after : Option (List ℕ)) (input : List ℕ) (n : ℕ) (said : Result (List ℕ) TextFault) → Consumes before after input → n ≡ length input → n ≤ most_bytes + 1 → (n ≤ most_bytes → IsAtEnd after)
    → played_in input ≡ said → IfSome before (λ bytes. due_play bytes ≡ due_of_schedule said)
play_known before after input n said e len most whole is = due_known due_play (λ bytes. ap due_of_schedule (played_in-take bytes)) before after input n (due_of_schedule said) e len most whole (ap due_of_schedule is)

pub ends-played : (source out err : Change) (text : List ℕ) (status : Status) → IsAtEnd source.after → IfSome source.before (λ bytes. due_play bytes ≡ due_of_schedule (Ok text)) → IsUntouched err → Tells status Done out text
    → IsExplained (number_of status) (text_call Play source out err)
ends-played source out err text status end is same told = ends-told Play due_play refl (λ bytes. refl) source out err text status end is same told

pub ends-play_refused : (source out err : Change) (found : TextFault) (line : List ℕ) (status : Status) → line ≡ fault_text found → IfSome source.before (λ bytes. due_play bytes ≡ due_of_schedule (Err found))
    → IfSome source.before (λ bytes. Consumes source.before source.after (take (most_bytes + 1) bytes)) → IsUntouched out → Tells status Refused err line → IsExplained (number_of status) (text_call Play source out err)
ends-play_refused source out err found line status text is seen same told = ends-refused Play due_play refl (λ bytes. refl) source out err found line status text is seen same told
