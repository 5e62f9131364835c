-- What a printed history is read back by.
use Rattle.std.specs.Prelude.{◌≡◌, ℕ, ◌^◌, ◌<◌, ◌≤◌, List, length, All, Ok}
use Rattle.bq_model.specs.declared.group.Group.{Group}
use Rattle.bq_model.specs.declared.op.Op.{Op}
use Rattle.bq_model.specs.declared.op.Op.TheVariants.{Enq, Deq, Shut}
use Rattle.bq_model.specs.History.{operations}
use Rattle.text_lines.specs.Reading.{most_bytes}
use Rattle.trace_text.specs.declared.play.Refused.{Refused}
use Rattle.trace_text.specs.declared.verdict.Verdict.TheVariants.{Legal}
use Rattle.trace_text.specs.HistoryText.{most_operations}
use Rattle.trace_text.specs.Verdicts.{verdict_in}

-- whether a number is one of a text
abbrev pub IsNumber : ℕ → Type 0
IsNumber n = n < 2 ^ 64

-- whether the value of an operation is one
abbrev pub IsOpInRange : Op → Type 0
IsOpInRange (Enq v) = IsNumber v
IsOpInRange Deq = Unit {0}
IsOpInRange Shut = Unit {0}

abbrev pub IsGroupInRange : Group → Type 0
IsGroupInRange g = All IsOpInRange g.ops

-- whether the caller of a refused command is one
abbrev pub IsRefusedInRange : Refused → Type 0
IsRefusedInRange r = IsNumber r.caller

-- a text is found legal with the counts of this history, if both are no longer than a text may have
abbrev pub IsFoundLegal : List Group → List ℕ → Type 0
IsFoundLegal h text = length text ≤ most_bytes → length (operations h) ≤ most_operations → verdict_in text ≡ Ok (Legal (length h) (length (operations h)))
