-- What a reader of a job file answers.
use Rattle.std.specs.Prelude.{◌≡◌, List, Result, Ok, Err, ⊤}
use Rattle.bq_model.specs.declared.fault.TextFault.{TextFault}
use Rattle.bq_model.specs.declared.fault.TextRefused.{TextRefused}
use Rattle.bq_model.specs.declared.fault.TextRefused.TheVariants.{Text, Memory}
use Rattle.job_text.specs.declared.file.Unit.{Unit}

-- A reader's answer agrees with what the text is: its units, or its fault. Where memory was lacking it may be either.
abbrev pub Reads : Result (List Unit) TextRefused → Result (List Unit) TextFault → Type 0
Reads (Ok units) outcome = outcome ≡ Ok units
Reads (Err (Text fault)) outcome = outcome ≡ Err fault
Reads (Err Memory) outcome = ⊤
