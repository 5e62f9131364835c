-- What a reader of a file of jobs that name earlier jobs answers.
use Rattle.std.specs.Prelude.{◌≡◌, List, Result, Ok, Err, ⊤}
use Rattle.bq_model.specs.declared.fault.TextFault.{TextFault}
use Rattle.bq_model.specs.declared.fault.TextRefused.{TextRefused}
use Rattle.bq_model.specs.declared.fault.TextRefused.TheVariants.{Text, Memory}
use Rattle.dep_text.specs.declared.job.DepJob.{DepJob}

-- A reader's answer agrees with what the text is: its jobs, or its fault. Where memory was lacking it may be either.
abbrev pub Reads : Result (List DepJob) TextRefused → Result (List DepJob) TextFault → Type 0
Reads (Ok jobs) outcome = outcome ≡ Ok jobs
Reads (Err (Text fault)) outcome = outcome ≡ Err fault
Reads (Err Memory) outcome = ⊤
