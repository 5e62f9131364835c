-- The line that tells a user the fault of a text.
use Rattle.std.specs.Prelude.{ℕ, List, ◌++◌, codes, decimal}
use Rattle.bq_model.specs.declared.fault.TextFault.{TextFault}
use Rattle.bq_model.specs.Fault.{cause_text}

-- the number of the line and the cause in words
abbrev pub fault_text : TextFault → List ℕ
fault_text fault = codes "bqd: line " ++ decimal fault.line ++ codes ": " ++ cause_text fault.cause ++ codes "\n"
