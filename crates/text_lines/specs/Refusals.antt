-- Whether a reader's answer agrees with what a line or a text says. Where memory was lacking it may be either.
use Rattle.std.specs.Prelude.{◌≡◌, Result, Ok, Err, ⊤}
use Rattle.bq_model.specs.declared.fault.TextCause.{TextCause}
use Rattle.bq_model.specs.declared.fault.TextFault.{TextFault}
use Rattle.bq_model.specs.declared.fault.TextRefused.{TextRefused}
use Rattle.bq_model.specs.declared.fault.TextRefused.TheVariants.{Text, Memory}
use Rattle.text_lines.specs.declared.refused.LineRefused.{LineRefused}
use Rattle.text_lines.specs.declared.refused.LineRefused.TheVariants.{Cause, NoMemory}

-- what a part of a line says, or its cause
abbrev pub ReadsPart : {A : Type 0} → Result A TextCause → Result A LineRefused → Type 0
ReadsPart said (Ok found) = said ≡ Ok found
ReadsPart said (Err (Cause cause)) = said ≡ Err cause
ReadsPart said (Err NoMemory) = ⊤

-- the state that a line leaves, or its cause
abbrev pub ReadsLine : {S : Type 0} → Result S TextCause → Result Unit LineRefused → S → Type 0
ReadsLine said (Ok done) state = said ≡ Ok state
ReadsLine said (Err (Cause cause)) state = said ≡ Err cause
ReadsLine said (Err NoMemory) state = ⊤

-- the state that a text leaves, or its fault
abbrev pub ReadsText : {S : Type 0} → Result S TextFault → Result Unit TextRefused → S → Type 0
ReadsText said (Ok done) state = said ≡ Ok state
ReadsText said (Err (Text fault)) state = said ≡ Err fault
ReadsText said (Err Memory) state = ⊤
