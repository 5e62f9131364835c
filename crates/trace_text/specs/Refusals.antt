-- What a judge or a player of a text answers.
use Rattle.std.specs.Prelude.{◌≡◌, Result, Ok, Err, ⊤}
use Rattle.bq_model.specs.declared.fault.TextFault.{TextFault}
use Rattle.bq_model.specs.declared.fault.TextRefused.{TextRefused}
use Rattle.bq_model.specs.declared.fault.TextRefused.TheVariants.{Text, Memory}

-- An answer agrees with what is said of a text, or with its fault. Where memory was lacking it may be either.
abbrev pub Gives : {A : Type 0} → Result A TextFault → Result A TextRefused → Type 0
Gives said (Ok found) = said ≡ Ok found
Gives said (Err (Text fault)) = said ≡ Err fault
Gives said (Err Memory) = ⊤
