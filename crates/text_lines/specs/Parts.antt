-- Parts of a line, one after another.
use Rattle.std.specs.Prelude.{Option, Result, Ok, Err, ok_or}
use Rattle.bq_model.specs.declared.fault.TextCause.{TextCause}
use Rattle.bq_model.specs.declared.fault.TextCause.TheVariants.{BadNumber}

-- what follows from what was found, or its error
infixl 10 ◌>>=◌
abbrev pub ◌>>=◌ : {A B E : Type 0} → Result A E → (A → Result B E) → Result B E
Ok value >>= f = f value
Err error >>= f = Err error

-- what was found, or a bad number
abbrev pub or_bad_number : {A : Type 0} → Option A → Result A TextCause
or_bad_number found = ok_or found BadNumber
