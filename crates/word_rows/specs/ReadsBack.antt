-- Reading a coded value back.
use Rattle.std.specs.Prelude.{◌≡◌, ◌↔◌, ℕ, Option, Some}

-- what is found for a number is the value that has this number, and nothing where none has it
abbrev pub ReadsBack : {V : Type 0} → (V → Type 0) → (V → ℕ) → ℕ → Option V → Type 0
ReadsBack {V} Fits number_of number found = (v : V) → (found ≡ Some v) ↔ (Fits v × (number_of v ≡ number))
