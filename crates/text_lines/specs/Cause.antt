-- The order of the causes of faults within a line.
use Rattle.std.specs.Prelude.{◌≡◌, ℕ, ◌≤◌, List, [], Result, Ok, Err, All, Contains, option_to_list, nat_le, if◌then◌else◌}
use Rattle.std.specs.Result.{result_err}
use Rattle.bq_model.specs.declared.fault.TextCause.{TextCause}
use Rattle.bq_model.specs.declared.fault.TextCause.TheVariants.{NotText, NoHeader, BadWord, BadNumber, BadLane, BusyCaller, BlockTooLong, TooMany, OpenBlock, OpenRound, TooLong, TooDeep}

-- the place of a cause in the order
abbrev pub rank : TextCause → ℕ
rank NotText = 0
rank NoHeader = 1
rank BadWord = 2
rank BadNumber = 3
rank BadLane = 4
rank BusyCaller = 5
rank BlockTooLong = 6
rank TooMany = 7
rank OpenBlock = 8
rank OpenRound = 9
rank TooLong = 10
rank TooDeep = 11

-- the one of two causes that comes first
abbrev pub earlier : TextCause → TextCause → TextCause
earlier one other = if nat_le (rank one) (rank other) then one else other

-- two parts of a line: what both say, or the cause that comes first
abbrev pub both : {A B : Type 0} → Result A TextCause → Result B TextCause → Result (A × B) TextCause
both (Ok one) (Ok other) = Ok (one, other)
both (Ok one) (Err cause) = Err cause
both (Err cause) (Ok other) = Err cause
both (Err one) (Err other) = Err (earlier one other)

-- the causes that apply to a part of a line
abbrev pub causes : {A : Type 0} → Result A TextCause → List TextCause
causes part = option_to_list (result_err part)

-- a cause is among these, and none of them comes before it
pub record IsFirstCause (applying : List TextCause) (cause : TextCause) : Type 0 where
  pub applies : Contains applying cause
  pub first : All (λ other. rank cause ≤ rank other) applying

-- What becomes of a line to which these causes apply: where there is none it is taken, else it has the first of them.
abbrev pub NamesFirst : {A : Type 0} → List TextCause → Result A TextCause → Type 0
NamesFirst applying (Ok taken) = applying ≡ []
NamesFirst applying (Err cause) = IsFirstCause applying cause
