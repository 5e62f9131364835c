-- The numbers that the system is told.
use Rattle.std.specs.Prelude.{ℕ}
use Rattle.bqd.specs.declared.status.Status.{Status}
use Rattle.bqd.specs.declared.status.Status.TheVariants.{Done, Illegal, Usage, Refused, ReadFailed, WriteFailed, OutOfMemory}

abbrev pub number_of : Status → ℕ
number_of Done = 0
number_of Illegal = 1
number_of Usage = 2
number_of Refused = 3
number_of ReadFailed = 4
number_of WriteFailed = 5
number_of OutOfMemory = 6
