-- How a fault of a text is printed.
use Rattle.std.specs.Prelude.{ℕ, List, codes}
use Rattle.bq_model.specs.declared.fault.TextCause.{TextCause}
use Rattle.bq_model.specs.declared.fault.TextCause.TheVariants.{NotText, NoHeader, BadWord, BadNumber, BadLane, BlockTooLong, OpenBlock, OpenRound, BusyCaller, TooMany, TooLong, TooDeep}

-- a cause in words
abbrev pub cause_text : TextCause → List ℕ
cause_text NotText = codes "not text"
cause_text NoHeader = codes "no header"
cause_text BadWord = codes "bad word"
cause_text BadNumber = codes "bad number"
cause_text BadLane = codes "bad lane"
cause_text BlockTooLong = codes "block too long"
cause_text OpenBlock = codes "open block"
cause_text OpenRound = codes "open round"
cause_text BusyCaller = codes "busy caller"
cause_text TooMany = codes "too many"
cause_text TooLong = codes "too long"
cause_text TooDeep = codes "too deep"
