-- The line that tells a user what was found of a history.
use Rattle.std.specs.Prelude.{ℕ, List, ◌++◌, codes, decimal}
use Rattle.trace_text.specs.declared.verdict.Verdict.{Verdict}
use Rattle.trace_text.specs.declared.verdict.Verdict.TheVariants.{Legal, Illegal}

-- that it is legal with its counts, or the number of the first line that is not
abbrev pub verdict_text : Verdict → List ℕ
verdict_text (Legal groups operations) = codes "legal " ++ decimal groups ++ codes " " ++ decimal operations ++ codes "\n"
verdict_text (Illegal line) = codes "illegal line " ++ decimal line ++ codes "\n"
