-- What the words so far say, one after another.
use Rattle.std.specs.Prelude.{List, [], ◌∷◌, ◌++◌, Option, None, Some, Result, Ok, Err}
use Rattle.bq_model.specs.declared.fault.TextCause.{TextCause}
use Rattle.text_lines.specs.Cause.{both}
use Rattle.text_lines.specs.Parts.{◌>>=◌}

-- what was found, or a cause
abbrev pub said : {X : Type 0} → X → Option TextCause → Result X TextCause
said found None = Ok found
said found (Some cause) = Err cause

-- what two parts found, one behind the other, or the cause that comes first
abbrev pub behind : {X : Type 0} → Result (List X) TextCause → Result (List X) TextCause → Result (List X) TextCause
behind one other = both one other >>= (λ found. Ok (found.0 ++ found.1))

-- one thing more
abbrev pub one_more : {X : Type 0} → Result (List X) TextCause → Result X TextCause → Result (List X) TextCause
one_more found more = both found more >>= (λ both_found. Ok (both_found.0 ++ both_found.1 ∷ []))
