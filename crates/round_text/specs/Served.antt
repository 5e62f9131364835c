-- What a stream of job files is served with.
use Rattle.std.specs.Prelude.{ℕ, ◌+◌, List, [], ◌∷◌, ◌++◌, codes, decimal}
use Rattle.job_text.specs.declared.file.Unit.{Unit}
use Rattle.job_text.specs.Replies.{replies_of}

-- the line behind the replies of the round of this number
abbrev pub done_line : ℕ → List ℕ
done_line number = codes "done " ++ decimal number ++ codes "\n"

-- the replies to a round's jobs, and that line
abbrev pub round_text : ℕ → List Unit → List ℕ
round_text number file = replies_of file ++ done_line number

-- the text of these files, the first of which has this number
abbrev pub served_from : ℕ → List (List Unit) → List ℕ
served_from number [] = []
served_from number (file ∷ files) = round_text number file ++ served_from (number + 1) files

-- the text of all rounds
abbrev pub served : List (List Unit) → List ℕ
served files = served_from 0 files
