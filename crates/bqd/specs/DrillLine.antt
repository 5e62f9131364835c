-- The line that tells a user what came of a drill.
use Rattle.std.specs.Prelude.{ℕ, ◌+◌, ◌*◌, ◌%◌, ◌^◌, List, ◌++◌, length, fold, codes, decimal}
use Rattle.job_text.specs.Generator.{gen_of}
use Rattle.job_text.specs.Replies.{replies_of}
use Rattle.bulk_dispatcher.specs.Books.{lanes_of}

-- a number that tells most texts apart: 0, changed for each byte in turn
abbrev pub fold_of : List ℕ → ℕ
fold_of bytes = fold (λ f byte. (f * 31 + byte) % 2 ^ 64) 0 bytes

-- how many jobs there were and how many lanes, how many bytes their replies have, and the fold of these bytes
abbrev pub drill_text : ℕ → ℕ → List ℕ → List ℕ
drill_text jobs lanes replies =
    codes "jobs " ++ decimal jobs ++ codes " lanes " ++ decimal lanes ++ codes " bytes " ++ decimal (length replies) ++ codes " fold " ++ decimal (fold_of replies) ++ codes "\n"

-- the line of a drill of so many jobs
abbrev pub drill_line : ℕ → List ℕ
drill_line jobs = drill_text jobs (length (lanes_of (gen_of jobs))) (replies_of (gen_of jobs))
