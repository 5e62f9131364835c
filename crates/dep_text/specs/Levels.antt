-- The levels of jobs: a job without references has level 0, and another one more than the greatest level of those it names.
use Rattle.std.specs.Prelude.{ℕ, ◌+◌, List, [], ◌∷◌, max, map, slice_index}
use Rattle.dep_text.specs.declared.job.Arg.{Arg}
use Rattle.dep_text.specs.declared.job.Arg.TheVariants.{Number, Of}
use Rattle.dep_text.specs.declared.job.Piece.{Piece}
use Rattle.dep_text.specs.declared.job.Piece.TheVariants.{Plain, Of as OfBytes}
use Rattle.dep_text.specs.declared.job.DepWork.{DepWork}
use Rattle.dep_text.specs.declared.job.DepWork.TheVariants.{Sum, Digest, Count, Mix, Words}
use Rattle.dep_text.specs.declared.job.DepJob.{DepJob}
use Rattle.dep_text.specs.Grown.{grown}

-- no job has this level or one above it
abbrev pub most_levels : ℕ
most_levels = 32

-- the greatest of some numbers, 0 where there is none
abbrev pub greatest : List ℕ → ℕ
greatest [] = 0
greatest (x ∷ xs) = max x (greatest xs)

-- the level behind a number, where jobs have these levels
abbrev pub arg_level : List ℕ → Arg → ℕ
arg_level levels (Number number) = 0
arg_level levels (Of job) = slice_index levels job + 1

-- the level behind bytes
abbrev pub piece_level : List ℕ → Piece → ℕ
piece_level levels (Plain bytes) = 0
piece_level levels (OfBytes job) = slice_index levels job + 1

-- the level of this work, where the jobs before it have these levels
abbrev pub level_behind : List ℕ → DepWork → ℕ
level_behind levels (Sum args) = greatest (map (arg_level levels) args)
level_behind levels (Digest piece) = piece_level levels piece
level_behind levels (Count byte piece) = piece_level levels piece
level_behind levels (Mix start turns) = arg_level levels start
level_behind levels (Words words) = 0

-- the level of each job, in file order
abbrev pub levels_of : List DepJob → List ℕ
levels_of jobs = grown (λ levels job. level_behind levels job.work) jobs

-- how many levels there are, where jobs have these levels
abbrev pub depth_of : List ℕ → ℕ
depth_of levels = greatest (map (λ level. level + 1) levels)
