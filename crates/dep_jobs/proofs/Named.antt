-- The jobs that a job names.
use Rattle.std.proofs.Common.{◌≡◌, ℕ, ◌+◌, ◌<◌, ◌≤◌, true, List, [], ◌∷◌, length, map, max, Option, Some, None, refl, ap, ap₂, ◌∙◌, arith, All, slice_get, option_map, slice_index, slice_index_or}
use Rattle.std.proofs.lemmas.List.Elements.{All-nil, All-cons, All-head, All-tail, All-weaker}
use Rattle.std.proofs.lemmas.Option.{slice_get_within}
use Rattle.dep_text.specs.declared.job.Arg.{Arg}
use Rattle.dep_text.specs.declared.job.Arg.TheVariants.{Number, Of}
use Rattle.dep_text.specs.declared.job.Piece.{Piece}
use Rattle.dep_text.specs.declared.job.Piece.TheVariants.{Plain, Of as OfBytes}
use Rattle.dep_text.specs.declared.job.DepWork.{DepWork}
use Rattle.dep_text.specs.declared.job.DepWork.TheVariants.{Sum, Digest, Count, Mix, Words}
use Rattle.dep_text.specs.declared.job.DepJob.{DepJob}
use Rattle.dep_text.specs.declared.job.Place.{Place}
use Rattle.dep_text.specs.declared.job.Place.TheVariants.{AsNumber, AsBytes}
use Rattle.dep_text.specs.Places.{serves}
use Rattle.dep_text.specs.DepFile.{Names, IsArg, IsPiece, IsDepWork}
use Rattle.dep_text.specs.Levels.{greatest, arg_level, piece_level, level_behind}
use Rattle.dep_text.proofs.LevelLemmas.{below_greatest}
use Rattle.dep_jobs.specs.Resolve.{number_in, arg_value, piece_bytes, resolve}

-- whether P holds of the job that a number, bytes or work names, if it names one
abbrev pub ArgNames : (ℕ → Type 0) → Arg → Type 0
ArgNames P (Number number) = Unit {0}
ArgNames P (Of job) = P job

abbrev pub PieceNames : (ℕ → Type 0) → Piece → Type 0
PieceNames P (Plain bytes) = Unit {0}
PieceNames P (OfBytes job) = P job

abbrev pub WorkNames : (ℕ → Type 0) → DepWork → Type 0
WorkNames P (Sum args) = All (ArgNames P) args
WorkNames P (Digest piece) = PieceNames P piece
WorkNames P (Count byte piece) = PieceNames P piece
WorkNames P (Mix start turns) = ArgNames P start
WorkNames P (Words words) = Unit {0}

-- ---- two facts about the jobs that are named

module _ (P Q R : ℕ → Type 0) (follows : (k : ℕ) → P k → Q k → R k) where
  arg_follows : (arg : Arg) → ArgNames P arg → ArgNames Q arg → ArgNames R arg
  arg_follows (Number number) p q = tt
  arg_follows (Of job) p q = follows job p q

  piece_follows : (piece : Piece) → PieceNames P piece → PieceNames Q piece → PieceNames R piece
  piece_follows (Plain bytes) p q = tt
  piece_follows (OfBytes job) p q = follows job p q

  args_follow : (args : List Arg) → All (ArgNames P) args → All (ArgNames Q) args → All (ArgNames R) args
  args_follow [] p q = All-nil (ArgNames R)
  args_follow (arg ∷ args) p q =
      All-cons (ArgNames R) arg args (arg_follows arg (All-head (ArgNames P) arg args p) (All-head (ArgNames Q) arg args q))
      (args_follow args (All-tail (ArgNames P) arg args p) (All-tail (ArgNames Q) arg args q))

  pub work_follows : (work : DepWork) → WorkNames P work → WorkNames Q work → WorkNames R work
  work_follows (Sum args) p q = args_follow args p q
  work_follows (Digest piece) p q = piece_follows piece p q
  work_follows (Count byte piece) p q = piece_follows piece p q
  work_follows (Mix start turns) p q = arg_follows start p q
  work_follows (Words words) p q = tt

-- ---- they stand before

named_within : (place : Place) (before : List DepJob) (k : ℕ) → Names place before k → k < length before
named_within place before k names =
    elim (slice_get before k) as (λ found. slice_get before k ≡ found → option_map (λ job. serves place job.work) found ≡ Some true → k < length before) [
      | None ↦ λ found none. cc none
      | Some job ↦ λ found fits. slice_get_within before k job found
    ] refl names

arg_before : (before : List DepJob) (arg : Arg) → IsArg before arg → ArgNames (λ k. k < length before) arg
arg_before before (Number number) is = tt
arg_before before (Of job) is = named_within AsNumber before job is

piece_before : (before : List DepJob) (piece : Piece) → IsPiece before piece → PieceNames (λ k. k < length before) piece
piece_before before (Plain bytes) is = tt
piece_before before (OfBytes job) is = named_within AsBytes before job is

pub work_before : (before : List DepJob) (work : DepWork) → IsDepWork before work → WorkNames (λ k. k < length before) work
work_before before (Sum args) is = All-weaker (IsArg before) (ArgNames (λ k. k < length before)) (arg_before before) args is
work_before before (Digest piece) is = piece_before before piece is
work_before before (Count byte piece) is = piece_before before piece is.1
work_before before (Mix start turns) is = arg_before before start is.0
work_before before (Words words) is = tt

-- ---- they have lower levels

arg_lower : (levels : List ℕ) (bound : ℕ) (arg : Arg) → arg_level levels arg ≤ bound → ArgNames (λ k. slice_index levels k < bound) arg
arg_lower levels bound (Number number) low = tt
arg_lower levels bound (Of job) low = omega arith

piece_lower : (levels : List ℕ) (piece : Piece) → PieceNames (λ k. slice_index levels k < piece_level levels piece) piece
piece_lower levels (Plain bytes) = tt
piece_lower levels (OfBytes job) = omega arith

pub work_lower : (levels : List ℕ) (work : DepWork) → WorkNames (λ k. slice_index levels k < level_behind levels work) work
work_lower levels (Sum args) =
    let bound = greatest (map (arg_level levels) args) in
    All-weaker (λ arg. arg_level levels arg ≤ bound) (ArgNames (λ k. slice_index levels k < bound)) (arg_lower levels bound) args (below_greatest (arg_level levels) args)
work_lower levels (Digest piece) = piece_lower levels piece
work_lower levels (Count byte piece) = piece_lower levels piece
work_lower levels (Mix start turns) = arg_lower levels (arg_level levels start) start (omega arith)
work_lower levels (Words words) = tt

-- ---- work is the same job where the jobs that it names have the same answers

-- whether a job has the same answer in both
abbrev pub SameAt : List (List ℕ) → List (List ℕ) → ℕ → Type 0
SameAt one other k = slice_index_or one k [] ≡ slice_index_or other k []

arg_same : (one other : List (List ℕ)) (arg : Arg) → ArgNames (SameAt one other) arg → arg_value one arg ≡ arg_value other arg
arg_same one other (Number number) same = refl
arg_same one other (Of job) same = ap number_in same

args_same : (one other : List (List ℕ)) (args : List Arg) → All (ArgNames (SameAt one other)) args → map (arg_value one) args ≡ map (arg_value other) args
args_same one other [] same = refl
args_same one other (arg ∷ args) same =
    ap₂ (λ (x : ℕ) (xs : List ℕ). x ∷ xs) (arg_same one other arg (All-head (ArgNames (SameAt one other)) arg args same)) (args_same one other args (All-tail (ArgNames (SameAt one other)) arg args same))

piece_same : (one other : List (List ℕ)) (piece : Piece) → PieceNames (SameAt one other) piece → piece_bytes one piece ≡ piece_bytes other piece
piece_same one other (Plain bytes) same = refl
piece_same one other (OfBytes job) same = same

pub resolve-same : (one other : List (List ℕ)) (work : DepWork) → WorkNames (SameAt one other) work → resolve work one ≡ resolve work other
resolve-same one other (Sum args) same = let values = args_same one other args same in rw values refl
resolve-same one other (Digest piece) same = let bytes = piece_same one other piece same in rw bytes refl
resolve-same one other (Count byte piece) same = let bytes = piece_same one other piece same in rw bytes refl
resolve-same one other (Mix start turns) same = let value = arg_same one other start same in rw value refl
resolve-same one other (Words words) same = refl
