-- What all calls need to go on with what fits.
use Rattle.std.proofs.Common.{ℕ, ◌<◌, Bool, true, false, cond, arith, ◌^◌}
use Rattle.bq_model.specs.declared.shape.Shape.{Shape}
use Rattle.word_rows.specs.Fits.{limits_of, PlaceFits}
use Rattle.word_rows.specs.Sizes.{rows_of, anns_of}
use Rattle.lane_steps.specs.declared.course.Course.{Course}
use Rattle.lane_steps.specs.declared.point.Back.{Back}
use Rattle.lane_steps.specs.declared.point.Point.{Point}
use Rattle.lane_steps.specs.Fits.{BackFits, HelpFits}
use Rattle.lane_steps.specs.Coded.{PointFits, CourseFits}
use Rattle.lane_steps.specs.Help.{help_of}

module _ (s : Shape) where
  pub no_row : 0 < rows_of s
  no_row = omega arith

  pub no_place : PlaceFits (limits_of s) (record { row = 0; count = 0 })
  no_place = (no_row, (omega arith))

  pub fresh_help : (a n : ℕ) (b : Back) → a < anns_of s → n < 2 ^ 44 → BackFits s b → HelpFits s (help_of a n b)
  fresh_help a n b at below fits = record { ann = at; old_head = (no_row, below); first = no_row; last = no_row; counts = ((omega arith), (omega arith), (omega arith)); goes_back = fits }

  pub course_either : (b : Bool) (x : Course) (y : Course) → CourseFits s x → CourseFits s y → CourseFits s (cond b x y)
  course_either true x y a b = a
  course_either false x y a b = b

  pub point_either : (b : Bool) (t u : Point) → PointFits s t → PointFits s u → PointFits s (cond b t u)
  point_either true t u a b = a
  point_either false t u a b = b
