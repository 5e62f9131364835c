-- Each step of the end of a call keeps the lane lawful.
use Rattle.std.proofs.Common.{◌≡◌, ℕ}
use Rattle.bq_model.specs.declared.shape.Shape.{Shape}
use Rattle.word_rows.specs.declared.content.Content.{Content}
use Rattle.lane_steps.specs.declared.point.Closing.{Closing}
use Rattle.lane_steps.specs.declared.point.ClosePoint.{ClosePoint}
use Rattle.lane_steps.specs.declared.point.ClosePoint.TheVariants.{MarkRow, MarkLoose, ClearNode, ClearAnn, LoadHazard, MarkFree}
use Rattle.lane_steps.specs.declared.point.Point.TheVariants as point
use Rattle.lane_steps.specs.Coded.{CourseFits}
use Rattle.lane_steps.specs.LaneSizes.{LaneSizes}
use Rattle.lane_steps.specs.State.{State}
use Rattle.lane_steps.specs.Step.{step_at}
use Rattle.lane_steps.specs.Close as closing
use Rattle.core_model.specs.Lawful.{Lawful}
use Rattle.core_model.proofs.CloseSteps.{preserves_clear_node, preserves_clear_ann, preserves_find}
use Rattle.core_model.proofs.Frees.{preserves_free}
use Rattle.core_model.proofs.LooseMarks.{preserves_mark_loose}
use Rattle.core_model.proofs.MarkSteps.{preserves_mark_row}

pub preserves_close : (z : LaneSizes) (s : State) (L : Lawful z s) (c : ℕ) (a : Closing) (p : ClosePoint) → (s.callers c).point ≡ point.Close a p → Lawful z (step_at z s c (point.Close a p))
preserves_close z s L c a (MarkRow q read passed stopped) is = preserves_mark_row z s L c a q read passed stopped is
preserves_close z s L c a (MarkLoose r) is = preserves_mark_loose z s L c a r is
preserves_close z s L c a ClearNode is = preserves_clear_node z s L c a is
preserves_close z s L c a ClearAnn is = preserves_clear_ann z s L c a is
preserves_close z s L c a (LoadHazard d) is = preserves_find z s L c a d is
preserves_close z s L c a (MarkFree r) is = preserves_free z s L c a r is

-- and it goes on with what fits
pub close_fits : (s : Shape) (a : Closing) (p : ClosePoint) (x : Content) → closing.fits s p → CourseFits s (closing.course a p x)
close_fits s a (MarkRow q read passed stopped) x fits = fits
close_fits s a (MarkLoose r) x fits = fits
close_fits s a ClearNode x fits = tt
close_fits s a ClearAnn x fits = tt
close_fits s a (LoadHazard d) x fits = tt
close_fits s a (MarkFree r) x fits = tt
