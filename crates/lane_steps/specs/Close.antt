-- The end of a call: the caller marks the rows that its operation passed and whose values it took, from the old dummy on, and
-- then those that it took and didn't link. It clears its hazard words. Then it loads the NODE_HAZARD words of all callers, and
-- frees the rows of its retired list that none of them names.
use Rattle.std.specs.Prelude.{◌<◌, ℕ, suc, ◌+◌, Bool, true, false, cond, ◌&&◌, ◌||◌, List, [], ◌∷◌, length, None}
use Rattle.bq_model.specs.declared.shape.Shape.{Shape}
use Rattle.word_rows.specs.declared.marks.Marks.{Marks}
use Rattle.word_rows.specs.declared.location.Location.TheVariants.{NodeHazard, AnnHazard}
use Rattle.word_rows.specs.declared.content.Content.{Content}
use Rattle.word_rows.specs.declared.content.Content.TheVariants.{OfNodeHazard, OfAnnHazard}
use Rattle.word_rows.specs.Fits.{limits_of, PlaceFits}
use Rattle.word_rows.specs.Sizes.{rows_of}
use Rattle.lane_steps.specs.declared.act.Act.{Act}
use Rattle.lane_steps.specs.declared.act.Act.TheVariants.{Load, Store, Join}
use Rattle.lane_steps.specs.declared.course.Course.{Course}
use Rattle.lane_steps.specs.declared.course.Course.TheVariants.{Retires, ClearsNode, ClearsAnn, Finds, Frees}
use Rattle.lane_steps.specs.declared.course.Course.TheVariants as goes
use Rattle.lane_steps.specs.declared.point.Hold.TheVariants.{Free}
use Rattle.lane_steps.specs.declared.kind.StepKind.{StepKind}
use Rattle.lane_steps.specs.declared.kind.StepKind.TheVariants as kind
use Rattle.lane_steps.specs.declared.point.Closing.{Closing}
use Rattle.lane_steps.specs.declared.point.Closing.TheVariants.{Plain, Batch, Full}
use Rattle.lane_steps.specs.declared.point.ClosePoint.{ClosePoint}
use Rattle.lane_steps.specs.declared.point.ClosePoint.TheVariants.{MarkRow, MarkLoose, ClearNode, ClearAnn, LoadHazard, MarkFree}
use Rattle.lane_steps.specs.LaneSizes.{LaneSizes}
use Rattle.lane_steps.specs.Functions.{upto}
use Rattle.lane_steps.specs.State.{Caller, own_group, mark_in, hazard_in, marks, both_marks}
use Rattle.lane_steps.specs.Fact.{Fact, linearized_is, answered, owes_rows, passes_first, loose_row, own_rows, apart_from, lets_go, goes_first, holds_nothing, is_caller, may_lack}
use Rattle.lane_steps.specs.Answers.{closing_answers}

abbrev pub act : ℕ → ClosePoint → Act
act c (MarkRow q read passed stopped) = Join q.row (marks read passed false)
act c (MarkLoose r) = Join r both_marks
act c ClearNode = Store (NodeHazard c) (OfNodeHazard None)
act c ClearAnn = Store (AnnHazard c) (OfAnnHazard None)
act c (LoadHazard d) = Load (NodeHazard d)
act c (MarkFree r) = Join r (marks false false true)

-- both marks are set, where these were found and these are set
abbrev pub both_set : Marks → Bool → Bool → Bool
both_set x read passed = (x.read || read) && (x.passed || passed)

abbrev pub course : Closing → ClosePoint → Content → Course
course a (MarkRow q read passed stopped) x = goes.Marks a q (both_set (mark_in x) read passed) stopped
course a (MarkLoose r) x = Retires a r
course a ClearNode x = ClearsNode a
course a ClearAnn x = ClearsAnn a
course a (LoadHazard d) x = Finds a d (hazard_in x)
course a (MarkFree r) x = Frees a

abbrev pub kind_of : ClosePoint → StepKind
kind_of (MarkRow q read passed stopped) = kind.MarkRow
kind_of (MarkLoose r) = kind.MarkRow
kind_of ClearNode = kind.StoreNodeHazard
kind_of ClearAnn = kind.StoreAnnHazard
kind_of (LoadHazard d) = kind.LoadHazard
kind_of (MarkFree r) = kind.MarkFree

-- it ends with Done
abbrev pub is_done : Closing → Bool
is_done (Plain answer) = true
is_done (Batch m) = true
is_done Full = false

-- how many rows from this place on are to be marked as passed, where so many lie behind it that are to be marked
abbrev pub to_pass : ℕ → Bool → ℕ
to_pass n stopped = n + cond stopped 1 0

-- what it has yet to mark
abbrev pub owed_at : Caller → Closing → ClosePoint → Fact
owed_at k a (MarkRow q read passed stopped) = linearized_is (is_done a) k.rows (upto q.count (to_pass (length k.walked) stopped)) (cond read (upto q.count (suc (length k.walked))) (upto (suc q.count) (length k.walked)))
owed_at k a (MarkLoose r) = linearized_is (is_done a) (r ∷ k.rows) [] []
owed_at k a _ = linearized_is (is_done a) [] [] []

abbrev pub answer_known : ℕ → Caller → Closing → List Fact
answer_known c k (Plain answer) = answered k.started_at (own_group c k) (closing_answers k.ops k.values (Plain answer)) ∷ []
answer_known c k (Batch m) = answered k.started_at (own_group c k) (closing_answers k.ops k.values (Batch m)) ∷ []
answer_known c k Full = is_caller c ∷ may_lack k.ops ∷ []

abbrev pub call_knows : ℕ → Caller → Closing → ClosePoint → List Fact
call_knows c k a p = owed_at k a p ∷ answer_known c k a

abbrev pub knows : LaneSizes → Caller → ClosePoint → List Fact
knows z k (MarkRow q read passed stopped) = owes_rows q read stopped k.walked ∷ own_rows k.rows ∷ passes_first passed stopped k.walked ∷ []
knows z k (MarkLoose r) = loose_row r ∷ own_rows k.rows ∷ apart_from r k.rows ∷ []
knows z k ClearAnn = holds_nothing Free k.row_hold ∷ []
knows z k (LoadHazard d) = lets_go d k.retired k.named ∷ holds_nothing k.hold k.row_hold ∷ is_caller d ∷ []
knows z k (MarkFree r) = lets_go z.callers k.retired k.named ∷ goes_first k.retired k.named r ∷ holds_nothing k.hold k.row_hold ∷ []
knows z k _ = []

-- what it has read fits in the lane
abbrev pub fits : Shape → ClosePoint → Type 0
fits s (MarkRow q read passed stopped) = PlaceFits (limits_of s) q
fits s (MarkLoose r) = r < rows_of s
fits s (LoadHazard d) = d < s.callers
fits s (MarkFree r) = r < rows_of s
fits s _ = Unit {0}
