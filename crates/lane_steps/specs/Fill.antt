-- A batch, until its announcement is chosen: its owner stores the value of each row that it took, links its rows, and then
-- loads the ANN_HAZARD words of the other callers, by rising number. It chooses its least announcement that none of them names.
use Rattle.std.specs.Prelude.{◌<◌, ◌^◌, ℕ, suc, ◌-◌, ◌==◌, nat_lt, List, length, [], ◌∷◌, ◌++◌, cond, false, Option, Some, None}
use Rattle.node_guard.specs.Pick.{pick}
use Rattle.word_rows.specs.declared.link_word.LinkWord.TheVariants.{Single}
use Rattle.word_rows.specs.declared.location.AnnField.TheVariants as field
use Rattle.word_rows.specs.declared.location.Location.TheVariants.{Link, Value, AnnHazard}
use Rattle.word_rows.specs.declared.content.Content.{Content}
use Rattle.word_rows.specs.declared.content.Content.TheVariants.{OfLink, OfValue}
use Rattle.lane_steps.specs.declared.act.Act.{Act}
use Rattle.lane_steps.specs.declared.act.Act.TheVariants.{Load, Store}
use Rattle.lane_steps.specs.declared.course.Course.{Course}
use Rattle.lane_steps.specs.declared.course.Course.TheVariants.{Fills, Chains, Hears}
use Rattle.lane_steps.specs.declared.kind.StepKind.{StepKind}
use Rattle.lane_steps.specs.declared.kind.StepKind.TheVariants as kind
use Rattle.lane_steps.specs.declared.point.Notice.{Notice}
use Rattle.lane_steps.specs.declared.point.Draft.{Draft}
use Rattle.lane_steps.specs.declared.point.FillPoint.{FillPoint}
use Rattle.lane_steps.specs.declared.point.FillPoint.TheVariants.{StoreValue, StoreChain, LoadHazard}
use Rattle.lane_steps.specs.declared.point.BatchPoint.TheVariants as batch
use Rattle.lane_steps.specs.declared.point.Point.{Point}
use Rattle.lane_steps.specs.declared.point.Point.TheVariants as point
use Rattle.lane_steps.specs.LaneSizes.{LaneSizes}
use Rattle.lane_steps.specs.State.{Command, hazard_in}
use Rattle.lane_steps.specs.Fact.{Fact, drafts, fills, whole, enqueues, goes_on, owns, apart_from, linearized_is, scanned, is_other}
use Rattle.bq_model.specs.declared.shape.Shape.{Shape}
use Rattle.word_rows.specs.Sizes.{rows_of}

abbrev pub act : FillPoint → Act
act (StoreValue r v) = Store (Value r) (OfValue v)
act (StoreChain i r n) = Store (Link r) (OfLink (Single n))
act (LoadHazard e) = Load (AnnHazard e)

abbrev pub course : Notice → FillPoint → Content → Course
course n (StoreValue r v) x = Fills n r
course n (StoreChain i r q) x = Chains n i
course n (LoadHazard e) x = Hears n e (hazard_in x)

-- the announcement is chosen; dequeues alone store all of its fields before each install
abbrev pub chosen : LaneSizes → ℕ → List ℕ → Notice → Draft
chosen z c xs n = record { ann = pick z.callers c xs; notice = n }

abbrev pub first_store : Draft → Point
first_store d = cond (d.notice.counts.enqs == 0) (point.Batch d (batch.StoreAll field.OldHead)) (point.Batch d (batch.StoreField field.OldTail))

-- Caller c has found these named. It goes on with the words of the callers from e on, but its own.
abbrev pub past : ℕ → ℕ → ℕ
past c e = cond (e == c) (suc e) e

abbrev pub scan_at : LaneSizes → ℕ → List ℕ → Notice → ℕ → Point
scan_at z c xs n e = cond (nat_lt e z.callers) (point.Fill n (LoadHazard e)) (first_store (chosen z c xs n))

abbrev pub scan_from : LaneSizes → ℕ → List ℕ → Notice → ℕ → Point
scan_from z c xs n e = scan_at z c xs n (past c e)

-- what it has found named, and this
abbrev pub noted : List ℕ → Option ℕ → List ℕ
noted xs None = xs
noted xs (Some a) = xs ++ a ∷ []

abbrev pub kind_of : FillPoint → StepKind
kind_of (StoreValue r v) = kind.StoreValue
kind_of (StoreChain i r n) = kind.StoreChain
kind_of (LoadHazard e) = kind.LoadHazard

-- what the owner knows of its command, and besides at each of its steps, where it has found these named
abbrev pub call_knows : Command → Notice → List Fact
call_knows m n = drafts m n ∷ []

abbrev pub knows : List ℕ → Command → Notice → FillPoint → List Fact
knows xs m n (StoreValue r v) = linearized_is false (r ∷ m.rows) [] [] ∷ fills m.rows m.ops 0 ∷ enqueues m.ops n (length m.rows) v ∷ owns false r ∷ apart_from r m.rows ∷ []
knows xs m n (StoreChain i r q) = linearized_is false m.rows [] [] ∷ fills m.rows m.ops i ∷ whole n m.rows ∷ goes_on m.rows i r q ∷ []
knows xs m n (LoadHazard e) = linearized_is false m.rows [] [] ∷ fills m.rows m.ops (length m.rows - 1) ∷ whole n m.rows ∷ scanned e xs ∷ is_other e ∷ []

-- what it stores fits in the lane, and the row into which it does so
abbrev pub fits : Shape → FillPoint → Type 0
fits s (StoreValue r v) = (r < rows_of s) × (v < 2 ^ 64)
fits s _ = Unit {0}
