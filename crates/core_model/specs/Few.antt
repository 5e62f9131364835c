-- How many rows a caller has in its lists at each point of a call, so that those that it has yet to free are never more than
-- there is room for.
use Rattle.std.specs.Prelude.{◌≡◌, ◌⊎◌, Bool, ℕ, suc, ◌+◌, ◌^◌, ◌<◌, ◌≤◌, ◌++◌, List, [], ◌∷◌, length, None}
use Rattle.bq_model.specs.declared.op.Op.{Op}
use Rattle.bq_model.specs.declared.shape.Shape.{Shape}
use Rattle.excess_count.specs.Excess.{enqueue_count}
use Rattle.lane_steps.specs.declared.course.Course.{Course}
use Rattle.lane_steps.specs.declared.course.Course.TheVariants as course
use Rattle.lane_steps.specs.declared.point.Point.{Point}
use Rattle.lane_steps.specs.declared.point.Point.TheVariants as point
use Rattle.lane_steps.specs.declared.point.ClosePoint.TheVariants.{MarkRow, MarkLoose, LoadHazard, MarkFree}
use Rattle.lane_steps.specs.declared.point.AnswerPoint.TheVariants as answer
use Rattle.lane_steps.specs.declared.point.Closing.{Closing}
use Rattle.lane_steps.specs.declared.point.FillPoint.TheVariants as fill
use Rattle.lane_steps.specs.declared.point.ManyPoint.TheVariants as many
use Rattle.lane_steps.specs.declared.point.Notice.{Notice}
use Rattle.lane_steps.specs.declared.point.Plan.{Plan}
use Rattle.lane_steps.specs.declared.point.Reading.{Reading}
use Rattle.word_rows.specs.declared.place.Place.{Place}
use Rattle.lane_steps.specs.Functions.{Distinct}
use Rattle.lane_steps.specs.State.{Caller}

-- room for rows that wait to be freed
abbrev pub room_of : Shape → ℕ
room_of s = s.batch + s.callers + 1

-- Before the end of a call: it has taken one row at most, or no more than it has enqueues; it has walked no more rows than it
-- has dequeues; and fewer rows wait to be freed than there are callers.
pub record Early (s : Shape) (ops : List Op) (rows walked retired : List ℕ) : Type 0 where
  pub few_rows : (length rows ≤ 1) ⊎ (length rows ≤ enqueue_count ops)
  pub few_walked : length walked + enqueue_count ops ≤ length ops
  pub few_retired : length retired < s.callers

-- one more value can be read, for a dequeue that gets it, and has its row beside it
pub record ReadsOn (k : Caller) : Type 0 where
  pub left : length k.values + enqueue_count k.ops < length k.ops
  pub paired : length k.walked ≡ length k.values

-- What a caller of a lane of so many keeps in its lists, at the point where it stands.
pub record ListsFit (callers : ℕ) (k : Caller) : Type 0 where
  -- where it reads a value, there is a dequeue that gets it
  pub reads : (b : Reading) (r l : ℕ) → k.point ≡ point.Answer (answer.LoadValue b r l) → ReadsOn k
  pub walks : (d : Plan) (r l : ℕ) → k.point ≡ point.Many d (many.LoadValue r l) → ReadsOn k
  -- where it fills a row, there is an enqueue for that
  pub fills : (n : Notice) (r v : ℕ) → k.point ≡ point.Fill n (fill.StoreValue r v) → length k.rows < enqueue_count k.ops
  -- where it links a row, there is a next one
  pub chains : (n : Notice) (i r q : ℕ) → k.point ≡ point.Fill n (fill.StoreChain i r q) → suc i < length k.rows
  -- the count of a place that it marks can be raised
  pub marks : (a : Closing) (q : Place) (read passed stopped : Bool) → k.point ≡ point.Close a (MarkRow q read passed stopped) → q.count < 2 ^ 44
  -- it loads the hazard word of a caller of the lane, and has found fewer announcements named than there are others
  pub hears : (n : Notice) (e : ℕ) → k.point ≡ point.Fill n (fill.LoadHazard e) → (e < callers) × (suc (length k.named) < callers)
  -- no row is twice among those that it has yet to free
  pub retired : Distinct k.retired

-- Of caller c at each point, with these lists.
module _ (s : Shape) (c : ℕ) where
  abbrev pub Few : Point → List Op → List ℕ → List ℕ → List ℕ → List ℕ → Type 0
  Few point.Idle ops rows walked retired named = length retired < s.callers
  Few (point.Close x (MarkRow q read passed stopped)) ops rows walked retired named = suc (length walked + length rows) + length retired ≤ room_of s
  Few (point.Close x (MarkLoose r)) ops rows walked retired named = suc (length rows) + length retired ≤ room_of s
  Few (point.Close x (LoadHazard d)) ops rows walked retired named = (length named ≤ d) × (c < d → length named < d)
  Few (point.Close x (MarkFree r)) ops rows walked retired named = length named < s.callers
  Few (point.Close x _) ops rows walked retired named = Unit {0}
  Few _ ops rows walked retired named = Early s ops rows walked retired

  abbrev pub HasFew : Caller → Type 0
  HasFew k = Few k.point k.ops k.rows k.walked k.retired k.named

  abbrev pub IsEarly : Caller → Type 0
  IsEarly k = Early s k.ops k.rows k.walked k.retired

  -- the same before a step of this course, which leads there
  abbrev pub FewFor : Course → Caller → Type 0
  FewFor (course.GoesOn t) k = Few t k.ops k.rows k.walked k.retired k.named
  FewFor (course.Fills n r) k = IsEarly k × (length k.rows < enqueue_count k.ops)
  FewFor (course.Chains n i) k = IsEarly k × (suc i < length k.rows)
  FewFor (course.Hears n e x) k = IsEarly k × (e < s.callers) × (suc (length k.named) < s.callers)
  FewFor (course.Guards t h) k = Few t k.ops k.rows k.walked k.retired k.named
  FewFor (course.Holds t h) k = Few t k.ops k.rows k.walked k.retired k.named
  FewFor (course.ReadsMore b r l v) k = IsEarly k × ReadsOn k
  FewFor (course.Walks t) k = Few t k.ops k.rows [] k.retired k.named
  FewFor (course.WalksMore t r v) k = Few t k.ops k.rows (k.walked ++ r ∷ []) k.retired k.named × ReadsOn k
  FewFor (course.Marks x q both stopped) k = (suc (length k.walked + length k.rows) + length k.retired ≤ room_of s) × (q.count < 2 ^ 44)
  FewFor (course.Retires x r) k = suc (length k.rows) + length k.retired ≤ room_of s
  FewFor (course.ClearsNode x) k = Unit {0}
  FewFor (course.ClearsAnn x) k = Unit {0}
  FewFor (course.Finds x d named) k = (length k.named ≤ d) × (c < d → length k.named < d) × (d < s.callers) × (d ≡ c → named ≡ None)
  FewFor (course.Frees x) k = length k.named < s.callers
  FewFor _ k = IsEarly k
