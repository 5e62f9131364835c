-- After each step its caller knows how far its search has come; and where its command has ended with Full, its enqueues and its own
-- queued items passed the room.
use Rattle.std.proofs.Common.{◌≡◌, ◌<◌, ℕ, zero, suc, ◌++◌, List, [], ◌∷◌, length, Bool, true, false, cond, Option, Some, None, refl, ap, subst, arith}
use Rattle.std.specs.Prelude.{◌==◌, nat_lt, get_or}
use Rattle.bq_model.specs.declared.group.Group.{Group}
use Rattle.bq_model.specs.declared.op.Op.{Op}
use Rattle.bq_model.specs.declared.shape.Shape.{Shape}
use Rattle.bq_model.specs.Values.{enqueued}
use Rattle.word_rows.specs.declared.location.AnnField.TheVariants as field
use Rattle.word_rows.specs.declared.marks.Marks.{Marks}
use Rattle.word_rows.specs.declared.place.Place.{Place}
use Rattle.node_guard.specs.Retired.{first_unheld, without_first_unheld}
use Rattle.lane_steps.specs.declared.course.Course.{Course}
use Rattle.lane_steps.specs.declared.course.Course.TheVariants as course
use Rattle.lane_steps.specs.declared.point.BatchPoint.TheVariants as batch
use Rattle.lane_steps.specs.declared.point.CallEnd.TheVariants as outcome
use Rattle.lane_steps.specs.declared.point.ClosePoint.TheVariants.{LoadHazard}
use Rattle.lane_steps.specs.declared.point.Closing.{Closing}
use Rattle.lane_steps.specs.declared.point.Closing.TheVariants.{Plain, Batch, Full}
use Rattle.lane_steps.specs.declared.point.FillPoint.TheVariants as fill
use Rattle.lane_steps.specs.declared.point.Hold.{Hold}
use Rattle.lane_steps.specs.declared.point.Hold.TheVariants.{Free, Names, Held}
use Rattle.lane_steps.specs.declared.point.Notice.{Notice}
use Rattle.lane_steps.specs.declared.point.Point.{Point}
use Rattle.lane_steps.specs.declared.point.Point.TheVariants as point
use Rattle.lane_steps.specs.declared.point.Point.TheVariants.{Idle}
use Rattle.lane_steps.specs.declared.point.Reading.{Reading}
use Rattle.lane_steps.specs.declared.point.Taking.{Taking}
use Rattle.lane_steps.specs.declared.point.Taking.TheVariants as taking_for
use Rattle.lane_steps.specs.Batches.{with_rows}
use Rattle.lane_steps.specs.Close.{to_pass}
use Rattle.lane_steps.specs.Fill.{noted, past, chosen}
use Rattle.lane_steps.specs.Functions.{rising}
use Rattle.lane_steps.specs.LaneSizes.{lane_sizes}
use Rattle.lane_steps.specs.State.{Caller}
use Rattle.lane_steps.specs.Step.{ended, frees, frees_next, scans, clears_ann, clears_node, loses, closes, marks_on, marks_from, marks_all, retires, reads_on, rows_left, listening, links_on, takes_on, scans_on, followed}
use Rattle.lane_steps.specs.Take.{search}
use Rattle.lane_room.specs.Search.{IsAbove, WhyFull, CauseAt, KnowsCause}

module _ (z : Shape) (mark : ℕ → Marks) (h : List Group) (c : ℕ) where
  -- of a point to which a command goes on
  abbrev pub Onto : List Op → ℕ → ℕ → Point → Type 0
  Onto ops from taken Idle = ops ≡ []
  Onto ops from taken t = CauseAt z mark h c ops from taken t

  onto_knows : (ops : List Op) (from taken : ℕ) (t : Point) → Onto ops from taken t → CauseAt z mark h c ops from taken t
  onto_knows ops from taken (point.Take t p) x = x
  onto_knows ops from taken (point.Close a p) x = x
  onto_knows ops from taken _ x = tt

  abbrev pub OntoOf : Caller → Point → Type 0
  OntoOf k t = Onto k.ops k.started_at (length k.rows) t

  abbrev pub Why : Caller → Closing → Type 0
  Why k a = WhyFull z h c k.ops k.started_at a

  -- why a command ends with Full, where it has an operation
  abbrev pub F : Caller → Type 0
  F k = 0 < length k.ops → IsAbove z h c k.ops k.started_at

  -- Of a command that ends with Full only where G is so: its caller keeps k then.
  pub record Goes (G : Type 0) (k : Caller) : Type 0 where
    pub cause : KnowsCause z mark h c k
    pub ends : k.point ≡ Idle → k.outcome ≡ Some outcome.Full → G

  onto : (k : Caller) → OntoOf k k.point → Goes (F k) k
  onto k x = record {
    cause = onto_knows k.ops k.started_at (length k.rows) k.point x;
    ends = λ idle _ some. absurd (let none = ap length (subst (OntoOf k) idle x) in omega (arith, none, some));
  }

  -- a search begins, where the caller is to look for its next row
  abbrev pub Begins : Caller → Type 0
  Begins k = (t : Taking) → k.point ≡ search (lane_sizes z) c t → OntoOf k (search (lane_sizes z) c t)

  -- what is so before a step of this course
  abbrev pub CauseFor : Course → Caller → Type 0
  CauseFor (course.GoesOn t) k = OntoOf k t
  CauseFor (course.Guards t x) k = OntoOf k t
  CauseFor (course.Holds t x) k = OntoOf k t
  CauseFor (course.Walks t) k = OntoOf k t
  CauseFor (course.WalksMore t r v) k = OntoOf k t
  CauseFor (course.Closes a) k = Why k a
  CauseFor course.Lacks k = Why k Full
  CauseFor (course.Passes a p r) k = Why k a
  CauseFor (course.Marks a q both stopped) k = Why k a
  CauseFor (course.Retires a r) k = Why k a
  CauseFor (course.ClearsNode a) k = Why k a
  CauseFor (course.ClearsAnn a) k = Why k a
  CauseFor (course.Finds a d x) k = Why k a
  CauseFor (course.Frees a) k = Why k a
  CauseFor _ k = Unit {0}

  module _ (n : ℕ) where
    ended_goes : (k : Caller) (a : Closing) → Why k a → Goes (F k) (ended n c k a)
    ended_goes k (Plain x) w = record { cause = tt; ends = λ _ full _. absurd (cc full) }
    ended_goes k (Batch m) w = record { cause = tt; ends = λ _ full _. absurd (cc full) }
    ended_goes k Full w = record { cause = tt; ends = λ _ _ _. w }

    frees_goes : (k : Caller) (a : Closing) → Why k a → Goes (F k) (frees_next n c k a)
    frees_goes k a w = by (first_unheld k.named k.retired) where
      by : (x : Option ℕ) → Goes (F k) (frees n c k a x)
      by None = ended_goes k a w
      by (Some r) = onto (frees n c k a (Some r)) w

    scans_goes : (k : Caller) (a : Closing) (rows : List ℕ) → Why k a → Goes (F k) (scans n c k a rows)
    scans_goes k a [] w = ended_goes k a w
    scans_goes k a (r ∷ rs) w = onto (scans n c k a (r ∷ rs)) w

    clears_ann_goes : (k : Caller) (a : Closing) (x : Hold) → Why k a → Goes (F k) (clears_ann n c k a x)
    clears_ann_goes k a Free w = scans_goes k a k.retired w
    clears_ann_goes k a (Names x) w = onto (clears_ann n c k a (Names x)) w
    clears_ann_goes k a (Held x) w = onto (clears_ann n c k a (Held x)) w

    clears_node_goes : (k : Caller) (a : Closing) (x : Hold) → Why k a → Goes (F k) (clears_node n c k a x)
    clears_node_goes k a Free w = clears_ann_goes k a k.hold w
    clears_node_goes k a (Names x) w = onto (clears_node n c k a (Names x)) w
    clears_node_goes k a (Held x) w = onto (clears_node n c k a (Held x)) w

    loses_goes : (k : Caller) (a : Closing) (rows : List ℕ) → Why k a → Goes (F k) (loses n c k a rows)
    loses_goes k a [] w = clears_node_goes (record k { rows = [] }) a k.row_hold w
    loses_goes k a (r ∷ rs) w = onto (loses n c k a (r ∷ rs)) w

    closes_goes : (k : Caller) (a : Closing) → Why k a → Goes (F k) (closes n c k a)
    closes_goes k a w = loses_goes k a (rising k.rows) w

    marks_goes : (k : Caller) (a : Closing) (stopped : Bool) (q : Place) (rows : List ℕ) → Why k a → Goes (F k) (marks_on n c k a stopped q rows)
    marks_goes k a stopped q [] w = closes_goes (record k { walked = [] }) a w
    marks_goes k a stopped q (r ∷ rs) w = onto (marks_on n c k a stopped q (r ∷ rs)) w

    marks_all_goes : (k : Caller) (a : Closing) (stopped : Bool) (p : Place) → Why k a → Goes (F k) (marks_all n c k a stopped p)
    marks_all_goes k a stopped p w = by (nat_lt 0 (to_pass (length k.walked) stopped)) where
      by : (b : Bool) → Goes (F k) (marks_from n c k a stopped p b)
      by false = closes_goes (record k { walked = [] }) a w
      by true = onto (marks_from n c k a stopped p true) w

    reads_goes : (k : Caller) (b : Reading) (r l : ℕ) (vs ws : List ℕ) → Goes (F k) (reads_on n c k b r l vs ws)
    reads_goes k b r zero vs ws = marks_all_goes (record k { values = vs; walked = ws }) (Batch b.queued) b.stopped b.dummy tt
    reads_goes k b r (suc l) vs ws = onto (reads_on n c k b r (suc l) vs ws) tt

    scans_on_goes : (k : Caller) (a : Closing) (d : ℕ) → Why k a → Goes (F k) (scans_on (lane_sizes z) n c k a d)
    scans_on_goes k a d w = by (suc d == z.callers) where
      by : (b : Bool) → Goes (F k) (cond b (frees_next n c k a) (record k { point = point.Close a (LoadHazard (suc d)) }))
      by true = frees_goes k a w
      by false = onto (record k { point = point.Close a (LoadHazard (suc d)) }) w

    listens_goes : (k : Caller) (m : Notice) (e : ℕ) (xs : List ℕ) → Goes (F k) (listening (lane_sizes z) c k m e xs)
    listens_goes k m e xs = by (nat_lt (past c e) z.callers) (m.counts.enqs == 0) where
      by : (b d : Bool) → Goes (F k) (record k { point = cond b (point.Fill m (fill.LoadHazard (past c e))) (cond d (point.Batch (chosen (lane_sizes z) c xs m) (batch.StoreAll field.OldHead)) (point.Batch (chosen (lane_sizes z) c xs m) (batch.StoreField field.OldTail))); named = xs })
      by true d = onto _ tt
      by false true = onto _ tt
      by false false = onto _ tt

    links_goes : (k : Caller) (m : Notice) (i : ℕ) (b : Bool) → Goes (F k) (links_on (lane_sizes z) c k m i b)
    links_goes k m i true = listens_goes k m 0 []
    links_goes k m i false = onto (links_on (lane_sizes z) c k m i false) tt

    takes_goes : (k : Caller) (m : Notice) (b : Bool) → Begins (takes_on (lane_sizes z) c k m b) → Goes (F k) (takes_on (lane_sizes z) c k m b)
    takes_goes k m true begins = links_goes k (with_rows m k.rows) 0 (length k.rows == 1)
    takes_goes k m false begins = onto (takes_on (lane_sizes z) c k m false) (begins (taking_for.Batch m (get_or (enqueued k.ops) (length k.rows) 0)) refl)

    pub followed_goes : (k : Caller) (y : Course) → CauseFor y k → Begins (followed (lane_sizes z) n c k y) → Goes (F k) (followed (lane_sizes z) n c k y)
    followed_goes k (course.GoesOn t) w begins = onto (record k { point = t }) w
    followed_goes k (course.Closes a) w begins = closes_goes k a w
    followed_goes k course.Lacks w begins = closes_goes k Full w
    followed_goes k (course.Passes a p r) w begins = marks_all_goes (record k { walked = r ∷ [] }) a false p w
    followed_goes k (course.Fills m r) w begins = takes_goes (record k { rows = k.rows ++ r ∷ [] }) m (length (k.rows ++ r ∷ []) == m.counts.enqs) begins
    followed_goes k (course.Chains m i) w begins = links_goes k m (suc i) (suc (suc i) == length k.rows)
    followed_goes k (course.Stops m r) w begins = listens_goes (record k { rows = r ∷ [] }) (with_rows m (r ∷ [])) 0 []
    followed_goes k (course.Takes t) w begins = onto (record k { point = search (lane_sizes z) c t }) (begins t refl)
    followed_goes k (course.Hears m e x) w begins = listens_goes k m (suc e) (noted k.named x)
    followed_goes k (course.Guards t x) w begins = onto (record k { point = t; hold = x }) w
    followed_goes k (course.Holds t x) w begins = onto (record k { point = t; row_hold = x }) w
    followed_goes k (course.Reads b r l linked) w begins = reads_goes (record k { rows = rows_left linked k.rows }) b r l [] []
    followed_goes k (course.ReadsMore b r l v) w begins = reads_goes k b r l (k.values ++ v ∷ []) (k.walked ++ r ∷ [])
    followed_goes k (course.Walks t) w begins = onto (record k { point = t; values = []; walked = [] }) w
    followed_goes k (course.WalksMore t r v) w begins = onto (record k { point = t; values = k.values ++ v ∷ []; walked = k.walked ++ r ∷ [] }) w
    followed_goes k (course.Moves p m) w begins = marks_all_goes k (Batch m) false p tt
    followed_goes k (course.Marks a q both stopped) w begins = by both where
      by : (b : Bool) → Goes (F k) (marks_on n c (retires k q.row b) a stopped q (retires k q.row b).walked)
      by true = marks_goes (retires k q.row true) a stopped q k.walked w
      by false = marks_goes k a stopped q k.walked w
    followed_goes k (course.Retires a r) w begins = loses_goes (record k { retired = k.retired ++ r ∷ [] }) a k.rows w
    followed_goes k (course.ClearsNode a) w begins = clears_ann_goes (record k { row_hold = Free }) a k.hold w
    followed_goes k (course.ClearsAnn a) w begins = scans_goes (record k { hold = Free }) a k.retired w
    followed_goes k (course.Finds a d x) w begins = scans_on_goes (record k { named = noted k.named x }) a d w
    followed_goes k (course.Frees a) w begins = frees_goes (record k { retired = without_first_unheld k.named k.retired }) a w
