-- What becomes of a command after a step: it goes on, with other lists and holds, or it ends.
use Rattle.std.proofs.Common.{ℕ, zero, suc, Bool, true, false, List, [], ◌∷◌, ◌++◌, length, Option, Some, None, cond, eqb, ltb}
use Rattle.node_guard.specs.Retired.{first_unheld, without_first_unheld}
use Rattle.word_rows.specs.declared.place.Place.{Place}
use Rattle.lane_steps.specs.declared.course.Course.{Course}
use Rattle.lane_steps.specs.declared.course.Course.TheVariants as course
use Rattle.lane_steps.specs.declared.point.Closing.{Closing}
use Rattle.lane_steps.specs.declared.point.Closing.TheVariants.{Batch, Full}
use Rattle.lane_steps.specs.declared.point.ClosePoint.TheVariants as close
use Rattle.lane_steps.specs.declared.point.Hold.{Hold}
use Rattle.lane_steps.specs.declared.point.Hold.TheVariants.{Free, Names, Held}
use Rattle.lane_steps.specs.declared.point.Notice.{Notice}
use Rattle.lane_steps.specs.declared.point.Point.{Point}
use Rattle.lane_steps.specs.declared.point.Point.TheVariants as point
use Rattle.lane_steps.specs.declared.point.Reading.{Reading}
use Rattle.lane_steps.specs.Batches.{with_rows}
use Rattle.lane_steps.specs.Close.{to_pass}
use Rattle.lane_steps.specs.Fill.{noted}
use Rattle.lane_steps.specs.Functions.{rising}
use Rattle.lane_steps.specs.LaneSizes.{LaneSizes}
use Rattle.lane_steps.specs.State.{Caller}
use Rattle.lane_steps.specs.Step.{ended, frees, frees_next, scans, clears_ann, clears_node, loses, closes, marks_on, marks_from, marks_all, reads_on, rows_left, links_on, takes_on, followed}

-- the caller with these lists and holds
abbrev pub holding_these : Caller → List ℕ → List ℕ → List ℕ → List ℕ → List ℕ → Hold → Hold → Caller
holding_these k rows vs ws retired named h r = record k { rows = rows; values = vs; walked = ws; retired = retired; named = named; hold = h; row_hold = r }

-- how the command ends by such a course, where it does
abbrev pub EndsBy : (Closing → Type 0) → Course → Type 0
EndsBy E (course.Closes a) = E a
EndsBy E course.Lacks = E Full
EndsBy E (course.Passes a p r) = E a
EndsBy E (course.Reads b r l x) = E (Batch b.queued)
EndsBy E (course.ReadsMore b r l v) = E (Batch b.queued)
EndsBy E (course.Moves p m) = E (Batch m)
EndsBy E (course.Marks a q both stopped) = E a
EndsBy E (course.Retires a r) = E a
EndsBy E (course.ClearsNode a) = E a
EndsBy E (course.ClearsAnn a) = E a
EndsBy E (course.Finds a d x) = E a
EndsBy E (course.Frees a) = E a
EndsBy E _ = Unit {0}

-- in some way
abbrev pub Somehow : Closing → Type 0
Somehow a = Unit {0}

pub ends_somehow : (x : Course) → EndsBy Somehow x
ends_somehow (course.Closes a) = tt
ends_somehow course.Lacks = tt
ends_somehow (course.Passes a p r) = tt
ends_somehow (course.Reads b r l x) = tt
ends_somehow (course.ReadsMore b r l v) = tt
ends_somehow (course.Moves p m) = tt
ends_somehow (course.Marks a q both stopped) = tt
ends_somehow (course.Retires a r) = tt
ends_somehow (course.ClearsNode a) = tt
ends_somehow (course.ClearsAnn a) = tt
ends_somehow (course.Finds a d x) = tt
ends_somehow (course.Frees a) = tt
ends_somehow _ = tt

-- What is so of the caller k with any of these at any point, where such holds are, and where its command ends in such a way, is
-- so of it after each step that leaves it such holds and ends so, if it does.
module _ (z : LaneSizes) (n c : ℕ) (k : Caller) (P : Caller → Type 0) (H : Hold → Hold → Type 0) (E : Closing → Type 0)
    (goes : (t : Point) (rows vs ws retired named : List ℕ) (h r : Hold) → H h r → P (record k { point = t; rows = rows; values = vs; walked = ws; retired = retired; named = named; hold = h; row_hold = r }))
    (ends : (rows vs ws retired named : List ℕ) (h r : Hold) (a : Closing) → H h r → E a → P (ended n c (holding_these k rows vs ws retired named h r) a)) (now : H k.hold k.row_hold) where
  module _ (a : Closing) (e : E a) (rows vs ws retired named : List ℕ) (h r : Hold) (y : H h r) where
    freed : (o : Option ℕ) → P (frees n c (holding_these k rows vs ws retired named h r) a o)
    freed None = ends rows vs ws retired named h r a y e
    freed (Some q) = goes (point.Close a (close.MarkFree q)) rows vs ws retired named h r y

    scanned : (xs : List ℕ) → P (scans n c (holding_these k rows vs ws retired named h r) a xs)
    scanned [] = ends rows vs ws retired named h r a y e
    scanned (x ∷ xs) = goes (point.Close a (close.LoadHazard 0)) rows vs ws retired [] h r y

    ann_cleared : (x : Hold) → P (clears_ann n c (holding_these k rows vs ws retired named h r) a x)
    ann_cleared Free = scanned retired
    ann_cleared (Names x) = goes (point.Close a close.ClearAnn) rows vs ws retired named h r y
    ann_cleared (Held x) = goes (point.Close a close.ClearAnn) rows vs ws retired named h r y

    node_cleared : (x : Hold) → P (clears_node n c (holding_these k rows vs ws retired named h r) a x)
    node_cleared Free = ann_cleared h
    node_cleared (Names x) = goes (point.Close a close.ClearNode) rows vs ws retired named h r y
    node_cleared (Held x) = goes (point.Close a close.ClearNode) rows vs ws retired named h r y

    scanned_on : (d : ℕ) (b : Bool) → P (cond b (frees_next n c (holding_these k rows vs ws retired named h r) a) (record (holding_these k rows vs ws retired named h r) { point = point.Close a (close.LoadHazard (suc d)) }))
    scanned_on d true = freed (first_unheld named retired)
    scanned_on d false = goes (point.Close a (close.LoadHazard (suc d))) rows vs ws retired named h r y

  lost : (a : Closing) (e : E a) (rows vs ws retired named : List ℕ) (h r : Hold) (y : H h r) (xs : List ℕ) → P (loses n c (holding_these k rows vs ws retired named h r) a xs)
  lost a e rows vs ws retired named h r y [] = node_cleared a e [] vs ws retired named h r y r
  lost a e rows vs ws retired named h r y (x ∷ xs) = goes (point.Close a (close.MarkLoose x)) xs vs ws retired named h r y

  closed : (a : Closing) (e : E a) (rows vs ws retired named : List ℕ) (h r : Hold) (y : H h r) → P (closes n c (holding_these k rows vs ws retired named h r) a)
  closed a e rows vs ws retired named h r y = lost a e rows vs ws retired named h r y (rising rows)

  marked_on : (a : Closing) (e : E a) (stopped : Bool) (q : Place) (rows vs ws retired named : List ℕ) (h r : Hold) (y : H h r) (xs : List ℕ) → P (marks_on n c (holding_these k rows vs ws retired named h r) a stopped q xs)
  marked_on a e stopped q rows vs ws retired named h r y [] = closed a e rows vs [] retired named h r y
  marked_on a e stopped q rows vs ws retired named h r y (x ∷ xs) = goes (point.Close a (close.MarkRow _ true _ stopped)) rows vs xs retired named h r y

  marked_from : (a : Closing) (e : E a) (stopped : Bool) (p : Place) (rows vs ws retired named : List ℕ) (h r : Hold) (y : H h r) (b : Bool) → P (marks_from n c (holding_these k rows vs ws retired named h r) a stopped p b)
  marked_from a e stopped p rows vs ws retired named h r y false = closed a e rows vs [] retired named h r y
  marked_from a e stopped p rows vs ws retired named h r y true = goes (point.Close a (close.MarkRow p false true stopped)) rows vs ws retired named h r y

  marked_all : (a : Closing) (e : E a) (stopped : Bool) (p : Place) (rows vs ws retired named : List ℕ) (h r : Hold) (y : H h r) → P (marks_all n c (holding_these k rows vs ws retired named h r) a stopped p)
  marked_all a e stopped p rows vs ws retired named h r y = marked_from a e stopped p rows vs ws retired named h r y (ltb 0 (to_pass (length ws) stopped))

  read_on : (b : Reading) (e : E (Batch b.queued)) (r l : ℕ) (vs ws rows : List ℕ) → P (reads_on n c (record k { rows = rows }) b r l vs ws)
  read_on b e r zero vs ws rows = marked_all (Batch b.queued) e b.stopped b.dummy rows vs ws k.retired k.named k.hold k.row_hold now
  read_on b e r (suc l) vs ws rows = goes _ rows vs ws k.retired k.named k.hold k.row_hold now

  linked : (s : Notice) (i : ℕ) (rows : List ℕ) (b : Bool) → P (links_on z c (record k { rows = rows }) s i b)
  linked s i rows true = goes _ rows k.values k.walked k.retired [] k.hold k.row_hold now
  linked s i rows false = goes _ rows k.values k.walked k.retired k.named k.hold k.row_hold now

  taken : (s : Notice) (rows : List ℕ) (b : Bool) → P (takes_on z c (record k { rows = rows }) s b)
  taken s rows false = goes _ rows k.values k.walked k.retired k.named k.hold k.row_hold now
  taken s rows true = linked (with_rows s rows) 0 rows (eqb (length rows) 1)

  marked : (a : Closing) (e : E a) (q : Place) (stopped both : Bool) → P (followed z n c k (course.Marks a q both stopped))
  marked a e q stopped true = marked_on a e stopped q k.rows k.values k.walked (k.retired ++ q.row ∷ []) k.named k.hold k.row_hold now k.walked
  marked a e q stopped false = marked_on a e stopped q k.rows k.values k.walked k.retired k.named k.hold k.row_hold now k.walked

  -- it leaves it such holds
  abbrev pub Keeps : Course → Type 0
  Keeps (course.Guards t h) = H h k.row_hold
  Keeps (course.Holds t h) = H k.hold h
  Keeps (course.ClearsNode a) = H k.hold Free
  Keeps (course.ClearsAnn a) = H Free k.row_hold
  Keeps _ = Unit {0}

  pub follows_with : (x : Course) → Keeps x → EndsBy E x → P (followed z n c k x)
  follows_with (course.GoesOn t) _ e = goes t k.rows k.values k.walked k.retired k.named k.hold k.row_hold now
  follows_with (course.Closes a) _ e = closed a e k.rows k.values k.walked k.retired k.named k.hold k.row_hold now
  follows_with course.Lacks _ e = closed Full e k.rows k.values k.walked k.retired k.named k.hold k.row_hold now
  follows_with (course.Passes a p r) _ e = marked_all a e false p k.rows k.values (r ∷ []) k.retired k.named k.hold k.row_hold now
  follows_with (course.Fills s r) _ e = taken s (k.rows ++ r ∷ []) (eqb (length (k.rows ++ r ∷ [])) s.counts.enqs)
  follows_with (course.Chains s i) _ e = linked s (suc i) k.rows (eqb (suc (suc i)) (length k.rows))
  follows_with (course.Stops s r) _ e = goes _ (r ∷ []) k.values k.walked k.retired [] k.hold k.row_hold now
  follows_with (course.Takes t) _ e = goes _ k.rows k.values k.walked k.retired k.named k.hold k.row_hold now
  follows_with (course.Hears s d x) _ e = goes _ k.rows k.values k.walked k.retired (noted k.named x) k.hold k.row_hold now
  follows_with (course.Guards t h) y e = goes t k.rows k.values k.walked k.retired k.named h k.row_hold y
  follows_with (course.Holds t h) y e = goes t k.rows k.values k.walked k.retired k.named k.hold h y
  follows_with (course.Reads b r l x) _ e = read_on b e r l [] [] (rows_left x k.rows)
  follows_with (course.ReadsMore b r l v) _ e = read_on b e r l (k.values ++ v ∷ []) (k.walked ++ r ∷ []) k.rows
  follows_with (course.Walks t) _ e = goes t k.rows [] [] k.retired k.named k.hold k.row_hold now
  follows_with (course.WalksMore t r v) _ e = goes t k.rows (k.values ++ v ∷ []) (k.walked ++ r ∷ []) k.retired k.named k.hold k.row_hold now
  follows_with (course.Moves p m) _ e = marked_all (Batch m) e false p k.rows k.values k.walked k.retired k.named k.hold k.row_hold now
  follows_with (course.Marks a q both stopped) _ e = marked a e q stopped both
  follows_with (course.Retires a r) _ e = lost a e k.rows k.values k.walked (k.retired ++ r ∷ []) k.named k.hold k.row_hold now k.rows
  follows_with (course.ClearsNode a) y e = ann_cleared a e k.rows k.values k.walked k.retired k.named k.hold Free y k.hold
  follows_with (course.ClearsAnn a) y e = scanned a e k.rows k.values k.walked k.retired k.named Free k.row_hold y k.retired
  follows_with (course.Finds a d x) _ e = scanned_on a e k.rows k.values k.walked k.retired (noted k.named x) k.hold k.row_hold now d (eqb (suc d) z.callers)
  follows_with (course.Frees a) _ e = freed a e k.rows k.values k.walked (without_first_unheld k.named k.retired) k.named k.hold k.row_hold now (first_unheld k.named (without_first_unheld k.named k.retired))

-- What is so with any holds is so after each step.
module _ (z : LaneSizes) (n c : ℕ) (k : Caller) (P : Caller → Type 0)
    (goes : (t : Point) (rows vs ws retired named : List ℕ) (h r : Hold) → P (record k { point = t; rows = rows; values = vs; walked = ws; retired = retired; named = named; hold = h; row_hold = r }))
    (E : Closing → Type 0) (ends : (rows vs ws retired named : List ℕ) (h r : Hold) (a : Closing) → E a → P (ended n c (holding_these k rows vs ws retired named h r) a)) where
  abbrev Any : Hold → Hold → Type 0
  Any h r = Unit {0}

  any : (x : Course) → Keeps z n c k P Any E (λ t rows vs ws retired named h r _. goes t rows vs ws retired named h r) (λ rows vs ws retired named h r a _ e. ends rows vs ws retired named h r a e) tt x
  any (course.Guards t h) = tt
  any (course.Holds t h) = tt
  any (course.ClearsNode a) = tt
  any (course.ClearsAnn a) = tt
  any _ = tt

  pub follows : (x : Course) → EndsBy E x → P (followed z n c k x)
  follows x e = follows_with z n c k P Any E (λ t rows vs ws retired named h r _. goes t rows vs ws retired named h r) (λ rows vs ws retired named h r a _ e. ends rows vs ws retired named h r a e) tt x (any x) e
