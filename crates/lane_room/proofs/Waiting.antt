-- What a step leads to has no more rows that wait to be freed than a caller's share.
use Rattle.std.proofs.Common.{◌==◌, nat_lt, ℕ, zero, suc, ◌≤◌, ◌++◌, List, [], ◌∷◌, length, Bool, true, false, cond, Option, Some, None, arith, length-append}
use Rattle.bq_model.specs.declared.shape.Shape.{Shape}
use Rattle.word_rows.specs.declared.place.Place.{Place}
use Rattle.node_guard.specs.Retired.{is_unheld, first_unheld, without_first_unheld}
use Rattle.lane_steps.specs.Batches.{with_rows}
use Rattle.lane_steps.specs.Close.{to_pass}
use Rattle.lane_steps.specs.Fill.{noted}
use Rattle.lane_steps.specs.Functions.{rising}
use Rattle.lane_steps.specs.LaneSizes.{LaneSizes, lane_sizes}
use Rattle.lane_steps.specs.declared.course.Course.{Course}
use Rattle.lane_steps.specs.declared.course.Course.TheVariants as course
use Rattle.lane_steps.specs.declared.point.Closing.{Closing}
use Rattle.lane_steps.specs.declared.point.Closing.TheVariants.{Plain, Batch, Full}
use Rattle.lane_steps.specs.declared.point.Hold.{Hold}
use Rattle.lane_steps.specs.declared.point.Hold.TheVariants.{Free, Names, Held}
use Rattle.lane_steps.specs.declared.point.Notice.{Notice}
use Rattle.lane_steps.specs.declared.point.Reading.{Reading}
use Rattle.lane_steps.specs.State.{Caller}
use Rattle.lane_steps.specs.declared.point.ClosePoint.TheVariants.{LoadHazard}
use Rattle.lane_steps.specs.declared.point.Point.TheVariants as point
use Rattle.lane_steps.specs.Step.{stepped, ended, frees, frees_next, scans, clears_ann, clears_node, loses, closes, marks_on, marks_from, marks_all, retires, reads_on, rows_left, links_on, takes_on, scans_on, followed}
use Rattle.core_model.specs.Few.{FewFor}
use Rattle.lane_room.specs.Busy.{share}

-- the list without the row that is freed
no_longer : (held rows : List ℕ) → length (without_first_unheld held rows) ≤ length rows
no_longer held [] = omega arith
no_longer held (r ∷ rows) = by (is_unheld held r) (no_longer held rows) where
  by : (b : Bool) → length (without_first_unheld held rows) ≤ length rows → length (cond b rows (r ∷ without_first_unheld held rows)) ≤ suc (length rows)
  by true less = omega arith
  by false less = omega (arith, less)

module _ (s : Shape) (c n : ℕ) where
  abbrev z : LaneSizes
  z = lane_sizes s

  ends_so : (k : Caller) (a : Closing) → length k.retired ≤ share s → length (ended n c k a).retired ≤ share s
  ends_so k (Plain v) w = w
  ends_so k (Batch m) w = w
  ends_so k Full w = w

  frees_so : (k : Caller) (a : Closing) (o : Option ℕ) → length k.retired ≤ share s → length (frees n c k a o).retired ≤ share s
  frees_so k a None w = ends_so k a w
  frees_so k a (Some r) w = w

  scans_so : (k : Caller) (a : Closing) (rows : List ℕ) → length k.retired ≤ share s → length (scans n c k a rows).retired ≤ share s
  scans_so k a [] w = ends_so k a w
  scans_so k a (r ∷ rs) w = w

  clears_ann_so : (k : Caller) (a : Closing) (h : Hold) → length k.retired ≤ share s → length (clears_ann n c k a h).retired ≤ share s
  clears_ann_so k a Free w = scans_so k a k.retired w
  clears_ann_so k a (Names x) w = w
  clears_ann_so k a (Held x) w = w

  clears_node_so : (k : Caller) (a : Closing) (h : Hold) → length k.retired ≤ share s → length (clears_node n c k a h).retired ≤ share s
  clears_node_so k a Free w = clears_ann_so k a k.hold w
  clears_node_so k a (Names x) w = w
  clears_node_so k a (Held x) w = w

  loses_so : (k : Caller) (a : Closing) (rows : List ℕ) → length k.retired ≤ share s → length (loses n c k a rows).retired ≤ share s
  loses_so k a [] w = clears_node_so (record k { rows = [] }) a k.row_hold w
  loses_so k a (r ∷ rs) w = w

  closes_so : (k : Caller) (a : Closing) → length k.retired ≤ share s → length (closes n c k a).retired ≤ share s
  closes_so k a w = loses_so k a (rising k.rows) w

  marks_on_so : (k : Caller) (a : Closing) (stopped : Bool) (q : Place) (ws : List ℕ) → length k.retired ≤ share s → length (marks_on n c k a stopped q ws).retired ≤ share s
  marks_on_so k a stopped q [] w = closes_so (record k { walked = [] }) a w
  marks_on_so k a stopped q (r ∷ rs) w = w

  marks_from_so : (k : Caller) (a : Closing) (stopped : Bool) (p : Place) (b : Bool) → length k.retired ≤ share s → length (marks_from n c k a stopped p b).retired ≤ share s
  marks_from_so k a stopped p true w = w
  marks_from_so k a stopped p false w = closes_so (record k { walked = [] }) a w

  marks_all_so : (k : Caller) (a : Closing) (stopped : Bool) (p : Place) → length k.retired ≤ share s → length (marks_all n c k a stopped p).retired ≤ share s
  marks_all_so k a stopped p w = marks_from_so k a stopped p (nat_lt 0 (to_pass (length k.walked) stopped)) w

  reads_so : (k : Caller) (b : Reading) (r l : ℕ) (vs ws : List ℕ) → length k.retired ≤ share s → length (reads_on n c k b r l vs ws).retired ≤ share s
  reads_so k b r zero vs ws w = marks_all_so (record k { values = vs; walked = ws }) (Batch b.queued) b.stopped b.dummy w
  reads_so k b r (suc l) vs ws w = w

  links_so : (k : Caller) (m : Notice) (i : ℕ) (b : Bool) → length k.retired ≤ share s → length (links_on (lane_sizes s) c k m i b).retired ≤ share s
  links_so k m i true w = w
  links_so k m i false w = w

  takes_so : (k : Caller) (m : Notice) (b : Bool) → length k.retired ≤ share s → length (takes_on (lane_sizes s) c k m b).retired ≤ share s
  takes_so k m true w = links_so k (with_rows m k.rows) 0 (length k.rows == 1) w
  takes_so k m false w = w

  scans_on_so : (k : Caller) (a : Closing) (d : ℕ) → length k.retired ≤ share s → length (scans_on (lane_sizes s) n c k a d).retired ≤ share s
  scans_on_so k a d w = by (suc d == s.callers) where
    by : (b : Bool) → length (cond b (frees_next n c k a) (stepped k (point.Close a (LoadHazard (suc d))))).retired ≤ share s
    by true = frees_so k a (first_unheld k.named k.retired) w
    by false = w

  pub waits_after : (k : Caller) → length k.retired ≤ share s → (y : Course) → FewFor s c y k → length (followed (lane_sizes s) n c k y).retired ≤ share s
  waits_after k w (course.GoesOn t) f = w
  waits_after k w (course.Closes a) f = closes_so k a w
  waits_after k w course.Lacks f = closes_so k Full w
  waits_after k w (course.Passes a p r) f = marks_all_so (record k { walked = r ∷ [] }) a false p w
  waits_after k w (course.Fills m r) f = takes_so (record k { rows = k.rows ++ r ∷ [] }) m (length (k.rows ++ r ∷ []) == m.counts.enqs) w
  waits_after k w (course.Chains m i) f = links_so k m (suc i) (suc (suc i) == length k.rows) w
  waits_after k w (course.Stops m r) f = w
  waits_after k w (course.Takes t) f = w
  waits_after k w (course.Hears m e x) f = w
  waits_after k w (course.Guards t h) f = w
  waits_after k w (course.Holds t h) f = w
  waits_after k w (course.Reads b r l linked) f = reads_so (record k { rows = rows_left linked k.rows }) b r l [] [] w
  waits_after k w (course.ReadsMore b r l v) f = reads_so k b r l (k.values ++ v ∷ []) (k.walked ++ r ∷ []) w
  waits_after k w (course.Walks t) f = w
  waits_after k w (course.WalksMore t r v) f = w
  waits_after k w (course.Moves p m) f = marks_all_so k (Batch m) false p w
  waits_after k w (course.Marks a q both stopped) f = marks_on_so (retires k q.row both) a stopped q (retires k q.row both).walked (by both) where
    by : (b : Bool) → length (retires k q.row b).retired ≤ share s
    by true = let all = length-append k.retired (q.row ∷ []) in let g = f.0 in omega (arith, all, g)
    by false = w
  waits_after k w (course.Retires a r) f = loses_so (record k { retired = k.retired ++ r ∷ [] }) a k.rows (let all = length-append k.retired (r ∷ []) in omega (arith, all, f))
  waits_after k w (course.ClearsNode a) f = clears_ann_so (record k { row_hold = Free }) a k.hold w
  waits_after k w (course.ClearsAnn a) f = scans_so (record k { hold = Free }) a k.retired w
  waits_after k w (course.Finds a d x) f = scans_on_so (record k { named = noted k.named x }) a d w
  waits_after k w (course.Frees a) f = frees_so (record k { retired = without_first_unheld k.named k.retired }) a (first_unheld k.named (without_first_unheld k.named k.retired)) (let less = no_longer k.named k.retired in omega (arith, less, w))
