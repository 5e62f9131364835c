-- Schedules by hand in which announcements are named, held, let go and used again.
use Rattle.std.proofs.Common.{◌≡◌, ℕ, ◌+◌, ◌*◌, ◌-◌, ◌/◌, Bool, true, false, List, [], ◌∷◌, refl, Some, None}
use Rattle.bq_model.specs.declared.op.Op.{Op}
use Rattle.bq_model.specs.declared.op.Op.TheVariants.{Enq, Deq}
use Rattle.bq_model.specs.declared.op.Answer.TheVariants.{Got, Empty}
use Rattle.excess_count.specs.Excess.{excess_of}
use Rattle.word_rows.specs.declared.head_word.HeadWord.TheVariants.{Ann}
use Rattle.lane_steps.specs.declared.point.Point.{Point}
use Rattle.lane_steps.specs.declared.point.Point.TheVariants as point
use Rattle.lane_steps.specs.declared.point.DequeuePoint.TheVariants as deq
use Rattle.lane_steps.specs.declared.point.Guarding.TheVariants as guard
use Rattle.lane_steps.specs.declared.point.GuardPoint.TheVariants.{StoreHazard, LoadAgain}
use Rattle.lane_steps.specs.declared.point.Hold.TheVariants.{Free, Names, Held}
use Rattle.lane_steps.specs.LaneSizes.{LaneSizes}
use Rattle.lane_steps.specs.Notices.{batch_number, blank}
use Rattle.lane_steps.specs.State.{State}
use Rattle.lane_steps.specs.Step.{next}
use Rattle.lane_steps.specs.Start.{start, opening}
use Rattle.core_model.proofs.Trace.{steps, until, links_chain, batch_group, wide, ready}

stores_hazard : Point → Bool
stores_hazard (point.Guard (guard.Help h) StoreHazard) = true
stores_hazard _ = false

loads_again : Point → Bool
loads_again (point.Guard (guard.Help h) LoadAgain) = true
loads_again _ = false

-- a batch of caller 0, to its end
batch : List Op → State → State
batch ops s = steps (wide 2) 0 90 (start (wide 2) s 0 ops)

abbrev first_batch : List Op
first_batch = Enq 5 ∷ Enq 6 ∷ Deq ∷ []

abbrev second_batch : List Op
second_batch = Enq 7 ∷ Enq 8 ∷ []

abbrev third_batch : List Op
third_batch = Enq 1 ∷ Deq ∷ Deq ∷ []

-- three batches of a caller with two announcements are all announced by the first of them, which nobody else holds
abbrev thrice : State
thrice = batch third_batch (batch second_batch (batch first_batch (opening (wide 2))))

used_again : (thrice.history ≡ batch_group 0 0 first_batch ∷ batch_group 0 1 second_batch ∷ batch_group 0 2 third_batch ∷ []) × ((thrice.memory.notice 0).number ≡ batch_number 2 0) × (thrice.memory.notice 1 ≡ blank)
    × (thrice.memory.ann_hazard 0 ≡ None) × ((thrice.callers 0).hold ≡ Free)
unfolding steps next batch excess_of
used_again = (refl, refl, refl, refl, refl)

-- caller 1 holds it, and stops as it is about to link the chain; caller 0 finishes its batch, and picks the other one for
-- the next. It can't free row 0, which caller 1 holds too.
abbrev holding : State
holding = until links_chain (wide 2) 1 90 (start (wide 2) (ready 2) 1 (Deq ∷ []))

abbrev both_used : State
both_used = batch second_batch (steps (wide 2) 0 90 holding)

picks_the_other : ((holding.callers 1).hold ≡ Held 0) × (both_used.history ≡ batch_group 0 0 first_batch ∷ batch_group 0 1 second_batch ∷ []) × ((both_used.callers 0).retired ≡ 0 ∷ [])
    × ((both_used.memory.notice 0).number ≡ batch_number 0 0) × ((both_used.memory.notice 1).number ≡ batch_number 1 0)
unfolding steps until links_chain next batch excess_of
picks_the_other = (refl, refl, refl, refl, refl)

-- What the helper does late changes nothing, its dequeue goes on, and at its end its hazard word is clear. Then the first one
-- is picked again.
abbrev helper_done : State
helper_done = steps (wide 2) 1 90 both_used

lets_go_at_the_end : ((helper_done.callers 1).answers ≡ Got 6 ∷ []) × (helper_done.memory.ann_hazard 1 ≡ None) × ((helper_done.callers 1).hold ≡ Free) × (((batch third_batch helper_done).memory.notice 0).number ≡ batch_number 2 0)
unfolding steps until links_chain next batch excess_of
lets_go_at_the_end = (refl, refl, refl, refl)

-- Caller 1 has named it, and stops; HEAD changes; the second load finds that, and no hold begins. The word is cleared at the end.
abbrev named_late : State
named_late = steps (wide 2) 0 90 (until loads_again (wide 2) 1 90 (start (wide 2) (ready 2) 1 (Deq ∷ [])))

no_hold : (((next (wide 2) named_late 1).callers 1).point ≡ point.Dequeue deq.LoadHead) × (((next (wide 2) named_late 1).callers 1).hold ≡ Names 0) × ((next (wide 2) named_late 1).memory.ann_hazard 1 ≡ Some 0)
    × ((steps (wide 2) 1 90 named_late).memory.ann_hazard 1 ≡ None) × (((steps (wide 2) 1 90 named_late).callers 1).answers ≡ Got 6 ∷ [])
unfolding steps until links_chain loads_again next batch excess_of
no_hold = (refl, refl, refl, refl, refl)

-- Caller 1 found it in HEAD and stops before it names it. Caller 0 uses it again at the same count, for a batch that takes
-- nothing: HEAD has the same word, and what caller 1 holds then is the new use.
abbrev found_first : State
found_first = until stores_hazard (wide 2) 1 90 (start (wide 2) (until links_chain (wide 2) 0 90 (start (wide 2) (opening (wide 2)) 0 second_batch)) 1 (Deq ∷ []))

abbrev again : State
again = until links_chain (wide 2) 0 90 (start (wide 2) (steps (wide 2) 0 90 found_first) 0 (Enq 3 ∷ Enq 4 ∷ []))

same_word : (again.memory.head ≡ Ann 0 0) × ((again.memory.notice 0).number ≡ batch_number 1 0) × (((steps (wide 2) 1 2 again).callers 1).hold ≡ Held 0)
    × ((steps (wide 2) 1 90 again).history ≡ batch_group 0 0 second_batch ∷ batch_group 0 1 (Enq 3 ∷ Enq 4 ∷ []) ∷ batch_group 1 0 (Deq ∷ []) ∷ []) × (((steps (wide 2) 1 90 again).callers 1).answers ≡ Got 7 ∷ [])
unfolding steps until links_chain stores_hazard next batch excess_of
same_word = (refl, refl, refl, refl, refl)

-- two callers with eight item rows and four stoppers each
abbrev stopping : LaneSizes
stopping = record { callers = 2; first = 0; allowance = 100; rows = 25; items = 8; stoppers = 4; first_row = λ c. 1 + c * 12; home = λ r. (r - 1) / 12 }

-- caller c runs these operations to the end
runs : ℕ → List Op → State → State
runs c ops s = steps stopping c 90 (start stopping s c ops)

-- Dequeues alone find too few values, and pick too: caller 1 holds the first one as it is about to link the stopper, and caller
-- 0 uses the other one for its next dequeues.
abbrev announcing : State
announcing = until links_chain stopping 0 90 (start stopping (runs 1 (Enq 1 ∷ []) (opening stopping)) 0 (Deq ∷ Deq ∷ []))

abbrev stopper_held : State
stopper_held = until links_chain stopping 1 90 (start stopping announcing 1 (Deq ∷ []))

abbrev more_dequeues : State
more_dequeues = runs 0 (Deq ∷ Deq ∷ []) (runs 0 (Enq 2 ∷ []) (steps stopping 0 90 stopper_held))

dequeues_pick_the_other : ((stopper_held.callers 1).hold ≡ Held 0) × ((more_dequeues.callers 0).answers ≡ Got 2 ∷ Empty ∷ []) × ((more_dequeues.callers 0).retired ≡ 13 ∷ []) × ((more_dequeues.memory.notice 0).number ≡ batch_number 0 0)
    × ((more_dequeues.memory.notice 1).number ≡ batch_number 2 0)
unfolding steps until links_chain next runs excess_of
dequeues_pick_the_other = (refl, refl, refl, refl, refl)

-- where enough values are there, nothing is scanned and nothing is announced
none_scanned : let s : State = runs 0 (Deq ∷ Deq ∷ []) (runs 1 (Enq 2 ∷ []) (runs 1 (Enq 1 ∷ []) (opening stopping))) in ((s.callers 0).answers ≡ Got 1 ∷ Got 2 ∷ []) × ((s.callers 0).named ≡ []) × (s.memory.notice 0 ≡ blank)
unfolding steps next runs excess_of
none_scanned = (refl, refl, refl)
