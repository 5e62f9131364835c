-- Schedules by hand in which rows are held, retired, freed and taken again.
use Rattle.std.proofs.Common.{◌≡◌, ◌+◌, ◌*◌, ◌-◌, ◌/◌, true, false, [], ◌∷◌, refl, Some, None}
use Rattle.bq_model.specs.declared.op.Op.TheVariants.{Enq, Deq}
use Rattle.bq_model.specs.declared.op.Answer.TheVariants.{Done, Got, Empty}
use Rattle.excess_count.specs.Excess.{excess_of}
use Rattle.lane_steps.specs.declared.point.CallEnd.TheVariants.{Full}
use Rattle.lane_steps.specs.declared.point.Closing.TheVariants.{Plain}
use Rattle.lane_steps.specs.declared.point.ClosePoint.TheVariants.{MarkFree}
use Rattle.lane_steps.specs.declared.point.DequeuePoint.TheVariants as deq
use Rattle.lane_steps.specs.declared.point.Hold.TheVariants.{Free, Held}
use Rattle.lane_steps.specs.declared.point.Point.TheVariants.{Idle}
use Rattle.lane_steps.specs.declared.point.Point.TheVariants as point
use Rattle.lane_steps.specs.LaneSizes.{LaneSizes}
use Rattle.lane_steps.specs.Notices.{place}
use Rattle.lane_steps.specs.State.{State}
use Rattle.lane_steps.specs.Step.{next}
use Rattle.lane_steps.specs.Start.{start, opening}
use Rattle.core_model.proofs.Trace.{steps, two, batch_group}

-- caller 0 enqueues 7 in eleven steps
abbrev enqueued : State
enqueued = steps two 0 11 (start two (opening two) 0 (Enq 7 ∷ []))

one_there : ((enqueued.callers 0).point ≡ Idle) × ((enqueued.callers 0).answers ≡ Done ∷ []) × (enqueued.memory.tail ≡ place 1 6) × (enqueued.memory.node_hazard 0 ≡ None)
unfolding steps next
one_there = (refl, refl, refl, refl)

-- caller 1 dequeues it: row 0 was read from the start, so it has row 0 in its list, and frees it at once
abbrev dequeued : State
dequeued = steps two 1 13 (start two enqueued 1 (Deq ∷ []))

frees_row : ((steps two 1 12 (start two enqueued 1 (Deq ∷ []))).callers 1).point ≡ point.Close (Plain (Got 7)) (MarkFree 0)
unfolding steps next
frees_row = refl

gets : ((dequeued.callers 1).point ≡ Idle) × ((dequeued.callers 1).answers ≡ Got 7 ∷ []) × ((dequeued.callers 1).retired ≡ []) × ((dequeued.memory.mark 0).free ≡ true) × ((dequeued.memory.mark 1).read ≡ true)
unfolding steps next
gets = (refl, refl, refl, refl, refl)

-- Caller 1 stops while it holds the dummy, which is row 1. Caller 0 enqueues and dequeues, and can't free that row.
abbrev holding : State
holding = steps two 1 3 (start two dequeued 1 (Deq ∷ []))

holds : ((holding.callers 1).point ≡ point.Dequeue (deq.LoadLink (place 1 6))) × ((holding.callers 1).row_hold ≡ Held 1)
unfolding steps next
holds = (refl, refl)

abbrev passed : State
passed = steps two 0 12 (start two (steps two 0 12 (start two holding 0 (Enq 8 ∷ []))) 0 (Deq ∷ []))

not_freed : ((passed.callers 0).point ≡ Idle) × ((passed.callers 0).answers ≡ Got 8 ∷ []) × ((passed.callers 0).retired ≡ 1 ∷ []) × ((passed.memory.mark 1).free ≡ false)
unfolding steps next
not_freed = (refl, refl, refl, refl)

-- the next enqueue finds no free row: row 1 is retired, and row 2 is the dummy; it ends with Full after a scan
abbrev refused : State
refused = steps two 0 4 (start two passed 0 (Enq 9 ∷ []))

full : ((refused.callers 0).point ≡ Idle) × ((refused.callers 0).outcome ≡ Some Full) × ((refused.callers 0).retired ≡ 1 ∷ [])
unfolding steps next
full = (refl, refl, refl)

-- the holder finds the link of its row still there, and that the head has moved; then the queue is empty, and it lets go
abbrev let_go : State
let_go = steps two 1 9 refused

goes : ((let_go.callers 1).point ≡ Idle) × ((let_go.callers 1).answers ≡ Empty ∷ []) × ((let_go.callers 1).row_hold ≡ Free)
unfolding steps next
goes = (refl, refl, refl)

-- at its next end of a call caller 0 frees row 1, and takes it again, for a place that it had not before
abbrev used_again : State
used_again = steps two 0 11 (start two (steps two 0 8 (start two let_go 0 (Deq ∷ []))) 0 (Enq 9 ∷ []))

at_two_places : ((used_again.callers 0).point ≡ Idle) × ((used_again.callers 0).answers ≡ Done ∷ []) × (used_again.memory.tail ≡ place 1 8)
unfolding steps next
at_two_places = (refl, refl, refl)

-- The one stopper of a caller is the dummy after its first batch of dequeues alone that finds too few values. So the second such
-- batch ends with Full, and changes nothing.
abbrev narrow : LaneSizes
narrow = record { callers = 2; first = 0; allowance = 100; rows = 19; items = 8; stoppers = 1; first_row = λ c. 1 + c * 9; home = λ r. (r - 1) / 9 }

abbrev stopper_used : State
stopper_used = steps narrow 0 90 (start narrow (steps narrow 1 90 (start narrow (opening narrow) 1 (Enq 1 ∷ []))) 0 (Deq ∷ Deq ∷ []))

abbrev lacking : State
lacking = steps narrow 0 90 (start narrow (steps narrow 1 90 (start narrow stopper_used 1 (Enq 2 ∷ []))) 0 (Deq ∷ Deq ∷ []))

full_stoppers : ((stopper_used.callers 0).answers ≡ Got 1 ∷ Empty ∷ []) × (stopper_used.memory.tail ≡ place 9 2) × ((lacking.callers 0).outcome ≡ Some Full) × ((lacking.callers 0).point ≡ Idle) × ((lacking.callers 0).mine ≡ batch_group 0 0 (Deq ∷ Deq ∷ []) ∷ [])
unfolding steps next excess_of
full_stoppers = (refl, refl, refl, refl, refl)

-- a dequeue then moves the head past the stopper, and frees it
abbrev stopper_passed : State
stopper_passed = steps narrow 1 90 (start narrow lacking 1 (Deq ∷ []))

stopper_free : ((stopper_passed.callers 1).answers ≡ Got 2 ∷ []) × ((stopper_passed.memory.mark 9).free ≡ true) × ((stopper_passed.callers 1).retired ≡ [])
unfolding steps next excess_of
stopper_free = (refl, refl, refl)
