-- The machine computes: schedules by hand, each step counted.
use Rattle.std.proofs.Common.{◌≡◌, ℕ, zero, suc, ◌+◌, ◌*◌, ◌-◌, ◌/◌, Bool, true, false, cond, List, [], ◌∷◌, ◌++◌, refl, Some}
use Rattle.bq_model.specs.declared.op.Op.{Op}
use Rattle.bq_model.specs.declared.op.Op.TheVariants.{Enq, Deq}
use Rattle.bq_model.specs.declared.op.Answer.TheVariants.{Done, Got, Empty}
use Rattle.bq_model.specs.declared.group.Group.{Group}
use Rattle.excess_count.specs.Excess.{excess_of}
use Rattle.word_rows.specs.declared.head_word.HeadWord.TheVariants.{Node}
use Rattle.lane_steps.specs.declared.point.Point.{Point}
use Rattle.lane_steps.specs.declared.point.Point.TheVariants.{Idle}
use Rattle.lane_steps.specs.declared.point.DequeuePoint.TheVariants as deq
use Rattle.lane_steps.specs.declared.point.Guarding.TheVariants as guard
use Rattle.lane_steps.specs.declared.point.GuardPoint.TheVariants.{StoreHazard}
use Rattle.lane_steps.specs.declared.point.Point.TheVariants as point
use Rattle.lane_steps.specs.declared.point.EnqueuePoint.TheVariants as enq
use Rattle.lane_steps.specs.declared.point.HelpPoint.TheVariants as help
use Rattle.lane_steps.specs.declared.point.CallEnd.TheVariants as outcome
use Rattle.lane_steps.specs.LaneSizes.{LaneSizes}
use Rattle.lane_steps.specs.Notices.{place}
use Rattle.lane_steps.specs.State.{State}
use Rattle.lane_steps.specs.Help.{own_help}
use Rattle.lane_steps.specs.Step.{next}
use Rattle.lane_steps.specs.Start.{start, opening, newcomer, draft_of}

-- two callers with two item rows each
abbrev pub two : LaneSizes
two = record { callers = 2; first = 5; allowance = 10; rows = 5; items = 2; stoppers = 0; first_row = λ c. 1 + c * 2; home = λ r. (r - 1) / 2 }

-- n steps of caller c; a caller that is idle makes none
unfoldable pub steps : LaneSizes → ℕ → ℕ → State → State
steps z c zero s = s
steps z c (suc n) s = steps z c n (next z s c)

abbrev group : ℕ → ℕ → Op → Group
group c batch op = record { caller = c; batch = batch; ops = op ∷ [] }

-- caller 0 links its row and stops before it moves the tail
abbrev lagging : State
lagging = steps two 0 9 (start two (opening two) 0 (Enq 7 ∷ []))

-- the enqueue stands in the history before its command ends
lags : ((lagging.callers 0).point ≡ point.Enqueue (record { row = 1; value = 7 }) (enq.MoveTail (place 0 5) 1)) × (lagging.history ≡ group 0 0 (Enq 7) ∷ []) × ((lagging.callers 0).mine ≡ [])
unfolding steps next
lags = (refl, refl, refl)

-- A dequeue meets the lagging tail, moves it, and begins again: thirteen steps to its value. It marks row 0, which was read from
-- the start, but the enqueue still holds that.
abbrev dequeued : State
dequeued = steps two 1 18 (start two lagging 1 (Deq ∷ []))

helped : ((steps two 1 5 (start two lagging 1 (Deq ∷ []))).callers 1).point ≡ point.Dequeue (deq.PassTail (place 0 5) 1)
unfolding steps next
helped = refl

gets : ((dequeued.callers 1).point ≡ Idle) × ((dequeued.callers 1).answers ≡ Got 7 ∷ []) × (dequeued.history ≡ group 0 0 (Enq 7) ∷ group 1 0 Deq ∷ []) × (dequeued.memory.head ≡ Node (place 1 6)) × ((dequeued.callers 1).retired ≡ 0 ∷ []) × ((dequeued.memory.mark 0).free ≡ false)
unfolding steps next
gets = (refl, refl, refl, refl, refl, refl)

-- the enqueue's last exchange fails, and it is done all the same
done : (((steps two 0 2 dequeued).callers 0).answers ≡ Done ∷ []) × (((steps two 0 2 dequeued).callers 0).ended_at ≡ Some 2) × ((steps two 0 2 dequeued).memory.tail ≡ place 1 6)
unfolding steps next
done = (refl, refl, refl)

-- the third enqueue of a caller with two rows finds none of them free, and ends with Full after two loads
abbrev third : State
third = steps two 0 2 (start two (steps two 0 12 (start two (steps two 0 11 (start two (opening two) 0 (Enq 1 ∷ []))) 0 (Enq 2 ∷ []))) 0 (Enq 3 ∷ []))

full : ((third.callers 0).point ≡ Idle) × ((third.callers 0).outcome ≡ Some outcome.Full) × (third.history ≡ group 0 0 (Enq 1) ∷ group 0 1 (Enq 2) ∷ [])
unfolding steps next
full = (refl, refl, refl)

-- A caller makes steps, n at most, until its next one is of this kind.
unfoldable pub until : (Point → Bool) → LaneSizes → ℕ → ℕ → State → State
until is z c zero s = s
until is z c (suc n) s = cond (is (s.callers c).point) s (until is z c n (next z s c))

unfoldable pub links_chain : Point → Bool
links_chain (point.Help h (help.LinkChain p)) = true
links_chain _ = false

-- The batch Deq, Enq 5, Enq 6, Deq on the empty lane: it is announced, and its owner finishes it.
abbrev four : List Op
four = Deq ∷ Enq 5 ∷ Enq 6 ∷ Deq ∷ []

abbrev pub batch_group : ℕ → ℕ → List Op → Group
batch_group c batch ops = record { caller = c; batch = batch; ops = ops }

alone : let s : State = steps two 1 80 (start two (opening two) 1 four) in ((s.callers 1).point ≡ Idle) × ((s.callers 1).answers ≡ Empty ∷ Done ∷ Done ∷ Got 5 ∷ []) × (s.history ≡ batch_group 1 0 four ∷ []) × ((s.callers 1).mine ≡ batch_group 1 0 four ∷ []) × ((s.memory.head) ≡ Node (place 3 6)) × (s.memory.tail ≡ place 4 7)
unfolding steps next excess_of
alone = (refl, refl, refl, refl, refl, refl)

-- The owner stops right after the install, and a dequeue of the other caller finishes its batch, and then gets 6.
abbrev helping : State
helping = steps two 0 80 (start two (steps two 1 23 (start two (opening two) 1 four)) 0 (Deq ∷ []))

abbrev announced : Point
announced = point.Guard (guard.Help (own_help record { ann = 2; notice = record (draft_of 1 newcomer four) { first = 3; last = 4; old_head = place 0 5 } })) StoreHazard

installed : ((steps two 1 23 (start two (opening two) 1 four)).callers 1).point ≡ announced
unfolding steps next excess_of
installed = refl

finished : (helping.history ≡ batch_group 1 0 four ∷ batch_group 0 0 (Deq ∷ []) ∷ []) × ((helping.callers 0).answers ≡ Got 6 ∷ []) × ((helping.callers 1).mine ≡ []) × ((helping.callers 1).point ≡ announced)
unfolding steps next excess_of
finished = (refl, refl, refl, refl)

-- the owner's own steps then find the same answers, and free the rows that it has marked
reads : let s : State = steps two 1 80 helping in ((s.callers 1).point ≡ Idle) × ((s.callers 1).answers ≡ Empty ∷ Done ∷ Done ∷ Got 5 ∷ []) × (s.history ≡ helping.history) × ((s.callers 1).mine ≡ batch_group 1 0 four ∷ []) × ((s.memory.mark 0).free ≡ true) × ((s.memory.mark 3).free ≡ true) × ((s.callers 1).retired ≡ [])
unfolding steps next excess_of
reads = (refl, refl, refl, refl, refl, refl, refl)

-- lanes with eight item rows for each caller
abbrev pub wide : ℕ → LaneSizes
wide callers = record { callers = callers; first = 0; allowance = 100; rows = 1 + callers * 8; items = 8; stoppers = 0; first_row = λ c. 1 + c * 8; home = λ r. (r - 1) / 8 }

-- caller 0 is about to link its chain
abbrev pub ready : ℕ → State
ready callers = until links_chain (wide callers) 0 80 (start (wide callers) (opening (wide callers)) 0 (Enq 5 ∷ Enq 6 ∷ Deq ∷ []))

-- caller 1 finishes the batch of caller 0, which is still unfinished there
takes_over : let s : State = steps (wide 2) 1 80 (start (wide 2) (ready 2) 1 (Deq ∷ [])) in (s.history ≡ batch_group 0 0 (Enq 5 ∷ Enq 6 ∷ Deq ∷ []) ∷ batch_group 1 0 (Deq ∷ []) ∷ [])
    × ((s.callers 1).answers ≡ Got 6 ∷ []) × ((s.callers 0).point ≡ (((ready 2).callers 0).point)) × ((s.callers 0).mine ≡ [])
unfolding steps until links_chain next excess_of
takes_over = (refl, refl, refl, refl)

-- the helper is about to link the chain too, and stops while the owner makes two batches more
abbrev stopped : State
stopped = until links_chain (wide 3) 1 80 (start (wide 3) (ready 3) 1 (Deq ∷ []))

abbrev batches : State
batches = steps (wide 3) 0 90 (start (wide 3) (steps (wide 3) 0 90 (start (wide 3) (steps (wide 3) 0 90 stopped) 0 (Enq 7 ∷ Enq 8 ∷ []))) 0 (Enq 1 ∷ Deq ∷ Deq ∷ []))

abbrev late_history : List Group
late_history = batch_group 0 0 (Enq 5 ∷ Enq 6 ∷ Deq ∷ []) ∷ batch_group 0 1 (Enq 7 ∷ Enq 8 ∷ []) ∷ batch_group 0 2 (Enq 1 ∷ Deq ∷ Deq ∷ []) ∷ []

helper_waits : links_chain (stopped.callers 1).point ≡ true
unfolding steps until links_chain next excess_of
helper_waits = refl

three_batches : (batches.history ≡ late_history) × (batches.memory.head ≡ Node (place 3 3)) × (batches.memory.tail ≡ place 5 5)
unfolding steps until links_chain next excess_of
three_batches = (refl, refl, refl)

-- its exchange comes late and changes nothing,
late : ((next (wide 3) batches 1).history ≡ late_history) × ((next (wide 3) batches 1).memory.head ≡ Node (place 3 3)) × ((next (wide 3) batches 1).memory.tail ≡ place 5 5)
unfolding steps until links_chain next excess_of
late = (refl, refl, refl)

-- and its own dequeue gets 8
late_dequeue : ((steps (wide 3) 1 80 batches).history ≡ late_history ++ batch_group 1 0 (Deq ∷ []) ∷ []) × (((steps (wide 3) 1 80 batches).callers 1).answers ≡ Got 8 ∷ [])
unfolding steps until links_chain next excess_of
late_dequeue = (refl, refl)

-- a batch that lacks its third row ends with Full, and lets go of the two that it took
abbrev lacking : State
lacking = steps two 0 17 (start two (opening two) 0 (Enq 1 ∷ Enq 2 ∷ Enq 3 ∷ []))

full_batch : ((lacking.callers 0).outcome ≡ Some outcome.Full) × ((lacking.callers 0).point ≡ Idle) × ((lacking.callers 0).retired ≡ []) × ((lacking.memory.mark 1).free ≡ true) × ((lacking.memory.mark 2).free ≡ true) × (lacking.history ≡ [])
unfolding steps next excess_of
full_batch = (refl, refl, refl, refl, refl, refl)
