-- Schedules of dequeues alone, by hand.
use Rattle.std.proofs.Common.{◌≡◌, ℕ, ◌+◌, ◌*◌, ◌-◌, ◌/◌, Bool, true, false, List, [], ◌∷◌, ◌++◌, refl, Some}
use Rattle.bq_model.specs.declared.op.Op.{Op}
use Rattle.bq_model.specs.declared.op.Op.TheVariants.{Enq, Deq}
use Rattle.bq_model.specs.declared.op.Answer.TheVariants.{Got, Empty}
use Rattle.bq_model.specs.declared.group.Group.{Group}
use Rattle.excess_count.specs.Excess.{excess_of}
use Rattle.word_rows.specs.declared.head_word.HeadWord.TheVariants.{Node}
use Rattle.word_rows.specs.declared.link_word.LinkWord.TheVariants.{Chain, Single}
use Rattle.lane_steps.specs.declared.point.Point.{Point}
use Rattle.lane_steps.specs.declared.point.Point.TheVariants.{Idle}
use Rattle.lane_steps.specs.declared.point.Point.TheVariants as point
use Rattle.lane_steps.specs.declared.point.BatchPoint.TheVariants as batch
use Rattle.lane_steps.specs.declared.point.Closing.TheVariants.{Batch}
use Rattle.lane_steps.specs.declared.point.ClosePoint.TheVariants as close
use Rattle.lane_steps.specs.declared.point.ManyPoint.TheVariants as many
use Rattle.lane_steps.specs.declared.point.HelpPoint.TheVariants as help
use Rattle.lane_steps.specs.LaneSizes.{LaneSizes}
use Rattle.lane_steps.specs.Notices.{place}
use Rattle.lane_steps.specs.State.{State}
use Rattle.lane_steps.specs.Step.{next}
use Rattle.lane_steps.specs.Start.{start, opening}
use Rattle.core_model.proofs.Trace.{steps, until}

-- n callers with eight item rows and four stoppers each
abbrev lane : ℕ → LaneSizes
lane callers = record { callers = callers; first = 0; allowance = 100; rows = 1 + callers * 12; items = 8; stoppers = 4; first_row = λ c. 1 + c * 12; home = λ r. (r - 1) / 12 }

installs : Point → Bool
installs (point.Batch d batch.Install) = true
installs _ = false

decides : Point → Bool
decides (point.Help h (help.Decide p)) = true
decides _ = false

links : Point → Bool
links (point.Help h (help.LinkChain p)) = true
links _ = false

moves : Point → Bool
moves (point.Many d (many.MoveHead r)) = true
moves _ = false

passes : Point → Bool
passes (point.Many d (many.PassTail p r)) = true
passes _ = false

-- caller c runs these operations to the end
abbrev runs : LaneSizes → ℕ → List Op → State → State
runs z c ops s = steps z c 90 (start z s c ops)

abbrev group : ℕ → ℕ → List Op → Group
group c batch ops = record { caller = c; batch = batch; ops = ops }

-- the values 1 and 2 of caller 0 are queued
abbrev two_there : State
two_there = runs (lane 2) 0 (Enq 2 ∷ []) (runs (lane 2) 0 (Enq 1 ∷ []) (opening (lane 2)))

abbrev first_groups : List Group
first_groups = group 0 0 (Enq 1 ∷ []) ∷ group 0 1 (Enq 2 ∷ []) ∷ []

-- the value 9 comes between the walk and the announcement, so the batch is decided and no stopper is linked
abbrev at_install : State
at_install = until installs (lane 2) 0 90 (start (lane 2) two_there 0 (Deq ∷ Deq ∷ Deq ∷ []))

abbrev late_value : State
late_value = steps (lane 2) 0 90 (runs (lane 2) 1 (Enq 9 ∷ []) at_install)

late_item : (late_value.history ≡ first_groups ++ group 1 0 (Enq 9 ∷ []) ∷ group 0 2 (Deq ∷ Deq ∷ Deq ∷ []) ∷ []) × ((late_value.callers 0).answers ≡ Got 1 ∷ Got 2 ∷ Got 9 ∷ [])
    × ((late_value.callers 0).point ≡ Idle) × (late_value.memory.head ≡ Node (place 13 3)) × (late_value.memory.tail ≡ place 13 3)
unfolding steps until installs next excess_of
late_item = (refl, refl, refl, refl, refl)

-- there is a step that decides
deciding : decides ((until decides (lane 2) 0 90 (runs (lane 2) 1 (Enq 9 ∷ []) at_install)).callers 0).point ≡ true
unfolding steps until installs decides next excess_of
deciding = refl

-- the stopper becomes the dummy, and the next value comes behind it
abbrev too_few : State
too_few = runs (lane 2) 0 (Deq ∷ Deq ∷ Deq ∷ []) two_there

abbrev after_stopper : State
after_stopper = runs (lane 2) 1 (Deq ∷ []) (runs (lane 2) 1 (Enq 9 ∷ []) too_few)

by_stopper : ((too_few.callers 0).answers ≡ Got 1 ∷ Got 2 ∷ Empty ∷ []) × (too_few.memory.head ≡ Node (place 9 3)) × (too_few.memory.tail ≡ place 9 3) × (too_few.memory.link 2 ≡ Chain 9)
unfolding steps next excess_of
by_stopper = (refl, refl, refl, refl)

behind_stopper : (after_stopper.history ≡ first_groups ++ group 0 2 (Deq ∷ Deq ∷ Deq ∷ []) ∷ group 1 0 (Enq 9 ∷ []) ∷ group 1 1 (Deq ∷ []) ∷ []) × ((after_stopper.callers 1).answers ≡ Got 9 ∷ [])
unfolding steps next excess_of
behind_stopper = (refl, refl)

-- a walk that finds all its values moves the head once, and then marks the three rows: the first one was passed, the next one
-- passed and read, the last one read
abbrev at_move : State
at_move = until moves (lane 2) 0 90 (start (lane 2) two_there 0 (Deq ∷ Deq ∷ []))

abbrev moved : State
moved = next (lane 2) at_move 0

at_once : (moves (at_move.callers 0).point ≡ true) × ((moved.callers 0).point ≡ point.Close (Batch 2) (close.MarkRow (place 0 0) false true false)) × (moved.history ≡ first_groups ++ group 0 2 (Deq ∷ Deq ∷ []) ∷ []) × (moved.memory.head ≡ Node (place 2 2))
unfolding steps until moves next excess_of
at_once = (refl, refl, refl, refl)

-- eight steps more: three marks, its hazard word, two hazard words loaded, and two rows free
abbrev all_marked : State
all_marked = steps (lane 2) 0 8 moved

marked : ((all_marked.callers 0).answers ≡ Got 1 ∷ Got 2 ∷ []) × ((all_marked.callers 0).point ≡ Idle) × ((all_marked.callers 0).retired ≡ []) × ((all_marked.memory.mark 0).free ≡ true) × ((all_marked.memory.mark 1).free ≡ true)
    × ((all_marked.memory.mark 2).free ≡ false) × ((all_marked.memory.mark 2).read ≡ true)
unfolding steps until moves next excess_of
marked = (refl, refl, refl, refl, refl, refl, refl)

-- on the empty queue all answers are Empty after four steps, and it clears its hazard word
abbrev empty : State
empty = steps (lane 2) 0 5 (start (lane 2) (opening (lane 2)) 0 (Deq ∷ Deq ∷ []))

none_there : ((empty.callers 0).answers ≡ Empty ∷ Empty ∷ []) × ((empty.callers 0).point ≡ Idle)
unfolding steps next
none_there = (refl, refl)

-- a tail that lags is moved, and the walk begins again
abbrev lagging : State
lagging = steps (lane 2) 1 10 (start (lane 2) (runs (lane 2) 1 (Enq 3 ∷ []) (opening (lane 2))) 1 (Enq 4 ∷ []))

lag_passed : (passes ((until passes (lane 2) 0 90 (start (lane 2) lagging 0 (Deq ∷ Deq ∷ []))).callers 0).point ≡ true) × (((runs (lane 2) 0 (Deq ∷ Deq ∷ []) lagging).callers 0).answers ≡ Got 3 ∷ Got 4 ∷ [])
unfolding steps until passes next excess_of
lag_passed = (refl, refl)

-- A helper decides for the owner: caller 0 stops right after its install, caller 1 brings a value and then dequeues.
abbrev announced : State
announced = next (lane 2) at_install 0

abbrev helped : State
helped = runs (lane 2) 1 (Deq ∷ []) (runs (lane 2) 1 (Enq 9 ∷ []) announced)

helper_decides : (helped.history ≡ first_groups ++ group 1 0 (Enq 9 ∷ []) ∷ group 0 2 (Deq ∷ Deq ∷ Deq ∷ []) ∷ group 1 1 (Deq ∷ []) ∷ []) × ((helped.callers 1).answers ≡ Empty ∷ []) × ((helped.callers 0).mine ≡ first_groups)
unfolding steps until installs next excess_of
helper_decides = (refl, refl, refl)

owner_reads : ((steps (lane 2) 0 90 helped).callers 0).answers ≡ Got 1 ∷ Got 2 ∷ Got 9 ∷ []
unfolding steps until installs next excess_of
owner_reads = refl

-- or links its stopper
abbrev helped_stopper : State
helped_stopper = runs (lane 2) 1 (Deq ∷ Deq ∷ []) announced

helper_stops : (helped_stopper.history ≡ first_groups ++ group 0 2 (Deq ∷ Deq ∷ Deq ∷ []) ∷ group 1 0 (Deq ∷ Deq ∷ []) ∷ []) × ((helped_stopper.callers 1).answers ≡ Empty ∷ Empty ∷ [])
unfolding steps until installs next excess_of
helper_stops = (refl, refl)

owner_finds : ((steps (lane 2) 0 90 helped_stopper).callers 0).answers ≡ Got 1 ∷ Got 2 ∷ Empty ∷ []
unfolding steps until installs next excess_of
owner_finds = refl

-- Helpers come late. Caller 0 of three announces three dequeues on two values, and stops.
abbrev three_announced : State
three_announced = next (lane 3) (until installs (lane 3) 0 90 (start (lane 3) (runs (lane 3) 0 (Enq 2 ∷ []) (runs (lane 3) 0 (Enq 1 ∷ []) (opening (lane 3)))) 0 (Deq ∷ Deq ∷ Deq ∷ []))) 0

-- caller 1 is about to link its stopper as caller 2 brings a value, and the owner decides first
abbrev about_to_link : State
about_to_link = until links (lane 3) 1 90 (start (lane 3) three_announced 1 (Deq ∷ []))

abbrev decided_first : State
decided_first = steps (lane 3) 0 90 (runs (lane 3) 2 (Enq 9 ∷ []) about_to_link)

abbrev decided_groups : List Group
decided_groups = first_groups ++ group 2 0 (Enq 9 ∷ []) ∷ group 0 2 (Deq ∷ Deq ∷ Deq ∷ []) ∷ []

waits_to_link : links (about_to_link.callers 1).point ≡ true
unfolding steps until installs links next excess_of
waits_to_link = refl

owner_decided : (decided_first.history ≡ decided_groups) × ((decided_first.callers 0).answers ≡ Got 1 ∷ Got 2 ∷ Got 9 ∷ []) × (decided_first.memory.head ≡ Node (place 25 3))
unfolding steps until installs links next excess_of
owner_decided = (refl, refl, refl)

-- its exchange changes nothing
late_stopper : ((next (lane 3) decided_first 1).history ≡ decided_groups) × ((next (lane 3) decided_first 1).memory.link 2 ≡ Single 25)
unfolding steps until installs links next excess_of
late_stopper = (refl, refl)

late_helper : ((steps (lane 3) 1 90 decided_first).history ≡ decided_groups ++ group 1 0 (Deq ∷ []) ∷ []) × (((steps (lane 3) 1 90 decided_first).callers 1).answers ≡ Empty ∷ [])
unfolding steps until installs links next excess_of
late_helper = (refl, refl)

-- caller 1 is about to decide as the owner does it
abbrev about_to_decide : State
about_to_decide = until decides (lane 3) 1 90 (start (lane 3) (runs (lane 3) 2 (Enq 9 ∷ []) three_announced) 1 (Deq ∷ []))

waits_to_decide : decides (about_to_decide.callers 1).point ≡ true
unfolding steps until installs decides next excess_of
waits_to_decide = refl

late_decide : let s : State = next (lane 3) (steps (lane 3) 0 90 about_to_decide) 1 in (s.history ≡ decided_groups) × (s.memory.old_tail 0 ≡ Some (place 25 3)) × ((s.callers 0).answers ≡ Got 1 ∷ Got 2 ∷ Got 9 ∷ [])
unfolding steps until installs decides next excess_of
late_decide = (refl, refl, refl)
