-- One atomic step of one caller: it reads one word, stores into that word, and changes what its caller keeps. All of this
-- follows from the caller's point and from what the word had.
use Rattle.std.specs.Prelude.{ℕ, zero, suc, ◌++◌, ◌==◌, nat_lt, Bool, true, false, cond, List, [], ◌∷◌, length, get_or, Option, Some, None}
use Rattle.bq_model.specs.declared.op.Answer.{Answer}
use Rattle.bq_model.specs.declared.group.Group.{Group}
use Rattle.word_rows.specs.declared.location.Location.{Location}
use Rattle.word_rows.specs.declared.location.Location.TheVariants.{Head}
use Rattle.word_rows.specs.declared.content.Content.{Content}
use Rattle.bq_model.specs.Values.{enqueued}
use Rattle.lane_steps.specs.declared.act.Act.{Act}
use Rattle.lane_steps.specs.declared.act.Act.TheVariants.{Load}
use Rattle.lane_steps.specs.declared.course.Course.{Course}
use Rattle.lane_steps.specs.declared.course.Course.TheVariants.{GoesOn, Closes, Lacks, Passes, Fills, Chains, Stops, Takes, Hears, Guards, Holds, Reads, ReadsMore, Walks, WalksMore, Moves, Marks, Retires, ClearsNode, ClearsAnn, Finds, Frees}
use Rattle.lane_steps.specs.declared.point.Point.{Point}
use Rattle.lane_steps.specs.declared.point.Point.TheVariants.{Idle}
use Rattle.lane_steps.specs.declared.point.DequeuePoint.TheVariants as deq
use Rattle.lane_steps.specs.declared.point.FillPoint.TheVariants as fill
use Rattle.lane_steps.specs.declared.point.Notice.{Notice}
use Rattle.lane_steps.specs.declared.point.Closing.{Closing}
use Rattle.lane_steps.specs.declared.point.Closing.TheVariants.{Plain, Batch, Full}
use Rattle.lane_steps.specs.declared.point.ClosePoint.TheVariants.{MarkRow, MarkLoose, ClearNode, ClearAnn, LoadHazard, MarkFree}
use Rattle.lane_steps.specs.declared.point.Reading.{Reading}
use Rattle.lane_steps.specs.declared.point.Taking.TheVariants as taking_for
use Rattle.word_rows.specs.declared.place.Place.{Place}
use Rattle.node_guard.specs.Retired.{first_unheld, without_first_unheld}
use Rattle.lane_steps.specs.declared.point.Hold.{Hold}
use Rattle.lane_steps.specs.declared.point.Hold.TheVariants.{Free, Names, Held}
use Rattle.lane_steps.specs.declared.point.ManyPoint.TheVariants as many
use Rattle.lane_steps.specs.declared.point.AnswerPoint.TheVariants as answer
use Rattle.lane_steps.specs.declared.point.Point.TheVariants as point
use Rattle.lane_steps.specs.declared.point.EnqueuePoint.TheVariants as enq
use Rattle.lane_steps.specs.declared.point.HelpPoint.TheVariants as help
use Rattle.lane_steps.specs.declared.point.CallEnd.TheVariants as outcome
use Rattle.lane_steps.specs.Functions.{put, rising}
use Rattle.lane_steps.specs.LaneSizes.{LaneSizes}
use Rattle.lane_steps.specs.Batches.{owner_of, with_rows}
use Rattle.lane_steps.specs.State.{Caller, State, own_group, read, write, head_in, link_in, old_tail_in}
use Rattle.lane_steps.specs.Act.{is_node, is_nil, location, effect, is_unknown, behind}
use Rattle.lane_steps.specs.Help as helping
use Rattle.lane_steps.specs.Enqueue as enqueue
use Rattle.lane_steps.specs.Dequeue as dequeue
use Rattle.lane_steps.specs.Fill.{scan_from, noted}
use Rattle.lane_steps.specs.Fill as filling
use Rattle.lane_steps.specs.Batch as batching
use Rattle.lane_steps.specs.Many as dequeuing
use Rattle.lane_steps.specs.Answer as answering
use Rattle.lane_steps.specs.Answers.{closing_answers}
use Rattle.lane_steps.specs.Take.{search}
use Rattle.lane_steps.specs.Take as taking
use Rattle.lane_steps.specs.Guard as guarding_of
use Rattle.lane_steps.specs.Close.{to_pass}
use Rattle.lane_steps.specs.Close as closing

-- what the next step of caller c does
abbrev pub act : ℕ → Point → Act
act c Idle = Load Head
act c (point.Enqueue i p) = enqueue.act i p
act c (point.Dequeue p) = dequeue.act p
act c (point.Fill n p) = filling.act p
act c (point.Batch d p) = batching.act d p
act c (point.Many d p) = dequeuing.act d p
act c (point.Answer p) = answering.act p
act c (point.Help h p) = helping.act h p
act c (point.Take t p) = taking.act t p
act c (point.Guard t p) = guarding_of.act c t p
act c (point.Close a p) = closing.act c p

-- the word of that step, and what it has after the step that found x in it
abbrev pub target : ℕ → Point → Location
target c t = location (act c t)

abbrev pub stored : ℕ → Point → Content → Content
stored c t x = effect (act c t) x

-- the step adds a group to the history
abbrev pub linearizes : Point → Content → Bool
linearizes (point.Enqueue i (enq.LinkSingle p)) x = is_nil (link_in x)
linearizes (point.Dequeue (deq.LoadLink p)) x = is_nil (link_in x)
linearizes (point.Dequeue (deq.MoveHead p n v)) x = is_node (head_in x) p
linearizes (point.Many d many.LoadDummy) x = is_nil (link_in x)
linearizes (point.Many d (many.MoveHead r)) x = is_node (head_in x) d.notice.old_head
linearizes (point.Help h (help.LinkChain p)) x = is_nil (link_in x)
linearizes (point.Help h (help.Decide p)) x = is_unknown (old_tail_in x)
linearizes _ x = false

-- whose group the step of caller c adds: its own, or that of the announcement's owner
abbrev pub group_owner : LaneSizes → ℕ → Point → ℕ
group_owner z c (point.Help h (help.LinkChain p)) = owner_of z h.ann
group_owner z c (point.Help h (help.Decide p)) = owner_of z h.ann
group_owner z c _ = c

-- the group that the step of caller c adds, if any
abbrev pub added_by : LaneSizes → (ℕ → Caller) → ℕ → Point → Content → List Group
added_by z callers c t x = cond (linearizes t x) (own_group (group_owner z c t) (callers (group_owner z c t)) ∷ []) []

-- the history, with the group g at its end where a step adds one
abbrev pub history_after : Bool → List Group → Group → List Group
history_after true h g = h ++ g ∷ []
history_after false h g = h

-- the caller goes on with its command
abbrev pub stepped : Caller → Point → Caller
stepped k t = record k { point = t }

-- the same, with the values that it has read for its answers, and their rows
abbrev pub stepped_with : Caller → Point → List ℕ → List ℕ → Caller
stepped_with k t vs ws = record k { point = t; values = vs; walked = ws }

-- the same, as its own ANN_HAZARD or its hold of that has changed; or its NODE_HAZARD or its hold of that
abbrev pub guarding : Caller → Point → Hold → Caller
guarding k t h = record k { point = t; hold = h }

abbrev pub holding : Caller → Point → Hold → Caller
holding k t h = record k { point = t; row_hold = h }

-- its command ends so, when the history has n groups
abbrev pub done : ℕ → ℕ → Caller → List Answer → Caller
done n c k answers = record k { point = Idle; ops = []; mine = k.mine ++ own_group c k ∷ []; outcome = Some outcome.Done; answers = answers; ended_at = Some n }

abbrev pub ended : ℕ → ℕ → Caller → Closing → Caller
ended n c k (Plain answer) = done n c k (closing_answers k.ops k.values (Plain answer))
ended n c k (Batch m) = done n c k (closing_answers k.ops k.values (Batch m))
ended n c k Full = record k { point = Idle; ops = []; outcome = Some outcome.Full; answers = []; ended_at = Some n }

-- it frees this row of its retired list, or ends
abbrev pub frees : ℕ → ℕ → Caller → Closing → Option ℕ → Caller
frees n c k a None = ended n c k a
frees n c k a (Some r) = stepped k (point.Close a (MarkFree r))

abbrev pub frees_next : ℕ → ℕ → Caller → Closing → Caller
frees_next n c k a = frees n c k a (first_unheld k.named k.retired)

-- it begins its scan; where its retired list is empty it makes none
abbrev pub scans : ℕ → ℕ → Caller → Closing → List ℕ → Caller
scans n c k a [] = ended n c k a
scans n c k a (r ∷ rs) = record k { point = point.Close a (LoadHazard 0); named = [] }

-- it clears its hazard words first, where these name something
abbrev pub clears_ann : ℕ → ℕ → Caller → Closing → Hold → Caller
clears_ann n c k a Free = scans n c k a k.retired
clears_ann n c k a (Names x) = stepped k (point.Close a ClearAnn)
clears_ann n c k a (Held x) = stepped k (point.Close a ClearAnn)

abbrev pub clears_node : ℕ → ℕ → Caller → Closing → Hold → Caller
clears_node n c k a Free = clears_ann n c k a k.hold
clears_node n c k a (Names x) = stepped k (point.Close a ClearNode)
clears_node n c k a (Held x) = stepped k (point.Close a ClearNode)

-- it marks these rows before, which it took and didn't link
abbrev pub loses : ℕ → ℕ → Caller → Closing → List ℕ → Caller
loses n c k a [] = clears_node n c (record k { rows = [] }) a k.row_hold
loses n c k a (r ∷ rs) = record k { point = point.Close a (MarkLoose r); rows = rs }

abbrev pub closes : ℕ → ℕ → Caller → Closing → Caller
closes n c k a = loses n c k a (rising k.rows)

-- it marks the rows behind this place before, which are these
abbrev pub marks_on : ℕ → ℕ → Caller → Closing → Bool → Place → List ℕ → Caller
marks_on n c k a stopped q [] = closes n c (record k { walked = [] }) a
marks_on n c k a stopped q (r ∷ rs) = record k { point = point.Close a (MarkRow (behind q r) true (nat_lt 0 (to_pass (length rs) stopped)) stopped); walked = rs }

-- it marks the old dummy before, where the head has passed that
abbrev pub marks_from : ℕ → ℕ → Caller → Closing → Bool → Place → Bool → Caller
marks_from n c k a stopped p false = closes n c (record k { walked = [] }) a
marks_from n c k a stopped p true = stepped k (point.Close a (MarkRow p false true stopped))

abbrev pub marks_all : ℕ → ℕ → Caller → Closing → Bool → Place → Caller
marks_all n c k a stopped p = marks_from n c k a stopped p (nat_lt 0 (to_pass (length k.walked) stopped))

-- both marks are set on the row now, or not
abbrev pub retires : Caller → ℕ → Bool → Caller
retires k r true = record k { retired = k.retired ++ r ∷ [] }
retires k r false = k

-- The owner of a batch, which is caller c and keeps k, has read these values of these rows. It goes on from the row r where
-- l are left, and else it is done.
abbrev pub reads_on : ℕ → ℕ → Caller → Reading → ℕ → ℕ → List ℕ → List ℕ → Caller
reads_on n c k b r zero vs ws = marks_all n c (record k { values = vs; walked = ws }) (Batch b.queued) b.stopped b.dummy
reads_on n c k b r (suc l) vs ws = stepped_with k (point.Answer (answer.LoadLink b r l)) vs ws

-- the rows that it has taken, where they were linked or not
abbrev pub rows_left : Bool → List ℕ → List ℕ
rows_left linked rows = cond linked [] rows

abbrev pub course : Point → Content → Course
course Idle x = GoesOn Idle
course (point.Enqueue i p) x = enqueue.course i p x
course (point.Dequeue p) x = dequeue.course p x
course (point.Fill n p) x = filling.course n p x
course (point.Batch d p) x = batching.course d p x
course (point.Many d p) x = dequeuing.course d p x
course (point.Answer p) x = answering.course p x
course (point.Help h p) x = helping.course h p x
course (point.Take t p) x = taking.course t p x
course (point.Guard t p) x = guarding_of.course t p x
course (point.Close a p) x = closing.course a p x

module _ (z : LaneSizes) where
  -- caller c has found these named, and goes on with the words of the callers from e on
  abbrev pub listening : ℕ → Caller → Notice → ℕ → List ℕ → Caller
  listening c k s e xs = record k { point = scan_from z c xs s e; named = xs }

  -- the owner of a batch links its row of this number to the next one, or, where it is the last one, chooses an announcement
  abbrev pub links_on : ℕ → Caller → Notice → ℕ → Bool → Caller
  links_on c k s i true = listening c k s 0 []
  links_on c k s i false = stepped k (point.Fill s (fill.StoreChain i (get_or k.rows i 0) (get_or k.rows (suc i) 0)))

  -- It has its rows. It takes another one for the next enqueue, or links them.
  abbrev pub takes_on : ℕ → Caller → Notice → Bool → Caller
  takes_on c k s false = stepped k (search z c (taking_for.Batch s (get_or (enqueued k.ops) (length k.rows) 0)))
  takes_on c k s true = links_on c k (with_rows s k.rows) 0 (length k.rows == 1)

  abbrev pub fills_row : ℕ → Caller → Notice → Caller
  fills_row c k s = takes_on c k s (length k.rows == s.counts.enqs)

  -- of the scan for its rows the NODE_HAZARD of caller d was loaded
  abbrev pub scans_on : ℕ → ℕ → Caller → Closing → ℕ → Caller
  scans_on n c k a d = cond (suc d == z.callers) (frees_next n c k a) (stepped k (point.Close a (LoadHazard (suc d))))

  -- what caller c, which kept k, keeps then, when the history has n groups
  abbrev pub followed : ℕ → ℕ → Caller → Course → Caller
  followed n c k (GoesOn t) = stepped k t
  followed n c k (Closes a) = closes n c k a
  followed n c k Lacks = closes n c k Full
  followed n c k (Passes a p r) = marks_all n c (record k { walked = r ∷ [] }) a false p
  followed n c k (Fills s r) = fills_row c (record k { rows = k.rows ++ r ∷ [] }) s
  followed n c k (Chains s i) = links_on c k s (suc i) (suc (suc i) == length k.rows)
  followed n c k (Stops s r) = listening c (record k { rows = r ∷ [] }) (with_rows s (r ∷ [])) 0 []
  followed n c k (Takes t) = stepped k (search z c t)
  followed n c k (Hears s e x) = listening c k s (suc e) (noted k.named x)
  followed n c k (Guards t h) = guarding k t h
  followed n c k (Holds t h) = holding k t h
  followed n c k (Reads b r l linked) = reads_on n c (record k { rows = rows_left linked k.rows }) b r l [] []
  followed n c k (ReadsMore b r l v) = reads_on n c k b r l (k.values ++ v ∷ []) (k.walked ++ r ∷ [])
  followed n c k (Walks t) = stepped_with k t [] []
  followed n c k (WalksMore t r v) = stepped_with k t (k.values ++ v ∷ []) (k.walked ++ r ∷ [])
  followed n c k (Moves p m) = marks_all n c k (Batch m) false p
  followed n c k (Marks a q both stopped) = let k' = retires k q.row both in marks_on n c k' a stopped q k'.walked
  followed n c k (Retires a r) = loses n c (record k { retired = k.retired ++ r ∷ [] }) a k.rows
  followed n c k (ClearsNode a) = clears_ann n c (record k { row_hold = Free }) a k.hold
  followed n c k (ClearsAnn a) = scans n c (record k { hold = Free }) a k.retired
  followed n c k (Finds a d x) = scans_on n c (record k { named = noted k.named x }) a d
  followed n c k (Frees a) = frees_next n c (record k { retired = without_first_unheld k.named k.retired }) a

  -- what it keeps after the step at the point t that found x
  abbrev pub after : ℕ → ℕ → Caller → Point → Content → Caller
  after n c k t x = followed n c k (course t x)

  -- the step of caller c at the point t, where its word has x
  abbrev pub history_with : State → ℕ → Point → Content → List Group
  history_with s c t x = history_after (linearizes t x) s.history (own_group (group_owner z c t) (s.callers (group_owner z c t)))

  abbrev pub step_with : State → ℕ → Point → Content → State
  step_with s c t x = record {
    memory = write s.memory (target c t) (stored c t x);
    history = history_with s c t x;
    callers = put s.callers c (after (length (history_with s c t x)) c (s.callers c) t x);
  }

  abbrev pub step_at : State → ℕ → Point → State
  step_at s c t = step_with s c t (read s.memory (target c t))

-- the next step of caller c
unfoldable pub next : LaneSizes → State → ℕ → State
next z s c = step_at z s c (s.callers c).point
