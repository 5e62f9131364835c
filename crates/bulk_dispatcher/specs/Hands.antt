-- What one hand does on one lane, as the hand itself has seen it.
use Rattle.std.specs.Prelude.{◌≡◌, ℕ, ◌+◌, ◌<◌, ◌≤◌, Option, Some, None, ◌%◌, ◌==◌, List, [], ◌∷◌, ◌++◌, length, map, filter, replicate, Contains, All, slice_index, slice_index_or, slice_set}
use Rattle.std.specs.List.{flat_map, zip, filter_map, range_with_len, AllZip}
use Rattle.bq_model.specs.declared.op.Op.TheVariants.{Deq}
use Rattle.bq_model.specs.declared.op.Answer.{Answer}
use Rattle.bq_model.specs.declared.op.Answer.TheVariants.{Done, Got, Empty, Refused}
use Rattle.bq_model.specs.declared.group.Group.{Group}
use Rattle.bq_model.specs.Replay.{answers_from}
use Rattle.bq_model.specs.History.{operations, answers_of, last_queue}
use Rattle.bq_model.specs.Own.{mine, callers_of}
use Rattle.job_text.specs.declared.file.Unit.{Unit as JobUnit}
use Rattle.job_text.specs.JobFile.{job_at}
use Rattle.job_work.specs.declared.job.Job.{Job}
use Rattle.job_work.specs.Answer.{answer_of}
use Rattle.bq_model.specs.NoShut.{NeverShut}
use Rattle.bq_model.specs.Proper.{IsProper}
use Rattle.bulk_dispatcher.specs.declared.reply.Reply.{Reply}
use Rattle.bq_model.specs.Grows.{SawMore}
use Rattle.bulk_dispatcher.specs.Books.{Numbered, units_on, lanes_of, StandTogether}
use Rattle.bq_model.specs.Values.{enqueued}

-- the units of a file that a hand puts on a lane: unit u goes to hand u mod hands
abbrev pub units_of : List JobUnit → ℕ → ℕ → ℕ → List Numbered
units_of file hands lane hand = filter (λ unit. unit.place % hands == hand) (units_on file lane)

-- Caller c is done with a lane: its last group is of so many dequeues alone, and the last of them found nothing.
pub record EndedEmpty (batch c : ℕ) (h : List Group) : Type 0 where
  pub before : List Group
  pub group : Group
  pub after : List Group
  pub stands : h ≡ before ++ group ∷ after
  pub whose : group.caller ≡ c
  pub last : mine after c ≡ []
  pub dequeues : group.ops ≡ replicate batch Deq
  pub found : List Answer
  pub empty : answers_from (last_queue before) group.ops ≡ found ++ Empty ∷ []

-- each answer beside the caller that it was given to
abbrev pub given : List Group → List (ℕ × Answer)
given h = zip (callers_of h) (answers_of h)

-- the answers to caller c, in the order of its serials
abbrev pub answers_to : List Group → ℕ → List Answer
answers_to h c = map (λ p. p.1) (filter (λ p. p.0 == c) (given h))

-- how many dequeues found nothing
abbrev pub empties : List Answer → ℕ
empties [] = 0
empties (Done ∷ answers) = empties answers
empties (Got v ∷ answers) = empties answers
empties (Empty ∷ answers) = 1 + empties answers
empties (Refused ∷ answers) = empties answers

-- how many dequeues of caller c found nothing
abbrev pub found_nothing_by : List Group → ℕ → ℕ
found_nothing_by h c = empties (answers_to h c)

-- a dequeue of a caller by its serial, and what it got
pub record Catch : Type 0 where
  pub serial : ℕ
  pub value : ℕ

-- those among answers, the first of which has serial n
abbrev pub caught_from : ℕ → List Answer → List Catch
caught_from n [] = []
caught_from n (Done ∷ answers) = caught_from (n + 1) answers
caught_from n (Got v ∷ answers) = record { serial = n; value = v } ∷ caught_from (n + 1) answers
caught_from n (Empty ∷ answers) = caught_from (n + 1) answers
caught_from n (Refused ∷ answers) = caught_from (n + 1) answers

-- what caller c got in a history
abbrev pub caught : List Group → ℕ → List Catch
caught h c = caught_from 0 (answers_to h c)

-- What a hand did on a lane for its units, by the history that it has seen there.
pub record HandDid (units : List Numbered) (batch c : ℕ) (h : List Group) : Type 0 where
  -- It enqueued the jobs of its units in file order, and nothing else.
  pub put : enqueued (operations (mine h c)) ≡ flat_map (λ unit. unit.numbers) units
  -- Each unit stands in one of its groups.
  pub together : All (λ unit. StandTogether (mine h c) unit.numbers) units
  -- It stopped where it found nothing.
  pub ended : EndedEmpty batch c h

-- the reply of caller c for a job that it caught on a lane
abbrev pub reply_for : ℕ → ℕ → Catch → Option (ℕ × Job) → Option Reply
reply_for lane c x None = None
reply_for lane c x (Some found) = Some (record { job = x.value; lane = lane; caller = c; serial = x.serial; text = answer_of found.1 })

-- its replies for all that it caught there, in order; what is no job's number has none
abbrev pub replies_on : List JobUnit → ℕ → ℕ → List Group → List Reply
replies_on file lane c h = filter_map (λ x. reply_for lane c x (job_at file x.value)) (caught h c)

-- What a hand did for a file. It has seen these histories, one for each lane of the file, and made these replies.
pub record HandDone (file : List JobUnit) (hands batch c : ℕ) (seen : List (List Group)) (replies : List Reply) : Type 0 where
  pub did : AllZip (λ lane h. HandDid (units_of file hands lane c) batch c h) (lanes_of file) seen
  -- It replied to what it caught, and to nothing else.
  pub replied : AllZip (λ lane h. filter (λ reply. reply.lane == lane) replies ≡ replies_on file lane c h) (lanes_of file) seen
  pub lanes : All (λ reply. Contains (lanes_of file) reply.lane) replies

-- What all hands did, by the books. Hand c made the replies `by_hand c`, and main's caller, which is the last one, made no operation.
pub record AllDone (file : List JobUnit) (hands batch : ℕ) (books : List (List Group)) (by_hand : ℕ → List Reply) : Type 0 where
  pub proper : AllZip (λ lane book. IsProper (hands + 1) book) (lanes_of file) books
  pub never_shut : AllZip (λ lane book. NeverShut book) (lanes_of file) books
  pub idle : AllZip (λ lane book. mine book hands ≡ []) (lanes_of file) books
  pub done : (c : ℕ) → c < hands → HandDone file hands batch c books (by_hand c)

-- What a hand did on a lane for these units, before it is done.
pub record HandPut (units : List Numbered) (c : ℕ) (h : List Group) : Type 0 where
  pub put : enqueued (operations (mine h c)) ≡ flat_map (λ unit. unit.numbers) units
  pub together : All (λ unit. StandTogether (mine h c) unit.numbers) units

-- what a hand hands back: what it has seen of each lane, and its replies
pub record Run : Type 0 where
  pub seen : List (List Group)
  pub replies : List Reply

-- What all hands did, each by what it has seen itself; the first of them is hand `from`.
abbrev pub HandsRan : List JobUnit → ℕ → ℕ → ℕ → List Run → Type 0
HandsRan file hands batch from runs = AllZip (λ c run. HandDone file hands batch c run.seen run.replies) (range_with_len from (length runs)) runs

-- The lanes of a file were closed. Each book begins with what each hand has seen, and has of it what it made and no more.
pub record LanesClosed (file : List JobUnit) (hands : ℕ) (runs : List Run) (books : List (List Group)) : Type 0 where
  pub proper : AllZip (λ lane book. IsProper (hands + 1) book) (lanes_of file) books
  pub never_shut : AllZip (λ lane book. NeverShut book) (lanes_of file) books
  pub idle : AllZip (λ lane book. mine book hands ≡ []) (lanes_of file) books
  pub kept : AllZip (λ c run. AllZip (SawMore c) run.seen books) (range_with_len 0 (length runs)) runs

-- Caller c replied to all that it caught on a lane between two histories that it has seen, and to nothing else.
pub record Answered (file : List JobUnit) (lane c : ℕ) (old new : List Group) (before after : List Reply) : Type 0 where
  pub more : List Reply
  pub replied : after ≡ before ++ more
  pub caught : replies_on file lane c new ≡ replies_on file lane c old ++ more

-- A hand replied to all that it caught on these lanes, where it has seen these histories.
pub record HasReplied (file : List JobUnit) (lanes : List ℕ) (c : ℕ) (seen : List (List Group)) (replies : List Reply) : Type 0 where
  pub replied : AllZip (λ lane h. filter (λ reply. reply.lane == lane) replies ≡ replies_on file lane c h) lanes seen
  pub on_lanes : All (λ reply. Contains lanes reply.lane) replies

-- Caller c put one unit more, of so many jobs from number `first` on.
pub record PutsUnit (first count c : ℕ) (old new : List Group) : Type 0 where
  pub put : (units : List Numbered) (unit : Numbered) → unit.numbers ≡ range_with_len first count → HandPut units c old → HandPut (units ++ unit ∷ []) c new
  -- few of its dequeues found nothing
  pub few : found_nothing_by new c ≤ found_nothing_by old c + 256

-- Caller c is done with a lane, whatever units it had put there.
pub record EndsLane (batch c : ℕ) (old new : List Group) : Type 0 where
  pub did : (units : List Numbered) → HandPut units c old → HandDid units batch c new

-- A hand has seen more on one lane, and what it has seen of the others is as it was.
pub record OnOneLane (P : List Group → List Group → Type 0) (lanes : List ℕ) (lane : ℕ) (old new : List (List Group)) : Type 0 where
  pub place : ℕ
  pub within : place < length lanes
  pub found : slice_index lanes place ≡ lane
  pub seen : List Group
  pub changed : new ≡ slice_set old place seen
  pub holds : P (slice_index_or old place []) seen

-- What a hand did on these lanes, where it has seen these histories, and the replies that it made.
pub record HandRan (lanes : List ℕ) (file : List JobUnit) (hands batch c : ℕ) (seen : List (List Group)) (replies : List Reply) : Type 0 where
  pub did : AllZip (λ lane h. HandDid (units_of file hands lane c) batch c h) lanes seen
  pub replied : HasReplied file lanes c seen replies

-- the replies of caller c to operations on a lane that got these answers, the first of which has serial n
abbrev pub new_replies : List JobUnit → ℕ → ℕ → ℕ → List Answer → List Reply
new_replies file lane c n answers = filter_map (λ x. reply_for lane c x (job_at file x.value)) (caught_from n answers)
