-- What a hand does with what its operations came to.
use Rattle.std.specs.Prelude.{◌≡◌, ℕ, ◌+◌, ◌<◌, ◌≤◌, Bool, true, false, List, [], ◌∷◌, ◌++◌, length}
use Rattle.std.specs.List.{cons_option}
use Rattle.bq_model.specs.declared.op.Op.{Op}
use Rattle.bq_model.specs.declared.op.Answer.{Answer}
use Rattle.bq_model.specs.declared.op.Answer.TheVariants.{Done, Got, Empty, Refused}
use Rattle.bq_model.specs.declared.group.Group.{Group}
use Rattle.bq_model.specs.declared.shape.Shape.{Shape}
use Rattle.bq_model.specs.Values.{enqueued}
use Rattle.bq_model.specs.Rooms.{PassesAllowance, PassesRoom}
use Rattle.bq_model.specs.Grows.{Grew, SawMore, AtSomePoint}
use Rattle.bulk_dispatcher.specs.declared.round.Round.{Round}
use Rattle.bulk_dispatcher.specs.declared.round.Round.TheVariants as round
use Rattle.bq_session.specs.declared.claim.Outcome.{Outcome}
use Rattle.bq_session.specs.declared.claim.Outcome.TheVariants as outcome
use Rattle.bq_session.specs.Outcome.{made_by}
use Rattle.job_text.specs.declared.file.Unit.{Unit as JobUnit}
use Rattle.job_text.specs.JobFile.{job_at}
use Rattle.bulk_dispatcher.specs.declared.reply.Reply.{Reply}
use Rattle.bulk_dispatcher.specs.Hands.{reply_for, new_replies, HandPut}
use Rattle.bulk_dispatcher.specs.Books.{Numbered}

-- the reply to what an operation came to, where that is a value which names a job
abbrev pub replies_to : List JobUnit → Outcome → List Reply
replies_to file outcome.Done = []
replies_to file (outcome.Got claim) = cons_option (reply_for claim.lane claim.caller (record { serial = claim.serial; value = claim.value }) (job_at file claim.value)) []
replies_to file outcome.Empty = []

-- whether a dequeue found nothing
abbrev pub found_nothing : Outcome → Bool
found_nothing outcome.Done = false
found_nothing (outcome.Got claim) = false
found_nothing outcome.Empty = true

abbrev pub is_empty : Answer → Bool
is_empty Done = false
is_empty (Got v) = false
is_empty Empty = true
is_empty Refused = false

-- whether the last of the answers says so; where there is none, what was said before them
abbrev pub ends_empty : Bool → List Answer → Bool
ends_empty before [] = before
ends_empty before (answer ∷ answers) = ends_empty (is_empty answer) answers

-- Caller c made a group of these operations on a lane and replied to what it got. It knows whether the last one found nothing.
pub record RoundMade (file : List JobUnit) (lane c : ℕ) (ops : List Op) (seen now : List Group) (before after : List Reply) (empty : Bool) : Type 0 where
  pub answers : List Answer
  pub made : Grew c ops answers seen now
  pub replied : after ≡ before ++ new_replies file lane c (made_by seen c) answers
  pub ended : empty ≡ ends_empty false answers

-- Caller c put no unit.
pub record PutsNothing (c : ℕ) (old new : List Group) : Type 0 where
  pub put : (units : List Numbered) → HandPut units c old → HandPut units c new

-- What a round of these operations came to. Where the lane refused, the caller put nothing and replied to nothing.
abbrev pub RoundCame : Shape → List JobUnit → ℕ → ℕ → List Op → List Group → List Group → List Reply → List Reply → Round → Type 0
RoundCame shape file lane c ops seen now before after (round.Made empty) = RoundMade file lane c ops seen now before after empty × (made_by seen c + length ops ≤ shape.allowance)
RoundCame shape file lane c ops seen now before after round.Full = SawMore c seen now × (after ≡ before) × (0 < length (enqueued ops)) × AtSomePoint (λ point. PassesRoom shape point c ops) seen now
RoundCame shape file lane c ops seen now before after round.Spent = SawMore c seen now × (after ≡ before) × PassesAllowance shape seen c ops
