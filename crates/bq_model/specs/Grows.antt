-- What a call on a lane does to the history that its caller has seen.
use Rattle.std.specs.Prelude.{◌≡◌, ℕ, List, [], ◌∷◌, ◌++◌, get_or}
use Rattle.bq_model.specs.declared.op.Op.{Op}
use Rattle.bq_model.specs.declared.op.Answer.{Answer}
use Rattle.bq_model.specs.declared.group.Group.{Group}
use Rattle.bq_model.specs.Replay.{answers_from}
use Rattle.bq_model.specs.History.{last_queue}
use Rattle.bq_model.specs.Own.{mine, next_group}

-- the caller of a pass that holds one
abbrev pub the_caller : List ℕ → ℕ
the_caller callers = get_or callers 0 0

-- Caller c made one group of these operations, behind all that it had seen, and they got these answers. Groups of
-- others may stand before it and after it.
pub record Grew (c : ℕ) (ops : List Op) (answers : List Answer) (old new : List Group) : Type 0 where
  pub between : List Group
  pub after : List Group
  pub grown : new ≡ (old ++ between) ++ next_group old c ops ∷ after
  -- it is the only group of its own that came
  pub own : mine new c ≡ mine old c ++ next_group old c ops ∷ []
  pub answered : answers ≡ answers_from (last_queue (old ++ between)) ops

-- Caller c made nothing, and may have seen more of others.
pub record SawMore (c : ℕ) (old new : List Group) : Type 0 where
  pub more : List Group
  pub grown : new ≡ old ++ more
  pub own : mine new c ≡ mine old c

-- At some point from what was seen before to what is seen now, this held of the history.
pub record AtSomePoint (holds : List Group → Type 0) (old new : List Group) : Type 0 where
  pub between : List Group
  pub after : List Group
  pub grown : new ≡ (old ++ between) ++ after
  pub held : holds (old ++ between)
