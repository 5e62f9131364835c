-- A command takes effect: its group joins the history, which stays proper; and it may end by that.
use Rattle.std.proofs.Common.{◌≡◌, ◌≢◌, ◌⊎◌, ℕ, suc, ◌+◌, ◌<◌, ◌≤◌, Bool, false, cond, List, [], ◌∷◌, ◌++◌, length, sym, ap, ◌∙◌, arith, length-append, true, subst}
use Rattle.std.proofs.lemmas.List.{append-nil}
use Rattle.bq_model.specs.declared.op.Op.{Op}
use Rattle.bq_model.specs.declared.group.Group.{Group}
use Rattle.bq_model.specs.Replay.{answers_from}
use Rattle.bq_model.specs.History.{operations, last_queue}
use Rattle.bq_model.specs.Own.{mine}
use Rattle.bq_model.specs.NoShut.{NoShut}
use Rattle.lane_steps.specs.LaneSizes.{LaneSizes}
use Rattle.lane_steps.specs.State.{Caller, State, own_group}
use Rattle.lane_steps.specs.Fact.{is_op, answered}
use Rattle.lane_steps.specs.Answers.{closing_answers}
use Rattle.lane_steps.specs.Close.{is_done, answer_known}
use Rattle.core_model.specs.Rows.{Loose}
use Rattle.core_model.specs.Facts.{Holds, Each, AtPoint, Knows}
use Rattle.core_model.specs.Lawful.{PlainHistory, OwnGroups, Lawful}
use Rattle.core_model.proofs.Groups.{mine-push_own, length-operations-push, plain-push}
use Rattle.core_model.proofs.Rely.{world, Near, Rely, true_false}
use Rattle.lane_steps.specs.declared.point.Closing.{Closing}
use Rattle.lane_steps.specs.Functions.{put}
use Rattle.core_model.specs.Ghost.{World}
use Rattle.lane_steps.specs.declared.point.Closing.TheVariants.{Plain, Batch, Full}
use Rattle.lane_steps.specs.declared.point.Point.{Point}
use Rattle.bq_model.specs.declared.op.Answer.{Answer}
use Rattle.core_model.proofs.Puts.{put_here}
use Rattle.core_model.proofs.Stable.{kept_stable}
use Rattle.core_model.proofs.RowsStable.{retires_stable}
use Rattle.core_model.proofs.Preserves.{kept_lists}

module _ (z : LaneSizes) (s : State) (L : Lawful z s) (c : ℕ) where
  abbrev me : Caller
  me = s.callers c

  abbrev own : Group
  own = own_group c (s.callers c)

  -- the command of c takes effect, whoever makes the step, and its group joins the history
  module _ (off : L.ghost.linearized c ≡ false) where
    own_mine : mine s.history c ≡ (s.callers c).mine
    own_mine = (L.callers c).own_groups ∙ (ap (λ (b : Bool). me.mine ++ cond b (own ∷ []) []) off ∙ append-nil me.mine)

    pub joins_proper : c < z.callers → (s.callers c).ops ≢ [] → NoShut (s.callers c).ops → PlainHistory z.callers (s.history ++ own_group c (s.callers c) ∷ [])
    joins_proper known some plain = plain-push z.callers s.history own known some plain (ap length (sym own_mine)) L.history

    pub joins_mine : mine (s.history ++ own_group c (s.callers c) ∷ []) c ≡ (s.callers c).mine ++ own_group c (s.callers c) ∷ []
    joins_mine = mine-push_own s.history own ∙ ap (λ (gs : List Group). gs ++ own ∷ []) own_mine

  -- where its caller makes the step, it goes on with these rows taken, and these to be marked
  module _ (off : L.ghost.linearized c ≡ false) (t : Point) (rows ws : List ℕ) where
    abbrev after : Caller
    after = record (s.callers c) { point = t; rows = rows; walked = ws }

    pub joins_groups : OwnGroups c (s.history ++ own_group c (s.callers c) ∷ []) after (put L.ghost.linearized c true c)
    joins_groups = joins_mine off ∙ ap (λ (b : Bool). me.mine ++ cond b (own ∷ []) []) (sym (put_here L.ghost.linearized c true))

    -- what it knows then, besides its answers
    pub joins_knows : (Touch : ℕ → Type 0) (w : World) → Rely z Touch (world s L.ghost) w → Near (world s L.ghost) w c → ((r : ℕ) → Loose z (world s L.ghost) c r ⊎ Loose z w c r → ¬ (Touch r)) → w.history ≡ s.history ++ own_group c (s.callers c) ∷ []
        → AtPoint z w c after t → Knows z w c after
    joins_knows Touch w rely near apart added at = record {
      retired = retires_stable z Touch (world s L.ghost) w rely c near apart me.retired (L.callers c).knows.retired;
      started = subst (λ (h : List Group). me.started_at ≤ length h) (sym added) (let from = (L.callers c).knows.started in let total = length-append s.history (own ∷ []) in omega arith);
      last = kept_lists w.history c me t rows me.values ws me.retired me.named me.hold me.row_hold (kept_stable z Touch (world s L.ghost) w rely c me (L.callers c).knows.last);
      at_point = at;
    }

  -- its answers are those of the replay, where it ends with these
  joined : (w : World) (xs : List Answer) → w.history ≡ s.history ++ own_group c (s.callers c) ∷ [] → xs ≡ answers_from (last_queue s.history) (s.callers c).ops → Holds z w c (answered (s.callers c).started_at (own_group c (s.callers c)) xs)
  joined w xs added right = (record { before = s.history; behind = []; splits = added ∙ sym (append-nil (s.history ++ own ∷ [])); right = right }, (L.callers c).knows.started)

  pub joins_answered : (w : World) (x : Closing) → is_done x ≡ true → w.history ≡ s.history ++ own_group c (s.callers c) ∷ [] → closing_answers (s.callers c).ops (s.callers c).values x ≡ answers_from (last_queue s.history) (s.callers c).ops → Each z w c (answer_known c (s.callers c) x)
  joins_answered w (Plain answer) done added right = (joined w (answer ∷ []) added right, tt)
  joins_answered w (Batch m) done added right = (joined w (closing_answers me.ops me.values (Batch m)) added right, tt)
  joins_answered w Full done added right = absurd (true_false (sym done))

  -- the same of a single operation
  module _ (op : Op) (off : L.ghost.linearized c ≡ false) (runs : Holds z (world s L.ghost) c (is_op (s.callers c).ops (s.callers c).rows op)) where
    pub linearizes_proper : NoShut (op ∷ []) → PlainHistory z.callers (s.history ++ own_group c (s.callers c) ∷ [])
    linearizes_proper plain = joins_proper off runs.1 (λ none. some (sym runs.0 ∙ none)) (subst NoShut (sym runs.0) plain) where
      some : op ∷ [] ≢ []
      some e = cc e

    pub linearizes_operations : length (operations (s.history ++ own_group c (s.callers c) ∷ [])) ≡ suc (length (operations s.history))
    linearizes_operations = length-operations-push s.history own ∙ (ap (λ (ops : List Op). length (operations s.history) + length ops) runs.0 ∙ (let one : length (operations s.history) + 1 ≡ suc (length (operations s.history)) = omega arith in one))
