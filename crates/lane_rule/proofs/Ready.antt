-- What a lane's caller can do next, and what it knows when it has seen the history.
use Rattle.std.proofs.Common.{◌≡◌, ℕ, None, Bool, true, false, cond, List, [], ◌∷◌, ◌++◌, sym, refl, ap, ◌∙◌, subst, arith}
use Rattle.std.proofs.lemmas.List.{append-nil}
use Rattle.bq_model.specs.declared.group.Group.{Group}
use Rattle.bq_model.specs.declared.shape.Shape.{Shape}
use Rattle.bq_model.specs.Own.{mine}
use Rattle.bq_model.specs.Proper.{IsProper}
use Rattle.bq_model.specs.NoShut.{NeverShut}
use Rattle.word_rows.specs.Contents.{MayHold}
use Rattle.word_rows.proofs.SizeLemmas.{rows_within}
use Rattle.lane_steps.specs.LaneSizes.{LaneSizes, lane_sizes}
use Rattle.lane_steps.specs.declared.point.Point.{Point}
use Rattle.lane_steps.specs.declared.point.Point.TheVariants as point
use Rattle.lane_steps.specs.declared.point.Closing.{Closing}
use Rattle.lane_steps.specs.declared.point.ClosePoint.TheVariants.{LoadHazard}
use Rattle.lane_steps.specs.State.{Caller, State, read, hazard_in}
use Rattle.lane_steps.specs.Step.{target, history_after, step_at, next}
use Rattle.lane_steps.specs.Start.{opening}
use Rattle.lane_steps.specs.Coded.{IsCoded}
use Rattle.core_model.specs.Lawful.{Allowed, Lawful}
use Rattle.core_model.specs.Ended.{EndedDone}
use Rattle.core_model.proofs.CodedSteps.{point_valid, found_fits, acts_fit, step_coded}
use Rattle.core_model.proofs.InRange.{counts_fit, rows_fit, shape_fits}
use Rattle.core_model.proofs.Ends.{idle_groups, ended_done}
use Rattle.core_model.proofs.ReadValues.{own_unnamed}
use Rattle.lane_rule.specs.declared.view.View.{View}
use Rattle.lane_rule.specs.Rule.{caller_of}
use Rattle.lane_rule.specs.Goes.{Ready, Knows}

module _ (key : Shape) (s : State) (L : Lawful (lane_sizes key) s) (R : IsCoded key s) (c : ℕ) where
  abbrev z : LaneSizes
  z = lane_sizes key

  pub ready : Ready key c (s.callers c).point
  ready = let most = rows_within key in record {
    word = point_valid key s L R c;
    rows = rows_fit z s L (shape_fits key) (omega arith) c;
    counts = counts_fit z s L (shape_fits key) c;
    fits = acts_fit key s L R c;
  }

  module _ (t : Point) (is : (s.callers c).point ≡ t) where
    pub found_at : MayHold key (target c t) (read s.memory (target c t))
    found_at = subst (λ (u : Point). MayHold key (target c u) (read s.memory (target c u))) is (found_fits key s L R c)

    pub coded_at : IsCoded key (step_at (lane_sizes key) s c t)
    unfolding next
    coded_at = subst (λ (u : Point). IsCoded key (step_at (lane_sizes key) s c u)) is (step_coded key s L R c)

  -- its scan for its rows finds nothing in its own hazard word
  pub own_is_free : (a : Closing) → (s.callers c).point ≡ point.Close a (LoadHazard c) → hazard_in (read s.memory (target c (s.callers c).point)) ≡ None
  own_is_free a is = ap (λ (t : Point). hazard_in (read s.memory (target c t))) is ∙ own_unnamed z s L c a is

-- the history grows at its end
pub grew : (b : Bool) (h : List Group) (g : Group) → history_after b h g ≡ h ++ cond b (g ∷ []) []
grew true h g = refl
grew false h g = sym (append-nil h)

-- an ended command, as its caller saw the lane
seen_ended : (s : State) (z : LaneSizes) (c : ℕ) → EndedDone s c → EndedDone record { memory = (opening z).memory; history = s.history; callers = λ _. s.callers c } c
seen_ended s z c e = record {
  earlier = e.earlier;
  ops = e.ops;
  own_groups = e.own_groups;
  stands = e.stands;
  once = e.once;
  end = e.end;
  ended = e.ended;
  after_start = e.after_start;
  before_end = e.before_end;
}

-- what the caller of a view knows that has seen the history
pub knows : (key : Shape) (s : State) → Lawful (lane_sizes key) s → (w : View) → w.shape ≡ key → w.seen ≡ s.history → s.callers w.caller ≡ caller_of w.kept → Knows w
knows key s L w shape seen shown = record {
  proper = subst (λ (y : Shape × List Group). IsProper y.0.callers y.1) (λ i. (sym shape i, sym seen i)) L.history.proper;
  never_shut = subst NeverShut (sym seen) L.history.never_shut;
  own = λ idle. ap (λ (h : List Group). mine h w.caller) seen ∙ (idle_groups (lane_sizes key) s L w.caller (ap (λ (k : Caller). k.point) shown ∙ idle) ∙ ap (λ (k : Caller). k.mine) shown);
  allowed = subst (λ (y : Shape × Caller). Allowed (lane_sizes y.0) y.1.mine y.1.ops) (λ i. (sym shape i, shown i)) (L.callers w.caller).allowed;
  done = λ idle is. subst (λ (y : Shape × List Group × Caller). EndedDone record { memory = (opening (lane_sizes y.0)).memory; history = y.1; callers = λ _. y.2 } w.caller) (λ i. (sym shape i, sym seen i, shown i))
      (seen_ended s (lane_sizes key) w.caller (ended_done (lane_sizes key) s L w.caller (ap (λ (k : Caller). k.point) shown ∙ idle) (ap (λ (k : Caller). k.outcome) shown ∙ is)));
}
