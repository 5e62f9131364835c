-- A caller that has done something is one of the lane's.
use Rattle.std.proofs.Common.{◌≡◌, ◌≢◌, eqb, ℕ, ◌*◌, ◌<◌, Bool, true, false, cond, List, [], ◌∷◌, ◌++◌, length, refl, ap, ◌∙◌, subst, arith}
use Rattle.std.proofs.lemmas.Bool.{eqb-true}
use Rattle.std.proofs.lemmas.List.{length-append}
use Rattle.std.proofs.lemmas.List.Elements.{recursion_from_All}
use Rattle.std.specs.List.{AllByRecursion}
use Rattle.bq_model.specs.declared.group.Group.{Group}
use Rattle.bq_model.specs.Own.{mine}
use Rattle.lane_steps.specs.declared.point.Closing.{Closing}
use Rattle.lane_steps.specs.declared.point.Closing.TheVariants.{Plain, Batch, Full}
use Rattle.lane_steps.specs.LaneSizes.{LaneSizes}
use Rattle.lane_steps.specs.declared.point.AnswerPoint.{AnswerPoint}
use Rattle.lane_steps.specs.declared.point.AnswerPoint.TheVariants as answer
use Rattle.lane_steps.specs.declared.point.Back.{Back}
use Rattle.lane_steps.specs.declared.point.Back.TheVariants as back
use Rattle.lane_steps.specs.declared.point.ClosePoint.{ClosePoint}
use Rattle.lane_steps.specs.declared.point.ClosePoint.TheVariants as close
use Rattle.lane_steps.specs.declared.point.EnqueuePoint.{EnqueuePoint}
use Rattle.lane_steps.specs.declared.point.EnqueuePoint.TheVariants as enq
use Rattle.lane_steps.specs.declared.point.Guarding.{Guarding}
use Rattle.lane_steps.specs.declared.point.Guarding.TheVariants as guard
use Rattle.lane_steps.specs.declared.point.Help.{Help}
use Rattle.lane_steps.specs.declared.point.Item.{Item}
use Rattle.lane_steps.specs.declared.point.Point.{Point}
use Rattle.lane_steps.specs.declared.point.Point.TheVariants as point
use Rattle.lane_steps.specs.declared.point.Taking.{Taking}
use Rattle.lane_steps.specs.declared.point.Taking.TheVariants as taking_for
use Rattle.lane_steps.specs.Answer as answering
use Rattle.lane_steps.specs.Close as closing
use Rattle.lane_steps.specs.Enqueue as enqueue
use Rattle.lane_steps.specs.Guard as guarding
use Rattle.lane_steps.specs.Take as taking
use Rattle.lane_steps.specs.Help.{back_facts}
use Rattle.lane_steps.specs.State.{Caller, Command, command, State, own_group}
use Rattle.lane_steps.specs.Close.{is_done, answer_known}
use Rattle.core_model.specs.Facts.{Each, AtPoint, IsOwn}
use Rattle.core_model.specs.Lawful.{Lawful}
use Rattle.core_model.proofs.Rely.{world, fourth}
use Rattle.core_model.proofs.Stocks.{owner_inside}

-- a caller with a group in a proper history is one of its callers
mine_known : (callers c : ℕ) (h : List Group) → AllByRecursion (λ (g : Group). g.caller < callers) h → 0 < length (mine h c) → c < callers
mine_known callers c [] all some = absurd (omega arith)
mine_known callers c (g ∷ h) all some = by (eqb g.caller c) refl (mine_known callers c h all.1) some where
  by : (b : Bool) → eqb g.caller c ≡ b → (0 < length (mine h c) → c < callers) → 0 < length (cond b (g ∷ mine h c) (mine h c)) → c < callers
  by true same rest some = subst (λ (d : ℕ). d < callers) (eqb-true g.caller c same) all.0
  by false apart rest some = rest some

module _ (z : LaneSizes) (s : State) (L : Lawful z s) (c : ℕ) where
  -- so is one whose command has taken effect
  pub linearized_known : L.ghost.linearized c ≡ true → c < z.callers
  linearized_known on = mine_known z.callers c s.history (recursion_from_All (λ (g : Group). g.caller < z.callers) s.history L.history.proper.known)
      (let made = ap length ((L.callers c).own_groups ∙ ap (λ (b : Bool). (s.callers c).mine ++ cond b (own_group c (s.callers c) ∷ []) []) on) in let total = length-append (s.callers c).mine (own_group c (s.callers c) ∷ []) in omega arith)

  -- and one whose call comes to its end
  pub ending_known : (a : Closing) (k : Caller) → L.ghost.linearized c ≡ is_done a → Each z (world s L.ghost) c (answer_known c k a) → c < z.callers
  ending_known (Plain x) k on f = linearized_known on
  ending_known (Batch m) k on f = linearized_known on
  ending_known Full k on f = f.0

  -- and one that helps, makes sure of something, or runs a command at all
  pub back_known : (h : Help) (m : Command) (b : Back) → (IsOwn b → h.ann < z.callers * z.callers) → Each z (world s L.ghost) c (back_facts c m h.ann b) → c < z.callers
  back_known h m back.Own own f = owner_inside z h.ann c (own tt) f.0.owner
  back_known h m (back.Enqueue i) own f = f.1.0.1
  back_known h m back.Dequeue own f = f.1.0.1
  back_known h m (back.Batch d) own f = f.1.0.known
  back_known h m (back.Many d) own f = f.1.1.0.known

  take_known : (m : Command) (t : Taking) → Each z (world s L.ghost) c (taking.command_knows m t) → c < z.callers
  take_known m (taking_for.Enqueue v) f = f.0.1
  take_known m (taking_for.Batch n v) f = f.0.known
  take_known m (taking_for.Stopper n) f = f.0.known

  guard_known : (k : Caller) (t : Guarding) → Each z (world s L.ghost) c (guarding.call_knows c k t) → c < z.callers
  guard_known k (guard.Enqueue x p) f = f.1.0.1
  guard_known k (guard.Dequeue p) f = f.1.0.1
  guard_known k (guard.Many d) f = f.1.0.known
  guard_known k (guard.ManyTail d p) f = f.1.0.known
  guard_known k (guard.Help h) f = back_known h (command k) h.back (λ own. (f.0 own).0.inside) f.1
  guard_known k (guard.HelpTail h p) f = back_known h (command k) h.back (λ _. f.0.inside) f.1

  answer_owner : (k : Caller) (p : AnswerPoint) → Each z (world s L.ghost) c (answering.knows c k p) → c < z.callers
  answer_owner k (answer.LoadOldTail h) f = owner_inside z h.ann c f.1.0.inside (fourth f).owner
  answer_owner k (answer.LoadLink b r l) f = linearized_known f.0.0
  answer_owner k (answer.LoadValue b r l) f = linearized_known f.0.0

  close_known : (k : Caller) (a : Closing) (p : ClosePoint) → Each z (world s L.ghost) c (closing.call_knows c k a p) → c < z.callers
  close_known k a (close.MarkRow q read passed stopped) f = ending_known a k f.0.0 f.1
  close_known k a (close.MarkLoose r) f = ending_known a k f.0.0 f.1
  close_known k a close.ClearNode f = ending_known a k f.0.0 f.1
  close_known k a close.ClearAnn f = ending_known a k f.0.0 f.1
  close_known k a (close.LoadHazard d) f = ending_known a k f.0.0 f.1
  close_known k a (close.MarkFree r) f = ending_known a k f.0.0 f.1

  enqueue_known : (k : Caller) (x : Item) (p : EnqueuePoint) → Each z (world s L.ghost) c (enqueue.call_knows c k x p) → c < z.callers
  enqueue_known k x enq.StoreValue f = f.1.0.1
  enqueue_known k x (enq.MoveTail p n) f = f.1.0.1
  enqueue_known k x _ f = f.1.0.1

  pub caller_known : (k : Caller) (t : Point) → t ≢ point.Idle → AtPoint z (world s L.ghost) c k t → c < z.callers
  caller_known k point.Idle runs f = absurd (runs refl)
  caller_known k (point.Enqueue x p) runs f = enqueue_known k x p f.call
  caller_known k (point.Dequeue p) runs f = f.call.1.0.1
  caller_known k (point.Fill n p) runs f = f.call.0.known
  caller_known k (point.Batch d p) runs f = f.call.1.0.known
  caller_known k (point.Many d p) runs f = f.call.1.0.known
  caller_known k (point.Help h p) runs f = back_known h (command k) h.back (λ _. f.call.0.inside) f.call.1
  caller_known k (point.Answer p) runs f = answer_owner k p f.here
  caller_known k (point.Take t p) runs f = take_known (command k) t f.call.1
  caller_known k (point.Guard t p) runs f = guard_known k t f.call
  caller_known k (point.Close a p) runs f = close_known k a p f.call
