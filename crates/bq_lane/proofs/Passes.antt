-- What a pass keeps, before and after a call.
use Rattle.std.proofs.Common.{◌≡◌, ◌↔◌, ℕ, ◌+◌, ◌<◌, ◌≤◌, List, [], ◌∷◌, length, map, refl, sym, ap, subst, ◌∙◌, arith, inl}
use Rattle.std.proofs.lemmas.List.{length-map}
use Rattle.atomic_table.specs.Table.{Me}
use Rattle.bq_model.specs.declared.op.Op.{Op}
use Rattle.bq_model.specs.declared.group.Group.{Group}
use Rattle.bq_model.specs.declared.shape.Shape.{Shape}
use Rattle.bq_model.specs.History.{operations}
use Rattle.bq_model.specs.Own.{mine}
use Rattle.bq_model.specs.Grows.{the_caller}
use Rattle.bq_model.specs.Rooms.{PassesAllowance}
use Rattle.lane_steps.specs.declared.point.Point.TheVariants.{Idle}
use Rattle.lane_rule.specs.declared.view.Held.{Held}
use Rattle.lane_rule.specs.declared.view.Kind.{Kind}
use Rattle.lane_rule.specs.declared.view.Kind.TheVariants.{Maker, Alone, Gathered, Spent}
use Rattle.lane_rule.specs.declared.view.View.{View}
use Rattle.lane_rule.specs.Seating.{held_as, Holds, Idles}
use Rattle.lane_course.specs.declared.scratch.Scratch.{Scratch}
use Rattle.bq_lane.specs.Pass.{callers_of, Counted, Rests}

-- a view of one caller alone has that one
pub one_alone : (v : View) → v.kind ≡ Alone → callers_of v ≡ v.caller ∷ []
one_alone v is = ap (λ (k : Kind). map (λ (h : Held). h.caller) (held_as k v)) is

module _ (me : Me ℕ View) (shape : Shape) (caller : ℕ) (batches : ℕ) (operated : ℕ) (hand : Scratch) (r : Rests me shape caller batches operated hand) (one : length (callers_of me.0) ≡ 1) where
  -- a seat of one caller is that of the one alone
  pub alone : me.0.kind ≡ Alone
  alone = by me.0.kind refl where
    by : (k : Kind) → me.0.kind ≡ k → me.0.kind ≡ Alone
    by Maker is = absurd (subst Idles is r.between_calls)
    by Alone is = is
    by Gathered is = let two = r.several is in let same = length-map me.0.gathered (λ (h : Held). h.caller) in let all : length (callers_of me.0) ≡ length (map (λ (h : Held). h.caller) me.0.gathered) = ap (λ (k : Kind). length (map (λ (h : Held). h.caller) (held_as k me.0))) is in absurd (omega arith)
    by Spent is = absurd (subst Idles is r.between_calls)

  -- what is known of it
  pub its : Counted shape me.0 caller batches operated hand
  its = r.alone alone

  pub one_is : callers_of me.0 ≡ me.0.caller ∷ []
  one_is = one_alone me.0 alone

  pub the_caller_is : me.0.caller ≡ the_caller (callers_of me.0)
  the_caller_is = sym (ap the_caller one_is)

  pub caller_is : caller ≡ the_caller (callers_of me.0)
  caller_is = its.caller_is ∙ the_caller_is

  pub known : caller < shape.callers
  known = subst (λ c. c < shape.callers) (sym its.caller_is) its.known

  holds_own : Holds me.0.caller me.0.kept (held_as me.0.kind me.0)
  holds_own = subst (λ (k : Kind). Holds me.0.caller me.0.kept (held_as k me.0)) (sym alone) (inl (refl, refl))

  pub idle : me.0.kept.point ≡ Idle
  idle = (r.own me.0.caller me.0.kept holds_own).0

  pub own : mine me.0.seen me.0.caller ≡ me.0.kept.mine
  own = (r.own me.0.caller me.0.kept holds_own).1

  -- its groups are those that the history has of it
  pub own_there : me.0.kept.mine ≡ mine me.0.seen (the_caller (callers_of me.0))
  own_there = sym own ∙ ap (mine me.0.seen) the_caller_is

  pub made_is : operated ≡ length (operations (mine me.0.seen (the_caller (callers_of me.0))))
  made_is = its.operated_is ∙ ap (λ (gs : List Group). length (operations gs)) own_there

  pub within : operated ≤ shape.allowance
  within = let w = its.allowed in let e = its.operated_is in omega arith

  pub spent_is : (ops : List Op) → (shape.allowance < operated + length ops) ↔ PassesAllowance shape me.0.seen (the_caller (callers_of me.0)) ops
  spent_is ops = (subst (λ n. shape.allowance < n + length ops) made_is, subst (λ n. shape.allowance < n + length ops) (sym made_is))
