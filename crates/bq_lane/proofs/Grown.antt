-- A command that was applied let the history grow by its group.
use Rattle.std.proofs.Common.{◌≡◌, ℕ, ◌≤◌, List, [], ◌∷◌, ◌++◌, length, sym, refl, ap, ◌∙◌, append_assoc, arith}
use Rattle.atomic_table.specs.declared.shared.Seat.{Seat}
use Rattle.bq_model.specs.declared.op.Op.{Op}
use Rattle.bq_model.specs.declared.op.Answer.{Answer}
use Rattle.bq_model.specs.declared.group.Group.{Group}
use Rattle.bq_model.specs.History.{last_queue}
use Rattle.bq_model.specs.Own.{mine, next_group}
use Rattle.bq_model.specs.Grows.{Grew}
use Rattle.bq_model.specs.Replay.{answers_from}
use Rattle.lane_rule.specs.declared.view.View.{View}
use Rattle.lane_course.specs.Running.{group_of}
use Rattle.lane_course.specs.declared.scratch.Scratch.{Scratch}
use Rattle.bq_lane.specs.Applied.{Applied}

module _ {A : Type 0} where
  first_same : (x y : A) (xs ys : List A) → x ∷ xs ≡ y ∷ ys → x ≡ y
  first_same x y xs ys e = cc e

  rest_same : (x y : A) (xs ys : List A) → x ∷ xs ≡ y ∷ ys → xs ≡ ys
  rest_same x y xs ys e = cc e

  -- of two beginnings of one list the longer one goes on from the shorter
  pub goes_on_from : (a b r s : List A) → a ++ r ≡ b ++ s → length a ≤ length b → (m : List A) × (b ≡ a ++ m)
  goes_on_from [] b r s e l = (b, refl)
  goes_on_from (x ∷ a) [] r s e l = absurd (omega (arith, l))
  goes_on_from (x ∷ a) (y ∷ b) r s e l = let t = goes_on_from a b r s (rest_same x y (a ++ r) (b ++ s) e) (omega (arith, l)) in
      (t.0, λ i. sym (first_same x y (a ++ r) (b ++ s) e) i ∷ t.1 i)

pub grew : (p q : Seat ℕ View) (ops : List Op) (xs : List Answer) (at : Scratch) → mine p.me.0.seen p.me.0.caller ≡ p.me.0.kept.mine → Applied p ops xs at q → Grew p.me.0.caller ops xs p.me.0.seen q.me.0.seen
grew p q ops xs at own a = record {
  between = between.0;
  after = a.stands.behind;
  grown = a.stands.splits ∙ (append_assoc a.stands.before (group_of p.me.0 ops ∷ []) a.stands.behind ∙ (λ i. between.1 i ++ its_group i ∷ a.stands.behind));
  own = ap (mine q.me.0.seen) (sym a.rested.same.caller) ∙ (a.rested.own ∙ (a.grown ∙ (λ i. sym own i ++ its_group i ∷ [])));
  answered = a.stands.right ∙ ap (λ (h : List Group). answers_from (last_queue h) ops) between.1;
} where
  its_group : group_of p.me.0 ops ≡ next_group p.me.0.seen p.me.0.caller ops
  its_group = ap (λ (gs : List Group). record { caller = p.me.0.caller; batch = length gs; ops = ops }) (sym own)

  between : (m : List Group) × (a.stands.before ≡ p.me.0.seen ++ m)
  between = goes_on_from p.me.0.seen a.stands.before a.rested.same.later.0 (group_of p.me.0 ops ∷ a.stands.behind)
      (sym a.rested.same.later.1 ∙ (a.stands.splits ∙ append_assoc a.stands.before (group_of p.me.0 ops ∷ []) a.stands.behind)) a.placed
