-- An ended command is applied: its answers are the replay's, by what its caller has seen.
use Rattle.std.proofs.Common.{◌≡◌, ℕ, ◌≤◌, Option, Bool, true, false, List, [], ◌∷◌, ◌++◌, length, sym, refl, ap, ◌∙◌, subst, arith}
use Rattle.atomic_table.specs.declared.shared.Seat.{Seat}
use Rattle.bq_model.specs.declared.op.Op.{Op}
use Rattle.bq_model.specs.declared.op.Answer.{Answer}
use Rattle.bq_model.specs.declared.group.Group.{Group}
use Rattle.bq_model.specs.Replay.{answers_from}
use Rattle.bq_model.specs.History.{last_queue}
use Rattle.core_model.specs.Kept.{Stands, numbered}
use Rattle.core_model.specs.Ended.{EndedDone}
use Rattle.lane_rule.specs.declared.view.View.{View}
use Rattle.lane_rule.specs.Goes.{seen_by}
use Rattle.lane_steps.specs.LaneSizes.{lane_sizes}
use Rattle.core_model.specs.Lawful.{Allowed}
use Rattle.atomic_table.specs.Seated.{TableId}
use Rattle.bq_model.specs.declared.shape.Shape.{Shape}
use Rattle.lane_steps.specs.declared.point.Point.{Point}
use Rattle.lane_steps.specs.declared.point.Closing.{Closing}
use Rattle.lane_steps.specs.declared.point.Closing.TheVariants.{Plain, Batch, Full}
use Rattle.lane_steps.specs.Close.{is_done}
use Rattle.lane_steps.specs.Answers.{closing_answers}
use Rattle.lane_course.specs.declared.next.Next.{Next}
use Rattle.lane_course.specs.declared.next.Next.TheVariants.{Goes, Ends}
use Rattle.lane_course.specs.declared.scratch.Scratch.{Scratch}
use Rattle.lane_course.specs.Next.{told}
use Rattle.lane_course.specs.Running.{Running, GoesTo, HasEnded, EndsTo, EndsSo, Ended, IsNext, group_of, begun_seat}
use Rattle.lane_course.proofs.Continues.{ends_then}
use Rattle.bq_lane.specs.Applied.{Rested, Applied, Called}
use Rattle.bq_lane.proofs.Refusals.{at_moment}

module _ {A : Type 0} where
  last_same : (xs ys : List A) (x y : A) → xs ++ x ∷ [] ≡ ys ++ y ∷ [] → x ≡ y
  last_same [] [] x y e = cc e
  last_same [] (b ∷ ys) x y e = absurd (none ys (tail e)) where
    tail : x ∷ [] ≡ b ∷ (ys ++ y ∷ []) → [] ≡ ys ++ y ∷ []
    tail z = cc z

    none : (zs : List A) → [] ≡ zs ++ y ∷ [] → ⊥
    none [] z = cc z
    none (c ∷ zs) z = cc z
  last_same (a ∷ xs) [] x y e = absurd (none xs (tail e)) where
    tail : a ∷ (xs ++ x ∷ []) ≡ y ∷ [] → xs ++ x ∷ [] ≡ []
    tail z = cc z

    none : (zs : List A) → zs ++ x ∷ [] ≡ [] → ⊥
    none [] z = cc z
    none (c ∷ zs) z = cc z
  last_same (a ∷ xs) (b ∷ ys) x y e = last_same xs ys x y (tail e) where
    tail : a ∷ (xs ++ x ∷ []) ≡ b ∷ (ys ++ y ∷ []) → xs ++ x ∷ [] ≡ ys ++ y ∷ []
    tail z = cc z

-- a group that is another one, where it stands
stands_as : (h : List Group) (g g' : Group) (xs ys : List Answer) → g ≡ g' → xs ≡ ys → (s : Stands h g xs) → (t : Stands h g' ys) × (length t.before ≡ length s.before)
stands_as h g g' xs ys e f s = (record { before = s.before; behind = s.behind; splits = s.splits ∙ ap (λ (y : Group). (s.before ++ y ∷ []) ++ s.behind) e; right = sym f ∙ (s.right ∙ ap (λ (y : Group). answers_from (last_queue s.before) y.ops) e) }, refl)

module _ (p q : Seat ℕ View) (n : ℕ) (ops : List Op) (xs : List Answer) (a : Scratch) (less : length p.me.0.seen ≤ n) where
  -- the caller has rested since its command began
  rested : HasEnded (begun_seat p n ops) a q → Rested p a q
  rested e = record {
    same = record { table = e.same.table; id = e.same.id; slots = e.same.slots; caller = e.same.caller; shape = e.same.shape; later = e.same.later };
    alone = e.alone;
    heard = e.heard;
    idle = e.idle;
    proper = e.knows.proper;
    never_shut = e.knows.never_shut;
    own = e.knows.own e.idle;
    allowed = subst (Allowed (lane_sizes q.me.0.shape) q.me.0.kept.mine) e.none_left e.knows.allowed;
    agrees = e.agrees;
    few = e.few;
    apart = e.apart;
  }

  module _ (e : EndsTo (begun_seat p n ops) ops xs a q) where
    done : EndedDone (seen_by q.me.0) q.me.0.caller
    done = e.ended.knows.done e.ended.idle e.outcome

    -- the group that ended is the one that was made
    its_group : numbered q.me.0.caller done.earlier done.ops ≡ group_of p.me.0 ops
    its_group = last_same done.earlier p.me.0.kept.mine (numbered q.me.0.caller done.earlier done.ops) (group_of p.me.0 ops) (sym done.own_groups ∙ (e.ended.knows.own e.ended.idle ∙ e.mine))

    there : (t : Stands q.me.0.seen (group_of p.me.0 ops) xs) × (length t.before ≡ length done.stands.before)
    there = stands_as q.me.0.seen (numbered q.me.0.caller done.earlier done.ops) (group_of p.me.0 ops) q.me.0.kept.answers xs its_group e.answers done.stands

    applied : Applied p ops xs a q
    applied = record {
      rested = rested e.ended;
      grown = e.mine;
      stands = there.0;
      placed = let at = there.1 in let since = done.after_start in let started : q.me.0.kept.started_at ≡ n = e.started in omega (arith, at, since, started, less);
    }

  pub called : (b : Bool) → Ended (begun_seat p n ops) ops xs a q b → Called p ops xs a q b
  called true e = applied e
  called false e = let full = at_moment p.me.0.shape p.me.0.caller ops n p.me.0.seen q.me.0.seen e.0.ended.same.later less e.0.above in (record { rested = rested e.0.ended; same_groups = e.0.mine; some = full.0; passed = full.1 }, e.1)

pub goes_called : (p q r : Seat ℕ View) (n : ℕ) (ops : List Op) (xs : List Answer) (a : Scratch) (b : Bool) → length p.me.0.seen ≤ n → GoesTo (begun_seat p n ops) q → Ended q ops xs a r b → Called p ops xs a r b
goes_called p q r n ops xs a b less goes e = called p r n ops xs a less b (ends_then (begun_seat p n ops) q r ops a refl goes xs b (subst (λ (ys : List Op). Ended q ys xs a r b) (sym goes.ops) e))

pub its_ops : (p q : Seat ℕ View) (n : ℕ) (ops : List Op) → GoesTo (begun_seat p n ops) q → ops ≡ q.me.0.kept.ops
its_ops p q n ops goes = sym goes.ops

-- how a command has ended is how its call is answered
pub answered : (p q : Seat ℕ View) (ops : List Op) (xs : List Answer) (a : Scratch) (z : Closing) → EndsSo p ops a q z → xs ≡ closing_answers ops a.values.items z → Ended p ops xs a q (is_done z)
answered p q ops xs a (Plain y) e is = subst (λ (ys : List Answer). EndsTo p ops ys a q) (sym is) e
answered p q ops xs a (Batch m) e is = subst (λ (ys : List Answer). EndsTo p ops ys a q) (sym is) e
answered p q ops xs a Full e is = (e, is)

-- what comes next, as it was told
pub end_is : {e f : Option Closing} → e ≡ f → (t : Point) → told e t ≡ told f t
end_is is t = ap (λ (e : Option Closing). told e t) is

module _ (id : TableId) (key s : Shape) (c : ℕ) (a : Scratch) (p q : Seat ℕ View) (y : Next) (next : IsNext id key s c a p q y) where
  pub as_goes : (t : Point) → y ≡ Goes t → Running id key s c t a q × GoesTo p q
  as_goes t e = let y = subst (IsNext id key s c a p q) e next in (y.0, y.1)

  pub as_ends : (x : Closing) → y ≡ Ends x → EndsSo p p.me.0.kept.ops a q x
  as_ends x e = subst (IsNext id key s c a p q) e next
