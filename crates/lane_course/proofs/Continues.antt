-- A command that has gone on, and then goes on or ends.
use Rattle.std.proofs.Common.{◌≡◌, ℕ, subst, Bool, true, false, List, [], ◌∷◌, ◌++◌, length, refl, sym, ap, ◌∙◌, append_assoc}
use Rattle.atomic_table.specs.declared.shared.Seat.{Seat}
use Rattle.std.proofs.lemmas.List.{append-nil}
use Rattle.bq_model.specs.declared.op.Op.{Op}
use Rattle.bq_model.specs.declared.op.Answer.{Answer}
use Rattle.bq_model.specs.declared.group.Group.{Group}
use Rattle.lane_rule.specs.declared.view.View.{View}
use Rattle.bq_model.specs.declared.shape.Shape.{Shape}
use Rattle.lane_room.specs.Search.{IsAbove}
use Rattle.lane_rule.specs.Rule.{Begins}
use Rattle.lane_course.specs.declared.scratch.Scratch.{Scratch}
use Rattle.lane_course.specs.Running.{Same, GoesTo, HasEnded, EndsTo, EndsFull, Ended}

begins_on : (a b c : List Group) → Begins a b → Begins b c → Begins a c
begins_on a b c x y = (x.0 ++ y.0, y.1 ∙ (ap (λ (h : List Group). h ++ y.0) x.1 ∙ append_assoc a x.0 y.0))

module _ (p q r : Seat ℕ View) where
  pub same_on : Same p q → Same q r → Same p r
  same_on a b = record {
    table = b.table ∙ a.table;
    id = b.id ∙ a.id;
    slots = b.slots ∙ a.slots;
    caller = b.caller ∙ a.caller;
    shape = b.shape ∙ a.shape;
    later = begins_on p.me.0.seen q.me.0.seen r.me.0.seen a.later b.later;
  }

  pub goes_then : GoesTo p q → GoesTo q r → GoesTo p r
  goes_then a b = record { same = same_on a.same b.same; ops = b.ops ∙ a.ops; mine = b.mine ∙ a.mine; started = b.started ∙ a.started }

  -- what has ended since q has ended since p
  module _ (ops : List Op) (at : Scratch) (is : ops ≡ p.me.0.kept.ops) (a : GoesTo p q) where
    ended_then : HasEnded q at r → HasEnded p at r
    ended_then b = record { same = same_on a.same b.same; alone = b.alone; heard = b.heard; idle = b.idle; none_left = b.none_left; agrees = b.agrees; few = b.few; apart = b.apart; knows = b.knows }

    pub done_then : (xs : List Answer) → EndsTo q q.me.0.kept.ops xs at r → EndsTo p ops xs at r
    done_then xs b = record {
      ended = ended_then b.ended;
      mine = b.mine ∙ (λ i. a.mine i ++ record { caller = a.same.caller i; batch = length (a.mine i); ops = (a.ops ∙ sym is) i } ∷ []);
      started = b.started ∙ a.started;
      answers = b.answers;
      outcome = b.outcome;
    }

    pub full_then : EndsFull q q.me.0.kept.ops at r → EndsFull p ops at r
    full_then b = record { ended = ended_then b.ended; mine = b.mine ∙ a.mine; above = subst (λ (y : Shape × ℕ × List Op × ℕ). IsAbove y.0 r.me.0.seen y.1 y.2 y.3) (λ i. (a.same.shape i, a.same.caller i, (a.ops ∙ sym is) i, a.started i)) b.above }

    pub ends_then : (xs : List Answer) (b : Bool) → Ended q q.me.0.kept.ops xs at r b → Ended p ops xs at r b
    ends_then xs true e = done_then xs e
    ends_then xs false e = (full_then e.0, e.1)

pub goes_here : (p : Seat ℕ View) → GoesTo p p
goes_here p = record { same = record { table = refl; id = refl; slots = refl; caller = refl; shape = refl; later = ([], sym (append-nil p.me.0.seen)) }; ops = refl; mine = refl; started = refl }
