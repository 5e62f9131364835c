-- A running command of a seat, and what its next step makes of it.
use Rattle.std.specs.Prelude.{◌≡◌, ℕ, ◌<◌, ◌≤◌, ◌++◌, Bool, true, false, List, [], ◌∷◌, length, Some}
use Rattle.atomic_table.specs.Seated.{TableId}
use Rattle.atomic_table.specs.declared.shared.Seat.{Seat}
use Rattle.bq_model.specs.declared.op.Op.{Op}
use Rattle.bq_model.specs.declared.op.Answer.{Answer}
use Rattle.bq_model.specs.declared.group.Group.{Group}
use Rattle.bq_model.specs.declared.shape.Shape.{Shape}
use Rattle.bq_model.specs.Values.{enqueued}
use Rattle.lane_steps.specs.Answers.{closing_answers}
use Rattle.lane_steps.specs.Functions.{Distinct}
use Rattle.lane_steps.specs.declared.point.Closing.{Closing}
use Rattle.lane_steps.specs.declared.point.Closing.TheVariants.{Plain, Batch, Full}
use Rattle.lane_steps.specs.declared.point.Point.{Point}
use Rattle.lane_steps.specs.declared.point.Point.TheVariants as point
use Rattle.lane_steps.specs.declared.point.CallEnd.TheVariants.{Done}
use Rattle.lane_rule.specs.declared.view.Kept.{Kept}
use Rattle.lane_rule.specs.declared.view.View.{View}
use Rattle.lane_rule.specs.declared.view.Kind.TheVariants.{Alone}
use Rattle.lane_rule.specs.Rule.{caller_of, Begins}
use Rattle.core_model.specs.Few.{ListsFit, HasFew}
use Rattle.lane_rule.specs.Goes.{Knows, left_of}
use Rattle.lane_room.specs.Search.{IsAbove}
use Rattle.lane_rule.specs.Begun.{begun}
use Rattle.lane_rule.specs.Plays.{IsAt}
use Rattle.lane_course.specs.declared.next.Next.{Next}
use Rattle.lane_course.specs.declared.next.Next.TheVariants.{Goes, Ends}
use Rattle.lane_course.specs.declared.scratch.Scratch.{Scratch}
use Rattle.lane_course.specs.Scratch.{keeping, Reserves}

-- what is at hand is what the view keeps
abbrev pub Agrees : Kept → Scratch → Type 0
Agrees k a = caller_of k ≡ keeping (caller_of k) a

-- The seat's command is at this point, and what is at hand is its. There is room for what it adds to its lists.
pub record Running (id : TableId) (key s : Shape) (c : ℕ) (t : Point) (a : Scratch) (p : Seat ℕ View) : Type 0 where
  pub stands : IsAt id key s c t p
  pub known : c < s.callers
  pub enqueues : a.puts.items ≡ enqueued p.me.0.kept.ops
  pub agrees : Agrees p.me.0.kept a
  pub reserves : Reserves s a
  pub some : 0 < length p.me.0.kept.ops
  pub short : length p.me.0.kept.ops ≤ s.batch
  pub lists : ListsFit s.callers (caller_of p.me.0.kept)
  pub few : HasFew s c (caller_of p.me.0.kept)

-- the seat is still that of the caller, and has seen no less
pub record Same (p q : Seat ℕ View) : Type 0 where
  pub table : q.table_id ≡ p.table_id
  pub id : q.id ≡ p.id
  pub slots : q.me.1 ≡ p.me.1
  pub caller : q.me.0.caller ≡ p.me.0.caller
  pub shape : q.me.0.shape ≡ p.me.0.shape
  pub later : Begins p.me.0.seen q.me.0.seen

-- the command of p has gone on to q
pub record GoesTo (p q : Seat ℕ View) : Type 0 where
  pub same : Same p q
  pub ops : q.me.0.kept.ops ≡ p.me.0.kept.ops
  pub mine : q.me.0.kept.mine ≡ p.me.0.kept.mine
  pub started : q.me.0.kept.started_at ≡ p.me.0.kept.started_at

-- the group of these operations that the caller of p makes next
abbrev pub group_of : View → List Op → Group
group_of v ops = record { caller = v.caller; batch = length v.kept.mine; ops = ops }

-- the command of p has ended, and left this at hand
pub record HasEnded (p : Seat ℕ View) (a : Scratch) (q : Seat ℕ View) : Type 0 where
  pub same : Same p q
  pub alone : q.me.0.kind ≡ Alone
  pub heard : q.me.0.heard ≡ []
  pub idle : q.me.0.kept.point ≡ point.Idle
  pub none_left : q.me.0.kept.ops ≡ []
  pub agrees : Agrees q.me.0.kept a
  pub few : length q.me.0.kept.retired < q.me.0.shape.callers
  pub apart : Distinct q.me.0.kept.retired
  pub knows : Knows q.me.0

-- it was of these operations, and has ended with Done and these answers
pub record EndsTo (p : Seat ℕ View) (ops : List Op) (xs : List Answer) (a : Scratch) (q : Seat ℕ View) : Type 0 where
  pub ended : HasEnded p a q
  pub mine : q.me.0.kept.mine ≡ p.me.0.kept.mine ++ group_of p.me.0 ops ∷ []
  pub started : q.me.0.kept.started_at ≡ p.me.0.kept.started_at
  pub answers : q.me.0.kept.answers ≡ xs
  pub outcome : q.me.0.kept.outcome ≡ Some Done

-- or with Full
pub record EndsFull (p : Seat ℕ View) (ops : List Op) (a : Scratch) (q : Seat ℕ View) : Type 0 where
  pub ended : HasEnded p a q
  pub mine : q.me.0.kept.mine ≡ p.me.0.kept.mine
  pub above : IsAbove p.me.0.shape q.me.0.seen p.me.0.caller ops p.me.0.kept.started_at

abbrev pub EndsSo : Seat ℕ View → List Op → Scratch → Seat ℕ View → Closing → Type 0
EndsSo p ops a q (Plain x) = EndsTo p ops (closing_answers ops a.values.items (Plain x)) a q
EndsSo p ops a q (Batch m) = EndsTo p ops (closing_answers ops a.values.items (Batch m)) a q
EndsSo p ops a q Full = EndsFull p ops a q

-- it was done, with these answers, or not, with none
abbrev pub Ended : Seat ℕ View → List Op → List Answer → Scratch → Seat ℕ View → Bool → Type 0
Ended p ops xs a q true = EndsTo p ops xs a q
Ended p ops xs a q false = EndsFull p ops a q × (xs ≡ [])

-- what comes next of it: less is left where it goes on
abbrev pub IsNext : TableId → Shape → Shape → ℕ → Scratch → Seat ℕ View → Seat ℕ View → Next → Type 0
IsNext id key s c a p q (Goes t) = Running id key s c t a q × GoesTo p q × (left_of q.me.0 < left_of p.me.0)
IsNext id key s c a p q (Ends x) = EndsSo p p.me.0.kept.ops a q x

-- the seat as its command of these operations starts, when the history has n groups
abbrev pub begun_seat : Seat ℕ View → ℕ → List Op → Seat ℕ View
begun_seat p n ops = record p { me = (begun p.me.0 n ops, p.me.1) }
