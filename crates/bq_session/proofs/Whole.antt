-- A session's parts agree still after a call on the lane.
use Rattle.std.proofs.Common.{◌≡◌, ◌≢◌, All, ℕ, ◌≤◌, List, [], length, sym, ap, subst, ◌∙◌, arith}
use Rattle.bq_model.specs.declared.op.Op.{Op}
use Rattle.bq_model.specs.declared.op.Answer.{Answer}
use Rattle.bq_model.specs.declared.group.Group.{Group}
use Rattle.bq_model.specs.declared.op.Answer.TheVariants.{Refused}
use Rattle.bq_model.specs.Bounded.{BoundedList}
use Rattle.bq_model.specs.NoShut.{NoShut}
use Rattle.bq_model.specs.Grows.{the_caller, Grew, SawMore}
use Rattle.bq_session.specs.Futures.{LiveFutures, settled, HavePlaces}
use Rattle.bq_session.specs.Outcome.{made_by}
use Rattle.bq_session.specs.Whole.{IsWhole}
use Rattle.bq_session.proofs.Kept.{KeepsAnswers-saw_more, KeepsAnswers-settled}

pub IsWhole-refused : (callers callers' : List ℕ) (longest longest' : ℕ) (seen seen' : List Group) (pending pending' : BoundedList Op) (answers answers' : BoundedList Answer) (futures futures' : LiveFutures)
    → IsWhole callers longest seen pending answers futures → callers' ≡ callers → longest' ≡ longest → SawMore futures.caller seen seen'
    → pending'.items ≡ pending.items → pending'.capacity ≡ pending.capacity → answers'.capacity ≡ answers.capacity → futures' ≡ futures
    → IsWhole callers' longest' seen' pending' answers' futures'
IsWhole-refused callers callers' longest longest' seen seen' pending pending' answers answers' futures futures' w of_callers of_longest more items room room' same =
    let Whole : LiveFutures → Type 0 = λ f. IsWhole callers' longest' seen' pending' answers' f in
    subst Whole (sym same) (record {
      one_caller = ap length of_callers ∙ w.one_caller;
      caller = w.caller ∙ ap the_caller (sym of_callers);
      not_too_long = (let h = w.not_too_long in omega arith);
      room = room ∙ w.room;
      room_for_answers = room' ∙ w.room_for_answers;
      no_shut = subst NoShut (sym items) w.no_shut;
      as_many = w.as_many ∙ ap length (sym items);
      fits = (let h = w.fits in let e = ap length items in omega arith);
      keeps = KeepsAnswers-saw_more seen seen' futures more w.keeps;
    })

pub IsWhole-made : (callers callers' : List ℕ) (longest longest' : ℕ) (seen seen' : List Group) (pending pending' : BoundedList Op) (answers answers' : BoundedList Answer) (futures futures' : LiveFutures)
    (ops : List Op) (first : ℕ)
    → IsWhole callers longest seen pending answers futures → callers' ≡ callers → longest' ≡ longest → Grew futures.caller ops answers'.items seen seen' → All (λ answer. answer ≢ Refused) answers'.items → HavePlaces futures.waiting futures.live
    → futures.waiting ≤ length ops → first ≡ made_by seen futures.caller → pending'.items ≡ [] → pending'.capacity ≡ pending.capacity → answers'.capacity ≡ answers.capacity
    → futures' ≡ settled answers'.items first futures → IsWhole callers' longest' seen' pending' answers' futures'
IsWhole-made callers callers' longest longest' seen seen' pending pending' answers answers' futures futures' ops first w of_callers of_longest grew all places enough from empty room room' settles =
    let Whole : LiveFutures → Type 0 = λ f. IsWhole callers' longest' seen' pending' answers' f in
    subst Whole (sym (settles ∙ ap (λ (n : ℕ). settled answers'.items n futures) from)) (record {
      one_caller = ap length of_callers ∙ w.one_caller;
      caller = w.caller ∙ ap the_caller (sym of_callers);
      not_too_long = (let h = w.not_too_long in omega arith);
      room = room ∙ w.room;
      room_for_answers = room' ∙ w.room_for_answers;
      no_shut = subst NoShut (sym empty) tt;
      as_many = ap length (sym empty);
      fits = (let e = ap length empty in omega arith);
      keeps = KeepsAnswers-settled ops answers'.items seen seen' futures grew all places enough w.keeps;
    })
