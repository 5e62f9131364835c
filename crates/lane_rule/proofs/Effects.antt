-- What the word has after a step, by what the step does, and that what a store finds makes no difference.
use Rattle.std.proofs.Common.{◌≡◌, ◌≢◌, ℕ, Bool, true, false, refl, sym, ap, subst, ◌∙◌}
use Rattle.std.specs.Prelude.{bit_or}
use Rattle.bq_model.specs.declared.shape.Shape.{Shape}
use Rattle.word_rows.specs.declared.marks.Marks.{Marks}
use Rattle.word_rows.specs.declared.location.Location.TheVariants.{Mark}
use Rattle.word_rows.specs.declared.content.Content.TheVariants.{OfMark}
use Rattle.word_rows.specs.Contents.{coded, IsOfKind, MayHold}
use Rattle.word_rows.specs.Packing.{marks_word}
use Rattle.word_rows.specs.declared.location.Location.{Location}
use Rattle.word_rows.specs.declared.content.Content.{Content}
use Rattle.lane_steps.specs.declared.act.Act.{Act}
use Rattle.lane_steps.specs.declared.act.Act.TheVariants.{Load, Store, Exchange, Join}
use Rattle.lane_steps.specs.declared.point.Point.{Point}
use Rattle.lane_steps.specs.declared.point.Point.TheVariants as point
use Rattle.lane_steps.specs.declared.point.Item.{Item}
use Rattle.lane_steps.specs.declared.point.EnqueuePoint.{EnqueuePoint}
use Rattle.lane_steps.specs.declared.point.EnqueuePoint.TheVariants as enq
use Rattle.lane_steps.specs.declared.point.DequeuePoint.{DequeuePoint}
use Rattle.lane_steps.specs.declared.point.DequeuePoint.TheVariants as deq
use Rattle.lane_steps.specs.declared.point.Notice.{Notice}
use Rattle.lane_steps.specs.declared.point.FillPoint.{FillPoint}
use Rattle.lane_steps.specs.declared.point.FillPoint.TheVariants as fill
use Rattle.lane_steps.specs.declared.point.Draft.{Draft}
use Rattle.lane_steps.specs.declared.point.Plan.{Plan}
use Rattle.lane_steps.specs.declared.point.BatchPoint.{BatchPoint}
use Rattle.lane_steps.specs.declared.point.BatchPoint.TheVariants as batch
use Rattle.lane_steps.specs.declared.point.ManyPoint.{ManyPoint}
use Rattle.lane_steps.specs.declared.point.ManyPoint.TheVariants as many
use Rattle.lane_steps.specs.Many as dequeues
use Rattle.lane_steps.specs.declared.point.Help.{Help}
use Rattle.lane_steps.specs.declared.point.HelpPoint.{HelpPoint}
use Rattle.lane_steps.specs.declared.point.HelpPoint.TheVariants as help
use Rattle.lane_steps.specs.declared.point.AnswerPoint.{AnswerPoint}
use Rattle.lane_steps.specs.declared.point.AnswerPoint.TheVariants as answer
use Rattle.lane_steps.specs.declared.point.Taking.{Taking}
use Rattle.lane_steps.specs.declared.point.TakePoint.{TakePoint}
use Rattle.lane_steps.specs.declared.point.TakePoint.TheVariants as take
use Rattle.lane_steps.specs.declared.point.Guarding.{Guarding}
use Rattle.lane_steps.specs.declared.point.GuardPoint.{GuardPoint}
use Rattle.lane_steps.specs.declared.point.GuardPoint.TheVariants as guard
use Rattle.lane_steps.specs.declared.point.Closing.{Closing}
use Rattle.lane_steps.specs.declared.point.ClosePoint.{ClosePoint}
use Rattle.lane_steps.specs.declared.point.ClosePoint.TheVariants as close
use Rattle.lane_steps.specs.Act.{location, effect, with_marks}
use Rattle.lane_steps.specs.State.{mark_in, marks}
use Rattle.lane_steps.specs.Step.{act, target, stored, course}
use Rattle.lane_steps.specs.Enqueue as enqueue
use Rattle.lane_steps.specs.Dequeue as dequeue
use Rattle.lane_steps.specs.Fill as filling
use Rattle.lane_steps.specs.Batch as batching
use Rattle.lane_steps.specs.Help as helping
use Rattle.lane_steps.specs.Answer as answering
use Rattle.lane_steps.specs.Take as taking
use Rattle.lane_steps.specs.Guard as guarding
use Rattle.lane_steps.specs.Close as closing
use Rattle.core_model.proofs.Sames.{exchanged as exchanged_content}

-- the bits of both
bits_of_both : (a b : Marks) → bit_or (marks_word a) (marks_word b) ≡ marks_word (with_marks a b)
bits_of_both a b = by a.read a.passed a.free b.read b.passed b.free where
  by : (r p f s q g : Bool) → bit_or (marks_word (marks r p f)) (marks_word (marks s q g)) ≡ marks_word (with_marks (marks r p f) (marks s q g))
  by false false false false false false = refl
  by false false false false false true = refl
  by false false false false true false = refl
  by false false false false true true = refl
  by false false false true false false = refl
  by false false false true false true = refl
  by false false false true true false = refl
  by false false false true true true = refl
  by false false true false false false = refl
  by false false true false false true = refl
  by false false true false true false = refl
  by false false true false true true = refl
  by false false true true false false = refl
  by false false true true false true = refl
  by false false true true true false = refl
  by false false true true true true = refl
  by false true false false false false = refl
  by false true false false false true = refl
  by false true false false true false = refl
  by false true false false true true = refl
  by false true false true false false = refl
  by false true false true false true = refl
  by false true false true true false = refl
  by false true false true true true = refl
  by false true true false false false = refl
  by false true true false false true = refl
  by false true true false true false = refl
  by false true true false true true = refl
  by false true true true false false = refl
  by false true true true false true = refl
  by false true true true true false = refl
  by false true true true true true = refl
  by true false false false false false = refl
  by true false false false false true = refl
  by true false false false true false = refl
  by true false false false true true = refl
  by true false false true false false = refl
  by true false false true false true = refl
  by true false false true true false = refl
  by true false false true true true = refl
  by true false true false false false = refl
  by true false true false false true = refl
  by true false true false true false = refl
  by true false true false true true = refl
  by true false true true false false = refl
  by true false true true false true = refl
  by true false true true true false = refl
  by true false true true true true = refl
  by true true false false false false = refl
  by true true false false false true = refl
  by true true false false true false = refl
  by true true false false true true = refl
  by true true false true false false = refl
  by true true false true false true = refl
  by true true false true true false = refl
  by true true false true true true = refl
  by true true true false false false = refl
  by true true true false false true = refl
  by true true true false true false = refl
  by true true true false true true = refl
  by true true true true false false = refl
  by true true true true false true = refl
  by true true true true true false = refl
  by true true true true true true = refl

-- what the word has after the step, by what the step does
module _ (c : ℕ) (t : Point) (l : Location) (x : Content) where
  pub loaded : act c t ≡ Load l → stored c t x ≡ x
  loaded is = ap (λ (a : Act). effect a x) is

  pub written : (y : Content) → act c t ≡ Store l y → stored c t x ≡ y
  written y is = ap (λ (a : Act). effect a x) is

  pub exchanged : (e y : Content) → act c t ≡ Exchange l e y → (x ≡ e → stored c t x ≡ y) × (x ≢ e → stored c t x ≡ x)
  exchanged e y is = let both = exchanged_content l e y x in ((λ same. ap (λ (a : Act). effect a x) is ∙ both.0 same), (λ other. ap (λ (a : Act). effect a x) is ∙ both.1 other))

  -- a join leaves the bits of both
  pub joined : (key : Shape) (r : ℕ) (b : Marks) → act c t ≡ Join r b → MayHold key (target c t) x → bit_or (coded x) (marks_word b) ≡ coded (stored c t x)
  joined key r b is m = by x (subst (λ (a : Act). IsOfKind (location a) x) is m.0) ∙ sym (ap (λ (a : Act). coded (effect a x)) is) where
    by : (y : Content) → IsOfKind (Mark r) y → bit_or (coded y) (marks_word b) ≡ coded (OfMark (with_marks (mark_in y) b))
    by (OfMark a) of = bits_of_both a b
    by _ of = absurd of

store_enqueue : (i : Item) (p : EnqueuePoint) (l : Location) (y x x' : Content) → enqueue.act i p ≡ Store l y → enqueue.course i p x ≡ enqueue.course i p x'
store_enqueue i enq.StoreValue l y x x' is = refl
store_enqueue i _ l y x x' is = absurd (cc is)

store_fill : (n : Notice) (p : FillPoint) (l : Location) (y x x' : Content) → filling.act p ≡ Store l y → filling.course n p x ≡ filling.course n p x'
store_fill n (fill.StoreValue r v) l y x x' is = refl
store_fill n (fill.StoreChain i r q) l y x x' is = refl
store_fill n _ l y x x' is = absurd (cc is)

store_batch : (d : Draft) (p : BatchPoint) (l : Location) (y x x' : Content) → batching.act d p ≡ Store l y → batching.course d p x ≡ batching.course d p x'
store_batch d (batch.StoreField f) l y x x' is = refl
store_batch d (batch.StoreAll f) l y x x' is = refl
store_batch d _ l y x x' is = absurd (cc is)

store_many : (d : Plan) (p : ManyPoint) (l : Location) (y : Content) → dequeues.act d p ≡ Store l y → ⊥
store_many d (many.PassTail p n) l y is = cc is
store_many d _ l y is = cc is

store_dequeue : (p : DequeuePoint) (l : Location) (y : Content) → dequeue.act p ≡ Store l y → ⊥
store_dequeue (deq.PassTail p n) l y is = cc is
store_dequeue _ l y is = cc is

store_help : (h : Help) (p : HelpPoint) (l : Location) (y : Content) → helping.act h p ≡ Store l y → ⊥
store_help h (help.PassTail p n) l y is = cc is
store_help h _ l y is = cc is

store_take : (a : Taking) (p : TakePoint) (l : Location) (y x x' : Content) → taking.act a p ≡ Store l y → taking.course a p x ≡ taking.course a p x'
store_take a (take.ClearMark r) l y x x' is = refl
store_take a (take.ClearLink r) l y x x' is = refl
store_take a _ l y x x' is = absurd (cc is)

store_guard : (c : ℕ) (a : Guarding) (p : GuardPoint) (l : Location) (y x x' : Content) → guarding.act c a p ≡ Store l y → guarding.course a p x ≡ guarding.course a p x'
store_guard c a guard.StoreHazard l y x x' is = refl
store_guard c a guard.LoadAgain l y x x' is = absurd (cc is)

store_close : (c : ℕ) (a : Closing) (p : ClosePoint) (l : Location) (y x x' : Content) → closing.act c p ≡ Store l y → closing.course a p x ≡ closing.course a p x'
store_close c a close.ClearNode l y x x' is = refl
store_close c a close.ClearAnn l y x x' is = refl
store_close c a _ l y x x' is = absurd (cc is)

store_answer : (p : AnswerPoint) (l : Location) (y : Content) → answering.act p ≡ Store l y → ⊥
store_answer (answer.LoadOldTail h) l y is = cc is
store_answer (answer.LoadLink m r n) l y is = cc is
store_answer (answer.LoadValue m r n) l y is = cc is

-- after a store the command goes on alike, whatever the word had
pub any_found : (c : ℕ) (t : Point) (l : Location) (y x x' : Content) → act c t ≡ Store l y → course t x ≡ course t x'
any_found c point.Idle l y x x' is = absurd (cc is)
any_found c (point.Enqueue i p) l y x x' is = store_enqueue i p l y x x' is
any_found c (point.Dequeue p) l y x x' is = absurd (store_dequeue p l y is)
any_found c (point.Fill n p) l y x x' is = store_fill n p l y x x' is
any_found c (point.Batch d p) l y x x' is = store_batch d p l y x x' is
any_found c (point.Many d p) l y x x' is = absurd (store_many d p l y is)
any_found c (point.Help h p) l y x x' is = absurd (store_help h p l y is)
any_found c (point.Answer p) l y x x' is = absurd (store_answer p l y is)
any_found c (point.Take a p) l y x x' is = store_take a p l y x x' is
any_found c (point.Guard a p) l y x x' is = store_guard c a p l y x x' is
any_found c (point.Close a p) l y x x' is = store_close c a p l y x x' is
