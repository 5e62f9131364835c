-- The steps that go from row to row: of a batch that reads its answers, of dequeues alone, and of a help that walks.
use Rattle.std.proofs.Common.{◌≡◌, ◌<◌, ◌-◌, ◌++◌, ℕ, suc, nat_lt, Bool, [], ◌∷◌, Some, ◌∙◌, ap, sym}
use Rattle.atomic_table.specs.Seated.{TableId}
use Rattle.atomic_table.specs.declared.shared.Seat.{Seat}
use Rattle.bq_model.specs.declared.shape.Shape.{Shape}
use Rattle.word_rows.specs.declared.content.Content.{Content}
use Rattle.word_rows.specs.declared.head_word.HeadWord.{HeadWord}
use Rattle.word_rows.specs.declared.head_word.HeadWord.TheVariants.{Node}
use Rattle.word_rows.specs.declared.link_word.LinkWord.TheVariants.{Nil}
use Rattle.lane_steps.specs.declared.course.Course.TheVariants.{GoesOn, Reads, ReadsMore, Walks, WalksMore}
use Rattle.lane_steps.specs.declared.point.Closing.TheVariants.{Batch}
use Rattle.lane_steps.specs.declared.point.GuardPoint.TheVariants.{StoreHazard}
use Rattle.lane_steps.specs.declared.point.Guarding.TheVariants as guard
use Rattle.lane_steps.specs.declared.point.Help.{Help}
use Rattle.lane_steps.specs.declared.point.Plan.{Plan}
use Rattle.lane_steps.specs.declared.point.Reading.{Reading}
use Rattle.lane_steps.specs.declared.point.AnswerPoint.{AnswerPoint}
use Rattle.lane_steps.specs.declared.point.Point.TheVariants as point
use Rattle.lane_steps.specs.declared.point.AnswerPoint.TheVariants as answer
use Rattle.lane_steps.specs.declared.point.HelpPoint.TheVariants as help
use Rattle.lane_steps.specs.declared.point.ManyPoint.TheVariants as many
use Rattle.lane_steps.specs.Help.{before_it, walk_on}
use Rattle.lane_steps.specs.Many.{after_dummy, after_head, after_value, on_dummy}
use Rattle.excess_count.specs.Counts.{successes_of}
use Rattle.word_rows.specs.declared.place.Place.{Place}
use Rattle.lane_steps.specs.Answer.{after_old_tail, reading}
use Rattle.lane_steps.specs.Stopper.{linked_rows}
use Rattle.lane_steps.specs.State.{Caller, head_in, link_in, old_tail_in, value_in}
use Rattle.lane_steps.specs.Step.{closes, course, marks_all}
use Rattle.lane_rule.specs.declared.view.View.{View}
use Rattle.lane_rule.specs.Goes.{left_of}
use Rattle.lane_rule.specs.Plays.{Moves}
use Rattle.lane_course.specs.declared.scratch.Scratch.{Scratch}
use Rattle.help_ways.specs.Found.{row_behind}
use Rattle.lane_course.specs.Led.{Led}
use Rattle.lane_course.specs.Running.{Running, GoesTo}
use Rattle.lane_course.specs.Scratch.{keeping, SamePuts}
use Rattle.help_ways.proofs.Links.{reads_behind, walks_behind, dequeues_behind, dequeues_first}
use Rattle.help_ways.proofs.Single.{steps, reads_more, reads_last, walks, walks_more, closes_so}

-- where OldTail is known, a batch reads what it gets by that
pub reads_what_it_gets : (h : Help) (x : Content) (o : Place) → old_tail_in x ≡ Some o → (n : ℕ) → n ≡ before_it h o → (b : Reading) → b ≡ reading h n → (l : ℕ) → l ≡ successes_of h.counts n → (linked : Bool) → linked ≡ nat_lt 0 (linked_rows h.counts n)
    → course (point.Answer (answer.LoadOldTail h)) x ≡ Reads b h.old_head.row l linked
reads_what_it_gets h x o known n queued b is l gets linked links = ap (after_old_tail h) known ∙ (ap (λ (m : ℕ). Reads (reading h m) h.old_head.row (successes_of h.counts m) (nat_lt 0 (linked_rows h.counts m))) (sym queued) ∙ (λ i. Reads (sym is i) h.old_head.row (sym gets i) (sym links i)))

module _ {id : TableId} {key s : Shape} {c : ℕ} {a : Scratch} {p q : Seat ℕ View} {x : Content} where
  module _ {b : Reading} {r l : ℕ} (run : Running id key s c (point.Answer (answer.LoadLink b r l)) a p) (m : Moves p x q) where
    pub answer_behind : (n : ℕ) → row_behind (link_in x) ≡ Some n → Running id key s c (point.Answer (answer.LoadValue b n l)) a q × GoesTo p q × (left_of q.me.0 < left_of p.me.0)
    answer_behind n is = steps run m (point.Answer (answer.LoadValue b n l)) (ap (λ (y : AnswerPoint). GoesOn (point.Answer y)) (reads_behind (link_in x) n b r l is))

  module _ {b : Reading} {r l : ℕ} (run : Running id key s c (point.Answer (answer.LoadValue b r l)) a p) (m : Moves p x q)
      (v : ℕ) (told : v ≡ value_in x) (d : Scratch) (one : (k : Caller) → keeping k d ≡ record (keeping k a) { values = a.values.items ++ v ∷ []; walked = a.walked.items ++ r ∷ [] }) (same : SamePuts a d) where
    pub answer_more : (left : ℕ) → l ≡ suc left → Running id key s c (point.Answer (answer.LoadLink b r left)) d q × GoesTo p q × (left_of q.me.0 < left_of p.me.0)
    answer_more = reads_more run m b r l v (ap (ReadsMore b r l) (sym told)) d one same

    pub answer_last : l ≡ 0 → Led id key s c (λ n k. marks_all n c k (Batch b.queued) b.stopped b.dummy) d p q
    answer_last = reads_last run m b r l v (ap (ReadsMore b r l) (sym told)) d one same

  -- dequeues alone find this dummy in HEAD
  pub many_head : {f : Plan} → Running id key s c (point.Many f many.LoadHead) a p → Moves p x q → (d : Place) → head_in x ≡ Node d → (g : Plan) → g ≡ on_dummy f d → Running id key s c (point.Guard (guard.Many g) StoreHazard) a q × GoesTo p q × (left_of q.me.0 < left_of p.me.0)
  many_head {f} run m d is g on = steps run m (point.Guard (guard.Many g) StoreHazard) (ap (λ (h : HeadWord). GoesOn (after_head f h)) is ∙ ap (λ (y : Plan). GoesOn (point.Guard (guard.Many y) StoreHazard)) (sym on))

  module _ {f : Plan} (run : Running id key s c (point.Many f many.LoadDummy) a p) (m : Moves p x q) where
    pub many_first : (n : ℕ) → row_behind (link_in x) ≡ Some n → (l : ℕ) → l ≡ f.notice.counts.deqs - 1 → (d : Scratch) → ((k : Caller) → keeping k d ≡ record (keeping k a) { values = []; walked = [] }) → SamePuts a d → Running id key s c (point.Many f (many.LoadValue n l)) d q × GoesTo p q × (left_of q.me.0 < left_of p.me.0)
    many_first n is l left d none same = walks run m (point.Many f (many.LoadValue n l)) (dequeues_first (link_in x) n f is ∙ ap (λ (k : ℕ). Walks (point.Many f (many.LoadValue n k))) (sym left)) d none same

    pub many_none : link_in x ≡ Nil → Led id key s c (λ n k. closes n c k (Batch 0)) a p q
    many_none is = closes_so run m (Batch 0) (ap (after_dummy f) is)

  module _ {f : Plan} {r l : ℕ} (run : Running id key s c (point.Many f (many.LoadLink r l)) a p) (m : Moves p x q) where
    pub many_behind : (n : ℕ) → row_behind (link_in x) ≡ Some n → Running id key s c (point.Many f (many.LoadValue n l)) a q × GoesTo p q × (left_of q.me.0 < left_of p.me.0)
    many_behind n is = steps run m (point.Many f (many.LoadValue n l)) (dequeues_behind (link_in x) n f l is)

  module _ {f : Plan} {r l : ℕ} (run : Running id key s c (point.Many f (many.LoadValue r l)) a p) (m : Moves p x q)
      (v : ℕ) (told : v ≡ value_in x) (d : Scratch) (one : (k : Caller) → keeping k d ≡ record (keeping k a) { values = a.values.items ++ v ∷ []; walked = a.walked.items ++ r ∷ [] }) (same : SamePuts a d) where
    pub many_more : (left : ℕ) → l ≡ suc left → Running id key s c (point.Many f (many.LoadLink r left)) d q × GoesTo p q × (left_of q.me.0 < left_of p.me.0)
    many_more left more = walks_more run m (point.Many f (many.LoadLink r left)) r v (λ i. WalksMore (point.Many f (after_value r (more i))) r (sym told i)) d one same

    pub many_last : l ≡ 0 → Running id key s c (point.Many f (many.LoadTail r)) d q × GoesTo p q × (left_of q.me.0 < left_of p.me.0)
    many_last none = walks_more run m (point.Many f (many.LoadTail r)) r v (λ i. WalksMore (point.Many f (after_value r (none i))) r (sym told i)) d one same

  module _ {h : Help} {v r l : ℕ} (run : Running id key s c (point.Help h (help.LoadWalk v r l)) a p) (m : Moves p x q) (n : ℕ) (is : row_behind (link_in x) ≡ Some n) where
    pub walk_more : (left : ℕ) → l ≡ suc left → Running id key s c (point.Help h (help.LoadWalk v n left)) a q × GoesTo p q × (left_of q.me.0 < left_of p.me.0)
    walk_more left more = steps run m (point.Help h (help.LoadWalk v n left)) (ap GoesOn (walks_behind (link_in x) n h v l is ∙ ap (λ (k : ℕ). point.Help h (walk_on v n k)) more))

    pub walk_last : l ≡ 0 → Running id key s c (point.Help h (help.MoveHead v n)) a q × GoesTo p q × (left_of q.me.0 < left_of p.me.0)
    walk_last none = steps run m (point.Help h (help.MoveHead v n)) (ap GoesOn (walks_behind (link_in x) n h v l is ∙ ap (λ (k : ℕ). point.Help h (walk_on v n k)) none))
