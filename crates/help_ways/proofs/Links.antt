-- Where a link leads to a row, the steps that follow links go on there.
use Rattle.std.proofs.Common.{◌≡◌, ◌-◌, ℕ, Some, ap}
use Rattle.word_rows.specs.declared.link_word.LinkWord.{LinkWord}
use Rattle.word_rows.specs.declared.link_word.LinkWord.TheVariants as link
use Rattle.lane_steps.specs.declared.course.Course.TheVariants.{GoesOn, Walks}
use Rattle.lane_steps.specs.declared.point.Help.{Help}
use Rattle.lane_steps.specs.declared.point.Plan.{Plan}
use Rattle.lane_steps.specs.declared.point.Reading.{Reading}
use Rattle.lane_steps.specs.declared.point.Point.TheVariants as point
use Rattle.lane_steps.specs.declared.point.AnswerPoint.TheVariants as answer
use Rattle.lane_steps.specs.declared.point.ManyPoint.TheVariants as many
use Rattle.lane_steps.specs.Answer as answering
use Rattle.lane_steps.specs.Help.{after_walk, walk_on}
use Rattle.lane_steps.specs.Many as dequeuing
use Rattle.help_ways.specs.Found.{row_behind}

module _ (w : LinkWord) (n : ℕ) where
  -- to the values of a batch that reads its answers
  pub reads_behind : (b : Reading) (r l : ℕ) → row_behind w ≡ Some n → answering.after_link b r l w ≡ answer.LoadValue b n l
  reads_behind b r l is = by w is where
    by : (v : LinkWord) → row_behind v ≡ Some n → answering.after_link b r l v ≡ answer.LoadValue b n l
    by link.Nil e = absurd (cc e)
    by (link.Single k) e = let same : k ≡ n = cc e in ap (λ (j : ℕ). answer.LoadValue b j l) same
    by (link.Chain k) e = let same : k ≡ n = cc e in ap (λ (j : ℕ). answer.LoadValue b j l) same
    by link.Shut e = absurd (cc e)

  -- of a help that walks to the new dummy
  pub walks_behind : (h : Help) (v l : ℕ) → row_behind w ≡ Some n → after_walk h v l w ≡ point.Help h (walk_on v n l)
  walks_behind h v l is = by w is where
    by : (u : LinkWord) → row_behind u ≡ Some n → after_walk h v l u ≡ point.Help h (walk_on v n l)
    by link.Nil e = absurd (cc e)
    by (link.Single k) e = let same : k ≡ n = cc e in ap (λ (j : ℕ). point.Help h (walk_on v j l)) same
    by (link.Chain k) e = let same : k ≡ n = cc e in ap (λ (j : ℕ). point.Help h (walk_on v j l)) same
    by link.Shut e = absurd (cc e)

  -- of dequeues alone
  pub dequeues_behind : (d : Plan) (l : ℕ) → row_behind w ≡ Some n → dequeuing.after_link d l w ≡ GoesOn (point.Many d (many.LoadValue n l))
  dequeues_behind d l is = by w is where
    by : (v : LinkWord) → row_behind v ≡ Some n → dequeuing.after_link d l v ≡ GoesOn (point.Many d (many.LoadValue n l))
    by link.Nil e = absurd (cc e)
    by (link.Single k) e = let same : k ≡ n = cc e in ap (λ (j : ℕ). GoesOn (point.Many d (many.LoadValue j l))) same
    by (link.Chain k) e = let same : k ≡ n = cc e in ap (λ (j : ℕ). GoesOn (point.Many d (many.LoadValue j l))) same
    by link.Shut e = absurd (cc e)

  -- behind their dummy
  pub dequeues_first : (d : Plan) → row_behind w ≡ Some n → dequeuing.after_dummy d w ≡ Walks (point.Many d (many.LoadValue n (d.notice.counts.deqs - 1)))
  dequeues_first d is = by w is where
    by : (v : LinkWord) → row_behind v ≡ Some n → dequeuing.after_dummy d v ≡ Walks (point.Many d (many.LoadValue n (d.notice.counts.deqs - 1)))
    by link.Nil e = absurd (cc e)
    by (link.Single k) e = let same : k ≡ n = cc e in ap (λ (j : ℕ). Walks (point.Many d (many.LoadValue j (d.notice.counts.deqs - 1)))) same
    by (link.Chain k) e = let same : k ≡ n = cc e in ap (λ (j : ℕ). Walks (point.Many d (many.LoadValue j (d.notice.counts.deqs - 1)))) same
    by link.Shut e = absurd (cc e)
