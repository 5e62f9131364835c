-- The owner of a batch that has taken effect reads on, or comes to the end of its call.
use Rattle.std.proofs.Common.{◌≡◌, inl, ℕ, zero, suc, ◌+◌, ◌*◌, ◌-◌, ◌<◌, ◌≤◌, ltb, Bool, true, false, List, [], ◌∷◌, ◌++◌, length, sym, refl, ap, ◌∙◌, arith, Option, Some, None}
use Rattle.std.proofs.lemmas.List.{length-append}
use Rattle.bq_model.specs.declared.shape.Shape.{Shape}
use Rattle.excess_count.specs.Counts.{counts_of, successes_of}
use Rattle.word_rows.specs.declared.place.Place.{Place}
use Rattle.word_rows.specs.declared.link_word.LinkWord.{LinkWord}
use Rattle.word_rows.specs.declared.link_word.LinkWord.TheVariants.{Nil, Single, Chain, Shut}
use Rattle.lane_steps.specs.declared.point.AnswerPoint.{AnswerPoint}
use Rattle.lane_steps.specs.declared.point.AnswerPoint.TheVariants as answer
use Rattle.lane_steps.specs.declared.point.Closing.TheVariants.{Batch}
use Rattle.lane_steps.specs.declared.point.Help.{Help}
use Rattle.lane_steps.specs.declared.point.Point.{Point}
use Rattle.lane_steps.specs.declared.point.Point.TheVariants as point
use Rattle.lane_steps.specs.declared.point.Reading.{Reading}
use Rattle.lane_steps.specs.Answer.{reading, after_old_tail, after_link}
use Rattle.lane_steps.specs.Fact.{has_read}
use Rattle.lane_steps.specs.Help.{before_it}
use Rattle.lane_steps.specs.LaneSizes.{lane_sizes}
use Rattle.lane_steps.specs.State.{Caller, State, read, own_group}
use Rattle.lane_steps.specs.Step.{target, stepped, stepped_with, reads_on, rows_left, followed, after, step_at}
use Rattle.lane_steps.specs.Stopper.{linked_rows}
use Rattle.core_model.specs.Facts.{Holds}
use Rattle.core_model.specs.Few.{Early, IsEarly}
use Rattle.core_model.specs.Ghost.{Ghost, joint}
use Rattle.core_model.specs.Lawful.{Lawful}
use Rattle.core_model.proofs.FewSteps.{lists_fit}
use Rattle.core_model.proofs.HelpMoves.{joint_nil, joint_shut}
use Rattle.core_model.proofs.Preserves.{known}
use Rattle.core_model.proofs.Rely.{third, world, some_none}
use Rattle.lane_rank.specs.Expected.{Keeps}
use Rattle.lane_rank.specs.Return.{Onward}
use Rattle.lane_rank.specs.Weight.{weight, whole_close}
use Rattle.lane_rank.proofs.Endings.{marks_light, ends_light}
use Rattle.lane_rank.proofs.Onwards.{goes}

-- what a help has read of the announcement is bounded, where the owner begins to read
abbrev pub FewRead : ℕ → AnswerPoint → Type 0
FewRead M (answer.LoadOldTail h) = h.counts.deqs ≤ M
FewRead M _ = Unit {0}

module _ (z : Shape) (s : State) (L : Lawful (lane_sizes z) s) (c M : ℕ) (short : length (s.callers c).ops ≤ z.batch) (early : IsEarly z c (s.callers c)) where
  abbrev me : Caller
  me = s.callers c

  abbrev G : Ghost
  G = L.ghost

  -- it goes on with l values to read, or marks the rows
  reads : (t : Point) (is : (s.callers c).point ≡ t) (n o i : ℕ) → Keeps s t o i → (b : Reading) (r l : ℕ) (rows vs ws : List ℕ) → Early z (s.callers c).ops rows ws (s.callers c).retired → whole_close M z + 2 * l < weight M z (s.callers c) t
      → Onward M z (step_at (lane_sizes z) s c t) (s.callers c) (reads_on n c (record (s.callers c) { rows = rows }) b r l vs ws) o i
  reads t is n o i K b r zero rows vs ws few less = ends_light z s L c M t is o i K (reads_on n c (record me { rows = rows }) b r 0 vs ws) (omega (arith, less)) (marks_light M z n c (record me { rows = rows; values = vs; walked = ws }) short few (Batch b.queued) b.stopped b.dummy)
  reads t is n o i K b r (suc l) rows vs ws few less = goes z s L c M t is o i K (stepped_with (record me { rows = rows }) (point.Answer (answer.LoadLink b r l)) vs ws) (point.Answer (answer.LoadLink b r l)) refl tt tt (omega (arith, less))

  left_early : (b : Bool) → Early z (s.callers c).ops (rows_left b (s.callers c).rows) [] (s.callers c).retired
  left_early true = record { few_rows = inl (omega arith); few_walked = (let most = early.few_walked in omega (arith, most)); few_retired = early.few_retired }
  left_early false = record { few_rows = early.few_rows; few_walked = (let most = early.few_walked in omega (arith, most)); few_retired = early.few_retired }

  module _ (n o i : ℕ) where
    tail_loaded : (h : Help) → h.counts.deqs ≤ M → (s.callers c).point ≡ point.Answer (answer.LoadOldTail h) → Keeps s (point.Answer (answer.LoadOldTail h)) o i → (x : Option Place) → s.memory.old_tail h.ann ≡ x
        → Onward M z (step_at (lane_sizes z) s c (point.Answer (answer.LoadOldTail h))) (s.callers c) (followed (lane_sizes z) n c (s.callers c) (after_old_tail h x)) o i
    tail_loaded h few is K None e = absurd (some_none (sym (known (lane_sizes z) s L c (point.Answer (answer.LoadOldTail h)) is).here.1.1.0.known.1 ∙ e))
    tail_loaded h few is K (Some q) e = let linked = ltb 0 (linked_rows h.counts (before_it h q)) in
        reads (point.Answer (answer.LoadOldTail h)) is n o i K (reading h (before_it h q)) h.old_head.row (successes_of h.counts (before_it h q)) (rows_left linked me.rows) [] [] (left_early linked) (omega (arith, few))

    -- the row that it has read last has a link
    has_link : (b : Reading) (r l : ℕ) → Holds (lane_sizes z) (world s L.ghost) c (has_read (s.callers c).started_at (own_group c (s.callers c)) b (s.callers c).values (s.callers c).walked (suc l) r)
        → ((d : Bool) (x : ℕ) → joint d x ≡ s.memory.link r → ⊥) → ⊥
    has_link b r l rd never = let R = rd.linearized in let all : successes_of (s.memory.notice rd.ann).counts (rd.position - R.dummy) ≡ successes_of (counts_of me.ops) b.queued = (λ k. successes_of (R.counts k) (sym rd.queued k)) in let e = rd.left in
        let here = R.rows rd.read (omega arith) (omega arith) in let next = R.rows (suc rd.read) (omega arith) (omega arith) in let inside = next.inside in
        never (G.chained (R.dummy + rd.read)) (G.path (suc (R.dummy + rd.read))) (sym (here.link.1 (omega arith)) ∙ ap s.memory.link rd.last_row)

    link_loaded : (b : Reading) (r l : ℕ) → (s.callers c).point ≡ point.Answer (answer.LoadLink b r l) → Keeps s (point.Answer (answer.LoadLink b r l)) o i → (x : LinkWord) → s.memory.link r ≡ x
        → Onward M z (step_at (lane_sizes z) s c (point.Answer (answer.LoadLink b r l))) (s.callers c) (stepped (s.callers c) (point.Answer (after_link b r l x))) o i
    link_loaded b r l is K Nil e = absurd (has_link b r l (third (known (lane_sizes z) s L c (point.Answer (answer.LoadLink b r l)) is).here) (λ d x j. joint_nil (lane_sizes z) s L c d x (j ∙ e)))
    link_loaded b r l is K Shut e = absurd (has_link b r l (third (known (lane_sizes z) s L c (point.Answer (answer.LoadLink b r l)) is).here) (λ d x j. joint_shut (lane_sizes z) s L c d x (j ∙ e)))
    link_loaded b r l is K (Single x) e = let y = point.Answer (answer.LoadValue b x l) in goes z s L c M (point.Answer (answer.LoadLink b r l)) is o i K (stepped (s.callers c) y) y refl tt tt (omega arith)
    link_loaded b r l is K (Chain x) e = let y = point.Answer (answer.LoadValue b x l) in goes z s L c M (point.Answer (answer.LoadLink b r l)) is o i K (stepped (s.callers c) y) y refl tt tt (omega arith)

  pub answer_onward : (n : ℕ) (p : AnswerPoint) → FewRead M p → (s.callers c).point ≡ point.Answer p → (o i : ℕ) → Keeps s (point.Answer p) o i
      → Onward M z (step_at (lane_sizes z) s c (point.Answer p)) (s.callers c) (after (lane_sizes z) n c (s.callers c) (point.Answer p) (read s.memory (target c (point.Answer p)))) o i
  answer_onward n (answer.LoadOldTail h) few is o i K = tail_loaded n o i h few is K (s.memory.old_tail h.ann) refl
  answer_onward n (answer.LoadLink b r l) few is o i K = link_loaded n o i b r l is K (s.memory.link r) refl
  answer_onward n (answer.LoadValue b r l) few is o i K = let fit = (lists_fit z s L c).reads b r l is in
      reads (point.Answer (answer.LoadValue b r l)) is n o i K b r l me.rows (me.values ++ s.memory.value r ∷ []) (me.walked ++ r ∷ [])
      (record { few_rows = early.few_rows; few_walked = (let all = length-append me.walked (r ∷ []) in let left = fit.left in let paired = fit.paired in omega (arith, all, left, paired)); few_retired = early.few_retired }) (omega arith)
