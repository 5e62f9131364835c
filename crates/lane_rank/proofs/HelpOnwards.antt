-- A caller that helps an announcement goes on from OldTail to the end of its help.
use Rattle.std.proofs.Common.{◌≡◌, inl, ℕ, zero, suc, ◌+◌, ◌<◌, ◌≤◌, Bool, true, false, cond, [], ◌∷◌, refl, ap, ◌∙◌, arith, Option, Some, None}
use Rattle.bq_model.specs.declared.shape.Shape.{Shape}
use Rattle.word_rows.specs.declared.place.Place.{Place}
use Rattle.word_rows.specs.declared.link_word.LinkWord.{LinkWord}
use Rattle.word_rows.specs.declared.link_word.LinkWord.TheVariants.{Nil, Single, Chain, Shut}
use Rattle.word_rows.specs.declared.content.Content.TheVariants.{OfTail}
use Rattle.lane_steps.specs.declared.point.Help.{Help}
use Rattle.lane_steps.specs.declared.point.HelpPoint.{HelpPoint}
use Rattle.lane_steps.specs.declared.point.HelpPoint.TheVariants as help
use Rattle.lane_steps.specs.declared.point.Point.{Point}
use Rattle.lane_steps.specs.declared.point.Point.TheVariants as point
use Rattle.lane_steps.specs.LaneSizes.{lane_sizes}
use Rattle.lane_steps.specs.State.{State, read}
use Rattle.lane_steps.specs.Act.{same_place, is_ann, far_behind}
use Rattle.lane_steps.specs.Help.{walk_on, walk, after_record, after_walk, back_point}
use Rattle.lane_steps.specs.Step.{target, stepped, after, step_at}
use Rattle.core_model.specs.Ghost.{joint}
use Rattle.core_model.specs.Lawful.{Lawful}
use Rattle.core_model.proofs.HelpMoves.{walk_over, joint_nil, joint_shut}
use Rattle.core_model.proofs.Lookups.{ann_stands}
use Rattle.core_model.proofs.Preserves.{known}
use Rattle.core_model.proofs.StoredAgain.{same_places}
use Rattle.lane_rank.specs.Expected.{helped, AllThere, Keeps}
use Rattle.lane_rank.specs.Rank.{rank}
use Rattle.lane_rank.specs.Return.{Onward}
use Rattle.lane_rank.specs.Weight.{weight, whole_answer}
use Rattle.lane_rank.proofs.GuardOnward.{to_back}
use Rattle.lane_rank.proofs.HelpOnward.{head_is, kept_ann, to_walk, to_old, help_old_head, help_first, help_last, help_counts, help_tail, help_old_tail, help_link, link_chain, help_pass}
use Rattle.lane_rank.proofs.Onwards.{gone, went, goes}
use Rattle.lane_rank.proofs.Together.{left_ann}

module _ (z : Shape) (s : State) (L : Lawful (lane_sizes z) s) (c M : ℕ) where
  module _ (h : Help) (p : Place) (o i : ℕ) (few : h.counts.deqs ≤ M) where
    -- OldTail is recorded
    recorded : (t : Point) (is : (s.callers c).point ≡ t) (K : Keeps s t o i) → AllThere s o (helped h ∷ []) → whole_answer M z + M + 5 < weight M z (s.callers c) t → (x : Option Place)
        → Onward M z (step_at (lane_sizes z) s c t) (s.callers c) (stepped (s.callers c) (point.Help h (after_record h p x))) o i
    recorded t is K there less None = to_old z s L c M t is o i K h there few p less
    recorded t is K there less (Some q) = to_old z s L c M t is o i K h there few q less

    decide : (s.callers c).point ≡ point.Help h (help.Decide p) → Keeps s (point.Help h (help.Decide p)) o i
        → Onward M z (step_at (lane_sizes z) s c (point.Help h (help.Decide p))) (s.callers c) (stepped (s.callers c) (point.Help h (after_record h p (s.memory.old_tail h.ann)))) o i
    decide is K = recorded (point.Help h (help.Decide p)) is K K.outer_there (omega arith) (s.memory.old_tail h.ann)

    record_tail : (s.callers c).point ≡ point.Help h (help.RecordTail p) → Keeps s (point.Help h (help.RecordTail p)) o i
        → Onward M z (step_at (lane_sizes z) s c (point.Help h (help.RecordTail p))) (s.callers c) (stepped (s.callers c) (point.Help h (after_record h p (s.memory.old_tail h.ann)))) o i
    record_tail is K = recorded (point.Help h (help.RecordTail p)) is K K.outer_there (omega arith) (s.memory.old_tail h.ann)

    -- it moves TAIL over the rows, where that is there yet, and walks to the new dummy
    help_over : (s.callers c).point ≡ point.Help h (help.LoadTailOver p) → Keeps s (point.Help h (help.LoadTailOver p)) o i → (b : Bool) → same_place s.memory.tail p ≡ b
        → Onward M z (step_at (lane_sizes z) s c (point.Help h (help.LoadTailOver p))) (s.callers c) (stepped (s.callers c) (point.Help h (cond b (help.MoveTailOver p) (walk h p)))) o i
    help_over is K true e = let t = point.Help h (help.LoadTailOver p) in let y = point.Help h (help.MoveTailOver p) in
        goes z s L c M t is o i K (stepped (s.callers c) y) y refl (kept_ann z s L c M t is o i K h K.outer_there) (inl (ap OfTail (same_places s.memory.tail p e)), tt) (omega arith)
    help_over is K false e = to_walk z s L c M (point.Help h (help.LoadTailOver p)) is o i K h K.outer_there few p (omega arith)

    move_tail_over : (s.callers c).point ≡ point.Help h (help.MoveTailOver p) → Keeps s (point.Help h (help.MoveTailOver p)) o i
        → Onward M z (step_at (lane_sizes z) s c (point.Help h (help.MoveTailOver p))) (s.callers c) (stepped (s.callers c) (point.Help h (walk h p))) o i
    move_tail_over is K = to_walk z s L c M (point.Help h (help.MoveTailOver p)) is o i K h K.outer_there few p (omega arith)

  module _ (h : Help) (m r o i : ℕ) where
    -- a row on the walk has a link, as long as the announcement stands
    help_walk : (l : ℕ) → (s.callers c).point ≡ point.Help h (help.LoadWalk m r l) → Keeps s (point.Help h (help.LoadWalk m r l)) o i → (x : LinkWord) → s.memory.link r ≡ x
        → Onward M z (step_at (lane_sizes z) s c (point.Help h (help.LoadWalk m r l))) (s.callers c) (stepped (s.callers c) (after_walk h m l x)) o i
    help_walk l is K x e = by x e where
      off : ((b : Bool) (y : ℕ) → joint b y ≡ s.memory.link r → ⊥) → o < rank (step_at (lane_sizes z) s c (point.Help h (help.LoadWalk m r l)))
      off never = gone z s L c M (point.Help h (help.LoadWalk m r l)) is o i K o (helped h) K.outer_there.0
          (λ there. walk_over (lane_sizes z) s L c h r l never (known (lane_sizes z) s L c (point.Help h (help.LoadWalk m r l)) is).here.0 (ann_stands (lane_sizes z) s L c h.ann h.old_head.count (head_is s.memory.head h.ann h.old_head.count there)))

      on : (n l' : ℕ) → l' ≡ l → Onward M z (step_at (lane_sizes z) s c (point.Help h (help.LoadWalk m r l))) (s.callers c) (stepped (s.callers c) (point.Help h (walk_on m n l'))) o i
      on n zero e = let t = point.Help h (help.LoadWalk m r l) in let y = point.Help h (help.MoveHead m n) in goes z s L c M t is o i K (stepped (s.callers c) y) y refl (kept_ann z s L c M t is o i K h K.outer_there) tt (omega arith)
      on n (suc l') e = let t = point.Help h (help.LoadWalk m r l) in let y = point.Help h (help.LoadWalk m n l') in goes z s L c M t is o i K (stepped (s.callers c) y) y refl (kept_ann z s L c M t is o i K h K.outer_there) tt (omega arith)

      by : (x : LinkWord) → s.memory.link r ≡ x → Onward M z (step_at (lane_sizes z) s c (point.Help h (help.LoadWalk m r l))) (s.callers c) (stepped (s.callers c) (after_walk h m l x)) o i
      by Nil e = to_back z s L c M (point.Help h (help.LoadWalk m r l)) is o i K h h.back (off (λ b y j. joint_nil (lane_sizes z) s L c b y (j ∙ e)))
      by Shut e = to_back z s L c M (point.Help h (help.LoadWalk m r l)) is o i K h h.back (off (λ b y j. joint_shut (lane_sizes z) s L c b y (j ∙ e)))
      by (Single n) e = on n l refl
      by (Chain n) e = on n l refl

    -- after the exchange HEAD doesn't name the announcement, whatever was found
    move_head : (s.callers c).point ≡ point.Help h (help.MoveHead m r) → Keeps s (point.Help h (help.MoveHead m r)) o i
        → Onward M z (step_at (lane_sizes z) s c (point.Help h (help.MoveHead m r))) (s.callers c) (stepped (s.callers c) (back_point h h.back)) o i
    move_head is K = to_back z s L c M (point.Help h (help.MoveHead m r)) is o i K h h.back
        (went z s L c M (point.Help h (help.MoveHead m r)) is o i K o (helped h) tt K.outer_past K.outer_there.0
        (λ e. left_ann s.memory.head h.ann h.old_head.count (far_behind h.old_head r m) (is_ann s.memory.head h.ann h.old_head.count) refl (head_is _ h.ann h.old_head.count e)))

  pub help_onward : (n : ℕ) (h : Help) (p : HelpPoint) → h.counts.deqs ≤ M → (s.callers c).point ≡ point.Help h p → (o i : ℕ) → Keeps s (point.Help h p) o i
      → Onward M z (step_at (lane_sizes z) s c (point.Help h p)) (s.callers c) (after (lane_sizes z) n c (s.callers c) (point.Help h p) (read s.memory (target c (point.Help h p)))) o i
  help_onward n h help.LoadOldHead few is o i K = help_old_head z s L c M h o i is K
  help_onward n h help.LoadFirst few is o i K = help_first z s L c M h o i is K
  help_onward n h help.LoadLast few is o i K = help_last z s L c M h o i is K
  help_onward n h help.LoadCounts few is o i K = help_counts z s L c M h o i is K
  help_onward n h help.LoadTail few is o i K = help_tail z s L c M h o i is K
  help_onward n h (help.LoadOldTail p) few is o i K = help_old_tail z s L c M h p o i few is K (s.memory.old_tail h.ann) refl
  help_onward n h (help.LoadLink p) few is o i K = help_link z s L c M h p o i is K (s.memory.link p.row) refl
  help_onward n h (help.LinkChain p) few is o i K = link_chain z s L c M h p o i is K
  help_onward n h (help.Decide p) few is o i K = decide h p o i few is K
  help_onward n h (help.PassTail p r) few is o i K = help_pass z s L c M h p o i r is K
  help_onward n h (help.RecordTail p) few is o i K = record_tail h p o i few is K
  help_onward n h (help.LoadTailOver q) few is o i K = help_over h q o i few is K (same_place s.memory.tail q) refl
  help_onward n h (help.MoveTailOver q) few is o i K = move_tail_over h q o i few is K
  help_onward n h (help.LoadWalk m r l) few is o i K = help_walk h m r o i l is K (s.memory.link r) refl
  help_onward n h (help.MoveHead m r) few is o i K = move_head h m r o i is K
