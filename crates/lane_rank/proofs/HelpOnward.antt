-- A caller that helps an announcement goes on until it knows OldTail, or loads TAIL again as the rank has risen.
use Rattle.std.proofs.Common.{◌≡◌, ◌⊎◌, inl, inr, ℕ, zero, suc, ◌+◌, ◌-◌, ◌<◌, ◌≤◌, eqb, ltb, Bool, true, false, cond, [], ◌∷◌, sym, refl, ap, ◌∙◌, arith, Option, Some, None}
use Rattle.std.proofs.lemmas.Bool.{eqb-false}
use Rattle.bq_model.specs.declared.shape.Shape.{Shape}
use Rattle.excess_count.specs.Counts.{successes_of}
use Rattle.word_rows.specs.declared.place.Place.{Place}
use Rattle.word_rows.specs.declared.head_word.HeadWord.{HeadWord}
use Rattle.word_rows.specs.declared.head_word.HeadWord.TheVariants.{Ann}
use Rattle.word_rows.specs.declared.link_word.LinkWord.{LinkWord}
use Rattle.word_rows.specs.declared.link_word.LinkWord.TheVariants.{Nil, Single, Chain, Shut}
use Rattle.word_rows.specs.declared.content.Content.TheVariants.{OfHead, OfTail, OfLink, OfOldTail}
use Rattle.lane_steps.specs.declared.point.Guarding.TheVariants as guard
use Rattle.lane_steps.specs.declared.point.GuardPoint.TheVariants.{StoreHazard}
use Rattle.lane_steps.specs.declared.point.Help.{Help}
use Rattle.lane_steps.specs.declared.point.HelpPoint.TheVariants as help
use Rattle.lane_steps.specs.declared.point.Point.{Point}
use Rattle.lane_steps.specs.declared.point.Point.TheVariants as point
use Rattle.lane_steps.specs.LaneSizes.{lane_sizes}
use Rattle.lane_steps.specs.Stopper.{is_stopped, linked_rows}
use Rattle.lane_steps.specs.State.{State, link_in}
use Rattle.lane_steps.specs.Act.{same_place, is_nil}
use Rattle.lane_steps.specs.Help.{has_enough, before_it, walk_on, walk_from, walk, at_old_tail, after_link, after_old_tail}
use Rattle.lane_steps.specs.Step.{stepped, step_at}
use Rattle.core_model.specs.Ghost.{Ghost}
use Rattle.core_model.specs.Facts.{AtPoint}
use Rattle.core_model.specs.Lawful.{Lawful}
use Rattle.core_model.proofs.Lookups.{ann_stands}
use Rattle.core_model.proofs.Preserves.{known}
use Rattle.core_model.proofs.Puts.{put_here}
use Rattle.core_model.proofs.Rely.{world, one_some}
use Rattle.lane_rank.specs.Expected.{helped, tail_at, nil_behind, not_recorded, AllThere, IsThere, Keeps}
use Rattle.lane_rank.specs.Rank.{rank}
use Rattle.lane_rank.specs.Return.{Onward}
use Rattle.lane_rank.specs.Weight.{weight, whole_answer}
use Rattle.lane_rank.proofs.Expecting.{linked_spot}
use Rattle.lane_rank.proofs.Onwards.{carry, carry_in, above, gone, went, goes, loads_in, again}
use Rattle.lane_rank.proofs.Together.{chain_stands, never_shut, stands_unknown, ann_count, left_tail, left_nil}

pub head_is : (w : HeadWord) (a n : ℕ) → OfHead w ≡ OfHead (Ann a n) → w ≡ Ann a n
head_is w a n e = cc e

pub tail_is : (p q : Place) → OfTail p ≡ OfTail q → p ≡ q
tail_is p q e = cc e

pub link_is : (x y : LinkWord) → OfLink x ≡ OfLink y → x ≡ y
link_is x y e = cc e

-- how many values the batch gets, by its old tail
abbrev got : Help → Place → ℕ
got h q = successes_of h.counts (before_it h q)

module _ (z : Shape) (s : State) (L : Lawful (lane_sizes z) s) (c M : ℕ) where
  abbrev G : Ghost
  G = L.ghost

  module _ (t : Point) (is : (s.callers c).point ≡ t) (o i : ℕ) (K : Keeps s t o i) (h : Help) (there : AllThere s o (helped h ∷ [])) where
    -- the announcement that is helped is in HEAD as before, or the rank is greater
    pub kept_ann : AllThere (step_at (lane_sizes z) s c t) o (helped h ∷ [])
    kept_ann = carry z s L c M t is o i K (helped h ∷ []) (tt, tt) there

    on_walk : (m r l : ℕ) → l ≤ M → whole_answer M z + M + 2 < weight M z (s.callers c) t → Onward M z (step_at (lane_sizes z) s c t) (s.callers c) (stepped (s.callers c) (point.Help h (walk_on m r l))) o i
    on_walk m r zero few less = goes z s L c M t is o i K (stepped (s.callers c) (point.Help h (help.MoveHead m r))) (point.Help h (help.MoveHead m r)) refl kept_ann tt (omega arith)
    on_walk m r (suc l) few less = goes z s L c M t is o i K (stepped (s.callers c) (point.Help h (help.LoadWalk m r l))) (point.Help h (help.LoadWalk m r l)) refl kept_ann tt (omega arith)

    pub to_walk : h.counts.deqs ≤ M → (q : Place) → whole_answer M z + M + 2 < weight M z (s.callers c) t → Onward M z (step_at (lane_sizes z) s c t) (s.callers c) (stepped (s.callers c) (point.Help h (walk h q))) o i
    to_walk few q less = by (is_stopped h.counts (before_it h q)) where
      from : (b : Bool) → Onward M z (step_at (lane_sizes z) s c t) (s.callers c) (stepped (s.callers c) (point.Help h (cond b (walk_on (got h q) h.old_head.row (got h q)) (walk_on (got h q) q.row (got h q - before_it h q))))) o i
      from true = on_walk (got h q) h.old_head.row (got h q) (omega arith) less
      from false = on_walk (got h q) q.row (got h q - before_it h q) (omega arith) less

      by : (b : Bool) → Onward M z (step_at (lane_sizes z) s c t) (s.callers c) (stepped (s.callers c) (point.Help h (cond b (help.MoveHead (suc (before_it h q)) h.last) (walk_from h q (before_it h q) (got h q))))) o i
      by true = goes z s L c M t is o i K (stepped (s.callers c) (point.Help h (help.MoveHead (suc (before_it h q)) h.last))) (point.Help h (help.MoveHead (suc (before_it h q)) h.last)) refl kept_ann tt (omega arith)
      by false = from (ltb (got h q) (before_it h q))

    pub to_old : h.counts.deqs ≤ M → (q : Place) → whole_answer M z + M + 5 < weight M z (s.callers c) t → Onward M z (step_at (lane_sizes z) s c t) (s.callers c) (stepped (s.callers c) (point.Help h (at_old_tail h q))) o i
    to_old few q less = by (ltb 0 (linked_rows h.counts (before_it h q))) where
      by : (b : Bool) → Onward M z (step_at (lane_sizes z) s c t) (s.callers c) (stepped (s.callers c) (point.Help h (cond b (help.LoadTailOver q) (walk h q)))) o i
      by true = goes z s L c M t is o i K (stepped (s.callers c) (point.Help h (help.LoadTailOver q))) (point.Help h (help.LoadTailOver q)) refl kept_ann tt (omega arith)
      by false = to_walk few q (omega arith)

  -- it loads what the announcement says
  module _ (h : Help) (o i : ℕ) where
    -- as long as that stands, its old head has the count that HEAD has
    recount : AllThere s o (helped h ∷ []) → AllThere s o (helped (record h { old_head = (s.memory.notice h.ann).old_head }) ∷ [])
    recount there = (by there.0, tt) where
      by : (IsThere s.memory (helped h)) ⊎ (o < rank s) → (IsThere s.memory (helped (record h { old_head = (s.memory.notice h.ann).old_head }))) ⊎ (o < rank s)
      by (inl there) = inl (there ∙ ap (λ (n : ℕ). OfHead (Ann h.ann n)) (sym (ann_count (lane_sizes z) s L h.ann h.old_head.count (head_is s.memory.head h.ann h.old_head.count there))))
      by (inr below) = inr below

    pub help_old_head : (s.callers c).point ≡ point.Help h help.LoadOldHead → Keeps s (point.Help h help.LoadOldHead) o i
        → Onward M z (step_at (lane_sizes z) s c (point.Help h help.LoadOldHead)) (s.callers c) (stepped (s.callers c) (point.Help (record h { old_head = (s.memory.notice h.ann).old_head }) help.LoadFirst)) o i
    help_old_head is K = let y = point.Help (record h { old_head = (s.memory.notice h.ann).old_head }) help.LoadFirst in
        goes z s L c M (point.Help h help.LoadOldHead) is o i K (stepped (s.callers c) y) y refl (carry z s L c M (point.Help h help.LoadOldHead) is o i K (helped (record h { old_head = (s.memory.notice h.ann).old_head }) ∷ []) (tt, tt) (recount K.outer_there)) tt (omega arith)

    pub help_first : (s.callers c).point ≡ point.Help h help.LoadFirst → Keeps s (point.Help h help.LoadFirst) o i
        → Onward M z (step_at (lane_sizes z) s c (point.Help h help.LoadFirst)) (s.callers c) (stepped (s.callers c) (point.Help (record h { first = (s.memory.notice h.ann).first }) help.LoadLast)) o i
    help_first is K = let y = point.Help (record h { first = (s.memory.notice h.ann).first }) help.LoadLast in
        goes z s L c M (point.Help h help.LoadFirst) is o i K (stepped (s.callers c) y) y refl (kept_ann (point.Help h help.LoadFirst) is o i K h K.outer_there) tt (omega arith)

    pub help_last : (s.callers c).point ≡ point.Help h help.LoadLast → Keeps s (point.Help h help.LoadLast) o i
        → Onward M z (step_at (lane_sizes z) s c (point.Help h help.LoadLast)) (s.callers c) (stepped (s.callers c) (point.Help (record h { last = (s.memory.notice h.ann).last }) help.LoadCounts)) o i
    help_last is K = let y = point.Help (record h { last = (s.memory.notice h.ann).last }) help.LoadCounts in
        goes z s L c M (point.Help h help.LoadLast) is o i K (stepped (s.callers c) y) y refl (kept_ann (point.Help h help.LoadLast) is o i K h K.outer_there) tt (omega arith)

    pub help_counts : (s.callers c).point ≡ point.Help h help.LoadCounts → Keeps s (point.Help h help.LoadCounts) o i
        → Onward M z (step_at (lane_sizes z) s c (point.Help h help.LoadCounts)) (s.callers c) (stepped (s.callers c) (point.Help (record h { counts = (s.memory.notice h.ann).counts }) help.LoadTail)) o i
    help_counts is K = let y = point.Help (record h { counts = (s.memory.notice h.ann).counts }) help.LoadTail in
        goes z s L c M (point.Help h help.LoadCounts) is o i K (stepped (s.callers c) y) y refl (kept_ann (point.Help h help.LoadCounts) is o i K h K.outer_there) tt (omega arith)

    -- TAIL is expected to stay, and the rank of now is kept with it
    pub help_tail : (s.callers c).point ≡ point.Help h help.LoadTail → Keeps s (point.Help h help.LoadTail) o i
        → Onward M z (step_at (lane_sizes z) s c (point.Help h help.LoadTail)) (s.callers c) (stepped (s.callers c) (point.Guard (guard.HelpTail h s.memory.tail) StoreHazard)) o i
    help_tail is K = let y = point.Guard (guard.HelpTail h s.memory.tail) StoreHazard in
        loads_in z s L c M (point.Help h help.LoadTail) is o i K (stepped (s.callers c) y) y refl (kept_ann (point.Help h help.LoadTail) is o i K h K.outer_there) (inl refl, tt) (omega arith)

  -- it doesn't know OldTail
  module _ (h : Help) (p : Place) (o i : ℕ) where
    pub help_old_tail : (few : h.counts.deqs ≤ M) → (s.callers c).point ≡ point.Help h (help.LoadOldTail p) → Keeps s (point.Help h (help.LoadOldTail p)) o i → (x : Option Place) → s.memory.old_tail h.ann ≡ x
        → Onward M z (step_at (lane_sizes z) s c (point.Help h (help.LoadOldTail p))) (s.callers c) (stepped (s.callers c) (point.Help h (after_old_tail h p x))) o i
    help_old_tail few is K (Some q) e = to_old (point.Help h (help.LoadOldTail p)) is o i K h K.outer_there few q (omega arith)
    help_old_tail few is K None e = by (has_enough h p) where
      f : AtPoint (lane_sizes z) (world s L.ghost) c (s.callers c) (point.Help h (help.LoadOldTail p))
      f = known (lane_sizes z) s L c (point.Help h (help.LoadOldTail p)) is

      by : (b : Bool) → Onward M z (step_at (lane_sizes z) s c (point.Help h (help.LoadOldTail p))) (s.callers c) (stepped (s.callers c) (point.Help h (cond b (help.Decide p) (help.LoadLink p)))) o i
      by true = goes z s L c M (point.Help h (help.LoadOldTail p)) is o i K (stepped (s.callers c) (point.Help h (help.Decide p))) (point.Help h (help.Decide p)) refl (kept_ann (point.Help h (help.LoadOldTail p)) is o i K h K.outer_there)
          (carry_in z s L c M (point.Help h (help.LoadOldTail p)) is o i K (not_recorded h.ann ∷ []) ((λ w. w), tt) (inl (ap OfOldTail e), tt)) (omega arith)
      by false = goes z s L c M (point.Help h (help.LoadOldTail p)) is o i K (stepped (s.callers c) (point.Help h (help.LoadLink p))) (point.Help h (help.LoadLink p)) refl (kept_ann (point.Help h (help.LoadOldTail p)) is o i K h K.outer_there)
          (carry_in z s L c M (point.Help h (help.LoadOldTail p)) is o i K (helped h ∷ tail_at p ∷ not_recorded h.ann ∷ []) (tt, (tt, ((λ w. w), tt)))
          (inl (ap OfHead (stands_unknown (lane_sizes z) s L h.ann h.old_head f.call.0.installed (f.call.0.old_head (omega arith)) e)), (K.inner_there.0, (inl (ap OfOldTail e), tt)))) (omega arith)

    -- behind the tail that was read a chain is linked that isn't that of the announcement: TAIL or HEAD has another word now
    other_chain : (is : (s.callers c).point ≡ point.Help h (help.LoadLink p)) → (K : Keeps s (point.Help h (help.LoadLink p)) o i) → (n : ℕ) → s.memory.link p.row ≡ Chain n → eqb n h.first ≡ false → i < rank (step_at (lane_sizes z) s c (point.Help h (help.LoadLink p)))
    other_chain is K n e apart = by K.inner_there.0 where
      f : AtPoint (lane_sizes z) (world s L.ghost) c (s.callers c) (point.Help h (help.LoadLink p))
      f = known (lane_sizes z) s L c (point.Help h (help.LoadLink p)) is

      never : s.memory.head ≡ Ann h.ann h.old_head.count → s.memory.tail ≡ p → ⊥
      never head tail = let x = chain_stands (lane_sizes z) s L n (ap (λ (q : Place). s.memory.link q.row) tail ∙ e) in let same : x.0 ≡ h.ann = one_some (sym x.1 ∙ ann_stands (lane_sizes z) s L c h.ann h.old_head.count head) in
          let B = L.announced.bound x.0 G.tail x.2 in let first : n ≡ h.first = sym x.4 ∙ (B.starts x.3 ∙ (ap (λ (a : ℕ). (s.memory.notice a).first) same ∙ f.call.0.first (omega arith))) in eqb-false n h.first apart first

      by : (IsThere s.memory (helped h)) ⊎ (i < rank s) → i < rank (step_at (lane_sizes z) s c (point.Help h (help.LoadLink p)))
      by (inl head) = gone z s L c M (point.Help h (help.LoadLink p)) is o i K i (tail_at p) K.inner_there.1.0 (λ tail. never (head_is s.memory.head h.ann h.old_head.count head) (tail_is s.memory.tail p tail))
      by (inr below) = above z s L c M (point.Help h (help.LoadLink p)) is o i K i below

    pub help_link : (s.callers c).point ≡ point.Help h (help.LoadLink p) → Keeps s (point.Help h (help.LoadLink p)) o i → (l : LinkWord) → s.memory.link p.row ≡ l
        → Onward M z (step_at (lane_sizes z) s c (point.Help h (help.LoadLink p))) (s.callers c) (stepped (s.callers c) (point.Help h (after_link h p l))) o i
    help_link is K Nil e = goes z s L c M (point.Help h (help.LoadLink p)) is o i K (stepped (s.callers c) (point.Help h (help.LinkChain p))) (point.Help h (help.LinkChain p)) refl (kept_ann (point.Help h (help.LoadLink p)) is o i K h K.outer_there)
        (carry_in z s L c M (point.Help h (help.LoadLink p)) is o i K (nil_behind p ∷ []) (linked_spot (lane_sizes z) s L c p (known (lane_sizes z) s L c (point.Help h (help.LoadLink p)) is).here.0, tt) (inl (ap OfLink e), tt)) (omega arith)
    help_link is K (Single n) e = goes z s L c M (point.Help h (help.LoadLink p)) is o i K (stepped (s.callers c) (point.Help h (help.PassTail p n))) (point.Help h (help.PassTail p n)) refl (kept_ann (point.Help h (help.LoadLink p)) is o i K h K.outer_there)
        (carry_in z s L c M (point.Help h (help.LoadLink p)) is o i K (tail_at p ∷ []) (tt, tt) (K.inner_there.1.0, tt)) (omega arith)
    help_link is K (Chain n) e = by (eqb n h.first) refl where
      by : (b : Bool) → eqb n h.first ≡ b → Onward M z (step_at (lane_sizes z) s c (point.Help h (help.LoadLink p))) (s.callers c) (stepped (s.callers c) (point.Help h (cond b (help.RecordTail p) help.LoadTail))) o i
      by true _ = goes z s L c M (point.Help h (help.LoadLink p)) is o i K (stepped (s.callers c) (point.Help h (help.RecordTail p))) (point.Help h (help.RecordTail p)) refl (kept_ann (point.Help h (help.LoadLink p)) is o i K h K.outer_there)
          (carry_in z s L c M (point.Help h (help.LoadLink p)) is o i K (not_recorded h.ann ∷ []) ((λ w. w), tt) K.inner_there.1.1) (omega arith)
      by false apart = again z s L c M (point.Help h (help.LoadLink p)) is o i K (stepped (s.callers c) (point.Help h help.LoadTail)) (point.Help h help.LoadTail) refl (kept_ann (point.Help h (help.LoadLink p)) is o i K h K.outer_there) tt (other_chain is K n e apart) (omega arith)
    help_link is K Shut e = absurd (never_shut (lane_sizes z) s L c p (known (lane_sizes z) s L c (point.Help h (help.LoadLink p)) is).here.0 e)

    -- after the exchange the link isn't Nil, whatever was found
    pub link_chain : (s.callers c).point ≡ point.Help h (help.LinkChain p) → Keeps s (point.Help h (help.LinkChain p)) o i
        → Onward M z (step_at (lane_sizes z) s c (point.Help h (help.LinkChain p))) (s.callers c) (stepped (s.callers c) (point.Help h help.LoadTail)) o i
    link_chain is K = again z s L c M (point.Help h (help.LinkChain p)) is o i K (stepped (s.callers c) (point.Help h help.LoadTail)) (point.Help h help.LoadTail) refl (kept_ann (point.Help h (help.LinkChain p)) is o i K h K.outer_there) tt
        (went z s L c M (point.Help h (help.LinkChain p)) is o i K i (nil_behind p) (linked_spot (lane_sizes z) s L c p (known (lane_sizes z) s L c (point.Help h (help.LinkChain p)) is).here.0) K.inner_past K.inner_there.0
        (λ e. left_nil (Chain h.first) (s.memory.link p.row) refl (sym (put_here s.memory.link p.row (link_in (cond (is_nil (s.memory.link p.row)) (OfLink (Chain h.first)) (OfLink (s.memory.link p.row))))) ∙ link_is _ _ e))) (omega arith)

    -- nor does TAIL name its old place
    pub help_pass : (n : ℕ) → (s.callers c).point ≡ point.Help h (help.PassTail p n) → Keeps s (point.Help h (help.PassTail p n)) o i
        → Onward M z (step_at (lane_sizes z) s c (point.Help h (help.PassTail p n))) (s.callers c) (stepped (s.callers c) (point.Help h help.LoadTail)) o i
    help_pass n is K = again z s L c M (point.Help h (help.PassTail p n)) is o i K (stepped (s.callers c) (point.Help h help.LoadTail)) (point.Help h help.LoadTail) refl (kept_ann (point.Help h (help.PassTail p n)) is o i K h K.outer_there) tt
        (went z s L c M (point.Help h (help.PassTail p n)) is o i K i (tail_at p) tt K.inner_past K.inner_there.0 (λ e. left_tail s.memory.tail p n (same_place s.memory.tail p) refl (tail_is _ _ e))) (omega arith)
