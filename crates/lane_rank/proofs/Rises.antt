-- Steps that move TAIL, install an announcement, record its old tail or let it leave HEAD raise the rank.
use Rattle.std.proofs.Common.{◌≡◌, ◌⊎◌, inl, inr, ℕ, suc, ◌+◌, ◌<◌, ◌≤◌, Bool, true, false, sym, refl, ap, ◌∙◌, subst, arith, Option, Some, None}
use mathlib.Core.Logic.{dite}
use native.Mathlib.Decide.{dec_le}
use Rattle.word_rows.specs.declared.place.Place.{Place}
use Rattle.word_rows.specs.declared.head_word.HeadWord.{HeadWord}
use Rattle.word_rows.specs.declared.head_word.HeadWord.TheVariants.{Node, Ann}
use Rattle.word_rows.specs.declared.link_word.LinkWord.{LinkWord}
use Rattle.word_rows.specs.declared.link_word.LinkWord.TheVariants.{Nil, Single, Chain}
use Rattle.lane_steps.specs.declared.point.Help.{Help}
use Rattle.lane_steps.specs.Act.{behind, far_behind}
use Rattle.lane_steps.specs.Fact.{next_is, by_single, reads, old_tail_is, has_links, is_old_tail}
use Rattle.lane_steps.specs.Functions.{put}
use Rattle.lane_steps.specs.Help.{before_it}
use Rattle.lane_steps.specs.LaneSizes.{LaneSizes}
use Rattle.lane_steps.specs.State.{State}
use Rattle.lane_steps.specs.Stopper.{linked_rows}
use Rattle.core_model.specs.Facts.{Holds}
use Rattle.core_model.specs.Ghost.{Stage, unused, waiting, decided, Ghost, joint}
use Rattle.core_model.specs.Lawful.{head_word, Lawful}
use Rattle.core_model.proofs.HelpMoves.{stands, end, some, tail_is}
use Rattle.core_model.proofs.Puts.{put_here}
use Rattle.core_model.proofs.Rely.{world, one_position, one_some}
use Rattle.core_model.proofs.Standings.{stands_there}
use Rattle.lane_rank.specs.Rank.{free_stage, ann_stage, head_stage, stage_of}
use Rattle.lane_rank.proofs.Ranks.{ends_lag}

free_waits : (l : LinkWord) → (l ≡ Nil) ⊎ ((r : ℕ) × (l ≡ Single r)) → free_stage l < ann_stage None l
free_waits l (inl e) = subst (λ (l : LinkWord). free_stage l < ann_stage None l) (sym e) (omega arith)
free_waits l (inr e) = subst (λ (l : LinkWord). free_stage l < ann_stage None l) (sym e.1) (omega arith)

decided_free : (q : Place) (l : LinkWord) → (l ≡ Nil) ⊎ ((r : ℕ) × (l ≡ Single r)) → ann_stage (Some q) l < free_stage l
decided_free q l (inl e) = subst (λ (l : LinkWord). ann_stage (Some q) l < free_stage l) (sym e) (omega arith)
decided_free q l (inr e) = subst (λ (l : LinkWord). ann_stage (Some q) l < free_stage l) (sym e.1) (omega arith)

module _ (z : LaneSizes) (s : State) (L : Lawful z s) where
  abbrev G : Ghost
  G = L.ghost

  -- HEAD's word by what stands in it
  head_is : (a : ℕ) → L.ghost.ann ≡ Some a → s.memory.head ≡ Ann a (z.first + L.ghost.head)
  head_is a e = L.list.head.named ∙ ap (head_word z.first G.path G.head) e

  no_ann_there : (p : Place) → s.memory.head ≡ Node p → (a : ℕ) → L.ghost.ann ≡ Some a → ⊥
  no_ann_there p node a e = never (sym node ∙ head_is a e) where
    never : Node p ≡ Ann a (z.first + G.head) → ⊥
    never e = cc e

  -- the link of TAIL's row
  tail_link : (l : LinkWord) → s.memory.link (L.ghost.path L.ghost.tail) ≡ l → s.memory.link s.memory.tail.row ≡ l
  tail_link l e = ap (λ (p : Place). s.memory.link p.row) L.list.tail.named ∙ e

  -- where TAIL's row has no Chain link
  pub no_chain : (L.ghost.tail < L.ghost.head + L.ghost.rest → L.ghost.chained L.ghost.tail ≡ true → ⊥)
      → (s.memory.link s.memory.tail.row ≡ Nil) ⊎ ((r : ℕ) × (s.memory.link s.memory.tail.row ≡ Single r))
  no_chain never = dite (dec_le (suc G.tail) (G.head + G.rest))
      (λ lags. inr (by (G.chained G.tail) refl lags))
      (λ end. inl (tail_link Nil (ap (λ (i : ℕ). s.memory.link (G.path i)) (let in_list = L.list.tail.within in let e : G.tail ≡ G.head + G.rest = omega arith in e) ∙ L.list.rows.last))) where
        by : (b : Bool) → G.chained G.tail ≡ b → G.tail < G.head + G.rest → (r : ℕ) × (s.memory.link s.memory.tail.row ≡ Single r)
        by true e lags = absurd (never lags e)
        by false e lags = (G.path (suc G.tail), tail_link (Single (G.path (suc G.tail))) (L.list.rows.joined G.tail L.list.tail.after_head lags ∙ ap (λ (b : Bool). joint b (G.path (suc G.tail))) e))

  -- the tail moves by one
  pub tail_rises : (c : ℕ) (p : Place) (n : ℕ) → Holds z (world s L.ghost) c (next_is p n) → Holds z (world s L.ghost) c (by_single p) → s.memory.tail ≡ p
      → stage_of s.memory < stage_of (record s.memory { tail = behind p n })
  tail_rises c p n next single is = subst (λ (l : LinkWord). head_stage s.memory.head s.memory.old_tail l < head_stage s.memory.head s.memory.old_tail (s.memory.link n)) (sym before)
      (subst (λ (l : LinkWord). head_stage s.memory.head s.memory.old_tail (Single n) < head_stage s.memory.head s.memory.old_tail l) (sym behind_it) (ends_lag s.memory.head s.memory.old_tail n)) where
        count : p.count ≡ z.first + G.tail
        count = ap (λ (q : Place). q.count) (sym is ∙ L.list.tail.named)

        inside : G.tail < G.head + G.rest
        inside = let below = (next.there G.tail count).0 in omega arith

        before : s.memory.link s.memory.tail.row ≡ Single n
        before = tail_link (Single n) (L.list.rows.joined G.tail L.list.tail.after_head inside ∙ (λ i. joint ((single G.tail count).1 i) ((next.there G.tail count).1 i)))

        end_is : suc G.tail ≡ G.head + G.rest
        end_is = let below = inside in let last = L.list.tail.lags inside (single G.tail count).1 in omega arith

        behind_it : s.memory.link n ≡ Nil
        behind_it = ap s.memory.link (sym (next.there G.tail count).1) ∙ (ap (λ (i : ℕ). s.memory.link (G.path i)) end_is ∙ L.list.rows.last)

  -- an announcement of which OldTail isn't known comes into HEAD
  pub install_rises : (p : Place) (a n : ℕ) → s.memory.head ≡ Node p → s.memory.old_tail a ≡ None
      → stage_of s.memory < stage_of (record s.memory { head = Ann a n })
  install_rises p a n node none = subst (λ (x : HeadWord × Option Place). head_stage x.0 s.memory.old_tail (s.memory.link s.memory.tail.row) < ann_stage x.1 (s.memory.link s.memory.tail.row)) (λ i. (sym node i, sym none i))
      (free_waits (s.memory.link s.memory.tail.row) (no_chain (λ lags by. let x = L.announced.lags lags by in no_ann_there p node x.0 x.2)))

  -- a decided announcement leaves HEAD
  pub leaving_rises : (a i n : ℕ) (q p : Place) → L.ghost.stage a ≡ decided i → s.memory.head ≡ Ann a n → s.memory.old_tail a ≡ Some q → i + L.ghost.span a ≤ L.ghost.tail
      → stage_of s.memory < stage_of (record s.memory { head = Node p })
  leaving_rises a i n q p at_i head old over = subst (λ (x : HeadWord). head_stage x s.memory.old_tail (s.memory.link s.memory.tail.row) < free_stage (s.memory.link s.memory.tail.row)) (sym head)
      (subst (λ (o : Option Place). ann_stage o (s.memory.link s.memory.tail.row) < free_stage (s.memory.link s.memory.tail.row)) (sym old)
      (decided_free q (s.memory.link s.memory.tail.row) (no_chain (λ lags by. let x = L.announced.lags lags by in let same : x.0 ≡ a = one_some (sym x.2 ∙ stands_there z s L a n head) in
      let here : G.tail ≡ i = one_position (ap G.stage (sym same) ∙ x.1) at_i in let span = ap G.span same in let all = x.3 in absurd (omega arith)))))

  -- OldTail gets known
  pub record_rises : (c a : ℕ) (p : Place) → Holds z (world s L.ghost) c (is_old_tail a p) → s.memory.old_tail a ≡ None
      → stage_of s.memory < stage_of (record s.memory { old_tail = put s.memory.old_tail a (Some p) })
  record_rises c a p old none = by (G.stage a) refl where
    decided_rises : (i : ℕ) → G.stage a ≡ decided i → stage_of s.memory < stage_of (record s.memory { old_tail = put s.memory.old_tail a (Some p) })
    decided_rises i e = let u = L.announced.unrecorded a i e none in let some = u.2 in let B = L.announced.bound a i e in let reached = B.reached in let here : G.tail ≡ i = (let before = u.1 in omega arith) in
        let chain : s.memory.link s.memory.tail.row ≡ Chain (G.path (suc G.tail)) = tail_link (Chain (G.path (suc G.tail))) (L.list.rows.joined G.tail L.list.tail.after_head (let within = B.within in omega arith)
        ∙ ap (λ (b : Bool). joint b (G.path (suc G.tail))) (ap G.chained here ∙ B.by_chain some)) in
        subst (λ (x : HeadWord × LinkWord). head_stage x.0 s.memory.old_tail x.1 < head_stage x.0 (put s.memory.old_tail a (Some p)) x.1) (λ j. (sym (head_is a u.0) j, sym chain j))
        (subst (λ (x : Option Place × Option Place). ann_stage x.0 (Chain (G.path (suc G.tail))) < ann_stage x.1 (Chain (G.path (suc G.tail)))) (λ j. (sym none j, sym (put_here s.memory.old_tail a (Some p)) j)) (omega arith))

    by : (x : Stage) → G.stage a ≡ x → stage_of s.memory < stage_of (record s.memory { old_tail = put s.memory.old_tail a (Some p) })
    by unused e = absurd (old.0 e)
    by waiting e = let x = old.1 (L.announced.waits a e).0 in decided_rises x.position x.is_decided
    by (decided i) e = decided_rises i e

  -- TAIL moves over the rows of the announcement
  pub over_rises : (c : ℕ) (h : Help) (q : Place) → Holds z (world s L.ghost) c (reads 4 h) → Holds z (world s L.ghost) c (old_tail_is h.ann q) → Holds z (world s L.ghost) c (has_links h q) → s.memory.tail ≡ q
      → stage_of s.memory < stage_of (record s.memory { tail = far_behind q h.last (linked_rows h.counts (before_it h q)) })
  over_rises c h q reading old links is = subst (λ (x : HeadWord × LinkWord). head_stage x.0 s.memory.old_tail x.1 < head_stage x.0 s.memory.old_tail (s.memory.link h.last)) (λ j. (sym (head_is h.ann there) j, sym chain j))
      (subst (λ (x : Option Place × LinkWord). ann_stage x.0 (Chain (G.path (suc G.tail))) < ann_stage x.0 x.1) (λ j. (sym old.old_tail j, sym last j)) (omega arith)) where
        there : L.ghost.ann ≡ Some h.ann
        there = stands z s L c h q reading old links is

        at_end : L.ghost.tail + L.ghost.span h.ann ≡ L.ghost.head + L.ghost.rest
        at_end = end z s L c h q reading old links is

        positive : 0 < L.ghost.span h.ann
        positive = some z s L c h q reading old links is

        here : L.ghost.tail ≡ old.position
        here = tail_is z s L c h q reading old links is

        chain : s.memory.link s.memory.tail.row ≡ Chain (G.path (suc G.tail))
        chain = let B = L.announced.bound h.ann old.position old.is_decided in tail_link (Chain (G.path (suc G.tail))) (L.list.rows.joined G.tail L.list.tail.after_head (let e = at_end in let p = positive in omega arith)
            ∙ ap (λ (b : Bool). joint b (G.path (suc G.tail))) (ap G.chained here ∙ B.by_chain positive))

        last : s.memory.link h.last ≡ Nil
        last = let B = L.announced.bound h.ann old.position old.is_decided in
            sym (ap s.memory.link (ap G.path (let e = at_end in let t = here in let f : G.head + G.rest ≡ old.position + G.span h.ann = omega arith in f) ∙ (B.ends positive ∙ reading.last (omega arith)))) ∙ L.list.rows.last
