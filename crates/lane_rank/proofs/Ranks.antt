-- There are eight stages, and a step that leaves what callers share leaves the rank.
use Rattle.std.proofs.Common.{◌≡◌, ℕ, ◌<◌, sym, refl, ap, ◌∙◌, arith, Option, Some, None}
use Rattle.word_rows.specs.declared.place.Place.{Place}
use Rattle.word_rows.specs.declared.head_word.HeadWord.{HeadWord}
use Rattle.word_rows.specs.declared.head_word.HeadWord.TheVariants.{Node, Ann}
use Rattle.word_rows.specs.declared.link_word.LinkWord.{LinkWord}
use Rattle.word_rows.specs.declared.link_word.LinkWord.TheVariants.{Nil, Single, Chain, Shut}
use Rattle.lane_steps.specs.declared.point.Point.{Point}
use Rattle.lane_steps.specs.LaneSizes.{LaneSizes}
use Rattle.lane_steps.specs.State.{Memory, State}
use Rattle.core_model.specs.Ghost.{unused}
use Rattle.core_model.specs.Lawful.{Lawful}
use Rattle.core_model.proofs.Rely.{some_none}
use Rattle.core_model.proofs.Standings.{stands_there}
use Rattle.lane_rank.specs.Rank.{free_stage, ann_stage, head_stage, stage_of, rank_of, rank, Writes, Rests}

free_below : (l : LinkWord) → free_stage l < 8
free_below Nil = omega arith
free_below (Single r) = omega arith
free_below (Chain r) = omega arith
free_below Shut = omega arith

ann_below : (o : Option Place) (l : LinkWord) → ann_stage o l < 8
ann_below None Nil = omega arith
ann_below None (Single r) = omega arith
ann_below None (Chain r) = omega arith
ann_below None Shut = omega arith
ann_below (Some q) Nil = omega arith
ann_below (Some q) (Single r) = omega arith
ann_below (Some q) (Chain r) = omega arith
ann_below (Some q) Shut = omega arith

head_below : (h : HeadWord) (o : ℕ → Option Place) (l : LinkWord) → head_stage h o l < 8
head_below (Node p) o l = free_below l
head_below (Ann a n) o l = ann_below (o a) l

pub stage_below : (m : Memory) → stage_of m < 8
stage_below m = head_below m.head m.old_tail (m.link m.tail.row)

-- the stage rises where the lag of TAIL ends
ann_ends_lag : (o : Option Place) (n : ℕ) → ann_stage o (Single n) < ann_stage o Nil
ann_ends_lag None n = omega arith
ann_ends_lag (Some q) n = omega arith

pub ends_lag : (h : HeadWord) (o : ℕ → Option Place) (n : ℕ) → head_stage h o (Single n) < head_stage h o Nil
ends_lag (Node p) o n = omega arith
ends_lag (Ann a k) o n = ann_ends_lag (o a) n

-- it goes by OldTail of the announcement in HEAD alone
pub head_stage_same : (h : HeadWord) (o o' : ℕ → Option Place) (l : LinkWord) → ((a n : ℕ) → h ≡ Ann a n → o' a ≡ o a) → head_stage h o' l ≡ head_stage h o l
head_stage_same (Node p) o o' l same = refl
head_stage_same (Ann a n) o o' l same = ap (λ (x : Option Place). ann_stage x l) (same a n refl)

module _ (z : LaneSizes) (s : State) (L : Lawful z s) where
  -- TAIL's row has a position, and the announcement in HEAD is installed
  pub tail_linked : L.ghost.spot s.memory.tail.row ≡ None → ⊥
  tail_linked e = let within = L.list.tail.within in some_none (sym (L.list.rows.spots L.ghost.tail L.list.tail.after_head (omega arith)) ∙ (ap (λ (p : Place). L.ghost.spot p.row) (sym L.list.tail.named) ∙ e))

  pub head_installed : (a n : ℕ) → s.memory.head ≡ Ann a n → L.ghost.stage a ≡ unused → ⊥
  head_installed a n is = L.announced.installed a (stands_there z s L a n is)

  -- where the step at t doesn't write the announcement in HEAD
  module _ (t : Point) (aside : (a n : ℕ) → s.memory.head ≡ Ann a n → Writes t a → ⊥) (m : Memory) (R : Rests t L.ghost s.memory m) where
    rests_stage : stage_of m ≡ stage_of s.memory
    rests_stage = (λ i. head_stage (R.head i) m.old_tail (m.link (R.tail i).row))
        ∙ (ap (head_stage s.memory.head m.old_tail) (R.links s.memory.tail.row tail_linked)
        ∙ head_stage_same s.memory.head s.memory.old_tail m.old_tail (s.memory.link s.memory.tail.row) (λ a n is. R.old_tails a (aside a n is)))

    pub rests_rank : rank_of m s.history ≡ rank s
    rests_rank = let same = rests_stage in omega arith

  pub all_rest : (t : Point) → Rests t L.ghost s.memory s.memory
  all_rest t = record { head = refl; tail = refl; links = λ _ _. refl; old_tails = λ _ _. refl }
