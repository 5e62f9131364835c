-- The rank as it is told of: by what is decided, and by where TAIL is.
use Rattle.std.proofs.Common.{◌≡◌, ℕ, eq-eqb, ltb, not, ◌||◌, sym, refl, ap, ◌∙◌, arith, Option, Some, None}
use Rattle.word_rows.specs.declared.place.Place.{Place}
use Rattle.word_rows.specs.declared.head_word.HeadWord.{HeadWord}
use Rattle.word_rows.specs.declared.head_word.HeadWord.TheVariants.{Ann}
use Rattle.word_rows.specs.declared.link_word.LinkWord.{LinkWord}
use Rattle.word_rows.specs.declared.link_word.LinkWord.TheVariants.{Nil, Single, Chain, Shut}
use Rattle.lane_steps.specs.Act.{is_unknown}
use Rattle.lane_steps.specs.LaneSizes.{LaneSizes}
use Rattle.lane_steps.specs.State.{State}
use Rattle.core_model.specs.Lawful.{Lawful}
use Rattle.core_model.specs.Shown.{is_decided, is_chain_of}
use Rattle.core_model.proofs.Rely.{one_some}
use Rattle.core_model.proofs.Standings.{stands_there}
use Rattle.lane_rank.specs.Rank.{ann_stage, head_stage, stage_of}
use Rattle.lane_rank.proofs.Together.{chain_stands}

module _ (z : LaneSizes) (s : State) (L : Lawful z s) where
  -- a Chain link of TAIL's row is that of First of the announcement in HEAD; and its OldTail, where that is known, is TAIL
  pub chain_is_its : (a n r : ℕ) → s.memory.head ≡ Ann a n → s.memory.link s.memory.tail.row ≡ Chain r → r ≡ (s.memory.notice a).first
  chain_is_its a n r head link = let x = chain_stands z s L r link in let same : x.0 ≡ a = one_some (sym x.1 ∙ stands_there z s L a n head) in
      sym x.4 ∙ ((L.announced.bound x.0 L.ghost.tail x.2).starts x.3 ∙ ap (λ (b : ℕ). (s.memory.notice b).first) same)

  pub old_tail_is_tail : (a n r : ℕ) (q : Place) → s.memory.head ≡ Ann a n → s.memory.link s.memory.tail.row ≡ Chain r → s.memory.old_tail a ≡ Some q → s.memory.tail ≡ q
  old_tail_is_tail a n r q head link old = let x = chain_stands z s L r link in let same : x.0 ≡ a = one_some (sym x.1 ∙ stands_there z s L a n head) in
      L.list.tail.named ∙ sym (L.announced.recorded x.0 L.ghost.tail q x.2 (ap s.memory.old_tail same ∙ old))

  module _ (a n : ℕ) (head : s.memory.head ≡ Ann a n) where
    -- the stage by the two other words
    stage : (o : Option Place) → s.memory.old_tail a ≡ o → (l : LinkWord) → s.memory.link s.memory.tail.row ≡ l → stage_of s.memory ≡ ann_stage o l
    stage o at_o l at_l = ap (λ (h : HeadWord). head_stage h s.memory.old_tail (s.memory.link s.memory.tail.row)) head ∙ (λ j. ann_stage (at_o j) (at_l j))

    -- it is decided where the stage is below 4
    pub decided_below : is_decided s.memory a ≡ ltb (stage_of s.memory) 4
    decided_below = by (s.memory.old_tail a) refl (s.memory.link s.memory.tail.row) refl where
      table : (o : Option Place) (l : LinkWord) → ((r : ℕ) → l ≡ Chain r → r ≡ (s.memory.notice a).first) → (not (is_unknown o) || is_chain_of l (s.memory.notice a).first) ≡ ltb (ann_stage o l) 4
      table None Nil its = refl
      table None (Single r) its = refl
      table None (Chain r) its = eq-eqb r (s.memory.notice a).first (its r refl)
      table None Shut its = refl
      table (Some q) Nil its = refl
      table (Some q) (Single r) its = refl
      table (Some q) (Chain r) its = refl
      table (Some q) Shut its = refl

      by : (o : Option Place) → s.memory.old_tail a ≡ o → (l : LinkWord) → s.memory.link s.memory.tail.row ≡ l → is_decided s.memory a ≡ ltb (stage_of s.memory) 4
      by o at_o l at_l = (λ j. not (is_unknown (at_o j)) || is_chain_of (at_l j) (s.memory.notice a).first) ∙ (table o l (λ r e. chain_is_its a n r head (at_l ∙ e)) ∙ ap (λ (k : ℕ). ltb k 4) (sym (stage o at_o l at_l)))

    -- at stage 0 the Chain at TAIL is to First of the announcement, and at stage 1 TAIL is OldTail
    pub chain_at_none : stage_of s.memory ≡ 0 → s.memory.link s.memory.tail.row ≡ Chain (s.memory.notice a).first
    chain_at_none none = by (s.memory.old_tail a) refl (s.memory.link s.memory.tail.row) refl where
      by : (o : Option Place) → s.memory.old_tail a ≡ o → (l : LinkWord) → s.memory.link s.memory.tail.row ≡ l → s.memory.link s.memory.tail.row ≡ Chain (s.memory.notice a).first
      by None at_o (Chain r) at_l = at_l ∙ ap Chain (chain_is_its a n r head at_l)
      by None at_o Nil at_l = let e = sym (stage None at_o Nil at_l) ∙ none in absurd (omega arith)
      by None at_o (Single r) at_l = let e = sym (stage None at_o (Single r) at_l) ∙ none in absurd (omega arith)
      by None at_o Shut at_l = let e = sym (stage None at_o Shut at_l) ∙ none in absurd (omega arith)
      by (Some q) at_o Nil at_l = let e = sym (stage (Some q) at_o Nil at_l) ∙ none in absurd (omega arith)
      by (Some q) at_o (Single r) at_l = let e = sym (stage (Some q) at_o (Single r) at_l) ∙ none in absurd (omega arith)
      by (Some q) at_o (Chain r) at_l = let e = sym (stage (Some q) at_o (Chain r) at_l) ∙ none in absurd (omega arith)
      by (Some q) at_o Shut at_l = let e = sym (stage (Some q) at_o Shut at_l) ∙ none in absurd (omega arith)

    pub tail_at_one : stage_of s.memory ≡ 1 → s.memory.old_tail a ≡ Some s.memory.tail
    tail_at_one one = by (s.memory.old_tail a) refl (s.memory.link s.memory.tail.row) refl where
      by : (o : Option Place) → s.memory.old_tail a ≡ o → (l : LinkWord) → s.memory.link s.memory.tail.row ≡ l → s.memory.old_tail a ≡ Some s.memory.tail
      by (Some q) at_o (Chain r) at_l = at_o ∙ ap Some (sym (old_tail_is_tail a n r q head at_l at_o))
      by None at_o (Chain r) at_l = let e = sym (stage None at_o (Chain r) at_l) ∙ one in absurd (omega arith)
      by None at_o Nil at_l = let e = sym (stage None at_o Nil at_l) ∙ one in absurd (omega arith)
      by None at_o (Single r) at_l = let e = sym (stage None at_o (Single r) at_l) ∙ one in absurd (omega arith)
      by None at_o Shut at_l = let e = sym (stage None at_o Shut at_l) ∙ one in absurd (omega arith)
      by (Some q) at_o Nil at_l = let e = sym (stage (Some q) at_o Nil at_l) ∙ one in absurd (omega arith)
      by (Some q) at_o (Single r) at_l = let e = sym (stage (Some q) at_o (Single r) at_l) ∙ one in absurd (omega arith)
      by (Some q) at_o Shut at_l = let e = sym (stage (Some q) at_o Shut at_l) ∙ one in absurd (omega arith)
