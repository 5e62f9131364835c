-- Words of a lawful lane that are there together, and words that can't be.
use Rattle.std.proofs.Common.{◌≡◌, ◌≢◌, ℕ, suc, ◌+◌, ◌<◌, Bool, true, false, cond, sym, refl, ap, ◌∙◌, arith, Some, None}
use mathlib.Core.Logic.{dite}
use native.Mathlib.Decide.{dec_le}
use Rattle.word_rows.specs.declared.place.Place.{Place}
use Rattle.word_rows.specs.declared.head_word.HeadWord.{HeadWord}
use Rattle.word_rows.specs.declared.head_word.HeadWord.TheVariants.{Node, Ann}
use Rattle.word_rows.specs.declared.link_word.LinkWord.{LinkWord}
use Rattle.word_rows.specs.declared.link_word.LinkWord.TheVariants.{Nil, Single, Chain, Shut}
use Rattle.word_rows.specs.declared.content.Content.{Content}
use Rattle.word_rows.specs.declared.content.Content.TheVariants.{OfHead, OfTail, OfLink}
use Rattle.lane_steps.specs.LaneSizes.{LaneSizes}
use Rattle.lane_steps.specs.State.{State, tail_in, head_in, link_in}
use Rattle.lane_steps.specs.Act.{same_content, same_place, is_node, is_ann, is_nil, behind}
use Rattle.lane_steps.specs.Fact.{linked}
use Rattle.core_model.specs.Ghost.{Stage, unused, waiting, decided, positions, joint, Ghost}
use Rattle.core_model.specs.Facts.{Holds}
use Rattle.core_model.specs.Lawful.{head_word, Lawful}
use Rattle.core_model.proofs.HelpWalk.{same_place_refl}
use Rattle.core_model.proofs.Lookups.{node_found, ann_stands}
use Rattle.core_model.proofs.Rely.{world, some_none, true_false}
use Rattle.core_model.proofs.Sames.{content_self}

-- a place isn't the one behind it
pub not_behind : (p : Place) (n : ℕ) → behind p n ≡ p → ⊥
not_behind p n e = let same = ap (λ (q : Place). q.count) e in absurd (omega arith)

-- what isn't the same by its test isn't it
pub not_same : (x y : Content) → same_content x y ≡ false → x ≡ y → ⊥
not_same x y off e = true_false (sym (content_self y) ∙ (ap (λ (a : Content). same_content a y) (sym e) ∙ off))

pub not_nil : (l : LinkWord) → is_nil l ≡ false → l ≡ Nil → ⊥
not_nil l off e = true_false (sym (ap is_nil e) ∙ off)

pub not_node : (w : HeadWord) (p : Place) → is_node w p ≡ false → w ≡ Node p → ⊥
not_node w p off e = true_false (sym (same_place_refl p p refl) ∙ (sym (ap (λ (x : HeadWord). is_node x p) e) ∙ off))

pub not_ann : (w : HeadWord) (a n : ℕ) → is_ann w a n ≡ false → w ≡ Ann a n → ⊥
not_ann w a n off e = not_same (OfHead w) (OfHead (Ann a n)) off (ap OfHead e)

-- After an exchange from what was expected to something else the word hasn't that, whatever was found.
-- TAIL has left p
pub left_tail : (t p : Place) (n : ℕ) (b : Bool) → same_place t p ≡ b → tail_in (cond b (OfTail (behind p n)) (OfTail t)) ≡ p → ⊥
left_tail t p n true e is = not_behind p n is
left_tail t p n false e is = true_false (sym (same_place_refl t p is) ∙ e)

-- the link isn't Nil
pub left_nil : (new l : LinkWord) → is_nil new ≡ false → link_in (cond (is_nil l) (OfLink new) (OfLink l)) ≡ Nil → ⊥
left_nil new Nil off e = not_nil new off e
left_nil new (Single r) off e = absurd (cc e)
left_nil new (Chain r) off e = absurd (cc e)
left_nil new Shut off e = absurd (cc e)

-- HEAD doesn't name the announcement
pub left_ann : (w : HeadWord) (a n : ℕ) (p : Place) (b : Bool) → is_ann w a n ≡ b → head_in (cond b (OfHead (Node p)) (OfHead w)) ≡ Ann a n → ⊥
left_ann w a n p true e is = absurd (cc is)
left_ann w a n p false e is = not_ann w a n e is

module _ (z : LaneSizes) (s : State) (L : Lawful z s) where
  abbrev G : Ghost
  G = L.ghost

  -- a Chain link of TAIL's row is that to the rows of the decided announcement that stands
  pub chain_stands : (r : ℕ) → s.memory.link s.memory.tail.row ≡ Chain r
      → (a : ℕ) × (L.ghost.ann ≡ Some a) × (L.ghost.stage a ≡ decided L.ghost.tail) × (0 < L.ghost.span a) × (L.ghost.path (suc L.ghost.tail) ≡ r)
  chain_stands r e = dite (dec_le (suc G.tail) (G.head + G.rest))
      (λ lags. by (G.chained G.tail) refl lags (sym (L.list.rows.joined G.tail L.list.tail.after_head lags) ∙ here))
      (λ end. absurd (never (sym L.list.rows.last ∙ (ap (λ (i : ℕ). s.memory.link (G.path i)) (let within = L.list.tail.within in let f : G.head + G.rest ≡ G.tail = omega arith in f) ∙ here)))) where
        here : s.memory.link (G.path G.tail) ≡ Chain r
        here = ap (λ (p : Place). s.memory.link p.row) (sym L.list.tail.named) ∙ e

        never : Nil ≡ Chain r → ⊥
        never e = cc e

        by : (b : Bool) → G.chained G.tail ≡ b → G.tail < G.head + G.rest → joint (G.chained G.tail) (G.path (suc G.tail)) ≡ Chain r
            → (a : ℕ) × (G.ann ≡ Some a) × (G.stage a ≡ decided G.tail) × (0 < G.span a) × (G.path (suc G.tail) ≡ r)
        by false at lags e = absurd (off (sym (ap (λ (b : Bool). joint b (G.path (suc G.tail))) at) ∙ e)) where
          off : Single (G.path (suc G.tail)) ≡ Chain r → ⊥
          off e = cc e
        by true at lags e = let x = L.announced.lags lags at in let all = x.3 in (x.0, x.2, x.1, (omega arith), same (sym (ap (λ (b : Bool). joint b (G.path (suc G.tail))) at) ∙ e)) where
          same : Chain (G.path (suc G.tail)) ≡ Chain r → G.path (suc G.tail) ≡ r
          same e = cc e

  -- so an announcement stands in HEAD, and no node
  pub no_node : (r : ℕ) → s.memory.link s.memory.tail.row ≡ Chain r → (p : Place) → s.memory.head ≡ Node p → ⊥
  no_node r e p node = some_none (sym (chain_stands r e).1 ∙ (node_found z s L 0 p node).0)

  -- a linked row never has Shut
  pub never_shut : (c : ℕ) (p : Place) → Holds z (world s L.ghost) c (linked p) → s.memory.link p.row ≡ Shut → ⊥
  never_shut c p on e = dite (dec_le (suc (suc on.position)) (positions L.ghost))
      (λ inside. off (G.chained on.position) (sym (on.on.link.1 inside) ∙ e))
      (λ end. none (sym (on.on.link.0 (let below = on.on.inside in omega arith)) ∙ e)) where
        off : (b : Bool) → joint b (G.path (suc on.position)) ≡ Shut → ⊥
        off true e = cc e
        off false e = cc e

        none : Nil ≡ Shut → ⊥
        none e = cc e

  -- an installed announcement of which OldTail isn't known stands in HEAD, with the count of its old head
  pub stands_unknown : (a : ℕ) (p : Place) → L.ghost.stage a ≢ unused → (s.memory.notice a).old_head ≡ p → s.memory.old_tail a ≡ None → s.memory.head ≡ Ann a p.count
  stands_unknown a p there old none = by (G.stage a) refl where
    at_head : G.ann ≡ Some a → s.memory.head ≡ Ann a p.count
    at_head e = L.list.head.named ∙ (ap (head_word z.first G.path G.head) e ∙ ap (Ann a) (ap (λ (q : Place). q.count) (sym (L.announced.old_head a e) ∙ old)))

    by : (x : Stage) → G.stage a ≡ x → s.memory.head ≡ Ann a p.count
    by unused e = absurd (there e)
    by waiting e = at_head (L.announced.waits a e).0
    by (decided i) e = at_head (L.announced.unrecorded a i e none).0

  -- the announcement in HEAD has the count of its old head there
  pub ann_count : (a n : ℕ) → s.memory.head ≡ Ann a n → (s.memory.notice a).old_head.count ≡ n
  ann_count a n is = same (sym is ∙ (L.list.head.named ∙ ap (head_word z.first G.path G.head) (ann_stands z s L 0 a n is))) where
    old : (s.memory.notice a).old_head.count ≡ z.first + G.head
    old = ap (λ (q : Place). q.count) (L.announced.old_head a (ann_stands z s L 0 a n is))

    same : Ann a n ≡ Ann a (z.first + G.head) → (s.memory.notice a).old_head.count ≡ n
    same e = old ∙ sym (counts e) where
      counts : Ann a n ≡ Ann a (z.first + G.head) → n ≡ z.first + G.head
      counts e = cc e
