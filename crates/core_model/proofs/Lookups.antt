-- What a load finds in a lawful lane.
use Rattle.std.proofs.Common.{◌≡◌, ◌≢◌, ℕ, suc, ◌+◌, ◌<◌, ◌≤◌, Bool, true, false, sym, refl, ap, ◌∙◌, subst, arith, eqb, eq-eqb, Option, Some, None}
use Rattle.std.proofs.lemmas.Bool.{and_from}
use mathlib.Core.Logic.{dite}
use native.Mathlib.Decide.{dec_le}
use Rattle.word_rows.specs.declared.place.Place.{Place}
use Rattle.word_rows.specs.declared.head_word.HeadWord.{HeadWord}
use Rattle.word_rows.specs.declared.head_word.HeadWord.TheVariants.{Node, Ann}
use Rattle.word_rows.specs.declared.link_word.LinkWord.TheVariants.{Nil}
use Rattle.lane_steps.specs.declared.point.Help.{Help}
use Rattle.lane_steps.specs.LaneSizes.{LaneSizes}
use Rattle.lane_steps.specs.State.{State}
use Rattle.lane_steps.specs.Act.{is_ann}
use Rattle.lane_steps.specs.Fact.{linked, next_is}
use Rattle.core_model.specs.Facts.{Holds}
use Rattle.core_model.specs.Ghost.{Ghost, positions, joint, at, On}
use Rattle.core_model.specs.Lawful.{head_word, Lawful}
use Rattle.core_model.proofs.Rely.{world}

-- the place in a head word
place_of : HeadWord → Place
place_of (Node p) = p
place_of (Ann a n) = record { row = 0; count = n }

pub same_node : (p q : Place) → Node p ≡ Node q → p ≡ q
unfolding place_of
same_node p q e = ap place_of e

pub not_ann : (p : Place) (a n : ℕ) → Node p ≢ Ann a n
not_ann p a n e = cc e

pub same_ann : (a b n m : ℕ) → Ann a n ≡ Ann b m → a ≡ b
same_ann a b n m e = cc e

module _ (z : LaneSizes) (s : State) (L : Lawful z s) (c : ℕ) where
  abbrev G : Ghost
  G = L.ghost

  -- a row of the list, by its position
  pub on_list : (p : Place) (i : ℕ) → p.count ≡ z.first + i → p.row ≡ L.ghost.path i → L.ghost.head ≤ i → i < positions L.ghost → On (world s L.ghost) i p.row × (p.row < z.rows)
  on_list p i count row from below = let is : G.path i ≡ p.row = sym row in (
    record {
      inside = below;
      spot = subst (λ (r : ℕ). G.spot r ≡ Some i) is (L.list.rows.spots i from below);
      row = is;
      link = (
        (λ e. subst (λ (r : ℕ). s.memory.link r ≡ Nil) is (let same : G.head + G.rest ≡ i = omega arith in subst (λ (j : ℕ). s.memory.link (G.path j) ≡ Nil) same L.list.rows.last)),
        λ b. subst (λ (r : ℕ). s.memory.link r ≡ joint (G.chained i) (G.path (suc i))) is (L.list.rows.joined i from (omega arith)),
      );
    },
    subst (λ (r : ℕ). r < z.rows) is (L.list.rows.inside i below),
  )

  -- a linked row whose link is Nil is the last one
  pub is_last : (p : Place) → (f : Holds z (world s L.ghost) c (linked p)) → s.memory.link p.row ≡ Nil → f.position ≡ L.ghost.head + L.ghost.rest
  is_last p f is = let i = f.position in let count = f.count in let on = f.on in let below = on.inside in dite (dec_le (suc (suc i)) (positions L.ghost))
      (λ inside. absurd (never (L.ghost.chained i) (L.ghost.path (suc i)) (sym (on.link.1 inside) ∙ is))) (λ end. omega arith) where
        never : (b : Bool) (x : ℕ) → joint b x ≡ Nil → ⊥
        never true x e = cc e
        never false x e = cc e

  -- the link of a linked row, where it isn't Nil, names the row that was linked next
  pub next_found : (p : Place) (n : ℕ) (b : Bool) → Holds z (world s L.ghost) c (linked p) → s.memory.link p.row ≡ joint b n → Holds z (world s L.ghost) c (next_is p n) × ((i : ℕ) → p.count ≡ z.first + i → (suc i < positions L.ghost) × (L.ghost.chained i ≡ b))
  next_found p n b f is = let i = f.position in let count = f.count in let on = f.on in let below = on.inside in dite (dec_le (suc (suc i)) (positions L.ghost))
      (λ inside. let same = joints (G.chained i) b (G.path (suc i)) n (sym (on.link.1 inside) ∙ is) in (
        record {
          from = omega arith;
          inside = subst (λ (r : ℕ). r < z.rows) same.1 (L.list.rows.inside (suc i) inside);
          there = λ k here. let e : k ≡ i = omega arith in (omega arith, ap (λ (y : ℕ). G.path (suc y)) e ∙ same.1);
        },
        λ k here. let e : k ≡ i = omega arith in (omega arith, ap G.chained e ∙ same.0),
      ))
      (λ end. absurd (never b n (sym (on.link.0 (omega arith)) ∙ is))) where
        joints : (a b : Bool) (x n : ℕ) → joint a x ≡ joint b n → (a ≡ b) × (x ≡ n)
        joints true true x n e = (refl, cc e)
        joints false false x n e = (refl, cc e)
        joints true false x n e = absurd (cc e)
        joints false true x n e = absurd (cc e)

        never : (b : Bool) (x : ℕ) → Nil ≡ joint b x → ⊥
        never true x e = cc e
        never false x e = cc e

  -- HEAD names the dummy where no announcement stands
  pub node_found : (p : Place) → s.memory.head ≡ Node p → (L.ghost.ann ≡ None) × (p ≡ at z.first L.ghost.path L.ghost.head)
  node_found p is = by L.ghost.ann refl (sym is ∙ L.list.head.named) where
    by : (a : Option ℕ) → L.ghost.ann ≡ a → Node p ≡ head_word z.first L.ghost.path L.ghost.head a → (L.ghost.ann ≡ None) × (p ≡ at z.first L.ghost.path L.ghost.head)
    by None at e = (at, same_node p _ e)
    by (Some a) at e = absurd (not_ann p a (z.first + L.ghost.head) e)

  pub ann_stands : (a n : ℕ) → s.memory.head ≡ Ann a n → L.ghost.ann ≡ Some a
  ann_stands a n is = by L.ghost.ann (sym is ∙ L.list.head.named) where
    by : (x : Option ℕ) → Ann a n ≡ head_word z.first L.ghost.path L.ghost.head x → x ≡ Some a
    by None e = absurd (cc e)
    by (Some x) e = ap Some (sym (same_ann a x n (z.first + L.ghost.head) e))

  -- HEAD isn't the announcement with this count: that doesn't stand, where its old head is known
  pub not_there : (h : Help) (x : HeadWord) → s.memory.head ≡ x → is_ann x h.ann h.old_head.count ≡ false → (s.memory.notice h.ann).old_head ≡ h.old_head → L.ghost.ann ≡ Some h.ann → ⊥
  not_there h x at_x apart old at_head = differ (sym (ap (λ (y : HeadWord). is_ann y h.ann h.old_head.count) (sym at_x ∙ (L.list.head.named ∙ ap (head_word z.first L.ghost.path L.ghost.head) at_head)) ∙
      and_from (eqb h.ann h.ann) (eqb (z.first + L.ghost.head) h.old_head.count) (eq-eqb h.ann h.ann refl) (eq-eqb (z.first + L.ghost.head) h.old_head.count (ap (λ (p : Place). p.count) (sym (L.announced.old_head h.ann at_head) ∙ old)))) ∙ apart) where
        differ : true ≡ false → ⊥
        differ e = cc e
