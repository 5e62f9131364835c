-- What a lawful lane says of the announcement that stands in HEAD, and of the step that links its chain.
use Rattle.std.proofs.Common.{subst, arith, refl, ◌+◌, ◌<◌, ◌≤◌, ◌≡◌, ℕ, cond, List, [], ◌∷◌, ◌++◌, sym, ap, ◌∙◌, Option, Some, None, ◌-◌}
use Rattle.bq_model.specs.declared.group.Group.{Group}
use Rattle.word_rows.specs.declared.place.Place.{Place}
use Rattle.word_rows.specs.declared.head_word.HeadWord.TheVariants.{Ann}
use Rattle.word_rows.specs.declared.link_word.LinkWord.{LinkWord}
use Rattle.word_rows.specs.declared.link_word.LinkWord.TheVariants.{Nil, Chain}
use Rattle.lane_steps.specs.declared.point.Help.{Help}
use Rattle.lane_steps.specs.declared.point.Point.{Point}
use Rattle.lane_steps.specs.declared.point.Point.TheVariants as point
use Rattle.lane_steps.specs.declared.point.HelpPoint.TheVariants as help
use Rattle.lane_steps.specs.LaneSizes.{LaneSizes}
use Rattle.lane_steps.specs.Batches.{owner_of}
use Rattle.lane_steps.specs.State.{State, command, read, own_group}
use Rattle.lane_steps.specs.Act.{is_nil, is_unknown}
use Rattle.lane_steps.specs.Step.{target, added_by, next}
use Rattle.core_model.specs.Ghost.{Stage, unused, waiting, decided, joint}
use Rattle.core_model.specs.Saying.{Says}
use Rattle.core_model.specs.Facts.{Describes}
use Rattle.core_model.specs.Lawful.{head_word, Lawful}
use Rattle.core_model.proofs.Alone.{history_added}
use Rattle.lane_steps.specs.Stopper.{linked_rows}

module _ (z : LaneSizes) (s : State) (L : Lawful z s) where
  -- the announcement that HEAD names is the one that stands
  pub stands_there : (a n : ℕ) → s.memory.head ≡ Ann a n → L.ghost.ann ≡ Some a
  stands_there a n is = by L.ghost.ann (sym is ∙ L.list.head.named) where
    by : (o : Option ℕ) → Ann a n ≡ head_word z.first L.ghost.path L.ghost.head o → o ≡ Some a
    by None e = absurd (cc e)
    by (Some b) e = ap Some (cc e)

  pub tells_its_batch : (a n : ℕ) → s.memory.head ≡ Ann a n → Describes (owner_of z a) (command (s.callers (owner_of z a))) (s.memory.notice a)
  tells_its_batch a n is = (L.told a (stands_there a n is)).describes

  -- and what else its words are
  pub says_so : (a n : ℕ) → s.memory.head ≡ Ann a n → Says z s.memory a n
  says_so a n is = let at = stands_there a n is in let old = L.announced.old_head a at in let told = L.told a at in record {
    inside = L.announced.inside a at;
    dummy_row = subst (λ (p : Place). p.row < z.rows) (sym old) (L.list.rows.inside L.ghost.head (omega arith));
    dummy_count = ap (λ (p : Place). p.count) old ∙ sym (counted L.ghost.ann (sym is ∙ L.list.head.named));
    first = told.first;
    last = told.last;
    old_tail = λ q known. by q known (L.ghost.stage a) refl;
  } where
    counted : (o : Option ℕ) → Ann a n ≡ head_word z.first L.ghost.path L.ghost.head o → n ≡ z.first + L.ghost.head
    counted None e = absurd (cc e)
    counted (Some b) e = cc e

    by : (q : Place) → s.memory.old_tail a ≡ Some q → (x : Stage) → L.ghost.stage a ≡ x → (n ≤ q.count) × (0 < linked_rows (s.memory.notice a).counts (q.count - n) → s.memory.link q.row ≡ Chain (s.memory.notice a).first)
    by q known unused e = absurd (L.announced.installed a (stands_there a n is) e)
    by q known waiting e = absurd (none (sym known ∙ L.announced.unknown a e)) where
      none : Some q ≡ None → ⊥
      none e = cc e
    by q known (decided i) e = let at = stands_there a n is in let B = L.announced.bound a i e in let from = (L.announced.standing a i at e).from in let within = B.within in let place = L.announced.recorded a i q e known in
        let count = ap (λ (p : Place). p.count) place in let head = counted L.ghost.ann (sym is ∙ L.list.head.named) in let old = ap (λ (p : Place). p.count) (sym B.old_dummy.1 ∙ L.announced.old_head a at) in (
          (omega arith),
          λ links. let queued : q.count - n ≡ i - B.old_dummy.0 = omega arith in let some = subst (λ (x : ℕ). 0 < x) (ap (linked_rows (s.memory.notice a).counts) queued ∙ sym B.old_dummy.3) links in
              ap (λ (p : Place). s.memory.link p.row) place ∙ (L.list.rows.joined i (omega arith) (omega arith) ∙ (λ k. joint (B.by_chain some k) (B.starts some k))),
        )

-- the step of caller c that links the chain of an announcement adds the group of its owner
pub puts_owners_group : (z : LaneSizes) (s : State) (c : ℕ) (h : Help) (p : Place) → (s.callers c).point ≡ point.Help h (help.LinkChain p) → s.memory.link p.row ≡ Nil
    → (next z s c).history ≡ s.history ++ own_group (owner_of z h.ann) (s.callers (owner_of z h.ann)) ∷ []
puts_owners_group z s c h p point nil = history_added z s c ∙ ap (λ (gs : List Group). s.history ++ gs)
    (ap (λ (t : Point). added_by z s.callers c t (read s.memory (target c t))) point
    ∙ ap (λ (l : LinkWord). cond (is_nil l) (own_group (owner_of z h.ann) (s.callers (owner_of z h.ann)) ∷ []) []) nil)

-- and so does the step that decides it without a link
pub decides_owners_group : (z : LaneSizes) (s : State) (c : ℕ) (h : Help) (p : Place) → (s.callers c).point ≡ point.Help h (help.Decide p) → s.memory.old_tail h.ann ≡ None
    → (next z s c).history ≡ s.history ++ own_group (owner_of z h.ann) (s.callers (owner_of z h.ann)) ∷ []
decides_owners_group z s c h p point none = history_added z s c ∙ ap (λ (gs : List Group). s.history ++ gs)
    (ap (λ (t : Point). added_by z s.callers c t (read s.memory (target c t))) point
    ∙ ap (λ (o : Option Place). cond (is_unknown o) (own_group (owner_of z h.ann) (s.callers (owner_of z h.ann)) ∷ []) []) none)
