-- The steps of a batch that chooses, writes and installs its announcement, as what its command is then.
use Rattle.std.proofs.Common.{◌≡◌, ◌<◌, ◌≤◌, ◌==◌, ℕ, suc, Bool, true, false, cond, arith, refl, sym, ap, ◌∙◌, subst, Some}
use Rattle.std.proofs.lemmas.Bool.{lt-ltb, le-ltb, ne_eqb}
use Rattle.std.specs.Prelude.{nat_lt, vec_capacity}
use Rattle.atomic_table.specs.Seated.{TableId}
use Rattle.atomic_table.specs.declared.shared.Seat.{Seat}
use Rattle.bq_model.specs.declared.shape.Shape.{Shape}
use Rattle.node_guard.specs.Pick.{pick}
use Rattle.word_rows.specs.declared.content.Content.{Content}
use Rattle.word_rows.specs.declared.head_word.HeadWord.{HeadWord}
use Rattle.word_rows.specs.declared.location.AnnField.{AnnField}
use Rattle.word_rows.specs.declared.location.AnnField.TheVariants.{OldHead, OldTail}
use Rattle.lane_steps.specs.Act.{is_node}
use Rattle.lane_steps.specs.Batch.{after_field, after_head, retry}
use Rattle.lane_steps.specs.Fill.{scan_from, first_store, chosen, past, noted}
use Rattle.lane_steps.specs.Help.{own_help}
use Rattle.lane_steps.specs.LaneSizes.{lane_sizes}
use Rattle.lane_steps.specs.State.{hazard_in, head_in}
use Rattle.lane_steps.specs.declared.point.BatchPoint.TheVariants.{StoreAll, StoreField, LoadHead, Install}
use Rattle.lane_steps.specs.declared.point.Draft.{Draft}
use Rattle.lane_steps.specs.declared.point.FillPoint.TheVariants.{LoadHazard}
use Rattle.lane_steps.specs.declared.point.GuardPoint.TheVariants.{StoreHazard}
use Rattle.lane_steps.specs.declared.point.Guarding.TheVariants as guard
use Rattle.lane_steps.specs.declared.point.Notice.{Notice}
use Rattle.lane_steps.specs.declared.point.Point.{Point}
use Rattle.lane_steps.specs.declared.point.Point.TheVariants.{Batch, Fill, Guard, Many}
use Rattle.lane_steps.specs.declared.point.ManyPoint.TheVariants as many
use Rattle.lane_rule.specs.declared.view.View.{View}
use Rattle.lane_rule.specs.Goes.{left_of}
use Rattle.lane_rule.specs.Plays.{Moves}
use Rattle.lane_course.specs.Along.{Along}
use Rattle.lane_course.specs.declared.scratch.Scratch.{Scratch}
use Rattle.lane_course.specs.Scratch.{keeping}
use Rattle.batch_ways.proofs.Fills as fills
use Rattle.lane_course.proofs.Seeks.{same_puts}
use Rattle.lane_course.proofs.Ways.{steps_to, less}

module _ {id : TableId} {key s : Shape} {c : ℕ} (n : Notice) {a : Scratch} {p q : Seat ℕ View} (next : ℕ) (way : Along id key s c (scan_from (lane_sizes s) c a.named.items n next) a p q) where
  told : (b : Bool) → nat_lt (past c next) s.callers ≡ b → Along id key s c (cond b (Fill n (LoadHazard (past c next))) (first_store (chosen (lane_sizes s) c a.named.items n))) a p q
  told b is = subst (λ (y : Bool). Along id key s c (cond y (Fill n (LoadHazard (past c next))) (first_store (chosen (lane_sizes s) c a.named.items n))) a p q) is way

  -- it loads the hazard word of this caller next
  pub listens : (other : ℕ) → other ≡ past c next → other < s.callers → Along id key s c (Fill n (LoadHazard other)) a p q
  listens other is within = subst (λ (o : ℕ). Along id key s c (Fill n (LoadHazard o)) a p q) (sym is) (told true (lt-ltb (past c next) s.callers (subst (λ (o : ℕ). o < s.callers) is within)))

  -- it has loaded all, and chosen this announcement
  pub chooses : (other : ℕ) → other ≡ past c next → s.callers ≤ other → (ann : ℕ) → ann ≡ pick s.callers c a.named.items → Along id key s c (first_store (record { ann = ann; notice = n })) a p q
  chooses other is beyond ann e = subst (λ (y : ℕ). Along id key s c (first_store (record { ann = y; notice = n })) a p q) (sym e)
      (told false (le-ltb (past c next) s.callers (subst (λ (o : ℕ). s.callers ≤ o) is beyond)))

module _ {id : TableId} {key s : Shape} {c : ℕ} {a : Scratch} {p q : Seat ℕ View} (r : Seat ℕ View) (found : Content) (m : Moves q found r) where
  pub hears : (n : Notice) (other : ℕ) (g : Scratch) → g.named.items ≡ noted a.named.items (hazard_in found) → vec_capacity g.named ≡ vec_capacity a.named → Along id key s c (Fill n (LoadHazard other)) a p q
      → Along id key s c (scan_from (lane_sizes s) c g.named.items n (suc other)) (record a { named = g.named }) p r
  hears n other g is room way = steps_to way r found m (scan_from (lane_sizes s) c g.named.items n (suc other)) (record a { named = g.named })
      (λ k w _. λ i. record (keeping w a) { point = scan_from (lane_sizes s) c (sym is i) n (suc other); named = sym is i }) (fills.noted a g room)

  pub written : (d : Draft) (f : AnnField) → Along id key s c (Batch d (StoreField f)) a p q → Along id key s c (Batch d (after_field f)) a p r
  written d f way = steps_to way r found m (Batch d (after_field f)) a (λ k w _. refl) (same_puts a)

  pub written_less : (d : Draft) (f : AnnField) → Along id key s c (Batch d (StoreField f)) a p q → left_of r.me.0 < left_of q.me.0
  written_less d f way = less way r found m (Batch d (after_field f)) a (λ k w _. refl) (same_puts a)

  pub head_loaded : (d : Draft) (head : HeadWord) → head_in found ≡ head → Along id key s c (Batch d LoadHead) a p q → Along id key s c (after_head d head) a p r
  head_loaded d head is way = steps_to way r found m (after_head d head) a (λ k w _. ap (λ (h : HeadWord). record (keeping w a) { point = after_head d h }) is) (same_puts a)

  -- it has installed its announcement, or loads the head again
  pub installed : (d : Draft) (b : Bool) → 0 < d.notice.counts.enqs → is_node (head_in found) d.notice.old_head ≡ b → Along id key s c (Batch d Install) a p q → Along id key s c (cond b (Guard (guard.Help (own_help d)) StoreHazard) (Batch d LoadHead)) a p r
  installed d b some is way = steps_to way r found m (cond b (Guard (guard.Help (own_help d)) StoreHazard) (Batch d LoadHead)) a
      (λ k w _. ap (λ (y : Bool). record (keeping w a) { point = cond y (Guard (guard.Help (own_help d)) StoreHazard) (retry d) }) is
      ∙ ap (λ (u : Point). record (keeping w a) { point = cond b (Guard (guard.Help (own_help d)) StoreHazard) u }) again) (same_puts a) where
        again : retry d ≡ Batch d LoadHead
        again = ap (λ (y : Bool). cond y (Many (record { ann = Some d.ann; notice = d.notice }) many.LoadHead) (Batch d LoadHead)) none where
          none : (d.notice.counts.enqs == 0) ≡ false
          none = ne_eqb d.notice.counts.enqs 0 (λ e. absurd (omega (arith, some, e)))

-- a batch with an enqueue stores the fields of its announcement but for the old head
pub stores_fields : {id : TableId} {key s : Shape} {c : ℕ} {a : Scratch} {p q : Seat ℕ View} (d : Draft) → 0 < d.notice.counts.enqs → Along id key s c (first_store d) a p q → Along id key s c (Batch d (StoreField OldTail)) a p q
stores_fields {id} {key} {s} {c} {a} {p} {q} d some way = subst (λ (b : Bool). Along id key s c (cond b (Batch d (StoreAll OldHead)) (Batch d (StoreField OldTail))) a p q) (ne_eqb d.notice.counts.enqs 0 (λ e. absurd (omega (arith, some, e)))) way
