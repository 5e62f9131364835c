-- No step takes or frees a row that a caller holds, rewrites its value, or a link of it that isn't Nil; and what the scan for a
-- caller's retired rows has read stays right.
use Rattle.std.proofs.Common.{◌≡◌, ◌≢◌, inl, inr, ⊎_elim, ℕ, ◌<◌, ◌≤◌, true, false, cond, sym, refl, ap, ◌∙◌, subst, arith, le_refl, Option, Some, None}
use mathlib.Core.Logic.{dite}
use native.Mathlib.Decide.{ℕ_discrete}
use Rattle.node_guard.specs.Pick.{among}
use Rattle.word_rows.specs.declared.place.Place.{Place}
use Rattle.word_rows.specs.declared.head_word.HeadWord.TheVariants.{Node}
use Rattle.word_rows.specs.declared.link_word.LinkWord.{LinkWord}
use Rattle.word_rows.specs.declared.link_word.LinkWord.TheVariants.{Nil, Single, Chain, Shut}
use Rattle.word_rows.specs.declared.location.AnnField.{AnnField}
use Rattle.word_rows.specs.declared.location.AnnField.TheVariants as field
use Rattle.word_rows.specs.declared.location.Location.TheVariants.{Link, Value, NodeHazard}
use Rattle.word_rows.specs.declared.content.Content.{Content}
use Rattle.word_rows.specs.declared.content.Content.TheVariants.{OfLink}
use Rattle.lane_steps.specs.declared.point.Closing.{Closing}
use Rattle.lane_steps.specs.declared.point.Guarding.{Guarding}
use Rattle.lane_steps.specs.declared.point.Guarding.TheVariants as guard
use Rattle.lane_steps.specs.declared.point.GuardPoint.TheVariants.{StoreHazard, LoadAgain}
use Rattle.lane_steps.specs.declared.point.ClosePoint.TheVariants as close
use Rattle.lane_steps.specs.declared.point.EnqueuePoint.TheVariants as enq
use Rattle.lane_steps.specs.declared.point.DequeuePoint.TheVariants as deq
use Rattle.lane_steps.specs.declared.point.FillPoint.TheVariants as fill
use Rattle.lane_steps.specs.declared.point.BatchPoint.TheVariants as batch
use Rattle.lane_steps.specs.declared.point.ManyPoint.TheVariants as many
use Rattle.lane_steps.specs.declared.point.HelpPoint.TheVariants as help
use Rattle.lane_steps.specs.declared.point.AnswerPoint.TheVariants as answer
use Rattle.lane_steps.specs.declared.point.Taking.{Taking}
use Rattle.lane_steps.specs.declared.point.TakePoint.TheVariants as take
use Rattle.lane_steps.specs.declared.point.Point.{Point}
use Rattle.lane_steps.specs.declared.point.Point.TheVariants as point
use Rattle.lane_steps.specs.Functions.{put}
use Rattle.lane_steps.specs.LaneSizes.{LaneSizes}
use Rattle.lane_steps.specs.Notices.{field_in}
use Rattle.lane_steps.specs.State.{Memory, Caller, State, read, write_field, head_in, tail_in, link_in}
use Rattle.lane_steps.specs.Act.{is_nil}
use Rattle.lane_steps.specs.Guard.{guarded, hazard, source, expected}
use Rattle.lane_steps.specs.Step.{step_at, next}
use Rattle.core_model.specs.Held.{HoldsRow, BeginsRowHold, RowUntouched}
use Rattle.core_model.specs.Lawful.{Lawful}
use Rattle.core_model.proofs.Puts.{put_here, put_else}
use Rattle.core_model.proofs.Rely.{world, one_some, some_none, fourth}
use Rattle.core_model.proofs.Preserves.{known}
use Rattle.core_model.proofs.StoredAgain.{write_read}
use Rattle.core_model.specs.Rows.{Retires}
use Rattle.core_model.proofs.Lookups.{node_found}
use Rattle.core_model.proofs.RowLists.{first_is_there}
use Rattle.core_model.proofs.Alone.{others_stay}
use Rattle.core_model.proofs.HoldSteps.{row_hold_begins}
use Rattle.core_model.proofs.Holdings.{row_held_there, names_its_row}

-- a field of an announcement is none of a row
field_value : (m : Memory) (a : ℕ) (f : AnnField) (x : Content) → ((write_field m a f x).value ≡ m.value) × ((write_field m a f x).link ≡ m.link)
field_value m a field.OldTail x = (refl, refl)
field_value m a field.OldHead x = (refl, refl)
field_value m a field.First x = (refl, refl)
field_value m a field.Last x = (refl, refl)
field_value m a field.Counts x = (refl, refl)
field_value m a field.BatchNo x = (refl, refl)
field_value m a field.Order0 x = (refl, refl)
field_value m a field.Order1 x = (refl, refl)
field_value m a field.Order2 x = (refl, refl)
field_value m a field.Order3 x = (refl, refl)

-- an exchange of a link stores where it found Nil
not_nil : (l y : LinkWord) → l ≢ Nil → link_in (cond (is_nil l) (OfLink y) (OfLink l)) ≡ l
not_nil Nil y ne = absurd (ne refl)
not_nil (Single r) y ne = refl
not_nil (Chain r) y ne = refl
not_nil Shut y ne = refl

-- a row with a position, as caller c makes its step
module _ (z : LaneSizes) (s : State) (L : Lawful z s) (c r : ℕ) (placed : L.ghost.spot r ≢ None) where
  other : (q : ℕ) → L.ghost.spot q ≡ None → r ≢ q
  other q none e = placed (ap L.ghost.spot e ∙ none)

  -- where the words are left
  left : (m : Memory) → m ≡ s.memory → RowUntouched s.memory m r
  left m is = record { value = ap (λ (y : Memory). y.value r) is; link = λ _. ap (λ (y : Memory). y.link r) is }

  value_else : (q v : ℕ) → L.ghost.spot q ≡ None → RowUntouched s.memory (record s.memory { value = put s.memory.value q v }) r
  value_else q v none = record { value = put_else s.memory.value q v r (other q none); link = λ _. refl }

  link_else : (q : ℕ) (y : LinkWord) → L.ghost.spot q ≡ None → RowUntouched s.memory (record s.memory { link = put s.memory.link q y }) r
  link_else q y none = record { value = refl; link = λ _. put_else s.memory.link q y r (other q none) }

  link_exchanged : (q : ℕ) (y : LinkWord) → RowUntouched s.memory (record s.memory { link = put s.memory.link q (link_in (cond (is_nil (s.memory.link q)) (OfLink y) (OfLink (s.memory.link q)))) }) r
  link_exchanged q y = record {
    value = refl;
    link = λ some. dite (ℕ_discrete r q)
        (λ e. ap (put s.memory.link q (link_in (cond (is_nil (s.memory.link q)) (OfLink y) (OfLink (s.memory.link q))))) e
        ∙ (put_here s.memory.link q (link_in (cond (is_nil (s.memory.link q)) (OfLink y) (OfLink (s.memory.link q)))) ∙ (not_nil (s.memory.link q) y (λ nil. some (ap s.memory.link e ∙ nil)) ∙ ap s.memory.link (sym e))))
        (λ ne. put_else s.memory.link q (link_in (cond (is_nil (s.memory.link q)) (OfLink y) (OfLink (s.memory.link q)))) r ne);
  }

  untouched_at : (t : Point) → (s.callers c).point ≡ t → RowUntouched s.memory (step_at z s c t).memory r
  untouched_at (point.Enqueue x enq.StoreValue) is = value_else x.row x.value (known z s L c (point.Enqueue x enq.StoreValue) is).call.1.1.0.0.free.unlinked
  untouched_at (point.Enqueue x (enq.LoadLink p)) is = left _ (write_read s.memory (Link p.row))
  untouched_at (point.Enqueue x (enq.LinkSingle p)) is = link_exchanged p.row (Single x.row)
  untouched_at (point.Dequeue (deq.LoadLink p)) is = left _ (write_read s.memory (Link p.row))
  untouched_at (point.Dequeue (deq.LoadValue p n)) is = left _ (write_read s.memory (Value n))
  untouched_at (point.Fill n (fill.StoreValue q v)) is = value_else q v (fourth (known z s L c (point.Fill n (fill.StoreValue q v)) is).here).0.free.unlinked
  untouched_at (point.Fill n (fill.StoreChain i q y)) is = let f = known z s L c (point.Fill n (fill.StoreChain i q y)) is in let goes = fourth f.here in let inside = goes.inside in
      link_else q (Single y) (ap L.ghost.spot goes.row ∙ (f.here.1.0.taken i (omega arith)).free.unlinked)
  untouched_at (point.Batch d (batch.StoreField f)) is = let same = field_value s.memory d.ann f (field_in d.notice f) in record { value = ap (λ (g : ℕ → ℕ). g r) same.0; link = λ _. ap (λ (g : ℕ → LinkWord). g r) same.1 }
  untouched_at (point.Batch d (batch.StoreAll f)) is = let same = field_value s.memory d.ann f (field_in d.notice f) in record { value = ap (λ (g : ℕ → ℕ). g r) same.0; link = λ _. ap (λ (g : ℕ → LinkWord). g r) same.1 }
  untouched_at (point.Many d many.LoadDummy) is = left _ (write_read s.memory (Link d.notice.old_head.row))
  untouched_at (point.Many d (many.LoadLink q l)) is = left _ (write_read s.memory (Link q))
  untouched_at (point.Many d (many.LoadValue q l)) is = left _ (write_read s.memory (Value q))
  untouched_at (point.Many d (many.LoadBehind p)) is = left _ (write_read s.memory (Link p.row))
  untouched_at (point.Help h (help.LoadLink p)) is = left _ (write_read s.memory (Link p.row))
  untouched_at (point.Help h (help.LinkChain p)) is = link_exchanged p.row (Chain h.first)
  untouched_at (point.Help h (help.LoadWalk m q l)) is = left _ (write_read s.memory (Link q))
  untouched_at (point.Answer (answer.LoadLink b q l)) is = left _ (write_read s.memory (Link q))
  untouched_at (point.Answer (answer.LoadValue b q l)) is = left _ (write_read s.memory (Value q))
  untouched_at (point.Take t (take.ClearLink q)) is = link_else q Nil (known z s L c (point.Take t (take.ClearLink q)) is).here.0.free.unlinked
  untouched_at (point.Guard t LoadAgain) is = left _ (write_read s.memory (source t))
  untouched_at (point.Guard (guard.Help h) StoreHazard) is = record { value = refl; link = λ _. refl }
  untouched_at (point.Close a close.ClearNode) is = record { value = refl; link = λ _. refl }
  untouched_at _ is = record { value = refl; link = λ _. refl }

-- what a row at a position has no step rewrites
pub placed_row_is_left : (z : LaneSizes) (s : State) (L : Lawful z s) (c r : ℕ) → L.ghost.spot r ≢ None → RowUntouched s.memory (next z s c).memory r
unfolding next
placed_row_is_left z s L c r placed = untouched_at z s L c r placed (s.callers c).point refl

module _ (z : LaneSizes) (s : State) (L : Lawful z s) (c : ℕ) where
  -- a held row has a position
  placed_there : (e r : ℕ) → HoldsRow (s.callers e) r → L.ghost.spot r ≢ None
  placed_there e r held = (L.callers e).guards_row.placed r (row_held_there z s L e r held)

  -- it isn't FREE
  pub held_not_free : (r : ℕ) → HoldsRow (s.callers c) r → (s.memory.mark r).free ≡ false
  held_not_free r held = by (L.ghost.spot r) refl where
    by : (o : Option ℕ) → L.ghost.spot r ≡ o → (s.memory.mark r).free ≡ false
    by None none = absurd (placed_there c r held none)
    by (Some i) at = L.marks.kept r i at

  -- THE law: what a row has that a caller holds no step rewrites
  pub held_row_is_left : (e r : ℕ) → HoldsRow (s.callers e) r → RowUntouched s.memory (next z s c).memory r
  held_row_is_left e r held = placed_row_is_left z s L c r (placed_there e r held)

  -- no step gives it, or frees it
  pub row_not_given : (e r : ℕ) (t : Taking) → (s.callers c).point ≡ point.Take t (take.ClearMark r) → HoldsRow (s.callers e) r → ⊥
  row_not_given e r t is held = placed_there e r held (known z s L c (point.Take t (take.ClearMark r)) is).here.0.0.unlinked

  pub row_not_freed : (e r : ℕ) (a : Closing) → (s.callers c).point ≡ point.Close a (close.MarkFree r) → HoldsRow (s.callers e) r → ⊥
  row_not_freed e r a is held = let f = known z s L c (point.Close a (close.MarkFree r)) is in let there = first_is_there (s.callers c).named (s.callers c).retired r f.here.1.0 in
      (f.here.0 e r ((L.callers e).guards_row.known r (row_held_there z s L e r held)) there.0 there.1).1 (row_held_there z s L e r held)

  -- whose word it read holds no row of its retired list but those that it found named, until the last of these is freed
  pub row_scan_says : (d e r : ℕ) (a : Closing) → (s.callers c).point ≡ point.Close a (close.LoadHazard e) → d < e → among (s.callers c).retired r ≡ true → among (s.callers c).named r ≡ false → HoldsRow (s.callers d) r → ⊥
  row_scan_says d e r a is below there off held = ((known z s L c (point.Close a (close.LoadHazard e)) is).here.0 d r below there off).1 (row_held_there z s L d r held)

  pub row_scan_ends : (d q r : ℕ) (a : Closing) → (s.callers c).point ≡ point.Close a (close.MarkFree q) → among (s.callers c).retired r ≡ true → among (s.callers c).named r ≡ false → HoldsRow (s.callers d) r → ⊥
  row_scan_ends d q r a is there off held = ((known z s L c (point.Close a (close.MarkFree q)) is).here.0 d r ((L.callers d).guards_row.known r (row_held_there z s L d r held)) there off).1 (row_held_there z s L d r held)

  -- the word that it reads names what that caller holds
  pub row_scan_reads : (d r : ℕ) → s.memory.node_hazard d ≢ Some r → HoldsRow (s.callers d) r → ⊥
  row_scan_reads d r other held = other (names_its_row z s L d r held)

  -- a second load finds a row of the list
  on_tail : (p : Place) → s.memory.tail ≡ p → (i : ℕ) × (L.ghost.spot p.row ≡ Some i) × (L.ghost.head ≤ i)
  on_tail p is = let from = L.list.tail.after_head in let within = L.list.tail.within in
      (L.ghost.tail, ap L.ghost.spot (ap (λ (q : Place). q.row) (sym is ∙ L.list.tail.named)) ∙ L.list.rows.spots L.ghost.tail from (omega arith), from)

  on_head : (p : Place) → s.memory.head ≡ Node p → (i : ℕ) × (L.ghost.spot p.row ≡ Some i) × (L.ghost.head ≤ i)
  on_head p is = (L.ghost.head, ap L.ghost.spot (ap (λ (q : Place). q.row) (node_found z s L c p is).1) ∙ L.list.rows.spots L.ghost.head (le_refl _) (omega arith), le_refl _)

  found_there : (t : Guarding) → hazard c t ≡ NodeHazard c → read s.memory (source t) ≡ expected t → (i : ℕ) × (L.ghost.spot (guarded t) ≡ Some i) × (L.ghost.head ≤ i)
  found_there (guard.Enqueue x p) _ e = on_tail p (ap tail_in e)
  found_there (guard.Dequeue p) _ e = on_head p (ap head_in e)
  found_there (guard.Many d) _ e = on_head d.notice.old_head (ap head_in e)
  found_there (guard.ManyTail d p) _ e = on_tail p (ap tail_in e)
  found_there (guard.HelpTail h p) _ e = on_tail p (ap tail_in e)
  found_there (guard.Help h) row e = absurd (cc row)

-- and nobody comes to hold a row of the retired list of a caller
pub no_row_begins : (z : LaneSizes) (s : State) (L : Lawful z s) (c d e r : ℕ) → among (s.callers c).retired r ≡ true → (HoldsRow (s.callers d) r → ⊥) → HoldsRow ((next z s e).callers d) r → ⊥
no_row_begins z s L c d e r there unheld held = dite (ℕ_discrete d e)
    (λ same. ⊎_elim (λ (old : HoldsRow (s.callers e) r). unheld (subst (λ (i : ℕ). HoldsRow (s.callers i) r) (sym same) old))
    (λ (new : BeginsRowHold s e r). let on = found_there z s L e new.0 new.2 new.4 in retired_apart ((L.callers c).knows.retired.each r there) on.0 (ap L.ghost.spot (sym new.3) ∙ on.1) on.2)
    (row_hold_begins z s L e r (subst (λ (i : ℕ). HoldsRow ((next z s e).callers i) r) same held)))
    (λ apart. unheld (ap (λ (k : Caller). k.row_hold) (sym (others_stay z s e d apart)) ∙ held)) where
      retired_apart : Retires z (world s L.ghost) c r → (i : ℕ) → L.ghost.spot r ≡ Some i → L.ghost.head ≤ i → ⊥
      retired_apart (inl (j, x)) i at from = let same = one_some (sym x.spot ∙ at) in let before = x.before in omega arith
      retired_apart (inr l) i at from = some_none (sym at ∙ l.unlinked)
