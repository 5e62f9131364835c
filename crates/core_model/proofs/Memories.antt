-- A store changes one word, and leaves all others.
use Rattle.std.proofs.Common.{◌≡◌, ◌≢◌, ℕ, refl, ap, ◌∙◌, subst, Option}
use mathlib.Core.Logic.{dite}
use native.Mathlib.Decide.{ℕ_discrete}
use Rattle.word_rows.specs.declared.place.Place.{Place}
use Rattle.word_rows.specs.declared.head_word.HeadWord.TheVariants.{Node}
use Rattle.word_rows.specs.declared.location.AnnField.{AnnField}
use Rattle.word_rows.specs.declared.location.AnnField.TheVariants.{OldHead, OldTail, First, Last, Counts, BatchNo, Order0, Order1, Order2, Order3}
use Rattle.word_rows.specs.declared.location.Location.{Location}
use Rattle.word_rows.specs.declared.location.Location.TheVariants.{Head, Tail, Link, Value, Mark, NodeHazard, AnnWord, AnnHazard}
use Rattle.word_rows.specs.declared.content.Content.{Content}
use Rattle.word_rows.specs.declared.content.Content.TheVariants.{OfHead, OfTail, OfLink, OfValue, OfOldTail, OfChainEnd, OfCounts, OfBatchNo, OfOrder, OfMark, OfNodeHazard, OfAnnHazard}
use Rattle.word_rows.specs.Memory.{Writes}
use Rattle.lane_steps.specs.declared.point.Notice.{Notice}
use Rattle.lane_steps.specs.Fits.{IsHeld}
use Rattle.lane_steps.specs.Notices.{with_field}
use Rattle.lane_steps.specs.State.{Memory, read, field_of, read_field, write, write_field, link_in, value_in, old_tail_in, hazard_in, mark_in}
use Rattle.core_model.proofs.Puts.{put_here, put_else}

-- what is stored in a field is found there
field_written : (tail : Option Place) (n : Notice) (a : ℕ) (f : AnnField) (x : Content) → f ≢ OldTail → IsHeld (AnnWord a f) x → field_of tail (with_field n f x) f ≡ x
field_written tail n a OldHead (OfHead (Node p)) other h = refl
field_written tail n a OldTail x other h = absurd (other refl)
field_written tail n a First (OfChainEnd y) other h = refl
field_written tail n a Last (OfChainEnd y) other h = refl
field_written tail n a Counts (OfCounts y) other h = refl
field_written tail n a BatchNo (OfBatchNo y) other h = refl
field_written tail n a Order0 (OfOrder y) other h = refl
field_written tail n a Order1 (OfOrder y) other h = refl
field_written tail n a Order2 (OfOrder y) other h = refl
field_written tail n a Order3 (OfOrder y) other h = refl
field_written tail n a _ _ other h = absurd h

pub written_here : (m : Memory) (l : Location) (x : Content) → IsHeld l x → read (write m l x) l ≡ x
written_here m Head (OfHead y) h = refl
written_here m Tail (OfTail y) h = refl
written_here m (Link r) (OfLink y) h = ap OfLink (put_here m.link r y)
written_here m (Value r) (OfValue y) h = ap OfValue (put_here m.value r y)
written_here m (Mark r) (OfMark y) h = ap OfMark (put_here m.mark r y)
written_here m (NodeHazard c) (OfNodeHazard y) h = ap OfNodeHazard (put_here m.node_hazard c y)
written_here m (AnnHazard c) (OfAnnHazard y) h = ap OfAnnHazard (put_here m.ann_hazard c y)
written_here m (AnnWord a OldTail) (OfOldTail y) h = ap OfOldTail (put_here m.old_tail a y)
written_here m (AnnWord a OldHead) x h = ap (λ (n : Notice). field_of (m.old_tail a) n OldHead) (put_here m.notice a (with_field (m.notice a) OldHead x)) ∙ field_written (m.old_tail a) (m.notice a) a OldHead x (λ e. cc e) h
written_here m (AnnWord a First) x h = ap (λ (n : Notice). field_of (m.old_tail a) n First) (put_here m.notice a (with_field (m.notice a) First x)) ∙ field_written (m.old_tail a) (m.notice a) a First x (λ e. cc e) h
written_here m (AnnWord a Last) x h = ap (λ (n : Notice). field_of (m.old_tail a) n Last) (put_here m.notice a (with_field (m.notice a) Last x)) ∙ field_written (m.old_tail a) (m.notice a) a Last x (λ e. cc e) h
written_here m (AnnWord a Counts) x h = ap (λ (n : Notice). field_of (m.old_tail a) n Counts) (put_here m.notice a (with_field (m.notice a) Counts x)) ∙ field_written (m.old_tail a) (m.notice a) a Counts x (λ e. cc e) h
written_here m (AnnWord a BatchNo) x h = ap (λ (n : Notice). field_of (m.old_tail a) n BatchNo) (put_here m.notice a (with_field (m.notice a) BatchNo x)) ∙ field_written (m.old_tail a) (m.notice a) a BatchNo x (λ e. cc e) h
written_here m (AnnWord a Order0) x h = ap (λ (n : Notice). field_of (m.old_tail a) n Order0) (put_here m.notice a (with_field (m.notice a) Order0 x)) ∙ field_written (m.old_tail a) (m.notice a) a Order0 x (λ e. cc e) h
written_here m (AnnWord a Order1) x h = ap (λ (n : Notice). field_of (m.old_tail a) n Order1) (put_here m.notice a (with_field (m.notice a) Order1 x)) ∙ field_written (m.old_tail a) (m.notice a) a Order1 x (λ e. cc e) h
written_here m (AnnWord a Order2) x h = ap (λ (n : Notice). field_of (m.old_tail a) n Order2) (put_here m.notice a (with_field (m.notice a) Order2 x)) ∙ field_written (m.old_tail a) (m.notice a) a Order2 x (λ e. cc e) h
written_here m (AnnWord a Order3) x h = ap (λ (n : Notice). field_of (m.old_tail a) n Order3) (put_here m.notice a (with_field (m.notice a) Order3 x)) ∙ field_written (m.old_tail a) (m.notice a) a Order3 x (λ e. cc e) h
written_here m _ _ h = absurd h

-- another field of the same announcement
other_field : (tail : Option Place) (n : Notice) (g f : AnnField) (x : Content) → f ≢ g → field_of tail (with_field n g x) f ≡ field_of tail n f
other_field tail n OldHead OldHead x other = absurd (other refl)
other_field tail n OldHead _ x other = refl
other_field tail n OldTail f x other = refl
other_field tail n First First x other = absurd (other refl)
other_field tail n First _ x other = refl
other_field tail n Last Last x other = absurd (other refl)
other_field tail n Last _ x other = refl
other_field tail n Counts Counts x other = absurd (other refl)
other_field tail n Counts _ x other = refl
other_field tail n BatchNo BatchNo x other = absurd (other refl)
other_field tail n BatchNo _ x other = refl
other_field tail n Order0 Order0 x other = absurd (other refl)
other_field tail n Order0 _ x other = refl
other_field tail n Order1 Order1 x other = absurd (other refl)
other_field tail n Order1 _ x other = refl
other_field tail n Order2 Order2 x other = absurd (other refl)
other_field tail n Order2 _ x other = refl
other_field tail n Order3 Order3 x other = absurd (other refl)
other_field tail n Order3 _ x other = refl

other_tail : (tail tail' : Option Place) (n : Notice) (f : AnnField) → f ≢ OldTail → field_of tail' n f ≡ field_of tail n f
other_tail tail tail' n OldTail other = absurd (other refl)
other_tail tail tail' n _ other = refl

beside : (m : Memory) (a : ℕ) (g f : AnnField) (x : Content) → f ≢ g → read_field (write_field m a g x) a f ≡ read_field m a f
beside m a OldTail f x other = other_tail (m.old_tail a) _ (m.notice a) f other
beside m a OldHead f x other = ap (λ (n : Notice). field_of (m.old_tail a) n f) (put_here m.notice a (with_field (m.notice a) OldHead x)) ∙ other_field (m.old_tail a) (m.notice a) OldHead f x other
beside m a First f x other = ap (λ (n : Notice). field_of (m.old_tail a) n f) (put_here m.notice a (with_field (m.notice a) First x)) ∙ other_field (m.old_tail a) (m.notice a) First f x other
beside m a Last f x other = ap (λ (n : Notice). field_of (m.old_tail a) n f) (put_here m.notice a (with_field (m.notice a) Last x)) ∙ other_field (m.old_tail a) (m.notice a) Last f x other
beside m a Counts f x other = ap (λ (n : Notice). field_of (m.old_tail a) n f) (put_here m.notice a (with_field (m.notice a) Counts x)) ∙ other_field (m.old_tail a) (m.notice a) Counts f x other
beside m a BatchNo f x other = ap (λ (n : Notice). field_of (m.old_tail a) n f) (put_here m.notice a (with_field (m.notice a) BatchNo x)) ∙ other_field (m.old_tail a) (m.notice a) BatchNo f x other
beside m a Order0 f x other = ap (λ (n : Notice). field_of (m.old_tail a) n f) (put_here m.notice a (with_field (m.notice a) Order0 x)) ∙ other_field (m.old_tail a) (m.notice a) Order0 f x other
beside m a Order1 f x other = ap (λ (n : Notice). field_of (m.old_tail a) n f) (put_here m.notice a (with_field (m.notice a) Order1 x)) ∙ other_field (m.old_tail a) (m.notice a) Order1 f x other
beside m a Order2 f x other = ap (λ (n : Notice). field_of (m.old_tail a) n f) (put_here m.notice a (with_field (m.notice a) Order2 x)) ∙ other_field (m.old_tail a) (m.notice a) Order2 f x other
beside m a Order3 f x other = ap (λ (n : Notice). field_of (m.old_tail a) n f) (put_here m.notice a (with_field (m.notice a) Order3 x)) ∙ other_field (m.old_tail a) (m.notice a) Order3 f x other

-- a field of another announcement
apart : (m : Memory) (b a : ℕ) (g f : AnnField) (x : Content) → a ≢ b → read_field (write_field m b g x) a f ≡ read_field m a f
apart m b a OldTail f x other = ap (λ (tail : Option Place). field_of tail (m.notice a) f) (put_else m.old_tail b (old_tail_in x) a other)
apart m b a OldHead f x other = ap (λ (n : Notice). field_of (m.old_tail a) n f) (put_else m.notice b (with_field (m.notice b) OldHead x) a other)
apart m b a First f x other = ap (λ (n : Notice). field_of (m.old_tail a) n f) (put_else m.notice b (with_field (m.notice b) First x) a other)
apart m b a Last f x other = ap (λ (n : Notice). field_of (m.old_tail a) n f) (put_else m.notice b (with_field (m.notice b) Last x) a other)
apart m b a Counts f x other = ap (λ (n : Notice). field_of (m.old_tail a) n f) (put_else m.notice b (with_field (m.notice b) Counts x) a other)
apart m b a BatchNo f x other = ap (λ (n : Notice). field_of (m.old_tail a) n f) (put_else m.notice b (with_field (m.notice b) BatchNo x) a other)
apart m b a Order0 f x other = ap (λ (n : Notice). field_of (m.old_tail a) n f) (put_else m.notice b (with_field (m.notice b) Order0 x) a other)
apart m b a Order1 f x other = ap (λ (n : Notice). field_of (m.old_tail a) n f) (put_else m.notice b (with_field (m.notice b) Order1 x) a other)
apart m b a Order2 f x other = ap (λ (n : Notice). field_of (m.old_tail a) n f) (put_else m.notice b (with_field (m.notice b) Order2 x) a other)
apart m b a Order3 f x other = ap (λ (n : Notice). field_of (m.old_tail a) n f) (put_else m.notice b (with_field (m.notice b) Order3 x) a other)

pub written_elsewhere : (m : Memory) (l k : Location) (x : Content) → k ≢ l → read (write m l x) k ≡ read m k
written_elsewhere m Head Head x other = absurd (other refl)
written_elsewhere m Head _ x other = refl
written_elsewhere m Tail Tail x other = absurd (other refl)
written_elsewhere m Tail _ x other = refl
written_elsewhere m (Link r) (Link q) x other = ap OfLink (put_else m.link r (link_in x) q (λ e. other (ap Link e)))
written_elsewhere m (Link r) _ x other = refl
written_elsewhere m (Value r) (Value q) x other = ap OfValue (put_else m.value r (value_in x) q (λ e. other (ap Value e)))
written_elsewhere m (Value r) _ x other = refl
written_elsewhere m (Mark r) (Mark q) x other = ap OfMark (put_else m.mark r (mark_in x) q (λ e. other (ap Mark e)))
written_elsewhere m (Mark r) _ x other = refl
written_elsewhere m (NodeHazard c) (NodeHazard d) x other = ap OfNodeHazard (put_else m.node_hazard c (hazard_in x) d (λ e. other (ap NodeHazard e)))
written_elsewhere m (NodeHazard c) _ x other = refl
written_elsewhere m (AnnHazard c) (AnnHazard d) x other = ap OfAnnHazard (put_else m.ann_hazard c (hazard_in x) d (λ e. other (ap AnnHazard e)))
written_elsewhere m (AnnHazard c) _ x other = refl
written_elsewhere m (AnnWord b g) (AnnWord a f) x other = dite (ℕ_discrete a b)
    (λ same. subst (λ (c : ℕ). read_field (write_field m c g x) a f ≡ read_field m a f) same (beside m a g f x (λ e. other (λ i. AnnWord (same i) (e i)))))
    (λ ne. apart m b a g f x ne)
written_elsewhere m (AnnWord b OldHead) _ x other = refl
written_elsewhere m (AnnWord b OldTail) _ x other = refl
written_elsewhere m (AnnWord b First) _ x other = refl
written_elsewhere m (AnnWord b Last) _ x other = refl
written_elsewhere m (AnnWord b Counts) _ x other = refl
written_elsewhere m (AnnWord b BatchNo) _ x other = refl
written_elsewhere m (AnnWord b Order0) _ x other = refl
written_elsewhere m (AnnWord b Order1) _ x other = refl
written_elsewhere m (AnnWord b Order2) _ x other = refl
written_elsewhere m (AnnWord b Order3) _ x other = refl

pub writes : (m : Memory) (l : Location) (x : Content) → IsHeld l x → Writes (read m) l x (read (write m l x))
writes m l x held = record { here = written_here m l x held; elsewhere = λ k other. written_elsewhere m l k x other }
