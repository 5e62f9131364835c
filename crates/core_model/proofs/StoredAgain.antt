-- Stores that change nothing, and places that are the same.
use Rattle.std.proofs.Common.{◌≡◌, eqb, Bool, true, false, cond, sym, refl, ap, ◌∙◌}
use Rattle.std.proofs.lemmas.Bool.{eqb-true, and_parts}
use Rattle.word_rows.specs.declared.place.Place.{Place}
use Rattle.word_rows.specs.declared.location.AnnField.TheVariants as field
use Rattle.word_rows.specs.declared.location.Location.{Location}
use Rattle.word_rows.specs.declared.location.Location.TheVariants.{Head, Tail, Link, Value, Mark, NodeHazard, AnnHazard, AnnWord}
use Rattle.word_rows.specs.declared.content.Content.{Content}
use Rattle.lane_steps.specs.State.{Memory, read, write}
use Rattle.lane_steps.specs.Act.{same_place, location, changes, effect}
use Rattle.lane_steps.specs.declared.act.Act.{Act}
use Rattle.lane_steps.specs.declared.act.Act.TheVariants.{Load, Store, Exchange, Join}
use Rattle.core_model.proofs.Puts.{put_same}

-- what was found, stored again
pub write_read : (m : Memory) (l : Location) → write m l (read m l) ≡ m
write_read m Head = refl
write_read m Tail = refl
write_read m (Link r) = λ i. record m { link = put_same m.link r i }
write_read m (Value r) = λ i. record m { value = put_same m.value r i }
write_read m (Mark r) = λ i. record m { mark = put_same m.mark r i }
write_read m (NodeHazard c) = λ i. record m { node_hazard = put_same m.node_hazard c i }
write_read m (AnnHazard c) = λ i. record m { ann_hazard = put_same m.ann_hazard c i }
write_read m (AnnWord a field.OldTail) = λ i. record m { old_tail = put_same m.old_tail a i }
write_read m (AnnWord a field.OldHead) = λ i. record m { notice = put_same m.notice a i }
write_read m (AnnWord a field.First) = λ i. record m { notice = put_same m.notice a i }
write_read m (AnnWord a field.Last) = λ i. record m { notice = put_same m.notice a i }
write_read m (AnnWord a field.Counts) = λ i. record m { notice = put_same m.notice a i }
write_read m (AnnWord a field.BatchNo) = λ i. record m { notice = put_same m.notice a i }
write_read m (AnnWord a field.Order0) = λ i. record m { notice = put_same m.notice a i }
write_read m (AnnWord a field.Order1) = λ i. record m { notice = put_same m.notice a i }
write_read m (AnnWord a field.Order2) = λ i. record m { notice = put_same m.notice a i }
write_read m (AnnWord a field.Order3) = λ i. record m { notice = put_same m.notice a i }

-- a load, or an exchange that finds something else, leaves the words
pub leaves : (m : Memory) (a : Act) (x : Content) → read m (location a) ≡ x → changes a x ≡ false → write m (location a) (effect a x) ≡ m
leaves m (Load l) x is lost = ap (write m l) (sym is) ∙ write_read m l
leaves m (Store l y) x is lost = absurd (cc lost)
leaves m (Join r b) x is lost = absurd (cc lost)
leaves m (Exchange l old new) x is lost = ap (λ (b : Bool). write m l (cond b new x)) lost ∙ (ap (write m l) (sym is) ∙ write_read m l)

pub same_places : (p q : Place) → same_place p q ≡ true → p ≡ q
same_places p q e = let both = and_parts (eqb p.row q.row) (eqb p.count q.count) e in λ i. record { row = eqb-true p.row q.row both.0 i; count = eqb-true p.count q.count both.1 i }
