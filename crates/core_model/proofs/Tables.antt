-- The machine's lane is that of `word_rows`: its opening words, and whose each row is.
use Rattle.std.proofs.Common.{◌≡◌, ℕ, ◌+◌, ◌*◌, refl, ap, ◌∙◌, arith, ⊎_elim}
use Rattle.bq_model.specs.declared.shape.Shape.{Shape}
use Rattle.word_rows.specs.declared.location.AnnField.{AnnField}
use Rattle.word_rows.specs.declared.location.AnnField.TheVariants.{OldHead, OldTail, First, Last, Counts, BatchNo, Order0, Order1, Order2, Order3}
use Rattle.word_rows.specs.declared.location.Location.{Location}
use Rattle.word_rows.specs.declared.location.Location.TheVariants.{Head, Tail, Link, Value, Mark, NodeHazard, AnnHazard, AnnWord}
use Rattle.word_rows.specs.Sizes.{items_of, own_rows_of}
use Rattle.word_rows.specs.Homes.{stopper_row_of, IsItem, IsStopper, IsHome}
use Rattle.word_rows.specs.Opening.{opening_of}
use Rattle.lane_steps.specs.LaneSizes.{lane_sizes}
use Rattle.lane_steps.specs.State.{read}
use Rattle.lane_steps.specs.Start.{opening}
use Rattle.core_model.proofs.Opens.{row_home}

opening_field : (z : Shape) (a : ℕ) (f : AnnField) → read (opening (lane_sizes z)).memory (AnnWord a f) ≡ opening_of z (AnnWord a f)
opening_field z a OldHead = refl
opening_field z a OldTail = refl
opening_field z a First = refl
opening_field z a Last = refl
opening_field z a Counts = refl
opening_field z a BatchNo = refl
opening_field z a Order0 = refl
opening_field z a Order1 = refl
opening_field z a Order2 = refl
opening_field z a Order3 = refl

pub opens_as_its_table : (z : Shape) (l : Location) → read (opening (lane_sizes z)).memory l ≡ opening_of z l
opens_as_its_table z Head = refl
opens_as_its_table z Tail = refl
opens_as_its_table z (Link r) = refl
opens_as_its_table z (Value r) = refl
opens_as_its_table z (Mark r) = refl
opens_as_its_table z (NodeHazard c) = refl
opens_as_its_table z (AnnHazard c) = refl
opens_as_its_table z (AnnWord a f) = opening_field z a f

pub home_is : (z : Shape) (c r : ℕ) → IsHome z c r → (lane_sizes z).home r ≡ c
home_is z c r is = ⊎_elim
    (λ (i : IsItem z c r). let below = i.1 in ap (lane_sizes z).home i.2 ∙ row_home (own_rows_of z) c i.0 (omega arith))
    (λ (i : IsStopper z c r). let below = i.1 in ap (lane_sizes z).home (i.2 ∙ (let e : stopper_row_of z c i.0 ≡ 1 + c * own_rows_of z + (items_of z + i.0) = omega arith in e)) ∙ row_home (own_rows_of z) c (items_of z + i.0) (omega arith)) is
