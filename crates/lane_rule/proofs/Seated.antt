-- What a step on the table owes and what it gives, for a seat that is at a point.
use Rattle.std.proofs.Common.{◌≡◌, ℕ, ◌<◌, eqb, sym, refl, ap, ◌∙◌, subst, arith, Option, Some, IsSome}
use Rattle.std.specs.Prelude.{bit_or}
use mathlib.Core.Option.{none}
use Rattle.word_rows.specs.declared.marks.Marks.{Marks}
use Rattle.word_rows.specs.declared.location.Location.TheVariants.{Mark}
use Rattle.word_rows.specs.Packing.{marks_word}
use prog.Atomic.{either}
use Rattle.atomic_table.specs.Table.{Me, Allows, step}
use Rattle.atomic_table.specs.Seated.{TableId}
use Rattle.atomic_table.specs.declared.shared.Seat.{Seat}
use Rattle.bq_model.specs.declared.shape.Shape.{Shape}
use Rattle.word_rows.specs.declared.location.Location.{Location}
use Rattle.word_rows.specs.declared.content.Content.{Content}
use Rattle.word_rows.specs.Fits.{coding_limits}
use Rattle.word_rows.specs.Layout.{IsValid, index_of}
use Rattle.word_rows.specs.Contents.{coded, Fits, CanCode, MayHold}
use Rattle.word_rows.specs.ReadsBack.{ReadsBack}
use Rattle.word_rows.proofs.ContentLemmas.{Fits-coding}
use Rattle.word_rows.proofs.LayoutLemmas.{index_of-lt}
use Rattle.lane_steps.specs.declared.point.Point.{Point}
use Rattle.lane_steps.specs.Step.{act, target}
use Rattle.lane_steps.specs.declared.act.Act.{Act}
use Rattle.lane_steps.specs.declared.act.Act.TheVariants.{Load, Store, Exchange, Join}
use Rattle.lane_rule.specs.declared.view.View.{View}
use Rattle.lane_steps.specs.Act.{location}
use Rattle.lane_steps.specs.Fits.{ActFits}
use Rattle.lane_rule.specs.Rule.{Ruled}
use Rattle.lane_rule.specs.Goes.{Ready, Goes}
use Rattle.lane_rule.specs.Plays.{found, wrote, IsAt, Moves}
use Rattle.lane_rule.proofs.Single.{load_allowed, store_allowed, exchange_allowed, join_allowed, read_back}

module _ (id : TableId) (key s : Shape) (c : ℕ) (t : Point) (p : Seat ℕ View) (at : IsAt id key s c t p) where
  -- the step of the seat's view is that of the caller at the point
  its_act : act p.me.0.caller p.me.0.kept.point ≡ act c t
  its_act = λ j. act (at.caller j) (at.point j)

  its_word : target c t ≡ target p.me.0.caller p.me.0.kept.point
  its_word = λ j. target (sym at.caller j) (sym at.point j)

  -- the word's index, by the view's point
  here : (i : ℕ) (l : Location) → i ≡ index_of s l → l ≡ target c t → i ≡ index_of key (target p.me.0.caller p.me.0.kept.point)
  here i l is on = is ∙ (λ j. index_of (at.shape j) (on j)) ∙ ap (index_of key) its_word

  inside : (i : ℕ) (l : Location) → i ≡ index_of s l → l ≡ target c t → i < id.words
  inside i l is on = let size = at.size in let e : i ≡ index_of key (target c t) = is ∙ (λ j. index_of (at.shape j) (on j)) in let below = index_of-lt key (target c t) at.ready.word in omega arith

  -- the word of what the step does is that of the point
  pub on : (a : Act) → act c t ≡ a → location a ≡ target c t
  on a by = ap location (sym by)

  pub is_valid : (a : Act) → act c t ≡ a → IsValid s (location a)
  is_valid a by = subst (λ (y : Shape × Location). IsValid y.0 y.1) (λ j. (sym at.shape j, sym (on a by) j)) at.ready.word

  pub load_owes : (i : ℕ) (l : Location) → i ≡ index_of s l → act c t ≡ Load l
      → (p.table_id ≡ id) × (i < id.words) × Allows (Ruled key) id.slots p.id p.me i (λ n. n) (found (step id.slots i 0 0 none) p.me)
  load_owes i l is by = (
    at.table,
    inside i l is (on (Load l) by),
    subst (λ (j : ℕ). Allows (Ruled key) id.slots p.id p.me j (λ n. n) (found (step id.slots j 0 0 none) p.me)) (sym (here i l is (on (Load l) by))) (load_allowed key id.slots p.id p.me at.alone at.planned l (its_act ∙ by)),
  )

  pub store_owes : (i : ℕ) (l : Location) (y : Content) (n : ℕ) → i ≡ index_of s l → act c t ≡ Store l y → n ≡ coded y
      → (p.table_id ≡ id) × (i < id.words) × Allows (Ruled key) id.slots p.id p.me i (λ _. n) (λ _. wrote (step id.slots i n 0 none) p.me n)
  store_owes i l y n is by packed = (
    at.table,
    inside i l is (on (Store l y) by),
    subst (λ (j : ℕ). Allows (Ruled key) id.slots p.id p.me j (λ _. n) (λ _. wrote (step id.slots i n 0 none) p.me n)) (sym (here i l is (on (Store l y) by))) (store_allowed key id.slots p.id p.me at.alone at.planned l y n (its_act ∙ by) packed (step id.slots i n 0 none)),
  )

  -- what is written and expected can be packed
  pub store_fits : (l : Location) (y : Content) → act c t ≡ Store l y → MayHold key l y
  store_fits l y by = subst (ActFits key) by at.ready.fits

  pub store_packs : (l : Location) (y : Content) → act c t ≡ Store l y → Fits coding_limits y
  store_packs l y by = Fits-coding key y (store_fits l y by).1

  exchange_fits : (l : Location) (e y : Content) → act c t ≡ Exchange l e y → MayHold key l e × MayHold key l y
  exchange_fits l e y by = subst (ActFits key) by at.ready.fits

  pub old_packs : (l : Location) (e y : Content) → act c t ≡ Exchange l e y → Fits coding_limits e
  old_packs l e y by = Fits-coding key e (exchange_fits l e y by).0.1

  pub new_packs : (l : Location) (e y : Content) → act c t ≡ Exchange l e y → Fits coding_limits y
  new_packs l e y by = Fits-coding key y (exchange_fits l e y by).1.1

  pub exchange_owes : (i : ℕ) (l : Location) (e y : Content) (old new : ℕ) → i ≡ index_of s l → act c t ≡ Exchange l e y → old ≡ coded e → new ≡ coded y
      → (p.table_id ≡ id) × (i < id.words) × Allows (Ruled key) id.slots p.id p.me i (λ n. either (eqb n old) new n) (found (step id.slots i old new none) p.me)
  exchange_owes i l e y old new is by packed packed' = (
    at.table,
    inside i l is (on (Exchange l e y) by),
    subst (λ (j : ℕ). Allows (Ruled key) id.slots p.id p.me j (λ n. either (eqb n old) new n) (found (step id.slots j old new none) p.me)) (sym (here i l is (on (Exchange l e y) by)))
        (exchange_allowed key id.slots p.id p.me at.alone at.planned l e y old new (its_act ∙ by) (subst (λ (k : Location). MayHold key k e) (on (Exchange l e y) by ∙ its_word) (exchange_fits l e y by).0) packed packed'),
  )

  pub join_owes : (i r : ℕ) (b : Marks) (n : ℕ) → i ≡ index_of s (Mark r) → act c t ≡ Join r b → n ≡ marks_word b
      → (p.table_id ≡ id) × (i < id.words) × Allows (Ruled key) id.slots p.id p.me i (λ k. bit_or k n) (found (step id.slots i n 0 none) p.me)
  join_owes i r b n is by packed = (
    at.table,
    inside i (Mark r) is (on (Join r b) by),
    subst (λ (j : ℕ). Allows (Ruled key) id.slots p.id p.me j (λ k. bit_or k n) (found (step id.slots j n 0 none) p.me)) (sym (here i (Mark r) is (on (Join r b) by))) (join_allowed key id.slots p.id p.me at.alone at.planned r b n (its_act ∙ by) packed),
  )

  -- what was found, read back
  reads : (x : Content) (q : View) → Goes p.me.0 x q → (l : Location) → l ≡ target c t → (n : ℕ) (o : Option Content) → ReadsBack (CanCode l) coded n o → n ≡ coded x → o ≡ Some x
  reads x q g l on n o back is = read_back p.me.0.shape p.me.0.caller p.me.0.kept.point x n o (subst (λ (k : Location). ReadsBack (CanCode k) coded n o) (on ∙ its_word) back) is g.found

  pub is_read : (l : Location) (n : ℕ) (o : Option Content) (m : Me ℕ View) → (x : Content) × (n ≡ coded x) × Goes p.me.0 x m.0 × (m.1 ≡ p.me.1) → l ≡ target c t → ReadsBack (CanCode l) coded n o → IsSome o
  is_read l n o m f on back = subst IsSome (sym (reads f.0 m.0 f.2 l on n o back f.1)) (some f.0) where
    some : (y : Content) → IsSome (Some y)
    some y = refl

  pub moved : (q : Seat ℕ View) (l : Location) (n : ℕ) (o : Option Content) (r : Content) → (q.table_id ≡ p.table_id) × (q.id ≡ p.id) × ((x : Content) × (n ≡ coded x) × Goes p.me.0 x q.me.0 × (q.me.1 ≡ p.me.1)) → l ≡ target c t → ReadsBack (CanCode l) coded n o → o ≡ Some r → Moves p r q
  moved q l n o r f on back is = (f.0, f.1, subst (λ (x : Content). Goes p.me.0 x q.me.0) (same (sym (reads f.2.0 q.me.0 f.2.2 l on n o back f.2.1) ∙ is)) f.2.2, f.2.3) where
    same : Some f.2.0 ≡ Some r → f.2.0 ≡ r
    same e = cc e

-- the same, told of the view's own caller and point
pub at_own : (id : TableId) (key s : Shape) (c : ℕ) (t : Point) (p : Seat ℕ View) → IsAt id key s c t p → IsAt id key s p.me.0.caller p.me.0.kept.point p
at_own id key s c t p at = record {
  table = at.table;
  size = at.size;
  shape = at.shape;
  planned = at.planned;
  alone = at.alone;
  caller = refl;
  point = refl;
  ready = subst (λ (y : ℕ × Point). Ready key y.0 y.1) (λ i. (sym at.caller i, sym at.point i)) at.ready;
}

pub acts_own : (id : TableId) (key s : Shape) (c : ℕ) (t : Point) (p : Seat ℕ View) (a : Act) → IsAt id key s c t p → act c t ≡ a → act p.me.0.caller p.me.0.kept.point ≡ a
acts_own id key s c t p a at is = (λ i. act (at.caller i) (at.point i)) ∙ is
