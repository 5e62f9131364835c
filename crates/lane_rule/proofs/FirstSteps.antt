-- What the first step of a command owes and what it gives.
use Rattle.std.proofs.Common.{◌≡◌, ℕ, ◌<◌, ◌≤◌, List, length, sym, refl, ap, ◌∙◌, subst, arith, Option, Some, IsSome}
use mathlib.Core.Option.{none}
use Rattle.atomic_table.specs.Table.{Me, Allows, step}
use Rattle.atomic_table.specs.Seated.{TableId}
use Rattle.atomic_table.specs.declared.shared.Seat.{Seat}
use Rattle.bq_model.specs.declared.op.Op.{Op}
use Rattle.bq_model.specs.declared.shape.Shape.{Shape}
use Rattle.word_rows.specs.declared.location.Location.{Location}
use Rattle.word_rows.specs.declared.content.Content.{Content}
use Rattle.word_rows.specs.Layout.{IsValid, index_of}
use Rattle.word_rows.specs.Contents.{coded, CanCode}
use Rattle.word_rows.specs.ReadsBack.{ReadsBack}
use Rattle.word_rows.proofs.LayoutLemmas.{index_of-lt}
use Rattle.lane_steps.specs.declared.point.Point.{Point}
use Rattle.lane_steps.specs.LaneSizes.{lane_sizes}
use Rattle.lane_steps.specs.Start.{first_point}
use Rattle.lane_steps.specs.Step.{act, target}
use Rattle.lane_steps.specs.declared.act.Act.{Act}
use Rattle.lane_steps.specs.declared.act.Act.TheVariants.{Load}
use Rattle.lane_rule.specs.declared.view.View.{View}
use Rattle.lane_steps.specs.Act.{location}
use Rattle.lane_rule.specs.Rule.{caller_of, Ruled}
use Rattle.lane_rule.specs.Goes.{Goes}
use Rattle.lane_rule.specs.Begun.{begun}
use Rattle.lane_rule.specs.Plays.{began, IsIdle, Starts}
use Rattle.lane_rule.proofs.Effects.{loaded}
use Rattle.lane_rule.proofs.Begun.{first_allowed}
use Rattle.lane_rule.proofs.Single.{read_back}

module _ (id : TableId) (key s : Shape) (c : ℕ) (ops : List Op) (t : Point) (p : Seat ℕ View) (at : IsIdle id key s c ops t p) where
  here : (i : ℕ) (l : Location) → i ≡ index_of s l → l ≡ target c t → i ≡ index_of key (target c t)
  here i l is on = is ∙ (λ j. index_of (at.shape j) (on j))

  inside : (i : ℕ) (l : Location) → i ≡ index_of s l → l ≡ target c t → i < id.words
  inside i l is on = let size = at.size in let e = here i l is on in let below = index_of-lt key (target c t) at.ready.word in omega arith

  pub first_on : (a : Act) → act c t ≡ a → location a ≡ target c t
  first_on a by = ap location (sym by)

  pub first_valid : (a : Act) → act c t ≡ a → IsValid s (location a)
  first_valid a by = subst (λ (y : Shape × Location). IsValid y.0 y.1) (λ j. (sym at.shape j, sym (first_on a by) j)) at.ready.word

  point_is : (n : ℕ) → (begun p.me.0 n ops).kept.point ≡ t
  point_is n = (λ j. first_point (lane_sizes (at.planned j)) (at.caller j) (caller_of p.me.0.kept) ops) ∙ at.point

  -- the first step of the view's caller is that of the caller at the point
  its_word : (m : ℕ) → target c t ≡ target p.me.0.caller (begun p.me.0 m ops).kept.point
  its_word m = λ j. target (sym at.caller j) (sym (point_is m) j)

  pub first_load_owes : (i : ℕ) (l : Location) → i ≡ index_of s l → act c t ≡ Load l
      → (p.table_id ≡ id) × (i < id.words) × Allows (Ruled key) id.slots p.id p.me i (λ n. n) (began ops (step id.slots i 0 0 none) p.me)
  first_load_owes i l is by = let on = first_on (Load l) by in (
    at.table,
    inside i l is on,
    subst (λ (j : ℕ). Allows (Ruled key) id.slots p.id p.me j (λ n. n) (began ops (step id.slots j 0 0 none) p.me)) (sym (here i l is on))
        (first_allowed key id.slots p.id p.me ops at.alone at.planned at.may c at.caller t point_is (λ n. n) (began ops (step id.slots (index_of key (target c t)) 0 0 none) p.me)
        (λ x m. sym (ap coded (loaded c t l x by))) (λ n x w less g. (n, less, x, refl, g, refl))),
  )

  reads : (m : ℕ) (x : Content) (q : View) → Goes (begun p.me.0 m ops) x q → (l : Location) → l ≡ target c t → (n : ℕ) (o : Option Content) → ReadsBack (CanCode l) coded n o → n ≡ coded x → o ≡ Some x
  reads m x q g l on n o back is = read_back p.me.0.shape p.me.0.caller (begun p.me.0 m ops).kept.point x n o (subst (λ (k : Location). ReadsBack (CanCode k) coded n o) (on ∙ its_word m) back) is g.found

  pub first_read : (l : Location) (n : ℕ) (o : Option Content) (m : Me ℕ View) → (k : ℕ) × (length p.me.0.seen ≤ k) × (x : Content) × (n ≡ coded x) × Goes (begun p.me.0 k ops) x m.0 × (m.1 ≡ p.me.1) → l ≡ target c t → ReadsBack (CanCode l) coded n o → IsSome o
  first_read l n o m f on back = subst IsSome (sym (reads f.0 f.2 m.0 f.4 l on n o back f.3)) (some f.2) where
    some : (y : Content) → IsSome (Some y)
    some y = refl

  pub first_moved : (q : Seat ℕ View) (l : Location) (n : ℕ) (o : Option Content) (r : Content) → (q.table_id ≡ p.table_id) × (q.id ≡ p.id) × ((k : ℕ) × (length p.me.0.seen ≤ k) × (x : Content) × (n ≡ coded x) × Goes (begun p.me.0 k ops) x q.me.0 × (q.me.1 ≡ p.me.1))
      → l ≡ target c t → ReadsBack (CanCode l) coded n o → o ≡ Some r → Starts p ops r q
  first_moved q l n o r f on back is = let b = f.2 in (f.0, f.1, (b.0, b.1, subst (λ (x : Content). Goes (begun p.me.0 b.0 ops) x q.me.0) (same b.2 (sym (reads b.0 b.2 q.me.0 b.4 l on n o back b.3) ∙ is)) b.4), b.5) where
    same : (y : Content) → Some y ≡ Some r → y ≡ r
    same y e = cc e
