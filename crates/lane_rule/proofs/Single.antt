-- What each of the four ways to touch a word owes, and what it learns.
use Rattle.std.proofs.Common.{◌≡◌, ℕ, eqb, Bool, true, false, sym, refl, ap, ◌∙◌, eq-eqb, Option, Some}
use Rattle.std.proofs.lemmas.Bool.{eqb-true}
use Rattle.std.specs.Prelude.{bit_or}
use mathlib.Core.Option.{none}
use Rattle.word_rows.specs.declared.marks.Marks.{Marks}
use Rattle.word_rows.specs.declared.location.Location.TheVariants.{Mark}
use Rattle.word_rows.specs.Packing.{marks_word}
use prog.Atomic.{either}
use Rattle.atomic_table.specs.Table.{Me, Allows, Step, step}
use Rattle.bq_model.specs.declared.shape.Shape.{Shape}
use Rattle.word_rows.specs.declared.location.Location.{Location}
use Rattle.word_rows.specs.declared.content.Content.{Content}
use Rattle.word_rows.specs.Layout.{index_of}
use Rattle.word_rows.specs.Contents.{coded, CanCode, MayHold}
use Rattle.word_rows.specs.ReadsBack.{ReadsBack}
use Rattle.word_rows.proofs.ContentLemmas.{CanCode-in_lane, MayHold-once}
use Rattle.lane_steps.specs.declared.act.Act.TheVariants.{Load, Store, Exchange, Join}
use Rattle.lane_steps.specs.declared.point.Point.{Point}
use Rattle.lane_steps.specs.Step.{act, target, stored}
use Rattle.lane_rule.specs.declared.view.View.{View}
use Rattle.lane_rule.specs.declared.view.Kind.TheVariants.{Alone}
use Rattle.lane_rule.specs.Rule.{Ruled}
use Rattle.lane_rule.specs.Plays.{found, wrote}
use Rattle.lane_rule.proofs.Effects.{loaded, written, exchanged, joined}
use Rattle.lane_rule.proofs.Allowed.{allows}

module _ (key : Shape) (slots id : ℕ) (me : Me ℕ View) (alone : me.0.kind ≡ Alone) (planned : me.0.shape ≡ key) where
  pub load_allowed : (l : Location) → act me.0.caller me.0.kept.point ≡ Load l → Allows (Ruled key) slots id me (index_of key (target me.0.caller me.0.kept.point)) (λ n. n) (found (step slots (index_of key (target me.0.caller me.0.kept.point)) 0 0 none) me)
  load_allowed l is = allows key slots id me alone (λ n. n) (found (step slots (index_of key (target me.0.caller me.0.kept.point)) 0 0 none) me) planned
      (λ x m. sym (ap coded (loaded me.0.caller me.0.kept.point l x is))) (λ x w g. (x, refl, g, refl))

  pub store_allowed : (l : Location) (y : Content) (n : ℕ) → act me.0.caller me.0.kept.point ≡ Store l y → n ≡ coded y → (st : Step ℕ) → Allows (Ruled key) slots id me (index_of key (target me.0.caller me.0.kept.point)) (λ _. n) (λ _. wrote st me n)
  store_allowed l y n is packed st = allows key slots id me alone (λ _. n) (λ _. wrote st me n) planned
      (λ x m. packed ∙ sym (ap coded (written me.0.caller me.0.kept.point l x y is))) (λ x w g. (x, g, refl))

  swaps : (l : Location) (e y x : Content) → MayHold key (target me.0.caller me.0.kept.point) x → MayHold key (target me.0.caller me.0.kept.point) e → act me.0.caller me.0.kept.point ≡ Exchange l e y
      → (b : Bool) → eqb (coded x) (coded e) ≡ b → either b (coded y) (coded x) ≡ coded (stored me.0.caller me.0.kept.point x)
  swaps l e y x mx me' is true same = sym (ap coded ((exchanged me.0.caller me.0.kept.point l x e y is).0 (MayHold-once key (target me.0.caller me.0.kept.point) x e mx me' (eqb-true (coded x) (coded e) same))))
  swaps l e y x mx me' is false other = sym (ap coded ((exchanged me.0.caller me.0.kept.point l x e y is).1 (λ same. differ (sym (eq-eqb (coded x) (coded e) (ap coded same)) ∙ other)))) where
    differ : true ≡ false → ⊥
    differ z = cc z

  pub exchange_allowed : (l : Location) (e y : Content) (old new : ℕ) → act me.0.caller me.0.kept.point ≡ Exchange l e y → MayHold key (target me.0.caller me.0.kept.point) e → old ≡ coded e → new ≡ coded y
      → Allows (Ruled key) slots id me (index_of key (target me.0.caller me.0.kept.point)) (λ n. either (eqb n old) new n) (found (step slots (index_of key (target me.0.caller me.0.kept.point)) old new none) me)
  exchange_allowed l e y old new is fits packed packed' = allows key slots id me alone (λ n. either (eqb n old) new n) (found (step slots (index_of key (target me.0.caller me.0.kept.point)) old new none) me) planned
      (λ x m. (λ i. either (eqb (coded x) (packed i)) (packed' i) (coded x)) ∙ swaps l e y x m fits is (eqb (coded x) (coded e)) refl) (λ x w g. (x, refl, g, refl))

  pub join_allowed : (r : ℕ) (b : Marks) (n : ℕ) → act me.0.caller me.0.kept.point ≡ Join r b → n ≡ marks_word b
      → Allows (Ruled key) slots id me (index_of key (target me.0.caller me.0.kept.point)) (λ k. bit_or k n) (found (step slots (index_of key (target me.0.caller me.0.kept.point)) n 0 none) me)
  join_allowed r b n is packed = allows key slots id me alone (λ k. bit_or k n) (found (step slots (index_of key (target me.0.caller me.0.kept.point)) n 0 none) me) planned
      (λ x m. ap (bit_or (coded x)) packed ∙ joined me.0.caller me.0.kept.point (Mark r) x key r b is m) (λ x w g. (x, refl, g, refl))

-- what was found, read back
pub read_back : (s : Shape) (c : ℕ) (t : Point) (x : Content) (n : ℕ) (o : Option Content) → ReadsBack (CanCode (target c t)) coded n o → n ≡ coded x → MayHold s (target c t) x → o ≡ Some x
read_back s c t x n o back is m = (back x).1 (CanCode-in_lane s (target c t) x m, sym is)
