-- What a load of the marks of a row finds, straight from its word.
use Rattle.std.proofs.Common.{◌≡◌, ℕ, Option, Some, None, sym, refl, ap, ◌∙◌, subst}
use Rattle.atomic_table.specs.declared.shared.Seat.{Seat}
use Rattle.word_rows.specs.declared.content.Content.{Content}
use Rattle.word_rows.specs.declared.content.Content.TheVariants.{OfMark}
use Rattle.word_rows.specs.declared.location.Location.{Location}
use Rattle.word_rows.specs.declared.location.Location.TheVariants.{Mark}
use Rattle.word_rows.specs.declared.marks.Marks.{Marks}
use Rattle.word_rows.specs.Contents.{coded, IsOfKind}
use Rattle.word_rows.specs.Packing.{marks_word}
use Rattle.word_rows.specs.ReadsBack.{ReadsBack}
use Rattle.lane_steps.specs.Act.{location}
use Rattle.lane_steps.specs.Step.{act}
use Rattle.lane_steps.specs.declared.act.Act.TheVariants.{Load}
use Rattle.lane_rule.specs.declared.view.View.{View}
use Rattle.lane_rule.specs.Goes.{Goes}
use Rattle.lane_rule.specs.Plays.{Moves}

module _ (r n : ℕ) (o : Option Marks) (back : ReadsBack (λ (_ : Marks). Unit {0}) marks_word n o) where
  its_marks : (x : Content) → IsOfKind (Mark r) x → n ≡ coded x → (m : Marks) × (x ≡ OfMark m) × (o ≡ Some m)
  its_marks (OfMark m) k is = (m, refl, (back m).1 (tt, sym is))
  its_marks _ k is = absurd k

  module _ (p q : Seat ℕ View) (by : act p.me.0.caller p.me.0.kept.point ≡ Load (Mark r))
      (f : (q.table_id ≡ p.table_id) × (q.id ≡ p.id) × ((x : Content) × (n ≡ coded x) × Goes p.me.0 x q.me.0 × (q.me.1 ≡ p.me.1))) where
    found : (m : Marks) × (f.2.0 ≡ OfMark m) × (o ≡ Some m)
    found = its_marks f.2.0 (subst (λ (l : Location). IsOfKind l f.2.0) (ap location by) f.2.2.found.0) f.2.1

    pub none_is_read : {A : Type 0} → o ≡ None → A
    none_is_read none = cc (sym found.2 ∙ none)

    pub marks_loaded : (m : Marks) → o ≡ Some m → Moves p (OfMark m) q
    marks_loaded m is = (f.0, f.1, subst (λ (x : Content). Goes p.me.0 x q.me.0) (found.1 ∙ ap OfMark (same (sym found.2 ∙ is))) f.2.2, f.2.3) where
      same : Some found.0 ≡ Some m → found.0 ≡ m
      same e = cc e
