-- What is taken out of a list of retired rows, and what stays.
use Rattle.std.proofs.Common.{◌≡◌, ◌≢◌, ℕ, suc, ◌+◌, ◌<◌, ◌≤◌, ltb, Bool, true, false, cond, not, List, [], ◌∷◌, length, Option, Some, None, is_some, IsSome, IsNone, IfSome, refl, sym, ap, subst, ◌∙◌, arith, ◌↔◌}
use Rattle.std.specs.Prelude.{All, AllPairs, Contains, position, slice_get, slice_index_or}
use Rattle.std.specs.List.{position_or_len, remove}
use Rattle.std.proofs.lemmas.Bool.Decides.{Decides-eqb, not_from_Decides}
use Rattle.std.proofs.lemmas.Cmp.{nat_eq_equiv}
use Rattle.std.proofs.lemmas.List.Elements.{All-nil, All-cons, All-head, All-tail, All-contains}
use Rattle.std.proofs.lemmas.List.Folds.{find_at}
use Rattle.std.proofs.lemmas.Map.Made.{IsDistinct-from_AllPairs, is_member-Decides, length-le_from_is_member}
use Rattle.std.proofs.lemmas.Bool.{ltb-true, ltb-false}
use Rattle.std.proofs.lemmas.Option.{slice_get_past, slice_get_read}
use Rattle.node_guard.specs.Pick.{among}
use Rattle.node_guard.specs.Retired.{is_unheld, first_unheld, without_first_unheld}
use Rattle.node_guard.proofs.Picks.{among_decides}

-- what is given isn't held
pub given_is_unheld : (held rows : List ℕ) → IfSome (first_unheld held rows) (λ row. ¬ Contains held row)
given_is_unheld held [] = tt
given_is_unheld held (row ∷ rows) = by (given_is_unheld held rows) (among held row) refl where
  by : IfSome (first_unheld held rows) (λ r. ¬ Contains held r) → (b : Bool) → among held row ≡ b → IfSome (cond (not b) (Some row) (first_unheld held rows)) (λ r. ¬ Contains held r)
  by rest true is = rest
  by rest false is = not_from_Decides (among held row) (among_decides held row) is

-- nothing is given exactly where all are held
pub none_is_given : (held rows : List ℕ) → IsNone (first_unheld held rows) ↔ All (λ row. Contains held row) rows
none_is_given held [] = ((λ _. All-nil _), λ _. refl)
none_is_given held (row ∷ rows) = by (none_is_given held rows) (among held row) refl where
  by : (IsNone (first_unheld held rows) ↔ All (λ r. Contains held r) rows) → (b : Bool) → among held row ≡ b → IsNone (cond (not b) (Some row) (first_unheld held rows)) ↔ All (λ r. Contains held r) (row ∷ rows)
  by rest true is = ((λ none. All-cons (λ r. Contains held r) row rows ((among_decides held row).0 is) (rest.0 none)), λ all. rest.1 (All-tail (λ r. Contains held r) row rows all))
  by rest false is = ((λ bad. cc bad), λ all. absurd (not_from_Decides (among held row) (among_decides held row) is (All-head (λ r. Contains held r) row rows all)))

-- of distinct rows one isn't held, where fewer are held than there are
pub some_is_given : (held rows : List ℕ) → AllPairs (λ row other. row ≢ other) rows → length held < length rows → IsSome (first_unheld held rows)
some_is_given held rows apart fewer = by (first_unheld held rows) refl where
  by : (given : Option ℕ) → first_unheld held rows ≡ given → IsSome given
  by (Some row) _ = refl
  by None none = let all = (none_is_given held rows).0 (ap is_some none) in
      let most : length rows ≤ length held = length-le_from_is_member nat_eq_equiv rows held (IsDistinct-from_AllPairs Decides-eqb rows apart) (λ row e.
      (is_member-Decides Decides-eqb held row).1 (All-contains (λ r. Contains held r) rows row all ((is_member-Decides Decides-eqb rows row).0 e))) in absurd (omega arith)

-- the others are those without the place that is found first
pub without_the_place : (held rows : List ℕ) → without_first_unheld held rows ≡ remove rows (position_or_len (is_unheld held) rows)
without_the_place held [] = refl
without_the_place held (row ∷ rows) = by (without_the_place held rows) (is_unheld held row) where
  by : without_first_unheld held rows ≡ remove rows (position_or_len (is_unheld held) rows) → (b : Bool) → cond b rows (row ∷ without_first_unheld held rows) ≡ remove (row ∷ rows) (cond (not b) (1 + position_or_len (is_unheld held) rows) 0)
  by _ true = refl
  by e false = let n = position_or_len (is_unheld held) rows in let one : suc n ≡ 1 + n = omega arith in ap (λ ys. row ∷ ys) e ∙ ap (remove (row ∷ rows)) one

-- where nothing is given, all stay
pub all_stay : (held rows : List ℕ) → first_unheld held rows ≡ None → without_first_unheld held rows ≡ rows
all_stay held [] none = refl
all_stay held (row ∷ rows) none = by (all_stay held rows) (is_unheld held row) none where
  by : (first_unheld held rows ≡ None → without_first_unheld held rows ≡ rows) → (b : Bool) → cond b (Some row) (first_unheld held rows) ≡ None → cond b rows (row ∷ without_first_unheld held rows) ≡ row ∷ rows
  by rest true bad = cc bad
  by rest false none = ap (λ ys. row ∷ ys) (rest none)

-- where no place is found, nothing is given
pub no_place : (held rows : List ℕ) → position (is_unheld held) rows ≡ None → first_unheld held rows ≡ None
no_place held rows none = find_at (is_unheld held) rows ∙ by (ltb (position_or_len (is_unheld held) rows) (length rows)) refl none where
  by : (b : Bool) → ltb (position_or_len (is_unheld held) rows) (length rows) ≡ b → cond b (Some (position_or_len (is_unheld held) rows)) None ≡ None → slice_get rows (position_or_len (is_unheld held) rows) ≡ None
  by true _ bad = cc bad
  by false past _ = slice_get_past rows _ (ltb-false _ _ past)

-- the place that is found is that of the row that is given
pub its_place : (held rows : List ℕ) (place row : ℕ) → position (is_unheld held) rows ≡ Some place → row ≡ slice_index_or rows place row
    → (Some row ≡ first_unheld held rows) × (remove rows place ≡ without_first_unheld held rows)
its_place held rows place row found read = by (ltb (position_or_len (is_unheld held) rows) (length rows)) refl found where
  by : (b : Bool) → ltb (position_or_len (is_unheld held) rows) (length rows) ≡ b → cond b (Some (position_or_len (is_unheld held) rows)) None ≡ Some place → (Some row ≡ first_unheld held rows) × (remove rows place ≡ without_first_unheld held rows)
  by false _ bad = cc bad
  by true inside is = let here : position_or_len (is_unheld held) rows ≡ place = cc is in
      let within : place < length rows = subst (λ (k : ℕ). k < length rows) here (ltb-true _ _ inside) in (
        sym (find_at (is_unheld held) rows ∙ (ap (slice_get rows) here ∙ slice_get_read rows (length rows) place row refl within read)),
        ap (remove rows) (sym here) ∙ sym (without_the_place held rows),
      )
