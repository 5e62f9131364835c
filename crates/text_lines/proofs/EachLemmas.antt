-- What a function gives at each element of a list, one element after another.
use Rattle.std.proofs.Common.{◌≡◌, suc, List, [], ◌∷◌, ◌++◌, length, Option, None, Some, refl, sym, ap, subst, ◌∙◌, append_assoc, append-nil, All}
use Rattle.std.specs.Option.{option_map}
use Rattle.std.proofs.lemmas.List.Elements.{All-nil, All-cons}
use Rattle.std.proofs.lemmas.Option.{same_Some, none-some, option_and_then_some}
use Rattle.text_lines.specs.Each.{each_of}

-- what was found so far, before what is found in the rest
abbrev pub onto : {Y : Type 0} → List Y → Option (List Y) → Option (List Y)
onto ys found = option_map (λ more. ys ++ more) found

onto-cons : {Y : Type 0} (ys : List Y) (y : Y) (found : Option (List Y)) → onto ys (option_map (λ zs. y ∷ zs) found) ≡ onto (ys ++ y ∷ []) found
onto-cons ys y None = refl
onto-cons ys y (Some zs) = ap Some (sym (append_assoc ys (y ∷ []) zs))

pub onto-nil : {Y : Type 0} (found : Option (List Y)) → onto [] found ≡ found
onto-nil None = refl
onto-nil (Some zs) = refl

-- what a mapped value came from
pub option_map_some : {X Y P : Type 0} (f : X → Y) (o : Option X) (y : Y) → option_map f o ≡ Some y → ((x : X) → o ≡ Some x → f x ≡ y → P) → P
option_map_some f None y gives found = absurd (none-some _ gives)
option_map_some f (Some x) y gives found = found x refl (same_Some _ _ gives)

module _ {X Y : Type 0} (f : X → Option Y) (all : Option (List Y)) where
  -- a step of a loop over what is left, which takes the first element
  pub each_of-more : (left rest : List X) (x : X) (ys more : List Y) (y : Y) → left ≡ x ∷ rest → Some y ≡ f x → more ≡ ys ++ y ∷ []
      → onto ys (each_of f left) ≡ all → onto more (each_of f rest) ≡ all
  each_of-more left rest x ys more y left_is gives more_is before =
      let here : onto ys (each_of f (x ∷ rest)) ≡ onto (ys ++ y ∷ []) (each_of f rest) = rw (← gives) (onto-cons ys y (each_of f rest)) in
      ap (λ (zs : List Y). onto zs (each_of f rest)) more_is ∙ (sym here ∙ (ap (λ (xs : List X). onto ys (each_of f xs)) (sym left_is) ∙ before))

  -- a step that finds nothing ends it
  pub each_of-fails : (left rest : List X) (x : X) (ys : List Y) → left ≡ x ∷ rest → None ≡ f x → onto ys (each_of f left) ≡ all → None ≡ all
  each_of-fails left rest x ys left_is fails before =
      let here : None ≡ onto ys (each_of f (x ∷ rest)) = rw (← fails) refl in
      here ∙ (ap (λ (xs : List X). onto ys (each_of f xs)) (sym left_is) ∙ before)

  -- nothing is left
  pub each_of-done : (left : List X) (ys : List Y) → left ≡ [] → onto ys (each_of f left) ≡ all → Some ys ≡ all
  each_of-done left ys left_is before =
      ap Some (sym (append-nil ys)) ∙ (ap (λ (xs : List X). onto ys (each_of f xs)) (sym left_is) ∙ before)

module _ {X Y : Type 0} (f : X → Option Y) where
  -- it gives as many as there are elements
  pub length-each_of : (xs : List X) (ys : List Y) → each_of f xs ≡ Some ys → length ys ≡ length xs
  length-each_of [] ys gives = ap length (sym (same_Some _ _ gives))
  length-each_of (x ∷ xs) ys gives =
      option_and_then_some (λ y. option_map (λ zs. y ∷ zs) (each_of f xs)) (f x) ys gives (λ y y_is rest.
      option_map_some (λ (zs : List Y). y ∷ zs) (each_of f xs) ys rest (λ zs zs_is same.
      ap length (sym same) ∙ ap suc (length-each_of xs zs zs_is)))

  -- what holds of each thing that f gives holds of all of them
  pub All-each_of : (P : Y → Type 0) → ((x : X) (y : Y) → f x ≡ Some y → P y) → (xs : List X) (ys : List Y) → each_of f xs ≡ Some ys → All P ys
  All-each_of P holds [] ys gives = subst (All P) (same_Some _ _ gives) (All-nil P)
  All-each_of P holds (x ∷ xs) ys gives =
      option_and_then_some (λ y. option_map (λ zs. y ∷ zs) (each_of f xs)) (f x) ys gives (λ y y_is rest.
      option_map_some (λ (zs : List Y). y ∷ zs) (each_of f xs) ys rest (λ zs zs_is same.
      subst (All P) same (All-cons P y zs (holds x y y_is) (All-each_of P holds xs zs zs_is))))
