-- Pieces that a byte joins, one after another.
use Rattle.std.proofs.Common.{◌≡◌, ◌≢◌, ℕ, List, [], ◌∷◌, ◌++◌, map, length, refl, sym, ap, ◌∙◌, append_assoc, arith, length-append}
use Rattle.std.specs.List.{join_with_byte}

module _ {A : Type 0} (c : ℕ) (f : A → List ℕ) where
  -- a piece behind others
  joined_more : (x : A) (xs : List A) (y : A)
      → join_with_byte c (map f ((x ∷ xs) ++ y ∷ [])) ≡ join_with_byte c (map f (x ∷ xs)) ++ c ∷ f y
  joined_more x [] y = refl
  joined_more x (z ∷ zs) y =
      ap (λ l. f x ++ c ∷ l) (joined_more z zs y)
      ∙ sym (append_assoc (f x) (c ∷ join_with_byte c (map f (z ∷ zs))) (c ∷ f y))

  module _ (filled : (x : A) → f x ≢ []) where
    -- pieces of which none is empty don't join to nothing
    joined_filled : (x : A) (xs : List A) → join_with_byte c (map f (x ∷ xs)) ≢ []
    joined_filled x [] e = filled x e
    joined_filled x (y ∷ ys) e =
        let rest = join_with_byte c (map f (y ∷ ys)) in
        absurd (omega (arith, ap length e, length-append (f x) (c ∷ rest)))

    -- one more piece, behind the byte where it isn't the first
    pub joined_push : (xs : List A) (y : A) (old new : List ℕ) → old ≡ join_with_byte c (map f xs)
        → (old ≡ [] → new ≡ f y) → (old ≢ [] → new ≡ old ++ c ∷ f y)
        → new ≡ join_with_byte c (map f (xs ++ y ∷ []))
    joined_push [] y old new is first later = first is
    joined_push (x ∷ xs) y old new is first later =
        later (λ e. joined_filled x xs (sym is ∙ e)) ∙ ap (λ l. l ++ c ∷ f y) is ∙ sym (joined_more x xs y)
