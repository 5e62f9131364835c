-- Rows of which each gets one element more, or gives up its last one.
use Rattle.std.specs.Prelude.{◌≡◌, ℕ, ◌+◌, List, [], ◌∷◌, ◌++◌}

-- R holds of the elements at each place of two lists, of which the first has number c
abbrev pub AtEach : {X Y : Type 0} → (ℕ → X → Y → Type 0) → ℕ → List X → List Y → Type 0
AtEach R c [] [] = Unit {0}
AtEach R c [] (y ∷ ys) = ⊥
AtEach R c (x ∷ xs) [] = ⊥
AtEach R c (x ∷ xs) (y ∷ ys) = R c x y × AtEach R (c + 1) xs ys

-- a row is another one with one element more at its end, of which P holds
pub record Longer {X : Type 0} (P : X → Type 0) (longer shorter : List X) : Type 0 where
  pub last : X
  pub holds : P last
  pub stands : longer ≡ shorter ++ last ∷ []

-- a row whose last element is one of which P holds
pub record Ends {X : Type 0} (P : X → Type 0) (row : List X) : Type 0 where
  pub rest : List X
  pub last : X
  pub holds : P last
  pub stands : row ≡ rest ++ last ∷ []
