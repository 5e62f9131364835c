-- Functions and lists of numbers.
use Rattle.std.specs.Prelude.{◌≡◌, ℕ, zero, suc, ◌==◌, nat_lt, cond, false, List, [], ◌∷◌}
use Rattle.node_guard.specs.Pick.{among}

-- f, but x at i
abbrev pub put : {A : Type 0} → (ℕ → A) → ℕ → A → ℕ → A
put f i x j = cond (j == i) x (f j)

-- the n values from f i on
abbrev pub run : (ℕ → ℕ) → ℕ → ℕ → List ℕ
run f i zero = []
run f i (suc n) = f i ∷ run f (suc i) n

-- no number is twice in the list
abbrev pub Distinct : List ℕ → Type 0
Distinct [] = Unit {0}
Distinct (x ∷ xs) = (among xs x ≡ false) × Distinct xs

-- so many numbers from this one on
abbrev pub upto : ℕ → ℕ → List ℕ
upto from zero = []
upto from (suc n) = from ∷ upto (suc from) n

-- the numbers, by rising order
abbrev pub inserted : ℕ → List ℕ → List ℕ
inserted x [] = x ∷ []
inserted x (y ∷ ys) = cond (nat_lt y x) (y ∷ inserted x ys) (x ∷ y ∷ ys)

abbrev pub rising : List ℕ → List ℕ
rising [] = []
rising (x ∷ xs) = inserted x (rising xs)
