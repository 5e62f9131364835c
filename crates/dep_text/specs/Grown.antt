-- Lists that grow by one thing for each element of another, by what they have so far.
use Rattle.std.specs.Prelude.{List, [], ◌∷◌, ◌++◌}

-- what a list becomes by these elements
abbrev pub grown_onto : {X Y : Type 0} → (List Y → X → Y) → List Y → List X → List Y
grown_onto f before [] = before
grown_onto f before (x ∷ xs) = grown_onto f (before ++ f before x ∷ []) xs

-- what it becomes from nothing
abbrev pub grown : {X Y : Type 0} → (List Y → X → Y) → List X → List Y
grown f xs = grown_onto f [] xs
