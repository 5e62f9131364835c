-- Lists that grow by what they have so far.
use Rattle.std.proofs.Common.{◌≡◌, ℕ, zero, suc, ◌+◌, ◌<◌, ◌≤◌, List, [], ◌∷◌, ◌++◌, length, get_or, take, Some, refl, sym, ap, ◌∙◌, arith, length-append, slice_get}
use Rattle.std.proofs.lemmas.List.{take_all, take-append-le, get_or_append_left, get_or_push}
use Rattle.std.proofs.lemmas.Option.{same_Some}
use Rattle.dep_text.specs.Grown.{grown_onto, grown}

module _ {X Y : Type 0} (f : List Y → X → Y) where
  -- elements, and those behind them
  pub grown_onto-append : (before : List Y) (front behind : List X) → grown_onto f before (front ++ behind) ≡ grown_onto f (grown_onto f before front) behind
  grown_onto-append before [] behind = refl
  grown_onto-append before (x ∷ front) behind = grown_onto-append (before ++ f before x ∷ []) front behind

  length-grown_onto : (before : List Y) (xs : List X) → length (grown_onto f before xs) ≡ length before + length xs
  length-grown_onto before [] = omega arith
  length-grown_onto before (x ∷ xs) =
      let longer = length-append before (f before x ∷ []) in
      let rest = length-grown_onto (before ++ f before x ∷ []) xs in
      omega arith

  -- it grows by one for each element
  pub length-grown : (xs : List X) → length (grown f xs) ≡ length xs
  length-grown xs = let all = length-grown_onto [] xs in omega arith

  -- what it has stays
  take-grown_onto : (before : List Y) (xs : List X) (k : ℕ) → k ≤ length before → take k (grown_onto f before xs) ≡ take k before
  take-grown_onto before [] k within = refl
  take-grown_onto before (x ∷ xs) k within =
      let longer = length-append before (f before x ∷ []) in
      take-grown_onto (before ++ f before x ∷ []) xs k (omega arith) ∙ take-append-le k before (f before x ∷ []) within

  get_or-grown_onto : (before : List Y) (xs : List X) (k : ℕ) (d : Y) → k < length before → get_or (grown_onto f before xs) k d ≡ get_or before k d
  get_or-grown_onto before [] k d within = refl
  get_or-grown_onto before (x ∷ xs) k d within =
      let longer = length-append before (f before x ∷ []) in
      get_or-grown_onto (before ++ f before x ∷ []) xs k d (omega arith) ∙ get_or_append_left before (f before x ∷ []) d k within

  -- the thing at an element's place is what f makes of those before it
  grown_onto-at : (before : List Y) (xs : List X) (n k : ℕ) (x : X) (d : Y) → slice_get xs k ≡ Some x → n ≡ length before + k
      → get_or (grown_onto f before xs) n d ≡ f (take n (grown_onto f before xs)) x
  grown_onto-at before [] n k x d found place = cc found
  grown_onto-at before (y ∷ xs) n zero x d found place =
      let more = before ++ f before y ∷ [] in
      let longer = length-append before (f before y ∷ []) in
      let same : y ≡ x = same_Some y x found in
      let here : get_or (grown_onto f more xs) n d ≡ f before y = get_or-grown_onto more xs n d (omega arith) ∙ get_or_push before (f before y) d n (omega arith) in
      let front : take n (grown_onto f more xs) ≡ before =
      take-grown_onto more xs n (omega arith) ∙ (take-append-le n before (f before y ∷ []) (omega arith) ∙ take_all n before (omega arith)) in
      here ∙ (ap (f before) same ∙ ap (λ (ys : List Y). f ys x) (sym front))
  grown_onto-at before (y ∷ xs) n (suc k) x d found place =
      let longer = length-append before (f before y ∷ []) in
      grown_onto-at (before ++ f before y ∷ []) xs n k x d found (omega arith)

  pub grown-at : (xs : List X) (k : ℕ) (x : X) (d : Y) → slice_get xs k ≡ Some x → get_or (grown f xs) k d ≡ f (take k (grown f xs)) x
  grown-at xs k x d found = grown_onto-at [] xs k k x d found (omega arith)
