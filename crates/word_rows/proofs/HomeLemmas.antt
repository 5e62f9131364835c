-- Each row has one home.
use Rattle.std.proofs.Common.{◌≡◌, ◌≢◌, ◌↔◌, Option, Some, None, subst, ℕ, ◌+◌, ◌-◌, ◌*◌, ◌/◌, ◌%◌, ◌<◌, ◌⊎◌, inl, inr, refl, sym, ap, ◌∙◌, arith}
use Rattle.std.proofs.lemmas.Nat.{mul-add-lt, same_from_place, div_below, div-add-mod', mod_below}
use Rattle.bq_model.specs.declared.shape.Shape.{Shape}
use Rattle.word_rows.specs.declared.homes.RowKind.{RowKind}
use Rattle.word_rows.specs.declared.homes.RowKind.TheVariants.{Dummy, Item, Stopper}
use Rattle.word_rows.specs.Sizes.{items_of, own_rows_of, rows_of}
use Rattle.word_rows.specs.ReadsBack.{ReadsBack}
use Rattle.word_rows.proofs.PackingLemmas.{ReadsBack-some}
use Rattle.word_rows.specs.Homes.{row_of, IsRow, IsHome}

-- the n-th row of a caller is a row
pub own_row-lt : (s : Shape) (caller n : ℕ) → caller < s.callers → n < own_rows_of s → 1 + caller * own_rows_of s + n < rows_of s
own_row-lt s caller n c below =
    let placed : caller * own_rows_of s + n < own_rows_of s * s.callers = mul-add-lt caller (own_rows_of s) n s.callers c below in
    omega arith

pub row_of-lt : (s : Shape) (k : RowKind) → IsRow s k → row_of s k < rows_of s
row_of-lt s Dummy is = omega arith
row_of-lt s (Item caller i) is = let below = is.1 in own_row-lt s caller i is.0 (omega arith)
row_of-lt s (Stopper caller i) is =
    let below = is.1 in
    let placed = own_row-lt s caller (items_of s + i) is.0 (omega arith) in
    omega arith

-- two numbers among the rows of callers
own-once : (s : Shape) (c d n m : ℕ) → n < own_rows_of s → m < own_rows_of s → 1 + c * own_rows_of s + n ≡ 1 + d * own_rows_of s + m → (c ≡ d) × (n ≡ m)
own-once s c d n m below under e = same_from_place c n d m (own_rows_of s) below under (omega arith)

-- another kind or number, another row
pub row_of-once : (s : Shape) (a b : RowKind) → IsRow s a → IsRow s b → row_of s a ≡ row_of s b → a ≡ b
row_of-once s Dummy Dummy v w e = refl
row_of-once s Dummy (Item d m) v w e = absurd (omega arith)
row_of-once s Dummy (Stopper d m) v w e = absurd (omega arith)
row_of-once s (Item c n) Dummy v w e = absurd (omega arith)
row_of-once s (Stopper c n) Dummy v w e = absurd (omega arith)
row_of-once s (Item c n) (Item d m) v w e =
    let below = v.1 in
    let under = w.1 in
    let both = own-once s c d n m (omega arith) (omega arith) e in
    ap (λ (x : ℕ). Item x n) both.0 ∙ ap (λ (x : ℕ). Item d x) both.1
row_of-once s (Stopper c n) (Stopper d m) v w e =
    let below = v.1 in
    let under = w.1 in
    let both = own-once s c d (items_of s + n) (items_of s + m) (omega arith) (omega arith) (omega arith) in
    let same = both.1 in
    let number : n ≡ m = omega arith in
    ap (λ (x : ℕ). Stopper x n) both.0 ∙ ap (λ (x : ℕ). Stopper d x) number
row_of-once s (Item c n) (Stopper d m) v w e =
    let below = v.1 in
    let under = w.1 in
    let both = own-once s c d n (items_of s + m) (omega arith) (omega arith) (omega arith) in
    let same = both.1 in
    absurd (omega arith)
row_of-once s (Stopper c n) (Item d m) v w e =
    let below = v.1 in
    let under = w.1 in
    let both = own-once s c d (items_of s + n) m (omega arith) (omega arith) (omega arith) in
    let same = both.1 in
    absurd (omega arith)

-- the caller and the number of a row, found by dividing
pub own_row-found : (s : Shape) (row own : ℕ) → own ≡ own_rows_of s → row ≢ 0 → row < rows_of s
    → ((row - 1) / own < s.callers) × ((row - 1) % own < own_rows_of s) × (1 + (row - 1) / own * own_rows_of s + (row - 1) % own ≡ row)
own_row-found s row own is some below =
    let P : ℕ → Type 0 = λ w. ((row - 1) / w < s.callers) × ((row - 1) % w < own_rows_of s) × (1 + (row - 1) / w * own_rows_of s + (row - 1) % w ≡ row) in
    let width : 0 < own_rows_of s = omega arith in
    let split = div-add-mod' (row - 1) (own_rows_of s) in
    subst P (sym is) (div_below (row - 1) (own_rows_of s) s.callers width (omega arith), mod_below (row - 1) (own_rows_of s) width, omega arith)

-- what a row's kind says of its home
pub home-of_row : (s : Shape) (k : RowKind) (caller : ℕ) → IsRow s k → caller < s.callers → IsHome s caller (row_of s k)
    → ((number : ℕ) × (k ≡ Item caller number)) ⊎ ((number : ℕ) × (k ≡ Stopper caller number))
home-of_row s k caller is c (inl (i, below, e)) = inl (i, row_of-once s k (Item caller i) is (c, below) e)
home-of_row s k caller is c (inr (i, below, e)) = inr (i, row_of-once s k (Stopper caller i) is (c, below) e)

-- the row is of this kind, and its kind is found
pub row_kind-found : (s : Shape) (k : RowKind) (row : ℕ) → IsRow s k → row_of s k ≡ row → ReadsBack (IsRow s) (row_of s) row (Some k)
row_kind-found s k row is e = ReadsBack-some (IsRow s) (row_of s) row k (row_of-once s) is e

-- whose row it is
abbrev pub caller_in : RowKind → Option ℕ
caller_in Dummy = None
caller_in (Item caller number) = Some caller
caller_in (Stopper caller number) = Some caller

pub home-nobody : (s : Shape) (k : RowKind) (row : ℕ) → IsRow s k → row_of s k ≡ row → (caller_in k ≡ None) ↔ (row ≡ 0)
home-nobody s Dummy row is e = (λ _. sym e, λ _. refl)
home-nobody s (Item caller number) row is e = (λ f. cc f, λ z. absurd (omega arith))
home-nobody s (Stopper caller number) row is e = (λ f. cc f, λ z. absurd (omega arith))

pub home-caller : (s : Shape) (k : RowKind) (row : ℕ) → IsRow s k → row_of s k ≡ row → (caller : ℕ)
    → (caller_in k ≡ Some caller) ↔ ((caller < s.callers) × IsHome s caller row)
home-caller s k row is e caller = (lives k is e, λ h. owned k is (home-of_row s k caller is h.0 (let P : ℕ → Type 0 = λ r. IsHome s caller r in subst P (sym e) h.1)))
  where
    lives : (k : RowKind) → IsRow s k → row_of s k ≡ row → caller_in k ≡ Some caller → (caller < s.callers) × IsHome s caller row
    lives Dummy is e f = cc f
    lives (Item c n) is e f =
        let same : c ≡ caller = cc in
        let P : ℕ → Type 0 = λ x. (x < s.callers) × IsHome s x row in
        subst P same (is.0, inl (n, is.1, sym e))
    lives (Stopper c n) is e f =
        let same : c ≡ caller = cc in
        let P : ℕ → Type 0 = λ x. (x < s.callers) × IsHome s x row in
        subst P same (is.0, inr (n, is.1, sym e))

    owned : (k : RowKind) → IsRow s k → ((number : ℕ) × (k ≡ Item caller number)) ⊎ ((number : ℕ) × (k ≡ Stopper caller number)) → caller_in k ≡ Some caller
    owned k is (inl (n, f)) = ap caller_in f
    owned k is (inr (n, f)) = ap caller_in f
