-- A history with one more group, and its groups one after another.
use Rattle.std.proofs.Common.{◌≡◌, ◌≢◌, ℕ, zero, suc, ◌+◌, ◌<◌, ◌==◌, cond, Bool, List, [], ◌∷◌, ◌++◌, length, map, refl, sym, ap, subst, ◌∙◌, arith, All, ne_eqb, add-zero, append-nil, length-append}
use Rattle.std.specs.List.{range_with_len}
use Rattle.std.proofs.lemmas.Bool.{eq-eqb}
use Rattle.std.proofs.lemmas.List.{map-append, length-map}
use Rattle.std.proofs.lemmas.List.Elements.{All-push, All-head, All-tail, filter-append}
use mathlib.Core.Logic.{dite}
use native.Mathlib.Decide.{ℕ_discrete}
use Rattle.bq_model.specs.declared.group.Group.{Group}
use Rattle.bq_model.specs.NoShut.{ShutAlone}
use Rattle.bq_model.specs.Own.{mine}
use Rattle.bq_model.specs.Proper.{IsProper}

pub mine-push_own : (h : List Group) (g : Group) → mine (h ++ g ∷ []) g.caller ≡ mine h g.caller ++ g ∷ []
mine-push_own h g =
    filter-append (λ (x : Group). x.caller == g.caller) h (g ∷ []) ∙ ap (λ (b : Bool). mine h g.caller ++ cond b (g ∷ []) []) (eq-eqb g.caller g.caller refl)

pub mine-push_other : (h : List Group) (g : Group) (c : ℕ) → c ≢ g.caller → mine (h ++ g ∷ []) c ≡ mine h c
mine-push_other h g c apart =
    filter-append (λ (x : Group). x.caller == c) h (g ∷ [])
    ∙ (ap (λ (b : Bool). mine h c ++ cond b (g ∷ []) []) (ne_eqb g.caller c (λ e. apart (sym e))) ∙ append-nil (mine h c))

range-push : (a n : ℕ) → range_with_len a (suc n) ≡ range_with_len a n ++ (a + n) ∷ []
range-push a zero = ap (λ (x : ℕ). x ∷ []) (sym (add-zero a))
range-push a (suc n) =
    ap (λ (xs : List ℕ). a ∷ xs) (range-push (a + 1) n ∙ ap (λ (x : ℕ). range_with_len (a + 1) n ++ x ∷ []) (let same : a + 1 + n ≡ a + suc n = omega arith in same))

abbrev batch_of : Group → ℕ
batch_of g = g.batch

-- the history stays proper where the group is numbered behind its caller's last one
pub IsProper-push : (callers : ℕ) (h : List Group) (g : Group) → g.caller < callers → g.ops ≢ [] → ShutAlone g.ops → g.batch ≡ length (mine h g.caller) → IsProper callers h → IsProper callers (h ++ g ∷ [])
IsProper-push callers h g known filled alone batch p = record {
  known = All-push (λ (x : Group). x.caller < callers) h g p.known known;
  filled = All-push (λ (x : Group). x.ops ≢ []) h g p.filled filled;
  shuts = All-push (λ (x : Group). ShutAlone x.ops) h g p.shuts alone;
  numbered = λ c. dite (ℕ_discrete c g.caller)
      (λ same.
      let P : ℕ → Type 0 = λ d. map batch_of (mine (h ++ g ∷ []) d) ≡ range_with_len 0 (length (mine (h ++ g ∷ []) d)) in
      subst P (sym same) (own (mine h g.caller) (mine (h ++ g ∷ []) g.caller) (mine-push_own h g) (p.numbered g.caller) batch))
      (λ apart. let P : List Group → Type 0 = λ gs. map batch_of gs ≡ range_with_len 0 (length gs) in subst P (sym (mine-push_other h g c apart)) (p.numbered c));
}
  where
    own : (old new : List Group) → new ≡ old ++ g ∷ [] → map batch_of old ≡ range_with_len 0 (length old) → g.batch ≡ length old → map batch_of new ≡ range_with_len 0 (length new)
    own old new e was at =
        let longer : length new ≡ suc (length old) = (let parts : length new ≡ length old + 1 = ap length e ∙ length-append old (g ∷ []) in omega arith) in
        ap (map batch_of) e
        ∙ (map-append batch_of old (g ∷ [])
        ∙ ((λ i. was i ++ at i ∷ [])
        ∙ (ap (λ (n : ℕ). range_with_len 0 (length old) ++ n ∷ []) (let same : length old ≡ 0 + length old = omega arith in same)
        ∙ (sym (range-push 0 (length old)) ∙ ap (range_with_len 0) (sym longer)))))

-- ---- a group inside a history

-- what holds of all elements holds of this one
pub All-at : {X : Type 0} (P : X → Type 0) (xs ys : List X) (y : X) → All P (xs ++ y ∷ ys) → P y
All-at P [] ys y all = All-head P y ys all
All-at P (x ∷ xs) ys y all = All-at P xs ys y (All-tail P x (xs ++ y ∷ ys) all)

-- a number inside a range
range-at : (xs ys : List ℕ) (y a n : ℕ) → xs ++ y ∷ ys ≡ range_with_len a n → y ≡ a + length xs
range-at [] ys y a zero e = absurd (cc e)
range-at [] ys y a (suc n) e = let same : y ≡ a = cc e in same ∙ sym (add-zero a)
range-at (x ∷ xs) ys y a zero e = absurd (cc e)
range-at (x ∷ xs) ys y a (suc n) e =
    let rest : xs ++ y ∷ ys ≡ range_with_len (a + 1) n = cc e in
    let inner = range-at xs ys y (a + 1) n rest in
    omega arith

-- a group of a proper history is numbered behind those of its caller before it
pub numbered-at : (callers : ℕ) (h rest : List Group) (g : Group) → IsProper callers (h ++ g ∷ rest) → g.batch ≡ length (mine h g.caller)
numbered-at callers h rest g p =
    let c = g.caller in
    let whole = mine (h ++ g ∷ rest) c in
    let parts : whole ≡ mine h c ++ g ∷ mine rest c =
    filter-append (λ (x : Group). x.caller == c) h (g ∷ rest) ∙ ap (λ (b : Bool). mine h c ++ cond b (g ∷ mine rest c) (mine rest c)) (eq-eqb c c refl) in
    let numbers : map batch_of (mine h c) ++ g.batch ∷ map batch_of (mine rest c) ≡ range_with_len 0 (length whole) =
    sym (map-append batch_of (mine h c) (g ∷ mine rest c)) ∙ (ap (map batch_of) (sym parts) ∙ p.numbered c) in
    let place = range-at (map batch_of (mine h c)) (map batch_of (mine rest c)) g.batch 0 (length whole) numbers in
    let as_many = length-map (mine h c) batch_of in
    omega arith
