-- The passes of a new lane.
use Rattle.std.proofs.Common.{◌≡◌, ℕ, zero, suc, ◌+◌, List, [], ◌∷◌, ◌++◌, map, All, refl, sym, ap, ◌∙◌, arith}
use Rattle.std.proofs.lemmas.List.{map-append}
use Rattle.std.proofs.lemmas.List.Elements.{All-from_recursion}
use Rattle.std.specs.List.{range_with_len, AllByRecursion}
use Rattle.atomic_table.specs.Seated.{TableId}
use Rattle.bq_model.specs.declared.shape.Shape.{Shape}
use Rattle.bq_lane.specs.Pass.{PassState, new_pass}

range-last : (a n : ℕ) → range_with_len a (suc n) ≡ range_with_len a n ++ (a + n) ∷ []
range-last a zero = ap (λ (x : ℕ). x ∷ []) (omega arith)
range-last a (suc n) = ap (λ (xs : List ℕ). a ∷ xs) (range-last (a + 1) n ∙ ap (λ (x : ℕ). range_with_len (a + 1) n ++ x ∷ []) (omega arith))

module _ (table : TableId) (shape : Shape) where
  -- one more pass
  pub one_more : (passes new : List PassState) (n : ℕ) → passes ≡ map (new_pass table shape) (range_with_len 0 n) → new ≡ passes ++ new_pass table shape n ∷ [] → new ≡ map (new_pass table shape) (range_with_len 0 (n + 1))
  one_more passes new n are is = is ∙ ap (λ ps. ps ++ new_pass table shape n ∷ []) are ∙ sym (map-append (new_pass table shape) (range_with_len 0 n) (n ∷ []))
      ∙ ap (map (new_pass table shape)) (sym (ap (range_with_len 0) (let e : n + 1 ≡ suc n = omega arith in e) ∙ range-last 0 n ∙ ap (λ x. range_with_len 0 n ++ x ∷ []) (let z : 0 + n ≡ n = omega arith in z)))

  pub callers_of : (cs : List ℕ) → map (λ (p : PassState). p.callers) (map (new_pass table shape) cs) ≡ map (λ (c : ℕ). c ∷ []) cs
  callers_of [] = refl
  callers_of (c ∷ cs) = ap (λ ls. (c ∷ []) ∷ ls) (callers_of cs)

  pub all_new : (P : PassState → Type 0) (cs : List ℕ) → ((c : ℕ) → P (new_pass table shape c)) → All P (map (new_pass table shape) cs)
  all_new P cs each = All-from_recursion P (map (new_pass table shape) cs) (by cs) where
    by : (cs : List ℕ) → AllByRecursion P (map (new_pass table shape) cs)
    by [] = tt
    by (c ∷ cs) = (each c, by cs)
