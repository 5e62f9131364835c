-- A list that is taken apart from its end.
use Rattle.std.proofs.Common.{◌≡◌, List, [], ◌∷◌, ◌++◌, length, map, reverse, refl, sym, ap, ◌∙◌, arith, append_assoc}
use Rattle.std.specs.List.{flat_map}
use Rattle.std.proofs.lemmas.Grind.{flat_map-append}
use Rattle.std.proofs.lemmas.List.{map-append, append-nil, reverse-append}

pub desks_start : {R D : Type 0} (f : R → D) (runs : List R) (desks : List D) → desks ≡ [] → map f runs ++ reverse desks ≡ map f runs
desks_start f runs desks e = ap (λ ds. map f runs ++ reverse ds) e ∙ append-nil (map f runs)

pub desks_more : {R D : Type 0} (f : R → D) (runs left : List R) (run : R) (desks more : List D) (desk : D) → runs ≡ left ++ run ∷ [] → f run ≡ desk → more ≡ desks ++ desk ∷ [] → map f left ++ reverse more ≡ map f runs ++ reverse desks
desks_more f runs left run desks more desk e d m =
    ap (λ ds. map f left ++ reverse ds) m ∙ ap (λ ds. map f left ++ ds) (reverse-append desks (desk ∷ [])) ∙ sym (append_assoc (map f left) (desk ∷ []) (reverse desks))
    ∙ ap (λ x. (map f left ++ x ∷ []) ++ reverse desks) (sym d) ∙ ap (λ ds. ds ++ reverse desks) (sym (ap (map f) e ∙ map-append f left (run ∷ [])))

pub desks_end : {R D : Type 0} (f : R → D) (runs : List R) (desks : List D) → length runs ≡ 0 → reverse desks ≡ map f runs ++ reverse desks
desks_end f [] desks e = refl
desks_end f (x ∷ runs) desks e = absurd (omega (arith, e))

pub pieces_start : {R D : Type 0} (f : R → List D) (runs : List R) (all : List D) → all ≡ [] → flat_map f runs ++ all ≡ flat_map f runs
pieces_start f runs all e = ap (λ ds. flat_map f runs ++ ds) e ∙ append-nil (flat_map f runs)

pub pieces_more : {R D : Type 0} (f : R → List D) (runs left : List R) (run : R) (all more : List D) → runs ≡ left ++ run ∷ [] → more ≡ f run ++ all → flat_map f left ++ more ≡ flat_map f runs ++ all
pieces_more f runs left run all more e m =
    ap (λ ds. flat_map f left ++ ds) m ∙ sym (append_assoc (flat_map f left) (f run) all)
    ∙ ap (λ ds. ds ++ all) (ap (λ ds. flat_map f left ++ ds) (sym (append-nil (f run))) ∙ sym (ap (flat_map f) e ∙ flat_map-append f left (run ∷ [])))

pub pieces_end : {R D : Type 0} (f : R → List D) (runs : List R) (all : List D) → length runs ≡ 0 → all ≡ flat_map f runs ++ all
pieces_end f [] all e = refl
pieces_end f (x ∷ runs) all e = absurd (omega (arith, e))
