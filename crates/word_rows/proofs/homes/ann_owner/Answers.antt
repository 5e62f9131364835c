use Rattle.std.proofs.Common.{◌≡◌, ◌<◌, ◌/◌, ◌%◌, ℕ, subst, sym}
use Rattle.std.proofs.lemmas.Nat.{div-add-mod', mod_below}
use Rattle.word_rows.specs.Homes.{own_ann_of}
use Rattle.word_rows.proofs.homes.ann_owner.Goals as goal

pub returns-clause-is_its_own : goal.returns-clause-is_its_own
returns-clause-is_its_own c =
    let callers : ℕ = c.args.shape.now.callers in
    let some : 0 < callers = c.args.shape.now.some_callers.0 in
    let P : ℕ → Type 0 = λ n. (x : ℕ) × (x < callers) × (c.args.ann ≡ own_ann_of c.args.shape.now (c.args.ann / n) x) in
    subst P (sym c.callers.ensures) (c.args.ann % callers, mod_below c.args.ann callers some, sym (div-add-mod' c.args.ann callers))
