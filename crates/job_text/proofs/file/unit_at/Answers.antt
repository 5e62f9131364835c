use Rattle.std.proofs.Common.{◌≡◌, ◌≤◌, ◌<◌, ◌-◌, ℕ, false, List, length, slice_index, nat_le, arith, leb-true, leb-false, rules, true, ⊎_elim}
use Rattle.std.proofs.lemmas.Bool.{cases_lt}
use Rattle.std.specs.List.Sorted.{IsPartitionPoint}
use Rattle.std.proofs.lemmas.List.Sorted.{IsPartitionPoint-from_clause, IsPartitionedBy-leb, IsNonDecreasingBy-from_default}
use Rattle.job_text.proofs.file.unit_at.Goals as goal

-- the numbers that are not above `number` stand before place i, and the others behind it
abbrev Parts : List ℕ → ℕ → ℕ → Type 0
Parts starts number i = IsPartitionPoint (λ start. nat_le start number ≡ true) (λ start. nat_le start number ≡ false) starts i

some_before : (starts : List ℕ) (number i : ℕ) → Parts starts number i → 0 < length starts → slice_index starts 0 ≤ number → 1 ≤ i
some_before starts number i parts some first =
    ⊎_elim (λ none. absurd (omega (arith, leb-false (slice_index starts 0) number (parts.1 0 0 (omega arith) some)))) (λ is. is) (cases_lt i 1)

partitioned : (c : goal.After-partition_point) → Parts c.args.starts.now c.args.number c.partition_point.result
partitioned c =
    let starts = c.args.starts.now in
    IsPartitionPoint-from_clause (λ start. nat_le start c.args.number) starts c.partition_point.result c.partition_point.ensures.partitioned
    (IsPartitionedBy-leb (λ start. start) starts c.args.number (IsNonDecreasingBy-from_default (λ start. start) starts 0 c.requires.rising))
    (search rules)

pub overflow_sub-result : goal.overflow_sub-result
overflow_sub-result c = some_before c.args.starts.now c.args.number c.partition_point.result (partitioned c) c.requires.some c.requires.first

pub returns-clause-reached : goal.returns-clause-reached
returns-clause-reached c =
    let before = some_before c.args.starts.now c.args.number c.partition_point.result (partitioned c) c.requires.some c.requires.first in
    leb-true _ _ ((partitioned c).0 (c.partition_point.result - 1) 0 (omega arith) (omega arith))

pub returns-clause-last : goal.returns-clause-last
returns-clause-last c = λ k behind within. leb-false _ _ ((partitioned c).1 k 0 (omega arith) within)
