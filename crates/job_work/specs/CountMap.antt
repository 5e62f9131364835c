-- A map from borrowed words to how often they stand somewhere.
use Rattle.std.specs.Prelude.{ℕ, List, Option, map}
use Rattle.std.specs.Borrow.{Bor}
use Rattle.std.specs.BTreeMap.{BTreeMap, get_by, IsOrdered}
use Rattle.std.specs.Cmp.Lexicographic.{slice_cmp}
use Rattle.std.specs.Ordering.{nat_cmp}

abbrev pub CountMap : Type 0
CountMap = BTreeMap (Bor (List ℕ)) ℕ

-- the count at a word
abbrev pub count_of : CountMap → List ℕ → Option ℕ
count_of counts word = get_by (λ key. slice_cmp nat_cmp word key.now) counts

-- the words rise
abbrev pub WordsRise : CountMap → Type 0
WordsRise counts = IsOrdered (λ x y. slice_cmp nat_cmp x.now y.now) counts

-- each word with its count, in order
abbrev pub counts_in : CountMap → List (List ℕ × ℕ)
counts_in counts = map (λ e. (e.0.now, e.1)) counts.entries
