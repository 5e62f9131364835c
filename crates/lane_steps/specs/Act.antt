-- What a step does with its word: it loads it, stores into it, or exchanges it.
use Rattle.std.specs.Prelude.{ℕ, ◌+◌, ◌==◌, ◌&&◌, Bool, true, false, not, ◌||◌, cond, Option, Some, None}
use Rattle.excess_count.specs.declared.counts.Counts.{Counts}
use Rattle.word_rows.specs.declared.place.Place.{Place}
use Rattle.word_rows.specs.declared.marks.Marks.{Marks}
use Rattle.word_rows.specs.declared.batch_words.BatchNumber.{BatchNumber}
use Rattle.word_rows.specs.declared.head_word.HeadWord.{HeadWord}
use Rattle.word_rows.specs.declared.head_word.HeadWord.TheVariants.{Node, Ann}
use Rattle.word_rows.specs.declared.link_word.LinkWord.{LinkWord}
use Rattle.word_rows.specs.declared.link_word.LinkWord.TheVariants.{Nil, Single, Chain, Shut}
use Rattle.word_rows.specs.declared.location.Location.{Location}
use Rattle.word_rows.specs.declared.location.Location.TheVariants.{Tail, Mark}
use Rattle.word_rows.specs.declared.content.Content.{Content}
use Rattle.word_rows.specs.declared.content.Content.TheVariants.{OfHead, OfTail, OfLink, OfValue, OfMark, OfNodeHazard, OfAnnHazard, OfOldTail, OfChainEnd, OfCounts, OfBatchNo, OfOrder}
use Rattle.lane_steps.specs.declared.act.Act.{Act}
use Rattle.lane_steps.specs.declared.act.Act.TheVariants.{Load, Store, Exchange, Join}
use Rattle.lane_steps.specs.Notices.{place}
use Rattle.lane_steps.specs.State.{mark_in}

abbrev pub same_place : Place → Place → Bool
same_place p q = (p.row == q.row) && (p.count == q.count)

abbrev pub is_node : HeadWord → Place → Bool
is_node (Node q) p = same_place q p
is_node (Ann a n) p = false

abbrev pub is_ann : HeadWord → ℕ → ℕ → Bool
is_ann (Node p) b k = false
is_ann (Ann a n) b k = (a == b) && (n == k)

abbrev pub is_unknown : Option Place → Bool
is_unknown None = true
is_unknown (Some p) = false

abbrev pub is_nil : LinkWord → Bool
is_nil Nil = true
is_nil (Single r) = false
is_nil (Chain r) = false
is_nil Shut = false

-- the place of the row n, linked right behind p
abbrev pub behind : Place → ℕ → Place
behind p n = place n (p.count + 1)

-- the place of the row n, so many rows behind p
abbrev pub far_behind : Place → ℕ → ℕ → Place
far_behind p n more = place n (p.count + more)

abbrev pub same_head : HeadWord → HeadWord → Bool
same_head x (Node p) = is_node x p
same_head x (Ann a n) = is_ann x a n

abbrev pub joins : LinkWord → LinkWord → Bool
joins (Single r) (Single q) = r == q
joins (Chain r) (Chain q) = r == q
joins Shut Shut = true
joins _ _ = false

abbrev pub same_link : LinkWord → LinkWord → Bool
same_link x Nil = is_nil x
same_link x (Single r) = joins x (Single r)
same_link x (Chain r) = joins x (Chain r)
same_link x Shut = joins x Shut

abbrev pub same_old_tail : Option Place → Option Place → Bool
same_old_tail x None = is_unknown x
same_old_tail (Some p) (Some q) = same_place p q
same_old_tail None (Some q) = false

abbrev pub same_bit : Bool → Bool → Bool
same_bit true b = b
same_bit false b = not b

abbrev pub same_marks : Marks → Marks → Bool
same_marks a b = same_bit a.read b.read && (same_bit a.passed b.passed && same_bit a.free b.free)

abbrev pub same_hazard : Option ℕ → Option ℕ → Bool
same_hazard None None = true
same_hazard (Some n) (Some m) = n == m
same_hazard _ _ = false

abbrev pub same_counts : Counts → Counts → Bool
same_counts a b = (a.enqs == b.enqs) && ((a.deqs == b.deqs) && (a.excess == b.excess))

abbrev pub same_number : BatchNumber → BatchNumber → Bool
same_number a b = (a.batch == b.batch) && (a.caller == b.caller)

-- whether what was found is what an exchange expects
abbrev pub same_content : Content → Content → Bool
same_content (OfHead x) (OfHead y) = same_head x y
same_content (OfTail x) (OfTail y) = same_place x y
same_content (OfLink x) (OfLink y) = same_link x y
same_content (OfValue x) (OfValue y) = x == y
same_content (OfMark x) (OfMark y) = same_marks x y
same_content (OfNodeHazard x) (OfNodeHazard y) = same_hazard x y
same_content (OfAnnHazard x) (OfAnnHazard y) = same_hazard x y
same_content (OfOldTail x) (OfOldTail y) = same_old_tail x y
same_content (OfChainEnd x) (OfChainEnd y) = x == y
same_content (OfCounts x) (OfCounts y) = same_counts x y
same_content (OfBatchNo x) (OfBatchNo y) = same_number x y
same_content (OfOrder x) (OfOrder y) = x == y
same_content _ _ = false

abbrev pub location : Act → Location
location (Load l) = l
location (Store l x) = l
location (Exchange l old new) = l
location (Join r b) = Mark r

-- the step changes the word in which it finds x
abbrev pub changes : Act → Content → Bool
changes (Load l) x = false
changes (Store l y) x = true
changes (Exchange l old new) x = same_content x old
changes (Join r b) x = true

-- the marks, with these set too
abbrev pub with_marks : Marks → Marks → Marks
with_marks a b = record { read = a.read || b.read; passed = a.passed || b.passed; free = a.free || b.free }

-- what the word has after it
abbrev pub effect : Act → Content → Content
effect (Load l) x = x
effect (Store l y) x = y
effect (Exchange l old new) x = cond (same_content x old) new x
effect (Join r b) x = OfMark (with_marks (mark_in x) b)

-- an exchange of the tail by one row
abbrev pub by_one : Place → ℕ → Act
by_one p n = Exchange Tail (OfTail p) (OfTail (behind p n))
