-- What holds of the counts of any words.
use Rattle.std.proofs.Common.{◌≡◌, ℕ, ◌+◌, Bool, true, false, cond, ◌||◌, ◌↔◌, ⊎_elim, List, [], ◌∷◌, map, length, Some, None, is_some, refl, sym, ap, ◌∙◌, true≢false, Less, Equal, sum_by, count_by, Contains, All, arith}
use Rattle.std.specs.List.{list_any, AllByRecursion}
use Rattle.std.specs.List.Sorted.{IsStrictlySortedBy}
use Rattle.std.specs.Ordering.{eq_by_cmp}
use Rattle.std.specs.Cmp.{tied_itself}
use Rattle.std.specs.Cmp.Lexicographic.{nat_list_cmp_total, nat_list_eq_equiv, bytes_decides}
use Rattle.std.specs.Str.{bytes_eq}
use Rattle.std.specs.FinMap.{entries_sorted, from_entries, contains_key-keys, get-from_entries}
use Rattle.std.proofs.lemmas.Bool.{cases_Bool}
use Rattle.std.proofs.lemmas.List.Elements.{All-head, All-tail, All-contains_itself, All-weaker}
use Rattle.std.proofs.lemmas.List.Sums.{sum_by-cons}
use Rattle.std.proofs.lemmas.Map.Keys.{sorted_head, sorted_tail}
use Rattle.std.proofs.lemmas.Map.Text.{is_eq-slice_cmp}
use Rattle.std.proofs.lemmas.Map.Views.{Contains-from_any, list_any-from_Contains}
use Rattle.job_work.specs.Words.{byte_order, places_of, word_counts, different}
use Rattle.job_work.proofs.Rising.{rising_from_test, test_from_rising}
use Rattle.job_work.proofs.WordCounts.{paired, found, entries_are}

pub different-rises : (words : List (List ℕ)) → IsStrictlySortedBy byte_order (different words)
different-rises words = rising_from_test byte_order (word_counts words) (entries_sorted _)

-- ---- the different words are the words

any_tied : (q : List ℕ) (words : List (List ℕ)) → list_any (eq_by_cmp byte_order q) words ≡ list_any (bytes_eq q) words
any_tied q [] = refl
any_tied q (word ∷ words) = λ i. is_eq-slice_cmp q word i || any_tied q words i

any_found : (b : Bool) (n : ℕ) → is_some (cond b (Some n) None) ≡ b
any_found true n = refl
any_found false n = refl

-- a word is among the different words exactly if it is among the words
any_different : (words : List (List ℕ)) (q : List ℕ) → list_any (bytes_eq q) (different words) ≡ list_any (bytes_eq q) words
any_different words q =
    let f = places_of words in
    let made = from_entries {R = byte_order} (paired f words) in
    sym (any_tied q (different words)) ∙ sym (contains_key-keys made q)
    ∙ ap is_some (get-from_entries nat_list_cmp_total (paired f words) q ∙ found f words q)
    ∙ any_found _ _

contains_any : (words : List (List ℕ)) (q : List ℕ) → Contains words q ↔ (list_any (bytes_eq q) words ≡ true)
contains_any words q =
    (list_any-from_Contains nat_list_eq_equiv q words, Contains-from_any (λ x y. (bytes_decides x y).0) q words)

pub Contains-different : (words : List (List ℕ)) (word : List ℕ) → Contains (different words) word ↔ Contains words word
Contains-different words q =
    let inside = contains_any (different words) q in
    let outside = contains_any words q in
    (λ h. outside.1 (sym (any_different words q) ∙ inside.0 h), λ h. inside.1 (any_different words q ∙ outside.0 h))

-- ---- each has its count

keys_paired : (f : List ℕ → ℕ) (ks : List (List ℕ)) → map (λ e. e.0) (paired f ks) ≡ ks
keys_paired f [] = refl
keys_paired f (k ∷ ks) = ap (λ l. k ∷ l) (keys_paired f ks)

pub word_counts-places : (words : List (List ℕ))
    → word_counts words ≡ map (λ word. (word, places_of words word)) (different words)
word_counts-places words =
    let f = places_of words in
    let ks = different words in
    let rise = rw (← keys_paired f ks) at (different-rises words) in
    sym (entries_are f words (paired f ks) (test_from_rising byte_order (paired f ks) rise)
    (λ q. found f ks q ∙ ap (λ b. cond b (Some (f q)) None) (any_different words q)))

-- ---- the counts add up

none_equal : (k word : List ℕ) (ks : List (List ℕ)) → k ≡ word → AllByRecursion (λ y. byte_order k y ≡ Less) ks
    → count_by (λ y. bytes_eq y word) ks ≡ 0
none_equal k word [] same above = refl
none_equal k word (y ∷ ks) same above =
    let rest = none_equal k word ks same above.1 in
    let apart : bytes_eq y word ≡ false =
    ⊎_elim
    (λ t. let tied : y ≡ k = (bytes_decides y word).0 t ∙ sym same in
    absurd (less_not_equal (sym above.0 ∙ ap (byte_order k) tied ∙ tied_itself nat_list_cmp_total k)))
    (λ f. f) (cases_Bool (bytes_eq y word)) in
    sum_by-cons (λ v. cond (bytes_eq v word) 1 0) y ks ∙ ap (λ b. cond b 1 0 + count_by (λ v. bytes_eq v word) ks) apart ∙ omega (arith, rest)
  where
    less_not_equal : Less ≡ Equal → ⊥
    less_not_equal e = cc

-- a word stands once in words that rise
once : (word : List ℕ) (ks : List (List ℕ)) → IsStrictlySortedBy byte_order ks → list_any (bytes_eq word) ks ≡ true
    → count_by (λ y. bytes_eq y word) ks ≡ 1
once word [] rise there = absurd (true≢false (sym there))
once word (k ∷ ks) rise there =
    let first = sum_by-cons (λ v. cond (bytes_eq v word) 1 0) k ks in
    let others = count_by (λ v. bytes_eq v word) ks in
    ⊎_elim
    (λ t. let none = none_equal k word ks ((bytes_decides k word).0 t) (sorted_head byte_order k ks rise) in
    first ∙ ap (λ b. cond b 1 0 + others) t ∙ omega (arith, none))
    (λ f. let flipped : bytes_eq word k ≡ false = nat_list_eq_equiv.symm word k ∙ f in
    let rest = once word ks (sorted_tail byte_order k ks rise) (sym (ap (λ b. b || list_any (bytes_eq word) ks) flipped) ∙ there) in
    first ∙ ap (λ b. cond b 1 0 + others) f ∙ omega (arith, rest))
    (cases_Bool (bytes_eq k word))

flipped_test : (word : List ℕ) (ks : List (List ℕ)) → places_of ks word ≡ count_by (λ y. bytes_eq y word) ks
flipped_test word [] = refl
flipped_test word (k ∷ ks) =
    let left = sum_by-cons (λ v. cond (bytes_eq word v) 1 0) k ks in
    let right = sum_by-cons (λ v. cond (bytes_eq v word) 1 0) k ks in
    let first = ap {B = ℕ} (λ b. cond b 1 0) (nat_list_eq_equiv.symm word k) in
    omega (arith, left, right, first, flipped_test word ks)

pub places_of-different : (words : List (List ℕ)) (word : List ℕ) → Contains words word → places_of (different words) word ≡ 1
places_of-different words word there =
    flipped_test word (different words)
    ∙ once word (different words) (different-rises words) (any_different words word ∙ (contains_any words word).0 there)

no_words : (ks : List (List ℕ)) → sum_by (λ k. places_of [] k) ks ≡ 0
no_words [] = refl
no_words (k ∷ ks) = sum_by-cons (λ v. places_of [] v) k ks ∙ omega (arith, no_words ks)

-- one more word is one more place of its key
one_word_more : (word : List ℕ) (words ks : List (List ℕ))
    → sum_by (λ k. places_of (word ∷ words) k) ks ≡ count_by (λ k. bytes_eq k word) ks + sum_by (λ k. places_of words k) ks
one_word_more word words [] = refl
one_word_more word words (k ∷ ks) =
    let all = sum_by-cons (λ v. places_of (word ∷ words) v) k ks in
    let here = sum_by-cons (λ v. cond (bytes_eq v word) 1 0) k ks in
    let others = sum_by-cons (λ v. places_of words v) k ks in
    let first = sum_by-cons (λ v. cond (bytes_eq k v) 1 0) word words in
    let rest = one_word_more word words ks in
    omega (arith, all, here, others, first, rest)

abbrev IsAmong : List (List ℕ) → List ℕ → Type 0
IsAmong ks word = list_any (bytes_eq word) ks ≡ true

places_add_up : (words ks : List (List ℕ)) → IsStrictlySortedBy byte_order ks → All (IsAmong ks) words
    → sum_by (λ k. places_of words k) ks ≡ length words
places_add_up [] ks rise there = no_words ks
places_add_up (word ∷ words) ks rise there =
    let one = once word ks rise (All-head (IsAmong ks) word words there) in
    let rest = places_add_up words ks rise (All-tail (IsAmong ks) word words there) in
    one_word_more word words ks ∙ omega (arith, one, rest)

sum_by-paired : (f : List ℕ → ℕ) (ks : List (List ℕ)) → sum_by (λ e. e.1) (paired f ks) ≡ sum_by f ks
sum_by-paired f [] = refl
sum_by-paired f (k ∷ ks) =
    let left = sum_by-cons {X = List ℕ × ℕ} (λ e. e.1) (k, f k) (paired f ks) in
    let right = sum_by-cons f k ks in
    omega (arith, left, right, sum_by-paired f ks)

pub counts_add_up : (words : List (List ℕ)) → sum_by (λ e. e.1) (word_counts words) ≡ length words
counts_add_up words =
    let among : (word : List ℕ) → Contains words word → IsAmong (different words) word =
    λ word h. any_different words word ∙ (contains_any words word).0 h in
    ap (sum_by (λ e. e.1)) (word_counts-places words) ∙ sum_by-paired (places_of words) (different words)
    ∙ places_add_up words (different words) (different-rises words)
    (All-weaker (Contains words) (IsAmong (different words)) among words (All-contains_itself words))
