-- The counts of words, as a map from words has them.
use Rattle.std.proofs.Common.{◌≡◌, ◌≢◌, ℕ, ◌+◌, Bool, true, false, cond, ◌||◌, ◌⊎◌, inl, inr, ⊎_elim, List, [], ◌∷◌, ◌++◌, map, Option, Some, None, is_some, unwrap_or, T, refl, sym, ap, ◌∙◌, true≢false, add-zero, Bor, nat_cmp, is_eq}
use Rattle.std.proofs.lemmas.Bool.{cases_Bool}
use Rattle.std.proofs.lemmas.List.Folds.{list_any-append}
use Rattle.std.proofs.lemmas.List.Sums.{sum_by_push}
use Rattle.std.specs.List.{list_any}
use Rattle.std.specs.List.Sorted.{IsStrictlySortedBy}
use Rattle.std.specs.Map.{lookup}
use Rattle.std.specs.BTreeMap.{is_at}
use Rattle.std.specs.Str.{bytes_eq}
use Rattle.std.specs.Cmp.Lexicographic.{slice_cmp, nat_list_cmp_total, bytes_decides}
use Rattle.std.specs.FinMap.{find, entries, from_sorted, from_entries, is_sorted, entries-from_sorted, get-from_sorted, get-from_entries, same_map, slice_cmp-IsAntisymmetric, nat_cmp-IsAntisymmetric}
use Rattle.std.proofs.lemmas.Map.Text.{is_eq-slice_cmp}
use Rattle.job_work.specs.Words.{byte_order, places_of, word_counts}
use Rattle.job_work.proofs.Rising.{test_from_rising, rising_shown}

-- each word with f of it
abbrev pub paired : (List ℕ → ℕ) → List (List ℕ) → List (List ℕ × ℕ)
paired f words = map (λ word. (word, f word)) words

found_first : (f : List ℕ → ℕ) (q word : List ℕ) (b any : Bool) (rest : Option ℕ) → (b ≡ true → q ≡ word)
    → rest ≡ cond any (Some (f q)) None → cond b (Some (f word)) rest ≡ cond (b || any) (Some (f q)) None
found_first f q word true any rest same is = ap (λ w. Some (f w)) (sym (same refl))
found_first f q word false any rest same is = is

-- where a word is among the words, f of it is found
pub found : (f : List ℕ → ℕ) (words : List (List ℕ)) (q : List ℕ)
    → find byte_order q (paired f words) ≡ cond (list_any (bytes_eq q) words) (Some (f q)) None
found f [] q = refl
found f (word ∷ words) q =
    ap (λ b. cond b (Some (f word)) (find byte_order q (paired f words))) (is_eq-slice_cmp q word)
    ∙ found_first f q word (bytes_eq q word) _ _ (bytes_decides q word).0 (found f words q)

-- entries that rise, and at which each of the words finds f of it and no other word finds any
pub entries_are : (f : List ℕ → ℕ) (words : List (List ℕ)) (es : List (List ℕ × ℕ)) → T (is_sorted byte_order es)
    → ((q : List ℕ) → find byte_order q es ≡ cond (list_any (bytes_eq q) words) (Some (f q)) None)
    → es ≡ entries (from_entries {R = byte_order} (paired f words))
entries_are f words es rise finds =
    let exact = slice_cmp-IsAntisymmetric nat_cmp-IsAntisymmetric in
    let o = nat_list_cmp_total in
    let same : from_sorted {R = byte_order} es ≡ from_entries (paired f words) =
    same_map o exact _ _ (λ q. get-from_sorted byte_order es q rise ∙ finds q ∙ sym (found f words q) ∙ sym (get-from_entries o _ q)) in
    sym (entries-from_sorted byte_order es rise) ∙ ap entries same

abbrev shown : List (Bor (List ℕ) × ℕ) → List (List ℕ × ℕ)
shown es = map (λ e. (e.0.now, e.1)) es

-- the value at a word among borrowed keys
abbrev at_word : List ℕ → List (Bor (List ℕ) × ℕ) → Option ℕ
at_word q es = lookup (is_at (λ k. slice_cmp nat_cmp q k.now)) es

find-shown : (q : List ℕ) (es : List (Bor (List ℕ) × ℕ)) → find byte_order q (shown es) ≡ at_word q es
find-shown q [] = refl
find-shown q (e ∷ es) = ap (cond (is_eq (slice_cmp nat_cmp q e.0.now)) (Some e.1)) (find-shown q es)

known_count : (o : Option ℕ) (b : Bool) (n : ℕ) → is_some o ≡ b → unwrap_or o 0 ≡ n → o ≡ cond b (Some n) None
known_count None true n some is = absurd (true≢false (sym some))
known_count None false n some is = refl
known_count (Some v) true n some is = ap Some is
known_count (Some v) false n some is = absurd (true≢false some)

-- a map that has the words as its keys, and how often each stands there as its value
pub entries_are_counts : (words : List (List ℕ)) (es : List (Bor (List ℕ) × ℕ))
    → IsStrictlySortedBy (λ x y. slice_cmp nat_cmp x.now y.now) (map (λ e. e.0) es)
    → ((q : List ℕ) → is_some (at_word q es) ≡ list_any (bytes_eq q) words)
    → ((q : List ℕ) → unwrap_or (at_word q es) 0 ≡ places_of words q)
    → shown es ≡ word_counts words
entries_are_counts words es rise known counted =
    entries_are (places_of words) words (shown es) (test_from_rising byte_order (shown es) (rising_shown byte_order es rise))
    (λ q. find-shown q es ∙ known_count _ _ _ (known q) (counted q))

-- a word is the other one, or it isn't
same_or_not : (q word : List ℕ) → ((q ≡ word) × (bytes_eq q word ≡ true)) ⊎ ((q ≢ word) × (bytes_eq q word ≡ false))
same_or_not q word =
    let same = bytes_decides q word in
    ⊎_elim (λ t. inl (same.0 t, t)) (λ f. inr (λ e. true≢false (sym (same.1 e) ∙ f), f)) (cases_Bool (bytes_eq q word))

or-true : (b : Bool) → (b || (true || false)) ≡ true
or-true true = refl
or-true false = refl

or-false : (b : Bool) → (b || (false || false)) ≡ b
or-false true = refl
or-false false = refl

-- one more place of a word: `old` and `new` are the count at each word before and after it
module _ (old new : List ℕ → Option ℕ) (words : List (List ℕ)) (word : List ℕ)
    (counted : new word ≡ Some (unwrap_or (old word) 0 + 1))
    (others : (q : List ℕ) → q ≢ word → new q ≡ old q) where
  -- the words with a count are those that were there, and this one
  pub known_more : ((q : List ℕ) → is_some (old q) ≡ list_any (bytes_eq q) words)
      → (q : List ℕ) → is_some (new q) ≡ list_any (bytes_eq q) (words ++ word ∷ [])
  known_more known q =
      let parts = list_any-append (bytes_eq q) words (word ∷ []) in
      ⊎_elim
      (λ same. ap (λ w. is_some (new w)) same.0 ∙ ap is_some counted
      ∙ sym (parts ∙ ap (λ b. list_any (bytes_eq q) words || (b || false)) same.1 ∙ or-true _))
      (λ other. ap is_some (others q other.0) ∙ known q
      ∙ sym (parts ∙ ap (λ b. list_any (bytes_eq q) words || (b || false)) other.1 ∙ or-false _))
      (same_or_not q word)

  -- and each count is that of one more word
  pub counted_more : ((q : List ℕ) → unwrap_or (old q) 0 ≡ places_of words q)
      → (q : List ℕ) → unwrap_or (new q) 0 ≡ places_of (words ++ word ∷ []) q
  counted_more so_far q =
      let push = sum_by_push (λ w. cond (bytes_eq q w) 1 0) words word in
      ⊎_elim
      (λ same. ap (λ w. unwrap_or (new w) 0) same.0 ∙ ap (λ o. unwrap_or o 0) counted
      ∙ ap (λ w. unwrap_or (old w) 0 + 1) (sym same.0) ∙ ap (λ n. n + 1) (so_far q)
      ∙ sym (push ∙ ap (λ b. places_of words q + cond b 1 0) same.1))
      (λ other. ap (λ o. unwrap_or o 0) (others q other.0) ∙ so_far q
      ∙ sym (push ∙ ap (λ b. places_of words q + cond b 1 0) other.1 ∙ add-zero _))
      (same_or_not q word)
