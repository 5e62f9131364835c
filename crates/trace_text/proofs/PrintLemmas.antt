-- Texts that grow at their end.
use Rattle.std.proofs.Common.{◌≡◌, ℕ, zero, suc, ◌+◌, ◌-◌, ◌<◌, Bool, true, false, cond, List, [], ◌∷◌, ◌++◌, map, filter, refl, sym, ap, ◌∙◌, arith, append_assoc, append-nil, codes, length, take, drop, get_or, add-one}
use Rattle.std.specs.List.{range_with_len}
use Rattle.text_lines.specs.Printed.{printed_line, printed_lines, spaced}
use Rattle.text_lines.proofs.PrintedLines.{join-spaced}
use Rattle.std.proofs.Math.Seq.{drop-cons, take-suc}
use Rattle.std.proofs.lemmas.Grind.{flat_map-append}
use Rattle.std.proofs.lemmas.List.{map-append}
use Rattle.bq_model.specs.declared.op.Op.{Op}
use Rattle.bq_model.specs.declared.op.Answer.{Answer}
use Rattle.bq_model.specs.declared.group.Group.{Group}
use Rattle.bq_model.specs.Queue.{Queue, queue_after, answer_at_queue}
use Rattle.bq_model.specs.Replay.{queue_from}
use Rattle.trace_text.specs.declared.play.Refused.{Refused}
use Rattle.trace_text.specs.Printed.{unfinished_line, answer_word, op_words, group_words, group_lines, refused_line}

flat : (t g p a b s n : List ℕ) → ((((((t ++ g) ++ p) ++ a) ++ p) ++ b) ++ s) ++ n ≡ t ++ ((g ++ ((p ++ a) ++ ((p ++ b) ++ s))) ++ n)
flat t g p a b s n = simp append_assoc

flat_word : (t g p d n : List ℕ) → (((t ++ g) ++ p) ++ d) ++ n ≡ t ++ (g ++ (p ++ (d ++ n)))
flat_word t g p d n = simp append_assoc

-- the line of a group
pub group_printed : (t u v w x y a b : List ℕ) (words : List (List ℕ)) → u ≡ t ++ codes "group" → v ≡ u ++ codes " " ++ a → w ≡ v ++ codes " " ++ b → x ≡ w ++ spaced words → y ≡ x ++ codes "\n"
    → y ≡ t ++ printed_line (codes "group" ∷ a ∷ b ∷ words)
group_printed t u v w x y a b words group first second rest end =
    let whole : y ≡ ((((t ++ codes "group") ++ codes " " ++ a) ++ codes " " ++ b) ++ spaced words) ++ codes "\n" =
    end ∙ ap (λ (z : List ℕ). z ++ codes "\n") (rest ∙ ap (λ (z : List ℕ). z ++ spaced words) (second ∙ ap (λ (z : List ℕ). z ++ codes " " ++ b) (first ∙ ap (λ (z : List ℕ). z ++ codes " " ++ a) group))) in
    whole
    ∙ (flat t (codes "group") (codes " ") a b (spaced words) (codes "\n") ∙ ap (λ (z : List ℕ). t ++ (z ++ codes "\n")) (sym (join-spaced (codes "group") (a ∷ b ∷ words))))

-- the comment on a caller
pub caller_printed : (t u v w d : List ℕ) → u ≡ t ++ codes "# unfinished" → v ≡ u ++ codes " " ++ d → w ≡ v ++ codes "\n" → w ≡ t ++ printed_line (codes "#" ∷ codes "unfinished" ∷ d ∷ [])
caller_printed t u v w d comment number end =
    end ∙ (ap (λ (z : List ℕ). z ++ codes "\n") (number ∙ ap (λ (z : List ℕ). z ++ codes " " ++ d) comment) ∙ flat_word t (codes "# unfinished") (codes " ") d (codes "\n"))

-- ---- callers that are not idle

abbrev comments : (ℕ → Bool) → List ℕ → List ℕ
comments p callers = printed_lines (map unfinished_line (filter p callers))

comments-cons : (p : ℕ → Bool) (c : ℕ) (callers : List ℕ) → comments p (c ∷ []) ++ comments p callers ≡ comments p (c ∷ callers)
comments-cons p c callers =
    elim (p c) as (λ b. printed_lines (map unfinished_line (cond b (c ∷ []) [])) ++ comments p callers ≡ printed_lines (map unfinished_line (cond b (c ∷ filter p callers) (filter p callers)))) [
      | true ↦ ap (λ (line : List ℕ). line ++ comments p callers) (append-nil (printed_line (unfinished_line c)))
      | false ↦ refl
    ]

range-cons : (c n m : ℕ) → n ≡ suc m → range_with_len c n ≡ c ∷ range_with_len (c + 1) m
range-cons c zero m e = absurd (omega arith)
range-cons c (suc n) m e = let same : n ≡ m = omega arith in ap (λ k. c ∷ range_with_len (c + 1) k) same

-- one more caller
pub unfinished-more : (p : ℕ → Bool) (c n : ℕ) (old new whole : List ℕ) → c < n → new ≡ old ++ comments p (c ∷ []) → old ++ comments p (range_with_len c (n - c)) ≡ whole
    → new ++ comments p (range_with_len (c + 1) (n - (c + 1))) ≡ whole
unfinished-more p c n old new whole below grown before =
    let rest = range_with_len (c + 1) (n - (c + 1)) in
    let here = range-cons c (n - c) (n - (c + 1)) (omega arith) in
    ap (λ (t : List ℕ). t ++ comments p rest) grown
    ∙ (append_assoc old (comments p (c ∷ [])) (comments p rest)
    ∙ (ap (λ (t : List ℕ). old ++ t) (comments-cons p c rest ∙ ap (comments p) (sym here)) ∙ before))

-- ---- operations

flat_one : (t p w x : List ℕ) → ((t ++ p) ++ w) ++ x ≡ t ++ ((p ++ w) ++ x)
flat_one t p w x = simp append_assoc

module _ (q next : Queue) (ops : List Op) (k : ℕ) (d : Op) (inside : k < length ops) (after : next ≡ queue_after q (get_or ops k d)) where
  split : drop k ops ≡ get_or ops k d ∷ drop (k + 1) ops
  split = rw add-one (drop-cons ops k d inside)

  -- one more operation
  pub ops_printed-more : (old new whole : List ℕ) (answer : Answer) → answer ≡ answer_at_queue q (get_or ops k d) → new ≡ old ++ codes " " ++ answer_word (get_or ops k d) answer
      → old ++ spaced (op_words q (drop k ops)) ≡ whole → new ++ spaced (op_words next (drop (k + 1) ops)) ≡ whole
  ops_printed-more old new whole answer answer_is grown before =
      let op = get_or ops k d in
      let rest = drop (k + 1) ops in
      ap (λ (t : List ℕ). t ++ spaced (op_words next rest)) (grown ∙ ap (λ (a : Answer). old ++ codes " " ++ answer_word op a) answer_is)
      ∙ (ap (λ (r : Queue). old ++ codes " " ++ answer_word op (answer_at_queue q op) ++ spaced (op_words r rest)) after
      ∙ (flat_one old (codes " ") (answer_word op (answer_at_queue q op)) (spaced (op_words (queue_after q op) rest)) ∙ (ap (λ (left : List Op). old ++ spaced (op_words q left)) (sym split) ∙ before)))

  pub queue_left-more : (whole : Queue) → queue_from q (drop k ops) ≡ whole → queue_from next (drop (k + 1) ops) ≡ whole
  queue_left-more whole before = ap (λ (r : Queue). queue_from r (drop (k + 1) ops)) after ∙ (ap (queue_from q) (sym split) ∙ before)

-- ---- groups

module _ (q next : Queue) (h : List Group) (k : ℕ) (g : Group) (inside : k < length h) (item : g ≡ get_or h k g) (after : next ≡ queue_from q g.ops) where
  -- one more group
  pub groups_printed-more : (old new whole : List ℕ) → new ≡ old ++ printed_line (group_words q g) → old ++ printed_lines (group_lines q (drop k h)) ≡ whole → new ++ printed_lines (group_lines next (drop (k + 1) h)) ≡ whole
  groups_printed-more old new whole grown before =
      let rest = drop (k + 1) h in
      let split : drop k h ≡ g ∷ rest = rw add-one (drop-cons h k g inside ∙ ap (λ (x : Group). x ∷ drop (suc k) h) (sym item)) in
      ap (λ (t : List ℕ). t ++ printed_lines (group_lines next rest)) grown
      ∙ (ap (λ (r : Queue). (old ++ printed_line (group_words q g)) ++ printed_lines (group_lines r rest)) after
      ∙ (append_assoc old (printed_line (group_words q g)) (printed_lines (group_lines (queue_from q g.ops) rest)) ∙ (ap (λ (left : List Group). old ++ printed_lines (group_lines q left)) (sym split) ∙ before)))

-- ---- refusals

-- one more refusal
pub refusals_printed-more : (start old new : List ℕ) (rs : List Refused) (k : ℕ) (d : Refused) → k < length rs → old ≡ start ++ printed_lines (map refused_line (take k rs)) → new ≡ old ++ printed_line (refused_line (get_or rs k d))
    → new ≡ start ++ printed_lines (map refused_line (take (k + 1) rs))
refusals_printed-more start old new rs k d inside before grown =
    let one = get_or rs k d in
    let front = map refused_line (take k rs) in
    let longer : take (k + 1) rs ≡ take k rs ++ one ∷ [] = rw add-one (take-suc rs k d inside) in
    let lines : printed_lines (map refused_line (take (k + 1) rs)) ≡ printed_lines front ++ printed_line (refused_line one) =
    ap (λ (xs : List Refused). printed_lines (map refused_line xs)) longer
    ∙ (ap printed_lines (map-append refused_line (take k rs) (one ∷ []))
    ∙ (flat_map-append printed_line front (refused_line one ∷ []) ∙ ap (λ (line : List ℕ). printed_lines front ++ line) (append-nil (printed_line (refused_line one))))) in
    grown ∙ (ap (λ (t : List ℕ). t ++ printed_line (refused_line one)) before ∙ (append_assoc start (printed_lines front) (printed_line (refused_line one)) ∙ ap (λ (t : List ℕ). start ++ t) (sym lines)))
