-- A history judged from entry to entry.
use Rattle.std.proofs.Common.{◌≡◌, ◌==◌, ℕ, zero, suc, ◌+◌, ◌<◌, ◌≤◌, ◌^◌, Bool, true, false, ◌&&◌, List, [], ◌∷◌, ◌++◌, length, map, take, drop, get_or, refl, sym, ap, subst, ◌∙◌, arith, add-one, nat_eq, nat_lt, slice_index_or, slice_set, ltb-true, ⊎_elim, length-append, Some, eqb-true}
use Rattle.std.proofs.lemmas.Bool.{and_parts, cases_lt}
use Rattle.std.proofs.lemmas.List.{map-append, length-map, length-set, get_or-set_same, get_or-set_other}
use Rattle.std.proofs.lemmas.List.Sums.{length-filter, count_by-le-length, sum_by_push}
use Rattle.std.proofs.Math.Seq.{drop-cons, take-suc}
use mathlib.Core.Logic.{dite}
use native.Mathlib.Decide.{ℕ_discrete}
use Rattle.bq_model.specs.declared.op.Op.{Op}
use Rattle.bq_model.specs.declared.group.Group.{Group}
use Rattle.bq_model.specs.Queue.{Queue, queue_after, answer_at_queue}
use Rattle.bq_model.specs.Replay.{queue_from}
use Rattle.bq_model.specs.History.{last_queue}
use Rattle.bq_model.specs.Own.{mine}
use Rattle.bq_model.proofs.Histories.{last_queue-push, queue_from-append}
use Rattle.trace_text.proofs.HistoryLemmas.{mine-push_own, mine-push_other}
use Rattle.trace_text.specs.declared.claim.Claim.{Claim}
use Rattle.trace_text.specs.declared.claim.Entry.{Entry}
use Rattle.trace_text.specs.Claims.{group_of}
use Rattle.trace_text.specs.HistoryText.{operation_count}
use Rattle.trace_text.specs.Verdicts.{same_answer, groups_of, is_right, first_wrong}
use Rattle.trace_text.specs.Judging.{Judging, are_right, is_right_now, after_entry}

-- ---- the claims of an entry

module _ (queue next : Queue) (claims : List Claim) (k : ℕ) (d : Claim) (inside : k < length claims) where
  -- the next claim is right
  pub are_right-more : true ≡ same_answer (get_or claims k d).answer (answer_at_queue queue (get_or claims k d).op) → next ≡ queue_after queue (get_or claims k d).op
      → are_right queue (drop k claims) ≡ are_right next (drop (k + 1) claims)
  are_right-more right after =
      let here = sym right in
      ap (are_right queue) (drop-cons claims k d inside) ∙ (rw here (rw add-one (ap (λ q. are_right q (drop (suc k) claims)) (sym after))))

  -- it isn't
  pub are_right-wrong : false ≡ same_answer (get_or claims k d).answer (answer_at_queue queue (get_or claims k d).op) → are_right queue (drop k claims) ≡ false
  are_right-wrong wrong = let here = sym wrong in ap (are_right queue) (drop-cons claims k d inside) ∙ rw here refl

  -- what the claims so far leave
  pub queue_from-more : (start : Queue) → queue ≡ queue_from start (map (λ (c : Claim). c.op) (take k claims)) → next ≡ queue_after queue (get_or claims k d).op
      → next ≡ queue_from start (map (λ (c : Claim). c.op) (take (k + 1) claims))
  queue_from-more start before after =
      let op : Claim → Op = λ c. c.op in
      let longer : take (k + 1) claims ≡ take k claims ++ get_or claims k d ∷ [] = rw add-one (take-suc claims k d inside) in
      after ∙ (ap (λ q. queue_after q (get_or claims k d).op) before
      ∙ (sym (queue_from-append start (map op (take k claims)) ((get_or claims k d).op ∷ []))
      ∙ ap (queue_from start) (sym (map-append op (take k claims) (get_or claims k d ∷ [])) ∙ ap (map op) (sym longer))))

-- ---- the entries

-- what is kept is what these entries leave
pub record IsJudged (callers : ℕ) (before : List Entry) (so_far : Judging) : Type 0 where
  pub queue : so_far.queue ≡ last_queue (groups_of before)
  pub callers_are : length so_far.made ≡ callers
  pub made : (c : ℕ) → c < callers → slice_index_or so_far.made c 0 ≡ length (mine (groups_of before) c)

pub groups_of-push : (before : List Entry) (entry : Entry) → groups_of (before ++ entry ∷ []) ≡ groups_of before ++ group_of entry ∷ []
groups_of-push before entry = map-append group_of before (entry ∷ [])

index_or-outside : (ns : List ℕ) (c : ℕ) → length ns ≤ c → slice_index_or ns c 0 ≡ 0
index_or-outside [] c outside = refl
index_or-outside (n ∷ ns) zero outside = absurd (omega arith)
index_or-outside (n ∷ ns) (suc c) outside = index_or-outside ns c (omega arith)

mine-few : (before : List Entry) (c : ℕ) → length (mine (groups_of before) c) ≤ length before
mine-few before c =
    let mine_are : Group → Bool = λ g. g.caller == c in
    omega (arith, length-filter mine_are (groups_of before), count_by-le-length mine_are (groups_of before), length-map before group_of)

pub made_fits : (callers : ℕ) (before : List Entry) (so_far : Judging) → IsJudged callers before so_far → length before + 1 < 2 ^ 64 → (c : ℕ) → slice_index_or so_far.made c 0 + 1 < 2 ^ 64
made_fits callers before so_far judged few c =
    ⊎_elim
    (λ inside. omega (arith, judged.made c inside, mine-few before c))
    (λ outside. omega (arith, index_or-outside so_far.made c (let as_many = judged.callers_are in omega arith)))
    (cases_lt c callers)

pub is_right-now : (callers : ℕ) (before : List Entry) (so_far : Judging) (entry : Entry) → IsJudged callers before so_far → is_right callers before entry ≡ is_right_now so_far entry
is_right-now callers before so_far entry judged = by (nat_lt entry.caller callers) refl
  where
    by : (b : Bool) → nat_lt entry.caller callers ≡ b → is_right callers before entry ≡ is_right_now so_far entry
    by true e =
        let inside = ltb-true entry.caller callers e in
        let number = judged.made entry.caller inside in
        let queue = judged.queue in
        let as_many = judged.callers_are in
        rw (as_many, number, queue) refl
    by false e = let as_many = judged.callers_are in rw (as_many, e) refl

pub IsJudged-after : (callers : ℕ) (before : List Entry) (so_far : Judging) (entry : Entry) → IsJudged callers before so_far → is_right_now so_far entry ≡ true
    → IsJudged callers (before ++ entry ∷ []) (after_entry so_far entry)
IsJudged-after callers before so_far entry judged right =
    let is_known = nat_lt entry.caller (length so_far.made) in
    let is_numbered = nat_eq entry.batch (slice_index_or so_far.made entry.caller 0) in
    let parts = and_parts is_known is_numbered (and_parts (is_known && is_numbered) (are_right so_far.queue entry.claims) right).0 in
    let as_many = judged.callers_are in
    let known : entry.caller < callers = omega (arith, ltb-true entry.caller (length so_far.made) parts.0) in
    let here : entry.caller < length so_far.made = omega arith in
    let number = eqb-true entry.batch (slice_index_or so_far.made entry.caller 0) parts.1 in
    let pushed = groups_of-push before entry in
    let groups = groups_of before in
    let group = group_of entry in
    record {
      queue = ap (λ q. queue_from q group.ops) judged.queue ∙ (sym (last_queue-push groups group) ∙ ap last_queue (sym pushed));
      callers_are = length-set so_far.made entry.caller (entry.batch + 1) ∙ judged.callers_are;
      made = λ c inside. dite (ℕ_discrete c entry.caller)
          (λ same.
          let P : ℕ → Type 0 = λ d. slice_index_or (slice_set so_far.made entry.caller (entry.batch + 1)) d 0 ≡ length (mine (groups_of (before ++ entry ∷ [])) d) in
          let longer = ap length (ap (λ h. mine h entry.caller) pushed ∙ mine-push_own groups group) ∙ length-append (mine groups entry.caller) (group ∷ []) in
          subst P (sym same) (get_or-set_same so_far.made entry.caller (entry.batch + 1) 0 here ∙ omega (arith, judged.made entry.caller known)))
          (λ apart. get_or-set_other so_far.made entry.caller c (entry.batch + 1) 0 apart ∙ (judged.made c inside ∙ ap length (sym (ap (λ h. mine h c) pushed ∙ mine-push_other groups group c apart))));
    }

-- ---- one entry after another

module _ (callers : ℕ) (entries : List Entry) (k : ℕ) (entry : Entry) (inside : k < length entries) (item : entry ≡ get_or entries k entry) (so_far : Judging) (judged : IsJudged callers (take k entries) so_far) where
  split : drop k entries ≡ entry ∷ drop (k + 1) entries
  split = rw add-one (drop-cons entries k entry inside ∙ ap (λ (e : Entry). e ∷ drop (suc k) entries) (sym item))

  longer : take (k + 1) entries ≡ take k entries ++ entry ∷ []
  longer = rw add-one (take-suc entries k entry inside ∙ ap (λ (e : Entry). take k entries ++ e ∷ []) (sym item))

  -- the entry is right
  pub IsJudged-more : (next : Judging) → true ≡ is_right_now so_far entry → next ≡ after_entry so_far entry → IsJudged callers (take (k + 1) entries) next
  IsJudged-more next right after =
      let P : Judging → Type 0 = λ j. IsJudged callers (take (k + 1) entries) j in
      let Q : List Entry → Type 0 = λ es. IsJudged callers es (after_entry so_far entry) in
      subst P (sym after) (subst Q (sym longer) (IsJudged-after callers (take k entries) so_far entry judged (sym right)))

  pub first_wrong-more : true ≡ is_right_now so_far entry → first_wrong callers (take k entries) (drop k entries) ≡ first_wrong callers (take (k + 1) entries) (drop (k + 1) entries)
  first_wrong-more right =
      let here = is_right-now callers (take k entries) so_far entry judged ∙ sym right in
      ap (first_wrong callers (take k entries)) split ∙ (rw here (ap (λ (es : List Entry). first_wrong callers es (drop (k + 1) entries)) (sym longer)))

  -- it isn't
  pub first_wrong-here : false ≡ is_right_now so_far entry → first_wrong callers (take k entries) (drop k entries) ≡ Some entry.line
  first_wrong-here wrong =
      let here = is_right-now callers (take k entries) so_far entry judged ∙ sym wrong in
      ap (first_wrong callers (take k entries)) split ∙ rw here refl

  pub operation_count-more : operation_count (take (k + 1) entries) ≡ operation_count (take k entries) + length entry.claims
  operation_count-more = ap operation_count longer ∙ sum_by_push (λ (e : Entry). length e.claims) (take k entries) entry
