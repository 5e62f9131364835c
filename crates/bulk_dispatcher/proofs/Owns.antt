-- How many queued values are a caller's: none after it found nothing, until it enqueues again.
use Rattle.std.proofs.Common.{◌≡◌, ◌≢◌, ℕ, ◌+◌, ◌≤◌, ◌==◌, Bool, true, false, cond, List, [], ◌∷◌, ◌++◌, map, refl, sym, ap, subst, ◌∙◌, arith, ne_eqb, eq-eqb, count_by, append_assoc, inl, inr}
use Rattle.std.proofs.lemmas.Bool.{cases_eq}
use Rattle.std.proofs.lemmas.List.Sums.{sum_by-cons, sum_by_push}
use Rattle.bq_model.specs.declared.op.Op.{Op}
use Rattle.bq_model.specs.declared.op.Op.TheVariants.{Enq, Deq, Shut}
use Rattle.bq_model.specs.declared.group.Group.{Group}
use Rattle.bq_model.specs.Queue.{Queue}
use Rattle.bq_model.specs.History.{last_queue}
use Rattle.bq_model.specs.Own.{mine, Item, Items, items_of, no_items, items_after_ops, items_from, own, next_group}
use Rattle.bq_model.specs.declared.op.Answer.{Answer}
use Rattle.bq_model.specs.declared.op.Answer.TheVariants.{Empty}
use Rattle.bq_model.proofs.Histories.{last_queue-push}
use Rattle.bq_model.specs.Grows.{Grew, SawMore}
use Rattle.bq_model.proofs.QueuedItems.{values-history, items_from-append}
use Rattle.bulk_dispatcher.proofs.Fifo.{nothing_after_empty}
use Rattle.bq_model.proofs.Growing.{others_later, others_around}

abbrev owned : ℕ → List Item → ℕ
owned c items = count_by (λ item. item.caller == c) items

none_of : (items : List Item) → map (λ (x : Item). x.value) items ≡ [] → items ≡ []
none_of [] e = refl
none_of (x ∷ items) e = cc e

pub none_owned : (h : List Group) (c : ℕ) → (last_queue h).values ≡ [] → own h c ≡ 0
none_owned h c e = ap (owned c) (none_of (items_from no_items h).items (ap (λ (q : Queue). q.values) (values-history h) ∙ e))

-- Operations of others add none.
others_ops : (d c : ℕ) (b : Bool) (items : List Item) (ops : List Op) → d ≢ c → owned c (items_after_ops d (items_of items b) ops).items ≤ owned c items
others_ops d c b items [] n = omega arith
others_ops d c true items (Enq v ∷ ops) n = others_ops d c true items ops n
others_ops d c false items (Enq v ∷ ops) n =
    let rest = others_ops d c false (items ++ record { caller = d; value = v } ∷ []) ops n in
    let more = sum_by_push (λ (x : Item). cond (x.caller == c) 1 0) items (record { caller = d; value = v }) ∙ ap (λ b. owned c items + cond b 1 0) (ne_eqb d c n) in
    omega (arith, rest, more)
others_ops d c b [] (Deq ∷ ops) n = others_ops d c b [] ops n
others_ops d c b (x ∷ items) (Deq ∷ ops) n =
    let rest = others_ops d c b items ops n in
    let less = sum_by-cons (λ (y : Item). cond (y.caller == c) 1 0) x items in
    omega (arith, rest, less)
others_ops d c b items (Shut ∷ ops) n = others_ops d c true items ops n

others_groups : (c : ℕ) (q : Items) (h : List Group) → mine h c ≡ [] → owned c (items_from q h).items ≤ owned c q.items
others_groups c q [] e = omega arith
others_groups c q (g ∷ h) e =
    elim (cases_eq g.caller c) [
      | inl same ↦
          let some : g ∷ mine h c ≡ [] = subst (λ b. cond b (g ∷ mine h c) (mine h c) ≡ []) (eq-eqb g.caller c same) e in
          cc some
      | inr other ↦
          let rest = others_groups c (items_after_ops g.caller q g.ops) h (subst (λ b. cond b (g ∷ mine h c) (mine h c) ≡ []) (ne_eqb g.caller c other) e) in
          let here = others_ops g.caller c q.shut q.items g.ops other in
          omega (arith, rest, here)
    ]

pub own-later : (h more : List Group) (c : ℕ) → mine more c ≡ [] → own (h ++ more) c ≤ own h c
own-later h more c e = subst (λ (q : Items). owned c q.items ≤ own h c) (sym (items_from-append no_items h more)) (others_groups c (items_from no_items h) more e)

-- Where a caller's last call found nothing, no queued value is its own.
pub own_after_empty : (c : ℕ) (ops : List Op) (answers found : List Answer) (old new : List Group) → answers ≡ found ++ Empty ∷ [] → Grew c ops answers old new → own new c ≡ 0
own_after_empty c ops answers found old new e g =
    let here : List Group = (old ++ g.between) ++ next_group old c ops ∷ [] in
    let empty : (last_queue here).values ≡ [] = ap (λ (q : Queue). q.values) (last_queue-push (old ++ g.between) (next_group old c ops)) ∙ nothing_after_empty (last_queue (old ++ g.between)) ops found (sym g.answered ∙ e) in
    let whole : new ≡ here ++ g.after = g.grown ∙ sym (append_assoc (old ++ g.between) (next_group old c ops ∷ []) g.after) in
    let most = own-later here g.after c (others_around c ops answers old new g).1 in
    let none = none_owned here c empty in
    let same = ap (λ h. own h c) whole in
    omega (arith, most, none, same)

-- and none is while it makes nothing
pub own_saw_more : (c : ℕ) (old new : List Group) → SawMore c old new → own old c ≡ 0 → own new c ≡ 0
own_saw_more c old new s none =
    let most = own-later old s.more c (others_later old s.more c (ap (λ h. mine h c) (sym s.grown) ∙ s.own)) in
    let same = ap (λ h. own h c) s.grown in
    omega (arith, most, none, same)
