-- Where each caller's last group found nothing, the history leaves nothing.
use Rattle.std.proofs.Common.{◌≡◌, ℕ, ◌+◌, ◌<◌, ◌==◌, true, cond, List, [], ◌∷◌, ◌++◌, refl, sym, ap, subst, ◌∙◌, arith, eq-eqb, append_assoc, All, inl, inr}
use Rattle.std.specs.List.{AllByRecursion}
use Rattle.std.proofs.lemmas.List.Elements.{recursion_from_All}
use Rattle.std.proofs.lemmas.Bool.{cases_lt}
use Rattle.bq_model.specs.declared.group.Group.{Group}
use Rattle.bq_model.specs.NoShut.{NeverShut}
use Rattle.bq_model.specs.Queue.{Queue, queue_of, unshut}
use Rattle.bq_model.specs.History.{last_queue}
use Rattle.bq_model.specs.Own.{mine}
use Rattle.bq_model.proofs.Histories.{last_queue-push}
use Rattle.bq_model.proofs.Growing.{mine-append}
use Rattle.bq_model.proofs.OpenQueues.{stays_open}
use Rattle.bulk_dispatcher.specs.Hands.{EndedEmpty}
use Rattle.bulk_dispatcher.proofs.Fifo.{nothing_after_empty}

not_nil : {X : Type 0} (xs ys : List X) (x : X) → xs ++ x ∷ ys ≡ [] → ⊥
not_nil [] ys x e = cc e
not_nil (y ∷ xs) ys x e = cc e

-- a caller whose group is the last one has a group
pub last_is_mine : (before : List Group) (g : Group) → mine (before ++ g ∷ []) g.caller ≡ mine before g.caller ++ g ∷ []
last_is_mine before g =
    let here : (g.caller == g.caller) ≡ true = eq-eqb g.caller g.caller refl in
    mine-append before (g ∷ []) g.caller ∙ ap (λ b. mine before g.caller ++ cond b (g ∷ []) []) here

no_group : (before : List Group) (g : Group) (c : ℕ) → g.caller ≡ c → mine (before ++ g ∷ []) c ≡ [] → ⊥
no_group before g c whose e = not_nil (mine before g.caller) [] g (sym (last_is_mine before g) ∙ ap (mine (before ++ g ∷ [])) whose ∙ e)

last_or : {X : Type 0} → X → List X → X
last_or d [] = d
last_or d (x ∷ xs) = last_or x xs

last_or-push : {X : Type 0} (d : X) (xs : List X) (x : X) → last_or d (xs ++ x ∷ []) ≡ x
unfolding last_or
last_or-push d [] x = refl
last_or-push d (y ∷ xs) x = last_or-push y xs x

same_last : {X : Type 0} (xs ys : List X) (x y : X) → xs ++ x ∷ [] ≡ ys ++ y ∷ [] → x ≡ y
same_last xs ys x y e = sym (last_or-push x xs x) ∙ ap (last_or x) e ∙ last_or-push x ys y

-- the last group of a history, and what stands before it
data Ends (h : List Group) : Type 0 where
  At_once : h ≡ [] → Ends h
  With : (before : List Group) (group : Group) → h ≡ before ++ group ∷ [] → Ends h

ends : (h : List Group) → Ends h
ends [] = At_once refl
ends (x ∷ h) = elim (ends h) [
  | At_once e ↦ With [] x (ap (λ gs. x ∷ gs) e)
  | With before group e ↦ With (x ∷ before) group (ap (λ gs. x ∷ gs) e)
]

-- what is left by a caller's group that found nothing, where it is the last group
left_by_last : (batch c : ℕ) (h before : List Group) (group : Group) → h ≡ before ++ group ∷ [] → group.caller ≡ c → EndedEmpty batch c h → (last_queue h).values ≡ []
left_by_last batch c h before group e whose ended =
    elim (ends ended.after) [
      | At_once none ↦
          ap (λ (q : Queue). q.values) (ap last_queue (ended.stands ∙ ap (λ gs. ended.before ++ ended.group ∷ gs) none) ∙ last_queue-push ended.before ended.group)
          ∙ nothing_after_empty (last_queue ended.before) ended.group.ops ended.found ended.empty
      | With b g is ↦
          let whole : h ≡ (ended.before ++ ended.group ∷ b) ++ g ∷ [] =
          ended.stands ∙ ap (λ gs. ended.before ++ ended.group ∷ gs) is ∙ sym (append_assoc ended.before (ended.group ∷ b) (g ∷ [])) in
          let same : g ≡ group = same_last (ended.before ++ ended.group ∷ b) before g group (sym whole ∙ e) in
          absurd (no_group b g c (ap (λ x. x.caller) same ∙ whose) (sym (ap (λ gs. mine gs c) is) ∙ ended.last))
    ]

known_last : (n : ℕ) (before : List Group) (group : Group) → AllByRecursion (λ g. g.caller < n) (before ++ group ∷ []) → group.caller < n
known_last n [] group h = h.0
known_last n (x ∷ before) group h = known_last n before group h.1

-- Where each hand ended on nothing, and main made no operation, nothing is left.
no_value_left : (hands batch : ℕ) (h : List Group) → All (λ g. g.caller < hands + 1) h → mine h hands ≡ [] → ((c : ℕ) → c < hands → EndedEmpty batch c h) → (last_queue h).values ≡ []
no_value_left hands batch h known idle ended =
    elim (ends h) [
      | At_once e ↦ ap (λ (gs : List Group). (last_queue gs).values) e
      | With before group e ↦
          let below : group.caller < hands + 1 = known_last (hands + 1) before group (subst (AllByRecursion (λ g. g.caller < hands + 1)) e (recursion_from_All _ h known)) in
          elim (cases_lt group.caller hands) [
            | inl less ↦ left_by_last batch group.caller h before group e refl (ended group.caller less)
            | inr above ↦ absurd (no_group before group hands (omega arith) (sym (ap (λ gs. mine gs hands) e) ∙ idle))
          ]
    ]

pub nothing_left : (hands batch : ℕ) (h : List Group) → All (λ g. g.caller < hands + 1) h → NeverShut h → mine h hands ≡ [] → ((c : ℕ) → c < hands → EndedEmpty batch c h) → last_queue h ≡ unshut []
nothing_left hands batch h known never idle ended = (λ i. queue_of (no_value_left hands batch h known idle ended i) (stays_open h never i))
