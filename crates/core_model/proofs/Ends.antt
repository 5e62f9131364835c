-- What a lawful lane says of the commands that have ended.
use Rattle.std.proofs.Common.{◌≡◌, ◌≢◌, ℕ, ◌+◌, ◌*◌, ◌^◌, ◌<◌, Bool, cond, List, [], ◌∷◌, ◌++◌, refl, sym, ap, ◌∙◌, subst, arith, Option, Some, None, IsSome}
use Rattle.std.proofs.lemmas.List.{append-nil}
use Rattle.bq_model.specs.declared.group.Group.{Group}
use Rattle.bq_model.specs.Own.{mine}
use Rattle.bq_model.specs.Proper.{IsProper}
use Rattle.word_rows.specs.declared.place.Place.{Place}
use Rattle.word_rows.specs.declared.head_word.HeadWord.TheVariants.{Node, Ann}
use Rattle.lane_steps.specs.declared.point.Point.TheVariants.{Idle}
use Rattle.lane_steps.specs.declared.point.CallEnd.TheVariants.{Done}
use Rattle.lane_steps.specs.LaneSizes.{LaneSizes}
use Rattle.lane_steps.specs.State.{State, own_group}
use Rattle.core_model.specs.Kept.{numbered}
use Rattle.core_model.specs.Lawful.{head_word, Lawful}
use Rattle.core_model.specs.Once.{times}
use Rattle.core_model.specs.Ended.{EndedDone}
use Rattle.core_model.proofs.Counts.{stands_once}
use Rattle.core_model.proofs.InRange.{all_within}
use Rattle.core_model.proofs.Preserves.{known}

module _ (z : LaneSizes) (s : State) (L : Lawful z s) where
  -- the groups of a caller that runs no command are those of its ended ones
  pub idle_groups : (c : ℕ) → (s.callers c).point ≡ Idle → mine s.history c ≡ (s.callers c).mine
  idle_groups c idle = (L.callers c).own_groups ∙ (ap (λ (b : Bool). (s.callers c).mine ++ cond b (own_group c (s.callers c) ∷ []) []) (known z s L c Idle idle).call.0.0 ∙ append-nil (s.callers c).mine)

  pub one_position : (before behind : List Group) (g : Group) → s.history ≡ (before ++ g ∷ []) ++ behind → times g s.history ≡ 1
  one_position before behind g is = ap (times g) is ∙ stands_once z.callers before behind g (subst (IsProper z.callers) is L.history.proper)

  pub ended_done : (c : ℕ) → (s.callers c).point ≡ Idle → (s.callers c).outcome ≡ Some Done → EndedDone s c
  ended_done c idle done = let D = (L.callers c).knows.last.done done in let end = some (s.callers c).ended_at ((known z s L c Idle idle).here.0.1 (λ none. never (sym done ∙ none))) in record {
    earlier = D.earlier;
    ops = D.ops;
    own_groups = idle_groups c idle ∙ D.last;
    stands = D.stands;
    once = one_position D.stands.before D.stands.behind (numbered c D.earlier D.ops) D.stands.splits;
    end = end.0;
    ended = end.1;
    after_start = (D.timely end.0 end.1).0;
    before_end = (D.timely end.0 end.1).1;
  } where
    never : Some Done ≡ None → ⊥
    never e = cc e

    some : (o : Option ℕ) → IsSome o → (n : ℕ) × (o ≡ Some n)
    some (Some n) is = (n, refl)
    some None is = absurd (cc is)

  pub no_answers : (c : ℕ) → (s.callers c).outcome ≢ Some Done → (s.callers c).answers ≡ []
  no_answers c other = (L.callers c).knows.last.none other

  module _ (fits : z.first + z.callers * z.allowance < 2 ^ 44) where
    pub tail_fits : s.memory.tail.count < 2 ^ 44
    tail_fits = let count = ap (λ (p : Place). p.count) L.list.tail.named in let within = L.list.tail.within in let made = L.list.counts in let all = all_within z s L in omega arith

    pub head_fits : (p : Place) → s.memory.head ≡ Node p → p.count < 2 ^ 44
    head_fits p is = by L.ghost.ann (sym is ∙ L.list.head.named) where
      by : (a : Option ℕ) → Node p ≡ head_word z.first L.ghost.path L.ghost.head a → p.count < 2 ^ 44
      by None e = let count = ap (λ (q : Place). q.count) (Rattle.core_model.proofs.Lookups.same_node p _ e) in let made = L.list.counts in let all = all_within z s L in omega arith
      by (Some a) e = absurd (cc e)

    pub announced_fits : (a n : ℕ) → s.memory.head ≡ Ann a n → n < 2 ^ 44
    announced_fits a n is = by L.ghost.ann (sym is ∙ L.list.head.named) where
      counted : (b m : ℕ) → Ann a n ≡ Ann b m → n ≡ m
      counted b m e = cc e

      by : (o : Option ℕ) → Ann a n ≡ head_word z.first L.ghost.path L.ghost.head o → n < 2 ^ 44
      by None e = absurd (cc e)
      by (Some b) e = let count = counted b (z.first + L.ghost.head) e in let made = L.list.counts in let all = all_within z s L in omega arith
