-- What a hand did on a lane stays what it did where the history grows by groups of others.
use Rattle.std.proofs.Common.{◌≡◌, ℕ, List, ◌∷◌, ◌++◌, sym, ap, subst, ◌∙◌, append_assoc, All}
use Rattle.bq_model.specs.declared.group.Group.{Group}
use Rattle.bq_model.specs.Own.{mine}
use Rattle.bulk_dispatcher.specs.Books.{Numbered, StandTogether}
use Rattle.bq_model.specs.History.{operations}
use Rattle.bulk_dispatcher.specs.Hands.{EndedEmpty, HandDid}
use Rattle.bq_model.proofs.Growing.{mine-append, others_later}
use Rattle.bq_model.specs.Values.{enqueued}

pub EndedEmpty-later : (batch c : ℕ) (h more : List Group) → mine (h ++ more) c ≡ mine h c → EndedEmpty batch c h → EndedEmpty batch c (h ++ more)
EndedEmpty-later batch c h more e d = record {
  before = d.before;
  group = d.group;
  after = d.after ++ more;
  stands = ap (λ gs. gs ++ more) d.stands ∙ append_assoc d.before (d.group ∷ d.after) more;
  whose = d.whose;
  last = mine-append d.after more c ∙ ap (λ gs. gs ++ mine more c) d.last ∙ others_later h more c e;
  dequeues = d.dequeues;
  found = d.found;
  empty = d.empty;
}

pub HandDid-later : (units : List Numbered) (batch c : ℕ) (h more : List Group) → mine (h ++ more) c ≡ mine h c → HandDid units batch c h → HandDid units batch c (h ++ more)
HandDid-later units batch c h more e d = record {
  put = ap (λ gs. enqueued (operations gs)) e ∙ d.put;
  together = subst (λ gs. All (λ (unit : Numbered). StandTogether gs unit.numbers) units) (sym e) d.together;
  ended = EndedEmpty-later batch c h more e d.ended;
}
