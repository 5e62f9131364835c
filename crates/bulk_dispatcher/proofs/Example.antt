-- Two hands and one job: hand 0 puts it, hand 1 gets it.
use Rattle.std.proofs.Common.{◌≡◌, List, [], ◌∷◌, refl, arith}
use Rattle.std.proofs.lemmas.List.Elements.{All-from_recursion}
use Rattle.bq_model.specs.declared.op.Op.TheVariants.{Enq, Deq}
use Rattle.bq_model.specs.declared.group.Group.{Group}
use Rattle.bq_model.specs.Own.{mine}
use Rattle.job_work.specs.declared.job.Job.TheVariants.{Sum}
use Rattle.job_work.specs.Answer.{answer_of}
use Rattle.job_text.specs.declared.file.Unit.{Unit as JobUnit}
use Rattle.bulk_dispatcher.specs.Books.{Numbered, StandTogether}
use Rattle.bulk_dispatcher.specs.Hands.{units_of, HandDid, caught, replies_on}

abbrev file : List JobUnit
file = record { lane = 0; jobs = Sum (2 ∷ []) ∷ [] } ∷ []

abbrev book : List Group
book =
    record { caller = 0; batch = 0; ops = Deq ∷ Enq 0 ∷ [] }
    ∷ record { caller = 1; batch = 0; ops = Deq ∷ [] }
    ∷ record { caller = 1; batch = 1; ops = Deq ∷ [] }
    ∷ record { caller = 0; batch = 1; ops = Deq ∷ [] } ∷ []

caught_by_1 : caught book 1 ≡ record { serial = 0; value = 0 } ∷ []
caught_by_1 = refl

caught_by_0 : caught book 0 ≡ []
caught_by_0 = refl

replied_by_1 : replies_on file 0 1 book ≡ record { job = 0; lane = 0; caller = 1; serial = 0; text = answer_of (Sum (2 ∷ [])) } ∷ []
replied_by_1 = refl

hand_0 : HandDid (units_of file 2 0 0) 1 0 book
hand_0 = record {
  put = refl;
  together = All-from_recursion (λ (unit : Numbered). StandTogether (mine book 0) unit.numbers) (units_of file 2 0 0) (record { group = record { caller = 0; batch = 0; ops = Deq ∷ Enq 0 ∷ [] }; kept = (0, omega arith, refl); before = Deq ∷ []; after = []; together = refl }, tt);
  ended = record {
    before = record { caller = 0; batch = 0; ops = Deq ∷ Enq 0 ∷ [] } ∷ record { caller = 1; batch = 0; ops = Deq ∷ [] } ∷ record { caller = 1; batch = 1; ops = Deq ∷ [] } ∷ [];
    group = record { caller = 0; batch = 1; ops = Deq ∷ [] };
    after = [];
    stands = refl;
    whose = refl;
    last = refl;
    dequeues = refl;
    found = [];
    empty = refl;
  };
}

hand_1 : HandDid (units_of file 2 0 1) 1 1 book
hand_1 = record {
  put = refl;
  together = All-from_recursion (λ (unit : Numbered). StandTogether (mine book 1) unit.numbers) (units_of file 2 0 1) tt;
  ended = record {
    before = record { caller = 0; batch = 0; ops = Deq ∷ Enq 0 ∷ [] } ∷ record { caller = 1; batch = 0; ops = Deq ∷ [] } ∷ [];
    group = record { caller = 1; batch = 1; ops = Deq ∷ [] };
    after = record { caller = 0; batch = 1; ops = Deq ∷ [] } ∷ [];
    stands = refl;
    whose = refl;
    last = refl;
    dequeues = refl;
    found = [];
    empty = refl;
  };
}
