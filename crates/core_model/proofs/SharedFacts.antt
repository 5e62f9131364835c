-- What callers know that names nothing of their own, so that it stays true for whoever helps another.
use Rattle.std.proofs.Common.{◌≡◌, ℕ, List, [], ◌∷◌}
use Rattle.lane_steps.specs.declared.point.Help.{Help}
use Rattle.lane_steps.specs.declared.point.HelpPoint.{HelpPoint}
use Rattle.lane_steps.specs.declared.point.HelpPoint.TheVariants as help
use Rattle.lane_steps.specs.Help as helping
use Rattle.lane_steps.specs.Fact.{Fact, free_row, takes_row, owns, holds_item, retires_these, own_rows, loose_row, lets_go, out_of_head, linked, row_hazard_is, owes_rows, has_read, is_reading, linearized_is, fills, written, head_written, takes_effect, reads, hazard_is, is_spare, spares, scanned}
use Rattle.core_model.specs.Ghost.{World}
use Rattle.core_model.proofs.Rely.{Near}

-- Facts that name nothing of the caller's own but what it holds and names itself: a caller that helps another knows them
-- alone, in the worlds a and b.
abbrev pub Shared : World → World → ℕ → Fact → Type 0
Shared a b c (free_row d r) = ⊥
Shared a b c (takes_row d r) = ⊥
Shared a b c (owns d r) = ⊥
Shared a b c (holds_item x) = ⊥
Shared a b c (retires_these rows) = ⊥
Shared a b c (own_rows rows) = ⊥
Shared a b c (loose_row r) = ⊥
Shared a b c (lets_go e rows named) = ⊥
Shared a b c out_of_head = ⊥
Shared a b c (linearized_is d rows ps rs) = ⊥
Shared a b c (fills rows ops j) = ⊥
Shared a b c (linked p) = b.ghost.row_held c ≡ a.ghost.row_held c
Shared a b c (row_hazard_is r) = b.memory.node_hazard c ≡ a.memory.node_hazard c
Shared a b c (owes_rows q read stopped rows) = Near a b c
Shared a b c (has_read n own d vs ws l r) = Near a b c
Shared a b c (is_reading n own d vs ws l r) = Near a b c
Shared a b c (written d f) = ⊥
Shared a b c (head_written d) = ⊥
Shared a b c (takes_effect x rows n own) = ⊥
Shared a b c (reads n h) = b.ghost.held c ≡ a.ghost.held c
Shared a b c (hazard_is x) = b.memory.ann_hazard c ≡ a.memory.ann_hazard c
Shared a b c (is_spare x) = ⊥
Shared a b c (spares x) = ⊥
Shared a b c (scanned e xs) = ⊥
Shared a b c _ = Unit {0}

abbrev pub AllShared : World → World → ℕ → List Fact → Type 0
AllShared a b c [] = Unit {0}
AllShared a b c (f ∷ fs) = Shared a b c f × AllShared a b c fs

-- so is all that a help knows of the announcement
pub helping_shared : (a b : World) (c : ℕ) → b.ghost.row_held c ≡ a.ghost.row_held c → (h : Help) (p : HelpPoint) → AllShared a b c (helping.knows h p)
helping_shared a b c same h help.LoadOldHead = tt
helping_shared a b c same h help.LoadFirst = tt
helping_shared a b c same h help.LoadLast = tt
helping_shared a b c same h help.LoadCounts = tt
helping_shared a b c same h help.LoadTail = tt
helping_shared a b c same h (help.LoadOldTail p) = (same, (tt, (tt, tt)))
helping_shared a b c same h (help.LoadLink p) = (same, (tt, (tt, (tt, (tt, tt)))))
helping_shared a b c same h (help.LinkChain p) = (same, (tt, (tt, (tt, (tt, tt)))))
helping_shared a b c same h (help.Decide p) = (same, (tt, (tt, (tt, tt))))
helping_shared a b c same h (help.PassTail p n) = (tt, (tt, tt))
helping_shared a b c same h (help.RecordTail p) = (tt, tt)
helping_shared a b c same h (help.LoadTailOver q) = (tt, (tt, tt))
helping_shared a b c same h (help.MoveTailOver q) = (tt, (tt, tt))
helping_shared a b c same h (help.LoadWalk m r l) = (tt, (tt, (tt, tt)))
helping_shared a b c same h (help.MoveHead m r) = (tt, (tt, (tt, tt)))
