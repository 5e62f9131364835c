use Rattle.std.proofs.Common.{◌≡◌, ◌++◌, length, map, reverse}
use Rattle.std.specs.List.{flat_map}
use Rattle.bulk_dispatcher.proofs.hands.taken_apart.Given as goal

-- what is left and what was taken are the whole
abbrev pub invariant-loop-run : goal.invariant-loop-run
invariant-loop-run g l = record {
  desks : map (λ run. run.desk) l.runs.items ++ reverse l.desks.items ≡ map (λ run. run.desk) l.fn.runs.items;
  replies : flat_map (λ run. run.replies.items) l.runs.items ++ l.replies.items ≡ flat_map (λ run. run.replies.items) l.fn.runs.items;
}

abbrev pub decreases-loop-run : goal.decreases-loop-run
decreases-loop-run g l = length l.runs.items
