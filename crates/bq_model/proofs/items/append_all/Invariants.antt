use Rattle.std.proofs.Common.{◌≡◌, ◌++◌, length, take}
use Rattle.std.specs.List.{flat_map}
use Rattle.bq_model.proofs.items.append_all.Given as goal

-- the parts so far stand behind what was there
abbrev pub invariant-loop-part : goal.invariant-loop-part
invariant-loop-part g l = record {
  start : l.start ≡ length l.fn.items.items;
  appended : l.items.items ≡ l.fn.items.items ++ flat_map (λ part. part.now) (take l.part-index l.parts);
}
