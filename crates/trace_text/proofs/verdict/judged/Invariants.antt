use Rattle.std.proofs.Common.{◌≡◌, [], take, drop}
use Rattle.trace_text.specs.HistoryText.{operation_count}
use Rattle.trace_text.specs.Verdicts.{first_wrong}
use Rattle.trace_text.proofs.JudgingLemmas.{IsJudged}
use Rattle.trace_text.proofs.verdict.judged.Given as goal

-- the entries so far are right, and the first wrong one is among those that are left
abbrev pub invariant-loop-entry : goal.invariant-loop-entry
invariant-loop-entry l = record {
  so_far : IsJudged l.callers (take l.entry-index l.entries) l.judge;
  first : first_wrong l.callers [] l.entries ≡ first_wrong l.callers (take l.entry-index l.entries) (drop l.entry-index l.entries);
  operations : l.operations ≡ operation_count (take l.entry-index l.entries);
}
