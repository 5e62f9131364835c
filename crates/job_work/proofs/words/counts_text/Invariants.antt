use Rattle.std.proofs.Common.{◌≡◌, map}
use Rattle.std.specs.List.{join_with_byte}
use Rattle.job_work.specs.Words.{entry_text}
use Rattle.job_work.proofs.words.counts_text.Given as goal

-- the entries so far, parted by one blank
abbrev pub invariant-loop-word : goal.invariant-loop-word
invariant-loop-word l =
    l.text.items ≡ join_with_byte 32 (map (λ e. entry_text (e.0.now.now, e.1.now)) l.yielded)
