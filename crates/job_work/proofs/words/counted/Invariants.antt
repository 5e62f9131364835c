use Rattle.std.proofs.Common.{◌≡◌, ℕ, List, is_some, unwrap_or, take}
use Rattle.std.specs.List.{list_any}
use Rattle.std.specs.Str.{bytes_eq}
use Rattle.job_work.specs.Words.{places_of}
use Rattle.job_work.specs.CountMap.{count_of, WordsRise}
use Rattle.job_work.proofs.words.counted.Given as goal

-- the keys are the words so far, and the values how often each stands among them
abbrev pub invariant-loop-word : goal.invariant-loop-word
invariant-loop-word l = record {
  known : (q : List ℕ) → is_some (count_of l.counts q) ≡ list_any (bytes_eq q) (take l.word-index l.words);
  counted : (q : List ℕ) → unwrap_or (count_of l.counts q) 0 ≡ places_of (take l.word-index l.words) q;
  rising : WordsRise l.counts;
}
