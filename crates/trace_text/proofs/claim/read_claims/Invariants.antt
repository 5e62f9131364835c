use Rattle.std.proofs.Common.{◌≡◌, ◌<◌, true, false, None, length}
use Rattle.std.specs.List.{list_all}
use Rattle.trace_text.specs.Claims.{has_letter, claim_of}
use Rattle.text_lines.specs.Each.{each_of}
use Rattle.text_lines.proofs.EachLemmas.{onto}
use Rattle.trace_text.proofs.ShutWords.{begins_shut}
use Rattle.trace_text.proofs.claim.read_claims.Given as goal

-- the claims so far and those of the words that are left are those of all words, where all numbers so far are right
abbrev pub invariant-loop-word : goal.invariant-loop-word
invariant-loop-word l = record {
  letters : list_all (has_letter l.second) l.words ≡ list_all (has_letter l.second) l.fn.words;
  right : l.right ≡ true → onto l.claims (each_of claim_of l.words) ≡ each_of claim_of l.fn.words;
  wrong : l.right ≡ false → None ≡ each_of claim_of l.fn.words;
  some : l.some ≡ true → 0 < length l.fn.words;
  none : l.some ≡ false → l.words ≡ l.fn.words;
  no_shut : l.some ≡ true → l.second ≡ true → begins_shut l.fn.words ≡ false;
}
