use Rattle.std.proofs.Common.{◌≡◌, ◌+◌, false, Some, sym, ◌∙◌, arith}
use Rattle.std.proofs.lemmas.Bool.{cond-false, false_from_ne_true}
use Rattle.std.proofs.lemmas.Map.Text.{btree_map_updates_str}
use Rattle.std.specs.BTreeMap.Entry.{map_with_value}
use Rattle.std.specs.Cmp.Lexicographic.{bytes_decides}
use Rattle.std.specs.Str.{bytes_eq}
use Rattle.job_work.specs.CountMap.{count_of}
use Rattle.job_work.proofs.words.count_word.Goals as goal

-- at another word the map has what it had
pub returns-clause-others : goal.returns-clause-others
returns-clause-others c = λ q other.
    let word = c.args.word.now in
    let n = c.or_insert.result.now + 1 in
    let apart : bytes_eq word q ≡ false = false_from_ne_true _ (λ t. other (sym ((bytes_decides word q).0 t))) in
    let after = map_with_value c.in_ok-counts.field-0 n in
    let kept : count_of after q ≡ count_of c.args.counts.now q =
    btree_map_updates_str word c.args.counts.now after (Some n) (c.in_ok-counts.ensures.update.0 n) q ∙ cond-false _ _ _ apart in
    grind (arith, kept)
