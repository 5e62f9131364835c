use Rattle.std.proofs.Common.{◌≡◌, ◌+◌, ◌<◌, ◌++◌, [], ◌∷◌, take, length, take_all, sym, ◌∙◌, ap, arith}
use Rattle.std.proofs.lemmas.List.{take_more}
use Rattle.job_work.specs.CountMap.{count_of}
use Rattle.job_work.proofs.WordCounts.{entries_are_counts, known_more, counted_more}
use Rattle.job_work.proofs.words.counted.Goals as goal

pub loop-word-preserved : goal.loop-word-preserved
loop-word-preserved c =
    let words = c.args.words.now in
    let i = c.loop-word.word-index in
    let word = c.as_slice.result.now in
    let so_far = take i words in
    let within : i < length words = omega arith in
    let more : take (i + 1) words ≡ so_far ++ word ∷ [] =
    take_more words i c.word-item.result within ∙ ap (λ w. so_far ++ w ∷ []) (sym c.word-item.is ∙ sym c.as_slice.ensures) in
    let old = count_of c.loop-word.counts in
    let new = count_of c.count_word.new.counts in
    let step = c.in_ok-count_word.ensures in
    record {
      known = rw more (known_more old new so_far word step.counted step.others c.loop-word.invariant.known);
      counted = rw more (counted_more old new so_far word step.counted step.others c.loop-word.invariant.counted);
      rising = step.rising;
    }

-- at the end the words so far are all of them
pub returns : goal.returns
returns c =
    let words = c.args.words.now in
    let whole : take c.loop-word.word-index words ≡ words = take_all _ _ (omega arith) in
    entries_are_counts words c.loop-word.counts.entries c.loop-word.invariant.rising
    (rw whole at c.loop-word.invariant.known)
    (rw whole at c.loop-word.invariant.counted)
