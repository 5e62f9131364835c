use Rattle.text_lines.specs.Number.{number_of}
use Rattle.text_lines.specs.Each.{each_of}
use Rattle.text_lines.proofs.EachLemmas.{onto-nil, each_of-more, each_of-fails, each_of-done}
use Rattle.job_text.proofs.job_words.read_numbers.Goals as goal

pub loop-word-init : goal.loop-word-init
loop-word-init c =
    rw (c.in_ok-numbers.ensures, c.into_iter-word-iterator.ensures.into_iter_gives) (onto-nil (each_of number_of c.args.words))

pub returns-in_default : goal.returns-in_default
returns-in_default c =
    each_of-fails number_of _ _ c.next.new.self c.in-Some.word.now c.loop-word.numbers c.in-Some.ensures.steps c.in_default.ensures c.loop-word.invariant

pub loop-word-preserved : goal.loop-word-preserved
loop-word-preserved c =
    each_of-more number_of _ _ c.next.new.self c.in-Some.word.now c.loop-word.numbers c.push.new.self c.in-Some-number.number c.in-Some.ensures.steps c.in-Some-number.ensures c.in_ok-push.ensures.ok c.loop-word.invariant

pub returns : goal.returns
returns c = each_of-done number_of _ _ c.loop-word.numbers c.in-None.ensures.steps.0 c.loop-word.invariant
