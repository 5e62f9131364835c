use Rattle.std.proofs.Common.{List, None, ap, ◌∙◌}
use Rattle.dep_text.specs.declared.job.Arg.{Arg}
use Rattle.dep_text.specs.DepWords.{arg_of, all_of}
use Rattle.dep_text.specs.SoFar.{said, behind}
use Rattle.dep_text.proofs.SoFarLemmas.{behind-none, behind-step, behind-done}
use Rattle.dep_text.proofs.dep_words.read_args.Goals as goal

pub loop-word-init : goal.loop-word-init
loop-word-init c =
    let words_say = all_of (arg_of c.args.jobs.now) in
    ap (λ (args : List Arg). behind (said args None) (words_say c.into_iter-word-iterator.result)) c.new-args.ensures
    ∙ (behind-none (words_say c.into_iter-word-iterator.result) ∙ ap words_say c.into_iter-word-iterator.ensures.into_iter_gives)

pub loop-word-preserved : goal.loop-word-preserved
loop-word-preserved c =
    let arg_is = c.read_arg.ensures in
    let next_is = rw arg_is at c.in_ok-refused.ensures in
    behind-step (arg_of c.args.jobs.now) _ c.next.new.self c.in-Some.word.now (said c.loop-word.args c.loop-word.refused) _ _ c.in-Some.ensures.steps next_is c.loop-word.invariant

pub returns-in-Some-refused : goal.returns-in-Some-refused
returns-in-Some-refused c =
    behind-done (arg_of c.args.jobs.now) _ c.loop-word.args c.loop-word.refused _ c.in-None.ensures.steps.0 c.loop-word.invariant ∙ ap (said c.loop-word.args) c.in-Some-refused.is

pub returns-in-None-refused : goal.returns-in-None-refused
returns-in-None-refused c =
    behind-done (arg_of c.args.jobs.now) _ c.loop-word.args c.loop-word.refused _ c.in-None.ensures.steps.0 c.loop-word.invariant ∙ ap (said c.loop-word.args) c.in-None-refused.is
