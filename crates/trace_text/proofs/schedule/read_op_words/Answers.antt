use Rattle.std.proofs.Common.{rules, ◌≡◌, ◌≢◌, ◌∷◌, Some, sym, subst}
use Rattle.bq_model.specs.declared.op.Op.TheVariants.{Shut}
use Rattle.bq_model.specs.NoShut.{NoShut}
use Rattle.bq_model.proofs.NoShuts.{NoShut-push}
use Rattle.text_lines.specs.Each.{each_of}
use Rattle.text_lines.proofs.EachLemmas.{each_of-more}
use Rattle.trace_text.specs.ScheduleText.{op_of}
use Rattle.trace_text.proofs.schedule.read_op_words.Goals as goal

pub loop-word-preserved-in-Continue-1 : goal.loop-word-preserved-in-Continue-1
loop-word-preserved-in-Continue-1 c =
    let before = c.loop-word.invariant in
    let steps : c.loop-word.word-iterator ≡ c.in-Some.word.now ∷ c.next.new.self = search rules in
    let gives : Some c.in-Some-read_op.op ≡ op_of c.in-Some.word.now = search rules in
    let other : c.in-Some-read_op.op ≢ Shut = search rules in
    record {
      letters = search rules;
      right = λ e. each_of-more op_of (each_of op_of c.args.words) c.loop-word.word-iterator c.next.new.self c.in-Some.word.now c.loop-word.ops c.push.new.self c.in-Some-read_op.op steps gives
          c.in_ok-push-in-Some-read_op.ensures.ok (before.right e);
      wrong = before.wrong;
      no_shut = subst NoShut (sym c.in_ok-push-in-Some-read_op.ensures.ok) (NoShut-push c.loop-word.ops c.in-Some-read_op.op before.no_shut other);
    }
