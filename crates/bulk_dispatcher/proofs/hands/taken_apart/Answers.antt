use Rattle.std.proofs.Common.{refl, ◌∙◌, arith}
use Rattle.bulk_dispatcher.proofs.Apart.{desks_start, desks_more, desks_end, pieces_start, pieces_more, pieces_end}
use Rattle.bulk_dispatcher.proofs.hands.taken_apart.Goals as goal

pub loop-run-init : goal.loop-run-init
loop-run-init g c = record {
  desks = desks_start (λ run. run.desk) c.args.runs.items c.in_ok-desks.desks.items c.in_ok-desks.ensures.items;
  replies = pieces_start (λ run. run.replies.items) c.args.runs.items c.new-replies.result.items c.new-replies.ensures.items;
}

pub loop-run-preserved : goal.loop-run-preserved
loop-run-preserved g c = record {
  desks = desks_more (λ run. run.desk) c.loop-run.runs.items c.pop.new.self.items c.in-Some.run' c.loop-run.desks.items c.push.new.self.items c.in-Some.run'.desk c.in-Some.ensures.items refl c.in_ok-push.ensures.items ∙ c.loop-run.invariant.desks;
  replies = pieces_more (λ run. run.replies.items) c.loop-run.runs.items c.pop.new.self.items c.in-Some.run' c.loop-run.replies.items c.append.new.self.items c.in-Some.ensures.items c.in_ok-append.ensures.items ∙ c.loop-run.invariant.replies;
}

pub returns-clause-desks : goal.returns-clause-desks
returns-clause-desks g c = c.reverse.ensures.items ∙ desks_end (λ run. run.desk) c.loop-run.runs.items c.loop-run.desks.items (omega (arith, c.in_default.ensures.cases, c.loop-run.runs.ok)) ∙ c.loop-run.invariant.desks

pub returns-clause-replies : goal.returns-clause-replies
returns-clause-replies g c = pieces_end (λ run. run.replies.items) c.loop-run.runs.items c.loop-run.replies.items (omega (arith, c.in_default.ensures.cases, c.loop-run.runs.ok)) ∙ c.loop-run.invariant.replies
