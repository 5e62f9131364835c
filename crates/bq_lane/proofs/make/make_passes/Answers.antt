use Rattle.std.proofs.Common.{rules, ap, ◌∙◌, [], ◌∷◌, ◌++◌}
use Rattle.bq_lane.specs.Pass.{new_pass, PassState}
use Rattle.bq_lane.proofs.NewPasses.{one_more}
use Rattle.bq_lane.proofs.make.make_passes.Goals as goal

pub loop-number-preserved : goal.loop-number-preserved
loop-number-preserved c = let i = c.loop-number.invariant in let e = c.next_caller-token.ensures in record {
  callers = i.callers;
  room = search rules;
  long = search rules;
  table = search rules;
  view = search rules;
  passes = one_more c.args.words.now.table_id c.args.shape.now c.loop-number.passes.items c.push_reserved.new.self.items c.loop-number.number i.passes
      (c.push_reserved.ensures.items ∙ ap (λ (p : PassState). c.loop-number.passes.items ++ p ∷ []) (c.in_ok-new.ensures ∙ ap (λ t. new_pass t c.args.shape.now c.loop-number.number) (e.caller.0 ∙ i.table)));
}
