use Rattle.std.proofs.Common.{sym, ◌∙◌}
use Rattle.trace_text.proofs.PlayLemmas.{ran-stops_at_limit, ran-stops_at_kind, ran-more, stepped-shape}
use Rattle.trace_text.proofs.play.Play.run.Goals as goal

pub loop-to_go-preserved : goal.loop-to_go-preserved
loop-to_go-preserved c =
    let goes_on = sym c.stops.ensures ∙ c.if-not-stops.true in
    record {
      shape = stepped-shape c.loop-to_go.self c.step.new.self c.args.caller c.in_ok-step.ensures ∙ c.loop-to_go.invariant.shape;
      walked = sym (ran-more c.args.name.now c.loop-to_go.to_go c.args.caller c.loop-to_go.self c.loop-to_go-test.true goes_on c.step.new.self c.in_ok-step.ensures) ∙ c.loop-to_go.invariant.walked;
    }

pub returns-else-not-stops : goal.returns-else-not-stops
returns-else-not-stops c =
    sym c.loop-to_go.invariant.walked ∙ ran-stops_at_kind c.args.name.now c.loop-to_go.to_go c.args.caller c.loop-to_go.self (sym c.stops.ensures ∙ c.if-not-stops.false)

pub returns-after-loop-to_go : goal.returns-after-loop-to_go
returns-after-loop-to_go c = sym c.loop-to_go.invariant.walked ∙ ran-stops_at_limit c.args.name.now c.loop-to_go.to_go c.args.caller c.loop-to_go.self c.loop-to_go-test.false
