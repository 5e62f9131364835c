use Rattle.std.proofs.Common.{refl, sym, ◌∙◌}
use Rattle.job_lanes.proofs.Dealing.{same_at}
use Rattle.job_lanes.proofs.seating.end_last.Goals as goal

pub returns : goal.returns
returns g c = record {
  taken = (record { sessions = c.pop.new.self }, refl, λ d. record { last = c.in-Some.session; holds = sym c.in-Ok.ensures.pass; stands = same_at c.args.desks.now.items c.args.at d c.index_mut-desk.result.now (λ desk. desk.sessions.items) c.requires.within c.index_mut-desk.ensures.value ∙ c.in-Some.ensures.items });
}
