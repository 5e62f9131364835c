use Rattle.std.proofs.Common.{◌≡◌, ◌≢◌, ◌<◌, ◌≤◌, ◌+◌, ◌%◌, ℕ, List, [], ◌∷◌, ◌++◌, length, map, take, get_or, Contains, sym, ap, subst, ◌∙◌, arith, add-one}
use Rattle.std.proofs.Math.Seq.{take-suc}
use Rattle.std.proofs.lemmas.List.{length-take-le}
use Rattle.std.specs.List.{AllZip}
use Rattle.job_text.specs.declared.file.Unit.{Unit as JobUnit}
use Rattle.job_text.proofs.JobFileLemmas.{job_count-more, job_count-take-le}
use Rattle.bq_model.specs.declared.group.Group.{Group}
use Rattle.bulk_dispatcher.specs.declared.reply.Reply.{Reply}
use Rattle.bulk_dispatcher.specs.declared.work.Work.{Work}
use Rattle.bulk_dispatcher.specs.Hands.{units_of, Answered, PutsUnit, OnOneLane}
use Rattle.bulk_dispatcher.specs.Stops.{HandTried, MetSpent, AtWork}
use Rattle.bulk_dispatcher.proofs.Units.{units_at_most}
use Rattle.bulk_dispatcher.proofs.Progress.{own_put, other_put, answered_next, stopped_at, put_of_tried, few_of_tried}
use Rattle.bulk_dispatcher.proofs.hand.put_next.Goals as goal

next_unit : (units : List JobUnit) (place : ℕ) (unit : JobUnit) → place < length units → unit ≡ get_or units place unit → take (place + 1) units ≡ take place units ++ unit ∷ []
next_unit units place unit l e = rw add-one (take-suc units place unit l) ∙ ap (λ u. take place units ++ u ∷ []) (sym e)

so_many : (units : List JobUnit) (place : ℕ) → place < length units → length (take place units) ≡ place
so_many units place l = length-take-le place units (omega (arith, l))

pub put_on_lane-requires-clause-known : goal.put_on_lane-requires-clause-known
put_on_lane-requires-clause-known g c κs within =
    let unit = c.index-units-place.result in
    let at : unit ≡ get_or c.args.jobs.now c.args.place unit = c.index-units-place.is ∙ ap (λ (us : List JobUnit). get_or us c.args.place unit) c.units.ensures in
    subst (λ u. Contains c.args.numbers.now u.lane) (sym at) (c.requires.known c.args.place unit c.requires.place)

pub put_on_lane-requires-clause-file : goal.put_on_lane-requires-clause-file
put_on_lane-requires-clause-file g c κs within =
    let unit = c.index-units-place.result in
    let at : unit ≡ get_or c.args.jobs.now c.args.place unit = c.index-units-place.is ∙ ap (λ (us : List JobUnit). get_or us c.args.place unit) c.units.ensures in
    let more = job_count-more c.args.jobs.now c.args.place unit c.requires.place at in
    let all = job_count-take-le c.args.jobs.now (c.args.place + 1) in
    omega (arith, more, all, c.requires.first, c.len-count.ensures)

abbrev Put : (file : List JobUnit) (first count lane c : ℕ) (before after : List Reply) (numbers : List ℕ) (seen news : List (List Group)) → Work → Type 0
Put file first count lane c before after numbers seen news work = OnOneLane (λ old new. AtWork work (PutsUnit first count c old new) (MetSpent c old new) × Answered file lane c old new before after) numbers lane seen news

pub returns-in-Done-clause-put : goal.returns-in-Done-clause-put
returns-in-Done-clause-put g c =
    let jobs = c.args.jobs.now in
    let unit = c.index-units-place.result in
    let at : unit ≡ get_or jobs c.args.place unit = c.index-units-place.is ∙ ap (λ (us : List JobUnit). get_or us c.args.place unit) c.units.ensures in
    let before = take c.args.place jobs in
    let hand = c.args.part.hand in
    let own : length before % c.args.part.hands ≡ hand = ap (λ k. k % c.args.part.hands) (so_many jobs c.args.place c.requires.place) ∙ cc (c.from.ensures, c.from-2.ensures, c.if-place-from.true) in
    let seen = map (λ s. g.L.Lane.seen s.pass) c.args.desk.now.sessions.items in
    let news = map (λ s. g.L.Lane.seen s.pass) c.put_on_lane.new.desk.sessions.items in
    let done = subst (Put jobs c.args.first c.len-count.result unit.lane hand c.args.replies.now.items c.put_on_lane.new.replies.items c.args.numbers.now seen news) c.in-Done.is c.in_ok-work.ensures.put in
    let next = job_count-more jobs c.args.place unit c.requires.place at in (
      omega (arith, next, c.requires.first, c.len-count.ensures),
      subst (λ us. AllZip (λ n x. HandTried (units_of us c.args.part.hands n hand) hand x) c.args.numbers.now (map (λ s. g.L.Lane.seen s.pass) c.put_on_lane.new.desk.sessions.items)) (sym (next_unit jobs c.args.place unit c.requires.place at))
          (own_put before unit c.args.part.hands hand c.args.first c.len-count.result c.args.numbers.now _ _ (λ old new. Answered jobs unit.lane hand old new c.args.replies.now.items c.put_on_lane.new.replies.items) c.requires.rise own c.requires.first c.len-count.ensures done c.requires.put),
    )

pub returns-in-Spent-clause-put : goal.returns-in-Spent-clause-put
returns-in-Spent-clause-put g c =
    let jobs = c.args.jobs.now in
    let unit = c.index-units-place.result in
    let hand = c.args.part.hand in
    let numbers = c.args.numbers.now in
    let seen = map (λ s. g.L.Lane.seen s.pass) c.args.desk.now.sessions.items in
    let news = map (λ s. g.L.Lane.seen s.pass) c.put_on_lane.new.desk.sessions.items in
    let units = λ (n : ℕ). units_of (take c.args.place jobs) c.args.part.hands n hand in
    let met = subst (Put jobs c.args.first c.len-count.result unit.lane hand c.args.replies.now.items c.put_on_lane.new.replies.items numbers seen news) c.in-Spent.is c.in_ok-work.ensures.put in
    let short = length-take-le c.args.place jobs (let l = c.requires.place in omega (arith, l)) in
    let most : (n : ℕ) → length (units n) ≤ length jobs = λ n. let few = units_at_most (take c.args.place jobs) c.args.part.hands n hand in let l = c.requires.place in omega (arith, few, short, l) in
    stopped_at jobs numbers unit.lane c.args.part.hands hand c.args.place seen news _ met (put_of_tried numbers seen hand units c.requires.put) (few_of_tried numbers seen hand (length jobs) units most c.requires.put met.place)

pub returns-in-Done-clause-replied : goal.returns-in-Done-clause-replied
returns-in-Done-clause-replied g c =
    answered_next c.args.jobs.now c.args.numbers.now c.index-units-place.result.lane c.args.part.hand _ _ c.args.replies.now.items c.put_on_lane.new.replies.items _ c.requires.rise c.in_ok-work.ensures.put c.requires.replied

pub returns-in-Spent-clause-replied : goal.returns-in-Spent-clause-replied
returns-in-Spent-clause-replied g c =
    answered_next c.args.jobs.now c.args.numbers.now c.index-units-place.result.lane c.args.part.hand _ _ c.args.replies.now.items c.put_on_lane.new.replies.items _ c.requires.rise c.in_ok-work.ensures.put c.requires.replied

pub returns-else-place-from-clause-put : goal.returns-else-place-from-clause-put
returns-else-place-from-clause-put g c =
    let jobs = c.args.jobs.now in
    let unit = c.index-units-place.result in
    let at : unit ≡ get_or jobs c.args.place unit = c.index-units-place.is ∙ ap (λ (us : List JobUnit). get_or us c.args.place unit) c.units.ensures in
    let before = take c.args.place jobs in
    let hand = c.args.part.hand in
    let other : length before % c.args.part.hands ≢ hand = λ e. c.if-place-from.false (sym (ap (λ k. k % c.from.result) (so_many jobs c.args.place c.requires.place)) ∙ ap (λ k. length before % k) c.from.ensures ∙ e ∙ sym c.from-2.ensures) in
    let next = job_count-more jobs c.args.place unit c.requires.place at in (
      omega (arith, next, c.requires.first, c.len-count.ensures),
      subst (λ us. AllZip (λ n x. HandTried (units_of us c.args.part.hands n hand) hand x) c.args.numbers.now (map (λ s. g.L.Lane.seen s.pass) c.args.desk.now.sessions.items)) (sym (next_unit jobs c.args.place unit c.requires.place at))
          (other_put before unit c.args.part.hands hand c.args.numbers.now _ other c.requires.put),
    )
