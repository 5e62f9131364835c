use Rattle.std.proofs.Common.{rules, arith, ap, ◌≡◌, ◌∙◌, ℕ, length, map}
use Rattle.std.proofs.lemmas.Option.{slice_get-get_or}
use Rattle.bq_session.specs.Futures.{restand}
use Rattle.bq_session.proofs.Pending.{keeping_below, kept_none, kept_one_more, kept_all, live_while_kept}
use Rattle.bq_session.proofs.futures.keep_answers.Goals as goal

pub loop-place-init : goal.loop-place-init
loop-place-init c = record {
  kept = kept_none c.args.answers.now c.args.first c.args.live.now.slots;
  counted = search rules;
  capacity = search rules;
}

pub put_standing-requires : goal.put_standing-requires
put_standing-requires c =
    rw c.loop-place.invariant.kept
    (live_while_kept c.args.keys.now c.args.live.now.slots (keeping_below c.loop-place.place c.args.answers.now c.args.first) c.loop-place.place _
    c.requires.pending (slice_get-get_or c.args.keys.now c.loop-place.place 0 c.loop-place-test.true))

pub loop-place-preserved : goal.loop-place-preserved
loop-place-preserved c = record {
  kept = rw (c.put_standing.ensures.stands, c.loop-place.invariant.kept)
      (kept_one_more c.args.keys.now c.args.live.now.slots c.args.answers.now c.args.first c.loop-place.place _
      c.requires.pending (slice_get-get_or c.args.keys.now c.loop-place.place 0 c.loop-place-test.true));
  counted = search rules;
  capacity = search rules;
}

pub returns-clause-kept : goal.returns-clause-kept
returns-clause-kept c =
    let end : c.loop-place.place ≡ length c.args.keys.now = omega arith in
    c.loop-place.invariant.kept ∙ ap (λ (n : ℕ). map (restand (keeping_below n c.args.answers.now c.args.first)) c.args.live.now.slots) end
    ∙ kept_all c.args.keys.now c.args.live.now.slots c.args.answers.now c.args.first c.requires.pending
