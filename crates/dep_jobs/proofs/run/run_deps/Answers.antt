use Rattle.std.proofs.Common.{◌≡◌, ℕ, ◌+◌, ◌≤◌, List, length, map, sym, ap, subst, ◌∙◌, arith}
use Rattle.std.specs.List.{AllZip, range_with_len}
use Rattle.bulk_dispatcher.specs.declared.reply.Reply.{Reply}
use Rattle.bulk_dispatcher.specs.Ran.{JobsRan}
use Rattle.dep_text.specs.declared.job.DepJob.{DepJob}
use Rattle.dep_text.specs.Levels.{levels_of, depth_of}
use Rattle.dep_text.proofs.LevelLemmas.{length-levels_of}
use Rattle.dep_jobs.specs.Answers.{answers_of}
use Rattle.dep_jobs.specs.LevelFile.{units_for, level_of}
use Rattle.dep_jobs.specs.Texts.{put_all}
use Rattle.dep_jobs.proofs.Reached.{reached-all}
use Rattle.dep_jobs.proofs.Rounds.{few, in_texts, in_jobs, level_ran, one_each, reached_next, all_levels, on_level-is, length-by_level, rounds-more, rounds-all}
use Rattle.dep_jobs.proofs.run.run_deps.Goals as goal

pub numbers_by_level-requires-clause-few : goal.numbers_by_level-requires-clause-few
numbers_by_level-requires-clause-few g c =
    let levels = ap (λ (ls : List ℕ). length ls) c.levels.ensures in
    let count = length-levels_of c.args.file.now in
    let same = ap (λ (js : List DepJob). length js) c.jobs-jobs.ensures.jobs in
    let most = c.jobs-jobs.ensures.ranges.few in
    omega arith

pub level_file-requires-clause-few : goal.level_file-requires-clause-few
level_file-requires-clause-few g c =
    let jobs = c.jobs-jobs.result.now in
    let texts = c.loop-on_level.texts.items in
    let numbers = c.as_slice-on_level.result.now in
    let i = c.loop-on_level.on_level-index in
    let file = c.jobs-jobs.ensures.ranges in
    let reached = c.loop-on_level.invariant.reached in
    let all = c.deref-on_level-items.result.now in
    let all_are = all_levels jobs c.args.file.now c.levels.result.now c.in_ok-numbers.numbers.items all c.jobs-jobs.ensures.jobs c.levels.ensures c.in_ok-numbers.ensures c.deref-on_level-items.ensures.value in
    let numbers_are = c.as_slice-on_level.ensures ∙ on_level-is jobs all i c.on_level-item.result all_are c.loop-on_level-test.true c.on_level-item.is in
    few jobs i texts numbers file reached numbers_are

pub level_file-requires-clause-within : goal.level_file-requires-clause-within
level_file-requires-clause-within g c =
    let jobs = c.jobs-jobs.result.now in
    let texts = c.loop-on_level.texts.items in
    let numbers = c.as_slice-on_level.result.now in
    let i = c.loop-on_level.on_level-index in
    let file = c.jobs-jobs.ensures.ranges in
    let reached = c.loop-on_level.invariant.reached in
    let all = c.deref-on_level-items.result.now in
    let all_are = all_levels jobs c.args.file.now c.levels.result.now c.in_ok-numbers.numbers.items all c.jobs-jobs.ensures.jobs c.levels.ensures c.in_ok-numbers.ensures c.deref-on_level-items.ensures.value in
    let numbers_are = c.as_slice-on_level.ensures ∙ on_level-is jobs all i c.on_level-item.result all_are c.loop-on_level-test.true c.on_level-item.is in
    in_jobs jobs i texts numbers file reached numbers_are

pub put_texts-requires-clause-within : goal.put_texts-requires-clause-within
put_texts-requires-clause-within g c =
    let jobs = c.jobs-jobs.result.now in
    let texts = c.loop-on_level.texts.items in
    let numbers = c.as_slice-on_level.result.now in
    let i = c.loop-on_level.on_level-index in
    let file = c.jobs-jobs.ensures.ranges in
    let reached = c.loop-on_level.invariant.reached in
    let all = c.deref-on_level-items.result.now in
    let all_are = all_levels jobs c.args.file.now c.levels.result.now c.in_ok-numbers.numbers.items all c.jobs-jobs.ensures.jobs c.levels.ensures c.in_ok-numbers.ensures c.deref-on_level-items.ensures.value in
    let numbers_are = c.as_slice-on_level.ensures ∙ on_level-is jobs all i c.on_level-item.result all_are c.loop-on_level-test.true c.on_level-item.is in
    in_texts jobs i texts numbers file reached numbers_are

pub put_texts-requires-clause-one_each : goal.put_texts-requires-clause-one_each
put_texts-requires-clause-one_each g c =
    let jobs = c.jobs-jobs.result.now in
    let texts = c.loop-on_level.texts.items in
    let numbers = c.as_slice-on_level.result.now in
    let i = c.loop-on_level.on_level-index in
    let file = c.jobs-jobs.ensures.ranges in
    let reached = c.loop-on_level.invariant.reached in
    let all = c.deref-on_level-items.result.now in
    let all_are = all_levels jobs c.args.file.now c.levels.result.now c.in_ok-numbers.numbers.items all c.jobs-jobs.ensures.jobs c.levels.ensures c.in_ok-numbers.ensures c.deref-on_level-items.ensures.value in
    let numbers_are = c.as_slice-on_level.ensures ∙ on_level-is jobs all i c.on_level-item.result all_are c.loop-on_level-test.true c.on_level-item.is in
    let units_are = c.in_ok-level.ensures ∙ ap (λ (some : List (List ℕ)). units_for some jobs numbers) c.deref.ensures.value in
    let ran = c.in_ok-round.ensures.ran in
    ap (λ (replies : List Reply). length replies) c.as_slice.ensures
    ∙ one_each jobs i texts numbers file reached numbers_are c.args.hands c.args.batch c.in_ok-level.level _ c.in_ok-round.round.replies units_are ran

pub loop-on_level-preserved : goal.loop-on_level-preserved
loop-on_level-preserved g c =
    let jobs = c.jobs-jobs.result.now in
    let texts = c.loop-on_level.texts.items in
    let numbers = c.as_slice-on_level.result.now in
    let i = c.loop-on_level.on_level-index in
    let file = c.jobs-jobs.ensures.ranges in
    let reached = c.loop-on_level.invariant.reached in
    let all = c.deref-on_level-items.result.now in
    let all_are = all_levels jobs c.args.file.now c.levels.result.now c.in_ok-numbers.numbers.items all c.jobs-jobs.ensures.jobs c.levels.ensures c.in_ok-numbers.ensures c.deref-on_level-items.ensures.value in
    let numbers_are = c.as_slice-on_level.ensures ∙ on_level-is jobs all i c.on_level-item.result all_are c.loop-on_level-test.true c.on_level-item.is in
    let units_are = c.in_ok-level.ensures ∙ ap (λ (some : List (List ℕ)). units_for some jobs numbers) c.deref.ensures.value in
    let ran = c.in_ok-round.ensures.ran in
    let put = c.in_ok-put_texts.ensures.put ∙ ap (λ (replies : List Reply). put_all texts numbers (map (λ (reply : Reply). reply.text) replies)) c.as_slice.ensures in
    record {
      reached =
          reached_next jobs i texts numbers file reached numbers_are c.args.hands c.args.batch c.in_ok-level.level _ c.in_ok-round.round.replies units_are ran
          c.put_texts.new.texts.items put c.in_ok-put_texts.ensures.still_bytes;
      rounds =
          rounds-more _ i c.loop-on_level.rounds.items c.push.new.self.items c.in_ok-round.round c.in_ok-push.ensures.items c.loop-on_level.invariant.rounds
          (level_ran jobs i texts numbers file reached numbers_are c.args.hands c.args.batch c.in_ok-level.level _ c.in_ok-round.round.replies units_are ran);
    }

pub returns-clause-texts : goal.returns-clause-texts
returns-clause-texts g c =
    let jobs = c.jobs-jobs.result.now in
    let all = c.deref-on_level-items.result.now in
    let i = c.loop-on_level.on_level-index in
    let all_are = all_levels jobs c.args.file.now c.levels.result.now c.in_ok-numbers.numbers.items all c.jobs-jobs.ensures.jobs c.levels.ensures c.in_ok-numbers.ensures c.deref-on_level-items.ensures.value in
    let count = length-by_level jobs all all_are in
    let end : length all ≤ i = c.loop-on_level-test.false in
    let whole : depth_of (levels_of jobs) ≤ i = omega arith in
    reached-all jobs i c.loop-on_level.texts.items c.loop-on_level.invariant.reached whole ∙ ap answers_of c.jobs-jobs.ensures.jobs

pub returns-clause-rounds : goal.returns-clause-rounds
returns-clause-rounds g c =
    let jobs = c.jobs-jobs.result.now in
    let all = c.deref-on_level-items.result.now in
    let i = c.loop-on_level.on_level-index in
    let all_are = all_levels jobs c.args.file.now c.levels.result.now c.in_ok-numbers.numbers.items all c.jobs-jobs.ensures.jobs c.levels.ensures c.in_ok-numbers.ensures c.deref-on_level-items.ensures.value in
    let count = length-by_level jobs all all_are in
    let end : length all ≤ i = c.loop-on_level-test.false in
    let within : i ≤ length all = c.loop-on_level.auto.on_level-index-end in
    let whole : i ≡ depth_of (levels_of jobs) = omega arith in
    rounds-all (λ js level round. JobsRan (level_of js level) c.args.hands c.args.batch (map g.L.Lane.history round.books) round.replies) jobs c.args.file.now i c.loop-on_level.rounds.items
    c.jobs-jobs.ensures.jobs whole c.loop-on_level.invariant.rounds
