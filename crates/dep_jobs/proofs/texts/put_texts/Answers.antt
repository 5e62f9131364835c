use Rattle.std.proofs.Common.{◌≡◌, ℕ, ◌+◌, ◌<◌, List, [], length, get_or, set, drop, map, sym, subst, ◌∙◌, arith}
use Rattle.std.proofs.lemmas.List.{length-set, length-map}
use Rattle.std.proofs.lemmas.List.Elements.{All-set}
use Rattle.job_text.specs.JobFile.{AreBytes}
use Rattle.bulk_dispatcher.specs.declared.reply.Reply.{Reply}
use Rattle.bulk_dispatcher.proofs.Places.{at_map}
use Rattle.dep_jobs.specs.Texts.{put_all}
use Rattle.dep_jobs.proofs.Puts.{put_all-more}
use Rattle.dep_jobs.proofs.texts.put_texts.Goals as goal

pub loop-place-preserved : goal.loop-place-preserved
loop-place-preserved c =
    let texts = c.loop-place.texts.items in
    let numbers = c.args.numbers.now in
    let replies = c.args.replies.now in
    let new = map (λ (reply : Reply). reply.text) replies in
    let i = c.loop-place.place in
    let k = get_or numbers i 0 in
    let kept = c.loop-place.invariant in
    let in_numbers : i < length numbers = c.loop-place-test.true in
    let each = c.requires.one_each in
    let in_replies : i < length replies = omega arith in
    let as_many = length-map replies (λ (reply : Reply). reply.text) in
    let in_new : i < length new = omega arith in
    let text_is : c.in_ok-text.text ≡ get_or new i [] =
    c.in_ok-text.ensures.same ∙ (c.as_slice.ensures ∙ (c.text.ensures ∙ sym (at_map (λ (reply : Reply). reply.text) replies i [] c.index-replies-place.result in_replies c.index-replies-place.is))) in
    let all = put_all c.args.texts.now.items numbers new in
    record {
      put = subst (λ (text : List ℕ). put_all (set texts k text) (drop (i + 1) numbers) (drop (i + 1) new) ≡ all) (sym text_is) (put_all-more texts numbers new i all in_numbers in_new kept.put);
      long = length-set texts k c.in_ok-text.text ∙ kept.long;
      bytes = All-set AreBytes texts k c.in_ok-text.text c.in_ok-text.ensures.bytes kept.bytes;
    }
