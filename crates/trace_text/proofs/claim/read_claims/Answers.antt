use Rattle.std.proofs.Common.{rules, ◌≡◌, ◌∷◌, Some, sym, ◌∙◌}
use Rattle.text_lines.specs.Each.{each_of}
use Rattle.text_lines.proofs.EachLemmas.{each_of-more}
use Rattle.trace_text.specs.Claims.{claim_of}
use Rattle.trace_text.proofs.ShutWords.{still_none, bad_letter}
use Rattle.trace_text.proofs.claim.read_claims.Goals as goal

pub loop-word-preserved-in-Continue-1 : goal.loop-word-preserved-in-Continue-1
loop-word-preserved-in-Continue-1 c =
    let before = c.loop-word.invariant in
    let steps : c.loop-word.words ≡ c.in-Some.word.now ∷ c.next.new.self = search rules in
    let gives : Some c.in-Some-read_claim.claim ≡ claim_of c.in-Some.word.now = search rules in
    record {
      letters = search rules;
      right = λ e. each_of-more claim_of (each_of claim_of c.args.words) c.loop-word.words c.next.new.self c.in-Some.word.now c.loop-word.claims c.push.new.self c.in-Some-read_claim.claim steps gives
          c.in_ok-push-in-Some-read_claim.ensures.ok (before.right e);
      wrong = before.wrong;
      some = search rules;
      none = λ e. cc e;
      no_shut = λ _. still_none c.args.second c.loop-word.some c.in-Some.word.now c.next.new.self c.loop-word.words c.args.words steps before.none before.no_shut (sym c.is_shut.ensures ∙ c.if-is_shut.false);
    }

pub returns-then-not-has_letter : goal.returns-then-not-has_letter
returns-then-not-has_letter c =
    let before = c.loop-word.invariant in
    let steps : c.loop-word.words ≡ c.in-Some.word.now ∷ c.next.new.self = search rules in
    bad_letter c.args.second c.in-Some.word.now c.next.new.self c.loop-word.words c.args.words steps before.letters (sym c.has_letter.ensures ∙ c.if-not-has_letter.true)
    (still_none c.args.second c.loop-word.some c.in-Some.word.now c.next.new.self c.loop-word.words c.args.words steps before.none before.no_shut (sym c.is_shut.ensures ∙ c.if-is_shut.false))
