use Rattle.std.proofs.Common.{◌≡◌, ◌∙◌, drop, sym, ap, true, false}
use Rattle.std.proofs.lemmas.List.{take_rest}
use Rattle.round_text.specs.Stream.{is_go}
use Rattle.round_text.proofs.RoundLemmas.{first_has_feed, last_has_none, no_round}
use Rattle.round_text.proofs.find.first_round.Goals as goal

pub returns-in-Round : goal.returns-in-Round
returns-in-Round c = first_has_feed c.args.bytes.now c.in-Round.text c.in-Round.end c.in-Round.ensures.0 c.in-Round.ensures.1 c.in-Round.ensures.2

pub returns-in-Open : goal.returns-in-Open
returns-in-Open c =
    let bytes = c.args.bytes.now in
    let found = c.in-Open.ensures in
    let go : is_go (drop c.in-Open.line bytes) ≡ true = sym (ap is_go (take_rest bytes c.in-Open.line)) ∙ sym c.is_go.ensures ∙ c.if-is_go.true in
    last_has_none bytes c.in-Open.line found.0 found.1 found.2 go

pub returns-in-Open-2 : goal.returns-in-Open-2
returns-in-Open-2 c =
    let bytes = c.args.bytes.now in
    let found = c.in-Open.ensures in
    let other : is_go (drop c.in-Open.line bytes) ≡ false = sym (ap is_go (take_rest bytes c.in-Open.line)) ∙ sym c.is_go.ensures ∙ c.if-is_go.false in
    no_round bytes c.in-Open.line found.1 found.2 other
