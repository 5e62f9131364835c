use Rattle.std.proofs.Common.{◌≡◌, ℕ, ◌+◌, ◌-◌, List, take, drop, sym, subst, ◌∙◌, arith, ap}
use Rattle.std.proofs.lemmas.List.Elements.{All-nil}
use Rattle.round_text.specs.Cutting.{IsLine, IsOpen, IsRound}
use Rattle.round_text.proofs.CutLemmas.{open_more, round_at_go}
use Rattle.round_text.proofs.FindLemmas.{feed_within, line_is, through_feed, line_to_end}
use Rattle.round_text.specs.Stream.{Cut}
use Rattle.round_text.proofs.RoundLemmas.{cut_at_line}
use Rattle.round_text.proofs.find.first_go.Goals as goal

pub returns-then-is_go : goal.returns-then-is_go
returns-then-is_go c =
    let bytes = c.args.bytes.now in
    let line = c.loop-feed.line in
    let seen = c.loop-feed.seen in
    let feed = c.in-Some.feed in
    let at = c.loop-feed.invariant in
    let text = take line bytes in
    let go_line = take (seen + feed - line) (drop line bytes) in
    let is = line_is bytes line seen at.order at.within at.no_feed feed c.in-Some.ensures in (
      omega arith,
      feed_within bytes line seen at.order at.within at.no_feed feed c.in-Some.ensures,
      subst (λ (whole : List ℕ). IsRound whole text) (sym (through_feed bytes line seen at.order at.within at.no_feed feed c.in-Some.ensures))
          (round_at_go text go_line at.lines is (sym c.is_go.ensures ∙ c.if-is_go.true)),
    )

pub loop-feed-preserved : goal.loop-feed-preserved
loop-feed-preserved c =
    let bytes = c.args.bytes.now in
    let line = c.loop-feed.line in
    let seen = c.loop-feed.seen in
    let feed = c.in-Some.feed in
    let at = c.loop-feed.invariant in
    let text = take line bytes in
    let other_line = take (seen + feed - line) (drop line bytes) in
    let is = line_is bytes line seen at.order at.within at.no_feed feed c.in-Some.ensures in
    let none : seen + feed + 1 - (seen + feed + 1) ≡ 0 = omega arith in
    record {
      order = omega arith;
      within = feed_within bytes line seen at.order at.within at.no_feed feed c.in-Some.ensures;
      lines = subst IsOpen (sym (through_feed bytes line seen at.order at.within at.no_feed feed c.in-Some.ensures))
          (open_more text other_line at.lines is (sym c.is_go.ensures ∙ c.if-is_go.false));
      no_feed = subst (λ (n : ℕ). IsLine (take n (drop (seen + feed + 1) bytes))) (sym none) (All-nil _);
    }

pub returns : goal.returns
returns c =
    let bytes = c.args.bytes.now in
    let line = c.loop-feed.line in
    let at = c.loop-feed.invariant in
    let is = line_to_end bytes line c.loop-feed.seen at.order at.within at.no_feed c.in_default.ensures in
    (omega arith, at.lines, is, ap (λ (c : Cut). c.texts) (cut_at_line bytes line at.lines is))
