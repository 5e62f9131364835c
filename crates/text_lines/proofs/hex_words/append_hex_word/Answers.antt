use Rattle.std.proofs.Common.{◌≡◌, ℕ, List, Result, Ok, Err, OnErr, ◌++◌, sym, ap, ◌∙◌, append_assoc, append-nil, get_or, take}
use Rattle.hex.specs.Hex.{encode_lower, encode_with}
use Rattle.text_lines.specs.Printed.{printed_byte}
use Rattle.text_lines.proofs.HexLemmas.{encode_lower-more}
use Rattle.text_lines.proofs.hex_words.append_hex_word.Goals as goal

pub loop-byte-init : goal.loop-byte-init
unfolding encode_with
loop-byte-init c = sym (append-nil c.args.text.now)

pub loop-byte-preserved : goal.loop-byte-preserved
loop-byte-preserved c =
    let bytes = c.args.bytes.now in
    let i = c.loop-byte.byte-index in
    let so_far = encode_lower (take i bytes) in
    let here = printed_byte (get_or bytes i 0) in
    c.in_ok-append_byte_word.ensures.ok
    ∙ (ap (λ (text : List ℕ). text ++ here) c.loop-byte.invariant
    ∙ (append_assoc c.args.text.now so_far here
    ∙ ap (λ (digits : List ℕ). c.args.text.now ++ digits) (sym (encode_lower-more bytes i c.loop-byte-test.true))))

-- where an answer is an Err, what follows from what it says
on_err : {A E : Type 0} {P Q : Type 0} (r : Result A E) → (P → Q) → OnErr r P → OnErr r Q
on_err (Ok done) follows said = tt
on_err (Err refusal) follows said = follows said

pub returns-then-is_empty-clause-err : goal.returns-then-is_empty-clause-err
unfolding encode_with
returns-then-is_empty-clause-err c = on_err c.append_parts.result
    (λ (kept : c.append_parts.new.self ≡ c.args.text.now). (0, kept ∙ sym (append-nil c.args.text.now)))
    c.append_parts.ensures.err
