-- Lemmas on the bytes that a sink was given.
use Rattle.std.proofs.Common.{ℕ, ◌+◌, ◌-◌, List, Option, length, take, drop, sym, subst}
use Rattle.std.proofs.lemmas.List.{take_rest}
use Rattle.std.proofs.Math.Seq.{take-add}
use Rattle.std.specs.Io.KnownBytes.{Appends}
use Rattle.std.proofs.KnownBytes.{Appends-trans}

-- a front of the text was written, and then a front of what was still to come
pub Appends-take_more : (a b c : Option (List ℕ)) (sent n : ℕ) (text : List ℕ) → Appends a b (take sent text)
    → Appends b c (take n (take (length text - sent) (drop sent text))) → Appends a c (take (sent + n) text)
Appends-take_more a b c sent n text p q =
    let second : Appends b c (take n (drop sent text)) = rw (take_rest text sent) at q in
    subst (Appends a c) (sym (take-add sent n text)) (Appends-trans a b c _ _ p second)
