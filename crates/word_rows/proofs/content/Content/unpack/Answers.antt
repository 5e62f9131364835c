use Rattle.std.proofs.Common.{Some, sym, subst, refl}
use Rattle.word_rows.specs.declared.location.Location.{Location}
use Rattle.word_rows.specs.declared.location.Location.TheVariants.{Tail}
use Rattle.word_rows.specs.declared.content.Content.{Content}
use Rattle.word_rows.specs.declared.content.Content.TheVariants.{OfTail}
use Rattle.word_rows.specs.ReadsBack.{ReadsBack}
use Rattle.word_rows.specs.Contents.{coded, CanCode}
use Rattle.word_rows.proofs.PackingLemmas.{ReadsBack-some}
use Rattle.word_rows.proofs.ContentLemmas.{coded-once}
use Rattle.word_rows.proofs.content.Content.unpack.Goals as goal

pub returns-in_ok-unpack-in-Tail : goal.returns-in_ok-unpack-in-Tail
returns-in_ok-unpack-in-Tail c =
    let found = (c.in_ok-unpack-in-Tail.ensures.its_place c.in_ok-unpack-in-Tail.field-0).0 refl in
    let read : Content = OfTail c.in_ok-unpack-in-Tail.field-0 in
    let P : Location → Type 0 = λ l. ReadsBack (CanCode l) coded c.args.word (Some read) in
    subst P (sym c.in-Tail.is) (ReadsBack-some (CanCode Tail) coded c.args.word read (coded-once Tail) (tt, found.0) found.1)
