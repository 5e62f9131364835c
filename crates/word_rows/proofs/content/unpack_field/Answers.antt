use Rattle.std.proofs.Common.{Option, Some, None, sym, subst, refl}
use Rattle.word_rows.specs.declared.location.AnnField.{AnnField}
use Rattle.word_rows.specs.declared.location.AnnField.TheVariants.{Counts, BatchNo}
use Rattle.word_rows.specs.declared.content.Content.{Content}
use Rattle.word_rows.specs.declared.content.Content.TheVariants.{OfCounts, OfBatchNo}
use Rattle.word_rows.specs.ReadsBack.{ReadsBack}
use Rattle.word_rows.specs.Contents.{coded, CanCodeField}
use Rattle.word_rows.proofs.PackingLemmas.{ReadsBack-some}
use Rattle.word_rows.proofs.ContentLemmas.{coded-field_once, counts-none}
use Rattle.word_rows.proofs.content.unpack_field.Goals as goal

pub returns-in-BatchNo : goal.returns-in-BatchNo
returns-in-BatchNo c =
    let found = (c.unpack-in-BatchNo.ensures c.unpack-in-BatchNo.result).0 refl in
    let read : Content = OfBatchNo c.unpack-in-BatchNo.result in
    let P : AnnField → Type 0 = λ f. ReadsBack (CanCodeField f) coded c.args.word (Some read) in
    subst P (sym c.in-BatchNo.is) (ReadsBack-some (CanCodeField BatchNo) coded c.args.word read (coded-field_once BatchNo) (tt, found.0) found.1)

pub returns-in_ok-unpack_counts-in-Counts : goal.returns-in_ok-unpack_counts-in-Counts
returns-in_ok-unpack_counts-in-Counts c =
    let found = (c.in_ok-unpack_counts-in-Counts.ensures c.in_ok-unpack_counts-in-Counts.field-0).0 refl in
    let read : Content = OfCounts c.in_ok-unpack_counts-in-Counts.field-0 in
    let P : AnnField → Type 0 = λ f. ReadsBack (CanCodeField f) coded c.args.word (Some read) in
    subst P (sym c.in-Counts.is) (ReadsBack-some (CanCodeField Counts) coded c.args.word read (coded-field_once Counts) (tt, found.0) found.1)

pub returns-in_err-unpack_counts-in-Counts : goal.returns-in_err-unpack_counts-in-Counts
returns-in_err-unpack_counts-in-Counts c =
    let P : AnnField → Type 0 = λ f. ReadsBack (CanCodeField f) coded c.args.word None in
    let Q : Option Content → Type 0 = λ found. ReadsBack (CanCodeField c.args.field) coded c.args.word found in
    subst Q (sym c.from_residual-in_err-unpack_counts-in-Counts.ensures) (subst P (sym c.in-Counts.is) (counts-none c.args.word c.in_err-unpack_counts-in-Counts.ensures))
