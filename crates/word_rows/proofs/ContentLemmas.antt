-- What a word holds is coded in one way.
use Rattle.std.specs.Prelude.{◌==◌, IsTrue, if◌then◌else◌}
use Rattle.std.proofs.lemmas.Bool.{eqb-true, eq-eqb, ne_eqb}
use Rattle.std.proofs.Common.{◌≡◌, ◌≢◌, ◌↔◌, ℕ, ◌<◌, ◌≤◌, ◌^◌, Bool, true, false, Some, None, ap, arith}
use Rattle.bq_model.specs.declared.shape.Shape.{Shape}
use Rattle.word_rows.specs.declared.place.Place.{Place}
use Rattle.word_rows.specs.declared.head_word.HeadWord.TheVariants.{Node, Ann}
use Rattle.word_rows.specs.declared.link_word.LinkWord.TheVariants.{Nil, Single, Chain, Shut}
use Rattle.word_rows.specs.declared.location.AnnField.{AnnField}
use Rattle.word_rows.specs.declared.location.AnnField.TheVariants.{OldHead, OldTail, First, Last, Counts, BatchNo, Order0, Order1, Order2, Order3}
use Rattle.word_rows.specs.declared.location.Location.{Location}
use Rattle.word_rows.specs.declared.location.Location.TheVariants.{Head, Tail, Link, Value, Mark, NodeHazard, AnnHazard, AnnWord}
use Rattle.word_rows.specs.declared.content.Content.{Content}
use Rattle.word_rows.specs.declared.content.Content.TheVariants.{OfHead, OfTail, OfLink, OfValue, OfMark, OfNodeHazard, OfAnnHazard, OfOldTail, OfChainEnd, OfCounts, OfBatchNo, OfOrder}
use Rattle.word_rows.specs.Packing.{bit, counts_word}
use Rattle.word_rows.specs.ReadsBack.{ReadsBack}
use Rattle.word_rows.specs.Fits.{coding_limits, limits_of, PlaceFits, CountsFit}
use Rattle.word_rows.specs.Contents.{coded, Fits, CanCodeField, CanCode, MayHold}
use Rattle.word_rows.proofs.SizeLemmas.{rows_within, anns_within}
use Rattle.word_rows.proofs.PackingLemmas.{place_word-once, head_word-once, link_word-once, marks_word-once, hazard_word-once, old_tail_word-once, counts_word-once, batch_word-once}

-- two contents of one field that are coded alike are the same
pub coded-field_once : (f : AnnField) (a b : Content) → CanCodeField f a → CanCodeField f b → coded a ≡ coded b → a ≡ b
coded-field_once OldHead (OfHead a) (OfHead b) v w e = ap OfHead (head_word-once a b v.1 w.1 e)
coded-field_once OldTail (OfOldTail a) (OfOldTail b) v w e = ap OfOldTail (old_tail_word-once a b v.1 w.1 e)
coded-field_once First (OfChainEnd a) (OfChainEnd b) v w e = ap OfChainEnd e
coded-field_once Last (OfChainEnd a) (OfChainEnd b) v w e = ap OfChainEnd e
coded-field_once Counts (OfCounts a) (OfCounts b) v w e = ap OfCounts (counts_word-once a b v.1 w.1 e)
coded-field_once BatchNo (OfBatchNo a) (OfBatchNo b) v w e = ap OfBatchNo (batch_word-once a b v.1 w.1 e)
coded-field_once Order0 (OfOrder a) (OfOrder b) v w e = ap OfOrder e
coded-field_once Order1 (OfOrder a) (OfOrder b) v w e = ap OfOrder e
coded-field_once Order2 (OfOrder a) (OfOrder b) v w e = ap OfOrder e
coded-field_once Order3 (OfOrder a) (OfOrder b) v w e = ap OfOrder e
coded-field_once _ _ _ v w e = absurd (omega arith)

-- two contents of one word that are coded alike are the same
pub coded-once : (l : Location) (a b : Content) → CanCode l a → CanCode l b → coded a ≡ coded b → a ≡ b
coded-once Head (OfHead a) (OfHead b) v w e = ap OfHead (head_word-once a b v.1 w.1 e)
coded-once Tail (OfTail a) (OfTail b) v w e = ap OfTail (place_word-once a b v.1 w.1 e)
coded-once (Link r) (OfLink a) (OfLink b) v w e = ap OfLink (link_word-once a b v.1 w.1 e)
coded-once (Value r) (OfValue a) (OfValue b) v w e = ap OfValue e
coded-once (Mark r) (OfMark a) (OfMark b) v w e = ap OfMark (marks_word-once a b e)
coded-once (NodeHazard c) (OfNodeHazard a) (OfNodeHazard b) v w e = ap OfNodeHazard (hazard_word-once a b e)
coded-once (AnnHazard c) (OfAnnHazard a) (OfAnnHazard b) v w e = ap OfAnnHazard (hazard_word-once a b e)
coded-once (AnnWord n f) a b v w e = coded-field_once f a b v w e
coded-once _ _ _ v w e = absurd (omega arith)

-- what is in a lane can be coded
PlaceFits-coding : (s : Shape) (p : Place) → PlaceFits (limits_of s) p → PlaceFits coding_limits p
PlaceFits-coding s p f = let row = f.0 in let rows = rows_within s in (omega arith, f.1)

pub Fits-coding : (s : Shape) (x : Content) → Fits (limits_of s) x → Fits coding_limits x
Fits-coding s (OfHead (Node p)) f = PlaceFits-coding s p f
Fits-coding s (OfHead (Ann ann count)) f = let below = f.0 in let anns = anns_within s in (omega arith, f.1)
Fits-coding s (OfTail p) f = PlaceFits-coding s p f
Fits-coding s (OfLink Nil) f = f
Fits-coding s (OfLink (Single row)) f = let rows = rows_within s in omega arith
Fits-coding s (OfLink (Chain row)) f = let rows = rows_within s in omega arith
Fits-coding s (OfLink Shut) f = f
Fits-coding s (OfValue v) f = f
Fits-coding s (OfMark m) f = f
Fits-coding s (OfNodeHazard None) f = f
Fits-coding s (OfNodeHazard (Some row)) f = let rows = rows_within s in omega arith
Fits-coding s (OfAnnHazard None) f = f
Fits-coding s (OfAnnHazard (Some ann)) f = let anns = anns_within s in omega arith
Fits-coding s (OfOldTail None) f = f
Fits-coding s (OfOldTail (Some p)) f = PlaceFits-coding s p f
Fits-coding s (OfChainEnd row) f = let rows = rows_within s in omega arith
Fits-coding s (OfCounts c) f = f
Fits-coding s (OfBatchNo n) f =
    let batch = f.0 in
    let caller = f.1 in
    let callers : s.callers ≤ 17 = s.some_callers.1 in
    let allowance : s.allowance ≤ 2 ^ 38 = s.some_allowance.1 in
    (omega arith, omega arith)
Fits-coding s (OfOrder bits) f = f

pub CanCode-in_lane : (s : Shape) (l : Location) (x : Content) → MayHold s l x → CanCode l x
CanCode-in_lane s l x f = (f.0, Fits-coding s x f.1)

-- two contents of one word of a lane that are coded alike are the same
pub MayHold-once : (s : Shape) (l : Location) (a b : Content) → MayHold s l a → MayHold s l b → coded a ≡ coded b → a ≡ b
MayHold-once s l a b v w = coded-once l a b (CanCode-in_lane s l a v) (CanCode-in_lane s l b w)

-- every content fits into a word
bit-le : (b : Bool) (n : ℕ) → bit b n ≤ n
bit-le true n = omega arith
bit-le false n = omega arith

pub coded-lt : (x : Content) → Fits coding_limits x → coded x < 2 ^ 64
coded-lt (OfHead (Node p)) f = let row = f.0 in let count = f.1 in omega arith
coded-lt (OfHead (Ann ann count)) f = let number = f.0 in let below = f.1 in omega arith
coded-lt (OfTail p) f = let row = f.0 in let count = f.1 in omega arith
coded-lt (OfLink Nil) f = omega arith
coded-lt (OfLink (Single row)) f = omega arith
coded-lt (OfLink (Chain row)) f = omega arith
coded-lt (OfLink Shut) f = omega arith
coded-lt (OfValue v) f = f
coded-lt (OfMark m) f =
    let read = bit-le m.read 1 in
    let passed = bit-le m.passed 2 in
    let free = bit-le m.free 4 in
    omega arith
coded-lt (OfNodeHazard None) f = omega arith
coded-lt (OfNodeHazard (Some row)) f = omega arith
coded-lt (OfAnnHazard None) f = omega arith
coded-lt (OfAnnHazard (Some ann)) f = omega arith
coded-lt (OfOldTail None) f = omega arith
coded-lt (OfOldTail (Some p)) f = let row = f.0 in let count = f.1 in omega arith
coded-lt (OfChainEnd row) f = omega arith
coded-lt (OfCounts c) f = let enqs = f.0 in let deqs = f.1 in let excess = f.2 in omega arith
coded-lt (OfBatchNo n) f = let batch = f.0 in let caller = f.1 in omega arith
coded-lt (OfOrder bits) f = f

-- no counts were read
pub counts-none : (word : ℕ) → ReadsBack CountsFit counts_word word None → ReadsBack (CanCodeField Counts) coded word None
counts-none word none (OfCounts c) = (λ e. cc e, λ (f : CanCodeField Counts (OfCounts c) × (counts_word c ≡ word)). let found = (none c).1 (f.0.1, f.1) in cc)
counts-none word none _ = (λ e. cc e, λ f. absurd (f.0.0))

-- codes are compared as contents are
pub coded-compared : (s : Shape) (l : Location) (held expected : Content) → MayHold s l held → MayHold s l expected
    → IsTrue (coded held == coded expected) ↔ (held ≡ expected)
coded-compared s l held expected v w = (
  λ yes. MayHold-once s l held expected v w (eqb-true (coded held) (coded expected) yes),
  λ same. eq-eqb (coded held) (coded expected) (ap coded same),
)

pub coded-exchanged : (s : Shape) (l : Location) (held expected new : Content) → MayHold s l held → MayHold s l expected
    → held ≡ expected → (if coded held == coded expected then coded new else coded held) ≡ coded new
coded-exchanged s l held expected new v w same =
    ap (λ (b : Bool). if b then coded new else coded held) (eq-eqb (coded held) (coded expected) (ap coded same))

pub coded-left : (s : Shape) (l : Location) (held expected new : Content) → MayHold s l held → MayHold s l expected
    → held ≢ expected → (if coded held == coded expected then coded new else coded held) ≡ coded held
coded-left s l held expected new v w other =
    ap (λ (b : Bool). if b then coded new else coded held) (ne_eqb (coded held) (coded expected) (λ e. other (MayHold-once s l held expected v w e)))
