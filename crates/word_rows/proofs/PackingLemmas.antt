-- Two values that are coded alike are the same.
use Rattle.std.proofs.Common.{◌≡◌, ◌≢◌, ℕ, zero, suc, not, nat_eq, ◌+◌, ◌*◌, ◌%◌, ◌<◌, ◌≤◌, ◌^◌, Bool, true, false, Option, Some, None, refl, sym, ap, ◌∙◌, subst, arith}
use Rattle.std.specs.Prelude.{bit_and, bit_or}
use Rattle.std.proofs.lemmas.Nat.{or_shifted}
use Rattle.word_rows.specs.declared.place.Place.{Place}
use Rattle.word_rows.specs.declared.head_word.HeadWord.{HeadWord}
use Rattle.word_rows.specs.declared.head_word.HeadWord.TheVariants.{Node, Ann}
use Rattle.word_rows.specs.declared.link_word.LinkWord.{LinkWord}
use Rattle.word_rows.specs.declared.link_word.LinkWord.TheVariants.{Nil, Single, Chain, Shut}
use Rattle.word_rows.specs.declared.marks.Marks.{Marks}
use Rattle.excess_count.specs.declared.counts.Counts.{Counts}
use Rattle.word_rows.specs.declared.batch_words.BatchNumber.{BatchNumber}
use Rattle.word_rows.specs.Packing.{counted_word, place_word, head_word, link_word, bit, marks_word, hazard_word, old_tail_word, counts_word, batch_word}
use Rattle.word_rows.specs.ReadsBack.{ReadsBack}
use Rattle.word_rows.specs.Fits.{coding_limits, PlaceFits, HeadFits, LinkFits, OldTailFits, CountsFit, BatchFits}

-- the value that was found is the one with this number
pub ReadsBack-some : {V : Type 0} (Fits : V → Type 0) (number_of : V → ℕ) (number : ℕ) (found : V)
    → ((a b : V) → Fits a → Fits b → number_of a ≡ number_of b → a ≡ b) → Fits found → number_of found ≡ number
    → ReadsBack Fits number_of number (Some found)
ReadsBack-some {V} Fits number_of number found once fits is = λ v. (
  λ (e : Some found ≡ Some v). let same : found ≡ v = cc in subst (λ (x : V). Fits x × (number_of x ≡ number)) same (fits, is),
  λ (f : Fits v × (number_of v ≡ number)). ap Some (once found v fits f.0 (is ∙ sym f.1)),
)

-- nothing was found, and no value has this number
pub ReadsBack-none : {V : Type 0} (Fits : V → Type 0) (number_of : V → ℕ) (number : ℕ)
    → ((v : V) → Fits v → number_of v ≢ number) → ReadsBack Fits number_of number None
ReadsBack-none {V} Fits number_of number none = λ v. (λ (e : None ≡ Some v). cc, λ (f : Fits v × (number_of v ≡ number)). absurd (none v f.0 f.1))

-- a count, a number and a kind, put together from their bits
pub counted_bits : (count number kind : ℕ) → count < 2 ^ 44 → number < 2 ^ 18 → kind < 4
    → bit_or (bit_or (count * 2 ^ 20 % 2 ^ 64) (number * 2 ^ 2 % 2 ^ 64)) kind ≡ counted_word count number kind
counted_bits count number kind c n k =
    let high : count * 2 ^ 20 % 2 ^ 64 ≡ count * 2 ^ 20 = omega arith in
    let low : number * 2 ^ 2 % 2 ^ 64 ≡ number * 2 ^ 2 = omega arith in
    let inner : bit_or (count * 2 ^ 20) (number * 2 ^ 2) ≡ count * 2 ^ 20 + number * 2 ^ 2 = or_shifted count 20 (number * 2 ^ 2) (omega arith) in
    let turned : count * 2 ^ 20 + number * 2 ^ 2 ≡ (count * 2 ^ 18 + number) * 2 ^ 2 = omega arith in
    let outer : bit_or ((count * 2 ^ 18 + number) * 2 ^ 2) kind ≡ (count * 2 ^ 18 + number) * 2 ^ 2 + kind = or_shifted (count * 2 ^ 18 + number) 2 kind (omega arith) in
    ap (λ (x : ℕ). bit_or (bit_or x (number * 2 ^ 2 % 2 ^ 64)) kind) high
    ∙ ap (λ (x : ℕ). bit_or (bit_or (count * 2 ^ 20) x) kind) low
    ∙ ap (λ (x : ℕ). bit_or x kind) (inner ∙ turned)
    ∙ outer
    ∙ omega arith

pub place_word-once : (a b : Place) → PlaceFits coding_limits a → PlaceFits coding_limits b → place_word a ≡ place_word b → a ≡ b
place_word-once a b f g e =
    let below = f.0 in
    let under = g.0 in
    let row : a.row ≡ b.row = omega arith in
    let count : a.count ≡ b.count = omega arith in
    ap (λ (n : ℕ). let p : Place = record { row = n; count = a.count } in p) row ∙ ap (λ (n : ℕ). let p : Place = record { row = b.row; count = n } in p) count

pub head_word-once : (a b : HeadWord) → HeadFits coding_limits a → HeadFits coding_limits b → head_word a ≡ head_word b → a ≡ b
head_word-once (Node p) (Node q) f g e = ap Node (place_word-once p q f g e)
head_word-once (Node p) (Ann a n) f g e = absurd (omega arith)
head_word-once (Ann a n) (Node q) f g e = absurd (omega arith)
head_word-once (Ann a n) (Ann b m) f g e =
    let below = f.0 in
    let under = g.0 in
    let ann : a ≡ b = omega arith in
    let count : n ≡ m = omega arith in
    ap (λ (x : ℕ). Ann x n) ann ∙ ap (λ (x : ℕ). Ann b x) count

pub link_word-once : (a b : LinkWord) → LinkFits coding_limits a → LinkFits coding_limits b → link_word a ≡ link_word b → a ≡ b
link_word-once Nil Nil f g e = refl
link_word-once (Single r) (Single q) f g e = ap Single (omega arith)
link_word-once (Chain r) (Chain q) f g e = ap Chain (omega arith)
link_word-once Shut Shut f g e = refl
link_word-once _ _ f g e = absurd (omega arith)

bit-scaled : (b : Bool) (n : ℕ) → bit b n ≡ bit b 1 * n
bit-scaled true n = omega arith
bit-scaled false n = omega arith

bit-small : (b : Bool) → bit b 1 ≤ 1
bit-small true = omega arith
bit-small false = omega arith

bit-once : (a b : Bool) → bit a 1 ≡ bit b 1 → a ≡ b
bit-once true true e = refl
bit-once false false e = refl
bit-once true false e = absurd (omega arith)
bit-once false true e = absurd (omega arith)

pub marks_word-once : (a b : Marks) → marks_word a ≡ marks_word b → a ≡ b
marks_word-once a b e =
    let a2 = bit-scaled a.passed 2 in
    let a4 = bit-scaled a.free 4 in
    let b2 = bit-scaled b.passed 2 in
    let b4 = bit-scaled b.free 4 in
    let ra = bit-small a.read in
    let pa = bit-small a.passed in
    let rb = bit-small b.read in
    let pb = bit-small b.passed in
    let read : a.read ≡ b.read = bit-once a.read b.read (omega arith) in
    let passed : a.passed ≡ b.passed = bit-once a.passed b.passed (omega arith) in
    let free : a.free ≡ b.free = bit-once a.free b.free (omega arith) in
    ap (λ (x : Bool). let m : Marks = record { read = x; passed = a.passed; free = a.free } in m) read
    ∙ ap (λ (x : Bool). let m : Marks = record { read = b.read; passed = x; free = a.free } in m) passed
    ∙ ap (λ (x : Bool). let m : Marks = record { read = b.read; passed = b.passed; free = x } in m) free

-- the marks of a word below 8
abbrev pub marks-in : ℕ → Marks
marks-in word = record { read = not (nat_eq (bit_and word 1) 0); passed = not (nat_eq (bit_and word 2) 0); free = not (nat_eq (bit_and word 4) 0) }

marks_word-in : (word : ℕ) → word < 8 → marks_word (marks-in word) ≡ word
marks_word-in zero l = refl
marks_word-in (suc zero) l = refl
marks_word-in (suc (suc zero)) l = refl
marks_word-in (suc (suc (suc zero))) l = refl
marks_word-in (suc (suc (suc (suc zero)))) l = refl
marks_word-in (suc (suc (suc (suc (suc zero))))) l = refl
marks_word-in (suc (suc (suc (suc (suc (suc zero)))))) l = refl
marks_word-in (suc (suc (suc (suc (suc (suc (suc zero))))))) l = refl
marks_word-in (suc (suc (suc (suc (suc (suc (suc (suc n)))))))) l = absurd (omega arith)

pub marks_word-back : (word : ℕ) → word < 8 → ReadsBack (λ (_ : Marks). Unit {0}) marks_word word (Some (marks-in word))
marks_word-back word l = ReadsBack-some (λ (_ : Marks). Unit {0}) marks_word word (marks-in word) (λ a b _ _ e. marks_word-once a b e) tt (marks_word-in word l)

pub hazard_word-once : (a b : Option ℕ) → hazard_word a ≡ hazard_word b → a ≡ b
hazard_word-once None None e = refl
hazard_word-once (Some n) (Some m) e = ap Some (omega arith)
hazard_word-once None (Some m) e = absurd (omega arith)
hazard_word-once (Some n) None e = absurd (omega arith)

pub old_tail_word-once : (a b : Option Place) → OldTailFits coding_limits a → OldTailFits coding_limits b → old_tail_word a ≡ old_tail_word b → a ≡ b
old_tail_word-once None None f g e = refl
old_tail_word-once (Some p) (Some q) f g e = ap Some (place_word-once p q f g e)
old_tail_word-once None (Some q) f g e = absurd (omega arith)
old_tail_word-once (Some p) None f g e = absurd (omega arith)

pub counts_word-once : (a b : Counts) → CountsFit a → CountsFit b → counts_word a ≡ counts_word b → a ≡ b
counts_word-once a b f g e =
    let ea = f.0 in
    let da = f.1 in
    let eb = g.0 in
    let db = g.1 in
    let enqs : a.enqs ≡ b.enqs = omega arith in
    let deqs : a.deqs ≡ b.deqs = omega arith in
    let excess : a.excess ≡ b.excess = omega arith in
    ap (λ (x : ℕ). let c : Counts = record { enqs = x; deqs = a.deqs; excess = a.excess } in c) enqs
    ∙ ap (λ (x : ℕ). let c : Counts = record { enqs = b.enqs; deqs = x; excess = a.excess } in c) deqs
    ∙ ap (λ (x : ℕ). let c : Counts = record { enqs = b.enqs; deqs = b.deqs; excess = x } in c) excess

pub batch_word-once : (a b : BatchNumber) → BatchFits coding_limits a → BatchFits coding_limits b → batch_word a ≡ batch_word b → a ≡ b
batch_word-once a b f g e =
    let ca = f.1 in
    let cb = g.1 in
    let batch : a.batch ≡ b.batch = omega arith in
    let caller : a.caller ≡ b.caller = omega arith in
    ap (λ (x : ℕ). let n : BatchNumber = record { batch = x; caller = a.caller } in n) batch
    ∙ ap (λ (x : ℕ). let n : BatchNumber = record { batch = b.batch; caller = x } in n) caller
