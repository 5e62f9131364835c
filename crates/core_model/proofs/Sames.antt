-- An exchange finds what it expects exactly where the contents are equal.
use Rattle.std.proofs.Common.{◌≡◌, ◌≢◌, ℕ, eqb, ◌&&◌, Bool, true, false, cond, refl, ap, ◌∙◌, eq-eqb, Option, Some, None}
use Rattle.std.proofs.lemmas.Bool.{eqb-true, and_parts, and_from}
use Rattle.excess_count.specs.declared.counts.Counts.{Counts}
use Rattle.word_rows.specs.declared.place.Place.{Place}
use Rattle.word_rows.specs.declared.marks.Marks.{Marks}
use Rattle.word_rows.specs.declared.batch_words.BatchNumber.{BatchNumber}
use Rattle.word_rows.specs.declared.location.Location.{Location}
use Rattle.lane_steps.specs.declared.act.Act.TheVariants.{Exchange}
use Rattle.word_rows.specs.declared.head_word.HeadWord.{HeadWord}
use Rattle.word_rows.specs.declared.head_word.HeadWord.TheVariants.{Node, Ann}
use Rattle.word_rows.specs.declared.link_word.LinkWord.{LinkWord}
use Rattle.word_rows.specs.declared.link_word.LinkWord.TheVariants.{Nil, Single, Chain, Shut}
use Rattle.word_rows.specs.declared.content.Content.{Content}
use Rattle.word_rows.specs.declared.content.Content.TheVariants.{OfHead, OfTail, OfLink, OfValue, OfMark, OfNodeHazard, OfAnnHazard, OfOldTail, OfChainEnd, OfCounts, OfBatchNo, OfOrder}
use Rattle.lane_steps.specs.Act.{same_place, same_head, same_link, same_old_tail, same_bit, same_marks, same_hazard, same_counts, same_number, same_content, effect}
use Rattle.core_model.proofs.StoredAgain.{same_places}

heads : (x y : HeadWord) → same_head x y ≡ true → x ≡ y
heads (Node p) (Node q) e = ap Node (same_places p q e)
heads (Ann a n) (Ann b m) e = let both = and_parts (eqb a b) (eqb n m) e in λ i. Ann (eqb-true a b both.0 i) (eqb-true n m both.1 i)
heads (Node p) (Ann b m) e = absurd (cc e)
heads (Ann a n) (Node q) e = absurd (cc e)

links : (x y : LinkWord) → same_link x y ≡ true → x ≡ y
links Nil Nil e = refl
links (Single r) (Single q) e = ap Single (eqb-true r q e)
links (Chain r) (Chain q) e = ap Chain (eqb-true r q e)
links Shut Shut e = refl
links _ _ e = absurd (cc e)

old_tails : (x y : Option Place) → same_old_tail x y ≡ true → x ≡ y
old_tails None None e = refl
old_tails (Some p) (Some q) e = ap Some (same_places p q e)
old_tails (Some p) None e = absurd (cc e)
old_tails None (Some q) e = absurd (cc e)

bits : (a b : Bool) → same_bit a b ≡ true → a ≡ b
bits true true e = refl
bits true false e = absurd (cc e)
bits false true e = absurd (cc e)
bits false false e = refl

marks : (x y : Marks) → same_marks x y ≡ true → x ≡ y
marks x y e = let first = and_parts (same_bit x.read y.read) (same_bit x.passed y.passed && same_bit x.free y.free) e in let rest = and_parts (same_bit x.passed y.passed) (same_bit x.free y.free) first.1 in
    λ i. record { read = bits x.read y.read first.0 i; passed = bits x.passed y.passed rest.0 i; free = bits x.free y.free rest.1 i }

hazards : (x y : Option ℕ) → same_hazard x y ≡ true → x ≡ y
hazards None None e = refl
hazards (Some n) (Some m) e = ap Some (eqb-true n m e)
hazards (Some n) None e = absurd (cc e)
hazards None (Some m) e = absurd (cc e)

counts : (x y : Counts) → same_counts x y ≡ true → x ≡ y
counts x y e = let first = and_parts (eqb x.enqs y.enqs) (eqb x.deqs y.deqs && eqb x.excess y.excess) e in let rest = and_parts (eqb x.deqs y.deqs) (eqb x.excess y.excess) first.1 in
    λ i. record { enqs = eqb-true x.enqs y.enqs first.0 i; deqs = eqb-true x.deqs y.deqs rest.0 i; excess = eqb-true x.excess y.excess rest.1 i }

numbers : (x y : BatchNumber) → same_number x y ≡ true → x ≡ y
numbers x y e = let both = and_parts (eqb x.batch y.batch) (eqb x.caller y.caller) e in λ i. record { batch = eqb-true x.batch y.batch both.0 i; caller = eqb-true x.caller y.caller both.1 i }

pub same_is : (x y : Content) → same_content x y ≡ true → x ≡ y
same_is (OfHead x) (OfHead y) e = ap OfHead (heads x y e)
same_is (OfTail x) (OfTail y) e = ap OfTail (same_places x y e)
same_is (OfLink x) (OfLink y) e = ap OfLink (links x y e)
same_is (OfValue x) (OfValue y) e = ap OfValue (eqb-true x y e)
same_is (OfMark x) (OfMark y) e = ap OfMark (marks x y e)
same_is (OfNodeHazard x) (OfNodeHazard y) e = ap OfNodeHazard (hazards x y e)
same_is (OfAnnHazard x) (OfAnnHazard y) e = ap OfAnnHazard (hazards x y e)
same_is (OfOldTail x) (OfOldTail y) e = ap OfOldTail (old_tails x y e)
same_is (OfChainEnd x) (OfChainEnd y) e = ap OfChainEnd (eqb-true x y e)
same_is (OfCounts x) (OfCounts y) e = ap OfCounts (counts x y e)
same_is (OfBatchNo x) (OfBatchNo y) e = ap OfBatchNo (numbers x y e)
same_is (OfOrder x) (OfOrder y) e = ap OfOrder (eqb-true x y e)
same_is _ _ e = absurd (cc e)

place_self : (p : Place) → same_place p p ≡ true
place_self p = and_from (eqb p.row p.row) (eqb p.count p.count) (eq-eqb p.row p.row refl) (eq-eqb p.count p.count refl)

head_self : (x : HeadWord) → same_content (OfHead x) (OfHead x) ≡ true
head_self (Node p) = place_self p
head_self (Ann a n) = and_from (eqb a a) (eqb n n) (eq-eqb a a refl) (eq-eqb n n refl)

tail_self : (p : Place) → same_content (OfTail p) (OfTail p) ≡ true
tail_self p = place_self p

link_self : (x : LinkWord) → same_content (OfLink x) (OfLink x) ≡ true
link_self Nil = refl
link_self (Single r) = eq-eqb r r refl
link_self (Chain r) = eq-eqb r r refl
link_self Shut = refl

old_tail_self : (x : Option Place) → same_content (OfOldTail x) (OfOldTail x) ≡ true
old_tail_self None = refl
old_tail_self (Some p) = place_self p

hazard_self : (x : Option ℕ) → same_hazard x x ≡ true
hazard_self None = refl
hazard_self (Some n) = eq-eqb n n refl

bit_self : (b : Bool) → same_bit b b ≡ true
bit_self true = refl
bit_self false = refl

pub content_self : (x : Content) → same_content x x ≡ true
content_self (OfHead x) = head_self x
content_self (OfTail x) = tail_self x
content_self (OfLink x) = link_self x
content_self (OfValue x) = eq-eqb x x refl
content_self (OfMark x) = and_from (same_bit x.read x.read) (same_bit x.passed x.passed && same_bit x.free x.free) (bit_self x.read) (and_from (same_bit x.passed x.passed) (same_bit x.free x.free) (bit_self x.passed) (bit_self x.free))
content_self (OfNodeHazard x) = hazard_self x
content_self (OfAnnHazard x) = hazard_self x
content_self (OfOldTail x) = old_tail_self x
content_self (OfChainEnd x) = eq-eqb x x refl
content_self (OfCounts x) = and_from (eqb x.enqs x.enqs) (eqb x.deqs x.deqs && eqb x.excess x.excess) (eq-eqb x.enqs x.enqs refl) (and_from (eqb x.deqs x.deqs) (eqb x.excess x.excess) (eq-eqb x.deqs x.deqs refl) (eq-eqb x.excess x.excess refl))
content_self (OfBatchNo x) = and_from (eqb x.batch x.batch) (eqb x.caller x.caller) (eq-eqb x.batch x.batch refl) (eq-eqb x.caller x.caller refl)
content_self (OfOrder x) = eq-eqb x x refl

-- what the word has after an exchange
pub exchanged : (l : Location) (old new x : Content) → (x ≡ old → effect (Exchange l old new) x ≡ new) × (x ≢ old → effect (Exchange l old new) x ≡ x)
exchanged l old new x = ((λ same. ap (λ (b : Bool). cond b new x) (ap (λ (y : Content). same_content y old) same ∙ content_self old)), (λ other. by (same_content x old) refl other)) where
  by : (b : Bool) → same_content x old ≡ b → x ≢ old → cond b new x ≡ x
  by true found other = absurd (other (same_is x old found))
  by false found other = refl
