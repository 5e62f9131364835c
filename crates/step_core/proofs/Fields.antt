-- Lists of words as functions, and stores into the words of an announcement.
use Rattle.std.proofs.Common.{◌≡◌, ◌≢◌, Bool, true, false, not, ℕ, zero, suc, ◌<◌, List, [], ◌∷◌, length, get_or, set, replicate, refl, sym, ap, ◌∙◌, arith, get_or-set_same, get_or-set_other}
use Rattle.std.proofs.Math.Dec.{eqb-suc-zero}
use Rattle.std.specs.Vec.{with_item}
use Rattle.word_rows.specs.Opening.{opening_marks}
use Rattle.word_rows.specs.declared.marks.Marks.{Marks}
use Rattle.word_rows.specs.declared.location.AnnField.{AnnField}
use Rattle.word_rows.specs.declared.location.AnnField.TheVariants.{OldHead, OldTail, First, Last, Counts, BatchNo, Order0, Order1, Order2, Order3}
use Rattle.word_rows.specs.declared.content.Content.{Content}
use Rattle.lane_steps.specs.declared.point.Notice.{Notice}
use Rattle.lane_steps.specs.Functions.{put}
use Rattle.lane_steps.specs.Notices.{with_field, blank}
use Rattle.lane_steps.specs.State.{write_field, marks}
use Rattle.core_model.proofs.Puts.{put_all}
use Rattle.step_core.specs.declared.words.Words.{Words}
use Rattle.step_core.specs.Words.{memory_of}

pub all_same : {A : Type 0} → (n i : ℕ) (x : A) → get_or (replicate n x) i x ≡ x
all_same zero i x = refl
all_same (suc n) zero x = refl
all_same (suc n) (suc i) x = all_same n i x

pub same_at : {A : Type 0} → (xs : List A) (i : ℕ) (d e : A) → i < length xs → get_or xs i d ≡ get_or xs i e
same_at [] i d e below = absurd (omega arith)
same_at (x ∷ xs) zero d e below = refl
same_at (x ∷ xs) (suc i) d e below = same_at xs i d e (omega arith)

pub set_put : {A : Type 0} → (xs : List A) (i : ℕ) (y d : A) → i < length xs → (λ j. get_or (set xs i y) j d) ≡ put (λ j. get_or xs j d) i y
set_put xs i y d below = λ k j. put_all (λ j. get_or xs j d) i y (λ j v. get_or (set xs i y) j d ≡ v) (get_or-set_same xs i y d below) (λ j apart. get_or-set_other xs i j y d apart) j k

-- the same of a list whose default goes by the place
pub set_put_by : {A : Type 0} → (xs : List A) (i : ℕ) (y : A) (d : ℕ → A) → i < length xs → (λ j. get_or (set xs i y) j (d j)) ≡ put (λ j. get_or xs j (d j)) i y
set_put_by xs i y d below = λ k j. put_all (λ j. get_or xs j (d j)) i y (λ j v. get_or (set xs i y) j (d j) ≡ v) (get_or-set_same xs i y (d i) below) (λ j apart. get_or-set_other xs i j y (d j) apart) j k

abbrev both_free : Marks
both_free = marks true true true

-- all rows are free but the first one
unused : (r : ℕ) → both_free ≡ opening_marks (suc r)
unused r = ap (λ (b : Bool). marks true (not b) (not b)) (sym (eqb-suc-zero r))

pub opening_all : (n : ℕ) → 0 < n → (r : ℕ) → get_or (set (replicate n both_free) 0 (marks true false false)) r (opening_marks r) ≡ opening_marks r
opening_all zero some r = absurd (let e : ⊥ = omega arith in e)
opening_all (suc n) some zero = refl
opening_all (suc n) some (suc r) = ap (get_or (replicate n both_free) r) (sym (unused r)) ∙ (all_same n r both_free ∙ unused r)

pub notice_written : (w : Words) (a : ℕ) (f : AnnField) (x : Content) (old new : Notice) → a < length w.notices.items → f ≢ OldTail → old ≡ get_or w.notices.items a old → new ≡ with_field old f x
    → memory_of (record w { notices = with_item w.notices a new }) ≡ write_field (memory_of w) a f x
notice_written w a f x old new below other was is = by f other is where
  notice : (f : AnnField) → new ≡ with_field old f x → (λ j. get_or (set w.notices.items a new) j blank) ≡ put (λ j. get_or w.notices.items j blank) a (with_field (get_or w.notices.items a blank) f x)
  notice f is = set_put w.notices.items a new blank below ∙ ap (put (λ j. get_or w.notices.items j blank) a) (is ∙ ap (λ (n : Notice). with_field n f x) (was ∙ same_at w.notices.items a old blank below))

  by : (f : AnnField) → f ≢ OldTail → new ≡ with_field old f x → memory_of (record w { notices = with_item w.notices a new }) ≡ write_field (memory_of w) a f x
  by OldHead o is = λ i. record (memory_of w) { notice = notice OldHead is i }
  by OldTail o is = absurd (o refl)
  by First o is = λ i. record (memory_of w) { notice = notice First is i }
  by Last o is = λ i. record (memory_of w) { notice = notice Last is i }
  by Counts o is = λ i. record (memory_of w) { notice = notice Counts is i }
  by BatchNo o is = λ i. record (memory_of w) { notice = notice BatchNo is i }
  by Order0 o is = λ i. record (memory_of w) { notice = notice Order0 is i }
  by Order1 o is = λ i. record (memory_of w) { notice = notice Order1 is i }
  by Order2 o is = λ i. record (memory_of w) { notice = notice Order2 is i }
  by Order3 o is = λ i. record (memory_of w) { notice = notice Order3 is i }
