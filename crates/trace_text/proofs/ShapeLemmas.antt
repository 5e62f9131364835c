-- A shape is what its numbers are.
use Rattle.std.proofs.Common.{◌≡◌, ◌≢◌, ℕ, ◌+◌, ◌*◌, ◌^◌, ◌<◌, Bool, true, false, ◌&&◌, Option, None, Some, refl, ap, le-leb, nat_lt}
use Rattle.std.proofs.lemmas.Bool.{lt-ltb, ltb-true, and_parts}
use mathlib.Core.HLevel.{is_prop→PathP}
use native.Mathlib.Bridge.{le_prop}
use Rattle.std.specs.Option.{IsSome, IfSome}
use Rattle.bq_model.specs.declared.shape.Shape.{Shape}
use Rattle.bq_model.specs.Limits.{Within, InLimits}
use Rattle.trace_text.specs.Shapes.{within, Within-true, in_limits, shape_if, shape_with}

pub Shape-same : (s t : Shape) → s.callers ≡ t.callers → s.batch ≡ t.batch → s.room ≡ t.room → s.allowance ≡ t.allowance → s.first_count ≡ t.first_count → s ≡ t
Shape-same s t callers batch room allowance first =
    λ i. record {
      callers = callers i;
      batch = batch i;
      room = room i;
      allowance = allowance i;
      first_count = first i;
      some_callers = is_prop→PathP (λ j. Within 17 (callers j)) (λ j. hlevel le_prop) s.some_callers t.some_callers i;
      some_batch = is_prop→PathP (λ j. Within 256 (batch j)) (λ j. hlevel le_prop) s.some_batch t.some_batch i;
      some_room = is_prop→PathP (λ j. Within 256 (room j)) (λ j. hlevel le_prop) s.some_room t.some_room i;
      some_allowance = is_prop→PathP (λ j. Within (2 ^ 38) (allowance j)) (λ j. hlevel le_prop) s.some_allowance t.some_allowance i;
      counts_fit = is_prop→PathP (λ j. first j + callers j * allowance j < 2 ^ 44) (λ j. hlevel le_prop) s.counts_fit t.counts_fit i;
    }

within-true : (most n : ℕ) → Within most n → within most n ≡ true
within-true most n is =
    let low = le-leb 1 n is.0 in
    let high = le-leb n most is.1 in
    rw (low, high) refl

in_limits-true : (callers batch room allowance first : ℕ) → InLimits callers batch room allowance first → in_limits callers batch room allowance first ≡ true
in_limits-true callers batch room allowance first is =
    let c = within-true 17 callers is.some_callers in
    let b = within-true 256 batch is.some_batch in
    let r = within-true 256 room is.some_room in
    let a = within-true (2 ^ 38) allowance is.some_allowance in
    let f = lt-ltb (first + callers * allowance) (2 ^ 44) is.counts_fit in
    rw (c, b, r, a, f) refl

-- what a maker of shapes gives, which gives one exactly in the limits, and of these numbers
pub record Makes (callers batch room allowance first : ℕ) (made : Option Shape) : Type 0 where
  pub limits : IsSome made → InLimits callers batch room allowance first
  pub within : InLimits callers batch room allowance first → IsSome made
  pub callers_are : IfSome made (λ s. s.callers ≡ callers)
  pub batch_is : IfSome made (λ s. s.batch ≡ batch)
  pub room_is : IfSome made (λ s. s.room ≡ room)
  pub allowance_is : IfSome made (λ s. s.allowance ≡ allowance)
  pub first_is : IfSome made (λ s. s.first_count ≡ first)

shape_if-some : (callers batch room allowance first : ℕ) (test : Bool) (e : in_limits callers batch room allowance first ≡ test) (s : Shape) → test ≡ true → s.callers ≡ callers → s.batch ≡ batch → s.room ≡ room → s.allowance ≡ allowance → s.first_count ≡ first
    → Some s ≡ shape_if callers batch room allowance first test e
shape_if-some callers batch room allowance first true e s fits c b r a f = ap Some (Shape-same s _ c b r a f)
shape_if-some callers batch room allowance first false e s fits c b r a f = cc fits

shape_if-none : (callers batch room allowance first : ℕ) (test : Bool) (e : in_limits callers batch room allowance first ≡ test) → test ≢ true → None ≡ shape_if callers batch room allowance first test e
shape_if-none callers batch room allowance first true e fails = absurd (fails refl)
shape_if-none callers batch room allowance first false e fails = refl

InLimits-true : (callers batch room allowance first : ℕ) → in_limits callers batch room allowance first ≡ true → InLimits callers batch room allowance first
InLimits-true callers batch room allowance first is =
    let one = within 17 callers && within 256 batch in
    let other = within 256 room && within (2 ^ 38) allowance in
    let outer = and_parts (one && other) (nat_lt (first + callers * allowance) (2 ^ 44)) is in
    let sizes = and_parts one other outer.0 in
    let ones = and_parts (within 17 callers) (within 256 batch) sizes.0 in
    let others = and_parts (within 256 room) (within (2 ^ 38) allowance) sizes.1 in
    record {
      some_callers = Within-true 17 callers ones.0;
      some_batch = Within-true 256 batch ones.1;
      some_room = Within-true 256 room others.0;
      some_allowance = Within-true (2 ^ 38) allowance others.1;
      counts_fit = ltb-true (first + callers * allowance) (2 ^ 44) outer.1;
    }

pub shape_with-made : (callers batch room allowance first : ℕ) (made : Option Shape) → Makes callers batch room allowance first made → made ≡ shape_with callers batch room allowance first
shape_with-made callers batch room allowance first (Some s) makes =
    shape_if-some callers batch room allowance first (in_limits callers batch room allowance first) refl s (in_limits-true callers batch room allowance first (makes.limits refl)) makes.callers_are makes.batch_is makes.room_is makes.allowance_is makes.first_is
shape_with-made callers batch room allowance first None makes = shape_if-none callers batch room allowance first (in_limits callers batch room allowance first) refl (λ fits. (let never = makes.within (InLimits-true callers batch room allowance first fits) in cc never))

-- numbers out of their limits
pub shape_with-none : (callers batch room allowance first : ℕ) → (InLimits callers batch room allowance first → ⊥) → None ≡ shape_with callers batch room allowance first
shape_with-none callers batch room allowance first never =
    shape_if-none callers batch room allowance first (in_limits callers batch room allowance first) refl (λ fits. never (InLimits-true callers batch room allowance first fits))
