-- The shape that five numbers are.
use Rattle.std.specs.Prelude.{◌≡◌, ℕ, ◌+◌, ◌*◌, ◌^◌, Bool, true, false, ◌&&◌, Option, None, Some, nat_le, nat_lt, refl}
use Rattle.std.proofs.lemmas.Bool.{and_parts, ltb-true}
use Rattle.std.proofs.Common.{leb-true}
use Rattle.bq_model.specs.declared.shape.Shape.{Shape}
use Rattle.bq_model.specs.Limits.{Within}

-- whether a number is at least 1 and at most this
abbrev pub within : ℕ → ℕ → Bool
within most n = nat_le 1 n && nat_le n most

-- whether a lane may be made for these numbers
abbrev pub in_limits : ℕ → ℕ → ℕ → ℕ → ℕ → Bool
in_limits callers batch room allowance first =
    (within 17 callers && within 256 batch) && (within 256 room && within (2 ^ 38) allowance) && nat_lt (first + callers * allowance) (2 ^ 44)

abbrev pub Within-true : (most n : ℕ) → within most n ≡ true → Within most n
Within-true most n is = (leb-true 1 n (and_parts (nat_le 1 n) (nat_le n most) is).0, leb-true n most (and_parts (nat_le 1 n) (nat_le n most) is).1)

-- the shape, where it was tested whether the numbers are in their limits
abbrev pub shape_if : (callers batch room allowance first : ℕ) (test : Bool) → in_limits callers batch room allowance first ≡ test → Option Shape
shape_if callers batch room allowance first true is =
    let one = within 17 callers && within 256 batch in
    let other = within 256 room && within (2 ^ 38) allowance in
    let outer = and_parts (one && other) (nat_lt (first + callers * allowance) (2 ^ 44)) is in
    let sizes = and_parts one other outer.0 in
    let ones = and_parts (within 17 callers) (within 256 batch) sizes.0 in
    let others = and_parts (within 256 room) (within (2 ^ 38) allowance) sizes.1 in
    Some (record {
      callers = callers;
      batch = batch;
      room = room;
      allowance = allowance;
      first_count = first;
      some_callers = Within-true 17 callers ones.0;
      some_batch = Within-true 256 batch ones.1;
      some_room = Within-true 256 room others.0;
      some_allowance = Within-true (2 ^ 38) allowance others.1;
      counts_fit = ltb-true (first + callers * allowance) (2 ^ 44) outer.1;
    })
shape_if callers batch room allowance first false is = None

-- the shape with these numbers, if they are in their limits
abbrev pub shape_with : ℕ → ℕ → ℕ → ℕ → ℕ → Option Shape
shape_with callers batch room allowance first = shape_if callers batch room allowance first (in_limits callers batch room allowance first) refl
