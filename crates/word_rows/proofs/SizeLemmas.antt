-- No lane is larger than the largest.
use Rattle.std.proofs.Common.{◌+◌, ◌*◌, ◌≤◌, arith}
use Rattle.std.proofs.lemmas.Nat.{mul-le}
use Rattle.bq_model.specs.declared.shape.Shape.{Shape}
use Rattle.word_rows.specs.Sizes.{waiting_of, items_of, stoppers_of, own_rows_of, rows_of, anns_of, words_of}

pub waiting_within : (s : Shape) → waiting_of s ≤ 4658
waiting_within s =
    let callers : s.callers ≤ 17 = s.some_callers.1 in
    let batch : s.batch ≤ 256 = s.some_batch.1 in
    mul-le s.callers (s.batch + s.callers + 1) 17 274 callers (omega arith)

pub items_within : (s : Shape) → items_of s ≤ 4915
items_within s =
    let room : s.room ≤ 256 = s.some_room.1 in
    let waiting = waiting_within s in
    omega arith

pub stoppers_within : (s : Shape) → stoppers_of s ≤ 4660
stoppers_within s = let waiting = waiting_within s in omega arith

pub own_rows_within : (s : Shape) → own_rows_of s ≤ 9575
own_rows_within s = let items = items_within s in let stoppers = stoppers_within s in omega arith

pub rows_within : (s : Shape) → rows_of s ≤ 162776
rows_within s =
    let callers : s.callers ≤ 17 = s.some_callers.1 in
    let all : s.callers * own_rows_of s ≤ 162775 = mul-le s.callers (own_rows_of s) 17 9575 callers (own_rows_within s) in
    omega arith

pub anns_within : (s : Shape) → anns_of s ≤ 289
anns_within s = let callers : s.callers ≤ 17 = s.some_callers.1 in mul-le s.callers s.callers 17 17 callers callers

pub words_within : (s : Shape) → words_of s ≤ 491254
words_within s =
    let callers : s.callers ≤ 17 = s.some_callers.1 in
    let rows = rows_within s in
    let anns = anns_within s in
    omega arith
