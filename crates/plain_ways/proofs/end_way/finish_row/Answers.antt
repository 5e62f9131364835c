use Rattle.std.proofs.Common.{◌∙◌, ◌++◌, [], ◌∷◌, List, ℕ, ap, refl, false}
use Rattle.lane_course.specs.Scratch.{keeping}
use Rattle.plain_ways.proofs.Finishes.{marks_only}
use Rattle.plain_ways.proofs.end_way.finish_row.Goals as goal

pub finish_rows-requires : goal.finish_rows-requires
finish_rows-requires c = record {
  led = (
    c.requires.led.0,
    marks_only c.args.closing false c.args.dummy c.args.row c.requires.led.1 _
        (λ k. ap (λ (xs : List ℕ). record (keeping k c.args.scratch.now) { walked = xs }) (c.push_back_reserved.ensures.items ∙ ap (λ (xs : List ℕ). xs ++ c.args.row ∷ []) c.clear.ensures.items))
        (record { puts = refl; room = record { puts = refl; rows = refl; values = refl; walked = c.push_back_reserved.ensures.capacity ∙ c.clear.ensures.capacity; retired = refl; named = refl } }),
  );
}

pub returns-clause-next : goal.returns-clause-next
returns-clause-next c = λ p led. c.finish_rows.ensures.next p (marks_only c.args.closing false c.args.dummy c.args.row led _
    (λ k. ap (λ (xs : List ℕ). record (keeping k c.args.scratch.now) { walked = xs }) (c.push_back_reserved.ensures.items ∙ ap (λ (xs : List ℕ). xs ++ c.args.row ∷ []) c.clear.ensures.items))
    (record { puts = refl; room = record { puts = refl; rows = refl; values = refl; walked = c.push_back_reserved.ensures.capacity ∙ c.clear.ensures.capacity; retired = refl; named = refl } }))
