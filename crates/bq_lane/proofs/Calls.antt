-- A call of a pass with one caller, as contracts see the pass.
use Rattle.std.proofs.Common.{◌≡◌, ◌≢◌, ◌↔◌, ℕ, ◌+◌, ◌^◌, ◌<◌, ◌≤◌, List, [], length, get_or, sym, ap, subst, ◌∙◌}
use Rattle.atomic_table.specs.Seated.{TableId}
use Rattle.atomic_table.specs.declared.shared.Seat.{Seat}
use Rattle.bq_model.specs.declared.op.Op.{Op}
use Rattle.bq_model.specs.declared.op.Answer.{Answer}
use Rattle.bq_model.specs.declared.shape.Shape.{Shape}
use Rattle.bq_model.specs.Grows.{the_caller, Grew, SawMore, AtSomePoint}
use Rattle.bq_model.specs.NoShut.{NoShut}
use Rattle.bq_model.specs.Own.{mine}
use Rattle.bq_model.specs.Rooms.{PassesAllowance, PassesRoom}
use Rattle.bq_model.specs.Values.{enqueued}
use Rattle.word_rows.specs.Sizes.{words_of}
use Rattle.lane_steps.specs.declared.point.Point.{Point}
use Rattle.lane_steps.specs.LaneSizes.{lane_sizes}
use Rattle.lane_steps.specs.Start.{first_point}
use Rattle.lane_steps.specs.State.{Caller}
use Rattle.lane_rule.specs.declared.view.View.{View}
use Rattle.lane_rule.specs.Plays.{IsIdle}
use Rattle.bq_lane.specs.Applied.{Applied, Declined}
use Rattle.lane_course.specs.declared.scratch.Scratch.{Scratch}
use Rattle.bq_lane.specs.Pass.{PassState, callers_of, Counted, Rests}
use Rattle.bq_lane.proofs.Passes.{its, own, spent_is, the_caller_is}
use Rattle.bq_lane.proofs.Commands.{may_begin}
use Rattle.bq_lane.proofs.Grown.{grew}

-- a seat as contracts see it
abbrev seen_as : Seat ℕ View → Shape → PassState
seen_as p shape = record { table = p.table_id; shape = shape; callers = callers_of p.me.0; seen = p.me.0.seen }

module _ (p : Seat ℕ View) (shape : Shape) (caller : ℕ) (batches : ℕ) (operated : ℕ) (hand : Scratch) (r : Rests p.me shape caller batches operated hand) (v : PassState)
    (view : seen_as p shape ≡ v) (one : length v.callers ≡ 1) (ops : List Op) where
  pub one_here : length (callers_of p.me.0) ≡ 1
  one_here = subst (λ (q : PassState). length q.callers ≡ 1) (sym view) one

  counted : Counted shape p.me.0 caller batches operated hand
  counted = its p.me shape caller batches operated hand r one_here

  pub spent_if : (s : Shape) → v.shape ≡ s → (s.allowance < operated + length ops) ↔ PassesAllowance s v.seen (the_caller v.callers) ops
  spent_if s same = subst (λ (z : Shape). (z.allowance < operated + length ops) ↔ PassesAllowance z v.seen (the_caller v.callers) ops) same
      (subst (λ (q : PassState). (q.shape.allowance < operated + length ops) ↔ PassesAllowance q.shape q.seen (the_caller q.callers) ops) view (spent_is p.me shape caller batches operated hand r one_here ops))

  pub begins : (id : TableId) (key s : Shape) (t : Point) → v.table ≡ id → v.shape ≡ s → key ≡ s → id.words ≡ words_of s
      → ops ≢ [] → NoShut ops → length ops ≤ s.batch → ¬ (s.allowance < operated + length ops) → ((j : ℕ) → get_or (enqueued ops) j 0 < 2 ^ 64)
      → ((k : Caller) → length k.mine ≡ batches → t ≡ first_point (lane_sizes s) caller k ops) → IsIdle id key s caller ops t p
  begins id key s t of same keyed size some plain short left words first = let here : shape ≡ s = ap (λ (q : PassState). q.shape) view ∙ same in
      may_begin p shape caller batches operated hand r one_here ops some plain (subst (λ (z : Shape). length ops ≤ z.batch) (sym here) short) (subst (λ (z : Shape). ¬ (z.allowance < operated + length ops)) (sym here) left) words id key s t (ap (λ (q : PassState). q.table) view ∙ of) (here ∙ sym keyed) (sym keyed) (size ∙ ap words_of (sym keyed)) first

  pub grows : (q : Seat ℕ View) (xs : List Answer) (at : Scratch) → Applied p ops xs at q → Grew (the_caller v.callers) ops xs v.seen q.me.0.seen
  grows q xs at a = subst (λ (w : PassState). Grew (the_caller w.callers) ops xs w.seen q.me.0.seen) view
      (subst (λ (c : ℕ). Grew c ops xs p.me.0.seen q.me.0.seen) (the_caller_is p.me shape caller batches operated hand r one_here) (grew p q ops xs at (own p.me shape caller batches operated hand r one_here) a))

  pub sees_more : (q : Seat ℕ View) (at : Scratch) → Declined p ops at q → SawMore (the_caller v.callers) v.seen q.me.0.seen
  sees_more q at a = subst (λ (w : PassState). SawMore (the_caller w.callers) w.seen q.me.0.seen) view
      (subst (λ (c : ℕ). SawMore c p.me.0.seen q.me.0.seen) (the_caller_is p.me shape caller batches operated hand r one_here) record {
        more = a.rested.same.later.0;
        grown = a.rested.same.later.1;
        own = ap (mine q.me.0.seen) (sym a.rested.same.caller) ∙ (a.rested.own ∙ (a.same_groups ∙ sym (own p.me shape caller batches operated hand r one_here)));
      })

  -- it has an enqueue, and passed the room at a point of the call
  pub passed_room : (s : Shape) → v.shape ≡ s → (q : Seat ℕ View) (at : Scratch) → Declined p ops at q → (0 < length (enqueued ops)) × AtSomePoint (λ point. PassesRoom s point (the_caller v.callers) ops) v.seen q.me.0.seen
  passed_room s same q at a = (
    a.some,
    subst (λ (z : Shape). AtSomePoint (λ point. PassesRoom z point (the_caller v.callers) ops) v.seen q.me.0.seen) same
        (subst (λ (w : PassState). AtSomePoint (λ point. PassesRoom w.shape point (the_caller w.callers) ops) w.seen q.me.0.seen) view
        (subst (λ (y : Shape × ℕ). AtSomePoint (λ point. PassesRoom y.0 point y.1 ops) p.me.0.seen q.me.0.seen) (λ i. (r.planned i, the_caller_is p.me shape caller batches operated hand r one_here i)) a.passed)),
  )
