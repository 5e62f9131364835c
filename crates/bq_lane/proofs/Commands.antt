-- A command of a resting seat: that it may start, and what the seat keeps after it.
use Rattle.std.proofs.Common.{◌≡◌, ◌≢◌, inl, inr, ℕ, ◌+◌, ◌^◌, ◌<◌, ◌≤◌, List, [], ◌∷◌, length, get_or, refl, sym, ap, subst, ◌∙◌, arith, length-append}
use Rattle.atomic_table.specs.Table.{Me}
use Rattle.atomic_table.specs.Seated.{TableId}
use Rattle.atomic_table.specs.declared.shared.Seat.{Seat}
use Rattle.bq_model.specs.declared.op.Op.{Op}
use Rattle.bq_model.specs.declared.op.Answer.{Answer}
use Rattle.bq_model.specs.declared.group.Group.{Group}
use Rattle.bq_model.specs.declared.shape.Shape.{Shape}
use Rattle.bq_model.specs.History.{operations}
use Rattle.bq_model.specs.Own.{mine}
use Rattle.bq_model.specs.NoShut.{NoShut}
use Rattle.bq_model.specs.Proper.{IsProper}
use Rattle.bq_model.specs.Values.{enqueued}
use Rattle.bq_model.proofs.Histories.{operations-push}
use Rattle.word_rows.specs.Sizes.{words_of}
use Rattle.lane_steps.specs.declared.point.Point.{Point}
use Rattle.lane_steps.specs.declared.point.Point.TheVariants.{Idle}
use Rattle.lane_steps.specs.LaneSizes.{lane_sizes}
use Rattle.core_model.specs.Lawful.{Allowed}
use Rattle.lane_steps.specs.Start.{PassesAllowance, IsCommand, first_point}
use Rattle.lane_steps.specs.State.{Caller}
use Rattle.lane_rule.specs.declared.view.Kept.{Kept}
use Rattle.lane_rule.specs.declared.view.Kind.{Kind}
use Rattle.lane_rule.specs.declared.view.Kind.TheVariants.{Alone, Gathered}
use Rattle.lane_rule.specs.declared.view.View.{View}
use Rattle.lane_rule.specs.Begun.{MayStart, begun}
use Rattle.lane_rule.specs.Goes.{Ready}
use Rattle.lane_rule.specs.Plays.{IsIdle}
use Rattle.lane_rule.specs.Rule.{caller_of}
use Rattle.lane_rule.specs.Seating.{held_as, Holds, Idles}
use Rattle.lane_rule.proofs.FirstPoints.{first_ready}
use Rattle.bq_lane.specs.Applied.{Rested, Applied, Declined}
use Rattle.lane_course.specs.Running.{Agrees}
use Rattle.lane_course.specs.Scratch.{keeping, SameRoom}
use Rattle.lane_course.specs.declared.scratch.Scratch.{Scratch}
use Rattle.bq_lane.specs.Pass.{callers_of, Counted, Rests}
use Rattle.lane_course.proofs.Advances.{reserved}
use Rattle.bq_lane.proofs.Passes.{alone, its, idle}

pub some_operation : (ops : List Op) → ops ≢ [] → 0 < length ops
some_operation [] some = absurd (some refl)
some_operation (op ∷ ops) some = omega arith

pub is_command : (ops : List Op) → ops ≢ [] → NoShut ops → IsCommand ops
is_command ops some plain = (some_operation ops some, plain)

module _ (me : Me ℕ View) (shape : Shape) (caller : ℕ) (batches : ℕ) (operated : ℕ) (hand : Scratch) (r : Rests me shape caller batches operated hand) (one : length (callers_of me.0) ≡ 1) (ops : List Op) where
  abbrev k : Caller
  k = caller_of me.0.kept

  counted : Counted shape me.0 caller batches operated hand
  counted = its me shape caller batches operated hand r one

  module _ (some : ops ≢ []) (plain : NoShut ops) (short : length ops ≤ shape.batch) (left : ¬ (shape.allowance < operated + length ops)) (words : (j : ℕ) → get_or (enqueued ops) j 0 < 2 ^ 64) where
    pub may_start : MayStart me.0 ops
    may_start = record {
      idle = idle me shape caller batches operated hand r one;
      command = is_command ops some plain;
      left = λ passes. left (subst (λ (n : ℕ). shape.allowance < n + length ops) (sym counted.operated_is) (subst (λ (s : Shape). PassesAllowance (lane_sizes s) (caller_of me.0.kept) (length ops)) r.planned passes));
      short = subst (λ (s : Shape). length ops ≤ s.batch) (sym r.planned) short;
      values = words;
    }

module _ (p : Seat ℕ View) (shape : Shape) (caller : ℕ) (batches : ℕ) (operated : ℕ) (hand : Scratch) (r : Rests p.me shape caller batches operated hand) (one : length (callers_of p.me.0) ≡ 1) (ops : List Op)
    (some : ops ≢ []) (plain : NoShut ops) (short : length ops ≤ shape.batch) (left : ¬ (shape.allowance < operated + length ops)) (words : (j : ℕ) → get_or (enqueued ops) j 0 < 2 ^ 64) where
  known : Counted shape p.me.0 caller batches operated hand
  known = its p.me shape caller batches operated hand r one

  -- its command begins at this point
  pub may_begin : (id : TableId) (key s : Shape) (t : Point) → p.table_id ≡ id → shape ≡ key → s ≡ key → id.words ≡ words_of key
      → ((k : Caller) → length k.mine ≡ batches → t ≡ first_point (lane_sizes s) caller k ops)
      → IsIdle id key s caller ops t p
  may_begin id key s t of same here size first = record {
    table = of;
    size = size;
    shape = here;
    planned = r.planned ∙ same;
    alone = alone p.me shape caller batches operated hand r one;
    may = may_start p.me shape caller batches operated hand r one ops some plain short left words;
    caller = sym known.caller_is;
    point = its_point;
    ready = subst (Ready key caller) its_point (first_ready key caller (caller_of p.me.0.kept) ops (subst (λ (y : ℕ × Shape). y.0 < y.1.callers) (λ i. (sym known.caller_is i, same i)) known.known) (is_command ops some plain));
  } where
    its_point : first_point (lane_sizes key) caller (caller_of p.me.0.kept) ops ≡ t
    its_point = sym (first (caller_of p.me.0.kept) (sym known.batches_are) ∙ (λ i. first_point (lane_sizes (here i)) caller (caller_of p.me.0.kept) ops))

-- what is at hand as a command begins is what its view keeps
pub begins_agreed : (v : View) (a b : Scratch) → Agrees v.kept a → ((w : Caller) → keeping w b ≡ record (keeping w a) { rows = []; values = []; walked = [] }) → (n : ℕ) (ops : List Op) → Agrees (begun v n ops).kept b
begins_agreed v a b agrees laid n ops = let e = sym (laid (caller_of v.kept)) in λ i. record (caller_of (begun v n ops).kept) {
  rows = (e i).rows;
  values = (e i).values;
  walked = (e i).walked;
  retired = (ap (λ (w : Caller). w.retired) agrees ∙ ap (λ (w : Caller). w.retired) e) i;
  named = (ap (λ (w : Caller). w.named) agrees ∙ ap (λ (w : Caller). w.named) e) i;
  row_hold = (ap (λ (w : Caller). w.row_hold) agrees ∙ ap (λ (w : Caller). w.row_hold) e) i;
  hold = (ap (λ (w : Caller). w.hold) agrees ∙ ap (λ (w : Caller). w.hold) e) i;
}

-- what a seat keeps after a command, of which it then has so many groups, with so many operations
module _ (p q : Seat ℕ View) (shape : Shape) (caller batches operated : ℕ) (hand hand' : Scratch) (r : Rests p.me shape caller batches operated hand) (one : length (callers_of p.me.0) ≡ 1) (same : SameRoom hand hand') (a : Rested p hand' q) where
  before : Counted shape p.me.0 caller batches operated hand
  before = its p.me shape caller batches operated hand r one

  planned' : q.me.0.shape ≡ shape
  planned' = a.same.shape ∙ r.planned

  pub rests_with : (batches' operated' : ℕ) → batches' ≡ length q.me.0.kept.mine → operated' ≡ length (operations q.me.0.kept.mine) → batches' ≤ operated' → Rests q.me shape caller batches' operated' hand'
  rests_with batches' operated' number count within = record {
    carries_none = a.same.slots ∙ r.carries_none;
    heard_none = a.heard;
    planned = planned';
    between_calls = subst Idles (sym a.alone) tt;
    several = λ is. absurd (apart (sym a.alone ∙ is));
    proper = subst (λ (s : Shape). IsProper s.callers q.me.0.seen) planned' a.proper;
    never_shut = a.never_shut;
    own = λ c k h. by c k (subst (λ (kind : Kind). Holds c k (held_as kind q.me.0)) a.alone h);
    alone = λ _. record {
      caller_is = before.caller_is ∙ sym a.same.caller;
      known = subst (λ (c : ℕ). c < shape.callers) (sym a.same.caller) before.known;
      batches_are = number;
      operated_is = count;
      batches_within = within;
      allowed = subst (λ (s : Shape). Allowed (lane_sizes s) q.me.0.kept.mine []) planned' a.allowed;
      agrees = a.agrees;
      few = subst (λ (s : Shape). length q.me.0.kept.retired < s.callers) planned' a.few;
      apart = a.apart;
    };
    reserves = reserved shape hand hand' same r.reserves;
  } where
    apart : Alone ≡ Gathered → ⊥
    apart e = cc e

    by : (c : ℕ) (k : Kept) → Holds c k (held_as Alone q.me.0) → (k.point ≡ Idle) × (mine q.me.0.seen c ≡ k.mine)
    by c k (inl h) = (ap (λ (y : Kept). y.point) (sym h.1) ∙ a.idle, ap (mine q.me.0.seen) (sym h.0) ∙ (a.own ∙ ap (λ (y : Kept). y.mine) h.1))
    by c k (inr h) = absurd h

-- after one that was done, and after one that was refused
module _ (p q : Seat ℕ View) (shape : Shape) (caller batches operated : ℕ) (hand hand' : Scratch) (ops : List Op) (r : Rests p.me shape caller batches operated hand) (one : length (callers_of p.me.0) ≡ 1) (same : SameRoom hand hand') where
  pub rests_applied : (xs : List Answer) → 0 < length ops → Applied p ops xs hand' q → Rests q.me shape caller (batches + 1) (operated + length ops) hand'
  rests_applied xs some a = let known = its p.me shape caller batches operated hand r one in rests_with p q shape caller batches operated hand hand' r one same a.rested (batches + 1) (operated + length ops)
      (let e = ap length a.grown ∙ length-append p.me.0.kept.mine _ in let b = known.batches_are in omega (arith, e, b))
      (let e : length (operations q.me.0.kept.mine) ≡ length (operations p.me.0.kept.mine) + length ops = ap (λ (gs : List Group). length (operations gs)) a.grown ∙ (ap length (operations-push p.me.0.kept.mine _) ∙ length-append (operations p.me.0.kept.mine) ops) in
      let b = known.operated_is in omega (arith, e, b))
      (let b = known.batches_within in omega (arith, b, some))

  pub rests_refused : Declined p ops hand' q → Rests q.me shape caller batches operated hand'
  rests_refused a = let known = its p.me shape caller batches operated hand r one in rests_with p q shape caller batches operated hand hand' r one same a.rested batches operated
      (known.batches_are ∙ ap length (sym a.same_groups)) (known.operated_is ∙ ap (λ (gs : List Group). length (operations gs)) (sym a.same_groups)) known.batches_within
