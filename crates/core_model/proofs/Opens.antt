-- An empty lane is lawful.
use Rattle.bq_model.specs.NoShut.{NoShut, ShutAlone}
use Rattle.std.proofs.Common.{◌≡◌, ◌≢◌, inl, inr, ℕ, suc, ◌+◌, ◌*◌, ◌-◌, ◌/◌, ◌<◌, ◌≤◌, eqb, Bool, true, false, not, [], cond, sym, refl, ap, ◌∙◌, arith, ne_eqb, le_refl, mul-le-mul_right, Option, Some, None, subst}
use Rattle.std.proofs.lemmas.Bool.{eqb-true}
use Rattle.std.proofs.lemmas.Nat.{div-mul-add}
use Rattle.std.proofs.lemmas.List.Elements.{All-nil}
use Rattle.bq_model.specs.declared.group.Group.{Group}
use Rattle.bq_model.specs.declared.shape.Shape.{Shape}
use Rattle.word_rows.specs.declared.head_word.HeadWord.TheVariants.{Node}
use Rattle.word_rows.specs.declared.marks.Marks.{Marks}
use Rattle.word_rows.specs.Opening.{opening_marks}
use Rattle.word_rows.specs.Sizes.{items_of, own_rows_of}
use Rattle.lane_steps.specs.declared.point.CallEnd.TheVariants.{Done}
use Rattle.lane_steps.specs.LaneSizes.{IsLane, lane_sizes, own_row, own_count}
use Rattle.lane_steps.specs.Start.{opening}
use Rattle.core_model.specs.Ghost.{Due, due, owes, paid, is_paid, unused, Ghost, World}
use Rattle.core_model.specs.Rows.{Takes, Debts, Retires, RetiresThese}
use Rattle.core_model.specs.Lawful.{Marked, Lawful}
use Rattle.core_model.proofs.Rely.{world, true_false, one_some, some_none, unused_waits, unused_decides}
use Rattle.core_model.proofs.Lists.{among_none}
use Rattle.core_model.proofs.Owing.{due_owes, due_paid}

-- row 0 is the first dummy, and has no value to be read
abbrev first_reader : ℕ → Due
first_reader i = cond (eqb i 0) paid due

abbrev first_spot : ℕ → Option ℕ
first_spot r = cond (eqb r 0) (Some 0) None

abbrev first_ghost : Ghost
first_ghost = record {
  path = λ _. 0;
  chained = λ _. false;
  spot = first_spot;
  reader = first_reader;
  passer = λ _. due;
  keeper = λ _. 0;
  head = 0;
  rest = 0;
  tail = 0;
  ann = None;
  shown = 0;
  queued = 0;
  linearized = λ _. false;
  stage = λ _. unused;
  span = λ _. 0;
  chain = λ _. 0;
  cause = λ _. 0;
  held = λ _. None;
  row_held = λ _. None;
}

-- the i-th of w rows of caller c, of n callers
row_inside : (n w c i : ℕ) → i < w → c < n → 1 + c * w + i < 1 + n * w
row_inside n w c i below known = let most : suc c * w ≤ n * w = mul-le-mul_right w known in let e : suc c * w ≡ c * w + w = omega (arith, Rattle.std.proofs.Math.Nat.suc-mul c w) in omega arith

pub row_home : (w c i : ℕ) → i < w → (1 + c * w + i - 1) / w ≡ c
row_home w c i below = ap (λ (n : ℕ). n / w) (let e : 1 + c * w + i - 1 ≡ c * w + i = omega arith in e) ∙ div-mul-add c w i below

-- where the i-th of them stands among the rows of its caller
behind : Shape → Bool → ℕ → ℕ
behind z true i = items_of z + i
behind z false i = i

pub is_lane : (z : Shape) → IsLane (lane_sizes z)
unfolding behind
is_lane z = record {
  some = λ b. some b;
  homes = λ b c i known below. subst (λ (r : ℕ). (r - 1) / own_rows_of z ≡ c) (sym (at b c i)) (row_home (own_rows_of z) c (behind z b i) (within b i below));
  inside = λ b c i known below. subst (λ (r : ℕ). r < 1 + z.callers * own_rows_of z) (sym (at b c i)) (row_inside z.callers (own_rows_of z) c (behind z b i) (within b i below) known);
} where
  some : (b : Bool) → 0 < own_count (lane_sizes z) b
  some true = omega arith
  some false = omega arith

  at : (b : Bool) (c i : ℕ) → own_row (lane_sizes z) c b i ≡ 1 + c * own_rows_of z + behind z b i
  at true c i = omega arith
  at false c i = refl

  within : (b : Bool) (i : ℕ) → i < own_count (lane_sizes z) b → behind z b i < own_rows_of z
  within true i below = omega arith
  within false i below = omega arith

-- the rows but the first are free
not_linked : (r : ℕ) → first_spot r ≡ None → (opening_marks r).free ≡ true
not_linked r none = by (eqb r 0) none where
  by : (b : Bool) → cond {A = Option ℕ} b (Some 0) None ≡ None → not b ≡ true
  by true e = absurd (some_none e)
  by false e = refl

first_row : (r i : ℕ) → first_spot r ≡ Some i → (r ≡ 0) × (i ≡ 0)
first_row r i at = by (eqb r 0) refl at where
  by : (b : Bool) → eqb r 0 ≡ b → cond {A = Option ℕ} b (Some 0) None ≡ Some i → (r ≡ 0) × (i ≡ 0)
  by true e at = (eqb-true r 0 e, sym (one_some at))
  by false e at = absurd (some_none (sym at))

no_debt : (i c : ℕ) → first_reader i ≡ owes c → ⊥
no_debt i c e = by (eqb i 0) e where
  by : (b : Bool) → cond b paid due ≡ owes c → ⊥
  by true e = cc e
  by false e = cc e

first_marks : Marked opening_marks first_spot first_reader (λ _. due) 0 0
first_marks = record {
  kept = λ r i at. ap (λ (n : ℕ). (opening_marks n).free) (first_row r i at).0;
  read = λ r i at. sym (ap (λ (n : ℕ). is_paid (first_reader n)) (first_row r i at).1);
  passed = λ r i at. ap (λ (n : ℕ). (opening_marks n).passed) (first_row r i at).0;
  unread = λ i late. unread i (omega arith);
  unpassed = λ _ _. refl;
  was_read = λ i early none. was_read i (omega arith) none;
  was_passed = λ i early. absurd (omega arith);
  behind = λ i e. absurd (due_paid refl e);
} where
  unread : (i : ℕ) → i ≢ 0 → first_reader i ≡ due
  unread i ne = ap (λ (b : Bool). cond b paid due) (ne_eqb i 0 ne)

  was_read : (i : ℕ) → i ≡ 0 → first_reader i ≡ due → ⊥
  was_read i e none = due_paid none (ap first_reader e)

module _ (z : Shape) (c : ℕ) where
  abbrev W : World
  W = world (opening (lane_sizes z)) first_ghost

  none_retired : (r : ℕ) → Retires (lane_sizes z) W c r → ⊥
  none_retired r (inl (i, x)) = due_paid refl x.was_passed
  none_retired r (inr l) = true_false (sym (ap (λ (m : Marks). m.passed) l.marks) ∙ ap (λ (m : Marks). m.free) l.marks)

  no_rows : RetiresThese (lane_sizes z) W c []
  no_rows = record { distinct = tt; each = λ r is. absurd (among_none r is); all = λ r x. absurd (none_retired r x) }

  none_taken : Takes (lane_sizes z) W c []
  none_taken r home none taken fresh = absurd (true_false (sym (not_linked r none) ∙ taken))

  no_debts : Debts (lane_sizes z) W c [] []
  no_debts = record { passes = λ i e. absurd (due_owes refl e); unread = λ i e. absurd (no_debt i c e) }

pub opens : (z : Shape) → Lawful (lane_sizes z) (opening (lane_sizes z))
opens z = record {
  ghost = first_ghost;
  history = record { never_shut = All-nil (λ (g : Group). NoShut g.ops); proper = record { known = All-nil (λ (g : Group). g.caller < z.callers); filled = All-nil (λ (g : Group). g.ops ≢ []); shuts = All-nil (λ (g : Group). ShutAlone g.ops); numbered = λ _. refl } };
  queue = refl;
  owners = refl;
  sizes = is_lane z;
  list = record {
    rows = record {
      joined = λ i _ below. absurd (omega arith);
      last = refl;
      spots = λ i _ below. ap Some (let e : 0 ≡ i = omega arith in e);
      inside = λ i _. omega arith;
      placed = λ r i at. let first = first_row r i at in let here = first.1 in (omega arith, sym first.0);
    };
    item_rows = λ i above below. absurd (omega arith);
    head = record {
      named = λ i. Node (record { row = 0; count = (let e : z.first_count ≡ z.first_count + 0 = omega arith in e) i });
      none = λ _. refl;
      fits = refl;
    };
    tail = record {
      named = λ i. record { row = 0; count = (let e : z.first_count ≡ z.first_count + 0 = omega arith in e) i };
      after_head = le_refl _;
      within = le_refl _;
      lags = λ below _. absurd (omega arith);
    };
    counts = le_refl _;
    links = λ _. tt;
  };
  marks = first_marks;
  announced = record {
    inside = λ a e. absurd (nothing e);
    installed = λ a e. absurd (nothing e);
    old_head = λ a e. absurd (nothing e);
    waits = λ a e. absurd (unused_waits refl e);
    bound = λ a i e. absurd (unused_decides refl e);
    standing = λ a i e _. absurd (nothing e);
    unknown = λ a e. refl;
    recorded = λ a i q e _. absurd (unused_decides refl e);
    unrecorded = λ a i e _. absurd (unused_decides refl e);
    left = λ a i h e _ _. absurd (unused_decides refl e);
    lags = λ below _. absurd (omega arith);
  };
  told = λ a e. absurd (nothing e);
  pending = λ a e. absurd (unused_waits refl e);
  callers = λ c. record {
    guards = record { word = refl; holds = refl; installed = λ a e. absurd (nothing e); known = λ a e. absurd (nothing e) };
    guards_row = record { word = refl; holds = refl; placed = λ a e. absurd (nothing e); known = λ a e. absurd (nothing e) };
    own_groups = refl;
    allowed = omega arith;
    knows = record {
      retired = no_rows z c;
      started = le_refl _;
      last = record { none = λ _. refl; done = λ is. absurd (never is) };
      at_point = record { call = ((refl, (λ a e _. nothing e), (λ _ a e _. nothing e), none_taken z c, no_debts z c), tt); here = ((refl, (λ some. absurd (some refl)), refl, refl), tt) };
    };
  };
} where
  nothing : {a : ℕ} → None ≡ Some a → ⊥
  nothing e = cc e

  never : None ≡ Some Done → ⊥
  never e = cc e
