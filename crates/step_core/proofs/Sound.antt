-- A step finds all that it needs in sound lists, and leaves them sound.
use Rattle.std.proofs.Common.{◌≡◌, ◌≢◌, ⊎_elim, ℕ, zero, suc, ◌+◌, ◌-◌, ◌<◌, ◌≤◌, ◌↔◌, ltb, Bool, true, false, List, [], ◌∷◌, length, map, slice_index_or, slice_get, sym, refl, ap, ◌∙◌, subst, arith, All, IfSome, Option, Some, Result, Ok, Err, OnOk, vec_len, vec_capacity}
use Rattle.std.proofs.lemmas.List.{length-map}
use Rattle.std.proofs.lemmas.Bool.{ltb-true, lt-ltb}
use Rattle.std.specs.declared.vec.Vec.{Vec}
use Rattle.std.specs.declared.alloc.Global.{Global}
use Rattle.bq_model.specs.declared.op.Op.{Op}
use Rattle.bq_model.specs.declared.group.Group.{Group}
use Rattle.bq_model.specs.declared.shape.Shape.{Shape}
use Rattle.bq_model.specs.History.{operations}
use Rattle.bq_model.specs.Own.{mine}
use Rattle.word_rows.specs.Sizes.{rows_of, anns_of}
use Rattle.word_rows.proofs.SizeLemmas.{rows_within}
use Rattle.lane_steps.specs.declared.point.Point.{Point}
use Rattle.lane_steps.specs.declared.point.Point.TheVariants.{Idle}
use Rattle.lane_steps.specs.Functions.{put}
use Rattle.lane_steps.specs.LaneSizes.{LaneSizes, lane_sizes}
use Rattle.lane_steps.specs.Start.{newcomer, PassesAllowance}
use Rattle.lane_steps.specs.State.{Caller, State, read}
use Rattle.lane_steps.specs.Step.{target, linearizes, group_owner, next}
use Rattle.lane_steps.specs.Ranges.{IsWord, RowsFit, CountsFit}
use Rattle.core_model.specs.Lawful.{Lawful}
use Rattle.core_model.proofs.Puts.{put_all}
use Rattle.core_model.specs.Few.{ListsFit, Few, HasFew}
use Rattle.core_model.proofs.FewSteps.{lists_fit}
use Rattle.lane_room.specs.Roomy.{Roomy}
use Rattle.lane_room.proofs.Roomy.{roomy_next}
use Rattle.excess_count.specs.Excess.{enqueue_count, is_enqueue}
use Rattle.std.proofs.lemmas.List.Sums.{count_by-le-length}
use Rattle.lane_steps.specs.declared.point.Point.TheVariants as point
use Rattle.lane_steps.specs.declared.point.FillPoint.TheVariants as fill
use Rattle.lane_steps.specs.declared.point.ClosePoint.TheVariants as close
use Rattle.core_model.proofs.InRange.{counts_fit, rows_fit, is_word, shape_fits}
use Rattle.step_core.specs.declared.call.Call.{Call}
use Rattle.step_core.specs.declared.lists.Lists.{Lists}
use Rattle.step_core.specs.declared.words.Words.{Words}
use Rattle.step_core.specs.Words.{memory_of, sizes_of, sizes_for}
use Rattle.step_core.specs.Calls.{call_of, IsReady, MayGo}
use Rattle.step_core.specs.Due.{due}
use Rattle.step_core.specs.Refused.{enqueues_of, KnowsWhy}
use Rattle.step_core.specs.Lists.{callers_of, state_of, copy_at, all_due, MayLinearize, IsSound}
use Rattle.step_core.proofs.Totals.{total, total_le, total_list}
use Rattle.step_core.proofs.Callers.{caller_is}
use Rattle.step_core.proofs.Refusals.{why_next}
use Rattle.step_core.proofs.Landings.{due_falls, due_groups, goes_on_same, one_more, owner_known, owner_waits, another, others_mine, leaves_history}

-- a call of the list
pub call_at : (ks : List Call) (c : ℕ) → c < length ks → (k : Call) × (slice_get ks c ≡ Some k) × ((d : Call) → slice_index_or ks c d ≡ k)
call_at [] c below = absurd (omega arith)
call_at (k ∷ ks) zero below = (k, refl, λ _. refl)
call_at (k ∷ ks) (suc c) below = call_at ks c (omega arith)

module _ (a : Lists) (S : IsSound a) where
  -- no command has more operations than a batch
  short : (c : ℕ) → c < a.shape.callers → length (callers_of a.calls.items c).ops ≤ a.shape.batch
  short c below = let inside : c < length a.calls.items = let n = S.calls in omega arith in let f = call_at a.calls.items c inside in
      let e = ap (λ (k : Caller). length k.ops) (caller_is a.calls.items c f.0 inside (sym (f.2 f.0))) in let fits = (subst (IsReady a.shape.batch a.shape.callers) (f.2 f.0) (S.ready c f.0 inside)).fits in omega arith

  -- the groups that are due, caller by caller
  due_each : total a.shape.callers (λ c. due (callers_of a.calls.items c)) ≡ all_due a.calls.items
  due_each = total_list due newcomer (map call_of a.calls.items) a.shape.callers (let n = S.calls in let m = length-map a.calls.items call_of in omega arith)

  module _ (c : ℕ) where
    pub finds_word : (t : Point) → t ≡ (callers_of a.calls.items c).point → IsWord (rows_of a.shape) a.shape.callers (anns_of a.shape) (target c t)
    finds_word t at = subst (λ (u : Point). IsWord (rows_of a.shape) a.shape.callers (anns_of a.shape) (target c u)) (sym at) (is_word (lane_sizes a.shape) (state_of a) S.roomy.lawful c)

    pub fits_count : (t : Point) → t ≡ (callers_of a.calls.items c).point → CountsFit t
    fits_count t at = subst CountsFit (sym at) (counts_fit (lane_sizes a.shape) (state_of a) S.roomy.lawful (shape_fits a.shape) c)

    pub fits_rows : (t : Point) → t ≡ (callers_of a.calls.items c).point → RowsFit t
    fits_rows t at = subst RowsFit (sym at) (rows_fit (lane_sizes a.shape) (state_of a) S.roomy.lawful (shape_fits a.shape) (let most = rows_within a.shape in omega arith) c)

    module _ (runs : (callers_of a.calls.items c).point ≢ Idle) (t : Point) (at : t ≡ (callers_of a.calls.items c).point) where
      -- the lists as a later part of the step finds them
      pub may_linearize : (b : Lists) → b.shape ≡ a.shape → b.calls ≡ a.calls → b.copies ≡ a.copies → b.history ≡ a.history
          → linearizes t (read (memory_of a.words) (target c t)) ≡ true → MayLinearize b (group_owner (lane_sizes a.shape) c t)
      may_linearize b shape calls copies history g = let z = lane_sizes a.shape in let s = state_of a in let d = group_owner z c t in let below = owner_known z s S.roomy.lawful c runs t at g in let waits = owner_waits z s S.roomy.lawful c runs t at g in record {
        inside = let n = S.calls in let e = ap (λ (v : Vec Call Global). vec_len v) calls in omega arith;
        with_copy = let n = S.copies in let e = ap (λ (v : Vec (List Op) Global). vec_len v) copies in omega arith;
        room = let more = one_more z s S.roomy.lawful c runs t at g in let sum = due_each in let room = S.reserved in let e = ap (λ (v : Vec Group Global). vec_len v) history in let m = ap (λ (v : Vec Group Global). vec_capacity v) history in omega arith;
        copied = ap (λ (v : Vec (List Op) Global). copy_at v.items d) copies ∙ (S.copied d waits.0 waits.1 ∙ ap (λ (v : Vec Call Global). (callers_of v.items d).ops) (sym calls));
      }

  pub may_go : (ks : List Call) (c : ℕ) → ks ≡ a.calls.items → c < length ks → (callers_of a.calls.items c).point ≢ Idle → IfSome (slice_get ks c) (MayGo a.shape c)
  may_go ks c same below runs = let f = call_at ks c below in subst (λ (o : Option Call). IfSome o (MayGo a.shape c)) (sym f.1)
      (let is = caller_is ks c f.0 below (sym (f.2 f.0)) in let was : callers_of a.calls.items c ≡ call_of f.0 = ap (λ (ys : List Call). callers_of ys c) (sym same) ∙ is in
      let R : IsReady a.shape.batch a.shape.callers f.0 = subst (IsReady a.shape.batch a.shape.callers) (f.2 f.0) (subst (All (IsReady a.shape.batch a.shape.callers)) (sym same) S.ready c f.0 below) in
      let within = (S.roomy.lawful.callers c).allowed in let most = a.shape.some_allowance.1 in
      let inside : c < a.shape.callers = let n = S.calls in let m = ap (λ (ys : List Call). length ys) same in omega arith in
      let F : ListsFit a.shape.callers (call_of f.0) = subst (ListsFit a.shape.callers) was (lists_fit a.shape (state_of a) S.roomy.lawful c) in
      let at : (t : Point) → f.0.point ≡ t → Few a.shape c t f.0.ops f.0.rows.items f.0.walked.items f.0.retired.items f.0.named.items
      = λ t is. subst (λ (u : Point). Few a.shape c u f.0.ops f.0.rows.items f.0.walked.items f.0.retired.items f.0.named.items) is (subst (HasFew a.shape c) was (S.roomy.shares.each c inside).few) in record {
        known = let n = S.calls in let m = ap (λ (ys : List Call). length ys) same in omega arith;
        may_end = record {
          ready = subst (λ (p : ℕ × ℕ). IsReady p.0 p.1 f.0) (λ i. (sym R.answers i, sym R.named i)) R;
          runs = λ idle. runs (ap (λ (k : Caller). k.point) was ∙ idle);
          fits = let e = ap (λ (k : Caller). length (operations k.mine) + length k.ops) was in omega arith;
        };
        some = let n = R.answers in let least = a.shape.some_batch.0 in omega arith;
        rows = fits_rows c f.0.point (sym (ap (λ (k : Caller). k.point) was));
        fills = λ n r v is. let less = F.fills n r v is in let most = count_by-le-length is_enqueue f.0.ops in omega arith;
        links = λ n i r q is. let next = F.chains n i r q is in let early = at (point.Fill n (fill.StoreChain i r q)) is in let most = count_by-le-length is_enqueue f.0.ops in let fits = R.fits in let small = a.shape.some_batch.1 in
            ⊎_elim (λ (one : length f.0.rows.items ≤ 1). let o = one in omega arith) (λ (few : length f.0.rows.items ≤ enqueue_count f.0.ops). let e = few in omega arith) early.few_rows;
        reads = λ b r l is. let on = F.reads b r l is in let left = on.left in let same = on.paired in (omega arith, omega arith);
        walks = λ d r l is. let on = F.walks d r l is in let left = on.left in let same = on.paired in (omega arith, omega arith);
        scans = λ n d is. let m = R.named in let room = F.hears n d is in let less = room.1 in (room.0, omega arith, omega arith);
        finds = λ x d is. let m = R.named in let few = (at (point.Close x (close.LoadHazard d)) is).0 in let word : d < a.shape.callers = subst (λ (t : Point). IsWord (rows_of a.shape) a.shape.callers (anns_of a.shape) (target c t)) (ap (λ (k : Caller). k.point) was ∙ is) (finds_word c (callers_of a.calls.items c).point refl) in (word, omega arith);
        marks = λ x q read passed stopped is. let m = R.retired in let few = at (point.Close x (close.MarkRow q read passed stopped)) is in omega arith;
        loses = λ x r is. let m = R.retired in let few = at (point.Close x (close.MarkLoose r)) is in omega arith;
      })

  module _ (c : ℕ) (runs : (callers_of a.calls.items c).point ≢ Idle) (e : Lists) (t : Point) (at : t ≡ (callers_of a.calls.items c).point)
      (step : state_of e ≡ next (lane_sizes a.shape) (state_of a) c) (shape : e.shape ≡ a.shape)
      (sizes : sizes_of e.words ≡ sizes_of a.words) (calls : vec_len e.calls ≡ vec_len a.calls) (copies : vec_len e.copies ≡ vec_len a.copies) (numbers : e.enqueues ≡ a.enqueues)
      (ready : All (IsReady a.shape.batch a.shape.callers) e.calls.items) (capacity : vec_capacity e.history ≡ vec_capacity a.history)
      (others : (d : ℕ) → d ≢ group_owner (lane_sizes a.shape) c t → copy_at e.copies.items d ≡ copy_at a.copies.items d)
      (still : linearizes t (read (memory_of a.words) (target c t)) ≡ false → (d : ℕ) → copy_at e.copies.items d ≡ copy_at a.copies.items d) where
    copied_next : (d : ℕ) → ((next (lane_sizes a.shape) (state_of a) c).callers d).point ≢ Idle
        → length (mine (next (lane_sizes a.shape) (state_of a) c).history d) ≡ length ((next (lane_sizes a.shape) (state_of a) c).callers d).mine
        → copy_at e.copies.items d ≡ ((next (lane_sizes a.shape) (state_of a) c).callers d).ops
    copied_next d runs' none = by (linearizes t (read (memory_of a.words) (target c t))) refl where
      z : LaneSizes
      z = lane_sizes a.shape

      by : (b : Bool) → linearizes t (read (memory_of a.words) (target c t)) ≡ b → copy_at e.copies.items d ≡ ((next (lane_sizes a.shape) (state_of a) c).callers d).ops
      by true g = let on = goes_on_same (lane_sizes a.shape) (state_of a) S.roomy.lawful c runs d runs' in let apart = another (lane_sizes a.shape) (state_of a) S.roomy.lawful c runs t at g d runs' none in
          others d apart ∙ (S.copied d on.0 (ap length (sym (others_mine (lane_sizes a.shape) (state_of a) S.roomy.lawful c runs t at g d apart)) ∙ (none ∙ ap length on.2)) ∙ sym on.1)
      by false g = let on = goes_on_same (lane_sizes a.shape) (state_of a) S.roomy.lawful c runs d runs' in
          still g d ∙ (S.copied d on.0 (ap (λ (h : List Group). length (mine h d)) (sym (leaves_history (lane_sizes a.shape) (state_of a) S.roomy.lawful c runs t at g)) ∙ (none ∙ ap length on.2)) ∙ sym on.1)

    pub stays_sound : IsSound e
    stays_sound = record {
      roomy = subst (λ (z : Shape). Roomy z (state_of e)) (sym shape) (subst (Roomy a.shape) (sym step) (roomy_next a.shape (state_of a) S.roomy c));
      sizes = sizes ∙ (S.sizes ∙ ap (λ (z : Shape). sizes_for (rows_of z) (anns_of z) z.callers) (sym shape));
      calls = calls ∙ (S.calls ∙ ap (λ (z : Shape). z.callers) (sym shape));
      copies = copies ∙ (S.copies ∙ ap (λ (z : Shape). z.callers) (sym shape));
      ready = subst (λ (z : Shape). All (IsReady z.batch z.callers) e.calls.items) (sym shape) ready;
      reserved = let falls = total_le a.shape.callers (λ d. due ((next (lane_sizes a.shape) (state_of a) c).callers d)) (λ d. due (callers_of a.calls.items d)) (λ d _. due_falls (lane_sizes a.shape) (state_of a) S.roomy.lawful c runs d) in
          let was = due_each in let now = total_list due newcomer (map call_of e.calls.items) a.shape.callers (let n = S.calls in let m = length-map e.calls.items call_of in let l = calls in omega arith) in
          let same = ap (λ (s : State). total a.shape.callers (λ d. due (s.callers d))) step in let room = S.reserved in let cap = capacity in omega arith;
      copied = subst (λ (s : State). (d : ℕ) → (s.callers d).point ≢ Idle → length (mine s.history d) ≡ length (s.callers d).mine → copy_at e.copies.items d ≡ (s.callers d).ops) (sym step) copied_next;
      numbers = ap (λ (v : Vec ℕ Global). vec_len v) numbers ∙ (S.numbers ∙ ap (λ (z : Shape). z.callers) (sym shape));
      why = subst (λ (z : Shape). (d : ℕ) → KnowsWhy z.room e.history.items d (callers_of e.calls.items d) (enqueues_of e.enqueues.items d)) (sym shape)
          (subst (λ (v : Vec ℕ Global). (d : ℕ) → KnowsWhy a.shape.room e.history.items d (callers_of e.calls.items d) (enqueues_of v.items d)) (sym numbers)
          (subst (λ (s : State). (d : ℕ) → KnowsWhy a.shape.room s.history d (s.callers d) (enqueues_of a.enqueues.items d)) (sym step)
          (why_next a.shape (state_of a) S.roomy c runs (enqueues_of a.enqueues.items) S.why)));
    }

-- what a caller has made is within its allowance
pub made_within : (a : Lists) (S : IsSound a) (c : ℕ) (k : Call) → c < length a.calls.items → k ≡ slice_index_or a.calls.items c k → k.operations ≤ a.shape.allowance
made_within a S c k below is = let within = (S.roomy.lawful.callers c).allowed in let made = (subst (IsReady a.shape.batch a.shape.callers) (sym is) (S.ready c k below)).operations in
    let e = ap (λ (y : Caller). length (operations y.mine)) (caller_is a.calls.items c k below is) in omega arith

pub spent_is : (a : Lists) (S : IsSound a) (c : ℕ) (k : Call) (allowance more : ℕ) → c < length a.calls.items → k ≡ slice_index_or a.calls.items c k → allowance ≡ a.shape.allowance
    → (ltb (allowance - k.operations) more ≡ true) ↔ PassesAllowance (lane_sizes a.shape) (callers_of a.calls.items c) more
spent_is a S c k allowance more below is same = let made = (subst (IsReady a.shape.batch a.shape.callers) (sym is) (S.ready c k below)).operations in let within = made_within a S c k below is in
    let e = ap (λ (y : Caller). length (operations y.mine)) (caller_is a.calls.items c k below is) in
    ((λ t. let less = ltb-true _ _ t in omega arith), λ passes. lt-ltb _ _ (omega arith))

-- lists that show the same lane
pub again_sound : (a b : Lists) → IsSound a → state_of b ≡ state_of a → b.shape ≡ a.shape → sizes_of b.words ≡ sizes_of a.words → vec_len b.calls ≡ vec_len a.calls
    → b.copies ≡ a.copies → b.enqueues ≡ a.enqueues → All (IsReady a.shape.batch a.shape.callers) b.calls.items → vec_capacity a.history ≤ vec_capacity b.history → all_due b.calls.items ≡ all_due a.calls.items → IsSound b
again_sound a b S same shape sizes calls copies numbers ready capacity waiting = record {
  roomy = subst (λ (z : Shape). Roomy z (state_of b)) (sym shape) (subst (Roomy a.shape) (sym same) S.roomy);
  sizes = sizes ∙ (S.sizes ∙ ap (λ (z : Shape). sizes_for (rows_of z) (anns_of z) z.callers) (sym shape));
  calls = calls ∙ (S.calls ∙ ap (λ (z : Shape). z.callers) (sym shape));
  copies = ap (λ (v : Vec (List Op) Global). vec_len v) copies ∙ (S.copies ∙ ap (λ (z : Shape). z.callers) (sym shape));
  ready = subst (λ (z : Shape). All (IsReady z.batch z.callers) b.calls.items) (sym shape) ready;
  reserved = let r = S.reserved in let c = capacity in let w = waiting in omega arith;
  copied = subst (λ (v : List (List Op)). (d : ℕ) → (callers_of b.calls.items d).point ≢ Idle → length (mine b.history.items d) ≡ length (callers_of b.calls.items d).mine → copy_at v d ≡ (callers_of b.calls.items d).ops) (ap (λ (v : Vec (List Op) Global). v.items) (sym copies))
      (subst (λ (s : State). (d : ℕ) → (s.callers d).point ≢ Idle → length (mine s.history d) ≡ length (s.callers d).mine → copy_at a.copies.items d ≡ (s.callers d).ops) (sym same) S.copied);
  numbers = ap (λ (v : Vec ℕ Global). vec_len v) numbers ∙ (S.numbers ∙ ap (λ (z : Shape). z.callers) (sym shape));
  why = subst (λ (z : Shape). (d : ℕ) → KnowsWhy z.room b.history.items d (callers_of b.calls.items d) (enqueues_of b.enqueues.items d)) (sym shape)
      (subst (λ (v : Vec ℕ Global). (d : ℕ) → KnowsWhy a.shape.room b.history.items d (callers_of b.calls.items d) (enqueues_of v.items d)) (sym numbers)
      (subst (λ (s : State). (d : ℕ) → KnowsWhy a.shape.room s.history d (s.callers d) (enqueues_of a.enqueues.items d)) (sym same) S.why));
}

pub on_ok : {A E P Q : Type 0} → (r : Result A E) → (P → Q) → OnOk r P → OnOk r Q
on_ok (Ok x) f p = f p
on_ok (Err e) f p = tt

-- Lists in which one caller alone goes on, which takes no step.
module _ (a b : Lists) (S : IsSound a) (c : ℕ) (k' : Caller) (goes : callers_of b.calls.items ≡ put (callers_of a.calls.items) c k') where
  pub put_sound : Roomy a.shape record { memory = (state_of a).memory; history = (state_of a).history; callers = put (callers_of a.calls.items) c k' }
      → b.shape ≡ a.shape → b.words ≡ a.words → b.history ≡ a.history → vec_len b.calls ≡ vec_len a.calls → vec_len b.copies ≡ vec_len a.copies → All (IsReady a.shape.batch a.shape.callers) b.calls.items
      → all_due b.calls.items ≤ vec_capacity a.history
      → (k'.point ≢ Idle → copy_at b.copies.items c ≡ k'.ops) → ((d : ℕ) → d ≢ c → copy_at b.copies.items d ≡ copy_at a.copies.items d)
      → vec_len b.enqueues ≡ vec_len a.enqueues → KnowsWhy a.shape.room a.history.items c k' (enqueues_of b.enqueues.items c) → ((d : ℕ) → d ≢ c → enqueues_of b.enqueues.items d ≡ enqueues_of a.enqueues.items d) → IsSound b
  put_sound R shape words history calls copies ready reserved own others numbers why counted = record {
    roomy = subst (λ (z : Shape). Roomy z (state_of b)) (sym shape)
        (subst (Roomy a.shape) (λ i. record { memory = memory_of (sym words i); history = (sym history i).items; callers = sym goes i }) R);
    sizes = ap (λ (w : Words). sizes_of w) words ∙ (S.sizes ∙ ap (λ (z : Shape). sizes_for (rows_of z) (anns_of z) z.callers) (sym shape));
    calls = calls ∙ (S.calls ∙ ap (λ (z : Shape). z.callers) (sym shape));
    copies = copies ∙ (S.copies ∙ ap (λ (z : Shape). z.callers) (sym shape));
    ready = subst (λ (z : Shape). All (IsReady z.batch z.callers) b.calls.items) (sym shape) ready;
    reserved = let m = ap (λ (v : Vec Group Global). vec_capacity v) history in let r = reserved in omega arith;
    copied = subst (λ (v : Vec Group Global). (d : ℕ) → (callers_of b.calls.items d).point ≢ Idle → length (mine v.items d) ≡ length (callers_of b.calls.items d).mine → copy_at b.copies.items d ≡ (callers_of b.calls.items d).ops) (sym history)
        (subst (λ (f : ℕ → Caller). (d : ℕ) → (f d).point ≢ Idle → length (mine a.history.items d) ≡ length (f d).mine → copy_at b.copies.items d ≡ (f d).ops) (sym goes)
        (put_all (callers_of a.calls.items) c k' (λ d k. k.point ≢ Idle → length (mine a.history.items d) ≡ length k.mine → copy_at b.copies.items d ≡ k.ops) (λ runs _. own runs) (λ d apart runs none. others d apart ∙ S.copied d runs none)));
    numbers = numbers ∙ (S.numbers ∙ ap (λ (z : Shape). z.callers) (sym shape));
    why = subst (λ (z : Shape). (d : ℕ) → KnowsWhy z.room b.history.items d (callers_of b.calls.items d) (enqueues_of b.enqueues.items d)) (sym shape)
        (subst (λ (v : Vec Group Global). (d : ℕ) → KnowsWhy a.shape.room v.items d (callers_of b.calls.items d) (enqueues_of b.enqueues.items d)) (sym history)
        (subst (λ (f : ℕ → Caller). (d : ℕ) → KnowsWhy a.shape.room a.history.items d (f d) (enqueues_of b.enqueues.items d)) (sym goes)
        (put_all (callers_of a.calls.items) c k' (λ d k. KnowsWhy a.shape.room a.history.items d k (enqueues_of b.enqueues.items d)) why
        (λ d apart. subst (KnowsWhy a.shape.room a.history.items d (callers_of a.calls.items d)) (sym (counted d apart)) (S.why d)))));
  }

-- no more is due than the history has, and one of each caller
pub due_within : (z : Shape) (s : State) (ks : List Call) → Lawful (lane_sizes z) s → callers_of ks ≡ s.callers → length ks ≡ z.callers → all_due ks ≤ length s.history + z.callers
due_within z s ks L callers len = let each = total_list due newcomer (map call_of ks) z.callers (let m = length-map ks call_of in let n = len in omega arith) in
    let same = ap (λ (f : ℕ → Caller). total z.callers (λ d. due (f d))) callers in let most = due_groups (lane_sizes z) s L in omega arith
