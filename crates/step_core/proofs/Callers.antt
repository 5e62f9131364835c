-- The calls' list as a function of the caller, and the parts of a step and of a start put together.
use Rattle.std.proofs.Common.{◌≡◌, ℕ, zero, suc, ◌+◌, ◌<◌, List, [], ◌∷◌, length, map, slice_index_or, slice_set, sum_by, sym, refl, ap, ◌∙◌, arith, get_or-set_same, get_or-set_other, slice_get, Some}
use Rattle.std.proofs.lemmas.List.{map-set, get_or-map, length-map}
use Rattle.std.proofs.lemmas.List.Sums.{sum_by-set}
use Rattle.std.specs.declared.vec.Vec.{Vec}
use Rattle.std.specs.declared.alloc.Global.{Global}
use Rattle.bq_model.specs.declared.group.Group.{Group}
use Rattle.word_rows.specs.declared.location.Location.{Location}
use Rattle.word_rows.specs.declared.content.Content.{Content}
use Rattle.lane_steps.specs.declared.point.Point.{Point}
use Rattle.lane_steps.specs.Functions.{put}
use Rattle.lane_steps.specs.State.{Caller, State, read, write}
use Rattle.lane_steps.specs.Step.{target, stored, history_with, after, step_at, next}
use Rattle.bq_model.specs.declared.op.Op.{Op}
use Rattle.lane_steps.specs.LaneSizes.{lane_sizes}
use Rattle.lane_steps.specs.Start.{newcomer, begun, start}
use Rattle.core_model.proofs.Puts.{put_all, put_same, put_here}
use Rattle.step_core.specs.declared.call.Call.{Call}
use Rattle.step_core.specs.declared.words.Words.{Words}
use Rattle.step_core.specs.declared.lists.Lists.{Lists}
use Rattle.step_core.specs.Calls.{call_of}
use Rattle.step_core.specs.Due.{due}
use Rattle.step_core.specs.Words.{memory_of}
use Rattle.step_core.specs.Lists.{callers_of, state_of, all_due}

pub caller_is : (ks : List Call) (c : ℕ) (k : Call) → c < length ks → k ≡ slice_index_or ks c k → callers_of ks c ≡ call_of k
caller_is ks c k below is = get_or-map call_of ks c k newcomer below ∙ ap call_of (sym is)

pub callers_set : (ks : List Call) (c : ℕ) (k : Call) → c < length ks → callers_of (slice_set ks c k) ≡ put (callers_of ks) c (call_of k)
callers_set ks c k below = λ i d. put_all (callers_of ks) c (call_of k) (λ d y. callers_of (slice_set ks c k) d ≡ y)
    (ap (λ (ys : List Caller). slice_index_or ys c newcomer) (map-set call_of ks c k) ∙ get_or-set_same (map call_of ks) c (call_of k) newcomer (let same = length-map ks call_of in omega arith))
    (λ d apart. ap (λ (ys : List Caller). slice_index_or ys d newcomer) (map-set call_of ks c k) ∙ get_or-set_other (map call_of ks) c d (call_of k) newcomer apart) d i

-- a call that shows the same caller
pub callers_kept : (ks : List Call) (c : ℕ) (old new : Call) → c < length ks → old ≡ slice_index_or ks c old → call_of new ≡ call_of old → callers_of (slice_set ks c new) ≡ callers_of ks
callers_kept ks c old new below is same = callers_set ks c new below ∙ (ap (put (callers_of ks) c) (same ∙ sym (caller_is ks c old below is)) ∙ put_same (callers_of ks) c)

-- what one caller has due changes, and no other's
pub due_set : (ks : List Call) (c : ℕ) (k : Call) → c < length ks → all_due (slice_set ks c k) + due (callers_of ks c) ≡ all_due ks + due (callers_of (slice_set ks c k) c)
due_set ks c k below = ap (λ (ys : List Caller). sum_by due ys + due (callers_of ks c)) (map-set call_of ks c k)
    ∙ (sum_by-set due (map call_of ks) c (call_of k) newcomer (let same = length-map ks call_of in omega arith)
    ∙ ap (λ (y : Caller). all_due ks + due y) (sym (ap (λ (f : ℕ → Caller). f c) (callers_set ks c k below) ∙ put_here (callers_of ks) c (call_of k))))

pub due_kept : (ks : List Call) (c : ℕ) (old new : Call) → c < length ks → old ≡ slice_index_or ks c old → due (call_of new) ≡ due (call_of old) → all_due (slice_set ks c new) ≡ all_due ks
due_kept ks c old new below is same = let e = due_set ks c new below in
    let was = ap due (caller_is ks c old below is) in let now = ap due (ap (λ (f : ℕ → Caller). f c) (callers_set ks c new below) ∙ put_here (callers_of ks) c (call_of new)) in omega arith

-- a load, a store, what the history gains and what the caller keeps are a step
pub step_is : (a d e : Lists) (w : Words) (c n : ℕ) (t : Point) (l : Location) (x : Content) → t ≡ (callers_of a.calls.items c).point → l ≡ target c t → x ≡ read (memory_of a.words) l
    → memory_of w ≡ write (memory_of a.words) l (stored c t x) → d.words ≡ w → d.calls ≡ a.calls → d.history.items ≡ history_with (lane_sizes a.shape) (state_of a) c t x
    → e.words ≡ d.words → e.history ≡ d.history → n ≡ length d.history.items
    → callers_of e.calls.items ≡ put (callers_of d.calls.items) c (after (lane_sizes a.shape) n c (callers_of d.calls.items c) (callers_of d.calls.items c).point x)
    → state_of e ≡ next (lane_sizes a.shape) (state_of a) c
unfolding next
step_is a d e w c n t l x at names found writes words calls grew words' history' now goes = whole ∙ ap (step_at (lane_sizes a.shape) (state_of a) c) at where
  held : x ≡ read (memory_of a.words) (target c t)
  held = found ∙ ap (read (memory_of a.words)) names

  memory : memory_of e.words ≡ write (memory_of a.words) (target c t) (stored c t (read (memory_of a.words) (target c t)))
  memory = ap memory_of (words' ∙ words) ∙ (writes ∙ (λ i. write (memory_of a.words) (names i) (stored c t (held i))))

  callers : callers_of d.calls.items ≡ callers_of a.calls.items
  callers = ap (λ (v : Vec Call Global). callers_of v.items) calls

  history : e.history.items ≡ history_with (lane_sizes a.shape) (state_of a) c t (read (memory_of a.words) (target c t))
  history = ap (λ (v : Vec Group Global). v.items) history' ∙ (grew ∙ (λ i. history_with (lane_sizes a.shape) (state_of a) c t (held i)))

  count : n ≡ length (history_with (lane_sizes a.shape) (state_of a) c t (read (memory_of a.words) (target c t)))
  count = now ∙ ap length (grew ∙ (λ i. history_with (lane_sizes a.shape) (state_of a) c t (held i)))

  goes' : callers_of e.calls.items ≡ put (callers_of a.calls.items) c (after (lane_sizes a.shape) (length (history_with (lane_sizes a.shape) (state_of a) c t (read (memory_of a.words) (target c t)))) c (callers_of a.calls.items c) t (read (memory_of a.words) (target c t)))
  goes' = goes ∙ (λ i. put (callers i) c (after (lane_sizes a.shape) (count i) c (callers i c) ((ap (λ (f : ℕ → Caller). (f c).point) callers ∙ sym at) i) (held i)))

  whole : state_of e ≡ step_at (lane_sizes a.shape) (state_of a) c t
  whole = λ i. record { memory = memory i; history = history i; callers = goes' i }

pub get_set : (ks : List Call) (c : ℕ) (k : Call) → c < length ks → slice_get (slice_set ks c k) c ≡ Some k
get_set [] c k below = absurd (omega arith)
get_set (x ∷ ks) zero k below = refl
get_set (x ∷ ks) (suc c) k below = get_set ks c k (omega arith)

-- a command that begins on lists which show the same lane
pub begun_is : (a r e : Lists) (c n : ℕ) (ops : List Op) → state_of r ≡ state_of a → r.shape ≡ a.shape → n ≡ length r.history.items
    → (state_of e).memory ≡ (state_of r).memory → (state_of e).history ≡ (state_of r).history
    → callers_of e.calls.items ≡ put (callers_of r.calls.items) c (begun (lane_sizes r.shape) n c (callers_of r.calls.items c) ops) → state_of e ≡ start (lane_sizes a.shape) (state_of a) c ops
begun_is a r e c n ops same shape now memory history callers = λ i. record {
  memory = (memory ∙ ap (λ (s : State). s.memory) same) i;
  history = (history ∙ ap (λ (s : State). s.history) same) i;
  callers = (callers ∙ begins) i;
} where
  count : n ≡ length a.history.items
  count = now ∙ ap (λ (s : State). length s.history) same

  begins : put (callers_of r.calls.items) c (begun (lane_sizes r.shape) n c (callers_of r.calls.items c) ops) ≡ put (callers_of a.calls.items) c (begun (lane_sizes a.shape) (length a.history.items) c (callers_of a.calls.items c) ops)
  begins = λ i. put (same i).callers c (begun (lane_sizes (shape i)) (count i) c ((same i).callers c) ops)
