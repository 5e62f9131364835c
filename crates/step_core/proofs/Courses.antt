-- What a call may do with the course of its step: it has come from the one point at which that is asked for.
use Rattle.std.proofs.Common.{◌≡◌, ℕ, suc, ◌+◌, ◌^◌, ◌<◌, Bool, Option, length, sym, subst}
use Rattle.bq_model.specs.declared.shape.Shape.{Shape}
use Rattle.word_rows.specs.declared.content.Content.{Content}
use Rattle.word_rows.specs.declared.place.Place.{Place}
use Rattle.lane_steps.specs.declared.course.Course.{Course}
use Rattle.lane_steps.specs.declared.course.Course.TheVariants.{Fills, Chains, Hears, ReadsMore, WalksMore, Marks, Retires, Finds}
use Rattle.lane_steps.specs.declared.point.Closing.{Closing}
use Rattle.lane_steps.specs.declared.point.Notice.{Notice}
use Rattle.lane_steps.specs.declared.point.Point.{Point}
use Rattle.lane_steps.specs.declared.point.Reading.{Reading}
use Rattle.lane_steps.specs.Ranges.{RowsFit}
use Rattle.lane_steps.specs.Step.{course}
use Rattle.lane_steps.proofs.Origins.{From, comes_from}
use Rattle.step_core.specs.declared.call.Call.{Call}
use Rattle.step_core.specs.Calls.{MayGo}

module _ (s : Shape) (c : ℕ) (k : Call) (may : MayGo s c k) (x : Content) where
  from : (y : Course) → y ≡ course k.point x → From y k.point
  from y e = subst (λ (u : Course). From u k.point) (sym e) (comes_from k.point x)

  pub fills : (n : Notice) (r : ℕ) → Fills n r ≡ course k.point x → length k.rows.items < length k.ops
  fills n r e = let f = from (Fills n r) e in may.fills n r f.0 f.1

  pub links : (n : Notice) (i : ℕ) → Chains n i ≡ course k.point x → suc i < 2 ^ 32
  links n i e = let f = from (Chains n i) e in may.links n i f.0 f.1 f.2

  pub hears : (n : Notice) (d : ℕ) (y : Option ℕ) → Hears n d y ≡ course k.point x → (d < s.callers) × (length k.named.items < k.named.capacity) × (length k.named.items + 1 < s.callers)
  hears n d y e = may.scans n d (from (Hears n d y) e)

  pub reads : (b : Reading) (r l v : ℕ) → ReadsMore b r l v ≡ course k.point x → (length k.values.items < length k.ops) × (length k.walked.items < length k.ops)
  reads b r l v e = may.reads b r l (from (ReadsMore b r l v) e)

  pub walks : (u : Point) (r v : ℕ) → WalksMore u r v ≡ course k.point x → (length k.values.items < length k.ops) × (length k.walked.items < length k.ops)
  walks u r v e = let f = from (WalksMore u r v) e in may.walks f.0 r f.1 f.2

  pub marks : (a : Closing) (q : Place) (both stopped : Bool) → Marks a q both stopped ≡ course k.point x → (q.count < 2 ^ 44) × (length k.retired.items < k.retired.capacity)
  marks a q both stopped e = let f = from (Marks a q both stopped) e in (subst RowsFit f.2 may.rows, may.marks a q f.0 f.1 stopped f.2)

  pub loses : (a : Closing) (r : ℕ) → Retires a r ≡ course k.point x → length k.retired.items < k.retired.capacity
  loses a r e = may.loses a r (from (Retires a r) e)

  pub finds : (a : Closing) (d : ℕ) (y : Option ℕ) → Finds a d y ≡ course k.point x → (d < s.callers) × (length k.named.items < k.named.capacity)
  finds a d y e = may.finds a d (from (Finds a d y) e)
