-- An announcement is used again: what was known of its last use is forgotten, and nobody knew it any more.
use Rattle.std.proofs.Common.{◌≡◌, ◌≢◌, ◌⊎◌, inl, inr, ℕ, [], sym, ap, ◌∙◌, subst, Some}
use mathlib.Core.Logic.{dite}
use native.Mathlib.Decide.{ℕ_discrete}
use Rattle.word_rows.specs.declared.location.AnnField.{AnnField}
use Rattle.word_rows.specs.declared.location.AnnField.TheVariants as field
use Rattle.lane_steps.specs.declared.point.Draft.{Draft}
use Rattle.lane_steps.specs.declared.point.BatchPoint.{BatchPoint}
use Rattle.lane_steps.specs.declared.point.BatchPoint.TheVariants as batch
use Rattle.lane_steps.specs.declared.point.Point.{Point}
use Rattle.lane_steps.specs.declared.point.Point.TheVariants as point
use Rattle.lane_steps.specs.Functions.{put}
use Rattle.lane_steps.specs.LaneSizes.{LaneSizes}
use Rattle.lane_steps.specs.Batches.{owner_of}
use Rattle.lane_steps.specs.State.{command, State}
use Rattle.lane_steps.specs.Fact.{is_spare}
use Rattle.lane_steps.specs.Batch as batching
use Rattle.lane_steps.specs.Step.{step_at}
use Rattle.core_model.specs.Ghost.{Stage, unused, waiting, decided, Ghost}
use Rattle.core_model.specs.Facts.{Holds, Each, AtPoint, Knows}
use Rattle.core_model.specs.Lawful.{Announced, IsTold, Told, Guards, Lawful}
use Rattle.core_model.proofs.Puts.{put_here, put_else}
use Rattle.core_model.proofs.Rely.{world, unused_waits, unused_decides}
use Rattle.core_model.proofs.Preserves.{known}
use Rattle.core_model.proofs.BatchRows.{field_stored, whole_stored}
use Rattle.core_model.proofs.Forgets.{forgetting, debts_left, retired_left, knows_left}

module _ (z : LaneSizes) (s : State) (L : Lawful z s) (c : ℕ) where
  -- An own announcement that stands nowhere and that nobody holds is as good as one that was never installed.
  module _ (a : ℕ) (spare : Holds z (world s L.ghost) c (is_spare a)) (d : Draft) (p : BatchPoint) (is : (s.callers c).point ≡ point.Batch d p) (call : Each z (world s L.ghost) c (batching.call_knows (command (s.callers c)) d))
      (here : Each z (forgetting z (world s L.ghost) a c) c (batching.knows d p)) where
    abbrev G : Ghost
    G = L.ghost

    abbrev stage' : ℕ → Stage
    stage' = put L.ghost.stage a unused

    abbrev G' : Ghost
    G' = record L.ghost { stage = put L.ghost.stage a unused }

    else_where : (x : ℕ) → x ≢ a → stage' x ≡ G.stage x
    else_where x ne = put_else G.stage a unused x ne

    now_unused : stage' a ≡ unused
    now_unused = put_here G.stage a unused

    was_waiting : (x : ℕ) → stage' x ≡ waiting → G.stage x ≡ waiting
    was_waiting x w = dite (ℕ_discrete x a) (λ same. absurd (unused_waits (ap stage' same ∙ now_unused) w)) (λ ne. sym (else_where x ne) ∙ w)

    was_decided : (x i : ℕ) → stage' x ≡ decided i → G.stage x ≡ decided i
    was_decided x i w = dite (ℕ_discrete x a) (λ same. absurd (unused_decides (ap stage' same ∙ now_unused) w)) (λ ne. sym (else_where x ne) ∙ w)

    announced' : Announced z s.memory G'
    announced' = let A = L.announced in record {
      inside = A.inside;
      installed = λ x at u. A.installed x at (sym (else_where x (spare.apart x at)) ∙ u);
      old_head = A.old_head;
      waits = λ x w. A.waits x (was_waiting x w);
      bound = λ x i w. A.bound x i (was_decided x i w);
      standing = λ x i at w. A.standing x i at (was_decided x i w);
      unknown = λ x w. A.unknown x (was_waiting x w);
      recorded = λ x i q w. A.recorded x i q (was_decided x i w);
      unrecorded = λ x i w. A.unrecorded x i (was_decided x i w);
      left = λ x i h w none old. A.left x i h (was_decided x i w) none old;
      lags = λ below by. let x = A.lags below by in (x.0, else_where x.0 (spare.apart x.0 x.2) ∙ x.1, x.2, x.3);
    }

    told' : (x : ℕ) → IsTold z s.memory G' s.callers x
    told' x at = subst (λ (y : Stage). Told z.home s.memory.value G.path y (s.memory.notice x) (owner_of z x) (s.callers (owner_of z x))) (sym (else_where x (spare.apart x at))) (L.told x at)

    guards' : (e : ℕ) → Guards z s.memory G' e (s.callers e).hold
    guards' e = let g = (L.callers e).guards in record { word = g.word; holds = g.holds; installed = λ x held u. g.installed x held (sym (else_where x (λ same. spare.unheld e (held ∙ ap Some same))) ∙ u); known = g.known }

    -- what the caller itself knows names no announcement but by what is left
    own_left : Knows z (world s G') c (s.callers c)
    own_left = let f = (L.callers c).knows in record {
      retired = retired_left z (world s G) a c (s.callers c).retired f.retired;
      started = f.started;
      last = f.last;
      at_point = subst (λ (u : Point). AtPoint z (world s G') c (s.callers c) u) (sym is) (record { call = ((call.0.0, call.0.1, call.0.2, call.0.3, debts_left z (world s G) a c [] [] call.0.4), call.1); here = here });
    }

    pub forgotten : (V : Lawful z s) × (V.ghost.stage a ≡ unused)
    forgotten = (
      record {
        ghost = G';
        sizes = L.sizes;
        marks = L.marks;
        history = L.history;
        queue = L.queue;
        owners = L.owners;
        list = L.list;
        announced = announced';
        told = told';
        pending = λ x w. L.pending x (was_waiting x w);
        callers = λ e. let o = L.callers e in record {
          guards = guards' e;
          guards_row = o.guards_row;
          own_groups = o.own_groups;
          allowed = o.allowed;
          knows = dite (ℕ_discrete e c) (λ same. subst (λ (y : ℕ). Knows z (world s G') y (s.callers y)) (sym same) own_left)
              (λ ne. knows_left z (world s L.ghost) a e (λ owns. ne (sym owns ∙ spare.owner)) (spare.unheld e) (s.callers e) o.knows);
        };
      },
      now_unused,
    )

  -- nobody holds what isn't in use
  pub fresh_spare : (a : ℕ) → owner_of z a ≡ c → L.ghost.stage a ≡ unused → Holds z (world s L.ghost) c (is_spare a)
  fresh_spare a own fresh = record {
    owner = own;
    apart = λ x at same. L.announced.installed x at (ap L.ghost.stage same ∙ fresh);
    unheld = λ e held. (L.callers e).guards.installed a held fresh;
  }

  -- its announcement is chosen, or some fields of it are stored and it isn't used
  pub is_chosen : (d : Draft) (p : BatchPoint) → AtPoint z (world s L.ghost) c (s.callers c) (point.Batch d p) → Holds z (world s L.ghost) c (is_spare d.ann) ⊎ (L.ghost.stage d.ann ≡ unused)
  is_chosen d (batch.StoreField field.OldTail) f = inl f.here.0
  is_chosen d (batch.StoreField field.First) f = inr f.here.0.fresh
  is_chosen d (batch.StoreField field.Last) f = inr f.here.0.fresh
  is_chosen d (batch.StoreField field.Counts) f = inr f.here.0.fresh
  is_chosen d (batch.StoreField field.BatchNo) f = inr f.here.0.fresh
  is_chosen d (batch.StoreField field.Order0) f = inr f.here.0.fresh
  is_chosen d (batch.StoreField field.Order1) f = inr f.here.0.fresh
  is_chosen d (batch.StoreField field.Order2) f = inr f.here.0.fresh
  is_chosen d (batch.StoreField field.Order3) f = inr f.here.0.fresh
  is_chosen d (batch.StoreField field.OldHead) f = inr f.here.0.fresh
  is_chosen d (batch.StoreAll field.OldHead) f = inl f.here.1.0
  is_chosen d (batch.StoreAll field.OldTail) f = inr f.here.1.0.fresh
  is_chosen d (batch.StoreAll field.First) f = inr f.here.1.0.fresh
  is_chosen d (batch.StoreAll field.Last) f = inr f.here.1.0.fresh
  is_chosen d (batch.StoreAll field.Counts) f = inr f.here.1.0.fresh
  is_chosen d (batch.StoreAll field.BatchNo) f = inr f.here.1.0.fresh
  is_chosen d (batch.StoreAll field.Order0) f = inr f.here.1.0.fresh
  is_chosen d (batch.StoreAll field.Order1) f = inr f.here.1.0.fresh
  is_chosen d (batch.StoreAll field.Order2) f = inr f.here.1.0.fresh
  is_chosen d (batch.StoreAll field.Order3) f = inr f.here.1.0.fresh
  is_chosen d batch.LoadHead f = inr f.here.0.fresh
  is_chosen d batch.Install f = inr f.here.0.fresh

  -- the first store of a new use
  tail_first : (d : Draft) → (s.callers c).point ≡ point.Batch d (batch.StoreField field.OldTail) → Lawful z (step_at z s c (point.Batch d (batch.StoreField field.OldTail)))
  tail_first d is = let t : Point = point.Batch d (batch.StoreField field.OldTail) in let f = known z s L c t is in let r = forgotten d.ann f.here.0 d (batch.StoreField field.OldTail) is f.call f.here in field_stored z s r.0 c d field.OldTail r.1 (known z s r.0 c t is)

  head_first : (d : Draft) → (s.callers c).point ≡ point.Batch d (batch.StoreAll field.OldHead) → Lawful z (step_at z s c (point.Batch d (batch.StoreAll field.OldHead)))
  head_first d is = let t : Point = point.Batch d (batch.StoreAll field.OldHead) in let f = known z s L c t is in let r = forgotten d.ann f.here.1.0 d (batch.StoreAll field.OldHead) is f.call f.here in whole_stored z s r.0 c d field.OldHead r.1 (known z s r.0 c t is)

  pub preserves_store_field : (d : Draft) (f : AnnField) → (s.callers c).point ≡ point.Batch d (batch.StoreField f) → Lawful z (step_at z s c (point.Batch d (batch.StoreField f)))
  preserves_store_field d field.OldTail is = tail_first d is
  preserves_store_field d field.First is = let x = known z s L c (point.Batch d (batch.StoreField field.First)) is in field_stored z s L c d field.First x.here.0.fresh x
  preserves_store_field d field.Last is = let x = known z s L c (point.Batch d (batch.StoreField field.Last)) is in field_stored z s L c d field.Last x.here.0.fresh x
  preserves_store_field d field.Counts is = let x = known z s L c (point.Batch d (batch.StoreField field.Counts)) is in field_stored z s L c d field.Counts x.here.0.fresh x
  preserves_store_field d field.BatchNo is = let x = known z s L c (point.Batch d (batch.StoreField field.BatchNo)) is in field_stored z s L c d field.BatchNo x.here.0.fresh x
  preserves_store_field d field.Order0 is = let x = known z s L c (point.Batch d (batch.StoreField field.Order0)) is in field_stored z s L c d field.Order0 x.here.0.fresh x
  preserves_store_field d field.Order1 is = let x = known z s L c (point.Batch d (batch.StoreField field.Order1)) is in field_stored z s L c d field.Order1 x.here.0.fresh x
  preserves_store_field d field.Order2 is = let x = known z s L c (point.Batch d (batch.StoreField field.Order2)) is in field_stored z s L c d field.Order2 x.here.0.fresh x
  preserves_store_field d field.Order3 is = let x = known z s L c (point.Batch d (batch.StoreField field.Order3)) is in field_stored z s L c d field.Order3 x.here.0.fresh x
  preserves_store_field d field.OldHead is = let x = known z s L c (point.Batch d (batch.StoreField field.OldHead)) is in field_stored z s L c d field.OldHead x.here.0.fresh x

  pub preserves_store_all : (d : Draft) (f : AnnField) → (s.callers c).point ≡ point.Batch d (batch.StoreAll f) → Lawful z (step_at z s c (point.Batch d (batch.StoreAll f)))
  preserves_store_all d field.OldHead is = head_first d is
  preserves_store_all d field.OldTail is = let x = known z s L c (point.Batch d (batch.StoreAll field.OldTail)) is in whole_stored z s L c d field.OldTail x.here.1.0.fresh x
  preserves_store_all d field.First is = let x = known z s L c (point.Batch d (batch.StoreAll field.First)) is in whole_stored z s L c d field.First x.here.1.0.fresh x
  preserves_store_all d field.Last is = let x = known z s L c (point.Batch d (batch.StoreAll field.Last)) is in whole_stored z s L c d field.Last x.here.1.0.fresh x
  preserves_store_all d field.Counts is = let x = known z s L c (point.Batch d (batch.StoreAll field.Counts)) is in whole_stored z s L c d field.Counts x.here.1.0.fresh x
  preserves_store_all d field.BatchNo is = let x = known z s L c (point.Batch d (batch.StoreAll field.BatchNo)) is in whole_stored z s L c d field.BatchNo x.here.1.0.fresh x
  preserves_store_all d field.Order0 is = let x = known z s L c (point.Batch d (batch.StoreAll field.Order0)) is in whole_stored z s L c d field.Order0 x.here.1.0.fresh x
  preserves_store_all d field.Order1 is = let x = known z s L c (point.Batch d (batch.StoreAll field.Order1)) is in whole_stored z s L c d field.Order1 x.here.1.0.fresh x
  preserves_store_all d field.Order2 is = let x = known z s L c (point.Batch d (batch.StoreAll field.Order2)) is in whole_stored z s L c d field.Order2 x.here.1.0.fresh x
  preserves_store_all d field.Order3 is = let x = known z s L c (point.Batch d (batch.StoreAll field.Order3)) is in whole_stored z s L c d field.Order3 x.here.1.0.fresh x
