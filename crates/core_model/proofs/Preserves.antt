-- A step keeps the lane lawful where the parts are shown of the new world; one that stutters changes its caller's point alone.
use Rattle.std.proofs.Common.{◌≡◌, ◌≢◌, ◌⊎◌, inl, inr, ℕ, ◌+◌, ◌<◌, ◌≤◌, Bool, true, false, cond, List, [], ◌∷◌, ◌++◌, length, sym, refl, ap, ◌∙◌, subst, arith, le_refl, length-append, Option, Some, IsSome}
use Rattle.std.proofs.lemmas.List.{append-nil}
use Rattle.bq_model.specs.declared.op.Answer.{Answer}
use Rattle.bq_model.specs.declared.group.Group.{Group}
use Rattle.bq_model.specs.History.{last_queue}
use Rattle.bq_model.specs.Queue.{unshut}
use Rattle.word_rows.specs.declared.place.Place.{Place}
use Rattle.word_rows.specs.declared.location.Location.{Location}
use Rattle.word_rows.specs.declared.content.Content.{Content}
use Rattle.lane_steps.specs.declared.point.Notice.{Notice}
use Rattle.lane_steps.specs.declared.point.Back.{Back}
use Rattle.lane_steps.specs.declared.point.Back.TheVariants as back
use Rattle.lane_steps.specs.declared.point.Point.{Point}
use Rattle.lane_steps.specs.declared.point.Point.TheVariants.{Idle}
use Rattle.lane_steps.specs.declared.point.Point.TheVariants as point
use Rattle.lane_steps.specs.Functions.{put}
use Rattle.lane_steps.specs.LaneSizes.{LaneSizes}
use Rattle.lane_steps.specs.Batches.{owner_of}
use Rattle.lane_steps.specs.State.{Memory, Caller, Command, command, State, read, write, own_group}
use Rattle.lane_steps.specs.Act.{changes}
use Rattle.lane_steps.specs.Help.{back_facts}
use Rattle.lane_steps.specs.Step.{stepped, stepped_with, done, act, target, linearizes, group_owner, history_after, course, followed, step_at, listening}
use Rattle.core_model.specs.Facts.{Holds, Each, AtPoint, IsOwn, Knows}
use Rattle.lane_steps.specs.Fact.{linearized_is}
use Rattle.lane_steps.specs.Guard as guarding_of
use Rattle.lane_steps.specs.declared.point.Guarding.{Guarding}
use Rattle.lane_steps.specs.declared.point.Guarding.TheVariants as guard
use Rattle.lane_steps.specs.declared.point.FillPoint.TheVariants as fill
use Rattle.lane_steps.specs.declared.point.AnswerPoint.TheVariants as answer
use Rattle.lane_steps.specs.declared.point.ClosePoint.TheVariants as close
use Rattle.lane_steps.specs.declared.course.Course.{Course}
use Rattle.lane_steps.specs.declared.course.Course.TheVariants.{GoesOn}
use Rattle.core_model.specs.Ghost.{Due, Stage, waiting, Ghost, World}
use Rattle.core_model.specs.Kept.{Stands, Kept}
use Rattle.core_model.specs.Lawful.{PlainHistory, shown_queue, queue_owners, shown_owners, InOrder, Announced, GuardsOwn, HelpsOwn, Told, IsTold, Pending, Waits, Allowed, Marked, OfCaller, Lawful, OwnGroups, Guards, GuardsRow, held_by}
use Rattle.core_model.proofs.Puts.{put_here, put_else, put_all}
use Rattle.core_model.proofs.Groups.{length-operations-push}
use Rattle.core_model.proofs.StoredAgain.{write_read, leaves}
use Rattle.core_model.proofs.RowsStable.{takes_stable, debts_stable, retires_stable}
use Rattle.core_model.proofs.Callers.{Apart, caller_stable}
use Rattle.core_model.proofs.Rely.{world, anns_same, rows_same, Drafts, NoDebts, Rely, some_none}
use Rattle.lane_steps.specs.declared.point.Hold.{Hold}
use Rattle.lane_steps.specs.declared.point.Hold.TheVariants.{Free}
use Rattle.lane_steps.specs.Fill.{scan_from}

-- the caller goes on, with these holds
abbrev pub regarding : Caller → Point → Hold → Hold → Caller
regarding k t h r = record k { point = t; hold = h; row_hold = r }

-- the state after a step of caller c
abbrev pub changed : State → ℕ → Memory → List Group → Caller → State
changed s c memory h k = record { memory = memory; history = h; callers = put s.callers c k }

-- a step that leaves all positions, rows and values, and may add to the history
pub rely_history : (z : LaneSizes) (s : State) (g : Ghost) (linearized : ℕ → Bool) (h : List Group) → (new : List Group) × (h ≡ s.history ++ new)
    → Rely z (λ _. ⊥) (world s g) record { memory = s.memory; history = h; ghost = record g { linearized = linearized } }
rely_history z s g linearized h more = record {
  longer = le_refl _;
  heads = le_refl _;
  tails = le_refl _;
  path_same = λ _ _. refl;
  chained_same = λ _ _. refl;
  spot_own = λ _ u _. u;
  rows = rows_same (world s g) record { memory = s.memory; history = h; ghost = record g { linearized = linearized } } (λ _ _ at. at) refl;
  on_same = λ i r on _. (on.link, refl);
  link_own = λ _ _ _. refl;
  value_own = λ _ _ _. refl;
  mark_own = λ _ _ _. refl;
  value_path = λ _ _ _. refl;
  anns = anns_same z (world s g) record { memory = s.memory; history = h; ghost = record g { linearized = linearized } } refl refl refl refl refl refl refl;
  holds = λ _ _ e. inl e;
  more = more;
}

-- no announcement of caller c stands in HEAD
abbrev pub Plain : LaneSizes → Ghost → ℕ → Type 0
Plain z g c = (a : ℕ) → g.ann ≡ Some a → owner_of z a ≢ c

-- nor does any draft of it change
pub drafts_same : (z : LaneSizes) (a b : World) → b.ghost.stage ≡ a.ghost.stage → b.memory.notice ≡ a.memory.notice → b.memory.old_tail ≡ a.memory.old_tail → (d : ℕ) → Drafts z a b d
drafts_same z a b stage notice old d x _ e = (ap (λ (f : ℕ → Stage). f x) stage ∙ e, ap (λ (f : ℕ → Notice). f x) notice, ap (λ (f : ℕ → Option Place). f x) old)

-- what it leaves of the marks that a caller is to set, and of its retired rows
pub debts_same : (a b : World) → b.ghost.spot ≡ a.ghost.spot → b.ghost.head ≡ a.ghost.head → b.ghost.reader ≡ a.ghost.reader → b.ghost.passer ≡ a.ghost.passer → b.ghost.keeper ≡ a.ghost.keeper → (d : ℕ) → NoDebts a b d
debts_same a b spot head reader passer keeper d = record {
  near = record {
    reads = λ i e. ap (λ (f : ℕ → Due). f i) reader ∙ e;
    passes = λ i e. ap (λ (f : ℕ → Due). f i) passer ∙ e;
    retired = λ r i t. let before = t.before in let same = head in record { spot = ap (λ (f : ℕ → Option ℕ). f r) spot ∙ t.spot; before = omega arith; was_read = ap (λ (f : ℕ → Due). f i) reader ∙ t.was_read; was_passed = ap (λ (f : ℕ → Due). f i) passer ∙ t.was_passed; kept = ap (λ (f : ℕ → ℕ). f i) keeper ∙ t.kept };
    no_retired = λ r i t. let before = t.before in let same = head in record { spot = sym (ap (λ (f : ℕ → Option ℕ). f r) spot) ∙ t.spot; before = omega arith; was_read = sym (ap (λ (f : ℕ → Due). f i) reader) ∙ t.was_read; was_passed = sym (ap (λ (f : ℕ → Due). f i) passer) ∙ t.was_passed; kept = sym (ap (λ (f : ℕ → ℕ). f i) keeper) ∙ t.kept };
  };
  no_reads = λ i e. sym (ap (λ (f : ℕ → Due). f i) reader) ∙ e;
  no_passes = λ i e. sym (ap (λ (f : ℕ → Due). f i) passer) ∙ e;
}

-- what a caller has made stays the same as its command ends
pub allowed_end : (z : LaneSizes) (c : ℕ) (k : Caller) → Allowed z k.mine k.ops → Allowed z (k.mine ++ own_group c k ∷ []) []
allowed_end z c k within = let made = length-operations-push k.mine (own_group c k) in omega arith

-- what is kept of the last ended command, while the next one goes on, whatever its lists become
pub kept_lists : (h : List Group) (c : ℕ) (k : Caller) (t : Point) (rows vs ws retired named : List ℕ) (x y : Hold) → Kept h c k
    → Kept h c (record k { point = t; rows = rows; values = vs; walked = ws; retired = retired; named = named; hold = x; row_hold = y })
kept_lists h c k t rows vs ws retired named x y o = record { none = o.none; done = λ is. let l = o.done is in record { earlier = l.earlier; ops = l.ops; last = l.last; stands = l.stands; timely = l.timely } }

pub kept_stepped : (h : List Group) (c : ℕ) (k : Caller) (t : Point) (vs ws : List ℕ) → Kept h c k → Kept h c (stepped_with k t vs ws)
kept_stepped h c k t vs ws x = kept_lists h c k t k.rows vs ws k.retired k.named k.hold k.row_hold x

pub kept_named : (h : List Group) (c : ℕ) (k : Caller) (t : Point) (xs : List ℕ) → Kept h c k → Kept h c (record k { point = t; named = xs })
kept_named h c k t xs y = kept_lists h c k t k.rows k.values k.walked k.retired xs k.hold k.row_hold y

pub kept_listening : (z : LaneSizes) (h : List Group) (c : ℕ) (k : Caller) (n : Notice) (e : ℕ) (xs : List ℕ) → Kept h c k → Kept h c (listening z c k n e xs)
kept_listening z h c k n e xs y = kept_named h c k (scan_from z c xs n e) xs y

module _ (z : LaneSizes) (s : State) (L : Lawful z s) (c : ℕ) where
  abbrev here : World
  here = world s L.ghost

  abbrev me : Caller
  me = s.callers c

  abbrev own : Group
  own = own_group c (s.callers c)

  -- what the caller knows at its point t
  pub known : (t : Point) → (s.callers c).point ≡ t → AtPoint z (world s L.ghost) c (s.callers c) t
  known t is = subst (λ (u : Point). AtPoint z here c me u) is (L.callers c).knows.at_point

  -- who helps its own announcement, or none of its announcements stands
  back_plain : (m : Command) (a : ℕ) (b : Back) → Each z (world s L.ghost) c (back_facts c m a b) → Plain z L.ghost c ⊎ IsOwn b
  back_plain k a back.Own f = inr tt
  back_plain k a (back.Enqueue x) f = inl f.0.1
  back_plain k a back.Dequeue f = inl f.0.1
  back_plain k a (back.Batch d) f = inl f.0.1
  back_plain k a (back.Many d) f = inl f.1.0.1

  guard_plain : (k : Caller) (t : Guarding) → Each z (world s L.ghost) c (guarding_of.call_knows c k t) → Plain z L.ghost c ⊎ GuardsOwn t
  guard_plain k (guard.Enqueue x p) f = inl f.0.1
  guard_plain k (guard.Dequeue p) f = inl f.0.1
  guard_plain k (guard.Many d) f = inl f.0.1
  guard_plain k (guard.ManyTail d p) f = inl f.0.1
  guard_plain k (guard.Help h) f = back_plain (command k) h.ann h.back f.1
  guard_plain k (guard.HelpTail h p) f = back_plain (command k) h.ann h.back f.1

  pub plain_or_own : (k : Caller) (t : Point) → AtPoint z (world s L.ghost) c k t → Plain z L.ghost c ⊎ HelpsOwn t
  plain_or_own k Idle f = inl f.call.0.1
  plain_or_own k (point.Enqueue x p) f = inl f.call.0.1
  plain_or_own k (point.Dequeue p) f = inl f.call.0.1
  plain_or_own k (point.Take t p) f = inl f.call.0.1
  plain_or_own k (point.Guard t p) f = guard_plain k t f.call
  plain_or_own k (point.Fill n (fill.StoreValue r v)) f = inl f.here.0.1
  plain_or_own k (point.Fill n (fill.StoreChain i r q)) f = inl f.here.0.1
  plain_or_own k (point.Fill n (fill.LoadHazard e)) f = inl f.here.0.1
  plain_or_own k (point.Batch d p) f = inl f.call.0.1
  plain_or_own k (point.Many d p) f = inl f.call.0.1
  plain_or_own k (point.Help h p) f = back_plain (command k) h.ann h.back f.call.1
  plain_or_own k (point.Answer (answer.LoadOldTail h)) f = inl f.here.0
  plain_or_own k (point.Answer (answer.LoadLink b r l)) f = inl f.here.0.1
  plain_or_own k (point.Answer (answer.LoadValue b r l)) f = inl f.here.0.1
  plain_or_own k (point.Close x (close.MarkRow q read passed stopped)) f = inl f.call.0.1
  plain_or_own k (point.Close x (close.MarkLoose r)) f = inl f.call.0.1
  plain_or_own k (point.Close x close.ClearNode) f = inl f.call.0.1
  plain_or_own k (point.Close x close.ClearAnn) f = inl f.call.0.1
  plain_or_own k (point.Close x (close.LoadHazard d)) f = inl f.call.0.1
  plain_or_own k (point.Close x (close.MarkFree r)) f = inl f.call.0.1

  -- an announcement goes on to stand, and to wait, as the caller c goes on
  pub told_plain : (memory : Memory) (g : Ghost) (k : Caller) → Plain z g c → ((a : ℕ) → IsTold z memory g s.callers a) → (a : ℕ) → IsTold z memory g (put s.callers c k) a
  told_plain memory g k plain old a at_head = subst (Told z.home memory.value g.path (g.stage a) (memory.notice a) (owner_of z a)) (sym (put_else s.callers c k (owner_of z a) (plain a at_head))) (old a at_head)

  pub told_regarding : (memory : Memory) (g : Ghost) (t : Point) (h r : Hold) → Plain z g c ⊎ HelpsOwn t → ((a : ℕ) → IsTold z memory g s.callers a) → (a : ℕ) → IsTold z memory g (put s.callers c (regarding (s.callers c) t h r)) a
  told_regarding memory g t h r (inl plain) old a at_head = told_plain memory g (regarding me t h r) plain old a at_head
  told_regarding memory g t h r (inr own) old a at_head = put_all s.callers c (regarding me t h r) (λ d k. owner_of z a ≡ d → Told z.home memory.value g.path (g.stage a) (memory.notice a) (owner_of z a) k)
      (λ at. let p = subst (λ (d : ℕ). Told z.home memory.value g.path (g.stage a) (memory.notice a) (owner_of z a) (s.callers d)) at (old a at_head) in record { describes = p.describes; several = p.several; plain = p.plain; first = p.first; last = p.last; helps = own; values = p.values })
      (λ d _ at. subst (λ (d : ℕ). Told z.home memory.value g.path (g.stage a) (memory.notice a) (owner_of z a) (s.callers d)) at (old a at_head)) (owner_of z a) refl

  pub told_on : (memory : Memory) (g : Ghost) (t : Point) → Plain z g c ⊎ HelpsOwn t → ((a : ℕ) → IsTold z memory g s.callers a) → (a : ℕ) → IsTold z memory g (put s.callers c (stepped (s.callers c) t)) a
  told_on memory g t = told_regarding memory g t (s.callers c).hold (s.callers c).row_hold

  -- of an announcement that waits the point of its owner says nothing
  pub waits_plain : (memory : Memory) (g : Ghost) (k : Caller) → Plain z g c → ((a : ℕ) → g.stage a ≡ waiting → g.ann ≡ Some a) → ((a : ℕ) → Waits z memory g s.callers a) → (a : ℕ) → Waits z memory g (put s.callers c k) a
  waits_plain memory g k plain there old a waits = subst (Pending z memory.link memory.value memory.mark g.spot g.chain (g.linearized (owner_of z a)) (memory.notice a) (owner_of z a)) (sym (put_else s.callers c k (owner_of z a) (plain a (there a waits)))) (old a waits)

  pub waits_regarding : (memory : Memory) (g : Ghost) (t : Point) (h r : Hold) → ((a : ℕ) → Waits z memory g s.callers a) → (a : ℕ) → Waits z memory g (put s.callers c (regarding (s.callers c) t h r)) a
  waits_regarding memory g t h r old a waits = put_all s.callers c (regarding me t h r) (λ d k. owner_of z a ≡ d → Pending z memory.link memory.value memory.mark g.spot g.chain (g.linearized (owner_of z a)) (memory.notice a) (owner_of z a) k)
      (λ at. let p = subst (λ (d : ℕ). Pending z memory.link memory.value memory.mark g.spot g.chain (g.linearized (owner_of z a)) (memory.notice a) (owner_of z a) (s.callers d)) at (old a waits) in record {
        known = p.known;
        not_yet = p.not_yet;
        starts = p.starts;
        ends = p.ends;
        homes = p.homes;
        inside = p.inside;
        items = p.items;
        unlinked = p.unlinked;
        marks = p.marks;
        taken = p.taken;
        apart = p.apart;
        joined = p.joined;
        last = p.last;
        values = p.values;
      })
      (λ d _ at. subst (λ (d : ℕ). Pending z memory.link memory.value memory.mark g.spot g.chain (g.linearized (owner_of z a)) (memory.notice a) (owner_of z a) (s.callers d)) at (old a waits)) (owner_of z a) refl

  pub waits_on : (memory : Memory) (g : Ghost) (t : Point) → ((a : ℕ) → Waits z memory g s.callers a) → (a : ℕ) → Waits z memory g (put s.callers c (stepped (s.callers c) t)) a
  waits_on memory g t = waits_regarding memory g t (s.callers c).hold (s.callers c).row_hold

  pub waits_there : (a : ℕ) → L.ghost.stage a ≡ waiting → L.ghost.ann ≡ Some a
  waits_there a waits = (L.announced.waits a waits).0

  -- THE step: each part is shown in the new world, and all other callers go on knowing what they knew
  pub preserves : (memory : Memory) (h : List Group) (g : Ghost) (k : Caller) (Touch : ℕ → Type 0) → ((r : ℕ) → Touch r → z.home r ≡ c)
      → Rely z Touch (world s L.ghost) record { memory = memory; history = h; ghost = g }
      → ((d : ℕ) → d ≢ c → Apart z (world s L.ghost) record { memory = memory; history = h; ghost = g } d)
      → Marked memory.mark g.spot g.reader g.passer g.head g.shown
      → PlainHistory z.callers h
      → last_queue h ≡ unshut (shown_queue memory.value g)
      → queue_owners h ≡ shown_owners z.home g
      → InOrder z memory h g
      → Announced z memory g
      → ((a : ℕ) → IsTold z memory g (put s.callers c k) a)
      → ((a : ℕ) → Waits z memory g (put s.callers c k) a)
      → OfCaller z record { memory = memory; history = h; ghost = g } c k
      → Lawful z (changed s c memory h k)
  preserves memory h g k Touch homes rely others marks proper queue owners list announced told pending mine' = let w : World = record { memory = memory; history = h; ghost = g } in record {
    ghost = g;
    sizes = L.sizes;
    marks = marks;
    history = proper;
    queue = queue;
    owners = owners;
    list = list;
    announced = announced;
    told = told;
    pending = pending;
    callers = put_all s.callers c k (λ d y. OfCaller z w d y) mine' (λ d apart. caller_stable z Touch here w rely d (s.callers d) (λ r at touch. apart (sym at ∙ homes r touch)) (others d apart) (L.callers d));
  }

  -- the caller c goes on as k, and nothing else changes
  pub replaced : (k : Caller) → k.hold ≡ (s.callers c).hold → k.row_hold ≡ (s.callers c).row_hold → Plain z L.ghost c → OwnGroups c s.history k (L.ghost.linearized c) → Allowed z k.mine k.ops → Knows z (world s L.ghost) c k
      → Lawful z record { memory = s.memory; history = s.history; callers = put s.callers c k }
  replaced k hold row_hold plain groups allowed knows = record {
    ghost = L.ghost;
    sizes = L.sizes;
    marks = L.marks;
    history = L.history;
    queue = L.queue;
    owners = L.owners;
    list = L.list;
    announced = L.announced;
    told = told_plain s.memory L.ghost k plain L.told;
    pending = waits_plain s.memory L.ghost k plain waits_there L.pending;
    callers = put_all s.callers c k (λ d y. OfCaller z (world s L.ghost) d y) (record { guards = subst (Guards z s.memory L.ghost c) (sym hold) (L.callers c).guards; guards_row = subst (GuardsRow z s.memory L.ghost c) (sym row_hold) (L.callers c).guards_row; own_groups = groups; allowed = allowed; knows = knows }) (λ d _. L.callers d);
  }

  -- the caller's point alone changes
  pub point_changes : (t : Point) → AtPoint z (world s L.ghost) c (stepped (s.callers c) t) t → Lawful z record { memory = s.memory; history = s.history; callers = put s.callers c (stepped (s.callers c) t) }
  point_changes t knows = record {
    ghost = L.ghost;
    sizes = L.sizes;
    marks = L.marks;
    history = L.history;
    queue = L.queue;
    owners = L.owners;
    list = L.list;
    announced = L.announced;
    told = told_on s.memory L.ghost t (plain_or_own (stepped me t) t knows) L.told;
    pending = waits_on s.memory L.ghost t L.pending;
    callers = put_all s.callers c (stepped me t) (λ d y. OfCaller z here d y) (let o = L.callers c in let f = o.knows in record {
      guards = o.guards;
      guards_row = o.guards_row;
      own_groups = o.own_groups;
      allowed = o.allowed;
      knows = record { retired = f.retired; started = f.started; last = kept_stepped s.history c me t me.values me.walked f.last; at_point = knows };
    }) (λ d _. L.callers d);
  }

  -- the same as a step that finds x in a word and leaves it
  pub stutters : (t : Point) (l : Location) (x : Content) → read s.memory l ≡ x → AtPoint z (world s L.ghost) c (stepped (s.callers c) t) t
      → Lawful z (changed s c (write s.memory l x) s.history (stepped (s.callers c) t))
  stutters t l x is knows = subst (λ (m : Memory). Lawful z (changed s c m s.history (stepped me t))) (sym (ap (write s.memory l) (sym is) ∙ write_read s.memory l)) (point_changes t knows)

  -- a load, or an exchange that finds something else, after which the caller goes on
  pub stutters_at : (t u : Point) → changes (act c t) (read s.memory (target c t)) ≡ false → linearizes t (read s.memory (target c t)) ≡ false → course t (read s.memory (target c t)) ≡ GoesOn u
      → AtPoint z (world s L.ghost) c (stepped (s.callers c) u) u → Lawful z (step_at z s c t)
  stutters_at t u lost adds goes knows = let x : Content = read s.memory (target c t) in let group : Group = own_group (group_owner z c t) (s.callers (group_owner z c t)) in
      subst (λ (y : Memory × List Group × Course). Lawful z record { memory = y.0; history = y.1; callers = put s.callers c (followed z (length y.1) c me y.2) })
      (λ i. (sym (leaves s.memory (act c t) x refl lost) i, sym (ap (λ (b : Bool). history_after b s.history group) adds) i, sym goes i)) (point_changes u knows)

  -- the same, where the values that the caller has read change too
  pub point_changes_with : (t : Point) (vs ws : List ℕ) → Plain z L.ghost c → AtPoint z (world s L.ghost) c (stepped_with (s.callers c) t vs ws) t
      → Lawful z record { memory = s.memory; history = s.history; callers = put s.callers c (stepped_with (s.callers c) t vs ws) }
  point_changes_with t vs ws plain knows = let o = L.callers c in let f = o.knows in replaced (stepped_with me t vs ws) refl refl plain o.own_groups o.allowed
      (record { retired = f.retired; started = f.started; last = kept_stepped s.history c me t vs ws f.last; at_point = knows })

  -- a load, or an exchange that finds something else, after which the caller has read these values
  pub stutters_with : (t u : Point) (vs ws : List ℕ) (g : Course) → changes (act c t) (read s.memory (target c t)) ≡ false → linearizes t (read s.memory (target c t)) ≡ false
      → course t (read s.memory (target c t)) ≡ g → ((n : ℕ) → followed z n c (s.callers c) g ≡ stepped_with (s.callers c) u vs ws)
      → Plain z L.ghost c → AtPoint z (world s L.ghost) c (stepped_with (s.callers c) u vs ws) u → Lawful z (step_at z s c t)
  stutters_with t u vs ws g lost adds goes with_them plain knows = let x : Content = read s.memory (target c t) in let group : Group = own_group (group_owner z c t) (s.callers (group_owner z c t)) in
      subst (λ (y : Memory × List Group × Course). Lawful z record { memory = y.0; history = y.1; callers = put s.callers c (followed z (length y.1) c me y.2) })
      (λ i. (sym (leaves s.memory (act c t) x refl lost) i, sym (ap (λ (b : Bool). history_after b s.history group) adds) i, sym goes i))
      (subst (λ (k : Caller). Lawful z record { memory = s.memory; history = s.history; callers = put s.callers c k }) (sym (with_them (length s.history))) (point_changes_with u vs ws plain knows))

  -- the running command, which has taken effect, ends
  pub finishes : (xs : List Answer) → Holds z (world s L.ghost) c (linearized_is true [] [] []) → (s.callers c).hold ≡ Free → (s.callers c).row_hold ≡ Free
      → (st : Stands s.history (own_group c (s.callers c)) xs) → (s.callers c).started_at ≤ length st.before
      → Lawful z record { memory = s.memory; history = s.history; callers = put s.callers c (done (length s.history) c (s.callers c) xs) }
  finishes xs f free row_free st from = record {
    ghost = G;
    sizes = L.sizes;
    marks = L.marks;
    history = L.history;
    queue = L.queue;
    owners = L.owners;
    list = L.list;
    announced = L.announced;
    told = told_plain s.memory G k f.1 L.told;
    pending = waits_plain s.memory G k f.1 waits_there (λ a waits. let p = L.pending a waits in record {
      known = p.known;
      not_yet = put_else L.ghost.linearized c false (owner_of z a) (f.1 a (waits_there a waits)) ∙ p.not_yet;
      starts = p.starts;
      ends = p.ends;
      homes = p.homes;
      inside = p.inside;
      items = p.items;
      unlinked = p.unlinked;
      marks = p.marks;
      taken = p.taken;
      apart = p.apart;
      joined = p.joined;
      last = p.last;
      values = p.values;
    });
    callers = put_all s.callers c k (λ d y. OfCaller z W d y) (record {
      guards = (L.callers c).guards;
      guards_row = (L.callers c).guards_row;
      own_groups = (L.callers c).own_groups ∙ (ap (λ (b : Bool). me.mine ++ cond b (own ∷ []) []) f.0
          ∙ (sym (append-nil _) ∙ ap (λ (b : Bool). (me.mine ++ own ∷ []) ++ cond b (own_group c k ∷ []) []) (sym (put_here L.ghost.linearized c false))));
      allowed = allowed_end z c me (L.callers c).allowed;
      knows = record {
        retired = retires_stable z (λ _. ⊥) here W rely c (debts_same here W refl refl refl refl refl c).near (λ _ _ x. x) me.retired (L.callers c).knows.retired;
        started = (L.callers c).knows.started;
        last = kept';
        at_point = record {
          call = ((put_here L.ghost.linearized c false, f.1, (λ _ a held. absurd (some_none (sym held ∙ ((L.callers c).guards.holds ∙ ap held_by free)))), takes_stable z (λ _. ⊥) here W rely c (λ _ _ x. x) [] f.3, debts_stable z (λ _. ⊥) here W rely c (debts_same here W refl refl refl refl refl c) [] [] f.4), tt);
          here = ((refl, (λ _. ended_somewhere), free, row_free), tt);
        };
      };
    }) (λ d apart. caller_stable z (λ _. ⊥) here W rely d (s.callers d) (λ _ _ x. x)
        (record { linearized = put_else L.ghost.linearized c false d apart; made = refl; drafts = drafts_same z here W refl refl refl d; hazard = refl; held = refl; row_hazard = refl; row_held = refl; debts = debts_same here W refl refl refl refl refl d }) (L.callers d));
  } where
    k : Caller
    k = done (length s.history) c me xs

    G : Ghost
    G = record L.ghost { linearized = put L.ghost.linearized c false }

    W : World
    W = world s G

    rely : Rely z (λ _. ⊥) here W
    rely = rely_history z s L.ghost (put L.ghost.linearized c false) s.history ([], sym (append-nil s.history))

    ended_somewhere : IsSome (Some (length s.history))
    ended_somewhere = refl

    before_end : (end : ℕ) → Some (length s.history) ≡ Some end → (me.started_at ≤ length st.before) × (length st.before < end)
    before_end end e = let all : length s.history ≡ end = cc e in
        let total = ap length st.splits ∙ (length-append (st.before ++ own ∷ []) st.behind ∙ ap (λ (n : ℕ). n + length st.behind) (length-append st.before (own ∷ []))) in (from, omega arith)

    kept' : Kept s.history c k
    kept' = record { none = λ no. absurd (no refl); done = λ _. record { earlier = me.mine; ops = me.ops; last = refl; stands = st; timely = before_end } }
