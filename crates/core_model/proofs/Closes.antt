-- The end of a call: the caller marks the rows that its operation read and passed, then those that it took and didn't link,
-- clears the hazard words that it stored, begins its scan where it has retired rows, and else it ends.
use Rattle.std.proofs.Common.{◌≡◌, ℕ, ◌<◌, ◌≤◌, Bool, true, false, cond, List, [], ◌∷◌, ◌++◌, length, sym, refl, ap, ◌∙◌, subst, arith, Option, Some, None, IsSome}
use Rattle.bq_model.specs.declared.op.Answer.{Answer}
use Rattle.bq_model.specs.declared.group.Group.{Group}
use Rattle.lane_steps.specs.declared.point.CallEnd.TheVariants as outcome
use Rattle.lane_steps.specs.declared.point.Closing.{Closing}
use Rattle.lane_steps.specs.declared.point.Closing.TheVariants.{Plain, Batch, Full}
use Rattle.lane_steps.specs.declared.point.ClosePoint.{ClosePoint}
use Rattle.lane_steps.specs.declared.point.ClosePoint.TheVariants as close
use Rattle.lane_steps.specs.declared.point.Hold.{Hold}
use Rattle.lane_steps.specs.declared.point.Hold.TheVariants.{Free, Names, Held}
use Rattle.lane_steps.specs.declared.point.Point.{Point}
use Rattle.lane_steps.specs.declared.point.Point.TheVariants.{Idle}
use Rattle.lane_steps.specs.declared.point.Point.TheVariants as point
use Rattle.lane_steps.specs.Functions.{put, rising}
use Rattle.lane_steps.specs.LaneSizes.{LaneSizes}
use Rattle.lane_steps.specs.State.{Memory, Caller, State, own_group}
use Rattle.lane_steps.specs.Answers.{closing_answers}
use Rattle.lane_steps.specs.Close.{is_done, answer_known}
use Rattle.lane_steps.specs.Close as closing
use Rattle.lane_steps.specs.Fact.{linearized_is, own_rows, since, retires_these, lets_go}
use Rattle.lane_steps.specs.Step.{ended, done, scans, frees, frees_next, clears_ann, clears_node, loses, closes}
use Rattle.node_guard.specs.Retired.{first_unheld}
use Rattle.core_model.specs.Facts.{Holds, Each, AtPoint}
use Rattle.core_model.specs.Ghost.{World}
use Rattle.core_model.specs.Kept.{Stands, Kept}
use Rattle.core_model.specs.Lawful.{OwnGroups, Allowed, OfCaller, Lawful}
use Rattle.core_model.proofs.Puts.{put_here, put_twice}
use Rattle.core_model.proofs.Rely.{world}
use Rattle.core_model.proofs.Known.{ending_known}
use Rattle.core_model.proofs.RowLists.{SameRows, among_rising, distinct_rising}
use Rattle.core_model.proofs.Lists.{among_here, among_there, among_none}
use Rattle.core_model.proofs.Preserves.{Plain as Bare, known, finishes, replaced, kept_lists}

-- the answers that a caller knows don't depend on its point, nor on the lists of its rows, nor on its holds
pub answers_so : (z : LaneSizes) (w : World) (c : ℕ) (k : Caller) (t : Point) (rows walked retired named : List ℕ) (h r : Hold) (a : Closing) → Each z w c (answer_known c k a)
    → Each z w c (answer_known c (record k { point = t; rows = rows; walked = walked; retired = retired; named = named; hold = h; row_hold = r }) a)
answers_so z w c k t rows walked retired named h r (Plain x) f = f
answers_so z w c k t rows walked retired named h r (Batch m) f = f
answers_so z w c k t rows walked retired named h r Full f = f

-- what a caller has taken, where the list is another one with the same rows
pub linearized_same : (z : LaneSizes) (w : World) (c : ℕ) (b : Bool) (rows rows' ps rs : List ℕ) → SameRows rows' rows → Holds z w c (linearized_is b rows ps rs) → Holds z w c (linearized_is b rows' ps rs)
linearized_same z w c b rows rows' ps rs same x = (x.0, x.1, x.2, (λ r at none taken fresh. same r ∙ x.3 r at none taken fresh), x.4)

module _ (z : LaneSizes) (s : State) (L : Lawful z s) (c : ℕ) where
  abbrev here : World
  here = world s L.ghost

  abbrev pub goes : Caller → State
  goes k = record { memory = s.memory; history = s.history; callers = put s.callers c k }

  -- The caller c, whose call is to end so, may go on as k.
  pub record MayClose (a : Closing) (k : Caller) : Type 0 where
    pub hold : k.hold ≡ (s.callers c).hold
    pub row_hold : k.row_hold ≡ (s.callers c).row_hold
    pub groups : OwnGroups c s.history k (L.ghost.linearized c)
    pub allowed : Allowed z k.mine k.ops
    pub retired : Holds z (world s L.ghost) c (retires_these k.retired)
    pub started : Holds z (world s L.ghost) c (since k.started_at)
    pub last : Kept s.history c k
    pub answers : Each z (world s L.ghost) c (answer_known c k a)

  -- as it does with other lists
  pub may_close : (a : Closing) (rows vs ws : List ℕ) → let k : Caller = record (s.callers c) { rows = rows; values = vs; walked = ws } in Each z (world s L.ghost) c (answer_known c k a) → MayClose a k
  may_close a rows vs ws known = let o = L.callers c in let k = s.callers c in record {
    hold = refl;
    row_hold = refl;
    groups = o.own_groups;
    allowed = o.allowed;
    retired = o.knows.retired;
    started = o.knows.started;
    last = kept_lists s.history c k k.point rows vs ws k.retired k.named k.hold k.row_hold o.knows.last;
    answers = known;
  }

  -- or as it has found more named
  pub may_name : (a : Closing) (named : List ℕ) → Each z (world s L.ghost) c (answer_known c (s.callers c) a) → MayClose a (record (s.callers c) { named = named })
  may_name a named known = let o = L.callers c in let k = s.callers c in record {
    hold = refl;
    row_hold = refl;
    groups = o.own_groups;
    allowed = o.allowed;
    retired = o.knows.retired;
    started = o.knows.started;
    last = kept_lists s.history c k k.point k.rows k.values k.walked k.retired named k.hold k.row_hold o.knows.last;
    answers = answers_so z here c k k.point k.rows k.walked k.retired named k.hold k.row_hold a known;
  }

  module _ (a : Closing) where
    pub goes_to : (k : Caller) → MayClose a k → (t : Point) (rows walked named : List ℕ) → Bare z L.ghost c → AtPoint z (world s L.ghost) c (record k { point = t; rows = rows; walked = walked; named = named }) t
        → Lawful z (goes (record k { point = t; rows = rows; walked = walked; named = named }))
    goes_to k K t rows walked named plain knows = replaced z s L c (record k { point = t; rows = rows; walked = walked; named = named }) K.hold K.row_hold plain K.groups K.allowed (record {
      retired = K.retired;
      started = K.started;
      last = kept_lists s.history c k t rows k.values walked k.retired named k.hold k.row_hold K.last;
      at_point = knows;
    })

    answers_at : (k : Caller) → MayClose a k → (p : ClosePoint) (rows walked named : List ℕ) → Each z (world s L.ghost) c (answer_known c (record k { point = point.Close a p; rows = rows; walked = walked; named = named }) a)
    answers_at k K p rows walked named = answers_so z here c k (point.Close a p) rows walked k.retired named k.hold k.row_hold a K.answers

    pub other_lists : (k : Caller) (rows walked : List ℕ) → MayClose a k → MayClose a (record k { rows = rows; walked = walked })
    other_lists k rows walked K = record {
      hold = K.hold;
      row_hold = K.row_hold;
      groups = K.groups;
      allowed = K.allowed;
      retired = K.retired;
      started = K.started;
      last = kept_lists s.history c k k.point rows k.values walked k.retired k.named k.hold k.row_hold K.last;
      answers = answers_so z here c k k.point rows walked k.retired k.named k.hold k.row_hold a K.answers;
    }

    -- once nothing is left to mark
    module _ (off : Holds z (world s L.ghost) c (linearized_is (is_done a) [] [] [])) where
      -- it clears its hazard words first, where these name something
      cleared : (k : Caller) → MayClose a k → (p : ClosePoint) → Each z (world s L.ghost) c (closing.knows z (record k { point = point.Close a p }) p) → Each z (world s L.ghost) c (closing.owed_at (record k { point = point.Close a p }) a p ∷ [])
          → Lawful z (goes (record k { point = point.Close a p }))
      cleared k K p knows owes = goes_to k K (point.Close a p) k.rows k.walked k.named off.1 (record { call = (owes.0, answers_at k K p k.rows k.walked k.named); here = knows })

      module _ (k : Caller) (K : MayClose a k) (free : k.hold ≡ Free) (row_free : k.row_hold ≡ Free) where
        abbrev pub at_clear : Caller
        at_clear = record k { point = point.Close a close.ClearAnn }

        at_end : Lawful z (goes at_clear)
        at_end = cleared k K close.ClearAnn ((refl, row_free), tt) (off, tt)

        finishes_so : (xs : List Answer) → is_done a ≡ true → (st : Stands s.history (own_group c k) xs) → k.started_at ≤ length st.before → Lawful z (goes (done (length s.history) c k xs))
        finishes_so xs is st from = subst (λ (f : ℕ → Caller). Lawful z record { memory = s.memory; history = s.history; callers = f })
            (put_twice s.callers c at_clear (done (length s.history) c (put s.callers c at_clear c) xs) ∙ ap (λ (y : Caller). put s.callers c (done (length s.history) c y xs)) there)
            (finishes z (goes at_clear) at_end c xs (subst (λ (b : Bool). Holds z (world (goes at_clear) at_end.ghost) c (linearized_is b [] [] [])) is off_there)
            (ap (λ (y : Caller). y.hold) there ∙ free) (ap (λ (y : Caller). y.row_hold) there ∙ row_free) stands.0 stands.1) where
              there : put s.callers c at_clear c ≡ at_clear
              there = put_here s.callers c at_clear

              off_there : Holds z (world (goes at_clear) at_end.ghost) c (linearized_is (is_done a) [] [] [])
              off_there = (known z (goes at_clear) at_end c (point.Close a close.ClearAnn) (ap (λ (y : Caller). y.point) there)).call.0

              stands : (t : Stands s.history (own_group c (put s.callers c at_clear c)) xs) × ((put s.callers c at_clear c).started_at ≤ length t.before)
              stands = subst (λ (y : Caller). (t : Stands s.history (own_group c y) xs) × (y.started_at ≤ length t.before)) (sym there) (st, from)

        -- with Full, nothing has happened
        abbrev full : Caller
        full = record k { point = Idle; ops = []; outcome = Some outcome.Full; answers = []; ended_at = Some (length s.history) }

        full_so : is_done a ≡ false → Lawful z (goes full)
        full_so is = let out = subst (λ (b : Bool). Holds z here c (linearized_is b [] [] [])) is off in replaced z s L c full K.hold K.row_hold off.1
            (K.groups ∙ (ap (λ (b : Bool). k.mine ++ cond b (own_group c k ∷ []) []) out.0 ∙ sym (ap (λ (b : Bool). k.mine ++ cond b (own_group c full ∷ []) []) out.0)))
            (let within = K.allowed in omega arith)
            record { retired = K.retired; started = K.started; last = record { done = λ e. absurd (never e); none = λ _. refl }; at_point = record { call = (out, tt); here = ((refl, (λ _. ended_somewhere), free, row_free), tt) } } where
              never : Some outcome.Full ≡ Some outcome.Done → ⊥
              never e = cc e

              ended_somewhere : IsSome (Some (length s.history))
              ended_somewhere = refl

  -- so it ends, or begins its scan
  ends_so : (a : Closing) → Holds z (world s L.ghost) c (linearized_is (is_done a) [] [] []) → (k : Caller) → MayClose a k → k.hold ≡ Free → k.row_hold ≡ Free → Lawful z (goes (ended (length s.history) c k a))
  ends_so (Plain x) off k K free row_free = finishes_so (Plain x) off k K free row_free (closing_answers k.ops k.values (Plain x)) refl K.answers.0.0 K.answers.0.1
  ends_so (Batch m) off k K free row_free = finishes_so (Batch m) off k K free row_free (closing_answers k.ops k.values (Batch m)) refl K.answers.0.0 K.answers.0.1
  ends_so Full off k K free row_free = full_so Full off k K free row_free refl

  module _ (a : Closing) (off : Holds z (world s L.ghost) c (linearized_is (is_done a) [] [] [])) (k : Caller) (K : MayClose a k) where
    -- a row that isn't named may go
    pub frees_so : k.hold ≡ Free → k.row_hold ≡ Free → Holds z (world s L.ghost) c (lets_go z.callers k.retired k.named) → Lawful z (goes (frees_next (length s.history) c k a))
    frees_so free row_free lets = by (first_unheld k.named k.retired) refl where
      by : (o : Option ℕ) → first_unheld k.named k.retired ≡ o → Lawful z (goes (frees (length s.history) c k a o))
      by None _ = ends_so a off k K free row_free
      by (Some r) first = cleared a off k K (close.MarkFree r) (lets, (first, ((free, row_free), tt))) (off, tt)

    pub scans_so : k.hold ≡ Free → k.row_hold ≡ Free → Lawful z (goes (scans (length s.history) c k a k.retired))
    scans_so free row_free = by k.retired where
      none : (e : ℕ) → e < 0 → ⊥
      none e l = omega arith

      by : (rows : List ℕ) → Lawful z (goes (scans (length s.history) c k a rows))
      by [] = ends_so a off k K free row_free
      by (r ∷ rs) = goes_to a k K (point.Close a (close.LoadHazard 0)) k.rows k.walked [] off.1
          (record { call = (off, answers_at a k K (close.LoadHazard 0) k.rows k.walked []); here = ((λ e q below _ _. absurd (none e below)), ((free, row_free), (let one = ending_known z s L c a k off.0 K.answers in let some : 0 < z.callers = omega arith in some, tt))) })

    pub clears_ann_so : k.row_hold ≡ Free → Lawful z (goes (clears_ann (length s.history) c k a k.hold))
    clears_ann_so row_free = by k.hold refl where
      by : (h : Hold) → k.hold ≡ h → Lawful z (goes (clears_ann (length s.history) c k a h))
      by Free free = scans_so free row_free
      by (Names x) _ = cleared a off k K close.ClearAnn ((refl, row_free), tt) (off, tt)
      by (Held x) _ = cleared a off k K close.ClearAnn ((refl, row_free), tt) (off, tt)

    pub clears_node_so : Lawful z (goes (clears_node (length s.history) c k a k.row_hold))
    clears_node_so = by k.row_hold refl where
      by : (h : Hold) → k.row_hold ≡ h → Lawful z (goes (clears_node (length s.history) c k a h))
      by Free free = clears_ann_so free
      by (Names x) _ = cleared a off k K close.ClearNode tt (off, tt)
      by (Held x) _ = cleared a off k K close.ClearNode tt (off, tt)

  -- the rows that it took and didn't link, which are these, are to be marked
  module _ (a : Closing) (k : Caller) (K : MayClose a k) where
    pub loses_so : (rows : List ℕ) → Holds z (world s L.ghost) c (linearized_is (is_done a) rows [] []) → Holds z (world s L.ghost) c (own_rows rows) → Lawful z (goes (loses (length s.history) c k a rows))
    loses_so [] off own = clears_node_so a off (record k { rows = [] }) (other_lists a k [] k.walked K)
    loses_so (r ∷ rs) off own = goes_to a k K (point.Close a (close.MarkLoose r)) rs k.walked k.named off.1 (record {
      call = (off, answers_at a k K (close.MarkLoose r) rs k.walked k.named);
      here = (own.each r (among_here rs r r refl), (record { each = λ q is. own.each q (among_there rs r q is); distinct = own.distinct.1 }, (own.distinct.0, tt)));
    })

    pub closes_so : Holds z (world s L.ghost) c (linearized_is (is_done a) k.rows [] []) → Holds z (world s L.ghost) c (own_rows k.rows) → Lawful z (goes (closes (length s.history) c k a))
    closes_so off own = loses_so (rising k.rows) (linearized_same z here c (is_done a) k.rows (rising k.rows) [] [] (among_rising k.rows) off)
        (record { each = λ q is. own.each q (sym (among_rising k.rows q) ∙ is); distinct = distinct_rising k.rows own.distinct })

  -- no row was taken that isn't linked
  pub no_own_rows : Holds z (world s L.ghost) c (own_rows [])
  no_own_rows = record { each = λ r is. absurd (among_none r is); distinct = tt }

-- A step of caller c has led here, where that keeps k, and the end of its call goes on from here.
module _ (z : LaneSizes) (s : State) (c : ℕ) (memory : Memory) (h : List Group) (k : Caller) (L : Lawful z record { memory = memory; history = h; callers = put s.callers c k }) where
  abbrev pub led : State
  led = record { memory = memory; history = h; callers = put s.callers c k }

  pub caller_there : OfCaller z (world led L.ghost) c k
  caller_there = subst (OfCaller z (world led L.ghost) c) (put_here s.callers c k) (L.callers c)

  pub knows_there : (t : Point) → k.point ≡ t → AtPoint z (world led L.ghost) c k t
  knows_there t is = subst (AtPoint z (world led L.ghost) c k) is caller_there.knows.at_point

  -- it may go on with other lists
  pub may_close_there : (a : Closing) (t : Point) (rows walked named : List ℕ) → Each z (world led L.ghost) c (answer_known c k a) → MayClose z led L c a (record k { point = t; rows = rows; walked = walked; named = named })
  may_close_there a t rows walked named answers = let o = caller_there in record {
    hold = ap (λ (y : Caller). y.hold) (sym (put_here s.callers c k));
    row_hold = ap (λ (y : Caller). y.row_hold) (sym (put_here s.callers c k));
    groups = o.own_groups;
    allowed = o.allowed;
    retired = o.knows.retired;
    started = o.knows.started;
    last = kept_lists h c k t rows k.values walked k.retired named k.hold k.row_hold o.knows.last;
    answers = answers_so z (world led L.ghost) c k t rows walked k.retired named k.hold k.row_hold a answers;
  }

  pub goes_there : (x : Caller) → Lawful z (goes z led L c x) → Lawful z record { memory = memory; history = h; callers = put s.callers c x }
  goes_there x l = subst (λ (f : ℕ → Caller). Lawful z record { memory = memory; history = h; callers = f }) (put_twice s.callers c k x) l
