-- What becomes of a running command with one step.
use Rattle.std.proofs.Common.{◌≡◌, ◌==◌, Bool, true, false, ℕ, ◌<◌, ◌≤◌, ◌++◌, List, [], ◌∷◌, length, sym, refl, ap, ◌∙◌, subst, arith, ⊎_elim}
use Rattle.std.specs.VecDeque.{deque_len}
use Rattle.atomic_table.specs.Seated.{TableId}
use Rattle.atomic_table.specs.declared.shared.Seat.{Seat}
use Rattle.bq_model.specs.declared.op.Op.{Op}
use Rattle.bq_model.specs.declared.op.Op.TheVariants.{Enq, Deq, Shut}
use Rattle.bq_model.specs.declared.shape.Shape.{Shape}
use Rattle.bq_model.specs.Values.{enqueued}
use Rattle.excess_count.specs.Excess.{enqueue_count}
use Rattle.lane_steps.specs.declared.point.ManyPoint.TheVariants as many
use Rattle.word_rows.specs.declared.content.Content.{Content}
use Rattle.lane_steps.specs.declared.course.Course.{Course}
use Rattle.lane_steps.specs.declared.course.Course.TheVariants as course_of
use Rattle.lane_steps.specs.declared.point.Closing.{Closing}
use Rattle.lane_steps.specs.declared.point.Closing.TheVariants.{Plain, Batch, Full}
use Rattle.lane_steps.specs.declared.point.Notice.{Notice}
use Rattle.lane_steps.specs.declared.point.Point.{Point}
use Rattle.lane_steps.specs.declared.point.Point.TheVariants as point
use Rattle.lane_steps.specs.Functions.{Distinct}
use Rattle.lane_steps.specs.LaneSizes.{LaneSizes, lane_sizes}
use Rattle.lane_steps.specs.Start.{begun, first_point, batch_point, draft_of}
use Rattle.lane_steps.specs.State.{Caller}
use Rattle.lane_steps.specs.Step.{done, ended, course, target, followed}
use Rattle.lane_steps.specs.declared.point.ClosePoint.TheVariants.{LoadHazard}
use Rattle.word_rows.specs.Layout.{IsValid}
use Rattle.bq_model.specs.declared.op.Answer.{Answer}
use Rattle.lane_rule.specs.declared.view.View.{View}
use Rattle.lane_rule.specs.Rule.{caller_of}
use Rattle.lane_rule.specs.Goes.{Ready, left_of}
use Rattle.lane_rule.specs.Plays.{IsIdle, Moves, Starts}
use Rattle.lane_course.specs.declared.next.Next.{Next}
use Rattle.lane_course.specs.declared.next.Next.TheVariants.{Goes, Ends}
use Rattle.lane_course.specs.declared.scratch.Scratch.{Scratch}
use Rattle.core_model.specs.Few.{ListsFit, Few, HasFew, ReadsOn, FewFor}
use Rattle.lane_course.specs.Next.{Becomes}
use Rattle.lane_course.specs.Running.{Agrees, Running, Same, GoesTo, HasEnded, EndsTo, EndsFull, EndsSo, IsNext, begun_seat}
use Rattle.lane_course.specs.Scratch.{keeping, Reserves, SameRoom, SamePuts, HasPair, HasRoom}
use Rattle.core_model.proofs.FewFor.{leads}
use Rattle.core_model.proofs.FewAfter.{few_after}
use Rattle.core_model.proofs.FewSteps.{few_starts}

-- there is as much room as was reserved
pub reserved : (s : Shape) (a b : Scratch) → SameRoom a b → Reserves s a → Reserves s b
reserved s a b same r = record {
  puts = subst (λ (n : ℕ). s.batch ≤ n) (sym same.puts) r.puts;
  rows = subst (λ (n : ℕ). s.batch ≤ n) (sym same.rows) r.rows;
  values = subst (λ (n : ℕ). s.batch ≤ n) (sym same.values) r.values;
  walked = subst (λ (n : ℕ). s.batch ≤ n) (sym same.walked) r.walked;
  retired = same.retired ∙ r.retired;
  named = subst (λ (n : ℕ). s.callers ≤ n) (sym same.named) r.named;
}

module _ (id : TableId) (key s : Shape) (c : ℕ) (t : Point) (a : Scratch) (p : Seat ℕ View) (run : Running id key s c t a p) where
  abbrev k : Caller
  k = caller_of p.me.0.kept

  module _ (q : Seat ℕ View) (x : Content) (m : Moves p x q) where
    few_for : FewFor s c (course t x) (caller_of p.me.0.kept)
    few_for = let at = run.stands in leads s c (caller_of p.me.0.kept) run.lists x t at.point (subst (λ (v : Point). Few s c v p.me.0.kept.ops p.me.0.kept.rows p.me.0.kept.walked p.me.0.kept.retired p.me.0.kept.named) at.point run.few) (subst (λ (y : Shape). IsValid y (target c t)) (sym at.shape) at.ready.word)
        (λ y is. m.2.own_word y (at.point ∙ (is ∙ ap (λ (d : ℕ). point.Close y (LoadHazard d)) (sym at.caller))))

    -- there is room for what the step adds to the lists
    pub room_for : HasRoom s.callers (course t x) a
    room_for = by (course t x) few_for where
      rows_are : deque_len a.rows ≡ length p.me.0.kept.rows
      rows_are = a.rows.ok.0 ∙ sym (ap (λ (w : Caller). length w.rows) run.agrees)

      pair : ReadsOn (caller_of p.me.0.kept) → HasPair a
      pair f = let more = f.left in let paired = f.paired in let short = run.short in let r = run.reserves in let room = r.values in let wide = r.walked in
          let vs = ap (λ (w : Caller). length w.values) run.agrees in let ws = ap (λ (w : Caller). length w.walked) run.agrees in let n = a.values.ok.0 in let o = a.walked.ok.0 in
          record { values = omega (arith, more, short, room, vs, n); walked = omega (arith, more, paired, short, wide, ws, o) }

      retired_are : length a.retired.items ≡ length p.me.0.kept.retired
      retired_are = sym (ap (λ (w : Caller). length w.retired) run.agrees)

      named_are : length a.named.items ≡ length p.me.0.kept.named
      named_are = sym (ap (λ (w : Caller). length w.named) run.agrees)

      by : (y : Course) → FewFor s c y (caller_of p.me.0.kept) → HasRoom s.callers y a
      by (course_of.GoesOn u) f = tt
      by (course_of.Closes z) f = tt
      by course_of.Lacks f = tt
      by (course_of.Passes z d r) f = let room = run.reserves.walked in let some = s.some_batch.0 in omega (arith, room, some)
      by (course_of.Fills n r) f = let room = run.reserves.rows in let short = run.short in let less = f.1 in let within = f.0.few_walked in let is = rows_are in omega (arith, room, short, less, within, is)
      by (course_of.Chains n i) f = let short = run.short in let most = s.some_batch.1 in let less = f.1 in let within = f.0.few_walked in
          ⊎_elim (λ (one : length p.me.0.kept.rows ≤ 1). omega (arith, less, one)) (λ (few : length p.me.0.kept.rows ≤ enqueue_count p.me.0.kept.ops). omega (arith, less, few, within, short, most)) f.0.few_rows
      by (course_of.Stops n r) f = let room = run.reserves.rows in let some = s.some_batch.0 in omega (arith, room, some)
      by (course_of.Takes u) f = tt
      by (course_of.Hears n o z) f = let room = run.reserves.named in let inside = f.1 in let more = f.2 in let is = named_are in let len = a.named.ok.0 in (inside, omega (arith, more, is), omega (arith, more, is, room, len))
      by (course_of.Guards u h) f = tt
      by (course_of.Holds u h) f = tt
      by (course_of.Reads z r l linked) f = tt
      by (course_of.ReadsMore z r l v) f = pair f.1
      by (course_of.Walks u) f = tt
      by (course_of.WalksMore u r v) f = pair f.1
      by (course_of.Moves d n) f = tt
      by (course_of.Marks z d both stopped) f = let most = f.0 in let is = retired_are in let room = run.reserves.retired in (f.1, omega (arith, most, is, room))
      by (course_of.Retires z r) f = let is = retired_are in let room = run.reserves.retired in omega (arith, f, is, room)
      by (course_of.ClearsNode z) f = tt
      by (course_of.ClearsAnn z) f = tt
      by (course_of.Finds z d o) f = let most = f.0 in let inside = f.2 in let room = run.reserves.named in let is = named_are in let len = a.named.ok.0 in (inside, omega (arith, most, inside, room, is, len))
      by (course_of.Frees z) f = tt

    module _ (b : Scratch) (r : Next) (becomes : (n : ℕ) (w : Caller) → a.puts.items ≡ enqueued w.ops → Becomes n c w b r (followed (lane_sizes s) n c (keeping w a) (course t x))) (kept_puts : SamePuts a b) where
      -- what the seat keeps is what the course of its command says
      follows : caller_of q.me.0.kept ≡ followed (lane_sizes s) (length q.me.0.seen) c (caller_of p.me.0.kept) (course t x)
      follows = let at = run.stands in m.2.next ∙ (λ j. followed (lane_sizes ((at.planned ∙ sym at.shape) j)) (length q.me.0.seen) (at.caller j) (caller_of p.me.0.kept) (course (at.point j) x))

      lands : Becomes (length q.me.0.seen) c (caller_of p.me.0.kept) b r (caller_of q.me.0.kept)
      lands = subst (Becomes (length q.me.0.seen) c (caller_of p.me.0.kept) b r) (sym (follows ∙ ap (λ (w : Caller). followed (lane_sizes s) (length q.me.0.seen) c w (course t x)) run.agrees)) (becomes (length q.me.0.seen) (caller_of p.me.0.kept) run.enqueues)

      few_then : HasFew s c (caller_of q.me.0.kept)
      few_then = subst (HasFew s c) (sym follows) (few_after s c (length q.me.0.seen) run.known s.some_batch.0 (caller_of p.me.0.kept) run.short (course t x) few_for (subst (λ (w : Caller). Distinct w.retired) follows m.2.lists.retired))

      same : Same p q
      same = record { table = m.0; id = m.1; slots = m.3; caller = m.2.same; shape = m.2.shape; later = m.2.later }

      shape_is : q.me.0.shape ≡ s
      shape_is = let at = run.stands in m.2.shape ∙ (at.planned ∙ sym at.shape)

      -- the command goes on at the point u
      goes_on : (u : Point) → caller_of q.me.0.kept ≡ record (keeping (caller_of p.me.0.kept) b) { point = u } → Running id key s c u b q × GoesTo p q × (left_of q.me.0 < left_of p.me.0)
      goes_on u e = let g = m.2 in let at = run.stands in let there : q.me.0.kept.point ≡ u = ap (λ (y : Caller). y.point) e in let ops : q.me.0.kept.ops ≡ p.me.0.kept.ops = ap (λ (y : Caller). y.ops) e in (
        record {
          stands = record {
            table = m.0 ∙ at.table;
            size = at.size;
            shape = at.shape;
            planned = g.shape ∙ at.planned;
            alone = g.alone;
            caller = g.same ∙ at.caller;
            point = there;
            ready = subst (λ (y : Shape × ℕ × Point). Ready y.0 y.1 y.2) (λ i. ((g.shape ∙ at.planned) i, (g.same ∙ at.caller) i, there i)) g.ready;
          };
          known = run.known;
          enqueues = kept_puts.puts ∙ (run.enqueues ∙ ap enqueued (sym ops));
          agrees = e ∙ ap (λ (w : Caller). keeping w b) (sym e);
          reserves = reserved s a b kept_puts.room run.reserves;
          some = subst (λ (os : List Op). 0 < length os) (sym ops) run.some;
          short = subst (λ (os : List Op). length os ≤ s.batch) (sym ops) run.short;
          lists = subst (λ (y : Shape). ListsFit y.callers (caller_of q.me.0.kept)) shape_is g.lists;
          few = few_then;
        },
        record { same = same; ops = ops; mine = ap (λ (y : Caller). y.mine) e; started = ap (λ (y : Caller). y.started_at) e },
        g.less (subst (λ (os : List Op). 0 < length os) (sym ops) run.some),
      )

      -- the command has ended
      ended_so : q.me.0.kept.point ≡ point.Idle → q.me.0.kept.ops ≡ [] → Agrees q.me.0.kept b → HasEnded p b q
      ended_so idle none agrees = record {
        same = same;
        alone = m.2.alone;
        heard = m.2.heard;
        idle = idle;
        none_left = none;
        agrees = agrees;
        few = subst (λ (y : Shape). length q.me.0.kept.retired < y.callers) (sym shape_is) (subst (λ (v : Point). Few s c v q.me.0.kept.ops q.me.0.kept.rows q.me.0.kept.walked q.me.0.kept.retired q.me.0.kept.named) idle few_then);
        apart = m.2.lists.retired;
        knows = m.2.knows;
      }

      done_so : (xs : List Answer) → caller_of q.me.0.kept ≡ done (length q.me.0.seen) c (keeping (caller_of p.me.0.kept) b) xs → EndsTo p p.me.0.kept.ops xs b q
      done_so xs e = record {
        ended = ended_so (ap (λ (y : Caller). y.point) e) (ap (λ (y : Caller). y.ops) e) (e ∙ ap (λ (w : Caller). keeping w b) (sym e));
        mine = ap (λ (y : Caller). y.mine) e ∙ (λ i. p.me.0.kept.mine ++ record { caller = sym run.stands.caller i; batch = length p.me.0.kept.mine; ops = p.me.0.kept.ops } ∷ []);
        started = ap (λ (y : Caller). y.started_at) e;
        answers = ap (λ (y : Caller). y.answers) e;
        outcome = ap (λ (y : Caller). y.outcome) e;
      }

      full_so : caller_of q.me.0.kept ≡ ended (length q.me.0.seen) c (keeping (caller_of p.me.0.kept) b) Full → EndsFull p p.me.0.kept.ops b q
      full_so e = record {
        ended = ended_so (ap (λ (y : Caller). y.point) e) (ap (λ (y : Caller). y.ops) e) (e ∙ ap (λ (w : Caller). keeping w b) (sym e));
        mine = ap (λ (y : Caller). y.mine) e;
        above = m.2.full run.some (ap (λ (y : Caller). y.point) e) (ap (λ (y : Caller). y.outcome) e);
      }

      ends_so : (z : Closing) → caller_of q.me.0.kept ≡ ended (length q.me.0.seen) c (keeping (caller_of p.me.0.kept) b) z → EndsSo p p.me.0.kept.ops b q z
      ends_so (Plain y) e = done_so _ e
      ends_so (Batch n) e = done_so _ e
      ends_so Full e = full_so e

      pub follows_next : IsNext id key s c b p q r
      follows_next = by r lands where
        by : (y : Next) → Becomes (length q.me.0.seen) c (caller_of p.me.0.kept) b y (caller_of q.me.0.kept) → IsNext id key s c b p q y
        by (Goes u) e = goes_on u e
        by (Ends z) e = ends_so z e

-- whether a caller adds to its lists, or takes from them, at this point
abbrev changes_lists : Point → Bool
changes_lists (point.Fill n u) = true
changes_lists (point.Many d (many.LoadValue r l)) = true
changes_lists (point.Answer u) = true
changes_lists (point.Close z u) = true
changes_lists _ = false

-- no command begins so
module _ (z : LaneSizes) (c : ℕ) (k : Caller) where
  first_changes_none : (ops : List Op) → changes_lists (first_point z c k ops) ≡ false
  first_changes_none [] = refl
  first_changes_none (Enq v ∷ []) = refl
  first_changes_none (Deq ∷ []) = refl
  first_changes_none (Shut ∷ []) = refl
  first_changes_none (op ∷ next ∷ ops) = by (enqueue_count (op ∷ next ∷ ops) == 0) (draft_of c k (op ∷ next ∷ ops)) where
    by : (b : Bool) (n : Notice) → changes_lists (batch_point z c (op ∷ next ∷ ops) n b) ≡ false
    by true n = refl
    by false n = refl

module _ (id : TableId) (key s : Shape) (c : ℕ) (ops : List Op) (t : Point) (p : Seat ℕ View) (at : IsIdle id key s c ops t p) where
  module _ (a : Scratch) (known : c < s.callers) (puts : a.puts.items ≡ enqueued ops) (agrees : (n : ℕ) → Agrees (begun_seat p n ops).me.0.kept a) (reserves : Reserves s a) (few : length p.me.0.kept.retired < s.callers) (apart : Distinct p.me.0.kept.retired) where
    its_point : (n : ℕ) → (begun_seat p n ops).me.0.kept.point ≡ t
    its_point n = (λ j. first_point (lane_sizes (at.planned j)) (at.caller j) (caller_of p.me.0.kept) ops) ∙ at.point

    none_changed : (n : ℕ) (u : Point) → changes_lists u ≡ true → (begun_seat p n ops).me.0.kept.point ≡ u → ⊥
    none_changed n u changes is = differ (sym changes ∙ (ap changes_lists (sym is) ∙ first_changes_none (lane_sizes p.me.0.shape) p.me.0.caller (caller_of p.me.0.kept) ops)) where
      differ : true ≡ false → ⊥
      differ e = cc e

    pub starts_running : (n : ℕ) → Running id key s c t a (begun_seat p n ops)
    starts_running n = record {
      stands = record {
        table = at.table;
        size = at.size;
        shape = at.shape;
        planned = at.planned;
        alone = at.alone;
        caller = at.caller;
        point = its_point n;
        ready = at.ready;
      };
      known = known;
      enqueues = puts;
      agrees = agrees n;
      reserves = reserves;
      some = at.may.command.0;
      short = subst (λ (y : Shape). length ops ≤ y.batch) (at.planned ∙ sym at.shape) at.may.short;
      lists = record {
        reads = λ b r l is. absurd (none_changed n _ refl is);
        walks = λ d r l is. absurd (none_changed n _ refl is);
        fills = λ m r v is. absurd (none_changed n _ refl is);
        chains = λ m i r u is. absurd (none_changed n _ refl is);
        marks = λ z u read passed stopped is. absurd (none_changed n _ refl is);
        hears = λ m e is. absurd (none_changed n _ refl is);
        retired = apart;
      };
      few = subst (λ (y : Shape × ℕ). HasFew s c (begun (lane_sizes y.0) n y.1 (caller_of p.me.0.kept) ops)) (λ i. (sym (at.planned ∙ sym at.shape) i, sym at.caller i)) (few_starts s c n (caller_of p.me.0.kept) few ops);
    }

    pub starts_room : (q : Seat ℕ View) (x : Content) → Starts p ops x q → HasRoom s.callers (course t x) a
    starts_room q x m = room_for id key s c t a (begun_seat p m.2.0 ops) (starts_running m.2.0) q x (m.0, m.1, m.2.2, m.3)

    pub starts_next : (q : Seat ℕ View) (x : Content) → Starts p ops x q → (b : Scratch) (r : Next)
        → ((n : ℕ) (w : Caller) → a.puts.items ≡ enqueued w.ops → Becomes n c w b r (followed (lane_sizes s) n c (keeping w a) (course t x))) → SamePuts a b → (n : ℕ) × (length p.me.0.seen ≤ n) × IsNext id key s c b (begun_seat p n ops) q r
    starts_next q x m b r becomes same = (m.2.0, m.2.1, follows_next id key s c t a (begun_seat p m.2.0 ops) (starts_running m.2.0) q x (m.0, m.1, m.2.2, m.3) b r becomes same)
