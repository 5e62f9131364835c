-- Each step of several dequeues and no enqueue on their walk behind the dummy.
use Rattle.std.proofs.Common.{◌≡◌, ℕ, zero, suc, ◌+◌, ◌<◌, Bool, true, false, cond, List, [], ◌∷◌, ◌++◌, length, sym, refl, ap, ◌∙◌, subst, arith, length-append, None, ◌-◌, leb, Option, Some}
use Rattle.word_rows.specs.declared.place.Place.{Place}
use Rattle.word_rows.specs.declared.head_word.HeadWord.{HeadWord}
use Rattle.word_rows.specs.declared.head_word.HeadWord.TheVariants.{Node, Ann}
use Rattle.word_rows.specs.declared.link_word.LinkWord.{LinkWord}
use Rattle.word_rows.specs.declared.link_word.LinkWord.TheVariants.{Nil, Single, Chain, Shut}
use Rattle.word_rows.specs.declared.location.Location.TheVariants.{Head, Link, Tail}
use Rattle.word_rows.specs.declared.content.Content.TheVariants.{OfHead, OfLink, OfTail}
use Rattle.lane_steps.specs.declared.course.Course.TheVariants.{GoesOn, Moves, WalksMore}
use Rattle.lane_steps.specs.Functions.{run, put}
use Rattle.lane_steps.specs.LaneSizes.{LaneSizes}
use Rattle.lane_steps.specs.State.{Caller, State, write, head_in, command, Memory}
use Rattle.lane_steps.specs.Act.{is_node, same_place, location}
use Rattle.lane_steps.specs.Fact.{has_walked, is_walking, spares, fills, whole}
use Rattle.lane_steps.specs.Step.{step_with, step_at, stepped, stepped_with, followed}
use Rattle.core_model.specs.Facts.{Holds, AtPoint, Each}
use Rattle.core_model.specs.Ghost.{Ghost, joint}
use Rattle.core_model.specs.Lawful.{Lawful, LinksIn}
use Rattle.core_model.proofs.Rely.{third, fourth, fifth, world, some_none}
use Rattle.core_model.proofs.Counting.{chain_none}
use Rattle.core_model.proofs.Preserves.{known, stutters, changed, point_changes, stutters_with}
use Rattle.core_model.proofs.StoredAgain.{write_read}
use Rattle.std.proofs.lemmas.Bool.{leb-true}
use mathlib.Core.Logic.{dite}
use native.Mathlib.Decide.{dec_le}
use Rattle.lane_steps.specs.Help.{help_of}
use Rattle.core_model.proofs.Tails.{exchanges, with_memory}
use Rattle.core_model.proofs.Lookups.{next_found}
use Rattle.bq_model.specs.declared.shape.Shape.{Shape}
use Rattle.word_rows.specs.declared.content.Content.{Content}
use Rattle.word_rows.specs.Contents.{MayHold}
use Rattle.word_rows.specs.Fits.{limits_of, PlaceFits}
use Rattle.lane_steps.specs.Coded.{PointFits, CourseFits}
use Rattle.core_model.proofs.Fitting.{fresh_help, course_either, point_either}
use Rattle.lane_steps.specs.declared.point.Point.TheVariants as point
use Rattle.lane_steps.specs.declared.point.Back.TheVariants as back
use Rattle.lane_steps.specs.declared.point.Guarding.TheVariants as guard
use Rattle.lane_steps.specs.declared.point.GuardPoint.TheVariants.{StoreHazard}
use Rattle.lane_steps.specs.declared.point.Taking.TheVariants as taking
use Rattle.lane_steps.specs.Take.{search}
use Rattle.lane_steps.specs.declared.point.Plan.{Plan}
use Rattle.lane_steps.specs.declared.point.ManyPoint.TheVariants as many
use Rattle.word_rows.specs.declared.location.AnnField.TheVariants as field
use Rattle.lane_steps.specs.declared.point.Notice.{Notice}
use Rattle.lane_steps.specs.declared.point.ManyPoint.{ManyPoint}
use Rattle.lane_steps.specs.declared.point.Point.{Point}
use Rattle.lane_steps.specs.declared.point.BatchPoint.TheVariants as batch
use Rattle.lane_steps.specs.Many as dequeues
use Rattle.lane_steps.specs.Fits.{PlanFits, ChosenFits, NoticeFits}
use Rattle.word_rows.specs.Sizes.{rows_of}
use Rattle.core_model.proofs.Puts.{run_next}
use Rattle.core_model.proofs.ManyMoves.{preserves_many_dummy, preserves_move_head_many}

module _ (z : LaneSizes) (s : State) (L : Lawful z s) (c : ℕ) where
  abbrev G : Ghost
  G = L.ghost

  abbrev me : Caller
  me = s.callers c

  -- what was known of the plan, where it says another old head
  known_on_dummy : (d : Plan) (p : Place) → Each z (world s L.ghost) c (dequeues.call_knows (command (s.callers c)) d) → Each z (world s L.ghost) c (dequeues.call_knows (command (s.callers c)) (dequeues.on_dummy d p))
  known_on_dummy d p f = (
    f.0,
    (
      let x = f.1.0 in let y = x.describes in record {
        known = x.known;
        describes = record { counts = y.counts; number = y.number; order0 = y.order0; order1 = y.order1; order2 = y.order2; order3 = y.order3 };
        several = x.several;
        plain = x.plain;
      },
      (third f, (((fourth f).0, λ some. let x = (fourth f).1 some in record { all = x.all; first = x.first; last = x.last }), (fifth f, tt))),
    ),
  )

  -- it helps the announcement that it found in HEAD
  ann_met : (d : Plan) (a n : ℕ) → s.memory.head ≡ Ann a n → Each z (world s L.ghost) c (dequeues.call_knows (command (s.callers c)) d) → Holds z (world s L.ghost) c (spares d.ann)
      → Lawful z (changed s c (write s.memory Head (OfHead (Ann a n))) s.history (stepped (s.callers c) (point.Guard (guard.Help (help_of a n (back.Many d))) StoreHazard)))
  ann_met d a n is f w = stutters z s L c (point.Guard (guard.Help (help_of a n (back.Many d))) StoreHazard) Head (OfHead (Ann a n)) (ap OfHead is)
      (record { call = ((λ own. absurd own), (fifth f, (f.0, (f.1.0, (third f, (fourth f, (w, tt))))))); here = tt })

  many_head : (d : Plan) (x : HeadWord) → s.memory.head ≡ x → AtPoint z (world s L.ghost) c (s.callers c) (point.Many d many.LoadHead) → Lawful z (step_with z s c (point.Many d many.LoadHead) (OfHead x))
  many_head d (Node p) is f = stutters z s L c (point.Guard (guard.Many (dequeues.on_dummy d p)) StoreHazard) Head (OfHead (Node p)) (ap OfHead is) (record { call = known_on_dummy d p f.call; here = f.here })
  many_head d (Ann a n) is f = ann_met d a n is f.call f.here.0

  many_chained : (d : Plan) (x : HeadWord) → s.memory.head ≡ x → AtPoint z (world s L.ghost) c (s.callers c) (point.Many d many.LoadChained) → Lawful z (step_with z s c (point.Many d many.LoadChained) (OfHead x))
  many_chained d (Node p) is f = stutters z s L c (point.Many d many.LoadHead) Head (OfHead (Node p)) (ap OfHead is) (record { call = f.call; here = f.here })
  many_chained d (Ann a n) is f = ann_met d a n is f.call f.here.0

  -- the link of the last row that was read names the next one, as long as the dummy is the dummy
  next_on_walk : (p : Place) (vs ws : List ℕ) (r n : ℕ) (b : Bool) → s.memory.link r ≡ joint b n → n < z.rows → Holds z (world s L.ghost) c (has_walked p vs ws r) → Holds z (world s L.ghost) c (is_walking p vs ws n)
  next_on_walk p vs ws r n b is inside w = record {
    inside = inside;
    as_many = w.as_many;
    seen = w.seen;
    there = λ e. let y = w.there e in let le = y.0 in dite (dec_le (suc (length vs)) G.rest)
        (λ below. (below, names (G.chained (G.head + length vs)) b (G.path (suc (G.head + length vs))) n (sym (L.list.rows.joined (G.head + length vs) (omega arith) (omega arith)) ∙ (ap s.memory.link y.1 ∙ is)), y.2, y.3))
        (λ end. absurd (never b n (sym L.list.rows.last ∙ (ap (λ (j : ℕ). s.memory.link (G.path j)) (let same : G.head + G.rest ≡ G.head + length vs = omega arith in same) ∙ (ap s.memory.link y.1 ∙ is)))));
  } where
    names : (a b : Bool) (x n : ℕ) → joint a x ≡ joint b n → x ≡ n
    names true true x n e = cc e
    names false false x n e = cc e
    names true false x n e = absurd (cc e)
    names false true x n e = absurd (cc e)

    never : (b : Bool) (x : ℕ) → Nil ≡ joint b x → ⊥
    never true x e = cc e
    never false x e = cc e

  -- there are too few values: a stopper is taken, or the announcement is stored where it is chosen
  announces : (d : Plan) (a : Option ℕ) → d.ann ≡ a → Each z (world s L.ghost) c (dequeues.call_knows (command (s.callers c)) d) → Holds z (world s L.ghost) c (spares d.ann)
      → Lawful z record { memory = s.memory; history = s.history; callers = put s.callers c (followed z (length s.history) c (s.callers c) (dequeues.announces d.notice a)) }
  announces d None is f spare = point_changes z s L c (search z c (taking.Stopper d.notice))
      (record { call = (f.0, (f.1.0, (fifth f, (((λ _. (fourth f).0 is), λ some. absurd (some refl)), tt)))); here = ((0, refl, (let some = L.sizes.some true in omega arith)), tt) })
  announces d (Some a) is f spare = point_changes z s L c (point.Batch (record { ann = a; notice = d.notice }) (batch.StoreAll field.OldHead))
      (record {
        call = (f.0, (f.1.0, (subst (λ (n : ℕ). Holds z (world s L.ghost) c (fills me.rows me.ops n)) (let one = whole_rows.all in let count = chain_none d.notice.counts (fifth f).0 in let e : 0 ≡ length me.rows - 1 = omega arith in e) (third f), (whole_rows, tt))));
        here = (fifth f, (subst (λ (x : Option ℕ). Holds z (world s L.ghost) c (spares x)) is spare, tt));
      }) where
        whole_rows : Holds z (world s L.ghost) c (whole d.notice me.rows)
        whole_rows = (fourth f).1 (λ none. some_none (sym is ∙ none))

  many_link : (d : Plan) (r l : ℕ) (x : LinkWord) → s.memory.link r ≡ x → AtPoint z (world s L.ghost) c (s.callers c) (point.Many d (many.LoadLink r l)) → Lawful z (step_with z s c (point.Many d (many.LoadLink r l)) (OfLink x))
  many_link d r l Nil is f = subst (λ (m : Memory). Lawful z record { memory = m; history = s.history; callers = put s.callers c (followed z (length s.history) c (s.callers c) (dequeues.announces d.notice d.ann)) })
      (sym (ap (write s.memory (Link r)) (ap OfLink (sym is)) ∙ write_read s.memory (Link r))) (announces d d.ann refl f.call f.here.0)
  many_link d r l (Single n) is f = stutters z s L c (point.Many d (many.LoadValue n l)) (Link r) (OfLink (Single n)) (ap OfLink is)
      (record { call = f.call; here = (f.here.0, (next_on_walk d.notice.old_head me.values me.walked r n false is (subst (LinksIn z.rows) is (L.list.links r)) f.here.1.0, (third f.here, tt))) })
  many_link d r l (Chain n) is f = stutters z s L c (point.Many d (many.LoadValue n l)) (Link r) (OfLink (Chain n)) (ap OfLink is)
      (record { call = f.call; here = (f.here.0, (next_on_walk d.notice.old_head me.values me.walked r n true is (subst (LinksIn z.rows) is (L.list.links r)) f.here.1.0, (third f.here, tt))) })
  many_link d r l Shut is f = stutters z s L c (point.Many d many.LoadHead) (Link r) (OfLink Shut) (ap OfLink is) (record { call = f.call; here = (f.here.0, tt) })

  -- one value more
  one_more : (p : Place) (vs ws : List ℕ) (r : ℕ) → Holds z (world s L.ghost) c (is_walking p vs ws r) → Holds z (world s L.ghost) c (has_walked p (vs ++ s.memory.value r ∷ []) (ws ++ r ∷ []) r)
  one_more p vs ws r w = let long = length-append vs (s.memory.value r ∷ []) in record {
    inside = w.inside;
    as_many = (let longer = length-append ws (r ∷ []) in let same = w.as_many in omega arith);
    seen = w.seen;
    there = λ e. let y = w.there e in let below = y.0 in let longer : suc (length vs) ≡ length (vs ++ s.memory.value r ∷ []) = omega arith in (
      omega arith,
      ap G.path (let same : G.head + length (vs ++ s.memory.value r ∷ []) ≡ suc (G.head + length vs) = omega arith in same) ∙ y.1,
      (λ k. y.2 k ++ s.memory.value (sym y.1 k) ∷ []) ∙ (run_next (λ j. s.memory.value (G.path j)) G.head (length vs) ∙ ap (run (λ j. s.memory.value (G.path j)) (suc G.head)) longer),
      (λ k. y.3 k ++ sym y.1 k ∷ []) ∙ (run_next G.path G.head (length vs) ∙ ap (run G.path (suc G.head)) longer),
    );
  }

  value_on : (d : Plan) (r l : ℕ) → AtPoint z (world s L.ghost) c (s.callers c) (point.Many d (many.LoadValue r l))
      → AtPoint z (world s L.ghost) c (stepped_with (s.callers c) (point.Many d (dequeues.after_value r l)) ((s.callers c).values ++ s.memory.value r ∷ []) ((s.callers c).walked ++ r ∷ [])) (point.Many d (dequeues.after_value r l))
  value_on d r zero f = let long = length-append me.values (s.memory.value r ∷ []) in let all = third f.here in record { call = f.call; here = (f.here.0, (one_more d.notice.old_head me.values me.walked r f.here.1.0, ((omega arith), tt))) }
  value_on d r (suc l) f = let long = length-append me.values (s.memory.value r ∷ []) in let all = third f.here in record { call = f.call; here = (f.here.0, (one_more d.notice.old_head me.values me.walked r f.here.1.0, ((omega arith), tt))) }

  -- the tail is far enough, or it lies before the new dummy
  many_tail : (d : Plan) (r : ℕ) (b : Bool) → leb d.notice.counts.deqs (s.memory.tail.count - d.notice.old_head.count) ≡ b → AtPoint z (world s L.ghost) c (s.callers c) (point.Many d (many.LoadTail r))
      → Lawful z (changed s c (write s.memory Tail (OfTail s.memory.tail)) s.history (stepped (s.callers c) (cond b (point.Many d (many.MoveHead r)) (point.Guard (guard.ManyTail d s.memory.tail) StoreHazard))))
  many_tail d r true is f = let far = leb-true d.notice.counts.deqs (s.memory.tail.count - d.notice.old_head.count) is in let some = (fifth f.call).1 in let count = ap (λ (p : Place). p.count) L.list.tail.named in
      stutters z s L c (point.Many d (many.MoveHead r)) Tail (OfTail s.memory.tail) refl (record { call = f.call; here = (f.here.0, (f.here.1.0, (third f.here, ((omega arith), tt)))) })
  many_tail d r false is f = stutters z s L c (point.Guard (guard.ManyTail d s.memory.tail) StoreHazard) Tail (OfTail s.memory.tail) refl (record { call = f.call; here = (f.here.0, tt) })

  many_behind : (d : Plan) (p : Place) (x : LinkWord) → s.memory.link p.row ≡ x → AtPoint z (world s L.ghost) c (s.callers c) (point.Many d (many.LoadBehind p)) → Lawful z (step_with z s c (point.Many d (many.LoadBehind p)) (OfLink x))
  many_behind d p Nil is f = stutters z s L c (point.Many d many.LoadHead) (Link p.row) (OfLink Nil) (ap OfLink is) (record { call = f.call; here = (f.here.0, tt) })
  many_behind d p (Single n) is f = let next = next_found z s L c p n false f.here.1.0 is in stutters z s L c (point.Many d (many.PassTail p n)) (Link p.row) (OfLink (Single n)) (ap OfLink is) (record { call = f.call; here = (f.here.0, (next.0, (next.1, tt))) })
  many_behind d p (Chain n) is f = stutters z s L c (point.Many d many.LoadChained) (Link p.row) (OfLink (Chain n)) (ap OfLink is) (record { call = f.call; here = (f.here.0, tt) })
  many_behind d p Shut is f = stutters z s L c (point.Many d many.LoadHead) (Link p.row) (OfLink Shut) (ap OfLink is) (record { call = f.call; here = (f.here.0, tt) })

  many_pass : (d : Plan) (p : Place) (n : ℕ) → (s.callers c).point ≡ point.Many d (many.PassTail p n) → Lawful z (step_at z s c (point.Many d (many.PassTail p n)))
  many_pass d p n is = let f = known z s L c (point.Many d (many.PassTail p n)) is in exchanges z s L c p n (stepped (s.callers c) (point.Many d many.LoadHead)) f.here.1.0 (third f.here)
      (λ memory l. let k = known z (with_memory z s L c memory) l c (point.Many d (many.PassTail p n)) is in point_changes z (with_memory z s L c memory) l c (point.Many d many.LoadHead) (record { call = k.call; here = (k.here.0, tt) })) (same_place s.memory.tail p) refl

  -- each step of dequeues alone, until their announcement is installed
  pub preserves_many : (d : Plan) (p : ManyPoint) → (s.callers c).point ≡ point.Many d p → Lawful z (step_at z s c (point.Many d p))
  preserves_many d many.LoadHead is = many_head d s.memory.head refl (known z s L c (point.Many d many.LoadHead) is)
  preserves_many d many.LoadDummy is = preserves_many_dummy z s L c d is
  preserves_many d (many.LoadLink r l) is = many_link d r l (s.memory.link r) refl (known z s L c (point.Many d (many.LoadLink r l)) is)
  preserves_many d (many.LoadValue r l) is = let f = known z s L c (point.Many d (many.LoadValue r l)) is in let u : Point = point.Many d (dequeues.after_value r l) in
      stutters_with z s L c (point.Many d (many.LoadValue r l)) u (me.values ++ s.memory.value r ∷ []) (me.walked ++ r ∷ []) (WalksMore u r (s.memory.value r)) refl refl refl (λ _. refl) f.call.0.1 (value_on d r l f)
  preserves_many d (many.LoadTail r) is = many_tail d r (leb d.notice.counts.deqs (s.memory.tail.count - d.notice.old_head.count)) refl (known z s L c (point.Many d (many.LoadTail r)) is)
  preserves_many d (many.MoveHead r) is = preserves_move_head_many z s L c d r is
  preserves_many d (many.LoadBehind p) is = many_behind d p (s.memory.link p.row) refl (known z s L c (point.Many d (many.LoadBehind p)) is)
  preserves_many d (many.PassTail p n) is = many_pass d p n is
  preserves_many d many.LoadChained is = many_chained d s.memory.head refl (known z s L c (point.Many d many.LoadChained) is)

-- and they go on with what fits
module _ (s : Shape) where
  head_fits : (d : Plan) (x : HeadWord) → PlanFits s d → MayHold s Head (OfHead x) → PointFits s (dequeues.after_head d x)
  head_fits d (Node p) a m = let n = a.1 in (
    (a.0, record { old_head = m.1; first = n.first; last = n.last; counts = n.counts; number = n.number; order0 = n.order0; order1 = n.order1; order2 = n.order2; order3 = n.order3 }),
    tt,
  )
  head_fits d (Ann n k) a m = (fresh_help s n k (back.Many d) m.1.0 m.1.1 a, tt)

  chained_fits : (d : Plan) (x : HeadWord) → PlanFits s d → MayHold s Head (OfHead x) → PointFits s (dequeues.after_chained d x)
  chained_fits d (Node p) a m = (a, tt)
  chained_fits d (Ann n k) a m = (fresh_help s n k (back.Many d) m.1.0 m.1.1 a, tt)

  dummy_fits : (d : Plan) (r : ℕ) (x : LinkWord) → PlanFits s d → MayHold s (Link r) (OfLink x) → CourseFits s (dequeues.after_dummy d x)
  dummy_fits d r Nil a m = tt
  dummy_fits d r (Single n) a m = (a, m.1)
  dummy_fits d r (Chain n) a m = (a, m.1)
  dummy_fits d r Shut a m = (a, tt)

  announces_fits : (n : Notice) (a : Option ℕ) → ChosenFits s a → NoticeFits s n → CourseFits s (dequeues.announces n a)
  announces_fits n None c a = a
  announces_fits n (Some x) c a = (c, a)

  link_fits : (d : Plan) (r l : ℕ) (x : LinkWord) → PlanFits s d → MayHold s (Link r) (OfLink x) → CourseFits s (dequeues.after_link d l x)
  link_fits d r l Nil a m = announces_fits d.notice d.ann a.0 a.1
  link_fits d r l (Single n) a m = (a, m.1)
  link_fits d r l (Chain n) a m = (a, m.1)
  link_fits d r l Shut a m = (a, tt)

  value_fits : (r l : ℕ) → r < rows_of s → dequeues.fits s (dequeues.after_value r l)
  value_fits r zero a = a
  value_fits r (suc l) a = a

  behind_fits : (p : Place) (x : LinkWord) → PlaceFits (limits_of s) p → MayHold s (Link p.row) (OfLink x) → dequeues.fits s (dequeues.after_behind p x)
  behind_fits p Nil a m = tt
  behind_fits p (Single n) a m = (a, m.1)
  behind_fits p (Chain n) a m = tt
  behind_fits p Shut a m = tt

  pub many_fits : (d : Plan) (p : ManyPoint) (x : Content) → PlanFits s d → dequeues.fits s p → MayHold s (location (dequeues.act d p)) x → CourseFits s (dequeues.course d p x)
  many_fits d many.LoadHead (OfHead x) a b m = head_fits d x a m
  many_fits d many.LoadDummy (OfLink x) a b m = dummy_fits d d.notice.old_head.row x a m
  many_fits d (many.LoadLink r l) (OfLink x) a b m = link_fits d r l x a m
  many_fits d (many.LoadValue r l) x a b m = ((a, value_fits r l b), b)
  many_fits d (many.LoadTail r) (OfTail x) a b m = point_either s (leb d.notice.counts.deqs (x.count - d.notice.old_head.count)) (point.Many d (many.MoveHead r)) (point.Guard (guard.ManyTail d x) StoreHazard) (a, b) (a, m.1)
  many_fits d (many.MoveHead r) x a b m = course_either s (is_node (head_in x) d.notice.old_head) (Moves d.notice.old_head d.notice.counts.deqs) (GoesOn (point.Many d many.LoadHead)) a.1.old_head (a, tt)
  many_fits d (many.LoadBehind p) (OfLink x) a b m = (a, behind_fits p x b m)
  many_fits d (many.PassTail p r) x a b m = (a, tt)
  many_fits d many.LoadChained (OfHead x) a b m = chained_fits d x a m
  many_fits _ _ _ _ _ m = absurd m.0
