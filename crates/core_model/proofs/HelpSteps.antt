-- Each step of a help keeps the lane lawful.
use Rattle.std.proofs.Common.{◌≡◌, ℕ, zero, suc, ◌-◌, ◌<◌, eqb, ltb, Bool, true, false, cond, Option, Some, None}
use Rattle.lane_steps.specs.declared.point.Help.{Help}
use Rattle.lane_steps.specs.declared.point.HelpPoint.{HelpPoint}
use Rattle.lane_steps.specs.LaneSizes.{LaneSizes}
use Rattle.lane_steps.specs.State.{State, tail_in}
use Rattle.lane_steps.specs.Step.{step_at}
use Rattle.core_model.specs.Lawful.{Lawful}
use Rattle.core_model.proofs.HelpLoads.{preserves_help_old_head, preserves_help_first, preserves_help_last, preserves_help_counts, preserves_help_tail, preserves_help_old_tail, preserves_help_link, preserves_help_pass, preserves_record_tail}
use Rattle.core_model.proofs.HelpMoves.{preserves_help_over, preserves_move_tail_over, preserves_help_walk, preserves_move_head_ann}
use Rattle.core_model.proofs.ChainLink.{preserves_link_chain}
use Rattle.bq_model.specs.declared.shape.Shape.{Shape}
use Rattle.word_rows.specs.declared.place.Place.{Place}
use Rattle.word_rows.specs.declared.head_word.HeadWord.TheVariants.{Node, Ann}
use Rattle.word_rows.specs.declared.link_word.LinkWord.{LinkWord}
use Rattle.word_rows.specs.declared.link_word.LinkWord.TheVariants.{Nil, Single, Chain, Shut}
use Rattle.word_rows.specs.declared.location.Location.TheVariants.{Link, AnnWord}
use Rattle.word_rows.specs.declared.content.Content.{Content}
use Rattle.word_rows.specs.declared.content.Content.TheVariants.{OfHead, OfTail, OfLink, OfOldTail, OfChainEnd, OfCounts}
use Rattle.word_rows.specs.Contents.{MayHold}
use Rattle.word_rows.specs.Fits.{limits_of, PlaceFits}
use Rattle.word_rows.specs.Sizes.{rows_of}
use Rattle.lane_steps.specs.declared.point.Back.{Back}
use Rattle.lane_steps.specs.Act.{same_place, location}
use Rattle.excess_count.specs.Counts.{successes_of}
use Rattle.lane_steps.specs.Fits.{BackFits, HelpFits}
use Rattle.lane_steps.specs.Coded.{PointFits, CourseFits}
use Rattle.lane_steps.specs.Help.{before_it, walk_on, walk, back_point, walk_from, at_old_tail, has_enough}
use Rattle.core_model.proofs.Fitting.{no_place}
use Rattle.lane_steps.specs.declared.point.HelpPoint.TheVariants as help
use Rattle.lane_steps.specs.declared.point.Point.TheVariants as point
use Rattle.word_rows.specs.declared.location.AnnField.TheVariants as field
use Rattle.lane_steps.specs.declared.point.Back.TheVariants as back
use Rattle.lane_steps.specs.Help as helping
use Rattle.lane_steps.specs.Stopper.{is_stopped, linked_rows}
use Rattle.core_model.proofs.Decides.{preserves_decide}

pub preserves_help : (z : LaneSizes) (s : State) (L : Lawful z s) (c : ℕ) (h : Help) (p : HelpPoint) → (s.callers c).point ≡ point.Help h p → Lawful z (step_at z s c (point.Help h p))
preserves_help z s L c h help.LoadOldHead is = preserves_help_old_head z s L c h is
preserves_help z s L c h help.LoadFirst is = preserves_help_first z s L c h is
preserves_help z s L c h help.LoadLast is = preserves_help_last z s L c h is
preserves_help z s L c h help.LoadCounts is = preserves_help_counts z s L c h is
preserves_help z s L c h help.LoadTail is = preserves_help_tail z s L c h is
preserves_help z s L c h (help.LoadOldTail p) is = preserves_help_old_tail z s L c h p is
preserves_help z s L c h (help.LoadLink p) is = preserves_help_link z s L c h p is
preserves_help z s L c h (help.LinkChain p) is = preserves_link_chain z s L c h p is
preserves_help z s L c h (help.Decide p) is = preserves_decide z s L c h p is
preserves_help z s L c h (help.PassTail p n) is = preserves_help_pass z s L c h p n is
preserves_help z s L c h (help.RecordTail p) is = preserves_record_tail z s L c h p is
preserves_help z s L c h (help.LoadTailOver q) is = preserves_help_over z s L c h q is
preserves_help z s L c h (help.MoveTailOver q) is = preserves_move_tail_over z s L c h q is
preserves_help z s L c h (help.LoadWalk m r l) is = preserves_help_walk z s L c h m r l is
preserves_help z s L c h (help.MoveHead m r) is = preserves_move_head_ann z s L c h m r is

-- and it goes on with what fits
module _ (s : Shape) where
  help_either : (b : Bool) (p q : HelpPoint) → helping.fits s p → helping.fits s q → helping.fits s (cond b p q)
  help_either true p q a b = a
  help_either false p q a b = b

  help_link : (h : Help) (p : Place) (x : LinkWord) → PlaceFits (limits_of s) p → MayHold s (Link p.row) (OfLink x) → helping.fits s (helping.after_link h p x)
  help_link h p Nil b m = b
  help_link h p (Single n) b m = (b, m.1)
  help_link h p (Chain n) b m = help_either (eqb n h.first) (help.RecordTail p) help.LoadTail b tt
  help_link h p Shut b m = tt

  walks_on : (n r l : ℕ) → r < rows_of s → helping.fits s (walk_on n r l)
  walks_on n r zero b = b
  walks_on n r (suc l) b = b

  walks : (h : Help) (q : Place) → HelpFits s h → PlaceFits (limits_of s) q → helping.fits s (walk h q)
  walks h q a b = let n = before_it h q in let m = successes_of h.counts (before_it h q) in
      help_either (is_stopped h.counts n) (help.MoveHead (suc n) h.last) (walk_from h q n m) a.last
      (help_either (ltb m n) (walk_on m h.old_head.row m) (walk_on m q.row (m - n)) (walks_on m h.old_head.row m a.old_head.0) (walks_on m q.row (m - n) b.0))

  at_end : (h : Help) (q : Place) → HelpFits s h → PlaceFits (limits_of s) q → helping.fits s (at_old_tail h q)
  at_end h q a b = help_either (ltb 0 (linked_rows h.counts (before_it h q))) (help.LoadTailOver q) (walk h q) b (walks h q a b)

  old_tail_read : (h : Help) (p : Place) (x : Option Place) → HelpFits s h → PlaceFits (limits_of s) p → MayHold s (AnnWord h.ann field.OldTail) (OfOldTail x) → helping.fits s (helping.after_old_tail h p x)
  old_tail_read h p None a b m = help_either (has_enough h p) (help.Decide p) (help.LoadLink p) b b
  old_tail_read h p (Some q) a b m = at_end h q a m.1

  tail_recorded : (h : Help) (p : Place) (x : Option Place) → HelpFits s h → PlaceFits (limits_of s) p → MayHold s (AnnWord h.ann field.OldTail) (OfOldTail x) → helping.fits s (helping.after_record h p x)
  tail_recorded h p None a b m = at_end h p a b
  tail_recorded h p (Some q) a b m = at_end h q a m.1

  goes_back : (h : Help) (b : Back) → HelpFits s h → BackFits s b → PointFits s (back_point h b)
  goes_back h back.Own a f = a
  goes_back h (back.Enqueue i) a f = (f, tt)
  goes_back h back.Dequeue a f = tt
  goes_back h (back.Batch d) a f = f
  goes_back h (back.Many d) a f = (f, tt)

  help_walk : (h : Help) (n r l : ℕ) (x : LinkWord) → HelpFits s h → MayHold s (Link r) (OfLink x) → PointFits s (helping.after_walk h n l x)
  help_walk h n r l Nil a m = goes_back h h.back a a.goes_back
  help_walk h n r l (Single y) a m = (a, walks_on n y l m.1)
  help_walk h n r l (Chain y) a m = (a, walks_on n y l m.1)
  help_walk h n r l Shut a m = goes_back h h.back a a.goes_back

  pub help_fits : (h : Help) (p : HelpPoint) (x : Content) → HelpFits s h → helping.fits s p → MayHold s (location (helping.act h p)) x → CourseFits s (helping.course h p x)
  help_fits h help.LoadOldHead (OfHead (Node p)) a b m = (record { ann = a.ann; old_head = m.1; first = a.first; last = a.last; counts = a.counts; goes_back = a.goes_back }, tt)
  help_fits h help.LoadOldHead (OfHead (Ann n y)) a b m = (record { ann = a.ann; old_head = (no_place s); first = a.first; last = a.last; counts = a.counts; goes_back = a.goes_back }, tt)
  help_fits h help.LoadFirst (OfChainEnd r) a b m = (record { ann = a.ann; old_head = a.old_head; first = m.1; last = a.last; counts = a.counts; goes_back = a.goes_back }, tt)
  help_fits h help.LoadLast (OfChainEnd r) a b m = (record { ann = a.ann; old_head = a.old_head; first = a.first; last = m.1; counts = a.counts; goes_back = a.goes_back }, tt)
  help_fits h help.LoadCounts (OfCounts y) a b m = (record { ann = a.ann; old_head = a.old_head; first = a.first; last = a.last; counts = m.1; goes_back = a.goes_back }, tt)
  help_fits h help.LoadTail (OfTail q) a b m = (a, m.1)
  help_fits h (help.LoadOldTail p) (OfOldTail x) a b m = (a, old_tail_read h p x a b m)
  help_fits h (help.LoadLink p) (OfLink x) a b m = (a, help_link h p x b m)
  help_fits h (help.LinkChain p) x a b m = (a, tt)
  help_fits h (help.Decide p) (OfOldTail x) a b m = (a, tail_recorded h p x a b m)
  help_fits h (help.PassTail p r) x a b m = (a, tt)
  help_fits h (help.RecordTail p) (OfOldTail x) a b m = (a, tail_recorded h p x a b m)
  help_fits h (help.LoadTailOver q) x a b m = (a, help_either (same_place (tail_in x) q) (help.MoveTailOver q) (walk h q) b (walks h q a b))
  help_fits h (help.MoveTailOver q) x a b m = (a, walks h q a b)
  help_fits h (help.LoadWalk n r l) (OfLink x) a b m = help_walk h n r l x a m
  help_fits h (help.MoveHead n r) x a b m = goes_back h h.back a a.goes_back
  help_fits _ _ _ a b m = absurd m.0
