-- The steps of a help, and of dequeues alone that hold their dummy.
use Rattle.std.proofs.Common.{◌≡◌, ◌==◌, ◌-◌, nat_le, ◌<◌, ℕ, Bool, true, false, cond, ◌∙◌, ap, sym, refl}
use Rattle.atomic_table.specs.Seated.{TableId}
use Rattle.atomic_table.specs.declared.shared.Seat.{Seat}
use Rattle.bq_model.specs.declared.shape.Shape.{Shape}
use Rattle.excess_count.specs.declared.counts.Counts.{Counts}
use Rattle.word_rows.specs.declared.content.Content.{Content}
use Rattle.word_rows.specs.declared.content.Content.TheVariants.{OfHead, OfTail}
use Rattle.word_rows.specs.declared.head_word.HeadWord.TheVariants.{Node, Ann}
use Rattle.word_rows.specs.declared.place.Place.{Place}
use Rattle.lane_steps.specs.declared.course.Course.TheVariants.{GoesOn, Guards, Holds}
use Rattle.lane_steps.specs.declared.point.Guarding.TheVariants as guard
use Rattle.lane_steps.specs.declared.point.GuardPoint.TheVariants.{StoreHazard, LoadAgain}
use Rattle.lane_steps.specs.declared.point.Help.{Help}
use Rattle.lane_steps.specs.declared.point.HelpPoint.{HelpPoint}
use Rattle.lane_steps.specs.declared.point.HelpPoint.TheVariants as help
use Rattle.lane_steps.specs.declared.point.Hold.TheVariants.{Names, Held}
use Rattle.lane_steps.specs.declared.point.ManyPoint.TheVariants as many
use Rattle.lane_steps.specs.declared.point.Plan.{Plan}
use Rattle.lane_steps.specs.declared.point.Point.{Point}
use Rattle.lane_steps.specs.declared.point.Point.TheVariants as point
use Rattle.lane_steps.specs.Act.{same_content, same_place}
use Rattle.lane_steps.specs.Help.{after_link, walk}
use Rattle.lane_steps.specs.Many.{after_tail}
use Rattle.word_rows.specs.declared.link_word.LinkWord.{LinkWord}
use Rattle.word_rows.specs.declared.link_word.LinkWord.TheVariants.{Chain}
use Rattle.lane_steps.specs.Guard as guarding
use Rattle.lane_steps.specs.Notices.{dummy_in, chain_end_in, counts_in}
use Rattle.lane_steps.specs.State.{tail_in, link_in}
use Rattle.lane_rule.specs.declared.view.View.{View}
use Rattle.lane_rule.specs.Goes.{left_of}
use Rattle.lane_rule.specs.Plays.{Moves}
use Rattle.lane_course.specs.declared.scratch.Scratch.{Scratch}
use Rattle.lane_course.specs.Running.{Running, GoesTo}
use Rattle.help_ways.proofs.Single.{steps, holds, guards}

-- the command of p has gone on to q, at this point, and less of it is left
abbrev To : (id : TableId) (key s : Shape) (c : ℕ) (p q : Seat ℕ View) → Point → Scratch → Type 0
To id key s c p q u b = Running id key s c u b q × GoesTo p q × (left_of q.me.0 < left_of p.me.0)

module _ {id : TableId} {key s : Shape} {c : ℕ} {a : Scratch} {p q : Seat ℕ View} {x : Content} where
  module _ {h : Help} where
    -- it finds a tail, names its row, and holds it or looks again
    pub sees_tail : Running id key s c (point.Help h help.LoadTail) a p → Moves p x q → (t : Place) → t ≡ tail_in x → To id key s c p q (point.Guard (guard.HelpTail h t) StoreHazard) a
    sees_tail run m t is = steps run m (point.Guard (guard.HelpTail h t) StoreHazard) (ap (λ (v : Place). GoesOn (point.Guard (guard.HelpTail h v) StoreHazard)) (sym is))

    pub names_tail : {t : Place} → Running id key s c (point.Guard (guard.HelpTail h t) StoreHazard) a p → Moves p x q → To id key s c p q (point.Guard (guard.HelpTail h t) LoadAgain) (record a { row_hold = Names t.row })
    names_tail {t} run m = holds run m (point.Guard (guard.HelpTail h t) LoadAgain) (Names t.row) refl

    pub holds_tail : {t : Place} → Running id key s c (point.Guard (guard.HelpTail h t) LoadAgain) a p → Moves p x q → same_content x (OfTail t) ≡ true → To id key s c p q (point.Help h (help.LoadOldTail t)) (record a { row_hold = Held t.row })
    holds_tail {t} run m is = holds run m (point.Help h (help.LoadOldTail t)) (Held t.row) (ap (λ (b : Bool). cond b (Holds (point.Help h (help.LoadOldTail t)) (Held t.row)) (GoesOn (point.Help h help.LoadTail))) is)

    pub looks_again : {t : Place} → Running id key s c (point.Guard (guard.HelpTail h t) LoadAgain) a p → Moves p x q → same_content x (OfTail t) ≡ false → To id key s c p q (point.Help h help.LoadTail) a
    looks_again {t} run m is = steps run m (point.Help h help.LoadTail) (ap (λ (b : Bool). cond b (Holds (point.Help h (help.LoadOldTail t)) (Held t.row)) (GoesOn (point.Help h help.LoadTail))) is)

    -- it finds this behind the tail
    pub sees_link : {t : Place} → Running id key s c (point.Help h (help.LoadLink t)) a p → Moves p x q → {w : LinkWord} → link_in x ≡ w → To id key s c p q (point.Help h (after_link h t w)) a
    sees_link {t} run m {w} is = steps run m (point.Help h (after_link h t w)) (ap (λ (v : LinkWord). GoesOn (point.Help h (after_link h t v))) is)

    pub finds_chain : {t : Place} → Running id key s c (point.Help h (help.LoadLink t)) a p → Moves p x q → {r : ℕ} → link_in x ≡ Chain r → (b : Bool) → (r == h.first) ≡ b → To id key s c p q (point.Help h (cond b (help.RecordTail t) help.LoadTail)) a
    finds_chain {t} run m {r} is b same = steps run m (point.Help h (cond b (help.RecordTail t) help.LoadTail)) (ap (λ (v : LinkWord). GoesOn (point.Help h (after_link h t v))) is ∙ ap (λ (v : Bool). GoesOn (point.Help h (cond v (help.RecordTail t) help.LoadTail))) same)

    -- it finds TAIL at the old tail, and moves it, or finds it past that
    pub tail_is_over : {t : Place} → Running id key s c (point.Help h (help.LoadTailOver t)) a p → Moves p x q → (u : HelpPoint) → u ≡ walk h t → same_place (tail_in x) t ≡ false → To id key s c p q (point.Help h u) a
    tail_is_over {t} run m u is over = steps run m (point.Help h u) (ap (λ (v : Bool). GoesOn (point.Help h (cond v (help.MoveTailOver t) (walk h t)))) over ∙ ap (λ (v : HelpPoint). GoesOn (point.Help h v)) (sym is))

    pub tail_is_there : {t : Place} → Running id key s c (point.Help h (help.LoadTailOver t)) a p → Moves p x q → same_place (tail_in x) t ≡ true → To id key s c p q (point.Help h (help.MoveTailOver t)) a
    tail_is_there {t} run m there = steps run m (point.Help h (help.MoveTailOver t)) (ap (λ (v : Bool). GoesOn (point.Help h (cond v (help.MoveTailOver t) (walk h t)))) there)

    pub moves_over : {t : Place} → Running id key s c (point.Help h (help.MoveTailOver t)) a p → Moves p x q → (u : HelpPoint) → u ≡ walk h t → To id key s c p q (point.Help h u) a
    moves_over run m u is = steps run m (point.Help h u) (ap (λ (v : HelpPoint). GoesOn (point.Help h v)) (sym is))

    -- it names the announcement, and holds it
    pub names_ann : Running id key s c (point.Guard (guard.Help h) StoreHazard) a p → Moves p x q → To id key s c p q (point.Guard (guard.Help h) LoadAgain) (record a { hold = Names h.ann })
    names_ann run m = guards run m (point.Guard (guard.Help h) LoadAgain) (Names h.ann) refl

    pub holds_ann : Running id key s c (point.Guard (guard.Help h) LoadAgain) a p → Moves p x q → same_content x (OfHead (Ann h.ann h.old_head.count)) ≡ true → To id key s c p q (point.Help h help.LoadOldHead) (record a { hold = Held h.ann })
    holds_ann run m is = guards run m (point.Help h help.LoadOldHead) (Held h.ann) (ap (λ (b : Bool). cond b (Guards (point.Help h help.LoadOldHead) (Held h.ann)) (GoesOn (guarding.again (guard.Help h)))) is)

    -- it reads a field of the announcement
    pub reads_dummy : Running id key s c (point.Help h help.LoadOldHead) a p → Moves p x q → (d : Place) → d ≡ dummy_in x → To id key s c p q (point.Help (record h { old_head = d }) help.LoadFirst) a
    reads_dummy run m d is = steps run m (point.Help (record h { old_head = d }) help.LoadFirst) (ap (λ (v : Place). GoesOn (point.Help (record h { old_head = v }) help.LoadFirst)) (sym is))

    pub reads_first : Running id key s c (point.Help h help.LoadFirst) a p → Moves p x q → (r : ℕ) → r ≡ chain_end_in x → To id key s c p q (point.Help (record h { first = r }) help.LoadLast) a
    reads_first run m r is = steps run m (point.Help (record h { first = r }) help.LoadLast) (ap (λ (v : ℕ). GoesOn (point.Help (record h { first = v }) help.LoadLast)) (sym is))

    pub reads_last_row : Running id key s c (point.Help h help.LoadLast) a p → Moves p x q → (r : ℕ) → r ≡ chain_end_in x → To id key s c p q (point.Help (record h { last = r }) help.LoadCounts) a
    reads_last_row run m r is = steps run m (point.Help (record h { last = r }) help.LoadCounts) (ap (λ (v : ℕ). GoesOn (point.Help (record h { last = v }) help.LoadCounts)) (sym is))

    pub reads_counts : Running id key s c (point.Help h help.LoadCounts) a p → Moves p x q → (n : Counts) → n ≡ counts_in x → To id key s c p q (point.Help (record h { counts = n }) help.LoadTail) a
    reads_counts run m n is = steps run m (point.Help (record h { counts = n }) help.LoadTail) (ap (λ (v : Counts). GoesOn (point.Help (record h { counts = v }) help.LoadTail)) (sym is))

  module _ {d : Plan} where
    -- dequeues alone name the dummy, and hold it
    pub names_dummy : Running id key s c (point.Guard (guard.Many d) StoreHazard) a p → Moves p x q → To id key s c p q (point.Guard (guard.Many d) LoadAgain) (record a { row_hold = Names d.notice.old_head.row })
    names_dummy run m = holds run m (point.Guard (guard.Many d) LoadAgain) (Names d.notice.old_head.row) refl

    pub holds_dummy : Running id key s c (point.Guard (guard.Many d) LoadAgain) a p → Moves p x q → same_content x (OfHead (Node d.notice.old_head)) ≡ true → To id key s c p q (point.Many d many.LoadDummy) (record a { row_hold = Held d.notice.old_head.row })
    holds_dummy run m is = holds run m (point.Many d many.LoadDummy) (Held d.notice.old_head.row) (ap (λ (b : Bool). cond b (Holds (point.Many d many.LoadDummy) (Held d.notice.old_head.row)) (GoesOn (point.Many d many.LoadHead))) is)

    -- the tail isn't before the last of their values
    pub tail_is_behind : {r : ℕ} → Running id key s c (point.Many d (many.LoadTail r)) a p → Moves p x q → (t : Place) → t ≡ tail_in x → nat_le d.notice.counts.deqs (t.count - d.notice.old_head.count) ≡ true → To id key s c p q (point.Many d (many.MoveHead r)) a
    tail_is_behind {r} run m t is behind = steps run m (point.Many d (many.MoveHead r)) (ap (λ (v : Place). GoesOn (after_tail d r v)) (sym is) ∙ ap (λ (b : Bool). GoesOn (cond b (point.Many d (many.MoveHead r)) (point.Guard (guard.ManyTail d t) StoreHazard))) behind)
