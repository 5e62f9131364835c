-- The steps of a batch that takes, fills and links its rows, as what its command is then.
use Rattle.std.proofs.Common.{◌≡◌, ◌≤◌, ◌^◌, ⊎_elim, arith, subst, ◌<◌, ◌==◌, ◌++◌, ℕ, suc, ◌-◌, true, false, List, [], ◌∷◌, length, get_or, vec_capacity, refl, sym, ap, ◌∙◌}
use Rattle.std.specs.VecDeque.{deque_capacity}
use Rattle.atomic_table.specs.Seated.{TableId}
use Rattle.atomic_table.specs.declared.shared.Seat.{Seat}
use Rattle.bq_model.specs.declared.shape.Shape.{Shape}
use Rattle.word_rows.specs.declared.content.Content.{Content}
use Rattle.word_rows.specs.Homes.{item_row_of}
use Rattle.word_rows.specs.Sizes.{items_of}
use Rattle.lane_steps.specs.declared.point.FillPoint.TheVariants.{StoreValue, StoreChain}
use Rattle.lane_steps.specs.declared.point.Notice.{Notice}
use Rattle.lane_steps.specs.declared.point.Point.{Point}
use Rattle.lane_steps.specs.declared.point.Point.TheVariants.{Take, Fill}
use Rattle.lane_steps.specs.declared.point.TakePoint.TheVariants.{LoadMark, ClearMark, ClearLink}
use Rattle.lane_steps.specs.declared.point.Taking.TheVariants as taking
use Rattle.lane_steps.specs.Batches.{with_rows}
use Rattle.lane_steps.specs.Fill.{scan_from}
use Rattle.lane_steps.specs.LaneSizes.{lane_sizes, own_row}
use Rattle.lane_steps.specs.State.{Caller}
use Rattle.lane_steps.specs.Step.{fills_row, takes_on, links_on}
use Rattle.lane_rule.specs.declared.view.View.{View}
use Rattle.lane_rule.specs.Plays.{Moves}
use Rattle.core_model.specs.Few.{Few, Early}
use Rattle.excess_count.specs.Excess.{enqueue_count}
use Rattle.lane_course.specs.Along.{Along}
use Rattle.lane_course.specs.Running.{Running}
use Rattle.lane_course.specs.declared.scratch.Scratch.{Scratch}
use Rattle.lane_course.specs.Scratch.{keeping, SamePuts}
use Rattle.lane_course.proofs.Seeks.{same_puts}
use Rattle.lane_course.proofs.Ways.{steps_to}

-- longer lists with the same room change nothing else at hand
pub grown : (a f : Scratch) → deque_capacity f.rows ≡ deque_capacity a.rows → SamePuts a (record a { rows = f.rows })
grown a f capacity = record { puts = refl; room = record { puts = refl; rows = capacity; values = refl; walked = refl; retired = refl; named = refl } }

pub noted : (a g : Scratch) → vec_capacity g.named ≡ vec_capacity a.named → SamePuts a (record a { named = g.named })
noted a g room = record { puts = refl; room = record { puts = refl; rows = refl; values = refl; walked = refl; retired = refl; named = room } }

module _ {id : TableId} {key s : Shape} {c : ℕ} {n : Notice} {a : Scratch} {p q : Seat ℕ View} (r : Seat ℕ View) (found : Content) (m : Moves q found r) where
  pub mark_cleared : (v row : ℕ) → Along id key s c (Take (taking.Batch n v) (ClearMark row)) a p q → Along id key s c (Take (taking.Batch n v) (ClearLink row)) a p r
  mark_cleared v row way = steps_to way r found m (Take (taking.Batch n v) (ClearLink row)) a (λ h w _. refl) (same_puts a)

  pub link_cleared : (v row : ℕ) → Along id key s c (Take (taking.Batch n v) (ClearLink row)) a p q → Along id key s c (Fill n (StoreValue row v)) a p r
  link_cleared v row way = steps_to way r found m (Fill n (StoreValue row v)) a (λ h w _. refl) (same_puts a)

  -- The row is filled, and its list has it at its end.
  module _ (v row : ℕ) (f : Scratch) (rows : f.rows.items ≡ a.rows.items ++ row ∷ []) (capacity : deque_capacity f.rows ≡ deque_capacity a.rows) (way : Along id key s c (Fill n (StoreValue row v)) a p q) where
    abbrev b : Scratch
    b = record a { rows = f.rows }

    filled : (w : Caller) → fills_row (lane_sizes s) c (record (keeping w a) { rows = a.rows.items ++ row ∷ [] }) n ≡ fills_row (lane_sizes s) c (keeping w b) n
    filled w = ap (λ (xs : List ℕ). fills_row (lane_sizes s) c (record (keeping w a) { rows = xs }) n) (sym rows)

    -- the next search, from the first own row on
    pub searches : (length f.rows.items == n.counts.enqs) ≡ false → (value from left : ℕ) → value ≡ get_or a.puts.items (length f.rows.items) 0 → from ≡ item_row_of s c 0 → left ≡ items_of s - 1
        → Along id key s c (Take (taking.Batch n value) (LoadMark from left)) b p r
    searches is value from left e g h = steps_to way r found m (Take (taking.Batch n value) (LoadMark from left)) b
        (λ k w puts. filled w ∙ (ap (takes_on (lane_sizes s) c (keeping w b) n) is
        ∙ (λ i. record (keeping w b) { point = Take (taking.Batch n ((ap (λ (vs : List ℕ). get_or vs (length f.rows.items) 0) (sym puts) ∙ sym e) i)) (LoadMark ((first ∙ sym g) i) (sym h i)) })))
        (grown a f capacity) where
          first : own_row (lane_sizes s) c false 0 ≡ item_row_of s c 0
          first = refl

    -- it has all its rows, and links them
    pub links : (length f.rows.items == n.counts.enqs) ≡ true → (length f.rows.items == 1) ≡ false → (whole : Notice) → whole ≡ with_rows n f.rows.items
        → Along id key s c (Fill whole (StoreChain 0 (get_or f.rows.items 0 0) (get_or f.rows.items 1 0))) b p r
    links is several whole e = steps_to way r found m (Fill whole (StoreChain 0 (get_or f.rows.items 0 0) (get_or f.rows.items 1 0))) b
        (λ k w _. filled w ∙ (ap (takes_on (lane_sizes s) c (keeping w b) n) is ∙ (ap (links_on (lane_sizes s) c (keeping w b) (with_rows n f.rows.items) 0) several
        ∙ ap (λ (y : Notice). record (keeping w b) { point = Fill y (StoreChain 0 (get_or f.rows.items 0 0) (get_or f.rows.items 1 0)) }) (sym e))))
        (grown a f capacity)

    -- it has one row, and chooses an announcement
    pub one : (length f.rows.items == n.counts.enqs) ≡ true → (length f.rows.items == 1) ≡ true → (g : Scratch) → g.named.items ≡ [] → vec_capacity g.named ≡ vec_capacity a.named → (whole : Notice) → whole ≡ with_rows n f.rows.items
        → Along id key s c (scan_from (lane_sizes s) c g.named.items whole 0) (record a { rows = f.rows; named = g.named }) p r
    one is alone g none room whole e = steps_to way r found m (scan_from (lane_sizes s) c g.named.items whole 0) (record a { rows = f.rows; named = g.named })
        (λ k w _. filled w ∙ (ap (takes_on (lane_sizes s) c (keeping w b) n) is ∙ (ap (links_on (lane_sizes s) c (keeping w b) (with_rows n f.rows.items) 0) alone
        ∙ (λ i. record (keeping w b) { point = scan_from (lane_sizes s) c (sym none i) (sym e i) 0; named = sym none i }))))
        record { puts = refl; room = record { puts = refl; rows = capacity; values = refl; walked = refl; retired = refl; named = room } }

  -- it has linked its row of this number to the next one, and links that
  pub chains_on : (i row next : ℕ) → (suc (suc i) == length a.rows.items) ≡ false → Along id key s c (Fill n (StoreChain i row next)) a p q → Along id key s c (Fill n (StoreChain (suc i) (get_or a.rows.items (suc i) 0) (get_or a.rows.items (suc (suc i)) 0))) a p r
  chains_on i row next is way = steps_to way r found m (Fill n (StoreChain (suc i) (get_or a.rows.items (suc i) 0) (get_or a.rows.items (suc (suc i)) 0))) a (λ k w _. ap (links_on (lane_sizes s) c (keeping w a) n (suc i)) is) (same_puts a)

  -- it has linked its rows, and chooses an announcement
  pub chained : (i row next : ℕ) → (suc (suc i) == length a.rows.items) ≡ true → (g : Scratch) → g.named.items ≡ [] → vec_capacity g.named ≡ vec_capacity a.named → Along id key s c (Fill n (StoreChain i row next)) a p q → Along id key s c (scan_from (lane_sizes s) c g.named.items n 0) (record a { named = g.named }) p r
  chained i row next is g none room way = steps_to way r found m (scan_from (lane_sizes s) c g.named.items n 0) (record a { named = g.named })
      (λ k w _. ap (links_on (lane_sizes s) c (keeping w a) n (suc i)) is ∙ (λ j. record (keeping w a) { point = scan_from (lane_sizes s) c (sym none j) n 0; named = sym none j })) (noted a g room)

-- the number of the next row to be linked fits
pub chain_fits : {id : TableId} {key s : Shape} {c : ℕ} {n : Notice} {i row next : ℕ} {a : Scratch} {p : Seat ℕ View} → Running id key s c (Fill n (StoreChain i row next)) a p → suc i < 2 ^ 32
chain_fits {s} {c} {n} {i} {row} {next} {p} run = by (subst (λ (v : Point). Few s c v p.me.0.kept.ops p.me.0.kept.rows p.me.0.kept.walked p.me.0.kept.retired p.me.0.kept.named) run.stands.point run.few) where
  by : Early s p.me.0.kept.ops p.me.0.kept.rows p.me.0.kept.walked p.me.0.kept.retired → suc i < 2 ^ 32
  by early = let less = run.lists.chains n i row next run.stands.point in let short = run.short in let most = s.some_batch.1 in let within = early.few_walked in
      ⊎_elim (λ (one : length p.me.0.kept.rows ≤ 1). omega (arith, less, one)) (λ (few : length p.me.0.kept.rows ≤ enqueue_count p.me.0.kept.ops). omega (arith, less, few, within, short, most)) early.few_rows
