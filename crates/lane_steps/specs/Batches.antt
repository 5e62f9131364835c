-- What a batch says in its announcement.
use Rattle.std.specs.Prelude.{ℕ, ◌-◌, ◌/◌, List, length, get_or, count_by, nat_lt, Bool, ◌&&◌, ◌==◌}
use Rattle.bq_model.specs.declared.op.Op.{Op}
use Rattle.bq_model.specs.declared.group.Group.{Group}
use Rattle.excess_count.specs.Counts.{counts_of}
use Rattle.word_rows.specs.Order.{order_word_of}
use Rattle.lane_steps.specs.declared.point.Notice.{Notice}
use Rattle.lane_steps.specs.LaneSizes.{LaneSizes}
use Rattle.lane_steps.specs.Notices.{place, batch_number}
use Rattle.excess_count.specs.Excess.{enqueue_count}

-- each caller has as many announcements as there are callers
abbrev pub owner_of : LaneSizes → ℕ → ℕ
owner_of z a = a / z.callers

-- What caller c says of the operations, as the batch of this number. Its rows and the old head aren't known yet.
abbrev pub notice_of : ℕ → ℕ → List Op → Notice
notice_of c batch ops = record {
  old_head = place 0 0;
  first = 0;
  last = 0;
  counts = counts_of ops;
  number = batch_number batch c;
  order0 = order_word_of ops 0;
  order1 = order_word_of ops 1;
  order2 = order_word_of ops 2;
  order3 = order_word_of ops 3;
}

-- the notice with these rows, the first and the last of them
abbrev pub with_rows : Notice → List ℕ → Notice
with_rows n rows = record n { first = get_or rows 0 0; last = get_or rows (length rows - 1) 0 }

-- two or more dequeues alone, which take a stopper
abbrev pub is_alone : List Op → Bool
is_alone ops = nat_lt 1 (length ops) && (enqueue_count ops == 0)

-- how many of the groups are of dequeues alone
abbrev pub alone_count : List Group → ℕ
alone_count h = count_by (λ g. is_alone g.ops) h
