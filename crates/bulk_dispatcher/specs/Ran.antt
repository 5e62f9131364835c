-- What is said of jobs that were run.
use Rattle.std.specs.Prelude.{◌+◌, ◌<◌, ◌%◌, ℕ, List, All}
use Rattle.std.specs.List.{AllZip}
use Rattle.bq_model.specs.declared.group.Group.{Group}
use Rattle.bq_model.specs.Own.{mine}
use Rattle.job_text.specs.declared.file.Unit.{Unit as JobUnit}
use Rattle.bulk_dispatcher.specs.declared.reply.Reply.{Reply}
use Rattle.bulk_dispatcher.specs.Books.{BooksFit, StandTogether, lanes_of, units_on}
use Rattle.bulk_dispatcher.specs.Hands.{EndedEmpty}
use Rattle.bulk_dispatcher.specs.Replies.{RepliesFit}

-- What the books of the lanes and the replies show of a file's jobs that so many hands ran, each of which made so many
-- dequeues as one at its end.
pub record JobsRan (file : List JobUnit) (hands batch : ℕ) (books : List (List Group)) (replies : List Reply) : Type 0 where
  -- The lanes' books are histories that a single thread's queue gives, they are of the file's jobs, and they end empty.
  pub books_fit : BooksFit file (hands + 1) books
  -- There is one reply for each job, and it names the operation that got the job.
  pub replies_fit : RepliesFit file books replies
  -- The units are dealt to the hands in turn.
  pub dealt_in_turn : AllZip (λ lane book. All (λ unit. StandTogether (mine book (unit.place % hands)) unit.numbers) (units_on file lane)) (lanes_of file) books
  -- Each hand ends on each lane where it finds nothing.
  pub ended : AllZip (λ lane book. (c : ℕ) → c < hands → EndedEmpty batch c book) (lanes_of file) books
