-- What the replies to a file's jobs name.
use Rattle.std.specs.Prelude.{◌≡◌, List, map, Some, Contains, All, AllPairs}
use Rattle.std.specs.List.{range_with_len, zip}
use Rattle.bq_model.specs.declared.op.Answer.TheVariants.{Got}
use Rattle.bq_model.specs.declared.group.Group.{Group}
use Rattle.bq_model.specs.Own.{GotAnswer}
use Rattle.job_work.specs.declared.job.Job.{Job}
use Rattle.job_work.specs.Answer.{answer_of}
use Rattle.job_text.specs.declared.file.Unit.{Unit as JobUnit}
use Rattle.job_text.specs.JobFile.{job_count, job_at}
use Rattle.bulk_dispatcher.specs.declared.reply.Reply.{Reply}
use Rattle.bulk_dispatcher.specs.Books.{lanes_of}

-- A reply has its job's lane, and its text is the answer of its job.
pub record IsAnswer (file : List JobUnit) (reply : Reply) : Type 0 where
  pub job : Job
  pub numbered : job_at file reply.job ≡ Some (reply.lane, job)
  pub text_is : reply.text ≡ answer_of job

-- The operation that a reply names stands in the book of its lane, and got its job.
pub record NamesItsDequeue (file : List JobUnit) (books : List (List Group)) (reply : Reply) : Type 0 where
  pub book : List Group
  pub kept : Contains (zip (lanes_of file) books) (reply.lane, book)
  pub got : GotAnswer book reply.caller reply.serial (Got reply.job)

-- Two replies name one operation.
pub record NameTheSame (one other : Reply) : Type 0 where
  pub lane_is : one.lane ≡ other.lane
  pub caller_is : one.caller ≡ other.caller
  pub serial_is : one.serial ≡ other.serial

-- the replies to a file whose lanes left these books
pub record RepliesFit (file : List JobUnit) (books : List (List Group)) (replies : List Reply) : Type 0 where
  -- There is one reply for each job, by rising number.
  pub one_each : map (λ reply. reply.job) replies ≡ range_with_len 0 (job_count file)
  pub answered : All (IsAnswer file) replies
  pub named : All (NamesItsDequeue file books) replies
  -- No two replies name the same operation.
  pub apart : AllPairs (λ one other. ¬ NameTheSame one other) replies
