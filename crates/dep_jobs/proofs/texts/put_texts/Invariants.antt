use Rattle.std.proofs.Common.{◌≡◌, length, drop, map, All}
use Rattle.job_text.specs.JobFile.{AreBytes}
use Rattle.dep_jobs.specs.Texts.{put_all}
use Rattle.dep_jobs.proofs.texts.put_texts.Given as goal

-- with those that are left, the texts become what they are to become
abbrev pub invariant-loop-place : goal.invariant-loop-place
invariant-loop-place l = record {
  put : put_all l.texts.items (drop l.place l.numbers) (drop l.place (map (λ reply. reply.text) l.replies)) ≡ put_all l.fn.texts.items l.numbers (map (λ reply. reply.text) l.replies);
  long : length l.texts.items ≡ length l.fn.texts.items;
  bytes : All AreBytes l.texts.items;
}
