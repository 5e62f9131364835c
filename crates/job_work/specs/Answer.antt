-- The text that a job's answer is, by its kind.
use Rattle.std.specs.Prelude.{ℕ, ◌==◌, List, sum, count_by, decimal}
use Rattle.sha2.specs.Sha256.{sha256}
use Rattle.hex.specs.Hex.{encode_lower}
use Rattle.job_work.specs.declared.job.Job.{Job}
use Rattle.job_work.specs.declared.job.Job.TheVariants.{Sum, Digest, Count, Mix, Words}
use Rattle.job_work.specs.Mix.{mixed}
use Rattle.job_work.specs.Words.{words_answer}

-- Of a sum, the sum of its numbers in decimal. Of a digest, SHA-256 of its bytes in lower case hexadecimal digits. Of a
-- count, how often its byte stands among its bytes. Of a mix, the number after its turns. Of words, how often each stands there.
abbrev pub answer_of : Job → List ℕ
answer_of (Sum numbers) = decimal (sum numbers)
answer_of (Digest bytes) = encode_lower (sha256 bytes)
answer_of (Count byte bytes) = decimal (count_by (λ b. b == byte) bytes)
answer_of (Mix start turns) = decimal (mixed start turns)
answer_of (Words words) = words_answer words
