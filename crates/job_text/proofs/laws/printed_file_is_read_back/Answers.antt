use Rattle.job_text.proofs.CanonLines.{jobs_of-canon}
use Rattle.job_text.proofs.laws.printed_file_is_read_back.Goals as goal

pub returns : goal.returns
returns c = jobs_of-canon
