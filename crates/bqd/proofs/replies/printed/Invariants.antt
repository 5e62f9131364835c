use Rattle.std.proofs.Common.{◌≡◌, take}
use Rattle.std.specs.List.{flat_map}
use Rattle.job_text.specs.Replies.{reply_line}
use Rattle.bqd.proofs.replies.printed.Given as goal

-- the lines of the replies so far
abbrev pub invariant-loop-reply : goal.invariant-loop-reply
invariant-loop-reply l = l.text ≡ flat_map (λ reply. reply_line reply.job reply.text) (take l.reply-index l.replies)
