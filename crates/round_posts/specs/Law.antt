-- What is so of a parker at every moment, by what its passes have done.
use Rattle.std.specs.Prelude.{ℕ, Bool, true, false, List, ◌+◌, ◌≤◌}
use Rattle.std.specs.List.{sum_by}
use Rattle.round_posts.specs.declared.law.Tally.{Tally}

-- a pass that posted and took so often
abbrev pub tally : ℕ → ℕ → Tally
tally posts takes = record { posts = posts; takes = takes }

-- what a token counts for: one while it is set
abbrev pub worth : Bool → ℕ
worth true = 1
worth false = 0

-- What was taken, and the token that is set, were posted.
abbrev pub IsPosted : Bool → List Tally → Type 0
IsPosted token passes = sum_by (λ pass. pass.takes) passes + worth token ≤ sum_by (λ pass. pass.posts) passes
