-- How often a group stands in a history.
use Rattle.std.specs.Prelude.{ℕ, ◌==◌, ◌&&◌, List, count_by}
use Rattle.bq_model.specs.declared.group.Group.{Group}

-- the groups of this caller with this batch number
abbrev pub times : Group → List Group → ℕ
times g h = count_by (λ x. (x.caller == g.caller) && (x.batch == g.batch)) h
