-- A lane as it is made.
use Rattle.std.specs.Prelude.{◌≡◌, ℕ, ◌<◌, List, length, get_or}
use Rattle.bq_model.specs.declared.shape.Shape.{Shape}
use Rattle.word_rows.specs.declared.location.Location.{Location}
use Rattle.word_rows.specs.Layout.{IsValid, index_of}
use Rattle.word_rows.specs.Contents.{coded}
use Rattle.word_rows.specs.Opening.{opening_of}
use Rattle.lane_rule.specs.declared.view.View.{View}
use Rattle.lane_rule.specs.Rule.{opened}
use Rattle.lane_rule.specs.Seating.{newcomer_of}

-- the seat that makes the callers from c on
abbrev pub maker_of : Shape → ℕ → View
maker_of s c = record (opened s) { caller = c }

-- the seat of a caller that made no command yet
abbrev pub first_view : Shape → ℕ → View
first_view s c = newcomer_of (maker_of s c)

-- these are the first words of an empty lane
abbrev pub AreOpening : Shape → List ℕ → Type 0
AreOpening s words = (l : Location) → IsValid s l → index_of s l < length words → get_or words (index_of s l) 0 ≡ coded (opening_of s l)
