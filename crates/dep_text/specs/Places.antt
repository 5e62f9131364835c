-- Where an answer can be put.
use Rattle.std.specs.Prelude.{Bool, true, false}
use Rattle.dep_text.specs.declared.job.DepWork.{DepWork}
use Rattle.dep_text.specs.declared.job.DepWork.TheVariants.{Sum, Digest, Count, Mix, Words}
use Rattle.dep_text.specs.declared.job.Place.{Place}
use Rattle.dep_text.specs.declared.job.Place.TheVariants.{AsNumber, AsBytes}

-- whether the answer of this work is a number
abbrev pub answers_number : DepWork → Bool
answers_number (Sum args) = true
answers_number (Digest piece) = false
answers_number (Count byte piece) = true
answers_number (Mix start turns) = true
answers_number (Words words) = false

-- whether the answer of this work is short: every answer but that of words has at most 64 bytes
abbrev pub answers_shortly : DepWork → Bool
answers_shortly (Sum args) = true
answers_shortly (Digest piece) = true
answers_shortly (Count byte piece) = true
answers_shortly (Mix start turns) = true
answers_shortly (Words words) = false

-- whether the answer of this work can stand in such a place
abbrev pub serves : Place → DepWork → Bool
serves AsNumber work = answers_number work
serves AsBytes work = answers_shortly work
