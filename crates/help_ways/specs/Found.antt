-- What the usual ways of a call read of a link.
use Rattle.std.specs.Prelude.{ℕ, Option, Some, None}
use Rattle.word_rows.specs.declared.link_word.LinkWord.{LinkWord}
use Rattle.word_rows.specs.declared.link_word.LinkWord.TheVariants.{Nil, Single, Chain, Shut}

-- the row to which a link leads
abbrev pub row_behind : LinkWord → Option ℕ
row_behind Nil = None
row_behind (Single r) = Some r
row_behind (Chain r) = Some r
row_behind Shut = None
