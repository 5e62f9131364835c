-- The line that names the commands.
use Rattle.std.specs.Prelude.{ℕ, List, codes}

abbrev pub usage_text : List ℕ
usage_text = codes "usage: bqd run <hands> <batch> | check | play | gen <n> | drill <n> <hands> <batch>\n"
