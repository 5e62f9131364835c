-- What each step of a lawful lane finds is in range.
use Rattle.std.proofs.Common.{◌≡◌, ℕ, ◌+◌, ◌*◌, ◌^◌, ◌<◌, sym, refl, ap, subst, arith}
use Rattle.word_rows.specs.declared.place.Place.{Place}
use Rattle.word_rows.specs.declared.head_word.HeadWord.{HeadWord}
use Rattle.word_rows.specs.declared.head_word.HeadWord.TheVariants.{Node, Ann}
use Rattle.word_rows.specs.declared.link_word.LinkWord.{LinkWord}
use Rattle.word_rows.specs.declared.link_word.LinkWord.TheVariants.{Nil, Single, Chain, Shut}
use Rattle.word_rows.specs.declared.location.Location.{Location}
use Rattle.word_rows.specs.declared.location.Location.TheVariants.{Head, Tail, Link, Value, Mark, NodeHazard, AnnHazard, AnnWord}
use Rattle.word_rows.specs.declared.content.Content.TheVariants.{OfHead, OfTail, OfLink}
use Rattle.lane_steps.specs.LaneSizes.{LaneSizes}
use Rattle.lane_steps.specs.State.{State, read}
use Rattle.lane_steps.specs.Ranges.{NamesRows}
use Rattle.core_model.specs.Lawful.{LinksIn, Lawful}
use Rattle.core_model.proofs.Lookups.{node_found}
use Rattle.core_model.proofs.Ends.{tail_fits, head_fits}

module _ (z : LaneSizes) (s : State) (L : Lawful z s) (fits : z.first + z.callers * z.allowance < 2 ^ 44) where
  head_found : (x : HeadWord) → s.memory.head ≡ x → NamesRows z.rows Head (OfHead x)
  head_found (Node p) is = (subst (λ (r : ℕ). r < z.rows) (sym (ap (λ (q : Place). q.row) (node_found z s L 0 p is).1)) (L.list.rows.inside L.ghost.head (omega arith)), head_fits z s L fits p is)
  head_found (Ann a n) is = tt

  tail_found : NamesRows z.rows Tail (OfTail s.memory.tail)
  tail_found = let within = L.list.tail.within in (subst (λ (r : ℕ). r < z.rows) (sym (ap (λ (q : Place). q.row) L.list.tail.named)) (L.list.rows.inside L.ghost.tail (omega arith)), tail_fits z s L fits)

  link_found : (r : ℕ) (l : LinkWord) → LinksIn z.rows l → NamesRows z.rows (Link r) (OfLink l)
  link_found r Nil below = tt
  link_found r (Single n) below = below
  link_found r (Chain n) below = below
  link_found r Shut below = tt

  pub names_rows : (l : Location) → NamesRows z.rows l (read s.memory l)
  names_rows Head = head_found s.memory.head refl
  names_rows Tail = tail_found
  names_rows (Link r) = link_found r (s.memory.link r) (L.list.links r)
  names_rows (Value r) = tt
  names_rows (Mark r) = tt
  names_rows (NodeHazard c) = tt
  names_rows (AnnHazard c) = tt
  names_rows (AnnWord a f) = tt
