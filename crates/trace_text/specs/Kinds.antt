-- The words for the kinds of step.
use Rattle.std.specs.Prelude.{ℕ, Bool, ◌||◌, List, codes, bytes_eq}
use Rattle.lane_steps.specs.declared.kind.StepKind.{StepKind}
use Rattle.lane_steps.specs.declared.kind.StepKind.TheVariants as kind

abbrev pub kind_name : StepKind → List ℕ
kind_name kind.LoadHead = codes "load_head"
kind_name kind.LoadTail = codes "load_tail"
kind_name kind.LoadLink = codes "load_link"
kind_name kind.LoadValue = codes "load_value"
kind_name kind.StoreValue = codes "store_value"
kind_name kind.LinkSingle = codes "link_single"
kind_name kind.MoveTail = codes "move_tail"
kind_name kind.MoveHead = codes "move_head"
kind_name kind.StoreChain = codes "store_chain"
kind_name kind.StoreAnn = codes "store_ann"
kind_name kind.Install = codes "install"
kind_name kind.LoadAnn = codes "load_ann"
kind_name kind.LinkChain = codes "link_chain"
kind_name kind.RecordTail = codes "record_tail"
kind_name kind.MoveTailOver = codes "move_tail_over"
kind_name kind.MoveHeadAnn = codes "move_head_ann"
kind_name kind.MoveHeadMany = codes "move_head_many"
kind_name kind.LinkStopper = codes "link_stopper"
kind_name kind.Decide = codes "decide"
kind_name kind.StoreAnnHazard = codes "store_ann_hazard"
kind_name kind.StoreNodeHazard = codes "store_node_hazard"
kind_name kind.LoadHazard = codes "load_hazard"
kind_name kind.LoadMark = codes "load_mark"
kind_name kind.ClearMark = codes "clear_mark"
kind_name kind.ClearLink = codes "clear_link"
kind_name kind.MarkRow = codes "mark_row"
kind_name kind.MarkFree = codes "mark_free"

-- whether a word is one of the kinds of plain calls
abbrev pub is_plain_kind : List ℕ → Bool
is_plain_kind word =
    bytes_eq word (codes "load_head") || bytes_eq word (codes "load_tail") || bytes_eq word (codes "load_link") || bytes_eq word (codes "load_value")
    || bytes_eq word (codes "store_value") || bytes_eq word (codes "link_single") || bytes_eq word (codes "move_tail") || bytes_eq word (codes "move_head")

-- whether a word is one of those that batches add
abbrev pub is_batch_kind : List ℕ → Bool
is_batch_kind word =
    bytes_eq word (codes "store_chain") || bytes_eq word (codes "store_ann") || bytes_eq word (codes "install") || bytes_eq word (codes "load_ann")
    || bytes_eq word (codes "link_chain") || bytes_eq word (codes "record_tail") || bytes_eq word (codes "move_tail_over") || bytes_eq word (codes "move_head_ann")

-- whether a word is one of those that batches of dequeues alone add
abbrev pub is_alone_kind : List ℕ → Bool
is_alone_kind word = bytes_eq word (codes "move_head_many") || bytes_eq word (codes "link_stopper") || bytes_eq word (codes "decide")

-- whether a word is one of those on the words that name what a caller holds
abbrev pub is_hazard_kind : List ℕ → Bool
is_hazard_kind word = bytes_eq word (codes "store_ann_hazard") || bytes_eq word (codes "store_node_hazard") || bytes_eq word (codes "load_hazard")

-- whether a word is one of those on the link and the marks of a row that is used again
abbrev pub is_row_kind : List ℕ → Bool
is_row_kind word =
    bytes_eq word (codes "load_mark") || bytes_eq word (codes "clear_mark") || bytes_eq word (codes "clear_link") || bytes_eq word (codes "mark_row")
    || bytes_eq word (codes "mark_free")

-- whether a word is a kind
abbrev pub is_kind : List ℕ → Bool
is_kind word = is_plain_kind word || is_batch_kind word || is_alone_kind word || is_hazard_kind word || is_row_kind word
