-- What of a lane `word_rows` can code: what a caller keeps, and what its step does with a word.
use Rattle.std.specs.Prelude.{ℕ, ◌<◌, ◌^◌, Option, Some, None}
use Rattle.bq_model.specs.declared.shape.Shape.{Shape}
use Rattle.word_rows.specs.declared.head_word.HeadWord.TheVariants.{Node}
use Rattle.word_rows.specs.declared.location.AnnField.TheVariants.{OldHead}
use Rattle.word_rows.specs.declared.location.Location.{Location}
use Rattle.word_rows.specs.declared.location.Location.TheVariants.{AnnWord}
use Rattle.word_rows.specs.declared.content.Content.{Content}
use Rattle.word_rows.specs.declared.content.Content.TheVariants.{OfHead}
use Rattle.word_rows.specs.Contents.{IsOfKind, MayHold}
use Rattle.word_rows.specs.Fits.{limits_of, PlaceFits, CountsFit, BatchFits}
use Rattle.word_rows.specs.Sizes.{rows_of, anns_of}
use Rattle.lane_steps.specs.declared.act.Act.{Act}
use Rattle.lane_steps.specs.declared.act.Act.TheVariants.{Load, Store, Exchange, Join}
use Rattle.lane_steps.specs.declared.point.Item.{Item}
use Rattle.lane_steps.specs.declared.point.Notice.{Notice}
use Rattle.lane_steps.specs.declared.point.Draft.{Draft}
use Rattle.lane_steps.specs.declared.point.Plan.{Plan}
use Rattle.lane_steps.specs.declared.point.Back.{Back}
use Rattle.lane_steps.specs.declared.point.Back.TheVariants as back
use Rattle.lane_steps.specs.declared.point.Help.{Help}

-- A content that a step can store into the word. OldHead names a node.
abbrev pub IsHeld : Location → Content → Type 0
IsHeld (AnnWord a OldHead) (OfHead (Node p)) = Unit {0}
IsHeld (AnnWord a OldHead) _ = ⊥
IsHeld l x = IsOfKind l x

module _ (s : Shape) where
  pub record ItemFits (x : Item) : Type 0 where
    pub row : x.row < rows_of s
    pub value : x.value < 2 ^ 64

  pub record NoticeFits (n : Notice) : Type 0 where
    pub old_head : PlaceFits (limits_of s) n.old_head
    pub first : n.first < rows_of s
    pub last : n.last < rows_of s
    pub counts : CountsFit n.counts
    pub number : BatchFits (limits_of s) n.number
    pub order0 : n.order0 < 2 ^ 64
    pub order1 : n.order1 < 2 ^ 64
    pub order2 : n.order2 < 2 ^ 64
    pub order3 : n.order3 < 2 ^ 64

  abbrev pub DraftFits : Draft → Type 0
  DraftFits d = (d.ann < anns_of s) × NoticeFits d.notice

  -- the chosen announcement is one of the lane
  abbrev pub ChosenFits : Option ℕ → Type 0
  ChosenFits None = Unit {0}
  ChosenFits (Some a) = a < anns_of s

  abbrev pub PlanFits : Plan → Type 0
  PlanFits d = ChosenFits d.ann × NoticeFits d.notice

  abbrev pub BackFits : Back → Type 0
  BackFits back.Own = Unit {0}
  BackFits (back.Enqueue x) = ItemFits x
  BackFits back.Dequeue = Unit {0}
  BackFits (back.Batch d) = DraftFits d
  BackFits (back.Many d) = PlanFits d

  pub record HelpFits (h : Help) : Type 0 where
    pub ann : h.ann < anns_of s
    pub old_head : PlaceFits (limits_of s) h.old_head
    pub first : h.first < rows_of s
    pub last : h.last < rows_of s
    pub counts : CountsFit h.counts
    pub goes_back : BackFits h.back

  -- what the step expects, and what it stores, may stand in its word
  abbrev pub ActFits : Act → Type 0
  ActFits (Load l) = Unit {0}
  ActFits (Store l x) = MayHold s l x
  ActFits (Exchange l old new) = MayHold s l old × MayHold s l new
  ActFits (Join r b) = r < rows_of s
