-- An announcement that its owner chooses and writes: which of its own ones nobody holds, and which fields are written.
use Rattle.std.specs.Prelude.{◌≡◌, ◌≢◌, ℕ, ◌<◌, ◌≤◌, false, List, [], ◌∷◌, length, Option, Some, None}
use Rattle.word_rows.specs.declared.place.Place.{Place}
use Rattle.word_rows.specs.declared.location.AnnField.{AnnField}
use Rattle.word_rows.specs.declared.location.AnnField.TheVariants as field
use Rattle.node_guard.specs.Pick.{among}
use Rattle.lane_steps.specs.declared.point.Draft.{Draft}
use Rattle.lane_steps.specs.declared.point.Notice.{Notice}
use Rattle.lane_steps.specs.Batches.{owner_of}
use Rattle.lane_steps.specs.LaneSizes.{LaneSizes}
use Rattle.core_model.specs.Ghost.{Stage, unused}

-- the field has what the notice says; OldTail isn't known
abbrev pub Agrees : AnnField → Option Place → Notice → Notice → Type 0
Agrees field.OldHead o s n = s.old_head ≡ n.old_head
Agrees field.OldTail o s n = o ≡ None
Agrees field.First o s n = s.first ≡ n.first
Agrees field.Last o s n = s.last ≡ n.last
Agrees field.Counts o s n = s.counts ≡ n.counts
Agrees field.BatchNo o s n = s.number ≡ n.number
Agrees field.Order0 o s n = s.order0 ≡ n.order0
Agrees field.Order1 o s n = s.order1 ≡ n.order1
Agrees field.Order2 o s n = s.order2 ≡ n.order2
Agrees field.Order3 o s n = s.order3 ≡ n.order3

-- the fields that are stored before this one, the last of them first
abbrev pub stored_before : AnnField → List AnnField
stored_before field.OldTail = []
stored_before field.First = field.OldTail ∷ []
stored_before field.Last = field.First ∷ field.OldTail ∷ []
stored_before field.Counts = field.Last ∷ field.First ∷ field.OldTail ∷ []
stored_before field.BatchNo = field.Counts ∷ field.Last ∷ field.First ∷ field.OldTail ∷ []
stored_before field.Order0 = field.BatchNo ∷ field.Counts ∷ field.Last ∷ field.First ∷ field.OldTail ∷ []
stored_before field.Order1 = field.Order0 ∷ field.BatchNo ∷ field.Counts ∷ field.Last ∷ field.First ∷ field.OldTail ∷ []
stored_before field.Order2 = field.Order1 ∷ field.Order0 ∷ field.BatchNo ∷ field.Counts ∷ field.Last ∷ field.First ∷ field.OldTail ∷ []
stored_before field.Order3 = field.Order2 ∷ field.Order1 ∷ field.Order0 ∷ field.BatchNo ∷ field.Counts ∷ field.Last ∷ field.First ∷ field.OldTail ∷ []
stored_before field.OldHead = field.Order3 ∷ field.Order2 ∷ field.Order1 ∷ field.Order0 ∷ field.BatchNo ∷ field.Counts ∷ field.Last ∷ field.First ∷ field.OldTail ∷ []

abbrev pub AllAgree : List AnnField → Option Place → Notice → Notice → Type 0
AllAgree [] o s n = Unit {0}
AllAgree (f ∷ fs) o s n = Agrees f o s n × AllAgree fs o s n

-- The announcement is of caller c and not in HEAD, and nobody holds it.
pub record IsSpare (z : LaneSizes) (ann : Option ℕ) (held : ℕ → Option ℕ) (c a : ℕ) : Type 0 where
  pub owner : owner_of z a ≡ c
  pub apart : (x : ℕ) → ann ≡ Some x → x ≢ a
  pub unheld : (e : ℕ) → held e ≢ Some a

abbrev pub Spares : LaneSizes → Option ℕ → (ℕ → Option ℕ) → ℕ → Option ℕ → Type 0
Spares z ann held c None = Unit {0}
Spares z ann held c (Some a) = IsSpare z ann held c a

-- Caller c has read the hazard words of the first e callers but its own, and found these named. No announcement of it is in
-- HEAD, and each that any of those callers holds is among these.
pub record Scanned (z : LaneSizes) (ann : Option ℕ) (held : ℕ → Option ℕ) (c e : ℕ) (named : List ℕ) : Type 0 where
  pub few : length named ≤ e
  pub fewer : c < e → length named < e
  pub plain : (a : ℕ) → ann ≡ Some a → owner_of z a ≢ c
  pub unheld : (d a : ℕ) → d < e → d ≢ c → owner_of z a ≡ c → among named a ≡ false → held d ≢ Some a

-- The announcement of the draft is of caller c and not installed since it was chosen, and its fields before f are written.
pub record Written (z : LaneSizes) (c : ℕ) (stage : Stage) (tail : Option Place) (said : Notice) (d : Draft) (f : AnnField) : Type 0 where
  pub fresh : stage ≡ unused
  pub owner : owner_of z d.ann ≡ c
  pub fields : AllAgree (stored_before f) tail said d.notice

-- it is, and its OldHead is written
pub record HeadWritten (z : LaneSizes) (c : ℕ) (stage : Stage) (said : Notice) (d : Draft) : Type 0 where
  pub fresh : stage ≡ unused
  pub owner : owner_of z d.ann ≡ c
  pub old_head : said.old_head ≡ d.notice.old_head
