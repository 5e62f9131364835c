-- An address as a machine value, and what it owns there, taken apart and put together.
use mathlib.Core.Path.{◌≡◌, refl}
use mathlib.Core.List.{List, [], ◌∷◌}
use lib.Dec.{T, lit<}
use seplogic.Ra.Ura.{Ura}
use mir.Val.{Val, vstruct, vcons, vnil, has_ty, WT}
use base.Logic.{ent}
use types.Logic.{Logic, sem}
use types.Kit.{‵, ◌$◌, ◌∵◌, !, qed, drop, fsplit, fpack, fjoin, feq_i, done}
use denote.RattleType.{Valss}
use denote.RawPtr.{Ptr, block_ptr, null_ptr, RawPtr, ptr_val, rawptr_vals}
use denote.Steps.{nothing}
use denote.Struct.Owning.{shape}
use denote.Struct.Struct.{within}
use Rattle.bq_c.specs.declared.seat.Seat.{Seat}
use Rattle.std.specs.Prelude.{Option, Some, None, IsSome}
use Rattle.bq_c.specs.Address.{owns_seat}
use Rattle.bq_c.specs.contracts.address.Address.{the_row, the_type}
use Rattle.bq_c.specs.contracts.seat.Seat as Seat
use Rattle.bq_c.proofs.seat.Seat.TheLaws as seat
use Rattle.bq_c.proofs.address.Address.TheLaws as address
use Rattle.std_heap.specs.contracts.Global as Heap
use Rattle.std_heap.proofs.Global.TheLaws as heap
use mir.Raw.{raw as bare}
use mir.Syntax.{Dict, impl, tnil, tcons, dnil}
use denote.Exit.{no}
use denote.Param.{layout, arg}
use denote.Param.Laws.{Laws, arg_laws}
use denote.RattleType.{RattleType}

-- the seat and the handle of the heap, as a call passes them for type parameters
abbrev pub SeatArg : RattleType
SeatArg = arg (bare (layout Seat.the_row)) no Seat.the_row

abbrev pub seat_laws : Laws SeatArg
seat_laws = arg_laws (bare (layout Seat.the_row)) no Seat.the_row seat.the_row_laws refl

abbrev pub HeapArg : RattleType
HeapArg = arg (bare (layout Heap.the_row)) no Heap.the_row

abbrev pub heap_laws : Laws HeapArg
heap_laws = arg_laws (bare (layout Heap.the_row)) no Heap.the_row heap.the_row_laws refl

-- a handle is let go by nothing
abbrev pub no_drop : Dict
no_drop = impl ("bq_c::Destruct++none::drop" ∷ []) (tcons (layout HeapArg) tnil) dnil

abbrev pub word : Ptr → List Val
word p = vstruct (vcons (ptr_val p) vnil) ∷ []

pub word_typed : (p : Ptr) → T (has_ty address.mir (vstruct (vcons (ptr_val p) vnil))) × WT (vstruct (vcons (ptr_val p) vnil))
word_typed (block_ptr b o) = (tt, (tt, tt))
word_typed null_ptr = (tt, (record { fits = lit< tt }, tt))

module _ {M : Type 1} {𝓤 : Ura M} (𝓛 : Logic 𝓤) (p : Ptr) (s : Option Seat) where
  -- who has the seat at an address owns the address
  pub kept : ent 𝓤 (sem 𝓛 (owns_seat p s)) (sem 𝓛 ((the_row).own_val (record { at = p; seat = s }) (word p)))
  kept = qed 𝓛 (‵ (owns_seat p s) ∷ []) ∵
      nothing ! $ feq_i ! (List Val) (rawptr_vals p) (rawptr_vals p) refl $ fjoin ! $
      feq_i ! (List Val) (word p) (word p) refl $ fjoin ! $
      fpack ! (Valss (RawPtr ∷ [])) (within (shape the_type) (p, tt) (word p)) (rawptr_vals p, tt) $ fjoin ! $ done !

  -- who owns an address has the seat there
  pub there : (vs : List Val) → ent 𝓤 (sem 𝓛 ((the_row).own_val (record { at = p; seat = s }) vs)) (sem 𝓛 (owns_seat p s))
  there vs = qed 𝓛 (‵ ((the_row).own_val (record { at = p; seat = s }) vs) ∷ []) ∵ fsplit ! $ drop ! $ done !

-- what an option has that has something
pub item_of : {A : Type 0} (o : Option A) → IsSome o → (x : A) × (o ≡ Some x)
item_of (Some x) is = (x, refl)
item_of None is = cc is
