-- What the address that C keeps owns: the memory of a boxed seat, or nothing.
use base.Fml.{Fml, ftrue}
use base.Stored.{Coded}
use denote.RawPtr.{Ptr}
use Rattle.std.specs.Prelude.{Option, Some, None}
use Rattle.std.specs.Coded.{coded_option}
use Rattle.std.specs.Box.Ownership.{box_owns}
use Rattle.std_heap.specs.declared.Global.{Global}
use Rattle.std_heap.specs.contracts.GlobalAllocator.TheImpl.{ghosts}
use Rattle.bq_c.specs.contracts.seat.Seat as Seat

-- the handle of the heap, which has nothing in it
abbrev pub the_heap : Global
the_heap = record { memory = record { seal = tt } }

abbrev pub owns_seat : Ptr → Option Seat.the_row.Denot → Fml
owns_seat at None = ftrue
owns_seat at (Some seat) = box_owns (ghosts.dealloc_token the_heap) Seat.the_row at seat

abbrev pub maybe_seat_coded : Coded (Option Seat.the_row.Denot)
maybe_seat_coded = coded_option Seat.the_row.coded
