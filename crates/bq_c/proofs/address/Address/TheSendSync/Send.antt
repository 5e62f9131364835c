-- An address with its seat may go to another thread, since a box of the seat may.
use mathlib.Core.List.{[]}
use base.Shift.{Keyless}
use denote.Param.Send.{IsSend, owning_send, sendable}
use denote.RawPtr.{Ptr}
use Rattle.std.specs.Prelude.{Option, Some, None}
use Rattle.std.proofs.Crossing.{Box-send, crosses}
use Rattle.bq_lane.proofs.lane.BqLane.TheSendSync as lane
use Rattle.bq_lane.proofs.pass.Pass.TheSendSync as pass
use Rattle.bq_c.specs.Address.{owns_seat, the_heap}
use Rattle.bq_c.specs.contracts.address.Address.{the_row, the_type}
use Rattle.bq_c.specs.contracts.seat.Seat as seat
use Rattle.bq_c.specs.declared.seat.Seat.{Seat}

seat_send : IsSend seat.the_row
seat_send = search (lane.the_send, lane.the_sync, pass.the_send, crosses, sendable) depth 30

there : (p : Ptr) (s : Option Seat) → Keyless (owns_seat p s)
there p None = tt
there p (Some x) = ((Box-send seat.the_row seat_send).owned (record { ptr = p; alloc = the_heap; value = x }) []).1

pub send : IsSend the_row
send = owning_send the_type (search sendable) (λ a. there a.at a.seat) (λ k x w. tt)
