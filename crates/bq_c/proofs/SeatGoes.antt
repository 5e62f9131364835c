-- A seat can be let go, as a call asks of a type parameter that is `Drop`.
use mathlib.Core.List.{[], ◌∷◌}
use mathlib.Core.Path.{refl}
use seplogic.Ra.Ura.{Ura}
use mir.Syntax.{Dict, impl, method, tnil, dnil}
use prog.Model.{Model}
use prog.Wired.{Wired}
use types.Logic.{Logic}
use contract.Running.{Running}
use denote.Param.{layouts}
use denote.Param.Glue.{Met}
use denote.Triple.Carry.{AllWithin}
use denote.Triple.Clauses.{Lasts, lasts, at_exit}
use denote.Triple.Walked.{Fit}
use borrow.Fn.Glue.{glue_by, glue_ps}
use borrow.Fn.Impl.{via_longer, method_Known}
use borrow.Fn.Kinds.{ended_of, stays, r_unit}
use borrow.Fn.Run.{Over}
use borrow.Fn.World.{World}
use Rattle.bq_c.proofs.bq_c++seat++Seat+Destruct.drop.Kinds as kinds
use Rattle.bq_c.proofs.bq_c++seat++Seat+Destruct.drop.Met as dropped
use Rattle.bq_c.proofs.bq_c++seat++Seat+Destruct.drop.Reads as reads
use Rattle.bq_c.proofs.bq_c++seat++Seat+Destruct.drop.Symbol as symbol
use Rattle.bq_c.proofs.SeatAt.{SeatArg, seat_laws}

abbrev pub seat_drop : Dict
seat_drop = impl ("bq_c::bq_c++seat++Seat+Destruct::drop" ∷ []) tnil dnil

pub seat_goes : {M : Type 1} (𝓤 : Ura M) (𝓛 : Logic 𝓤) (𝓜 : Model 𝓤 𝓛.H) (𝓡 : Running 𝓤 𝓛.H 𝓜) → Wired 𝓡.env symbol.code → Met 𝓛 𝓜 𝓡 𝓡.env SeatArg seat_drop
seat_goes {M} 𝓤 𝓛 𝓜 𝓡 wired =
    let w : World = record { M = M; 𝓤 = 𝓤; 𝓛 = 𝓛; 𝓜 = 𝓜; 𝓡 = 𝓡 } in
    let ended = ended_of 0 kinds.ps kinds.r in
    let call = method seat_drop 0 (layouts [] tt) in
    glue_by SeatArg seat_laws w seat_drop 𝓡.env (λ κs a. Lasts ended tt a) (λ κs a. lasts ended tt a)
    (λ κs a x ws. Fit ended (stays kinds.ps) tt a ws × reads.Learnt tt a x (at_exit ended tt a ws))
    (λ κs a. AllWithin 1 (κs.0, tt) (SeatArg.lives, tt) × Unit {0}) 0 tt (λ κs a h. ((h, tt), tt))
    (via_longer 𝓛 (Over 𝓛 𝓜 𝓡 𝓡.env) 1 (glue_ps SeatArg seat_laws) r_unit (λ κs a. Lasts ended tt a) (λ κs a. lasts ended tt a)
    (λ κs a x ws. Fit ended (stays kinds.ps) tt a ws × reads.Learnt tt a x (at_exit ended tt a ws))
    (λ κs a. AllWithin 1 (κs.0, tt) (SeatArg.lives, tt) × Unit {0}) call 0 tt (λ κs. tt) (λ κs a. reads.Asked tt a) (λ κs a p. (tt, tt))
    (λ κs bd within a vss qs. method_Known 0 kinds.ps kinds.r reads.requires reads.ensures reads.Asked reads.Learnt reads.known w symbol.name call
    (symbol.as_method 𝓡.env wired call refl) (dropped.met 𝓤 𝓛 𝓜 𝓡 wired) ((tt, qs, tt, a, vss), tt)))
