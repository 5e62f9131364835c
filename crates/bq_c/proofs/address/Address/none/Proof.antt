-- The address of none is null, and owns nothing.
use mathlib.Core.List.{[], ◌∷◌}
use mathlib.Core.Path.{refl}
use lib.Dec.{lit<}
use base.Fml.{ftrue}
use types.Kit.{‵, raw, ◌$◌, ◌∵◌, !, qed, drop, use1, suffices, done}
use types.Part.{agg}
use types.Run.{enter, and_then, no_more, lit, returns}
use types.ByLocal.{alloc_all, pass_all, free_all, look_at, sets}
use denote.RawPtr.{null_ptr}
use denote.Steps.{nothing}
use denote.Triple.Entry.{on_entry}
use denote.Triple.Walked.{Stays, walk_of, says, ends_at}
use Rattle.std.proofs.raw_atomic.Walks.{proved}
use Rattle.std.specs.Prelude.{None}
use Rattle.bq_c.specs.contracts.address.Address.{the_row}
use Rattle.bq_c.specs.contracts.address.Address.none as f
use Rattle.bq_c.proofs.SeatAt.{word, kept}
use Rattle.bq_c.proofs.address.Address.none.Statement.{statement}
use Rattle.bq_c.proofs.address.Address.none.Code as code

abbrev stayed : Stays f.ended.signature.params f.ended.kept
stayed = tt

pub none_spec : {M : Type 1} → statement M
none_spec 𝓤 𝓛 𝓜 𝓡 wired =
    let c = f.clauses 𝓛 𝓜.mem 𝓡.returns in let W = walk_of 𝓛 f.ended stayed c in
    proved 𝓛 f.ended stayed c 𝓜 𝓡 tt f.Key.name code.function (code.unfolded 𝓤 𝓛.H 𝓜 𝓡 wired)
    (λ κs. tt) (λ κs. tt) (λ κs qs bounds a _ are.
    let y : W.Ghost = ((κs, qs, bounds, a, tt), tt) in
    qed 𝓛 (raw (on_entry 𝓛 f.signature κs qs a y.0.4) ∷ ‵ ftrue ∷ []) ∵ drop ! $ drop ! $
    enter ! _ _ _ _ _ $ alloc_all ! (λ l. pass_all ! refl tt $
    sets ! (agg ! (and_then ! (lit ! tt) (no_more !))) refl (tt, (record { fits = lit< tt }, tt)) $
    returns ! (look_at ! 0 refl) $ free_all ! refl $
    suffices ! _ (ends_at 𝓛 f.ended stayed c y _ (record { at = null_ptr; seat = None }) tt tt) $ says ! refl $
    nothing ! $ use1 𝓛 (‵ ((the_row).own_val (record { at = null_ptr; seat = None }) (word null_ptr))) (kept 𝓛 null_ptr None) $
    nothing ! $ nothing ! $ done !))
