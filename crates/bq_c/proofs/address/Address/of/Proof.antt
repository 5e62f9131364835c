-- The address owns from now on what the box owned.
use mathlib.Core.List.{List, [], ◌∷◌}
use mathlib.Core.Path.{refl, ap}
use mir.Val.{Val}
use base.Fraction.{full_share}
use base.Fml.{ftrue, flft}
use base.Logic.{ent, id⊢, emp}
use prog.Wp.{WpFn}
use contract.BorrowLft.{◌⊑◌}
use contract.Monad.{fact, fact_i}
use contract.Running.{tables}
use types.Kit.{‵, raw, ◌⊛◌, some, later, ◌$◌, ◌∵◌, !, qed, move, drop, split, join, use0, use1, use2, feq_l, pick, await, suffices, done}
use types.Part.{agg}
use types.Run.{enter, and_then, no_more, of_opd, returns}
use types.ByLocal.{alloc_all, pass_all, free_all, look_at, get, sets, lands_as}
use denote.Exit.{yes}
use denote.Param.{layout}
use denote.Param.NoDrop.{glues}
use denote.Param.Steps.{one_value}
use denote.RawPtr.{Ptr, RawPtr, rawptr_Lawful}
use denote.Signature.{plain}
use denote.Steps.{nothing, only}
use denote.Triple.Call.{calls_at}
use denote.Triple.Clauses.{lasts}
use denote.Triple.Spec.{triple_of}
use denote.Triple.Table.{framed}
use denote.Triple.Walked.{Stays, walk_of, says, stay_dropped, Goes-dropped, ends_at}
use Rattle.std.proofs.raw_atomic.Walks.{proved_at}
use Rattle.std.specs.Prelude.{Some}
use Rattle.std_heap.specs.contracts.Global as Heap
use Rattle.std_heap.proofs.Global.TheLaws as heap
use Rattle.std_heap.specs.contracts.GlobalAllocator.TheImpl.{ghosts, dict}
use Rattle.std_heap.proofs.GlobalAllocator.TheImpl.Met as allocator
use Rattle.std_alloc.specs.contracts.boxed.Box as Box
use Rattle.std_alloc.proofs.boxed.Box.TheLaws as box
use Rattle.std_alloc.specs.contracts.boxed.Box.into_raw as g
use Rattle.std_alloc.proofs.boxed.Box.into_raw.Met as into_raw
use Rattle.bq_c.specs.contracts.seat.Seat as Seat
use Rattle.bq_c.proofs.seat.Seat.TheLaws as seat
use Rattle.bq_c.specs.contracts.address.Address.{the_row}
use Rattle.bq_c.specs.contracts.address.Address.of as f
use Rattle.bq_c.specs.declared.address.Address.{Address}
use Rattle.bq_c.specs.Address.{owns_seat}
use Rattle.bq_c.proofs.SeatAt.{word, word_typed, kept, SeatArg, HeapArg, seat_laws, heap_laws, no_drop}
use Rattle.bq_c.proofs.SeatGoes.{seat_goes, seat_drop}
use Rattle.bq_c.proofs.address.Address.of.Statement.{statement}
use Rattle.bq_c.proofs.address.Address.of.Code as code

abbrev stayed : Stays f.ended.signature.params f.ended.kept
stayed = (stay_dropped _ yes, tt)

pub of_spec : {M : Type 1} → statement M
unfolding Rattle.bq_c.proofs.Destruct++none.drop.Code.code
of_spec {M} 𝓤 𝓛 𝓜 𝓡 wired =
    let c = f.clauses 𝓛 𝓜.mem 𝓡.returns in let W = walk_of 𝓛 f.ended stayed c in let 𝓣 = tables 𝓤 𝓛.H 𝓜 𝓡 𝓡.env in
    let B = Box.the_row Seat.the_row Heap.the_row ghosts in
    let fitting = (box.the_field_loose Seat.the_row Heap.the_row ghosts seat.the_row_laws heap.the_row_laws).lawful 𝓛 in
    let G = triple_of 𝓛 (g.signature SeatArg HeapArg ghosts dict no_drop seat_drop) (g.spec SeatArg HeapArg ghosts dict no_drop seat_drop 𝓛 𝓜.mem 𝓡.returns) in
    let met = into_raw.met 𝓤 𝓛 𝓜 𝓡 (code.calls-std_alloc::boxed::Box::into_raw 𝓡.env wired) SeatArg HeapArg seat_laws heap_laws ghosts dict no_drop seat_drop
    (allocator.passed 𝓡.env (code.calls-std_heap::GlobalAllocator::allocate 𝓡.env wired) (code.calls-std_heap::GlobalAllocator::deallocate 𝓡.env wired) (code.calls-std_heap::GlobalAllocator::grow 𝓡.env wired) (code.calls-std_heap::GlobalAllocator::shrink 𝓡.env wired) M 𝓤 𝓛 𝓜 𝓡)
    (glues "bq_c::Destruct++none::drop" 𝓡.env (code.calls-bq_c::Destruct++none::drop 𝓡.env wired) HeapArg heap_laws M 𝓤 𝓛 𝓜 𝓡)
    (seat_goes 𝓤 𝓛 𝓜 𝓡 (code.calls-bq_c::bq_c++seat++Seat+Destruct::drop 𝓡.env wired)) in
    proved_at 𝓛 f.ended stayed c 𝓜 𝓡 (Goes-dropped 𝓛 0 (plain (λ _. B)) yes (λ κs x w. refl), tt)
    f.Key.name code.function (code.unfolded 𝓤 𝓛.H 𝓜 𝓡 wired) (λ y are.
    let b = y.0.3.0 in
    let Y : List Val → W.Ghost = λ vs. ((y.0.0, y.0.1, y.0.2, y.0.3, (vs, tt)), y.1) in
    one_value (layout B) (λ vs. ent 𝓤 (W.pre (Y vs)) (WpFn 𝓤 𝓛.H 𝓣.C 𝓣.Λ code.function (W.args (Y vs)) (W.post (Y vs)))) y.0.4.0 (fitting.typed b y.0.4.0 are.0) (λ v fits.
    let z : G.Ghost = ((([], ([], tt)), (full_share, (full_share, tt)), tt, (b, tt), (v ∷ [], tt)), tt) in
    qed 𝓛 ((‵ ftrue ⊛ ‵ (B.own_val b (v ∷ [])) ⊛ ‵ ftrue) ∷ ‵ ftrue ∷ []) ∵
    move ! (1 ∷ []) $ drop ! $ split ! $ drop ! $ split ! $ move ! (1 ∷ []) $ drop ! $
    -- [the box]
    enter ! _ _ _ _ _ $ alloc_all ! (λ l. pass_all ! refl (fits, tt) $
    sets ! (of_opd ! (get ! refl)) refl fits $
    nothing ! $ use0 𝓛 (raw (fact 𝓤 ([] ⊑ Heap.the_row.lives))) (fact_i 𝓤 _ (emp 𝓤) (heap.the_within [])) $ join ! $
    use0 𝓛 (raw (fact 𝓤 ([] ⊑ Seat.the_row.lives))) (fact_i 𝓤 _ (emp 𝓤) (seat.the_within [])) $ join ! $
    nothing ! $ move ! (2 ∷ 0 ∷ []) $ join ! $
    nothing ! $ use0 𝓛 (‵ (flft [] full_share)) (𝓛.lfts.lft-nil full_share) $ join ! $ use0 𝓛 (‵ (flft [] full_share)) (𝓛.lfts.lft-nil full_share) $ join ! $ join ! $
    use2 𝓛 (raw (G.pre z)) (id⊢ 𝓤 _) $
    calls_at ! (framed 𝓤 𝓛.H 𝓜 𝓣) G met z (and_then ! (get ! refl) (no_more !)) (λ w.
    use1 𝓛 (later (some (λ (p : Ptr). ((‵ (flft [] full_share) ⊛ ‵ (flft [] full_share) ⊛ ‵ ftrue) ⊛ ‵ (RawPtr.own_val p (w ∷ []))) ⊛
    some (λ (ws : (Unit {0} × (Unit {0} × Unit {0})) × Unit {0}). ‵ (lasts (g.ended SeatArg HeapArg ghosts dict no_drop seat_drop) z.0.0 z.0.3 ws) ⊛ ‵ (owns_seat p (Some b.value)))))) (id⊢ 𝓤 _) $
    await ! tt $ pick ! (λ p. split ! $ split ! $ drop ! $ feq_l ! (λ is. pick ! (λ ws. split ! $ drop ! $
    let it : Address = record { at = p; seat = Some b.value } in
    lands_as ! (ap only is) refl ((rawptr_Lawful 𝓛).typed p _ refl).0 $
    sets ! (of_opd ! (get ! refl)) refl ((rawptr_Lawful 𝓛).typed p _ refl).0 $
    sets ! (agg ! (and_then ! (get ! refl) (no_more !))) refl (word_typed p) $
    returns ! (look_at ! 0 refl) $ free_all ! refl $
    use1 𝓛 (‵ ((the_row).own_val it (word p))) (kept 𝓛 p (Some b.value)) $
    suffices ! _ (ends_at 𝓛 f.ended stayed c (Y (v ∷ [])) _ it (tt, tt) (tt, tt)) $ says ! refl $
    nothing ! $ nothing ! $ join ! $ nothing ! $ done !)))))))
