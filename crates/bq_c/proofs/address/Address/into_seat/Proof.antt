-- The box is made again of the address and the handle of the heap.
use mathlib.Core.List.{[], ◌∷◌}
use mathlib.Core.Path.{◌≡◌, refl, ap, sym, ◌∙◌}
use base.Fraction.{full_share}
use base.Fml.{ftrue, flft}
use base.Logic.{id⊢, emp}
use contract.BorrowLft.{◌⊑◌}
use contract.Monad.{fact, fact_i}
use contract.Running.{tables}
use types.Kit.{‵, raw, ◌⊛◌, some, later, at_ret, ◌$◌, ◌∵◌, !, qed, move, keep, drop, split, join, use0, use1, use2, feq_i, pick, await, rewrite, suffices, done}
use types.Part.{whole, sub}
use types.Run.{enter, and_then, no_more, of_opd, returns, first, blocks, exec, fld, stop}
use types.ByLocal.{alloc_all, pass_all, free_all, look_at, get, get_in, sets, lands_last, env}
use denote.Exit.{yes}
use denote.Param.NoDrop.{glues}
use denote.RawPtr.{rawptr_vals, rawptr_Lawful}
use denote.Signature.{plain}
use denote.Laws.{Is, shows}
use denote.Steps.{nothing, heard, peeks}
use denote.Triple.Call.{calls_at_last}
use denote.Triple.Clauses.{lasts}
use denote.Triple.Spec.{triple_of}
use denote.Triple.Table.{framed}
use denote.Triple.Walked.{Stays, walk_of, says, stay_dropped, Goes-dropped, ends_at}
use Rattle.std.proofs.raw_atomic.Walks.{proved}
use Rattle.std_heap.proofs.Handle.{heap_val, heap_Tells}
use Rattle.std_heap.specs.contracts.Global as Heap
use Rattle.std_heap.proofs.Global.TheLaws as heap
use Rattle.std_heap.specs.contracts.GlobalAllocator.TheImpl.{ghosts, dict}
use Rattle.std_heap.proofs.GlobalAllocator.TheImpl.Met as allocator
use Rattle.std.specs.Prelude.{Some, IsSome}
use Rattle.std_alloc.specs.contracts.boxed.Box as Box
use Rattle.std_alloc.proofs.boxed.Box.TheLaws as box
use Rattle.std_alloc.specs.contracts.boxed.Box.from_raw as g
use Rattle.std_alloc.proofs.boxed.Box.from_raw.Met as from_raw
use Rattle.bq_c.specs.contracts.seat.Seat as Seat
use Rattle.bq_c.proofs.seat.Seat.TheLaws as seat
use Rattle.bq_c.specs.contracts.address.Address.{the_row}
use Rattle.bq_c.proofs.address.Address.TheLaws as address
use Rattle.bq_c.specs.contracts.address.Address.into_seat as f
use Rattle.bq_c.specs.Address.{owns_seat}
use Rattle.bq_c.proofs.SeatAt.{word, word_typed, there, item_of, SeatArg, HeapArg, seat_laws, heap_laws, no_drop}
use Rattle.bq_c.proofs.address.Address.into_seat.Statement.{statement}
use Rattle.bq_c.proofs.address.Address.into_seat.Code as code

abbrev stayed : Stays f.ended.signature.params f.ended.kept
stayed = (stay_dropped _ yes, (stay_dropped _ yes, tt))

pub into_seat_spec : {M : Type 1} → statement M
unfolding Rattle.bq_c.proofs.Destruct++none.drop.Code.code
into_seat_spec {M} 𝓤 𝓛 𝓜 𝓡 wired =
    let c = f.clauses 𝓛 𝓜.mem 𝓡.returns in let W = walk_of 𝓛 f.ended stayed c in let 𝓣 = tables 𝓤 𝓛.H 𝓜 𝓡 𝓡.env in
    let B = Box.the_row Seat.the_row Heap.the_row ghosts in
    let G = triple_of 𝓛 (g.signature SeatArg HeapArg ghosts dict no_drop) (g.spec SeatArg HeapArg ghosts dict no_drop 𝓛 𝓜.mem 𝓡.returns) in
    let met = from_raw.met 𝓤 𝓛 𝓜 𝓡 (code.calls-std_alloc::boxed::Box::from_raw 𝓡.env wired) SeatArg HeapArg seat_laws heap_laws ghosts dict no_drop
    (allocator.passed 𝓡.env (code.calls-std_heap::GlobalAllocator::allocate 𝓡.env wired) (code.calls-std_heap::GlobalAllocator::deallocate 𝓡.env wired) (code.calls-std_heap::GlobalAllocator::grow 𝓡.env wired) (code.calls-std_heap::GlobalAllocator::shrink 𝓡.env wired) M 𝓤 𝓛 𝓜 𝓡)
    (glues "bq_c::Destruct++none::drop" 𝓡.env (code.calls-bq_c::Destruct++none::drop 𝓡.env wired) HeapArg heap_laws M 𝓤 𝓛 𝓜 𝓡) in
    proved 𝓛 f.ended stayed c 𝓜 𝓡 (Goes-dropped 𝓛 0 (plain (λ _. the_row)) yes (λ κs x w. refl), (Goes-dropped 𝓛 0 (plain (λ _. Heap.the_row)) yes (λ κs x w. refl), tt))
    f.Key.name code.function (code.unfolded 𝓤 𝓛.H 𝓜 𝓡 wired)
    (λ κs. ((λ a. word a.at), ((λ _. heap_val ∷ []), tt))) (λ κs. (address.lowers.val_is, (heap_Tells, tt))) (λ κs qs bounds a _ are.
    let at = a.0.at in
    let y : W.Ghost = ((κs, qs, bounds, a, (word at, (heap_val ∷ [], tt))), tt) in
    qed 𝓛 ((‵ ftrue ⊛ ‵ ((the_row).own_val a.0 (word at)) ⊛ ‵ ((Heap.the_row).own_val a.1.0 (heap_val ∷ [])) ⊛ ‵ ftrue) ∷ raw (fact 𝓤 (IsSome a.0.seat)) ∷ []) ∵
    move ! (1 ∷ []) $ heard ! _ (λ is.
    let here = item_of a.0.seat is in let x = here.0 in
    let z : G.Ghost = ((([], ([], tt)), (full_share, (full_share, tt)), tt, (a.1.0, (at, tt)), (heap_val ∷ [], (rawptr_vals at, tt))), x) in
    split ! $ drop ! $ split ! $ use1 𝓛 (‵ (owns_seat at a.0.seat)) (there 𝓛 at a.0.seat (word at)) $
    rewrite ! 0 (λ s. ‵ (owns_seat at s)) here.1 refl $ move ! (1 ∷ []) $ split ! $ keep ! (0 ∷ 2 ∷ []) $
    -- [the handle; the seat in its memory]
    enter ! _ _ _ _ _ $ alloc_all ! (λ l. pass_all ! refl (word_typed at, ((tt, ((tt, tt), tt)), tt)) $
    sets ! (of_opd ! (get_in ! (fld ! refl (stop !)) (sub ! 0 refl (whole !)))) refl ((rawptr_Lawful 𝓛).typed at _ refl).0 $
    first ! $ blocks ! $
    sets ! (of_opd ! (get ! refl)) refl ((rawptr_Lawful 𝓛).typed at _ refl).0 $
    move ! (1 ∷ []) $ use0 𝓛 (raw (fact 𝓤 ([] ⊑ Heap.the_row.lives))) (fact_i 𝓤 _ (emp 𝓤) (heap.the_within [])) $ join ! $
    use0 𝓛 (raw (fact 𝓤 ([] ⊑ Seat.the_row.lives))) (fact_i 𝓤 _ (emp 𝓤) (seat.the_within [])) $ join ! $
    nothing ! $ feq_i ! _ (rawptr_vals at) (rawptr_vals at) refl $ join ! $ move ! (2 ∷ 0 ∷ []) $ join ! $
    nothing ! $ use0 𝓛 (‵ (flft [] full_share)) (𝓛.lfts.lft-nil full_share) $ join ! $ use0 𝓛 (‵ (flft [] full_share)) (𝓛.lfts.lft-nil full_share) $ join ! $ join ! $
    use2 𝓛 (raw (G.pre z)) (id⊢ 𝓤 _) $
    calls_at_last ! (framed 𝓤 𝓛.H 𝓜 𝓣) G met z (and_then ! (get ! refl) (and_then ! (get ! refl) (no_more !))) (λ v.
    use1 𝓛 (later (some (λ (r : B.Denot). ((‵ (flft [] full_share) ⊛ ‵ (flft [] full_share) ⊛ ‵ ftrue) ⊛ ‵ (B.own_val r (v ∷ []))) ⊛
    some (λ (ws : Unit {0} × (Unit {0} × Unit {0})). ‵ (lasts (g.ended SeatArg HeapArg ghosts dict no_drop) z.0.0 z.0.3 ws) ⊛ (raw (fact 𝓤 (r.value ≡ x)) ⊛ raw (fact 𝓤 (r.alloc ≡ a.1.0))))))) (id⊢ 𝓤 _) $
    await ! tt $ pick ! (λ r. split ! $ split ! $ drop ! $ move ! (1 ∷ []) $ pick ! (λ ws. split ! $ drop ! $ split ! $ heard ! _ (λ same. drop ! $
    peeks ! B (Is B) (shows 𝓛 B) r (v ∷ []) (λ shown.
    let fits = ((box.the_field_loose Seat.the_row Heap.the_row ghosts seat.the_row_laws heap.the_row_laws).lawful 𝓛).typed r _ shown in
    lands_last ! refl fits.0 $
    exec ! 𝓣.C 𝓣.Λ (env code.Mir.locals l) code.Mir.t-3 (at_ret _ (W.post y)) $
    sets ! (of_opd ! (get ! refl)) refl fits.0 $
    returns ! (look_at ! 0 refl) $ free_all ! refl $
    suffices ! _ (ends_at 𝓛 f.ended stayed c y v r (tt, (tt, tt)) (tt, (tt, tt))) $ says ! (here.1 ∙ ap Some (sym same)) $
    nothing ! $ nothing ! $ join ! $ nothing ! $ join ! $ nothing ! $ done !))))))))
