use Rattle.std.proofs.Common.{rules, ◌≡◌, true, false, List, All, refl, sym, ap, ◌∙◌, subst, IfSome, slice_get, vec_len, vec_capacity}
use Rattle.bq_model.specs.declared.group.Group.{Group}
use Rattle.bq_model.specs.declared.op.Op.{Op}
use Rattle.std.specs.declared.vec.Vec.{Vec}
use Rattle.std.specs.declared.alloc.Global.{Global}
use Rattle.word_rows.specs.Sizes.{rows_of, anns_of}
use Rattle.bq_model.specs.declared.shape.Shape.{Shape}
use Rattle.lane_steps.specs.Functions.{put}
use Rattle.lane_steps.specs.LaneSizes.{lane_sizes}
use Rattle.lane_steps.specs.Ranges.{IsWord}
use Rattle.lane_steps.specs.State.{read, write}
use Rattle.lane_steps.specs.declared.act.Act.{Act}
use Rattle.lane_steps.specs.Act.{location, effect}
use Rattle.lane_steps.specs.Step.{after, linearizes}
use Rattle.step_core.specs.declared.call.Call.{Call}
use Rattle.step_core.specs.Calls.{IsReady, MayGo}
use Rattle.step_core.specs.Words.{memory_of, sizes_of, Sizes}
use Rattle.step_core.specs.Lists.{callers_of, copy_at}
use Rattle.step_core.proofs.Callers.{step_is}
use Rattle.step_core.proofs.Sound.{finds_word, fits_count, may_linearize, may_go, stays_sound}
use Rattle.step_core.proofs.lists.Lists.step.Goals as goal

pub act-act-requires : goal.act-act-requires
act-act-requires c = fits_count c.args.self.now c.requires.sound c.args.caller c.point-point.result c.point-point.ensures

pub read-found-requires-clause-links : goal.read-found-requires-clause-links
read-found-requires-clause-links c = let a = c.args.self.now in let sizes = c.requires.sound.sizes in
    subst (λ (z : Sizes). IsWord z.links z.ann_hazards z.old_tails c.location-word.result) (sym sizes) (subst (IsWord (rows_of a.shape) a.shape.callers (anns_of a.shape)) (sym (c.location-word.ensures ∙ ap location c.act-act.ensures)) (finds_word a c.requires.sound c.args.caller c.point-point.result c.point-point.ensures))

pub read-found-requires-clause-values : goal.read-found-requires-clause-values
read-found-requires-clause-values c = let a = c.args.self.now in let sizes = c.requires.sound.sizes in
    subst (λ (z : Sizes). IsWord z.values z.node_hazards z.notices c.location-word.result) (sym sizes) (subst (IsWord (rows_of a.shape) a.shape.callers (anns_of a.shape)) (sym (c.location-word.ensures ∙ ap location c.act-act.ensures)) (finds_word a c.requires.sound c.args.caller c.point-point.result c.point-point.ensures))

pub read-found-requires-clause-marks : goal.read-found-requires-clause-marks
read-found-requires-clause-marks c = let a = c.args.self.now in let sizes = c.requires.sound.sizes in
    subst (λ (z : Sizes). IsWord z.marks z.node_hazards z.notices c.location-word.result) (sym sizes) (subst (IsWord (rows_of a.shape) a.shape.callers (anns_of a.shape)) (sym (c.location-word.ensures ∙ ap location c.act-act.ensures)) (finds_word a c.requires.sound c.args.caller c.point-point.result c.point-point.ensures))

pub write-requires-clause-links : goal.write-requires-clause-links
write-requires-clause-links c = let a = c.args.self.now in let sizes = c.requires.sound.sizes in
    subst (λ (z : Sizes). IsWord z.links z.ann_hazards z.old_tails c.location-word.result) (sym sizes) (subst (IsWord (rows_of a.shape) a.shape.callers (anns_of a.shape)) (sym (c.location-word.ensures ∙ ap location c.act-act.ensures)) (finds_word a c.requires.sound c.args.caller c.point-point.result c.point-point.ensures))

pub write-requires-clause-values : goal.write-requires-clause-values
write-requires-clause-values c = let a = c.args.self.now in let sizes = c.requires.sound.sizes in
    subst (λ (z : Sizes). IsWord z.values z.node_hazards z.notices c.location-word.result) (sym sizes) (subst (IsWord (rows_of a.shape) a.shape.callers (anns_of a.shape)) (sym (c.location-word.ensures ∙ ap location c.act-act.ensures)) (finds_word a c.requires.sound c.args.caller c.point-point.result c.point-point.ensures))

pub write-requires-clause-marks : goal.write-requires-clause-marks
write-requires-clause-marks c = let a = c.args.self.now in let sizes = c.requires.sound.sizes in
    subst (λ (z : Sizes). IsWord z.marks z.node_hazards z.notices c.location-word.result) (sym sizes) (subst (IsWord (rows_of a.shape) a.shape.callers (anns_of a.shape)) (sym (c.location-word.ensures ∙ ap location c.act-act.ensures)) (finds_word a c.requires.sound c.args.caller c.point-point.result c.point-point.ensures))

pub add_group-requires : goal.add_group-requires
add_group-requires c = record {
  may_linearize = λ g. let a = c.args.self.now in let t = c.point-point.result in let found = c.read-found.ensures ∙ ap (read (memory_of a.words)) (c.location-word.ensures ∙ ap location c.act-act.ensures) in
      may_linearize a c.requires.sound c.args.caller c.requires.runs t c.point-point.ensures _ refl refl refl refl (ap (linearizes t) (sym found) ∙ g);
}

pub go-requires-clause-may_go : goal.go-requires-clause-may_go
go-requires-clause-may_go c = subst (λ (z : Shape). IfSome (slice_get c.add_group.new.self.calls.items c.args.caller) (MayGo z c.args.caller)) (sym c.add_group.ensures.shape)
    (may_go c.args.self.now c.requires.sound c.add_group.new.self.calls.items c.args.caller (search rules) (search rules) c.requires.runs)

pub returns-clause-step : goal.returns-clause-step
returns-clause-step c = step_is c.args.self.now c.add_group.new.self c.go.new.self c.write.new.self c.args.caller (vec_len c.add_group.new.self.history) c.point-point.result c.location-word.result c.read-found.result
    c.point-point.ensures (c.location-word.ensures ∙ ap location c.act-act.ensures) c.read-found.ensures (c.write.ensures.memory ∙ ap (write (memory_of c.args.self.now.words) c.location-word.result) (c.effect.ensures ∙ ap (λ (a : Act). effect a c.read-found.result) c.act-act.ensures)) c.add_group.ensures.words c.add_group.ensures.calls_stay c.add_group.ensures.history
    c.go.ensures.rest.1 c.go.ensures.rest.2 (search rules)
    (subst (λ (z : Shape). callers_of c.go.new.self.calls.items ≡ put (callers_of c.add_group.new.self.calls.items) c.args.caller
    (after (lane_sizes z) (vec_len c.add_group.new.self.history) c.args.caller (callers_of c.add_group.new.self.calls.items c.args.caller) (callers_of c.add_group.new.self.calls.items c.args.caller).point c.read-found.result)) c.add_group.ensures.shape c.go.ensures.callers)

pub returns-clause-sound : goal.returns-clause-sound
returns-clause-sound c = let a = c.args.self.now in let d = c.add_group.new.self in let e = c.go.new.self in let who = c.args.caller in
    stays_sound a c.requires.sound who c.requires.runs e c.point-point.result c.point-point.ensures (returns-clause-step c)
    (c.go.ensures.rest.0 ∙ c.add_group.ensures.shape)
    (ap sizes_of (c.go.ensures.rest.1 ∙ c.add_group.ensures.words) ∙ c.write.ensures.sizes_stay)
    (c.go.ensures.len ∙ ap (λ (v : Vec Call Global). vec_len v) c.add_group.ensures.calls_stay)
    (ap (λ (v : Vec (List Op) Global). vec_len v) c.go.ensures.rest.3 ∙ c.add_group.ensures.copies_len)
    (c.go.ensures.rest.4 ∙ c.add_group.ensures.enqueues_stay)
    (subst (λ (z : Shape). All (IsReady z.batch z.callers) e.calls.items) c.add_group.ensures.shape c.go.ensures.ready)
    (ap (λ (v : Vec Group Global). vec_capacity v) c.go.ensures.rest.2 ∙ c.add_group.ensures.capacity)
    (λ other apart. ap (λ (v : Vec (List Op) Global). copy_at v.items other) c.go.ensures.rest.3 ∙ c.add_group.ensures.others other apart)
    (λ none other. let t = c.point-point.result in let found = c.read-found.ensures ∙ ap (read (memory_of a.words)) (c.location-word.ensures ∙ ap location c.act-act.ensures) in
    ap (λ (v : Vec (List Op) Global). copy_at v.items other) (c.go.ensures.rest.3 ∙ c.add_group.ensures.none_added (λ g. differ (sym g ∙ (ap (linearizes t) found ∙ none))))) where
      differ : true ≡ false → ⊥
      differ e = cc e

pub go-requires-clause-ready : goal.go-requires-clause-ready
go-requires-clause-ready c = let S = c.requires.sound in subst (λ (p : Shape × Vec Call Global). All (IsReady p.0.batch p.0.callers) p.1.items) (λ i. (sym c.add_group.ensures.shape i, sym c.add_group.ensures.calls_stay i)) S.ready
