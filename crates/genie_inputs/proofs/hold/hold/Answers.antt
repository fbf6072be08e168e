use Rattle.std.proofs.Common.{◌∙◌, ap, refl, sym, subst, arith, ◌^◌}
use Rattle.std.specs.Prelude.{None}
use Rattle.genie_inputs.specs.Posting.{with_input}
use Rattle.genie_inputs.proofs.Answered.{fails}
use Rattle.genie_inputs.specs.HiddenReuse.{ReusesFrames}
use Rattle.genie_inputs.proofs.HiddenAgain.{fault_reuses, held_new, hold_reuses}
use Rattle.genie_inputs.proofs.Holding.{hold_answers, hold_can_post, hold_may_add, made_by_move}
use Rattle.genie_inputs.proofs.Rising.{rises_between}
use Rattle.genie_kernel.specs.declared.kernel.Kernel.{Kernel}
use Rattle.genie_inputs.proofs.Moving.{moves_none, moves_on}
use Rattle.genie_inputs.proofs.hold.hold.Goals as goal

pub find_place-place-requires-clause-made : goal.find_place-place-requires-clause-made
find_place-place-requires-clause-made g c = made_by_move c.args.kernel.now c.args.call c.requires.class

pub add_region-requires-clause-alive : goal.add_region-requires-clause-alive
add_region-requires-clause-alive g c = (hold_may_add c.objects_suffice.ensures c.args.kernel.now c.in-Ok.ensures.holds.cleared c.lend_held.new.kernel c.args.call c.find_place-place.result c.in-Ok.loans (g.S.Store.view c.args.store.now) (g.S.Store.view c.lend_held.new.store) c.requires.good c.requires.class c.requires.accepted c.find_place-place.ensures c.in-Ok.ensures.holds.clears c.in-Ok.ensures.holds.room c.in-Ok.ensures.holds.lends).alive

pub add_region-requires-clause-room : goal.add_region-requires-clause-room
add_region-requires-clause-room g c = (hold_may_add c.objects_suffice.ensures c.args.kernel.now c.in-Ok.ensures.holds.cleared c.lend_held.new.kernel c.args.call c.find_place-place.result c.in-Ok.loans (g.S.Store.view c.args.store.now) (g.S.Store.view c.lend_held.new.store) c.requires.good c.requires.class c.requires.accepted c.find_place-place.ensures c.in-Ok.ensures.holds.clears c.in-Ok.ensures.holds.room c.in-Ok.ensures.holds.lends).room

pub add_region-requires-clause-some : goal.add_region-requires-clause-some
add_region-requires-clause-some g c = (hold_may_add c.objects_suffice.ensures c.args.kernel.now c.in-Ok.ensures.holds.cleared c.lend_held.new.kernel c.args.call c.find_place-place.result c.in-Ok.loans (g.S.Store.view c.args.store.now) (g.S.Store.view c.lend_held.new.store) c.requires.good c.requires.class c.requires.accepted c.find_place-place.ensures c.in-Ok.ensures.holds.clears c.in-Ok.ensures.holds.room c.in-Ok.ensures.holds.lends).some

pub add_region-requires-clause-most : goal.add_region-requires-clause-most
add_region-requires-clause-most g c = (hold_may_add c.objects_suffice.ensures c.args.kernel.now c.in-Ok.ensures.holds.cleared c.lend_held.new.kernel c.args.call c.find_place-place.result c.in-Ok.loans (g.S.Store.view c.args.store.now) (g.S.Store.view c.lend_held.new.store) c.requires.good c.requires.class c.requires.accepted c.find_place-place.ensures c.in-Ok.ensures.holds.clears c.in-Ok.ensures.holds.room c.in-Ok.ensures.holds.lends).most

pub add_region-requires-clause-few : goal.add_region-requires-clause-few
add_region-requires-clause-few g c = (hold_may_add c.objects_suffice.ensures c.args.kernel.now c.in-Ok.ensures.holds.cleared c.lend_held.new.kernel c.args.call c.find_place-place.result c.in-Ok.loans (g.S.Store.view c.args.store.now) (g.S.Store.view c.lend_held.new.store) c.requires.good c.requires.class c.requires.accepted c.find_place-place.ensures c.in-Ok.ensures.holds.clears c.in-Ok.ensures.holds.room c.in-Ok.ensures.holds.lends).few

pub add_region-requires-clause-free : goal.add_region-requires-clause-free
add_region-requires-clause-free g c = (hold_may_add c.objects_suffice.ensures c.args.kernel.now c.in-Ok.ensures.holds.cleared c.lend_held.new.kernel c.args.call c.find_place-place.result c.in-Ok.loans (g.S.Store.view c.args.store.now) (g.S.Store.view c.lend_held.new.store) c.requires.good c.requires.class c.requires.accepted c.find_place-place.ensures c.in-Ok.ensures.holds.clears c.in-Ok.ensures.holds.room c.in-Ok.ensures.holds.lends).free

pub add_region-requires-clause-new : goal.add_region-requires-clause-new
add_region-requires-clause-new g c = let h = (hold_may_add c.objects_suffice.ensures c.args.kernel.now c.in-Ok.ensures.holds.cleared c.lend_held.new.kernel c.args.call c.find_place-place.result c.in-Ok.loans (g.S.Store.view c.args.store.now) (g.S.Store.view c.lend_held.new.store) c.requires.good c.requires.class c.requires.accepted c.find_place-place.ensures c.in-Ok.ensures.holds.clears c.in-Ok.ensures.holds.room c.in-Ok.ensures.holds.lends).new in rw h refl

pub post-requires-clause-room : goal.post-requires-clause-room
post-requires-clause-room g c = hold_can_post c.input_laws.ensures c.args.kernel.now c.in-Ok.ensures.holds.cleared c.lend_held.new.kernel c.add_region.new.kernel c.args.call _ c.in-Ok.loans (g.S.Store.view c.args.store.now) (g.S.Store.view c.lend_held.new.store) c.requires.good c.requires.accepted c.in-Ok.ensures.holds.clears c.in-Ok.ensures.holds.lends c.add_region.ensures c.transfer.result (ap (λ t. t.id.0) c.transfer.ensures)

pub returns-in-Ok-clause-answered : goal.returns-in-Ok-clause-answered
returns-in-Ok-clause-answered g c = hold_answers c.input_laws.ensures c.region_laws.ensures c.args.kernel.now c.in-Ok.ensures.holds.cleared c.lend_held.new.kernel c.add_region.new.kernel c.post.new.kernel c.args.call c.find_place-place.result c.in-Ok.loans c.add_region.result (g.S.Store.view c.args.store.now) (g.S.Store.view c.lend_held.new.store) c.requires.good c.requires.sized c.requires.class c.requires.accepted c.find_place-place.ensures c.in-Ok.ensures.holds.clears c.in-Ok.ensures.holds.room c.in-Ok.ensures.holds.lends c.add_region.ensures (c.post.ensures ∙ ap (with_input c.add_region.new.kernel) c.transfer.ensures)

pub returns-in-Err-clause-answered : goal.returns-in-Err-clause-answered
returns-in-Err-clause-answered g c = fails c.input_laws.ensures c.args.kernel.now c.lend_held.new.kernel c.args.call None (g.S.Store.view c.args.store.now) (g.S.Store.view c.lend_held.new.store) c.requires.accepted c.in-Err.ensures.ready

pub returns-in-Ok-clause-reuses : goal.returns-in-Ok-clause-reuses
returns-in-Ok-clause-reuses g c =
    let h = c.in-Ok.ensures.holds in
    let t = c.transfer.result in
    hold_reuses c.args.kernel.now c.post.new.kernel c.args.call c.find_place-place.result t _ c.find_place-place.ensures
    (subst (ReusesFrames c.args.kernel.now c.args.call c.find_place-place.result) (sym (ap (λ t. t.loans) c.transfer.ensures)) c.in-Ok.ensures.reuses)
    (held_new c.args.kernel.now h.cleared c.lend_held.new.kernel c.add_region.new.kernel c.post.new.kernel c.args.call _ c.in-Ok.loans (g.S.Store.view c.args.store.now) (g.S.Store.view c.lend_held.new.store) t h.clears h.lends c.add_region.ensures c.post.ensures)

pub returns-in-Err-clause-reuses : goal.returns-in-Err-clause-reuses
returns-in-Err-clause-reuses g c = fault_reuses c.args.kernel.now c.lend_held.new.kernel c.args.call

pub returns-in-Ok-clause-rises : goal.returns-in-Ok-clause-rises
returns-in-Ok-clause-rises g c = rises_between (2 ^ 20) c.args.kernel.now.memory.frames c.args.kernel.now.memory.frames c.lend_held.new.kernel.memory.frames c.post.new.kernel.memory.frames refl refl (ap (λ (z : Kernel). z.memory.frames.meters) c.post.ensures ∙ ap (λ (z : Kernel). z.memory.frames.meters) c.add_region.ensures.added) (ap (λ (z : Kernel). z.memory.frames.landed) c.post.ensures ∙ ap (λ (z : Kernel). z.memory.frames.landed) c.add_region.ensures.added) (omega arith) c.lend_held.ensures.rises

pub returns-in-Err-clause-rises : goal.returns-in-Err-clause-rises
returns-in-Err-clause-rises g c = rises_between (2 ^ 20) c.args.kernel.now.memory.frames c.args.kernel.now.memory.frames c.lend_held.new.kernel.memory.frames c.lend_held.new.kernel.memory.frames refl refl refl refl (omega arith) c.lend_held.ensures.rises

pub returns-in-Ok-clause-copying : goal.returns-in-Ok-clause-copying
returns-in-Ok-clause-copying g c = moves_on c.args.kernel.now.memory c.lend_held.new.kernel.memory c.post.new.kernel.memory c.lend_held.ensures.copying (moves_none c.lend_held.new.kernel.memory c.post.new.kernel.memory (ap (λ (z : Kernel). z.memory.frames.meters) c.post.ensures ∙ ap (λ (z : Kernel). z.memory.frames.meters) c.add_region.ensures.added))

pub returns-in-Ok-clause-gets : goal.returns-in-Ok-clause-gets
returns-in-Ok-clause-gets g c = ap (λ (z : Kernel). z.memory.frames.meters.gets) c.post.ensures ∙ ap (λ (z : Kernel). z.memory.frames.meters.gets) c.add_region.ensures.added ∙ c.lend_held.ensures.gets
