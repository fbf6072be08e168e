use Rattle.genie_inputs.proofs.Getting.{got_left, got_lent}
use Rattle.std.proofs.Common.{refl, arith, ◌^◌}
use Rattle.genie_inputs.proofs.Lending.{can_wire, lend_failed, lends_pages, moved_within, object_there}
use Rattle.genie_kernel.specs.Lemmas.Rising.{rises_most, rises_twice}
use Rattle.genie_inputs.proofs.Rising.{lent_most, rises_lent, rises_wired}
use Rattle.genie_inputs.proofs.in_place.lend_in_place.Goals as goal
use Rattle.genie_inputs.proofs.Costing.{costs_left, costs_more, lend_costs}

pub in_place-lent-requires-clause-within : goal.in_place-lent-requires-clause-within
in_place-lent-requires-clause-within g c = moved_within c.args.kernel.now c.make_free.new.kernel c.args.region c.args.off c.args.len (g.S.Store.view c.args.store.now) (g.S.Store.view c.make_free.new.store) c.requires.good c.make_free.ensures.moved c.requires.owned c.requires.within

pub guard-requires : goal.guard-requires
guard-requires g c = object_there c.args.kernel.now c.make_free.new.kernel c.in_place-lent.new.memory c.args.region (g.S.Store.view c.args.store.now) (g.S.Store.view c.make_free.new.store) c.make_free.ensures.moved c.requires.owned c.in_place-lent.ensures.keeps

pub wire_plan-requires : goal.wire_plan-requires
wire_plan-requires g c =
    let w = can_wire c.args.kernel.now c.make_free.new.kernel.memory c.in_place-lent.new.memory c.args.region.object.0 c.args.off c.args.len _ _ c.in-Ok-lent.plan c.make_free.ensures.room c.in-Ok-lent.ensures.lent c.in-Ok-lent.ensures.lies in
    record { there = w.there; room = w.room }

pub returns-in-Err-lent-clause-moved : goal.returns-in-Err-lent-clause-moved
returns-in-Err-lent-clause-moved g c = lend_failed c.memory_moves.ensures.calls c.moves_join.ensures.on c.args.kernel.now c.make_free.new.kernel c.in_place-lent.new.memory c.guard.new.objects c.args.region _ _ (g.S.Store.view c.args.store.now) (g.S.Store.view c.make_free.new.store) (g.S.Store.view c.in_place-lent.new.store) c.make_free.ensures.moved c.requires.owned c.in_place-lent.ensures.sound c.in_place-lent.ensures.sized c.in_place-lent.ensures.seen c.in_place-lent.ensures.keeps c.in_place-lent.ensures.touches c.in-Err-lent.ensures.counts c.guard.ensures

pub returns-in-Ok-lent-clause-lends : goal.returns-in-Ok-lent-clause-lends
returns-in-Ok-lent-clause-lends g c = lends_pages c.wires_show_what_was_seen.ensures.on c.args.kernel.now c.make_free.new.kernel c.in_place-lent.new.memory c.wire_plan.new.memory c.guard.new.objects c.args.region c.args.off c.args.len c.args.basic c.in-Ok-lent.plan (g.S.Store.view c.args.store.now) (g.S.Store.view c.make_free.new.store) (g.S.Store.view c.in_place-lent.new.store) c.make_free.ensures.moved c.in-Ok-lent.ensures.lent c.in-Ok-lent.ensures.lies c.guard.ensures c.wire_plan.ensures c.in_place-lent.ensures.sized c.in_place-lent.ensures.seen

pub returns-in-Err-clause-rises : goal.returns-in-Err-clause-rises
returns-in-Err-clause-rises g c = rises_most (2 ^ 13) (2 ^ 21) c.args.kernel.now.memory.frames c.make_free.new.kernel.memory.frames (omega arith) c.make_free.ensures.rises

pub returns-in-Err-lent-clause-rises : goal.returns-in-Err-lent-clause-rises
returns-in-Err-lent-clause-rises g c = rises_twice (2 ^ 13) (2 ^ 20) (2 ^ 21) c.args.kernel.now.memory.frames c.make_free.new.kernel.memory.frames c.in_place-lent.new.memory.frames (omega arith) c.make_free.ensures.rises (rises_lent _ _ _ c.make_free.new.kernel.memory c.in_place-lent.new.memory c.make_free.ensures.moved.good.sound (lent_most c.args.kernel.now c.make_free.new.kernel c.args.off c.args.len (g.S.Store.view c.args.store.now) (g.S.Store.view c.make_free.new.store) c.make_free.ensures.moved c.requires.most) c.in_place-lent.ensures.spends c.in_place-lent.ensures.landed)

pub returns-in-Ok-lent-clause-rises : goal.returns-in-Ok-lent-clause-rises
returns-in-Ok-lent-clause-rises g c = rises_wired c.args.basic _ (2 ^ 21) c.args.kernel.now.memory.frames _ c.wire_plan.new.memory c.wire_plan.ensures (rises_twice (2 ^ 13) (2 ^ 20) (2 ^ 21) c.args.kernel.now.memory.frames c.make_free.new.kernel.memory.frames c.in_place-lent.new.memory.frames (omega arith) c.make_free.ensures.rises (rises_lent _ _ _ c.make_free.new.kernel.memory c.in_place-lent.new.memory c.make_free.ensures.moved.good.sound (lent_most c.args.kernel.now c.make_free.new.kernel c.args.off c.args.len (g.S.Store.view c.args.store.now) (g.S.Store.view c.make_free.new.store) c.make_free.ensures.moved c.requires.most) c.in_place-lent.ensures.spends c.in_place-lent.ensures.landed))

pub returns-in-Err-clause-copying : goal.returns-in-Err-clause-copying
returns-in-Err-clause-copying g c = costs_more 0 _ c.args.kernel.now.memory c.make_free.new.kernel.memory (omega arith) c.make_free.ensures.copying

pub returns-in-Err-lent-clause-copying : goal.returns-in-Err-lent-clause-copying
returns-in-Err-lent-clause-copying g c = lend_costs c.args.kernel.now c.make_free.new.kernel c.in_place-lent.new.memory c.args.region c.args.off c.args.len _ _ _ (g.S.Store.view c.args.store.now) (g.S.Store.view c.make_free.new.store) c.requires.good c.requires.owned c.make_free.ensures.costs c.make_free.ensures.copying refl c.in_place-lent.ensures.spends

pub returns-in-Ok-lent-clause-copying : goal.returns-in-Ok-lent-clause-copying
returns-in-Ok-lent-clause-copying g c = costs_left _ c.args.kernel.now.memory c.in_place-lent.new.memory c.wire_plan.new.memory c.wire_plan.ensures.wired.only.meters (lend_costs c.args.kernel.now c.make_free.new.kernel c.in_place-lent.new.memory c.args.region c.args.off c.args.len _ _ _ (g.S.Store.view c.args.store.now) (g.S.Store.view c.make_free.new.store) c.requires.good c.requires.owned c.make_free.ensures.costs c.make_free.ensures.copying refl c.in_place-lent.ensures.spends)

pub returns-in-Err-clause-gets : goal.returns-in-Err-clause-gets
returns-in-Err-clause-gets g c = omega (arith, c.make_free.ensures.gets)

pub returns-in-Err-lent-clause-gets : goal.returns-in-Err-lent-clause-gets
returns-in-Err-lent-clause-gets g c = got_lent c.args.kernel.now c.make_free.new.kernel c.in_place-lent.new.memory c.args.off c.args.len _ _ _ c.requires.good c.make_free.ensures.costs.page c.make_free.ensures.gets refl c.in_place-lent.ensures.spends

pub returns-in-Ok-lent-clause-gets : goal.returns-in-Ok-lent-clause-gets
returns-in-Ok-lent-clause-gets g c = got_left _ c.args.kernel.now.memory.frames.meters c.in_place-lent.new.memory.frames.meters c.wire_plan.new.memory.frames.meters c.wire_plan.ensures.wired.only.meters (got_lent c.args.kernel.now c.make_free.new.kernel c.in_place-lent.new.memory c.args.off c.args.len _ _ _ c.requires.good c.make_free.ensures.costs.page c.make_free.ensures.gets refl c.in_place-lent.ensures.spends)
