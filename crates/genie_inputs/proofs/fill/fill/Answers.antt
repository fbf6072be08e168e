use Rattle.genie_inputs.proofs.Getting.{got_before, got_left, got_weakly}
use Rattle.std.proofs.Common.{◌≡◌, ◌∙◌, sym, ap, refl, not, subst, true, arith, ◌^◌}
use Rattle.std.specs.Prelude.{None, is_some}
use Rattle.genie_base.specs.declared.numbers.RegionId.{RegionId}
use Rattle.genie_region.specs.declared.region.Region.{Region}
use Rattle.genie_region.specs.Layouts.{region_of}
use Rattle.genie_space.specs.Spaces.{regions_of}
use Rattle.genie_kernel.specs.declared.kernel.Kernel.{Kernel}
use Rattle.genie_inputs.specs.Posting.{with_input}
use Rattle.genie_inputs.proofs.Accepted.{may_input}
use Rattle.genie_inputs.proofs.Filling.{fill_answers, fill_can_post, fill_failed, new_alive, new_good, new_owned, new_room, new_there}
use Rattle.genie_inputs.proofs.Holding.{may_add}
use Rattle.genie_inputs.proofs.Placing.{may_place}
use Rattle.genie_frame.specs.FrameTable.{FrameTable}
use Rattle.genie_inputs.proofs.Rising.{rises_between}
use Rattle.genie_inputs.proofs.fill.fill.Goals as goal
use Rattle.genie_inputs.proofs.Costing.{costs_before, costs_left, fill_less, weak_keeps}
use Rattle.genie_base.specs.declared.semantics.Class.{Class}
use Rattle.genie_model.specs.Refusing.{must_make}
use Rattle.genie_kernel.specs.View.{outline}
use Rattle.genie_base.specs.declared.reply.Reply.TheVariants as reply

pub make_room-requires-clause-alive : goal.make_room-requires-clause-alive
make_room-requires-clause-alive g c = (may_input c.args.kernel.now c.args.call None c.requires.good c.requires.accepted).alive

pub make_room-requires-clause-few : goal.make_room-requires-clause-few
make_room-requires-clause-few g c = (may_place c.args.kernel.now c.args.call c.requires.good c.requires.accepted c.requires.made).few

pub add_region-object-requires-clause-alive : goal.add_region-object-requires-clause-alive
add_region-object-requires-clause-alive g c = (may_add c.objects_suffice.ensures c.args.kernel.now c.make_room.new.kernel c.make_room.new.kernel.memory c.args.call c.find_place-place.result c.requires.good c.make_room.ensures.clears.good c.requires.accepted c.requires.made c.find_place-place.ensures (ap (λ (z : Kernel). z.spaces) c.make_room.ensures.clears.only) c.make_room.ensures.room refl).alive

pub add_region-object-requires-clause-room : goal.add_region-object-requires-clause-room
add_region-object-requires-clause-room g c = (may_add c.objects_suffice.ensures c.args.kernel.now c.make_room.new.kernel c.make_room.new.kernel.memory c.args.call c.find_place-place.result c.requires.good c.make_room.ensures.clears.good c.requires.accepted c.requires.made c.find_place-place.ensures (ap (λ (z : Kernel). z.spaces) c.make_room.ensures.clears.only) c.make_room.ensures.room refl).room

pub add_region-object-requires-clause-most : goal.add_region-object-requires-clause-most
add_region-object-requires-clause-most g c = (may_add c.objects_suffice.ensures c.args.kernel.now c.make_room.new.kernel c.make_room.new.kernel.memory c.args.call c.find_place-place.result c.requires.good c.make_room.ensures.clears.good c.requires.accepted c.requires.made c.find_place-place.ensures (ap (λ (z : Kernel). z.spaces) c.make_room.ensures.clears.only) c.make_room.ensures.room refl).most

pub add_region-object-requires-clause-free : goal.add_region-object-requires-clause-free
add_region-object-requires-clause-free g c = (may_add c.objects_suffice.ensures c.args.kernel.now c.make_room.new.kernel c.make_room.new.kernel.memory c.args.call c.find_place-place.result c.requires.good c.make_room.ensures.clears.good c.requires.accepted c.requires.made c.find_place-place.ensures (ap (λ (z : Kernel). z.spaces) c.make_room.ensures.clears.only) c.make_room.ensures.room refl).free

pub add_region-object-requires-clause-new : goal.add_region-object-requires-clause-new
add_region-object-requires-clause-new g c = let h = (may_add c.objects_suffice.ensures c.args.kernel.now c.make_room.new.kernel c.make_room.new.kernel.memory c.args.call c.find_place-place.result c.requires.good c.make_room.ensures.clears.good c.requires.accepted c.requires.made c.find_place-place.ensures (ap (λ (z : Kernel). z.spaces) c.make_room.ensures.clears.only) c.make_room.ensures.room refl).new in rw h refl

pub lend_in_place-requires-clause-good : goal.lend_in_place-requires-clause-good
lend_in_place-requires-clause-good g c = new_good c.input_laws.ensures c.region_laws.ensures c.good_kernels_are_settled.ensures.settled c.args.kernel.now c.make_room.new.kernel c.add_region-object.new.kernel c.args.call c.find_place-place.result c.add_region-object.result c.live_region-region.result c.requires.good c.requires.class c.requires.accepted c.requires.made c.find_place-place.ensures c.make_room.ensures.clears c.make_room.ensures.room c.add_region-object.ensures c.live_region-region.ensures

pub lend_in_place-requires-clause-owned : goal.lend_in_place-requires-clause-owned
lend_in_place-requires-clause-owned g c = new_owned c.input_laws.ensures c.region_laws.ensures c.good_kernels_are_settled.ensures.settled c.args.kernel.now c.make_room.new.kernel c.add_region-object.new.kernel c.args.call c.find_place-place.result c.add_region-object.result c.live_region-region.result c.requires.good c.requires.class c.requires.accepted c.requires.made c.find_place-place.ensures c.make_room.ensures.clears c.make_room.ensures.room c.add_region-object.ensures c.live_region-region.ensures

pub lend_in_place-requires-clause-frames : goal.lend_in_place-requires-clause-frames
lend_in_place-requires-clause-frames g c = (new_room c.input_laws.ensures c.region_laws.ensures c.good_kernels_are_settled.ensures.settled c.args.kernel.now c.make_room.new.kernel c.add_region-object.new.kernel c.args.call c.find_place-place.result c.add_region-object.result c.live_region-region.result c.requires.good c.requires.class c.requires.accepted c.requires.made c.find_place-place.ensures c.make_room.ensures.clears c.make_room.ensures.room c.add_region-object.ensures c.live_region-region.ensures c.input_laws.ensures.room).1

pub set_in-requires-clause-alive : goal.set_in-requires-clause-alive
set_in-requires-clause-alive g c = new_alive c.input_laws.ensures c.region_laws.ensures c.good_kernels_are_settled.ensures.settled c.args.kernel.now c.make_room.new.kernel c.add_region-object.new.kernel c.args.call c.find_place-place.result c.add_region-object.result c.live_region-region.result c.requires.good c.requires.class c.requires.accepted c.requires.made c.find_place-place.ensures c.make_room.ensures.clears c.make_room.ensures.room c.add_region-object.ensures c.live_region-region.ensures c.lend_in_place.new.kernel (ap (λ (z : Kernel). z.spaces) c.in-Ok.ensures.lends.only)

pub set_in-requires-clause-there : goal.set_in-requires-clause-there
set_in-requires-clause-there g c = subst (λ (i : RegionId). is_some (region_of i (regions_of c.args.call.pid c.lend_in_place.new.kernel.spaces)) ≡ true) (ap (λ (x : Region). x.id) c.live_region-region.ensures) (ap is_some (new_there c.input_laws.ensures c.region_laws.ensures c.good_kernels_are_settled.ensures.settled c.args.kernel.now c.make_room.new.kernel c.add_region-object.new.kernel c.args.call c.find_place-place.result c.add_region-object.result c.live_region-region.result c.requires.good c.requires.class c.requires.accepted c.requires.made c.find_place-place.ensures c.make_room.ensures.clears c.make_room.ensures.room c.add_region-object.ensures c.live_region-region.ensures c.lend_in_place.new.kernel (ap (λ (z : Kernel). z.spaces) c.in-Ok.ensures.lends.only)))

pub post-requires-clause-room : goal.post-requires-clause-room
post-requires-clause-room g c = fill_can_post c.input_laws.ensures c.region_laws.ensures c.good_kernels_are_settled.ensures.settled c.args.kernel.now c.make_room.new.kernel c.add_region-object.new.kernel c.args.call c.find_place-place.result c.add_region-object.result c.live_region-region.result c.requires.good c.requires.class c.requires.accepted c.requires.made c.find_place-place.ensures c.make_room.ensures.clears c.make_room.ensures.room c.add_region-object.ensures c.live_region-region.ensures c.lend_in_place.new.kernel c.set_in.new.kernel c.lend_in_place.new.kernel.memory c.in-Ok.ensures.lends.clock c.in-Ok.ensures.lends.only c.set_in.ensures c.transfer.result (ap (λ t. t.id.0) c.transfer.ensures)

pub remove_region-requires-clause-settled : goal.remove_region-requires-clause-settled
remove_region-requires-clause-settled g c = c.good_kernels_are_settled.ensures.settled c.lend_in_place.new.kernel c.in-Err.ensures.moved.good

pub remove_region-requires-clause-alive : goal.remove_region-requires-clause-alive
remove_region-requires-clause-alive g c = new_alive c.input_laws.ensures c.region_laws.ensures c.good_kernels_are_settled.ensures.settled c.args.kernel.now c.make_room.new.kernel c.add_region-object.new.kernel c.args.call c.find_place-place.result c.add_region-object.result c.live_region-region.result c.requires.good c.requires.class c.requires.accepted c.requires.made c.find_place-place.ensures c.make_room.ensures.clears c.make_room.ensures.room c.add_region-object.ensures c.live_region-region.ensures c.lend_in_place.new.kernel (ap (λ (z : Kernel). z.spaces) c.in-Err.ensures.moved.only)

pub remove_region-requires-clause-there : goal.remove_region-requires-clause-there
remove_region-requires-clause-there g c = new_there c.input_laws.ensures c.region_laws.ensures c.good_kernels_are_settled.ensures.settled c.args.kernel.now c.make_room.new.kernel c.add_region-object.new.kernel c.args.call c.find_place-place.result c.add_region-object.result c.live_region-region.result c.requires.good c.requires.class c.requires.accepted c.requires.made c.find_place-place.ensures c.make_room.ensures.clears c.make_room.ensures.room c.add_region-object.ensures c.live_region-region.ensures c.lend_in_place.new.kernel (ap (λ (z : Kernel). z.spaces) c.in-Err.ensures.moved.only)

pub returns-in-Ok-clause-answered : goal.returns-in-Ok-clause-answered
returns-in-Ok-clause-answered g c = fill_answers c.input_laws.ensures c.region_laws.ensures c.good_kernels_are_settled.ensures.settled c.args.kernel.now c.make_room.new.kernel c.add_region-object.new.kernel c.args.call c.find_place-place.result c.add_region-object.result c.live_region-region.result c.requires.good c.requires.class c.requires.accepted c.requires.made c.find_place-place.ensures c.make_room.ensures.clears c.make_room.ensures.room c.add_region-object.ensures c.live_region-region.ensures c.wires_show_what_was_seen.ensures.on _ (ap not c.emulated-basic.ensures) c.lend_in_place.new.kernel c.set_in.new.kernel c.post.new.kernel c.in-Ok.loans (g.S.Store.view c.args.store.now) (g.S.Store.view c.lend_in_place.new.store) c.in-Ok.ensures.lends c.set_in.ensures (c.post.ensures ∙ ap (with_input c.set_in.new.kernel) c.transfer.ensures)

pub returns-in-Err-clause-answered : goal.returns-in-Err-clause-answered
returns-in-Err-clause-answered g c = fill_failed c.input_laws.ensures c.region_laws.ensures c.good_kernels_are_settled.ensures.settled c.args.kernel.now c.make_room.new.kernel c.add_region-object.new.kernel c.args.call c.find_place-place.result c.add_region-object.result c.live_region-region.result c.requires.good c.requires.class c.requires.accepted c.requires.made c.find_place-place.ensures c.make_room.ensures.clears c.make_room.ensures.room c.add_region-object.ensures c.live_region-region.ensures c.removed_regions.ensures.settles c.removed_regions.ensures.keeps c.removed_regions.ensures.shows c.removed_regions.ensures.outlines c.removed_regions.ensures.state c.good_kernels_are_settled.ensures.good c.lend_in_place.new.kernel c.remove_region.new.kernel (g.S.Store.view c.args.store.now) (g.S.Store.view c.lend_in_place.new.store) c.in-Err.ensures.moved (g.met.S.Store.paged c.lend_in_place.new.store) c.remove_region.ensures

pub returns-in-Ok-clause-rises : goal.returns-in-Ok-clause-rises
returns-in-Ok-clause-rises g c = rises_between (2 ^ 21) c.args.kernel.now.memory.frames c.add_region-object.new.kernel.memory.frames c.lend_in_place.new.kernel.memory.frames c.post.new.kernel.memory.frames (ap (λ (z : Kernel). z.memory.frames.meters) c.add_region-object.ensures.added ∙ c.make_room.ensures.clears.meters) (ap (λ (z : Kernel). z.memory.frames.landed) c.add_region-object.ensures.added ∙ c.make_room.ensures.clears.landed) (ap (λ (z : Kernel). z.memory.frames.meters) c.post.ensures ∙ ap (λ (z : Kernel). z.memory.frames.meters) c.set_in.ensures) (ap (λ (z : Kernel). z.memory.frames.landed) c.post.ensures ∙ ap (λ (z : Kernel). z.memory.frames.landed) c.set_in.ensures) (omega arith) c.lend_in_place.ensures.rises

pub returns-in-Err-clause-rises : goal.returns-in-Err-clause-rises
returns-in-Err-clause-rises g c = rises_between (2 ^ 21) c.args.kernel.now.memory.frames c.add_region-object.new.kernel.memory.frames c.lend_in_place.new.kernel.memory.frames c.remove_region.new.kernel.memory.frames (ap (λ (z : Kernel). z.memory.frames.meters) c.add_region-object.ensures.added ∙ c.make_room.ensures.clears.meters) (ap (λ (z : Kernel). z.memory.frames.landed) c.add_region-object.ensures.added ∙ c.make_room.ensures.clears.landed) (ap (λ (z : FrameTable). z.meters) c.remove_region.ensures.object.frames) (ap (λ (z : FrameTable). z.landed) c.remove_region.ensures.object.frames) (omega arith) c.lend_in_place.ensures.rises

pub returns-in-Ok-clause-copying : goal.returns-in-Ok-clause-copying
returns-in-Ok-clause-copying g c = weak_keeps c.args.kernel.now c.post.new.kernel c.args.call (reply.Id c.args.kernel.now.next) _ c.requires.class refl (fill_less c.args.kernel.now c.add_region-object.new.kernel c.args.call c.live_region-region.result c.requires.good (ap (λ (z : Kernel). z.config) c.add_region-object.ensures.added ∙ ap (λ (z : Kernel). z.config) c.make_room.ensures.clears.only) (ap (λ (x : Class). must_make (outline c.args.kernel.now) c.args.call.pid x c.args.call.len) (sym c.requires.class) ∙ c.requires.made)) (costs_before _ c.args.kernel.now.memory c.add_region-object.new.kernel.memory c.post.new.kernel.memory (ap (λ (z : Kernel). z.memory.frames.meters) c.add_region-object.ensures.added ∙ c.make_room.ensures.clears.meters) (costs_left _ c.add_region-object.new.kernel.memory c.lend_in_place.new.kernel.memory c.post.new.kernel.memory (ap (λ (z : Kernel). z.memory.frames.meters) c.post.ensures ∙ ap (λ (z : Kernel). z.memory.frames.meters) c.set_in.ensures) c.lend_in_place.ensures.copying))

pub returns-in-Err-clause-copying : goal.returns-in-Err-clause-copying
returns-in-Err-clause-copying g c = weak_keeps c.args.kernel.now c.remove_region.new.kernel c.args.call reply.StoreFault _ c.requires.class refl (fill_less c.args.kernel.now c.add_region-object.new.kernel c.args.call c.live_region-region.result c.requires.good (ap (λ (z : Kernel). z.config) c.add_region-object.ensures.added ∙ ap (λ (z : Kernel). z.config) c.make_room.ensures.clears.only) (ap (λ (x : Class). must_make (outline c.args.kernel.now) c.args.call.pid x c.args.call.len) (sym c.requires.class) ∙ c.requires.made)) (costs_before _ c.args.kernel.now.memory c.add_region-object.new.kernel.memory c.remove_region.new.kernel.memory (ap (λ (z : Kernel). z.memory.frames.meters) c.add_region-object.ensures.added ∙ c.make_room.ensures.clears.meters) (costs_left _ c.add_region-object.new.kernel.memory c.lend_in_place.new.kernel.memory c.remove_region.new.kernel.memory (ap (λ (z : FrameTable). z.meters) c.remove_region.ensures.object.frames) c.lend_in_place.ensures.copying))

pub returns-in-Ok-clause-gets : goal.returns-in-Ok-clause-gets
returns-in-Ok-clause-gets g c = got_weakly c.args.kernel.now c.post.new.kernel c.args.call c.add_region-object.new.kernel.config.page c.requires.class c.requires.good (ap (λ (z : Kernel). z.config.page) c.add_region-object.ensures.added ∙ ap (λ (z : Kernel). z.config.page) c.make_room.ensures.clears.only) (got_before _ c.args.kernel.now.memory.frames.meters c.add_region-object.new.kernel.memory.frames.meters c.post.new.kernel.memory.frames.meters (ap (λ (z : Kernel). z.memory.frames.meters) c.add_region-object.ensures.added ∙ c.make_room.ensures.clears.meters) (got_left _ c.add_region-object.new.kernel.memory.frames.meters c.lend_in_place.new.kernel.memory.frames.meters c.post.new.kernel.memory.frames.meters (ap (λ (z : Kernel). z.memory.frames.meters) c.post.ensures ∙ ap (λ (z : Kernel). z.memory.frames.meters) c.set_in.ensures) c.lend_in_place.ensures.gets))

pub returns-in-Err-clause-gets : goal.returns-in-Err-clause-gets
returns-in-Err-clause-gets g c = got_weakly c.args.kernel.now c.remove_region.new.kernel c.args.call c.add_region-object.new.kernel.config.page c.requires.class c.requires.good (ap (λ (z : Kernel). z.config.page) c.add_region-object.ensures.added ∙ ap (λ (z : Kernel). z.config.page) c.make_room.ensures.clears.only) (got_before _ c.args.kernel.now.memory.frames.meters c.add_region-object.new.kernel.memory.frames.meters c.remove_region.new.kernel.memory.frames.meters (ap (λ (z : Kernel). z.memory.frames.meters) c.add_region-object.ensures.added ∙ c.make_room.ensures.clears.meters) (got_left _ c.add_region-object.new.kernel.memory.frames.meters c.lend_in_place.new.kernel.memory.frames.meters c.remove_region.new.kernel.memory.frames.meters (ap (λ (z : FrameTable). z.meters) c.remove_region.ensures.object.frames) c.lend_in_place.ensures.gets))
