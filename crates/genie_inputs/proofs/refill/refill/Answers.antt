use Rattle.genie_inputs.proofs.Getting.{got_left, got_weakly}
use Rattle.std.proofs.Common.{◌≡◌, ◌∙◌, ℕ, List, [], true, get_or, sym, ap, subst, arith, refl, ◌^◌}
use Rattle.std.specs.Prelude.{None, is_some, not}
use Rattle.genie_hiding.specs.Queues.{is_in}
use Rattle.genie_region.specs.Layouts.{region_of}
use Rattle.genie_space.specs.Spaces.{AddressSpaces, is_alive, regions_of}
use Rattle.genie_kernel.specs.declared.kernel.Kernel.{Kernel}
use Rattle.genie_inputs.specs.Posting.{with_input}
use Rattle.genie_inputs.proofs.Accepted.{may_input}
use Rattle.genie_inputs.proofs.Answered.{fails}
use Rattle.genie_inputs.proofs.Readied.{ready_moved}
use Rattle.genie_inputs.proofs.Refilling.{process_low, refill_answers, refill_can_post, reused_found, reused_listed, reused_owned, reused_pages, weak_fits, weak_room, weak_within}
use Rattle.genie_inputs.proofs.Rising.{rises_between}
use Rattle.genie_inputs.proofs.refill.refill.Goals as goal
use Rattle.genie_inputs.proofs.Costing.{costs_left, refill_less, weak_keeps}
use Rattle.genie_base.specs.declared.reply.Reply.TheVariants as reply

pub lend_in_place-requires-clause-owned : goal.lend_in_place-requires-clause-owned
lend_in_place-requires-clause-owned g c = reused_owned c.args.kernel.now c.args.call c.args.region c.requires.reusable

pub lend_in_place-requires-clause-fits : goal.lend_in_place-requires-clause-fits
lend_in_place-requires-clause-fits g c = weak_fits c.args.kernel.now c.args.call c.requires.good c.requires.accepted

pub lend_in_place-requires-clause-within : goal.lend_in_place-requires-clause-within
lend_in_place-requires-clause-within g c = weak_within c.args.kernel.now c.args.call c.args.region c.requires.good (reused_owned c.args.kernel.now c.args.call c.args.region c.requires.reusable) (reused_pages c.args.kernel.now c.args.call c.args.region c.requires.reusable)

pub lend_in_place-requires-clause-most : goal.lend_in_place-requires-clause-most
lend_in_place-requires-clause-most g c = (weak_room c.input_laws.ensures.room c.args.kernel.now c.args.call c.requires.good c.requires.class c.requires.accepted).0

pub lend_in_place-requires-clause-frames : goal.lend_in_place-requires-clause-frames
lend_in_place-requires-clause-frames g c = (weak_room c.input_laws.ensures.room c.args.kernel.now c.args.call c.requires.good c.requires.class c.requires.accepted).1

pub move_in-requires-clause-number : goal.move_in-requires-clause-number
move_in-requires-clause-number g c = process_low c.args.kernel.now c.args.call.pid c.requires.good (may_input c.args.kernel.now c.args.call None c.requires.good c.requires.accepted).alive

pub move_in-requires-clause-alive : goal.move_in-requires-clause-alive
move_in-requires-clause-alive g c = subst (λ (s : AddressSpaces). is_alive c.args.call.pid s ≡ true) (sym (ap (λ (k : Kernel). k.spaces) c.in-Ok.ensures.lends.only)) (may_input c.args.kernel.now c.args.call None c.requires.good c.requires.accepted).alive

pub move_in-requires-clause-there : goal.move_in-requires-clause-there
move_in-requires-clause-there g c = subst (λ (s : AddressSpaces). is_some (region_of c.args.region.id (regions_of c.args.call.pid s)) ≡ true) (sym (ap (λ (k : Kernel). k.spaces) c.in-Ok.ensures.lends.only)) (reused_found c.args.kernel.now c.args.call c.args.region c.requires.reusable)

pub move_in-requires-clause-listed : goal.move_in-requires-clause-listed
move_in-requires-clause-listed g c = subst (λ (queues : List (List ℕ)). is_in c.args.region.id.0 (get_or queues c.args.call.pid []) ≡ true) (sym (ap (λ (k : Kernel). k.queues) c.in-Ok.ensures.lends.only)) (reused_listed c.args.kernel.now c.args.call c.args.region c.requires.reusable)

pub post-requires-clause-room : goal.post-requires-clause-room
post-requires-clause-room g c = refill_can_post c.input_laws.ensures c.args.kernel.now c.lend_in_place.new.kernel c.move_in.new.kernel c.args.call c.args.region _ c.in-Ok.loans (g.S.Store.view c.args.store.now) (g.S.Store.view c.lend_in_place.new.store) c.requires.good c.requires.accepted c.in-Ok.ensures.lends c.move_in.ensures c.transfer.result (ap (λ t. t.id.0) c.transfer.ensures)

pub returns-in-Ok-clause-answered : goal.returns-in-Ok-clause-answered
returns-in-Ok-clause-answered g c = refill_answers c.wires_show_what_was_seen.ensures.on c.input_laws.ensures c.region_laws.ensures c.args.kernel.now c.lend_in_place.new.kernel c.move_in.new.kernel c.post.new.kernel c.args.call c.args.region _ c.in-Ok.loans (g.S.Store.view c.args.store.now) (g.S.Store.view c.lend_in_place.new.store) c.requires.good c.requires.class (ap not c.emulated-basic.ensures) c.requires.accepted c.requires.reusable c.in-Ok.ensures.lends c.move_in.ensures (c.post.ensures ∙ ap (with_input c.move_in.new.kernel) c.transfer.ensures)

pub returns-in-Err-clause-answered : goal.returns-in-Err-clause-answered
returns-in-Err-clause-answered g c = fails c.input_laws.ensures c.args.kernel.now c.lend_in_place.new.kernel c.args.call None (g.S.Store.view c.args.store.now) (g.S.Store.view c.lend_in_place.new.store) c.requires.accepted (ready_moved c.args.kernel.now c.lend_in_place.new.kernel (g.S.Store.view c.args.store.now) (g.S.Store.view c.lend_in_place.new.store) c.in-Err.ensures.moved)

pub returns-in-Ok-clause-rises : goal.returns-in-Ok-clause-rises
returns-in-Ok-clause-rises g c = rises_between (2 ^ 21) c.args.kernel.now.memory.frames c.args.kernel.now.memory.frames c.lend_in_place.new.kernel.memory.frames c.post.new.kernel.memory.frames refl refl (ap (λ (z : Kernel). z.memory.frames.meters) c.post.ensures ∙ ap (λ (z : Kernel). z.memory.frames.meters) c.move_in.ensures) (ap (λ (z : Kernel). z.memory.frames.landed) c.post.ensures ∙ ap (λ (z : Kernel). z.memory.frames.landed) c.move_in.ensures) (omega arith) c.lend_in_place.ensures.rises

pub returns-in-Err-clause-rises : goal.returns-in-Err-clause-rises
returns-in-Err-clause-rises g c = rises_between (2 ^ 21) c.args.kernel.now.memory.frames c.args.kernel.now.memory.frames c.lend_in_place.new.kernel.memory.frames c.lend_in_place.new.kernel.memory.frames refl refl refl refl (omega arith) c.lend_in_place.ensures.rises

pub returns-in-Ok-clause-copying : goal.returns-in-Ok-clause-copying
returns-in-Ok-clause-copying g c = weak_keeps c.args.kernel.now c.post.new.kernel c.args.call (reply.Id c.args.kernel.now.next) _ c.requires.class refl (refill_less c.args.kernel.now c.args.call c.args.region c.requires.good (may_input c.args.kernel.now c.args.call None c.requires.good c.requires.accepted).alive c.requires.reusable) (costs_left _ c.args.kernel.now.memory c.lend_in_place.new.kernel.memory c.post.new.kernel.memory (ap (λ (z : Kernel). z.memory.frames.meters) c.post.ensures ∙ ap (λ (z : Kernel). z.memory.frames.meters) c.move_in.ensures) c.lend_in_place.ensures.copying)

pub returns-in-Err-clause-copying : goal.returns-in-Err-clause-copying
returns-in-Err-clause-copying g c = weak_keeps c.args.kernel.now c.lend_in_place.new.kernel c.args.call reply.StoreFault _ c.requires.class refl (refill_less c.args.kernel.now c.args.call c.args.region c.requires.good (may_input c.args.kernel.now c.args.call None c.requires.good c.requires.accepted).alive c.requires.reusable) c.lend_in_place.ensures.copying

pub returns-in-Ok-clause-gets : goal.returns-in-Ok-clause-gets
returns-in-Ok-clause-gets g c = got_weakly c.args.kernel.now c.post.new.kernel c.args.call c.args.kernel.now.config.page c.requires.class c.requires.good refl (got_left _ c.args.kernel.now.memory.frames.meters c.lend_in_place.new.kernel.memory.frames.meters c.post.new.kernel.memory.frames.meters (ap (λ (z : Kernel). z.memory.frames.meters) c.post.ensures ∙ ap (λ (z : Kernel). z.memory.frames.meters) c.move_in.ensures) c.lend_in_place.ensures.gets)

pub returns-in-Err-clause-gets : goal.returns-in-Err-clause-gets
returns-in-Err-clause-gets g c = got_weakly c.args.kernel.now c.lend_in_place.new.kernel c.args.call c.args.kernel.now.config.page c.requires.class c.requires.good refl c.lend_in_place.ensures.gets
