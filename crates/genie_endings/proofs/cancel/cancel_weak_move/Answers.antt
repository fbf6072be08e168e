use Rattle.std.proofs.Common.{[], ◌∷◌, ◌++◌, refl, subst, sym, ap, ◌∙◌, get_or}
use Rattle.genie_base.specs.declared.event.Event.TheVariants.{Cancel}
use Rattle.genie_base.specs.declared.region.RegionState.TheVariants.{In, Out}
use Rattle.genie_base.specs.declared.reply.Reply.TheVariants as reply
use Rattle.genie_base.specs.declared.semantics.Class.TheVariants.{WeakMove}
use Rattle.genie_space.specs.Spaces.{regions_of}
use Rattle.genie_changes.specs.Turned.{turned}
use Rattle.genie_endings.specs.Serving.{IsServed}
use Rattle.genie_endings.proofs.GivenUp.{may_there, none_served}
use Rattle.genie_endings.proofs.MovedOut.{may_room, may_list, moved_served}
use Rattle.genie_endings.proofs.Phases.{cancel_pending}
use Rattle.genie_endings.proofs.cancel.cancel_weak_move.Goals as goal

pub end_call-transfer-requires-clause-pending : goal.end_call-transfer-requires-clause-pending
end_call-transfer-requires-clause-pending c = cancel_pending c.args.kernel.now c.args.id c.requires.accepted

pub move_out-requires-clause-there : goal.move_out-requires-clause-there
move_out-requires-clause-there c = may_there c.ending_laws.ensures c.args.kernel.now c.end_call-transfer.new.kernel c.args.id c.end_call-transfer.result WeakMove In refl c.requires.good c.requires.accepted c.requires.class c.end_call-transfer.ensures c.in-Some.placed (sym c.named_region.ensures ∙ c.in-Some.is)

pub move_out-requires-clause-room : goal.move_out-requires-clause-room
move_out-requires-clause-room c = may_room c.ending_laws.ensures c.args.kernel.now c.end_call-transfer.new.kernel c.args.id c.end_call-transfer.result c.requires.good c.requires.accepted c.requires.class c.end_call-transfer.ensures c.in-Some.placed (sym c.named_region.ensures ∙ c.in-Some.is) c.queues_suffice.ensures

pub move_out-requires-clause-new : goal.move_out-requires-clause-new
move_out-requires-clause-new c = may_list c.ending_laws.ensures c.args.kernel.now c.end_call-transfer.new.kernel c.args.id c.end_call-transfer.result c.requires.good c.requires.accepted c.requires.class c.end_call-transfer.ensures c.in-Some.placed (sym c.named_region.ensures ∙ c.in-Some.is)

pub returns-in-Some : goal.returns-in-Some
returns-in-Some c =
    let mid = c.end_call-transfer.new.kernel in
    let p = c.in-Some.placed.pid in
    let r = c.in-Some.placed.region in
    moved_served c.ending_laws.ensures c.args.kernel.now mid c.args.id c.end_call-transfer.result c.requires.good c.requires.accepted c.requires.class c.end_call-transfer.ensures c.in-Some.placed (sym c.named_region.ensures ∙ c.in-Some.is) c.move_out.new.kernel
    (c.move_out.ensures ∙ ap (λ q. turned (record mid { posted = q }) p r.id.0 Out (regions_of p mid.spaces) (get_or mid.queues p [] ++ r.id.0 ∷ [])) c.cancel-posted.ensures.others)

pub returns-in-None : goal.returns-in-None
returns-in-None c = subst (λ q. IsServed c.args.kernel.now (Cancel c.args.id) (record (c.end_call-transfer.new.kernel) { posted = q }) reply.Okay) (sym c.cancel-posted.ensures.others) (none_served c.ending_laws.ensures c.args.kernel.now c.end_call-transfer.new.kernel c.args.id c.end_call-transfer.result WeakMove In refl c.requires.good c.requires.accepted c.requires.class c.end_call-transfer.ensures (sym c.named_region.ensures ∙ c.in-None.is))
