use Rattle.std.proofs.Common.{refl, subst, sym, ◌∙◌}
use Rattle.genie_base.specs.declared.event.Event.TheVariants.{Cancel}
use Rattle.genie_base.specs.declared.region.RegionState.TheVariants.{Held}
use Rattle.genie_base.specs.declared.reply.Reply.TheVariants as reply
use Rattle.genie_base.specs.declared.semantics.Class.TheVariants.{Move}
use Rattle.genie_changes.specs.Removal.{RemovesRegion}
use Rattle.genie_changes.specs.Settled.{IsSettled}
use Rattle.genie_endings.specs.Serving.{IsServed}
use Rattle.genie_endings.proofs.GivenUp.{may_there, mid_is, none_served, settled}
use Rattle.genie_endings.proofs.Phases.{cancel_pending}
use Rattle.genie_endings.proofs.Removed.{removed_served}
use Rattle.genie_endings.proofs.cancel.cancel_move.Goals as goal

pub end_call-transfer-requires-clause-pending : goal.end_call-transfer-requires-clause-pending
end_call-transfer-requires-clause-pending c = cancel_pending c.args.kernel.now c.args.id c.requires.accepted

pub remove_region-requires-clause-settled : goal.remove_region-requires-clause-settled
remove_region-requires-clause-settled c = subst (λ q. IsSettled (record (c.end_call-transfer.new.kernel) { posted = q })) (sym c.cancel-posted.ensures.others) (subst IsSettled (sym (mid_is c.ending_laws.ensures c.args.kernel.now c.end_call-transfer.new.kernel c.args.id c.end_call-transfer.result Move Held refl c.requires.good c.requires.accepted c.requires.class c.end_call-transfer.ensures)) (settled c.ending_laws.ensures c.args.kernel.now c.end_call-transfer.new.kernel c.args.id c.end_call-transfer.result Move Held refl c.requires.good c.requires.accepted c.requires.class c.end_call-transfer.ensures))

pub remove_region-requires-clause-there : goal.remove_region-requires-clause-there
remove_region-requires-clause-there c = may_there c.ending_laws.ensures c.args.kernel.now c.end_call-transfer.new.kernel c.args.id c.end_call-transfer.result Move Held refl c.requires.good c.requires.accepted c.requires.class c.end_call-transfer.ensures c.in-Some.placed (sym c.named_region.ensures ∙ c.in-Some.is)

pub returns-in-Some : goal.returns-in-Some
returns-in-Some c =
    let mid = c.end_call-transfer.new.kernel in
    removed_served c.ending_laws.ensures c.removal_laws.ensures c.args.kernel.now mid c.remove_region.new.kernel c.args.id c.end_call-transfer.result c.requires.good c.requires.accepted c.requires.class c.end_call-transfer.ensures c.in-Some.placed (sym c.named_region.ensures ∙ c.in-Some.is)
    (subst (λ q. RemovesRegion c.in-Some.placed.pid c.in-Some.placed.region (record mid { posted = q }) c.remove_region.new.kernel) c.cancel-posted.ensures.others c.remove_region.ensures)

pub returns-in-None : goal.returns-in-None
returns-in-None c = subst (λ q. IsServed c.args.kernel.now (Cancel c.args.id) (record (c.end_call-transfer.new.kernel) { posted = q }) reply.Okay) (sym c.cancel-posted.ensures.others) (none_served c.ending_laws.ensures c.args.kernel.now c.end_call-transfer.new.kernel c.args.id c.end_call-transfer.result Move Held refl c.requires.good c.requires.accepted c.requires.class c.end_call-transfer.ensures (sym c.named_region.ensures ∙ c.in-None.is))
