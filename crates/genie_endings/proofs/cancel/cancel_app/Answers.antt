use Rattle.std.proofs.Common.{subst, sym}
use Rattle.genie_base.specs.declared.event.Event.TheVariants.{Cancel}
use Rattle.genie_base.specs.declared.reply.Reply.TheVariants as reply
use Rattle.genie_endings.specs.Serving.{IsServed}
use Rattle.genie_endings.proofs.Applied.{app_served}
use Rattle.genie_endings.proofs.Phases.{cancel_pending}
use Rattle.genie_endings.proofs.cancel.cancel_app.Goals as goal

pub end_call-transfer-requires-clause-pending : goal.end_call-transfer-requires-clause-pending
end_call-transfer-requires-clause-pending c = cancel_pending c.args.kernel.now c.args.id c.requires.accepted

pub returns : goal.returns
returns c = subst (λ p. IsServed c.args.kernel.now (Cancel c.args.id) (record (c.end_call-transfer.new.kernel) { posted = p }) reply.Okay) (sym c.cancel-posted.ensures.others) (app_served c.ending_laws.ensures c.args.kernel.now c.end_call-transfer.new.kernel c.args.id c.end_call-transfer.result c.requires.good c.requires.accepted c.requires.app c.end_call-transfer.ensures)
