use Rattle.std.proofs.Common.{subst}
use Rattle.genie_base.specs.declared.event.Event.TheVariants.{Finish}
use Rattle.genie_endings.specs.Serving.{IsServed}
use Rattle.genie_endings.proofs.Sent.{output_served, sent_reply}
use Rattle.genie_endings.proofs.output.finish_output.Goals as goal

pub returns-in-Some : goal.returns-in-Some
returns-in-Some c = subst (λ o. IsServed c.args.kernel.now (Finish c.args.id) c.end_call-transfer.new.kernel (sent_reply o c.end_call-transfer.result.len)) c.in-Some.is (output_served c.ending_laws.ensures c.args.kernel.now c.end_call-transfer.new.kernel c.args.id c.end_call-transfer.result c.requires.good c.requires.accepted c.requires.output c.end_call-transfer.ensures)

pub returns-in-None : goal.returns-in-None
returns-in-None c = subst (λ o. IsServed c.args.kernel.now (Finish c.args.id) c.end_call-transfer.new.kernel (sent_reply o c.end_call-transfer.result.len)) c.in-None.is (output_served c.ending_laws.ensures c.args.kernel.now c.end_call-transfer.new.kernel c.args.id c.end_call-transfer.result c.requires.good c.requires.accepted c.requires.output c.end_call-transfer.ensures)
