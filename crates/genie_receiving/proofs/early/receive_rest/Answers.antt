use Rattle.std.proofs.Common.{◌∙◌, sym}
use Rattle.genie_receiving.proofs.Answering.{may_land_within, no_receiver, rest_receives}
use Rattle.genie_receiving.proofs.EarlySteps.{skipping_receives}
use Rattle.genie_receiving.proofs.early.receive_rest.Goals as goal

pub receive_into-requires-clause-plan : goal.receive_into-requires-clause-plan
receive_into-requires-clause-plan g c = (may_land_within c.receive_laws.ensures c.args.kernel.now c.args.dev c.args.len c.in-Some.id c.requires.good c.requires.within (sym c.receiving.ensures ∙ c.in-Some.is)).0

pub receive_into-requires-clause-ready : goal.receive_into-requires-clause-ready
receive_into-requires-clause-ready g c = (may_land_within c.receive_laws.ensures c.args.kernel.now c.args.dev c.args.len c.in-Some.id c.requires.good c.requires.within (sym c.receiving.ensures ∙ c.in-Some.is)).1

pub returns-in-Some : goal.returns-in-Some
returns-in-Some g c = rest_receives c.receive_laws.ensures c.args.kernel.now c.receive_into.new.kernel c.args.dev c.args.n c.args.len c.in-Some.id (g.H.Host.view c.args.host.now) (g.H.Host.view c.receive_into.new.host) c.receive_into.result c.requires.good c.requires.accepted c.requires.within (sym c.receiving.ensures ∙ c.in-Some.is) c.receive_into.ensures

pub returns-in-None : goal.returns-in-None
returns-in-None g c = skipping_receives c.receive_laws.ensures.orderly c.args.kernel.now c.args.dev c.args.n c.args.len (g.H.Host.view c.args.host.now) (g.H.Host.view c.skip_payload.new.host) c.skip_payload.new.devices c.skip_payload.result c.requires.good c.requires.accepted c.requires.within (no_receiver c.args.kernel.now c.args.dev (sym c.receiving.ensures ∙ c.in-None.is)) c.skip_payload.ensures
