use Rattle.genie_gathering.proofs.Outboards.{are_pending, fits_budget, may_move, within_receives}
use Rattle.genie_gathering.proofs.outboard.gather_rest.Goals as goal

pub gather_payload-requires-clause-device : goal.gather_payload-requires-clause-device
gather_payload-requires-clause-device g c = may_move c.args.kernel.now c.args.dev c.args.n c.args.header.now (g.H.Host.view c.args.host.now) c.requires.good c.requires.accepted c.requires.handles c.requires.within

pub gather_payload-requires-clause-short : goal.gather_payload-requires-clause-short
gather_payload-requires-clause-short g c = fits_budget c.args.kernel.now c.args.dev c.args.n c.requires.accepted

pub gather_payload-requires-clause-pends : goal.gather_payload-requires-clause-pends
gather_payload-requires-clause-pends g c = are_pending c.gathering_laws.ensures c.args.kernel.now c.args.dev c.args.header.now.port c.args.header.now.flow c.requires.good

pub returns : goal.returns
returns g c = within_receives c.gathering_laws.ensures c.args.kernel.now c.gather_payload.new.kernel c.args.dev c.args.n c.args.header.now (g.H.Host.view c.args.host.now) (g.H.Host.view c.gather_payload.new.host) c.gather_payload.result c.requires.good c.requires.accepted c.requires.within c.gather_payload.ensures
