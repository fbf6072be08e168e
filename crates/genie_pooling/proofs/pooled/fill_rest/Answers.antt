use Rattle.genie_pooling.proofs.Rest.{fits_budget, fits_room, has_config, has_filling_pool, may_deliver, may_fill, may_move, page_fits, rest_receives}
use Rattle.genie_pooling.proofs.pooled.fill_rest.Goals as goal

pub fill_payload-requires-clause-device : goal.fill_payload-requires-clause-device
fill_payload-requires-clause-device g c = may_move c.args.header.now c.args.kernel.now c.args.dev c.args.n (g.H.Host.view c.args.host.now) c.requires.good c.requires.accepted c.requires.handles c.requires.within

pub fill_payload-requires-clause-config : goal.fill_payload-requires-clause-config
fill_payload-requires-clause-config g c = has_config c.args.header.now c.args.kernel.now c.args.dev c.requires.good c.requires.within

pub fill_payload-requires-clause-page : goal.fill_payload-requires-clause-page
fill_payload-requires-clause-page g c = page_fits c.args.kernel.now c.requires.good

pub fill_payload-requires-clause-pool : goal.fill_payload-requires-clause-pool
fill_payload-requires-clause-pool g c = has_filling_pool c.args.header.now c.args.kernel.now c.args.dev c.requires.good c.requires.within

pub fill_payload-requires-clause-ready : goal.fill_payload-requires-clause-ready
fill_payload-requires-clause-ready g c = may_fill c.args.header.now c.args.kernel.now c.args.dev c.requires.good c.requires.within

pub fill_payload-requires-clause-pends : goal.fill_payload-requires-clause-pends
fill_payload-requires-clause-pends g c = may_deliver c.receive_laws.ensures c.args.header.now c.args.kernel.now c.args.dev c.requires.good

pub fill_payload-requires-clause-room : goal.fill_payload-requires-clause-room
fill_payload-requires-clause-room g c = fits_room c.args.kernel.now c.args.dev c.args.n c.args.kernel.now.memory.frames.landed c.requires.accepted c.requires.landed

pub fill_payload-requires-clause-short : goal.fill_payload-requires-clause-short
fill_payload-requires-clause-short g c = fits_budget c.args.kernel.now c.args.dev c.args.n c.requires.accepted

pub returns : goal.returns
returns g c = rest_receives c.receive_laws.ensures c.args.header.now c.args.kernel.now c.fill_payload.new.kernel c.args.dev c.args.n (g.H.Host.view c.args.host.now) (g.H.Host.view c.fill_payload.new.host) c.fill_payload.result c.requires.good c.requires.accepted c.requires.within c.fill_payload.ensures
