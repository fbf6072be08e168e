use Rattle.std.proofs.Common.{refl, sym, subst}
use Rattle.genie_base.specs.declared.reply.Reply.{Reply}
use Rattle.genie_device.specs.declared.steps.HeaderEnd.{HeaderEnd}
use Rattle.genie_device.specs.declared.steps.HeaderEnd.TheVariants.{More, Bad, Faulted}
use Rattle.genie_receiving.specs.Gathering.{GathersHeader}
use Rattle.genie_receiving.specs.Receiving.{Receives}
use Rattle.genie_pooling.proofs.Record.{begun_config, begun_filling, begun_moves, begun_ready, begun_room, begun_short, may_begin, may_gather, record_receives, short_receives}
use Rattle.genie_pooling.proofs.Rest.{may_deliver, page_fits}
use Rattle.genie_pooling.proofs.pooled.fill_record.Goals as goal

pub gather-step-requires-clause-between : goal.gather-step-requires-clause-between
gather-step-requires-clause-between g c = may_gather c.args.kernel.now c.args.dev c.args.n (g.H.Host.view c.args.host.now) c.requires.good c.requires.accepted c.requires.handles c.requires.outside

pub begin-requires : goal.begin-requires
begin-requires g c = may_begin c.args.kernel.now c.args.dev c.requires.good c.requires.outside

pub fill_payload-requires-clause-device : goal.fill_payload-requires-clause-device
fill_payload-requires-clause-device g c = begun_moves c.args.kernel.now c.args.dev c.args.n c.gather-step.result.moved (g.H.Host.view c.args.host.now) (g.H.Host.view c.gather-step.new.host) c.gather-step.new.devices c.in-Whole.header c.requires.good c.requires.accepted c.requires.handles
    (subst (λ (e : HeaderEnd). GathersHeader c.args.dev c.args.n (g.H.Host.view c.args.host.now) (g.H.Host.view c.gather-step.new.host) c.args.kernel.now.devices c.gather-step.new.devices c.gather-step.result.moved e) c.in-Whole.is c.gather-step.ensures)

pub fill_payload-requires-clause-config : goal.fill_payload-requires-clause-config
fill_payload-requires-clause-config g c = begun_config c.args.kernel.now c.args.dev c.requires.good c.requires.outside

pub fill_payload-requires-clause-page : goal.fill_payload-requires-clause-page
fill_payload-requires-clause-page g c = page_fits c.args.kernel.now c.requires.good

pub fill_payload-requires-clause-pool : goal.fill_payload-requires-clause-pool
fill_payload-requires-clause-pool g c = begun_filling c.args.kernel.now c.args.dev c.begin.new.pools c.requires.good c.requires.outside c.begin.ensures

pub fill_payload-requires-clause-ready : goal.fill_payload-requires-clause-ready
fill_payload-requires-clause-ready g c = begun_ready c.args.kernel.now c.args.dev c.begin.new.pools c.requires.good c.requires.outside c.begin.ensures

pub fill_payload-requires-clause-pends : goal.fill_payload-requires-clause-pends
fill_payload-requires-clause-pends g c = may_deliver c.receive_laws.ensures c.in-Whole.header c.args.kernel.now c.args.dev c.requires.good

pub fill_payload-requires-clause-room : goal.fill_payload-requires-clause-room
fill_payload-requires-clause-room g c = begun_room c.args.kernel.now c.args.dev c.args.n c.gather-step.result.moved c.args.kernel.now.memory.frames.landed c.requires.accepted c.requires.landed

pub fill_payload-requires-clause-short : goal.fill_payload-requires-clause-short
fill_payload-requires-clause-short g c = begun_short c.args.kernel.now c.args.dev c.args.n c.gather-step.result.moved c.requires.accepted c.gather-step.ensures.receives.takes.within

pub returns-in-More : goal.returns-in-More
returns-in-More g c = subst (λ (r : Reply). Receives c.args.dev c.args.n (g.H.Host.view c.args.host.now) (g.H.Host.view c.gather-step.new.host) c.args.kernel.now (record (c.args.kernel.now) { devices = c.gather-step.new.devices }) r) (sym c.header_reply.ensures)
    (short_receives c.receive_laws.ensures.orderly c.args.kernel.now c.args.dev c.args.n (g.H.Host.view c.args.host.now) (g.H.Host.view c.gather-step.new.host) c.gather-step.new.devices c.gather-step.result.moved More c.requires.good c.requires.accepted c.requires.outside refl
    (subst (λ (e : HeaderEnd). GathersHeader c.args.dev c.args.n (g.H.Host.view c.args.host.now) (g.H.Host.view c.gather-step.new.host) c.args.kernel.now.devices c.gather-step.new.devices c.gather-step.result.moved e) c.in-More.is c.gather-step.ensures))

pub returns-in-Faulted : goal.returns-in-Faulted
returns-in-Faulted g c = short_receives c.receive_laws.ensures.orderly c.args.kernel.now c.args.dev c.args.n (g.H.Host.view c.args.host.now) (g.H.Host.view c.gather-step.new.host) c.gather-step.new.devices c.gather-step.result.moved Faulted c.requires.good c.requires.accepted c.requires.outside refl
    (subst (λ (e : HeaderEnd). GathersHeader c.args.dev c.args.n (g.H.Host.view c.args.host.now) (g.H.Host.view c.gather-step.new.host) c.args.kernel.now.devices c.gather-step.new.devices c.gather-step.result.moved e) c.in-Faulted.is c.gather-step.ensures)

pub returns-in-Bad : goal.returns-in-Bad
returns-in-Bad g c = short_receives c.receive_laws.ensures.orderly c.args.kernel.now c.args.dev c.args.n (g.H.Host.view c.args.host.now) (g.H.Host.view c.gather-step.new.host) c.gather-step.new.devices c.gather-step.result.moved Bad c.requires.good c.requires.accepted c.requires.outside refl
    (subst (λ (e : HeaderEnd). GathersHeader c.args.dev c.args.n (g.H.Host.view c.args.host.now) (g.H.Host.view c.gather-step.new.host) c.args.kernel.now.devices c.gather-step.new.devices c.gather-step.result.moved e) c.in-Bad.is c.gather-step.ensures)

pub returns-in-Whole : goal.returns-in-Whole
returns-in-Whole g c = record_receives c.receive_laws.ensures c.args.kernel.now c.fill_payload.new.kernel c.gather-step.new.devices c.begin.new.pools c.args.dev c.args.n c.gather-step.result.moved c.in-Whole.header (g.H.Host.view c.args.host.now) (g.H.Host.view c.gather-step.new.host) (g.H.Host.view c.fill_payload.new.host) c.fill_payload.result c.requires.good c.requires.accepted c.requires.outside
    (subst (λ (e : HeaderEnd). GathersHeader c.args.dev c.args.n (g.H.Host.view c.args.host.now) (g.H.Host.view c.gather-step.new.host) c.args.kernel.now.devices c.gather-step.new.devices c.gather-step.result.moved e) c.in-Whole.is c.gather-step.ensures)
    c.begin.ensures c.fill_payload.ensures
