use Rattle.std.proofs.Common.{refl, sym, subst}
use Rattle.genie_base.specs.declared.reply.Reply.{Reply}
use Rattle.genie_device.specs.declared.steps.HeaderEnd.{HeaderEnd}
use Rattle.genie_device.specs.declared.steps.HeaderEnd.TheVariants.{More, Bad, Faulted}
use Rattle.genie_gathering.specs.Gathering.{GathersHeader}
use Rattle.genie_gathering.specs.Receiving.{Receives}
use Rattle.genie_gathering.proofs.Outboards.{are_pending, may_move_begun, record_receives, short_receives}
use Rattle.genie_gathering.proofs.outboard.gather_record.Goals as goal

pub gather_payload-requires-clause-device : goal.gather_payload-requires-clause-device
gather_payload-requires-clause-device g c = may_move_begun c.args.kernel.now c.args.dev c.args.n c.gather-step.result.moved (g.H.Host.view c.args.host.now) (g.H.Host.view c.gather-step.new.host) c.gather-step.new.devices c.in-Whole.header c.requires.good c.requires.accepted c.requires.handles c.requires.outside
    (subst (λ (e : HeaderEnd). GathersHeader c.args.dev c.args.n (g.H.Host.view c.args.host.now) (g.H.Host.view c.gather-step.new.host) c.args.kernel.now.devices c.gather-step.new.devices c.gather-step.result.moved e) c.in-Whole.is c.gather-step.ensures)

pub gather_payload-requires-clause-pends : goal.gather_payload-requires-clause-pends
gather_payload-requires-clause-pends g c = are_pending c.gathering_laws.ensures c.args.kernel.now c.args.dev c.in-Whole.header.port c.in-Whole.header.flow c.requires.good

pub returns-in-More : goal.returns-in-More
returns-in-More g c = subst (λ (r : Reply). Receives c.args.dev c.args.n (g.H.Host.view c.args.host.now) (g.H.Host.view c.gather-step.new.host) c.args.kernel.now (record (c.args.kernel.now) { devices = c.gather-step.new.devices }) r) (sym c.header_reply.ensures)
    (short_receives c.gathering_laws.ensures.orderly c.args.kernel.now c.args.dev c.args.n (g.H.Host.view c.args.host.now) (g.H.Host.view c.gather-step.new.host) c.gather-step.new.devices c.gather-step.result.moved More c.requires.good c.requires.accepted c.requires.outside refl
    (subst (λ (e : HeaderEnd). GathersHeader c.args.dev c.args.n (g.H.Host.view c.args.host.now) (g.H.Host.view c.gather-step.new.host) c.args.kernel.now.devices c.gather-step.new.devices c.gather-step.result.moved e) c.in-More.is c.gather-step.ensures))

pub returns-in-Faulted : goal.returns-in-Faulted
returns-in-Faulted g c = short_receives c.gathering_laws.ensures.orderly c.args.kernel.now c.args.dev c.args.n (g.H.Host.view c.args.host.now) (g.H.Host.view c.gather-step.new.host) c.gather-step.new.devices c.gather-step.result.moved Faulted c.requires.good c.requires.accepted c.requires.outside refl
    (subst (λ (e : HeaderEnd). GathersHeader c.args.dev c.args.n (g.H.Host.view c.args.host.now) (g.H.Host.view c.gather-step.new.host) c.args.kernel.now.devices c.gather-step.new.devices c.gather-step.result.moved e) c.in-Faulted.is c.gather-step.ensures)

pub returns-in-Bad : goal.returns-in-Bad
returns-in-Bad g c = short_receives c.gathering_laws.ensures.orderly c.args.kernel.now c.args.dev c.args.n (g.H.Host.view c.args.host.now) (g.H.Host.view c.gather-step.new.host) c.gather-step.new.devices c.gather-step.result.moved Bad c.requires.good c.requires.accepted c.requires.outside refl
    (subst (λ (e : HeaderEnd). GathersHeader c.args.dev c.args.n (g.H.Host.view c.args.host.now) (g.H.Host.view c.gather-step.new.host) c.args.kernel.now.devices c.gather-step.new.devices c.gather-step.result.moved e) c.in-Bad.is c.gather-step.ensures)

pub returns-in-Whole : goal.returns-in-Whole
returns-in-Whole g c = record_receives c.gathering_laws.ensures c.args.kernel.now (record (c.args.kernel.now) { devices = c.gather-step.new.devices }) c.gather_payload.new.kernel c.args.dev c.args.n c.gather-step.result.moved c.in-Whole.header (g.H.Host.view c.args.host.now) (g.H.Host.view c.gather-step.new.host) (g.H.Host.view c.gather_payload.new.host) c.gather_payload.result c.requires.good c.requires.accepted c.requires.outside
    (subst (λ (e : HeaderEnd). GathersHeader c.args.dev c.args.n (g.H.Host.view c.args.host.now) (g.H.Host.view c.gather-step.new.host) c.args.kernel.now.devices c.gather-step.new.devices c.gather-step.result.moved e) c.in-Whole.is c.gather-step.ensures)
    refl c.gather_payload.ensures
