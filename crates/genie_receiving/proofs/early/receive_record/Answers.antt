use Rattle.std.proofs.Common.{◌∙◌, sym, subst, refl}
use Rattle.genie_base.specs.declared.reply.Reply.{Reply}
use Rattle.genie_demux.specs.declared.input.Input.{Input}
use Rattle.genie_device.specs.declared.steps.HeaderEnd.{HeaderEnd}
use Rattle.genie_device.specs.declared.steps.HeaderEnd.TheVariants.{More, Bad, Faulted}
use Rattle.std.specs.Prelude.{List}
use Rattle.genie_receiving.specs.Gathering.{GathersHeader}
use Rattle.genie_receiving.specs.Receiving.{Receives}
use Rattle.genie_receiving.proofs.Answering.{has_begun, may_land_met, may_move_begun, record_receives}
use Rattle.genie_receiving.proofs.EarlySteps.{dropped_receives, header_receives}
use Rattle.genie_receiving.proofs.early.receive_record.Goals as goal

pub receive_into-requires-clause-device : goal.receive_into-requires-clause-device
receive_into-requires-clause-device g c = may_move_begun c.args.kernel.now c.args.dev c.args.n c.gather-step.result.moved (g.H.Host.view c.args.host.now) (g.H.Host.view c.gather-step.new.host) c.gather-step.new.devices c.in-Whole.header c.requires.good c.requires.accepted c.requires.handles
    (subst (λ (e : HeaderEnd). GathersHeader c.args.dev c.args.n (g.H.Host.view c.args.host.now) (g.H.Host.view c.gather-step.new.host) c.args.kernel.now.devices c.gather-step.new.devices c.gather-step.result.moved e) c.in-Whole.is c.gather-step.ensures)

pub receive_into-requires-clause-plan : goal.receive_into-requires-clause-plan
receive_into-requires-clause-plan g c = (may_land_met c.receive_laws.ensures c.args.kernel.now c.args.dev c.in-Some.id c.in-Whole.header c.requires.good c.requires.outside (sym c.match_port.ensures.met ∙ c.in-Some.is)).0

pub receive_into-requires-clause-ready : goal.receive_into-requires-clause-ready
receive_into-requires-clause-ready g c = (may_land_met c.receive_laws.ensures c.args.kernel.now c.args.dev c.in-Some.id c.in-Whole.header c.requires.good c.requires.outside (sym c.match_port.ensures.met ∙ c.in-Some.is)).1

pub drop_record-requires : goal.drop_record-requires
drop_record-requires g c = has_begun c.args.kernel.now c.args.dev c.args.n c.gather-step.result.moved (g.H.Host.view c.args.host.now) (g.H.Host.view c.gather-step.new.host) c.gather-step.new.devices c.in-Whole.header
    (subst (λ (e : HeaderEnd). GathersHeader c.args.dev c.args.n (g.H.Host.view c.args.host.now) (g.H.Host.view c.gather-step.new.host) c.args.kernel.now.devices c.gather-step.new.devices c.gather-step.result.moved e) c.in-Whole.is c.gather-step.ensures)

pub returns-in-More : goal.returns-in-More
returns-in-More g c = subst (λ (r : Reply). Receives c.args.dev c.args.n (g.H.Host.view c.args.host.now) (g.H.Host.view c.gather-step.new.host) c.args.kernel.now (record (c.args.kernel.now) { devices = c.gather-step.new.devices }) r) (sym c.header_reply.ensures)
    (header_receives c.receive_laws.ensures.orderly c.args.kernel.now c.args.dev c.args.n (g.H.Host.view c.args.host.now) (g.H.Host.view c.gather-step.new.host) c.gather-step.new.devices c.gather-step.result.moved More c.requires.good c.requires.accepted c.requires.outside refl
    (subst (λ (e : HeaderEnd). GathersHeader c.args.dev c.args.n (g.H.Host.view c.args.host.now) (g.H.Host.view c.gather-step.new.host) c.args.kernel.now.devices c.gather-step.new.devices c.gather-step.result.moved e) c.in-More.is c.gather-step.ensures))

pub returns-in-Faulted : goal.returns-in-Faulted
returns-in-Faulted g c = header_receives c.receive_laws.ensures.orderly c.args.kernel.now c.args.dev c.args.n (g.H.Host.view c.args.host.now) (g.H.Host.view c.gather-step.new.host) c.gather-step.new.devices c.gather-step.result.moved Faulted c.requires.good c.requires.accepted c.requires.outside refl
    (subst (λ (e : HeaderEnd). GathersHeader c.args.dev c.args.n (g.H.Host.view c.args.host.now) (g.H.Host.view c.gather-step.new.host) c.args.kernel.now.devices c.gather-step.new.devices c.gather-step.result.moved e) c.in-Faulted.is c.gather-step.ensures)

pub returns-in-Bad : goal.returns-in-Bad
returns-in-Bad g c = header_receives c.receive_laws.ensures.orderly c.args.kernel.now c.args.dev c.args.n (g.H.Host.view c.args.host.now) (g.H.Host.view c.gather-step.new.host) c.gather-step.new.devices c.gather-step.result.moved Bad c.requires.good c.requires.accepted c.requires.outside refl
    (subst (λ (e : HeaderEnd). GathersHeader c.args.dev c.args.n (g.H.Host.view c.args.host.now) (g.H.Host.view c.gather-step.new.host) c.args.kernel.now.devices c.gather-step.new.devices c.gather-step.result.moved e) c.in-Bad.is c.gather-step.ensures)

pub returns-in-Some : goal.returns-in-Some
returns-in-Some g c = record_receives c.receive_laws.ensures c.args.kernel.now (record (c.args.kernel.now) { devices = c.gather-step.new.devices; posted = c.match_port.new.self }) c.receive_into.new.kernel c.args.dev c.args.n c.in-Some.id c.gather-step.result.moved c.in-Whole.header (g.H.Host.view c.args.host.now) (g.H.Host.view c.gather-step.new.host) (g.H.Host.view c.receive_into.new.host) c.receive_into.result c.requires.good c.requires.accepted c.requires.outside
    (subst (λ (e : HeaderEnd). GathersHeader c.args.dev c.args.n (g.H.Host.view c.args.host.now) (g.H.Host.view c.gather-step.new.host) c.args.kernel.now.devices c.gather-step.new.devices c.gather-step.result.moved e) c.in-Whole.is c.gather-step.ensures)
    refl c.in-Some.ensures.others (sym c.match_port.ensures.met ∙ c.in-Some.is) c.receive_into.ensures

pub returns-in-None : goal.returns-in-None
returns-in-None g c = subst (λ (ps : List Input). Receives c.args.dev c.args.n (g.H.Host.view c.args.host.now) (g.H.Host.view c.gather-step.new.host) c.args.kernel.now (record (c.args.kernel.now) { devices = c.drop_record.new.devices; posted = ps }) c.drop_record.result) (sym c.in-None.ensures.others)
    (dropped_receives c.receive_laws.ensures.orderly c.args.kernel.now c.args.dev c.args.n (g.H.Host.view c.args.host.now) (g.H.Host.view c.gather-step.new.host) c.gather-step.new.devices c.drop_record.new.devices c.gather-step.result.moved c.in-Whole.header c.drop_record.result c.requires.good c.requires.accepted c.requires.outside (sym c.match_port.ensures.met ∙ c.in-None.is)
    (subst (λ (e : HeaderEnd). GathersHeader c.args.dev c.args.n (g.H.Host.view c.args.host.now) (g.H.Host.view c.gather-step.new.host) c.args.kernel.now.devices c.gather-step.new.devices c.gather-step.result.moved e) c.in-Whole.is c.gather-step.ensures)
    c.drop_record.ensures)
