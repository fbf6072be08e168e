use Rattle.genie_model.specs.Tables.{entry}
use Rattle.genie_gathering.proofs.Accepted.{named}
use Rattle.genie_gathering.proofs.Outboards.{bad_received, busy_received, is_present, outboard_outside, outboard_within}
use Rattle.genie_gathering.proofs.Telling.{handles_stay, step_filled, step_told}
use Rattle.genie_gathering.proofs.outboard.recv_outboard.Goals as goal

pub is_bad-requires : goal.is_bad-requires
is_bad-requires g c = is_present (entry c.args.kernel.now.devices c.args.dev) c.requires.outboard

pub present-requires : goal.present-requires
present-requires g c = is_present (entry c.args.kernel.now.devices c.args.dev) c.requires.outboard

pub is_full-requires : goal.is_full-requires
is_full-requires g c = is_present (entry c.args.kernel.now.devices c.args.dev) c.requires.outboard

pub gather_rest-requires-clause-within : goal.gather_rest-requires-clause-within
gather_rest-requires-clause-within g c = outboard_within (entry c.args.kernel.now.devices c.args.dev) c.in-Some.header c.present.result c.is_bad.result c.requires.outboard c.is_bad.ensures c.if-is_bad.false c.present.ensures c.in-Some.is

pub gather_record-requires-clause-outside : goal.gather_record-requires-clause-outside
gather_record-requires-clause-outside g c = outboard_outside (entry c.args.kernel.now.devices c.args.dev) c.present.result c.is_bad.result c.is_full.result c.requires.outboard c.is_bad.ensures c.if-is_bad.false c.present.ensures c.in-None.is c.is_full.ensures c.if-is_full.false

pub returns-then-is_bad-clause-kept : goal.returns-then-is_bad-clause-kept
returns-then-is_bad-clause-kept g c = (bad_received c.args.kernel.now c.args.dev c.args.budget (g.H.Host.view c.args.host.now) c.is_bad.result c.requires.good c.requires.outboard c.is_bad.ensures c.if-is_bad.true).kept

pub returns-then-is_bad-clause-step : goal.returns-then-is_bad-clause-step
returns-then-is_bad-clause-step g c = step_told c.args.dev c.args.budget (g.H.Host.view c.args.host.now) (g.H.Host.view c.args.host.now) c.args.kernel.now c.args.kernel.now _ c.requires.accepted c.requires.handles (named c.args.kernel.now c.args.dev c.args.budget c.requires.accepted)
    (bad_received c.args.kernel.now c.args.dev c.args.budget (g.H.Host.view c.args.host.now) c.is_bad.result c.requires.good c.requires.outboard c.is_bad.ensures c.if-is_bad.true)

pub returns-then-is_bad-clause-filled : goal.returns-then-is_bad-clause-filled
returns-then-is_bad-clause-filled g c = step_filled c.args.dev c.args.budget (g.H.Host.view c.args.host.now) (g.H.Host.view c.args.host.now) c.args.kernel.now c.args.kernel.now _ c.requires.accepted c.requires.handles (named c.args.kernel.now c.args.dev c.args.budget c.requires.accepted)
    (bad_received c.args.kernel.now c.args.dev c.args.budget (g.H.Host.view c.args.host.now) c.is_bad.result c.requires.good c.requires.outboard c.is_bad.ensures c.if-is_bad.true)

pub returns-then-is_full-clause-kept : goal.returns-then-is_full-clause-kept
returns-then-is_full-clause-kept g c = (busy_received c.args.kernel.now c.args.dev c.args.budget (g.H.Host.view c.args.host.now) c.present.result c.is_bad.result c.is_full.result c.requires.good c.requires.outboard c.is_bad.ensures c.if-is_bad.false c.present.ensures c.in-None.is c.is_full.ensures c.if-is_full.true).kept

pub returns-then-is_full-clause-step : goal.returns-then-is_full-clause-step
returns-then-is_full-clause-step g c = step_told c.args.dev c.args.budget (g.H.Host.view c.args.host.now) (g.H.Host.view c.args.host.now) c.args.kernel.now c.args.kernel.now _ c.requires.accepted c.requires.handles (named c.args.kernel.now c.args.dev c.args.budget c.requires.accepted)
    (busy_received c.args.kernel.now c.args.dev c.args.budget (g.H.Host.view c.args.host.now) c.present.result c.is_bad.result c.is_full.result c.requires.good c.requires.outboard c.is_bad.ensures c.if-is_bad.false c.present.ensures c.in-None.is c.is_full.ensures c.if-is_full.true)

pub returns-then-is_full-clause-filled : goal.returns-then-is_full-clause-filled
returns-then-is_full-clause-filled g c = step_filled c.args.dev c.args.budget (g.H.Host.view c.args.host.now) (g.H.Host.view c.args.host.now) c.args.kernel.now c.args.kernel.now _ c.requires.accepted c.requires.handles (named c.args.kernel.now c.args.dev c.args.budget c.requires.accepted)
    (busy_received c.args.kernel.now c.args.dev c.args.budget (g.H.Host.view c.args.host.now) c.present.result c.is_bad.result c.is_full.result c.requires.good c.requires.outboard c.is_bad.ensures c.if-is_bad.false c.present.ensures c.in-None.is c.is_full.ensures c.if-is_full.true)

pub returns-in-Some-clause-handles : goal.returns-in-Some-clause-handles
returns-in-Some-clause-handles g c = handles_stay c.args.dev c.args.budget (g.H.Host.view c.args.host.now) (g.H.Host.view c.gather_rest.new.host) c.args.kernel.now c.gather_rest.new.kernel c.gather_rest.result c.requires.handles c.gather_rest.ensures

pub returns-in-Some-clause-step : goal.returns-in-Some-clause-step
returns-in-Some-clause-step g c = step_told c.args.dev c.args.budget (g.H.Host.view c.args.host.now) (g.H.Host.view c.gather_rest.new.host) c.args.kernel.now c.gather_rest.new.kernel c.gather_rest.result c.requires.accepted c.requires.handles (named c.args.kernel.now c.args.dev c.args.budget c.requires.accepted) c.gather_rest.ensures

pub returns-in-Some-clause-filled : goal.returns-in-Some-clause-filled
returns-in-Some-clause-filled g c = step_filled c.args.dev c.args.budget (g.H.Host.view c.args.host.now) (g.H.Host.view c.gather_rest.new.host) c.args.kernel.now c.gather_rest.new.kernel c.gather_rest.result c.requires.accepted c.requires.handles (named c.args.kernel.now c.args.dev c.args.budget c.requires.accepted) c.gather_rest.ensures

pub returns-else-is_full-clause-handles : goal.returns-else-is_full-clause-handles
returns-else-is_full-clause-handles g c = handles_stay c.args.dev c.args.budget (g.H.Host.view c.args.host.now) (g.H.Host.view c.gather_record.new.host) c.args.kernel.now c.gather_record.new.kernel c.gather_record.result c.requires.handles c.gather_record.ensures

pub returns-else-is_full-clause-step : goal.returns-else-is_full-clause-step
returns-else-is_full-clause-step g c = step_told c.args.dev c.args.budget (g.H.Host.view c.args.host.now) (g.H.Host.view c.gather_record.new.host) c.args.kernel.now c.gather_record.new.kernel c.gather_record.result c.requires.accepted c.requires.handles (named c.args.kernel.now c.args.dev c.args.budget c.requires.accepted) c.gather_record.ensures

pub returns-else-is_full-clause-filled : goal.returns-else-is_full-clause-filled
returns-else-is_full-clause-filled g c = step_filled c.args.dev c.args.budget (g.H.Host.view c.args.host.now) (g.H.Host.view c.gather_record.new.host) c.args.kernel.now c.gather_record.new.kernel c.gather_record.result c.requires.accepted c.requires.handles (named c.args.kernel.now c.args.dev c.args.budget c.requires.accepted) c.gather_record.ensures
