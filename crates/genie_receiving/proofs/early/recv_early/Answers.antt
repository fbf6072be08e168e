use Rattle.genie_model.specs.Tables.{entry}
use Rattle.genie_receiving.proofs.Answering.{bad_received, early_outside, early_within, is_present, received}
use Rattle.genie_receiving.proofs.early.recv_early.Goals as goal

pub is_bad-requires : goal.is_bad-requires
is_bad-requires g c = is_present (entry c.args.kernel.now.devices c.args.dev) c.requires.early

pub present_len-requires : goal.present_len-requires
present_len-requires g c = is_present (entry c.args.kernel.now.devices c.args.dev) c.requires.early

pub receive_rest-requires-clause-within : goal.receive_rest-requires-clause-within
receive_rest-requires-clause-within g c = early_within (entry c.args.kernel.now.devices c.args.dev) c.in-Some.len c.present_len.result c.is_bad.result c.requires.early c.is_bad.ensures c.if-is_bad.false c.present_len.ensures c.in-Some.is

pub receive_record-requires-clause-outside : goal.receive_record-requires-clause-outside
receive_record-requires-clause-outside g c = early_outside (entry c.args.kernel.now.devices c.args.dev) c.present_len.result c.is_bad.result c.requires.early c.is_bad.ensures c.if-is_bad.false c.present_len.ensures c.in-None.is

pub returns-then-is_bad : goal.returns-then-is_bad
returns-then-is_bad g c = bad_received c.args.kernel.now c.args.dev c.args.budget (g.H.Host.view c.args.host.now) c.is_bad.result c.requires.good c.requires.accepted c.requires.handles c.requires.early c.is_bad.ensures c.if-is_bad.true

pub returns-in-Some : goal.returns-in-Some
returns-in-Some g c = received c.args.kernel.now c.receive_rest.new.kernel c.args.dev c.args.budget (g.H.Host.view c.args.host.now) (g.H.Host.view c.receive_rest.new.host) c.receive_rest.result c.requires.good c.requires.accepted c.requires.handles c.receive_rest.ensures

pub returns-in-None : goal.returns-in-None
returns-in-None g c = received c.args.kernel.now c.receive_record.new.kernel c.args.dev c.args.budget (g.H.Host.view c.args.host.now) (g.H.Host.view c.receive_record.new.host) c.receive_record.result c.requires.good c.requires.accepted c.requires.handles c.receive_record.ensures
