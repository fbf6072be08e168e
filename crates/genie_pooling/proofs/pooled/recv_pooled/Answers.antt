use Rattle.genie_model.specs.Tables.{entry}
use Rattle.genie_pooling.proofs.Still.{bad_received, busy_received, has_config, is_present, pooled_outside, pooled_within, received}
use Rattle.genie_pooling.proofs.pooled.recv_pooled.Goals as goal

pub is_bad-requires : goal.is_bad-requires
is_bad-requires g c = is_present (entry c.args.kernel.now.devices c.args.dev) c.requires.pooled

pub present-requires : goal.present-requires
present-requires g c = is_present (entry c.args.kernel.now.devices c.args.dev) c.requires.pooled

pub is_busy-requires : goal.is_busy-requires
is_busy-requires g c = has_config c.args.kernel.now c.args.dev c.requires.good c.requires.pooled

pub fill_rest-requires-clause-within : goal.fill_rest-requires-clause-within
fill_rest-requires-clause-within g c = pooled_within (entry c.args.kernel.now.devices c.args.dev) c.in-Some.header c.present.result c.is_bad.result c.requires.pooled c.is_bad.ensures c.if-is_bad.false c.present.ensures c.in-Some.is

pub fill_record-requires-clause-outside : goal.fill_record-requires-clause-outside
fill_record-requires-clause-outside g c = pooled_outside c.args.kernel.now c.args.dev c.present.result c.is_bad.result c.is_busy.result c.requires.good c.requires.pooled c.is_bad.ensures c.if-is_bad.false c.present.ensures c.in-None.is c.is_busy.ensures c.if-is_busy.false

pub returns-then-is_bad : goal.returns-then-is_bad
returns-then-is_bad g c = bad_received c.args.kernel.now c.args.dev c.args.budget (g.H.Host.view c.args.host.now) c.is_bad.result c.requires.good c.requires.accepted c.requires.handles c.requires.pooled c.is_bad.ensures c.if-is_bad.true

pub returns-then-is_busy : goal.returns-then-is_busy
returns-then-is_busy g c = busy_received c.args.kernel.now c.args.dev c.args.budget (g.H.Host.view c.args.host.now) c.present.result c.is_bad.result c.is_busy.result c.requires.good c.requires.accepted c.requires.handles c.requires.pooled c.is_bad.ensures c.if-is_bad.false c.present.ensures c.in-None.is c.is_busy.ensures c.if-is_busy.true

pub returns-in-Some : goal.returns-in-Some
returns-in-Some g c = received c.args.kernel.now c.fill_rest.new.kernel c.args.dev c.args.budget (g.H.Host.view c.args.host.now) (g.H.Host.view c.fill_rest.new.host) c.fill_rest.result c.requires.good c.requires.accepted c.requires.handles c.fill_rest.ensures

pub returns-else-is_busy : goal.returns-else-is_busy
returns-else-is_busy g c = received c.args.kernel.now c.fill_record.new.kernel c.args.dev c.args.budget (g.H.Host.view c.args.host.now) (g.H.Host.view c.fill_record.new.host) c.fill_record.result c.requires.good c.requires.accepted c.requires.handles c.fill_record.ensures
