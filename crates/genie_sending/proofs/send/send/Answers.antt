use Rattle.genie_sending.proofs.Serving.{idle_told, idle_filled, nothing_kept, served_cause, served_config, served_good, served_handles, served_kept, served_memory, served_numbers, served_only, served_step, served_filled}
use Rattle.genie_sending.proofs.send.send.Goals as goal

pub returns-in-Some-clause-good : goal.returns-in-Some-clause-good
returns-in-Some-clause-good g c = served_good c.work_laws.ensures c.args.kernel.now c.requires.good c.args.dev c.args.budget c.requires.accepted (g.H.Host.view c.args.host.now) (g.H.Host.view c.send_next.new.host) c.requires.handles c.send_next.new.kernel c.send_next.result c.send_next.ensures

pub returns-in-Some-clause-kept : goal.returns-in-Some-clause-kept
returns-in-Some-clause-kept g c = served_kept c.work_laws.ensures c.args.kernel.now c.requires.good c.args.dev c.args.budget c.requires.accepted (g.H.Host.view c.args.host.now) (g.H.Host.view c.send_next.new.host) c.requires.handles c.send_next.new.kernel c.send_next.result c.send_next.ensures

pub returns-in-Some-clause-config : goal.returns-in-Some-clause-config
returns-in-Some-clause-config g c = served_config c.work_laws.ensures c.args.kernel.now c.requires.good c.args.dev c.args.budget c.requires.accepted (g.H.Host.view c.args.host.now) (g.H.Host.view c.send_next.new.host) c.requires.handles c.send_next.new.kernel c.send_next.result c.send_next.ensures

pub returns-in-Some-clause-numbers : goal.returns-in-Some-clause-numbers
returns-in-Some-clause-numbers g c = served_numbers c.work_laws.ensures c.args.kernel.now c.requires.good c.args.dev c.args.budget c.requires.accepted (g.H.Host.view c.args.host.now) (g.H.Host.view c.send_next.new.host) c.requires.handles c.send_next.new.kernel c.send_next.result c.send_next.ensures

pub returns-in-Some-clause-memory : goal.returns-in-Some-clause-memory
returns-in-Some-clause-memory g c = served_memory c.work_laws.ensures c.args.kernel.now c.requires.good c.args.dev c.args.budget c.requires.accepted (g.H.Host.view c.args.host.now) (g.H.Host.view c.send_next.new.host) c.requires.handles c.send_next.new.kernel c.send_next.result c.send_next.ensures

pub returns-in-Some-clause-only : goal.returns-in-Some-clause-only
returns-in-Some-clause-only g c = served_only c.work_laws.ensures c.args.kernel.now c.requires.good c.args.dev c.args.budget c.requires.accepted (g.H.Host.view c.args.host.now) (g.H.Host.view c.send_next.new.host) c.requires.handles c.send_next.new.kernel c.send_next.result c.send_next.ensures

pub returns-in-Some-clause-handles : goal.returns-in-Some-clause-handles
returns-in-Some-clause-handles g c = served_handles c.work_laws.ensures c.args.kernel.now c.requires.good c.args.dev c.args.budget c.requires.accepted (g.H.Host.view c.args.host.now) (g.H.Host.view c.send_next.new.host) c.requires.handles c.send_next.new.kernel c.send_next.result c.send_next.ensures

pub returns-in-Some-clause-step : goal.returns-in-Some-clause-step
returns-in-Some-clause-step g c = served_step c.work_laws.ensures c.args.kernel.now c.requires.good c.args.dev c.args.budget c.requires.accepted (g.H.Host.view c.args.host.now) (g.H.Host.view c.send_next.new.host) c.requires.handles c.send_next.new.kernel c.send_next.result c.send_next.ensures

pub returns-in-Some-clause-cause : goal.returns-in-Some-clause-cause
returns-in-Some-clause-cause g c = served_cause c.work_laws.ensures c.args.kernel.now c.requires.good c.args.dev c.args.budget c.requires.accepted (g.H.Host.view c.args.host.now) (g.H.Host.view c.send_next.new.host) c.requires.handles c.send_next.new.kernel c.send_next.result c.send_next.ensures

pub returns-in-None-clause-kept : goal.returns-in-None-clause-kept
returns-in-None-clause-kept g c = nothing_kept c.args.kernel.now c.requires.good

pub returns-in-None-clause-step : goal.returns-in-None-clause-step
returns-in-None-clause-step g c = λ store sized pages. idle_told c.args.kernel.now c.args.dev c.args.budget (g.H.Host.view c.args.host.now) store c.requires.accepted (c.first.ensures.none c.in-None.is)

pub returns-in-Some-clause-filled : goal.returns-in-Some-clause-filled
returns-in-Some-clause-filled g c = served_filled c.work_laws.ensures c.args.kernel.now c.requires.good c.args.dev c.args.budget c.requires.accepted (g.H.Host.view c.args.host.now) (g.H.Host.view c.send_next.new.host) c.requires.handles c.send_next.new.kernel c.send_next.result c.send_next.ensures

pub returns-in-None-clause-filled : goal.returns-in-None-clause-filled
returns-in-None-clause-filled g c = λ store sized pages. idle_filled c.args.kernel.now c.args.dev c.args.budget (g.H.Host.view c.args.host.now) store c.requires.accepted (c.first.ensures.none c.in-None.is)
