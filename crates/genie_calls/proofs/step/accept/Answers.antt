use Rattle.genie_calls.proofs.Serving.{as_alone, as_host, as_store}
use Rattle.genie_calls.proofs.step.accept.Goals as goal

pub returns-in-Spawn : goal.returns-in-Spawn
returns-in-Spawn g c = as_alone c.args.kernel.now c.spawn.new.kernel c.args.event.now _ c.spawn.result c.in-Spawn.is (g.H.Host.view c.args.host.now) (g.S.Store.view c.args.store.now) c.requires.handles c.requires.sized (g.met.S.Store.paged c.args.store.now) c.spawn.ensures

pub returns-in-Exit : goal.returns-in-Exit
returns-in-Exit g c = as_alone c.args.kernel.now c.exit.new.kernel c.args.event.now _ c.exit.result c.in-Exit.is (g.H.Host.view c.args.host.now) (g.S.Store.view c.args.store.now) c.requires.handles c.requires.sized (g.met.S.Store.paged c.args.store.now) c.exit.ensures

pub returns-in-Map : goal.returns-in-Map
returns-in-Map g c = as_alone c.args.kernel.now c.map.new.kernel c.args.event.now _ c.map.result c.in-Map.is (g.H.Host.view c.args.host.now) (g.S.Store.view c.args.store.now) c.requires.handles c.requires.sized (g.met.S.Store.paged c.args.store.now) c.map.ensures

pub returns-in-Alloc : goal.returns-in-Alloc
returns-in-Alloc g c = as_alone c.args.kernel.now c.alloc.new.kernel c.args.event.now _ c.alloc.result c.in-Alloc.is (g.H.Host.view c.args.host.now) (g.S.Store.view c.args.store.now) c.requires.handles c.requires.sized (g.met.S.Store.paged c.args.store.now) c.alloc.ensures

pub returns-in-Unmap : goal.returns-in-Unmap
returns-in-Unmap g c = as_alone c.args.kernel.now c.unmap.new.kernel c.args.event.now _ c.unmap.result c.in-Unmap.is (g.H.Host.view c.args.host.now) (g.S.Store.view c.args.store.now) c.requires.handles c.requires.sized (g.met.S.Store.paged c.args.store.now) c.unmap.ensures

pub returns-in-Protect : goal.returns-in-Protect
returns-in-Protect g c = as_alone c.args.kernel.now c.protect.new.kernel c.args.event.now _ c.protect.result c.in-Protect.is (g.H.Host.view c.args.host.now) (g.S.Store.view c.args.store.now) c.requires.handles c.requires.sized (g.met.S.Store.paged c.args.store.now) c.protect.ensures

pub returns-in-Cancel : goal.returns-in-Cancel
returns-in-Cancel g c = as_alone c.args.kernel.now c.cancel.new.kernel c.args.event.now _ c.cancel.result c.in-Cancel.is (g.H.Host.view c.args.host.now) (g.S.Store.view c.args.store.now) c.requires.handles c.requires.sized (g.met.S.Store.paged c.args.store.now) c.cancel.ensures

pub returns-in-Fork : goal.returns-in-Fork
returns-in-Fork g c = as_store c.args.kernel.now c.fork.new.kernel c.args.event.now _ c.fork.result c.in-Fork.is (g.H.Host.view c.args.host.now) (g.S.Store.view c.args.store.now) (g.S.Store.view c.fork.new.store) c.requires.handles c.fork.ensures

pub returns-in-Read : goal.returns-in-Read
returns-in-Read g c = as_store c.args.kernel.now c.read.new.kernel c.args.event.now _ c.read.result c.in-Read.is (g.H.Host.view c.args.host.now) (g.S.Store.view c.args.store.now) (g.S.Store.view c.read.new.store) c.requires.handles c.read.ensures

pub returns-in-Write : goal.returns-in-Write
returns-in-Write g c = as_store c.args.kernel.now c.write.new.kernel c.args.event.now _ c.write.result c.in-Write.is (g.H.Host.view c.args.host.now) (g.S.Store.view c.args.store.now) (g.S.Store.view c.write.new.store) c.requires.handles c.write.ensures

pub returns-in-Output : goal.returns-in-Output
returns-in-Output g c = as_store c.args.kernel.now c.output.new.kernel c.args.event.now _ c.output.result c.in-Output.is (g.H.Host.view c.args.host.now) (g.S.Store.view c.args.store.now) (g.S.Store.view c.output.new.store) c.requires.handles c.output.ensures

pub returns-in-Input : goal.returns-in-Input
returns-in-Input g c = as_store c.args.kernel.now c.input.new.kernel c.args.event.now _ c.input.result c.in-Input.is (g.H.Host.view c.args.host.now) (g.S.Store.view c.args.store.now) (g.S.Store.view c.input.new.store) c.requires.handles c.input.ensures

pub returns-in-Finish : goal.returns-in-Finish
returns-in-Finish g c = as_store c.args.kernel.now c.finish.new.kernel c.args.event.now _ c.finish.result c.in-Finish.is (g.H.Host.view c.args.host.now) (g.S.Store.view c.args.store.now) (g.S.Store.view c.finish.new.store) c.requires.handles c.finish.ensures

pub returns-in-Pageout : goal.returns-in-Pageout
returns-in-Pageout g c = as_store c.args.kernel.now c.pageout.new.kernel c.args.event.now _ c.pageout.result c.in-Pageout.is (g.H.Host.view c.args.host.now) (g.S.Store.view c.args.store.now) (g.S.Store.view c.pageout.new.store) c.requires.handles c.pageout.ensures

pub returns-in-Send : goal.returns-in-Send
returns-in-Send g c = as_host c.args.kernel.now c.send.new.kernel c.args.event.now _ c.send.result c.in-Send.is (g.H.Host.view c.args.host.now) (g.H.Host.view c.send.new.host) (g.S.Store.view c.args.store.now) c.requires.sized (g.met.S.Store.paged c.args.store.now) c.send.ensures

pub returns-in-Recv : goal.returns-in-Recv
returns-in-Recv g c = as_host c.args.kernel.now c.recv.new.kernel c.args.event.now _ c.recv.result c.in-Recv.is (g.H.Host.view c.args.host.now) (g.H.Host.view c.recv.new.host) (g.S.Store.view c.args.store.now) c.requires.sized (g.met.S.Store.paged c.args.store.now) c.recv.ensures
