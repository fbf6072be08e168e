use Rattle.std.proofs.Common.{sym, ◌∙◌}
use Rattle.genie_calls.proofs.Serving.{refused_served}
use Rattle.genie_calls.proofs.step.serve.Goals as goal

pub returns-in-Some-clause-served : goal.returns-in-Some-clause-served
returns-in-Some-clause-served g c = refused_served c.args.kernel.now c.args.event.now c.in-Some.refusal c.requires.good (sym c.refuse.ensures ∙ c.in-Some.is) (g.H.Host.view c.args.host.now) (g.S.Store.view c.args.store.now) c.requires.handles c.requires.sized (g.met.S.Store.paged c.args.store.now)
