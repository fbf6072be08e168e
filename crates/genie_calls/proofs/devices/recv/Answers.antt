use Rattle.std.proofs.Common.{subst}
use Rattle.genie_model.specs.Tables.{entry}
use Rattle.genie_base.specs.declared.config.Kind.TheVariants.{Early, Outboard, Pooled}
use Rattle.genie_calls.specs.Kinds.{HasKind}
use Rattle.genie_calls.proofs.OfKinds.{device_below, kind_early, kind_outboard, kind_pooled, kind_same, receives_there}
use Rattle.genie_calls.proofs.devices.recv.Goals as goal

pub kind_at-requires-clause-number : goal.kind_at-requires-clause-number
kind_at-requires-clause-number g c = device_below c.args.kernel.now c.args.dev c.requires.good (receives_there c.args.kernel.now c.args.dev c.args.len c.requires.accepted)

pub kind_at-requires-clause-there : goal.kind_at-requires-clause-there
kind_at-requires-clause-there g c = receives_there c.args.kernel.now c.args.dev c.args.len c.requires.accepted

pub recv_early-requires-clause-early : goal.recv_early-requires-clause-early
recv_early-requires-clause-early g c =
    let k = c.args.kernel.now in
    kind_early (entry k.devices c.args.dev) (kind_same k c.args.dev Early c.requires.good (subst (λ x. HasKind x (entry k.config.devices c.args.dev)) c.in-Early.is c.kind_at.ensures))

pub recv_pooled-requires-clause-pooled : goal.recv_pooled-requires-clause-pooled
recv_pooled-requires-clause-pooled g c =
    let k = c.args.kernel.now in
    kind_pooled (entry k.devices c.args.dev) (kind_same k c.args.dev Pooled c.requires.good (subst (λ x. HasKind x (entry k.config.devices c.args.dev)) c.in-Pooled.is c.kind_at.ensures))

pub recv_outboard-requires-clause-outboard : goal.recv_outboard-requires-clause-outboard
recv_outboard-requires-clause-outboard g c =
    let k = c.args.kernel.now in
    kind_outboard (entry k.devices c.args.dev) (kind_same k c.args.dev Outboard c.requires.good (subst (λ x. HasKind x (entry k.config.devices c.args.dev)) c.in-Outboard.is c.kind_at.ensures))
