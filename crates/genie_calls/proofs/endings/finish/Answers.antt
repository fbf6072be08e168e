use Rattle.std.proofs.Common.{subst}
use Rattle.std.specs.Prelude.{IfSome, find}
use Rattle.genie_base.specs.declared.config.Kind.{Kind}
use Rattle.genie_base.specs.declared.config.Kind.TheVariants.{Outboard, Pooled}
use Rattle.genie_kernel.specs.declared.transfer.Transfer.{Transfer}
use Rattle.genie_kernel.specs.Calls.{has_number}
use Rattle.genie_model.specs.Tables.{entry}
use Rattle.genie_calls.specs.Kinds.{IsOfKind}
use Rattle.genie_calls.proofs.OfKinds.{ends_early, ends_on, finish_pending}
use Rattle.genie_calls.proofs.endings.finish.Goals as goal

pub is_output-requires : goal.is_output-requires
is_output-requires g c = finish_pending c.args.kernel.now c.args.id c.requires.accepted

pub kind_of-requires-clause-pending : goal.kind_of-requires-clause-pending
kind_of-requires-clause-pending g c = finish_pending c.args.kernel.now c.args.id c.requires.accepted

pub finish_early-requires-clause-case : goal.finish_early-requires-clause-case
finish_early-requires-clause-case g c =
    let k = c.args.kernel.now in
    ends_early k c.args.id (c.is_output.ensures.no c.if-is_output.false) (subst (λ (x : Kind). IfSome (find (has_number c.args.id) k.transfers) (λ (t : Transfer). IsOfKind x (entry k.devices t.dev))) c.in-Early.is c.kind_of.ensures)

pub finish_pooled-requires-clause-case : goal.finish_pooled-requires-clause-case
finish_pooled-requires-clause-case g c =
    let k = c.args.kernel.now in
    ends_on k c.args.id Pooled (c.is_output.ensures.no c.if-is_output.false) (subst (λ (x : Kind). IfSome (find (has_number c.args.id) k.transfers) (λ (t : Transfer). IsOfKind x (entry k.devices t.dev))) c.in-Pooled.is c.kind_of.ensures)

pub finish_outboard-requires-clause-case : goal.finish_outboard-requires-clause-case
finish_outboard-requires-clause-case g c =
    let k = c.args.kernel.now in
    ends_on k c.args.id Outboard (c.is_output.ensures.no c.if-is_output.false) (subst (λ (x : Kind). IfSome (find (has_number c.args.id) k.transfers) (λ (t : Transfer). IsOfKind x (entry k.devices t.dev))) c.in-Outboard.is c.kind_of.ensures)
