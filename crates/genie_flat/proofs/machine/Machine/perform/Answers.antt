use Rattle.genie_base.specs.Counts.{span, cost}
use Rattle.genie_base.specs.Transfers.{class_of}
use Rattle.genie_base.specs.declared.semantics.Direction.TheVariants.{Inward}
use Rattle.genie_model.specs.Inputs.{address_or_zero}
use Rattle.genie_model.specs.Lemmas.Causes.{accepted_input}
use Rattle.genie_flat.proofs.machine.Machine.perform.Goals as goal

pub returns-in-Alloc : goal.returns-in-Alloc
returns-in-Alloc c = rw c.in-Alloc.is c.alloc.ensures

pub perform_input-requires-clause-short : goal.perform_input-requires-clause-short
perform_input-requires-clause-short c =
    let s = c.args.self.now in
    let i = c.in-Input in
    let a = address_or_zero i.addr in
    (accepted_input s i.pid (class_of i.sem) i.dev a i.len (cost (class_of i.sem) Inward (span s.config.page a i.len)) (rw i.is at c.requires.accepted)).short
