use Rattle.std.proofs.Common.{◌≡◌, arith, rules, ap, ◌∙◌, true}
use Rattle.std.specs.Prelude.{◌==◌}
use Rattle.genie_kernel.specs.Calls.{has_number}
use Rattle.genie_kernel.specs.declared.transfer.Transfer.{Transfer}
use Rattle.genie_sending.proofs.Places.{found_some}
use Rattle.genie_sending.proofs.step.end_record.Goals as goal

pub change-requires : goal.change-requires
change-requires c =
    let t = c.at-transfer.result.now in
    let same : (t.id.0 == t.id.0) ≡ true = grind (arith, rules) in
    found_some (has_number t.id.0) c.args.transfers.now c.args.i t c.requires (ap (λ (x : Transfer). x.id.0 == t.id.0) (c.at-transfer.ensures t) ∙ same)
