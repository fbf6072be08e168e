use Rattle.std.proofs.Common.{◌≡◌, Some, find, sym, ap, subst, ◌∙◌}
use Rattle.std.specs.Prelude.{is_some}
use Rattle.genie_model.specs.Tables.{change}
use Rattle.genie_kernel.specs.declared.transfer.Change.TheVariants.{Ownerless}
use Rattle.genie_kernel.specs.declared.transfer.Transfer.{Transfer}
use Rattle.genie_kernel.specs.Calls.{has_number}
use Rattle.genie_kernel.specs.Changes.{changed_by}
use Rattle.genie_spaces.proofs.Disowning.{disowned_at, found_at}
use Rattle.genie_spaces.proofs.exit.disown_at.Goals as goal

pub change-requires : goal.change-requires
change-requires c =
    let t : Transfer = c.at-transfer.result.now in
    ap is_some (subst (λ (u : Transfer). find (has_number u.id.0) c.args.transfers.now ≡ Some u) (c.at-transfer.ensures t) (found_at c.args.transfers.now c.args.i t c.requires.rising c.requires.there))

pub returns : goal.returns
returns c = λ d.
    let t : Transfer = c.at-transfer.result.now in
    disowned_at c.args.pid c.args.i c.args.transfers.now t d c.requires.rising c.requires.there (c.at-transfer.ensures d) (sym c.if-not-is_owned_by.ensures)
    ∙ ap (λ o. change (has_number t.id.0) (changed_by (Ownerless o)) c.args.transfers.now) (sym c.left_named-region.ensures) ∙ sym c.change.ensures
