use Rattle.std.proofs.Common.{◌≡◌, ap, sym, ◌∙◌}
use Rattle.std.specs.Prelude.{Some, find}
use Rattle.std.specs.Option.{option_copied}
use Rattle.genie_kernel.specs.Calls.{has_number}
use Rattle.genie_calls.proofs.OfKinds.{device_below, kind_pending, pending_there}
use Rattle.genie_calls.proofs.kinds.kind_of.Goals as goal

pub kind_at-requires-clause-number : goal.kind_at-requires-clause-number
kind_at-requires-clause-number c =
    let k = c.args.kernel.now in
    let t = c.in-Some.transfer.now in
    let found : find (has_number c.args.id) k.transfers ≡ Some t = sym c.find.ensures ∙ ap option_copied c.in-Some.is in
    device_below k t.dev c.requires.good (pending_there k c.args.id t c.requires.good found)

pub kind_at-requires-clause-there : goal.kind_at-requires-clause-there
kind_at-requires-clause-there c =
    let k = c.args.kernel.now in
    let t = c.in-Some.transfer.now in
    let found : find (has_number c.args.id) k.transfers ≡ Some t = sym c.find.ensures ∙ ap option_copied c.in-Some.is in
    pending_there k c.args.id t c.requires.good found

pub returns : goal.returns
returns c =
    let k = c.args.kernel.now in
    let t = c.in-Some.transfer.now in
    let found : find (has_number c.args.id) k.transfers ≡ Some t = sym c.find.ensures ∙ ap option_copied c.in-Some.is in
    kind_pending k c.args.id t c.kind_at.result c.requires.good found c.kind_at.ensures
