use Rattle.std.proofs.Common.{ap, ◌∙◌, arith, take}
use Rattle.genie_object.proofs.object.Object.reset.Goals as goal
use Rattle.std.proofs.lemmas.List.{take-replicate}
use Rattle.genie_object.specs.Objects.{no_entry}

pub returns : goal.returns
returns c = ap (take c.args.len) (c.fill.ensures.items (λ y h. h)) ∙ take-replicate c.args.len _ no_entry (omega (arith, c.self.inside.entries.ok))
