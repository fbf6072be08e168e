use Rattle.std.proofs.Common.{ap, ◌∙◌, set}
use Rattle.genie_object.proofs.object.Object.set.Goals as goal
use Rattle.genie_object.specs.Lemmas.ObjectLaws.{take-set}

pub returns : goal.returns
returns c = take-set c.self.inside.len c.args.index c.args.entry c.self.inside.entries.items ∙ ap (λ xs. set xs c.args.index c.args.entry) c.self.view_is
