use Rattle.std.proofs.Common.{ap, ◌∙◌}
use Rattle.genie_object.specs.declared.memory.Memory.{Memory}
use Rattle.genie_object.specs.declared.pages.Place.TheVariants.{Frame}
use Rattle.genie_object.specs.Steps.{relocated}
use Rattle.genie_fault.proofs.Bringing.{known_entry, parted}
use Rattle.genie_fault.proofs.bring.part.Goals as goal

pub take_loaded-requires-clause-known : goal.take_loaded-requires-clause-known
take_loaded-requires-clause-known g c = rw c.place_of-place.ensures (known_entry _ c.args.at.object.0 c.args.at.index c.requires.sound c.requires.many)

pub returns-in-Ok-clause-parted : goal.returns-in-Ok-clause-parted
returns-in-Ok-clause-parted g c = parted c.args.memory.now c.take_loaded.new.memory _ _ c.args.at.object.0 c.args.at.index c.rename-page.result.0 c.in-Ok.g c.requires.sound (rw c.place_of-place.ensures at c.in-Ok.ensures.loaded) c.rename-page.ensures.there c.rename-page.ensures.spare (c.settle.ensures ∙ ap (λ (n : Memory). relocated n c.rename-page.result.0 (Frame c.in-Ok.g)) c.rename-page.ensures.renamed)
