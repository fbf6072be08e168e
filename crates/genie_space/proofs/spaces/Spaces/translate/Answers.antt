use Rattle.std.proofs.Common.{List, ap, sym, ◌∙◌}
use Rattle.genie_base.specs.Regions.{reach}
use Rattle.genie_region.specs.declared.region.Region.{Region}
use Rattle.genie_region.specs.Layouts.{extent}
use Rattle.genie_space.proofs.Translations.{reached_backed}
use Rattle.genie_space.proofs.spaces.Spaces.translate.Goals as goal

pub lead_to-requires-clause-backed : goal.lead_to-requires-clause-backed
lead_to-requires-clause-backed c =
    let found = sym (ap (λ (rs : List Region). reach extent c.self.inside.page c.args.addr 1 rs) c.regions.ensures) ∙ sym c.find.ensures ∙ c.in-Some.is in
    (reached_backed c.args.objects.now c.self.inside.page c.args.addr 1 _ c.in-Some.region c.requires.backed found).0

pub lead_to-requires-clause-reached : goal.lead_to-requires-clause-reached
lead_to-requires-clause-reached c =
    let found = sym (ap (λ (rs : List Region). reach extent c.self.inside.page c.args.addr 1 rs) c.regions.ensures) ∙ sym c.find.ensures ∙ c.in-Some.is in
    (reached_backed c.args.objects.now c.self.inside.page c.args.addr 1 _ c.in-Some.region c.requires.backed found).1
