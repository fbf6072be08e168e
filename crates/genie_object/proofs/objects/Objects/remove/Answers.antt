use Rattle.std.proofs.Common.{ap, sym, ◌∙◌, arith}
use Rattle.genie_object.proofs.objects.Objects.remove.Goals as goal
use Rattle.genie_object.specs.Objects.{object_at}
use Rattle.genie_object.specs.Lemmas.ObjectLaws.{spare_place}

pub give-requires : goal.give-requires
give-requires c = omega (arith, spare_place _ _ c.args.object.0 _ c.self.invariant (λ e. c.requires.there (sym (ap (λ xs. object_at xs c.args.object.0) c.self.view_is) ∙ e)))
