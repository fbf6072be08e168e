use Rattle.std.proofs.Common.{ap, sym, ◌∙◌, length, map}
use Rattle.genie_object.proofs.objects.Objects.revoke.Goals as goal
use Rattle.std.proofs.lemmas.List.{length-map}
use Rattle.genie_base.specs.Lemmas.Runs.{refilled}
use Rattle.genie_object.specs.Objects.{revoked}
use Rattle.genie_object.specs.Lemmas.ObjectLaws.{all_mapped}

pub invariant_of-self : goal.invariant_of-self
invariant_of-self c =
    let e = c.revoke_objects.ensures ∙ ap (map (map (revoked c.args.page.0))) c.deref_mut.ensures.value in
    let r = refilled c.self.inside.items.len c.self.inside.items.items c.revoke_objects.new.objects (sym c.deref_mut.ensures.len ∙ ap length c.deref_mut.ensures.value) (ap length e ∙ simp length-map) in
    rw (r, e) (all_mapped (revoked c.args.page.0) _ _ _ c.self.invariant)
