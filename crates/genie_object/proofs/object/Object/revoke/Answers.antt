use Rattle.std.proofs.Common.{ap, sym, ◌∙◌, length, take, map}
use Rattle.genie_object.proofs.object.Object.revoke.Goals as goal
use Rattle.std.proofs.lemmas.List.{take-map, length-map}
use Rattle.genie_base.specs.Lemmas.Runs.{refilled}
use Rattle.genie_object.specs.Objects.{revoked}

pub returns-then-self-gt0 : goal.returns-then-self-gt0
returns-then-self-gt0 c =
    let e = c.revoke_entries.ensures ∙ ap (map (revoked c.args.page.0)) c.deref_mut.ensures.value in
    let r = refilled c.self.inside.entries.len c.self.inside.entries.items c.revoke_entries.new.entries (sym c.deref_mut.ensures.len ∙ ap length c.deref_mut.ensures.value) (ap length e ∙ simp length-map) in
    ap (take c.self.inside.len) (r ∙ e) ∙ take-map (revoked c.args.page.0) c.self.inside.len c.self.inside.entries.items ∙ ap (map (revoked c.args.page.0)) c.self.view_is
