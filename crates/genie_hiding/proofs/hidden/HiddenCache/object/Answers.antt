use Rattle.std.proofs.Common.{sym, ap, ◌∙◌, get_or, arith, length}
use Rattle.genie_base.specs.Lemmas.Places.{any_default}
use Rattle.genie_hiding.specs.declared.hidden.Hidden.{Hidden}
use Rattle.genie_hiding.specs.Hidden.{no_hidden, object_of}
use Rattle.genie_hiding.specs.Lemmas.Searching.{object_at_hidden}
use Rattle.genie_hiding.proofs.hidden.HiddenCache.object.Goals as goal

pub returns : goal.returns
returns c = ap (λ (h : Hidden). object_of h) (c.index.ensures ∙ any_default c.self.inside.kept.items c.args.at c.index.result.now no_hidden (omega (arith, ap length c.self.view_is)) ∙ ap (λ xs. get_or xs c.args.at no_hidden) c.self.view_is) ∙ sym (object_at_hidden c.args.self.now c.args.at)
