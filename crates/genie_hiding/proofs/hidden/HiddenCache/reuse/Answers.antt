use Rattle.std.proofs.Common.{◌≡◌, get_or, sym, ap, ◌∙◌, subst}
use Rattle.std.specs.Prelude.{Some, position, vec_capacity, remove}
use Rattle.std.proofs.lemmas.List.Quantifiers.{position-Some}
use Rattle.genie_base.specs.Lemmas.Places.{any_default}
use Rattle.genie_hiding.specs.declared.hidden.Hidden.{Hidden}
use Rattle.genie_hiding.specs.Hidden.{no_hidden, is_same, IsTakenBack}
use Rattle.genie_hiding.proofs.Kept.{kept_fewer}
use Rattle.genie_hiding.proofs.Fewer.{taken_back}
use Rattle.genie_hiding.proofs.hidden.HiddenCache.reuse.Goals as goal

pub invariant_of-self : goal.invariant_of-self
invariant_of-self c =
    let old = c.self.inside.kept in
    let at : position (is_same c.args.pid c.args.start c.args.pages) old.items ≡ Some c.in-Some.at = ap (position (is_same c.args.pid c.args.start c.args.pages)) (sym c.as_slice.ensures.value) ∙ sym c.place_of.ensures ∙ c.in-Some.is in
    let l = (position-Some (is_same c.args.pid c.args.start c.args.pages) old.items c.in-Some.at no_hidden at).0 in
    rw (c.remove.ensures.items, c.remove.ensures.capacity) (kept_fewer old.items c.in-Some.at (vec_capacity old) l c.self.invariant)

pub returns-in-Some-clause-fits : goal.returns-in-Some-clause-fits
returns-in-Some-clause-fits c = λ m f.
    let old = c.self.inside.kept in
    let at : position (is_same c.args.pid c.args.start c.args.pages) old.items ≡ Some c.in-Some.at = ap (position (is_same c.args.pid c.args.start c.args.pages)) (sym c.as_slice.ensures.value) ∙ sym c.place_of.ensures ∙ c.in-Some.is in
    let l = (position-Some (is_same c.args.pid c.args.start c.args.pages) old.items c.in-Some.at no_hidden at).0 in
    let z = taken_back m old.items c.in-Some.at l (subst (λ xs. Rattle.genie_object.specs.Sound.FitsHidden m (Rattle.genie_hiding.specs.Hidden.objects_of xs)) (sym c.self.view_is) f) in
    rw c.remove.ensures.items z.fits

pub returns-in-Some-clause-taken : goal.returns-in-Some-clause-taken
returns-in-Some-clause-taken c = λ m f.
    let old = c.self.inside.kept in
    let at : position (is_same c.args.pid c.args.start c.args.pages) old.items ≡ Some c.in-Some.at = ap (position (is_same c.args.pid c.args.start c.args.pages)) (sym c.as_slice.ensures.value) ∙ sym c.place_of.ensures ∙ c.in-Some.is in
    let l = (position-Some (is_same c.args.pid c.args.start c.args.pages) old.items c.in-Some.at no_hidden at).0 in
    let is : c.remove.result ≡ get_or old.items c.in-Some.at no_hidden = c.remove.ensures.value ∙ any_default old.items c.in-Some.at c.remove.result no_hidden l in
    let z = taken_back m old.items c.in-Some.at l (subst (λ xs. Rattle.genie_object.specs.Sound.FitsHidden m (Rattle.genie_hiding.specs.Hidden.objects_of xs)) (sym c.self.view_is) f) in
    rw c.remove.ensures.items (subst (λ (h : Hidden). IsTakenBack m (remove old.items c.in-Some.at) h.region) (sym is) z)
