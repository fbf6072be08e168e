use Rattle.std.proofs.Common.{◌≡◌, ◌≢◌, [], arith, sym, ap, ◌∙◌, get_or, subst}
use Rattle.std.specs.Prelude.{Some, position, vec_capacity}
use Rattle.std.proofs.lemmas.List.Quantifiers.{position-Some}
use Rattle.genie_base.specs.Lemmas.Places.{any_default, num}
use Rattle.genie_object.specs.Objects.{object_at}
use Rattle.genie_hiding.specs.declared.hidden.Hidden.{Hidden}
use Rattle.genie_hiding.specs.Hidden.{no_hidden, object_of, objects_of, is_of}
use Rattle.genie_object.specs.Leaving.{Removes}
use Rattle.genie_hiding.specs.Lemmas.Searching.{hidden_length, object_at_hidden}
use Rattle.genie_hiding.specs.Lemmas.Naming.{kept_there}
use Rattle.genie_hiding.proofs.Kept.{count_skip, kept_fewer}
use Rattle.genie_hiding.proofs.Discarded.{discards_more, discards_all, others_kept, none_of, none_left}
use Rattle.genie_hiding.proofs.hidden.discard_from.Goals as goal

pub remove_object-requires-clause-there : goal.remove_object-requires-clause-there
remove_object-requires-clause-there c =
    let kept = c.regions.kept.items in
    let at : position (is_of c.args.pid) kept ≡ Some c.in-Some.at = ap (position (is_of c.args.pid)) (sym c.as_slice.ensures.value) ∙ sym c.first_of.ensures ∙ c.in-Some.is in
    let z = position-Some (is_of c.args.pid) kept c.in-Some.at no_hidden at in
    let is : object_of c.remove.result ≡ get_or (objects_of kept) c.in-Some.at 0 = ap object_of (c.remove.ensures.value ∙ any_default kept c.in-Some.at c.remove.result no_hidden (z.0)) ∙ sym (object_at_hidden kept c.in-Some.at) in
    subst (λ o. object_at c.regions.memory.objects o ≢ []) (sym is) (kept_there (objects_of kept) c.regions.memory c.in-Some.at c.regions.invariant.so_far.fits (omega (arith, z.0, hidden_length kept)))

pub regions-preserved : goal.regions-preserved
regions-preserved c =
    let v = c.regions.invariant in
    let kept = c.regions.kept.items in
    let at : position (is_of c.args.pid) kept ≡ Some c.in-Some.at = ap (position (is_of c.args.pid)) (sym c.as_slice.ensures.value) ∙ sym c.first_of.ensures ∙ c.in-Some.is in
    let z = position-Some (is_of c.args.pid) kept c.in-Some.at no_hidden at in
    let is : c.remove.result ≡ get_or kept c.in-Some.at no_hidden = c.remove.ensures.value ∙ any_default kept c.in-Some.at c.remove.result no_hidden (z.0) in
    let y : Removes (object_of (get_or kept c.in-Some.at no_hidden)) c.regions.memory c.remove_object.new.memory = subst (λ (h : Hidden). Removes (object_of h) c.regions.memory c.remove_object.new.memory) is c.remove_object.ensures in
    let one = count_skip (is_of c.args.pid) no_hidden kept c.in-Some.at (z.0) in
    rw (c.remove.ensures.items, c.remove.ensures.capacity) (record {
      so_far = discards_more c.args.pid c.args.kept.now.items kept c.args.memory.now c.regions.memory c.remove_object.new.memory c.in-Some.at v.so_far (z.0) (z.1) y;
      fewer = omega (arith, v.fewer, one, ap num (z.1));
      few = kept_fewer kept c.in-Some.at (vec_capacity c.regions.kept) (z.0) v.few;
    })

pub returns-in_default-clause-kept : goal.returns-in_default-clause-kept
returns-in_default-clause-kept c =
    let none = ap (position (is_of c.args.pid)) (sym c.as_slice.ensures.value) ∙ sym c.first_of.ensures ∙ c.in_default.is in
    others_kept c.args.pid c.args.kept.now.items c.regions.kept.items c.args.memory.now c.regions.memory (none_of c.args.pid c.regions.kept.items none) c.regions.invariant.so_far

pub returns-in_default-clause-gone : goal.returns-in_default-clause-gone
returns-in_default-clause-gone c =
    let none = ap (position (is_of c.args.pid)) (sym c.as_slice.ensures.value) ∙ sym c.first_of.ensures ∙ c.in_default.is in
    discards_all c.args.pid c.args.kept.now.items c.regions.kept.items c.args.memory.now c.regions.memory (none_of c.args.pid c.regions.kept.items none) c.regions.invariant.so_far

pub returns-clause-kept : goal.returns-clause-kept
returns-clause-kept c = others_kept c.args.pid c.args.kept.now.items c.regions.kept.items c.args.memory.now c.regions.memory (none_left c.args.pid c.args.kept.now.items c.regions.kept.items c.regions.done c.regions.invariant.fewer (omega (arith, c.len-done-end.ensures, c.regions-test.false, c.regions.auto.done-end))) c.regions.invariant.so_far

pub returns-clause-gone : goal.returns-clause-gone
returns-clause-gone c = discards_all c.args.pid c.args.kept.now.items c.regions.kept.items c.args.memory.now c.regions.memory (none_left c.args.pid c.args.kept.now.items c.regions.kept.items c.regions.done c.regions.invariant.fewer (omega (arith, c.len-done-end.ensures, c.regions-test.false, c.regions.auto.done-end))) c.regions.invariant.so_far
