use Rattle.std.proofs.Common.{◌≤◌, List, arith, refl, sym, ap, subst, ◌∙◌, length}
use Rattle.genie_base.specs.Regions.{AreInOrder}
use Rattle.genie_region.specs.declared.region.Region.{Region}
use Rattle.genie_region.specs.Layouts.{extent}
use Rattle.genie_space.specs.Spaces.{regions_of}
use Rattle.genie_spaces.specs.Forking.{HasCopies}
use Rattle.genie_spaces.proofs.Copying.{adds_there, copies_next, copies_none, copies_pass, fresh_there, may_fork, number_new, object_room, only_next, pages_free, pages_most, pages_some, parent_alive, region_there}
use Rattle.genie_spaces.proofs.copies.make_copies.Goals as goal

pub regions-requires : goal.regions-requires
regions-requires c = parent_alive c.args.kernel.now c.args.pid c.args.child c.requires.accepted

pub regions-init : goal.regions-init
regions-init c = record { only = refl; copies = subst (λ l. HasCopies c.args.kernel.now c.args.child (regions_of c.args.pid c.args.kernel.now.spaces) 0 l c.args.kernel.now.memory.objects) (sym c.new-copies.ensures) (copies_none c.region_laws.ensures c.args.kernel.now c.args.pid c.args.child (regions_of c.args.pid c.args.kernel.now.spaces) (may_fork c.regions_fit.ensures.regions c.args.kernel.now c.args.pid c.args.child c.requires.good c.requires.accepted c.requires.unhidden (subst (AreInOrder extent) c.regions-2.ensures c.len-count.ensures.layout.ordered)) c.objects_suffice.ensures) }

pub regions-preserved-then-not-accessible : goal.regions-preserved-then-not-accessible
regions-preserved-then-not-accessible c = record { only = c.regions.invariant.only; copies = copies_pass c.region_laws.ensures c.args.kernel.now c.args.pid c.args.child (regions_of c.args.pid c.args.kernel.now.spaces) (may_fork c.regions_fit.ensures.regions c.args.kernel.now c.args.pid c.args.child c.requires.good c.requires.accepted c.requires.unhidden (subst (AreInOrder extent) c.regions-2.ensures c.len-count.ensures.layout.ordered)) c.regions.i c.regions.copies c.regions.kernel.memory.objects c.regions.invariant.copies c.at-region.result (region_there c.args.kernel.now c.regions.kernel c.args.pid c.regions.i c.regions-in-regions.result.now c.at-region.result c.regions.invariant.only c.regions-in-regions.ensures c.at-region.ensures) (sym c.accessible.ensures ∙ c.if-not-accessible.true) }

pub add_copy-requires-clause-room : goal.add_copy-requires-clause-room
add_copy-requires-clause-room c = object_room c.objects_suffice.ensures c.args.kernel.now c.args.pid c.args.child (regions_of c.args.pid c.args.kernel.now.spaces) (may_fork c.regions_fit.ensures.regions c.args.kernel.now c.args.pid c.args.child c.requires.good c.requires.accepted c.requires.unhidden (subst (AreInOrder extent) c.regions-2.ensures c.len-count.ensures.layout.ordered)) c.regions.i c.regions.copies c.regions.kernel.memory.objects c.regions.invariant.copies (let t = c.regions-test.true in let n = c.len-count.ensures.length in let m = ap length c.regions-2.ensures in omega (arith, t, n, m)) (subst (λ (l : List Region). length l ≤ 32) c.regions-2.ensures c.len-count.ensures.layout.few)

pub add_copy-requires-clause-some : goal.add_copy-requires-clause-some
add_copy-requires-clause-some c = pages_some c.region_laws.ensures c.args.kernel.now c.args.pid c.args.child (regions_of c.args.pid c.args.kernel.now.spaces) (may_fork c.regions_fit.ensures.regions c.args.kernel.now c.args.pid c.args.child c.requires.good c.requires.accepted c.requires.unhidden (subst (AreInOrder extent) c.regions-2.ensures c.len-count.ensures.layout.ordered)) c.regions.i c.regions.copies c.regions.kernel.memory.objects c.regions.invariant.copies c.at-region.result (region_there c.args.kernel.now c.regions.kernel c.args.pid c.regions.i c.regions-in-regions.result.now c.at-region.result c.regions.invariant.only c.regions-in-regions.ensures c.at-region.ensures)

pub add_copy-requires-clause-most : goal.add_copy-requires-clause-most
add_copy-requires-clause-most c = pages_most c.region_laws.ensures c.args.kernel.now c.args.pid c.args.child (regions_of c.args.pid c.args.kernel.now.spaces) (may_fork c.regions_fit.ensures.regions c.args.kernel.now c.args.pid c.args.child c.requires.good c.requires.accepted c.requires.unhidden (subst (AreInOrder extent) c.regions-2.ensures c.len-count.ensures.layout.ordered)) c.regions.i c.regions.copies c.regions.kernel.memory.objects c.regions.invariant.copies c.at-region.result (region_there c.args.kernel.now c.regions.kernel c.args.pid c.regions.i c.regions-in-regions.result.now c.at-region.result c.regions.invariant.only c.regions-in-regions.ensures c.at-region.ensures)

pub add_copy-requires-clause-free : goal.add_copy-requires-clause-free
add_copy-requires-clause-free c = pages_free c.region_laws.ensures c.args.kernel.now c.args.pid c.args.child (regions_of c.args.pid c.args.kernel.now.spaces) (may_fork c.regions_fit.ensures.regions c.args.kernel.now c.args.pid c.args.child c.requires.good c.requires.accepted c.requires.unhidden (subst (AreInOrder extent) c.regions-2.ensures c.len-count.ensures.layout.ordered)) c.regions.i c.regions.copies c.regions.kernel.memory.objects c.regions.invariant.copies c.at-region.result (region_there c.args.kernel.now c.regions.kernel c.args.pid c.regions.i c.regions-in-regions.result.now c.at-region.result c.regions.invariant.only c.regions-in-regions.ensures c.at-region.ensures)

pub add_copy-requires-clause-new : goal.add_copy-requires-clause-new
add_copy-requires-clause-new c = let h = number_new c.region_laws.ensures c.args.kernel.now c.args.pid c.args.child (regions_of c.args.pid c.args.kernel.now.spaces) (may_fork c.regions_fit.ensures.regions c.args.kernel.now c.args.pid c.args.child c.requires.good c.requires.accepted c.requires.unhidden (subst (AreInOrder extent) c.regions-2.ensures c.len-count.ensures.layout.ordered)) c.regions.i c.regions.copies c.regions.kernel.memory.objects c.regions.invariant.copies c.at-region.result (region_there c.args.kernel.now c.regions.kernel c.args.pid c.regions.i c.regions-in-regions.result.now c.at-region.result c.regions.invariant.only c.regions-in-regions.ensures c.at-region.ensures) (record { 0 = c.fresh_beside.result }) (subst (λ (l : List Region). length l ≤ 32) c.regions-2.ensures c.len-count.ensures.layout.few) (let m = (may_fork c.regions_fit.ensures.regions c.args.kernel.now c.args.pid c.args.child c.requires.good c.requires.accepted c.requires.unhidden (subst (AreInOrder extent) c.regions-2.ensures c.len-count.ensures.layout.ordered)) in fresh_there c.args.kernel.now c.regions.kernel c.args.child c.fresh_beside.result c.regions.copies c.regions.invariant.only c.fresh_beside.ensures m.place m.free) in rw h refl

pub regions-preserved : goal.regions-preserved
regions-preserved c = record {
  only = only_next c.args.kernel.now c.regions.kernel c.add_copy.new.memory _ c.regions.invariant.only c.add_copy.ensures.made;
  copies = copies_next c.region_laws.ensures c.args.kernel.now c.args.pid c.args.child (regions_of c.args.pid c.args.kernel.now.spaces) (may_fork c.regions_fit.ensures.regions c.args.kernel.now c.args.pid c.args.child c.requires.good c.requires.accepted c.requires.unhidden (subst (AreInOrder extent) c.regions-2.ensures c.len-count.ensures.layout.ordered)) c.regions.i c.regions.copies c.regions.kernel.memory.objects c.regions.invariant.copies c.at-region.result (region_there c.args.kernel.now c.regions.kernel c.args.pid c.regions.i c.regions-in-regions.result.now c.at-region.result c.regions.invariant.only c.regions-in-regions.ensures c.at-region.ensures) (record { 0 = c.fresh_beside.result }) c.add_copy.new.copies c.add_copy.new.memory (subst (λ (l : List Region). length l ≤ 32) c.regions-2.ensures c.len-count.ensures.layout.few) (sym c.accessible.ensures ∙ c.if-not-accessible.false) (object_room c.objects_suffice.ensures c.args.kernel.now c.args.pid c.args.child (regions_of c.args.pid c.args.kernel.now.spaces) (may_fork c.regions_fit.ensures.regions c.args.kernel.now c.args.pid c.args.child c.requires.good c.requires.accepted c.requires.unhidden (subst (AreInOrder extent) c.regions-2.ensures c.len-count.ensures.layout.ordered)) c.regions.i c.regions.copies c.regions.kernel.memory.objects c.regions.invariant.copies (let t = c.regions-test.true in let n = c.len-count.ensures.length in let m = ap length c.regions-2.ensures in omega (arith, t, n, m)) (subst (λ (l : List Region). length l ≤ 32) c.regions-2.ensures c.len-count.ensures.layout.few)) (let m = (may_fork c.regions_fit.ensures.regions c.args.kernel.now c.args.pid c.args.child c.requires.good c.requires.accepted c.requires.unhidden (subst (AreInOrder extent) c.regions-2.ensures c.len-count.ensures.layout.ordered)) in fresh_there c.args.kernel.now c.regions.kernel c.args.child c.fresh_beside.result c.regions.copies c.regions.invariant.only c.fresh_beside.ensures m.place m.free) (adds_there c.args.kernel.now c.regions.kernel (record { 0 = c.fresh_beside.result }) c.at-region.result c.regions.copies c.add_copy.new.copies c.add_copy.new.memory c.regions.invariant.only c.add_copy.ensures);
}

pub returns-clause-ordered : goal.returns-clause-ordered
returns-clause-ordered c = subst (AreInOrder extent) c.regions-2.ensures c.len-count.ensures.layout.ordered
