use Rattle.std.proofs.Common.{◌≡◌, sym, ap, arith, ◌∙◌, None, Some}
use Rattle.std.specs.Prelude.{slice_get}
use Rattle.std.specs.Option.{option_map}
use Rattle.genie_base.specs.declared.numbers.RegionId.{RegionId}
use Rattle.genie_kernel.specs.Asked.{is_reusable}
use Rattle.genie_kernel.specs.Lemmas.Searching.{got_none, none_more, none_passes}
use Rattle.genie_inputs.proofs.Finding.{finds_in}
use Rattle.genie_inputs.proofs.reuse.oldest.Goals as goal

pub returns-in_default : goal.returns-in_default
returns-in_default c =
    let none : slice_get c.args.queue.now c.each.i ≡ None = sym c.at-in-each.ensures.region ∙ ap (option_map (λ (id : RegionId). id.0)) c.in_default.is in
    none_passes (is_reusable c.args.regions.now c.args.transfers.now c.args.pages) c.args.queue.now c.each.i (got_none c.args.queue.now c.each.i none) c.each.invariant

pub returns-then-is_free : goal.returns-then-is_free
returns-then-is_free c =
    let some : slice_get c.args.queue.now c.each.i ≡ Some c.in-Some.id.0 = sym c.at-in-each.ensures.region ∙ ap (option_map (λ (id : RegionId). id.0)) c.in-Some.is in
    finds_in c.args.queue.now c.args.regions.now c.args.transfers.now c.args.pages c.each.i c.in-Some.id.0 c.each.invariant some (sym c.if-is_free.ensures) c.sized_region.result c.sized_region.ensures

pub each-preserved : goal.each-preserved
each-preserved c =
    let some : slice_get c.args.queue.now c.each.i ≡ Some c.in-Some.id.0 = sym c.at-in-each.ensures.region ∙ ap (option_map (λ (id : RegionId). id.0)) c.in-Some.is in
    none_more (is_reusable c.args.regions.now c.args.transfers.now c.args.pages) c.args.queue.now c.each.i c.in-Some.id.0 c.each.invariant some (sym c.if-is_free.ensures)

pub returns : goal.returns
returns c =
    let few = c.at.ensures.queue.few in
    let least = c.each-test.false in
    none_passes (is_reusable c.args.regions.now c.args.transfers.now c.args.pages) c.args.queue.now c.each.i (omega (arith, few, least)) c.each.invariant
