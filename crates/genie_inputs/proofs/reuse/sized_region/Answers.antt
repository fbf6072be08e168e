use Rattle.std.proofs.Common.{◌≤◌, length, sym, arith}
use Rattle.genie_kernel.specs.Asked.{has_pages}
use Rattle.genie_kernel.specs.Lemmas.Searching.{none_more, none_passes}
use Rattle.genie_model.specs.Lemmas.Lists.{find_none}
use Rattle.genie_inputs.proofs.Finding.{first_at}
use Rattle.genie_inputs.proofs.reuse.sized_region.Goals as goal

pub returns-then-is_sized : goal.returns-then-is_sized
returns-then-is_sized c = sym (first_at (has_pages c.args.id c.args.pages) c.args.regions.now c.each.i c.at-region.result c.each.invariant c.at-region.ensures (sym c.if-is_sized.ensures))

pub each-preserved : goal.each-preserved
each-preserved c = none_more (has_pages c.args.id c.args.pages) c.args.regions.now c.each.i c.at-region.result c.each.invariant c.at-region.ensures (sym c.if-is_sized.ensures)

pub returns : goal.returns
returns c =
    let number = c.len-i-end.ensures.length in
    let least = c.each-test.false in
    let all : length c.args.regions.now ≤ c.each.i = omega (arith, number, least) in
    sym (find_none (has_pages c.args.id c.args.pages) c.args.regions.now (none_passes (has_pages c.args.id c.args.pages) c.args.regions.now c.each.i all c.each.invariant))
