use Rattle.std.proofs.Common.{◌≤◌, length, arith}
use Rattle.genie_kernel.specs.Searches.{passes}
use Rattle.genie_kernel.specs.Lemmas.Searching.{none_passes}
use Rattle.genie_kernel.proofs.transfers.first_of.Goals as goal

pub returns-clause-none : goal.returns-clause-none
returns-clause-none c =
    let number = c.len-i-end.ensures.number in
    let least = c.each-test.false in
    let all : length c.args.transfers.now ≤ c.each.i = omega (arith, number, least) in
    λ none. none_passes (passes c.args.search) c.args.transfers.now c.each.i all c.each.invariant
