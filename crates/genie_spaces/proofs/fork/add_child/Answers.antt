use Rattle.std.proofs.Common.{ap, arith, get_or-set_same, ◌∙◌, []}
use Rattle.std.specs.Prelude.{Some, None, is_some, slice_set}
use Rattle.std.proofs.lemmas.List.{set-set}
use Rattle.genie_space.specs.Spaces.{AddressSpaces, is_alive, set_regions}
use Rattle.genie_spaces.proofs.fork.add_child.Goals as goal

pub regions_mut-regions-requires : goal.regions_mut-regions-requires
regions_mut-regions-requires c = ap (is_alive c.args.child) c.spawn.ensures ∙ ap is_some (get_or-set_same c.args.kernel.now.spaces.processes c.args.child (Some []) None (let n = c.requires.number in let s = c.requires.size in omega (arith, n, s)))

pub returns : goal.returns
returns c =
    let k = c.args.kernel.now in
    let same = set-set k.spaces.processes c.args.child (Some []) (Some c.args.copies) in
    λ j. record k {
      spaces = (ap (λ (s : AddressSpaces). set_regions s c.args.child c.args.copies) c.spawn.ensures ∙ (λ i. record (k.spaces) { processes = same i })) j;
      queues = slice_set k.queues c.args.child (c.new.ensures j);
    }
