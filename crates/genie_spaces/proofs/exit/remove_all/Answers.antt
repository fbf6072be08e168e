use Rattle.std.proofs.Common.{refl, arith, ◌∙◌, ap, length}
use Rattle.genie_spaces.proofs.Exiting.{exits_none, exits_on}
use Rattle.genie_spaces.proofs.exit.remove_all.Goals as goal

pub regions-init : goal.regions-init
regions-init c =
    let same = ap length c.regions-2.ensures in
    let few = c.len.ensures.layout.few in
    (exits_none c.args.pid c.args.kernel.now c.requires.settled, refl, omega (arith, same, few))

pub regions-preserved : goal.regions-preserved
regions-preserved c =
    let fewer = c.remove_first.ensures.fewer in
    let before = c.regions.invariant.2 in
    (exits_on c.args.pid c.args.kernel.now c.regions.kernel c.remove_first.new.kernel c.requires.settled c.regions.invariant.0 c.remove_first.ensures.exits, c.remove_first.ensures.transfers ∙ c.regions.invariant.1, omega (arith, fewer, before))
