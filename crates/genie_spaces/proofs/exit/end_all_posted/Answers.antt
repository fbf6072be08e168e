use Rattle.std.proofs.Common.{refl, arith, ◌∙◌}
use Rattle.genie_spaces.proofs.Exiting.{exits_none, exits_on}
use Rattle.genie_spaces.proofs.exit.end_all_posted.Goals as goal

pub inputs-init : goal.inputs-init
inputs-init c = let number = c.len.ensures.number in let most = c.len.ensures.most in (exits_none c.args.pid c.args.kernel.now c.requires.settled, refl, omega (arith, number, most))

pub inputs-preserved : goal.inputs-preserved
inputs-preserved c =
    let fewer = c.end_posted.ensures.fewer in
    let before = c.inputs.invariant.2 in
    (exits_on c.args.pid c.args.kernel.now c.inputs.kernel c.end_posted.new.kernel c.requires.settled c.inputs.invariant.0 c.end_posted.ensures.exits, c.end_posted.ensures.spaces ∙ c.inputs.invariant.1, omega (arith, fewer, before))
