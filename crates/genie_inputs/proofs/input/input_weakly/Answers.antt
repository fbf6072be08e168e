use Rattle.genie_inputs.proofs.Finding.{must_be_made}
use Rattle.genie_inputs.proofs.input.input_weakly.Goals as goal

pub fill-requires-clause-made : goal.fill-requires-clause-made
fill-requires-clause-made g c = must_be_made c.args.kernel.now c.args.call c.requires.good c.requires.class c.requires.accepted c.find_reusable.result c.in-None.is c.find_reusable.ensures
