use Rattle.std.proofs.Common.{ap, arith, length}
use Rattle.std.specs.Prelude.{is_some}
use Rattle.genie_kernel.specs.Calls.{has_number}
use Rattle.genie_model.specs.Lemmas.Lists.{find_has}
use Rattle.genie_spaces.proofs.Exiting.{exits_posted_as, loans_out, one_less, posted_found, posted_one, wires_out}
use Rattle.genie_spaces.proofs.exit.end_posted.Goals as goal

pub remove-transfer-requires : goal.remove-transfer-requires
remove-transfer-requires c = ap is_some (posted_found c.args.pid c.args.id.0 c.args.kernel.now c.requires.posted c.requires.settled)

pub give_back-requires-clause-out : goal.give_back-requires-clause-out
give_back-requires-clause-out c = loans_out c.args.kernel.now c.remove-transfer.result c.requires.settled (find_has (has_number c.args.id.0) c.args.kernel.now.transfers c.remove-transfer.result c.remove-transfer.ensures.removed).0

pub give_back-requires-clause-wired : goal.give_back-requires-clause-wired
give_back-requires-clause-wired c = wires_out c.args.kernel.now c.remove-transfer.result c.requires.settled (find_has (has_number c.args.id.0) c.args.kernel.now.transfers c.remove-transfer.result c.remove-transfer.ensures.removed).0

pub returns-clause-exits : goal.returns-clause-exits
returns-clause-exits c = exits_posted_as c.exit_laws.ensures c.args.pid c.args.id.0 c.args.kernel.now c.remove-transfer.result c.give_back.new.frames c.remove-transfer.new.self c.cancel-posted.new.self c.requires.settled c.remove-transfer.ensures.removed
    (posted_one c.args.pid c.args.id.0 c.args.kernel.now c.remove-transfer.result c.requires.posted c.requires.settled c.remove-transfer.ensures.removed)
    c.give_back.ensures c.len.ensures.shaped c.len.ensures.lent c.remove-transfer.ensures.others c.cancel-posted.ensures.others

pub returns-clause-fewer : goal.returns-clause-fewer
returns-clause-fewer c = let less = one_less (has_number c.args.id.0) c.remove-transfer.result c.args.kernel.now.transfers c.remove-transfer.ensures.removed in let same = ap length c.remove-transfer.ensures.others in omega (arith, less, same)
