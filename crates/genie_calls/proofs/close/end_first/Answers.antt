use Rattle.std.proofs.Common.{refl, ap, arith, length}
use Rattle.std.specs.Prelude.{is_some}
use Rattle.genie_calls.proofs.Ending.{ended_as_lent, ended_as_rest, first_call, loans_out, one_fewer, wires_out}
use Rattle.genie_calls.proofs.close.end_first.Goals as goal

pub remove-transfer-requires : goal.remove-transfer-requires
remove-transfer-requires c = let first = first_call c.at.result.now.id.0 c.args.kernel.now.transfers c.at.result.now c.requires.some c.at.ensures refl in ap is_some first.found

pub give_back-requires-clause-out : goal.give_back-requires-clause-out
give_back-requires-clause-out c = loans_out c.args.kernel.now c.at.result.now.id.0 c.remove-transfer.result c.requires.lent c.remove-transfer.ensures.removed

pub give_back-requires-clause-wired : goal.give_back-requires-clause-wired
give_back-requires-clause-wired c = wires_out c.args.kernel.now c.at.result.now.id.0 c.remove-transfer.result c.requires.lent c.remove-transfer.ensures.removed

pub returns-clause-lent : goal.returns-clause-lent
returns-clause-lent c = ended_as_lent c.close_laws.ensures c.args.kernel.now c.at.result.now.id.0 c.remove-transfer.result c.give_back.new.frames c.remove-transfer.new.self c.cancel-posted.new.self c.requires.lent (first_call c.at.result.now.id.0 c.args.kernel.now.transfers c.at.result.now c.requires.some c.at.ensures refl) c.remove-transfer.ensures.removed c.len.ensures.shaped c.len.ensures.lent c.give_back.ensures c.remove-transfer.ensures.others c.cancel-posted.ensures.others

pub returns-clause-rest : goal.returns-clause-rest
returns-clause-rest c = ended_as_rest c.close_laws.ensures c.args.kernel.now c.at.result.now.id.0 c.remove-transfer.result c.give_back.new.frames c.remove-transfer.new.self c.cancel-posted.new.self c.requires.lent c.remove-transfer.ensures.removed c.len.ensures.shaped c.len.ensures.lent c.give_back.ensures

pub returns-clause-fewer : goal.returns-clause-fewer
returns-clause-fewer c =
    let less = one_fewer c.at.result.now.id.0 c.args.kernel.now.transfers (first_call c.at.result.now.id.0 c.args.kernel.now.transfers c.at.result.now c.requires.some c.at.ensures refl) in
    let same = ap length c.remove-transfer.ensures.others in
    omega (arith, less, same)
