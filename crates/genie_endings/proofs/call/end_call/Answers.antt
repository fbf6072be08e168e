use Rattle.genie_endings.proofs.Loans.{loans_out, wires_out}
use Rattle.genie_endings.proofs.call.end_call.Goals as goal

pub give_back-requires-clause-out : goal.give_back-requires-clause-out
give_back-requires-clause-out c = loans_out c.args.kernel.now c.args.id.0 c.remove-transfer.result c.requires.good c.remove-transfer.ensures.removed

pub give_back-requires-clause-wired : goal.give_back-requires-clause-wired
give_back-requires-clause-wired c = wires_out c.args.kernel.now c.args.id.0 c.remove-transfer.result c.requires.good c.remove-transfer.ensures.removed

pub returns : goal.returns
returns c =
    let k = c.args.kernel.now in
    let n = c.args.id.0 in
    let t = c.remove-transfer.result in
    let laws = c.ending_laws.ensures in
    let settled = laws.settled k c.requires.good in
    record {
      found = c.remove-transfer.ensures.removed;
      back = c.give_back.ensures;
      leaves = laws.others k.config.page k.memory k.devices n t k.transfers k.pools c.give_back.new.frames (laws.sound k n settled) c.remove-transfer.ensures.removed c.len.ensures.shaped c.len.ensures.lent c.give_back.ensures;
      only = λ i. record k { memory = record (k.memory) { frames = c.give_back.new.frames }; transfers = c.remove-transfer.ensures.others i };
    }
