use Rattle.genie_changes.specs.Ending.{wired_frames}
use Rattle.genie_kernel.specs.Loans.{loans_of}
use Rattle.genie_changes.proofs.LoansOut.{out_unwired}
use Rattle.genie_changes.proofs.giving.give_back.Goals as goal

pub end_loans-requires : goal.end_loans-requires
end_loans-requires c = out_unwired (wired_frames c.args.transfer.now) c.args.frames.now c.unwire.new.frames (loans_of c.args.transfer.now.loans) c.unwire.ensures c.requires.out
