use Rattle.std.proofs.Common.{subst}
use Rattle.std.specs.Prelude.{IsTrue}
use Rattle.genie_base.specs.Events.{is_whole}
use Rattle.genie_inputs.specs.declared.call.Call.{Call}
use Rattle.genie_inputs.specs.Calls.{input_event}
use Rattle.genie_inputs.proofs.HiddenAgain.{placed_reuses}
use Rattle.genie_inputs.proofs.input.input.Goals as goal

pub returns-in-Some-clause-reuses : goal.returns-in-Some-clause-reuses
returns-in-Some-clause-reuses g c =
    let a = c.args in
    let call : Call = record { pid = a.pid; sem = a.sem; dev = a.dev; port = a.port; flow = a.flow; len = a.len } in
    placed_reuses a.kernel.now c.input_at.new.kernel call c.in-Some.addr c.input_at.result (subst (λ addr. IsTrue (is_whole (input_event call addr))) c.in-Some.is c.requires.whole)
