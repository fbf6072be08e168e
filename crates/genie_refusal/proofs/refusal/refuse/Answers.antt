use Rattle.genie_refusal.proofs.refusal.refuse.Goals as goal

pub returns-in-Output : goal.returns-in-Output
returns-in-Output g c = rw c.in-Output.is (c.refuse_output.ensures c.in-Output.port c.in-Output.flow)

pub returns-in-Input : goal.returns-in-Input
returns-in-Input g c = rw c.in-Input.is (c.refuse_input.ensures c.in-Input.port c.in-Input.flow)
