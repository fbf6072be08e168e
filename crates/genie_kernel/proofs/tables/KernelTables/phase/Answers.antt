use Rattle.std.proofs.Common.{sym, ap, ◌∙◌}
use Rattle.std.specs.Option.{option_map}
use Rattle.genie_kernel.specs.declared.transfer.Transfer.{Transfer}
use Rattle.genie_kernel.specs.View.{no_bytes}
use Rattle.genie_kernel.specs.Lemmas.Asking.{ask_phase}
use Rattle.genie_kernel.proofs.tables.KernelTables.phase.Goals as goal

pub returns-in-Some : goal.returns-in-Some
returns-in-Some c = ap (option_map (λ (t : Transfer). t.phase)) c.in-Some.ensures ∙ sym (ask_phase c.args.self.now (no_bytes c.args.self.now.config.page) c.args.id)

pub returns-in-None : goal.returns-in-None
returns-in-None c = ap (option_map (λ (t : Transfer). t.phase)) c.in-None.ensures ∙ sym (ask_phase c.args.self.now (no_bytes c.args.self.now.config.page) c.args.id)
