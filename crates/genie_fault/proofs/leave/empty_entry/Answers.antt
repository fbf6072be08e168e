use Rattle.std.proofs.Common.{subst, sym, ap, ◌∙◌}
use Rattle.genie_object.specs.Memory.{seen}
use Rattle.genie_object.specs.Touching.{KeepsLoans, is_entry}
use Rattle.genie_object.specs.Leaving.{IsEmpty, Empties}
use Rattle.genie_object.specs.Lemmas.Emptied.{is_emptied, empties_entry, seen_emptied, keeps_emptied}
use Rattle.genie_fault.proofs.leave.empty_entry.Goals as goal

pub returns-clause-empty : goal.returns-clause-empty
returns-clause-empty c = subst (λ m. IsEmpty m c.args.at.object.0 c.args.at.index) (sym c.leave_entry.ensures) (is_emptied c.args.memory.now c.args.at.object.0 c.args.at.index c.requires.sound)

pub returns-clause-empties : goal.returns-clause-empties
returns-clause-empties c = subst (Empties (is_entry c.args.at.object.0 c.args.at.index) c.args.memory.now) (sym c.leave_entry.ensures) (empties_entry c.args.memory.now c.args.at.object.0 c.args.at.index c.requires.sound)

pub returns-clause-seen : goal.returns-clause-seen
returns-clause-seen c h slots = ap (λ m. seen m slots) c.leave_entry.ensures ∙ seen_emptied c.args.memory.now c.args.at.object.0 c.args.at.index slots c.requires.sound h

pub returns-clause-keeps : goal.returns-clause-keeps
returns-clause-keeps c h = subst (KeepsLoans c.args.memory.now) (sym c.leave_entry.ensures) (keeps_emptied c.args.memory.now c.args.at.object.0 c.args.at.index c.requires.sound h)
