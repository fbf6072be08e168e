use Rattle.std.proofs.Common.{◌≡◌, ◌++◌, map, take, drop}
use Rattle.genie_object.specs.Objects.{revoked}
use Rattle.genie_object.proofs.object.revoke_entries.Given as goal

abbrev pub invariant-loop-entry : goal.invariant-loop-entry
invariant-loop-entry l = l.entries ≡ map (revoked l.page.0) (take l.entry-index l.initial.entries) ++ drop l.entry-index l.initial.entries
