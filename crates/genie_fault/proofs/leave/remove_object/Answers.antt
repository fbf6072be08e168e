use Rattle.std.proofs.Common.{◌≢◌, ◌<◌, [], ℕ, arith, ap, length}
use Rattle.genie_object.specs.Objects.{object_at}
use Rattle.genie_object.specs.Leaving.{IsEmpty}
use Rattle.genie_object.specs.Lemmas.ObjectLaws.{some_length}
use Rattle.genie_object.specs.Lemmas.Removed.{removes, all_empty}
use Rattle.genie_fault.proofs.leave.remove_object.Goals as goal

pub remove-requires-clause-empty : goal.remove-requires-clause-empty
remove-requires-clause-empty c = all_empty c.clear.new.memory c.args.object.0 (λ i l. c.clear.ensures.empty i (omega (arith, l, c.clear.ensures.empties.sizes c.args.object.0)))

pub remove-requires-clause-there : goal.remove-requires-clause-there
remove-requires-clause-there c = λ e. absurd (omega (arith, ap length e, c.clear.ensures.empties.sizes c.args.object.0, some_length (object_at c.args.memory.now.objects c.args.object.0) c.requires.there))

pub returns : goal.returns
returns c =
    let mid = c.clear.new.memory in
    let o = c.args.object.0 in
    let there : object_at mid.objects o ≢ [] = λ e. absurd (omega (arith, ap length e, c.clear.ensures.empties.sizes o, some_length (object_at c.args.memory.now.objects o) c.requires.there)) in
    let empty : (i : ℕ) → i < length (object_at mid.objects o) → IsEmpty mid o i = λ i l. c.clear.ensures.empty i (omega (arith, l, c.clear.ensures.empties.sizes o)) in
    rw c.remove.ensures (removes c.args.memory.now mid o c.clear.ensures.empties there empty)
