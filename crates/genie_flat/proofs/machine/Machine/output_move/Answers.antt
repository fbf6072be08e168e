use Rattle.std.proofs.Common.{◌≡◌, ap, ◌∙◌}
use Rattle.std.specs.Prelude.{Option, Some, None, OnOk, Result}
use Rattle.std.specs.Option.{option_map}
use Rattle.genie_base.specs.declared.no_memory.NoMemory.{NoMemory}
use Rattle.genie_base.specs.declared.semantics.Class.TheVariants.{Move}
use Rattle.genie_model.specs.State.{State, Region, Orphan}
use Rattle.genie_model.specs.Regions.{reach_of}
use Rattle.genie_model.specs.Space.{as_orphan, remove}
use Rattle.genie_model.specs.Outputs.{give_up}
use Rattle.genie_tables.specs.Lemmas.Succeeding.{on_ok}
use Rattle.genie_flat.proofs.machine.Machine.output_move.Goals as goal

removed : {T : Type 0} (t new : State) (o : Option Region) (orphan : Orphan) (result : Result T NoMemory) → Some orphan ≡ option_map as_orphan o → ((r : Region) → as_orphan r ≡ orphan → OnOk result (new ≡ remove t r)) → OnOk result (new ≡ give_up t Move o)
removed t new None orphan result e f = absurd (cc)
removed t new (Some r) orphan result e f = f r (cc)

pub returns : goal.returns
returns c =
    let s : State = c.args.self.now in
    let reached = reach_of s c.args.pid c.args.addr c.args.len in
    let gone = removed c.add_output.new.self c.remove.new.self reached c.in_ok-orphan.orphan c.remove.result c.in_ok-orphan.ensures c.remove.ensures in
    on_ok c.remove.result (λ e. e ∙ ap (λ (t : State). give_up t Move reached) c.in_ok-add_output.ensures) gone
