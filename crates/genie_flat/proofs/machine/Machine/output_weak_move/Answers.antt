use Rattle.std.proofs.Common.{ap, ◌∙◌}
use Rattle.genie_base.specs.declared.semantics.Class.TheVariants.{WeakMove}
use Rattle.genie_model.specs.State.{State}
use Rattle.genie_model.specs.Regions.{reach_of}
use Rattle.genie_model.specs.Pending.{add_transfer}
use Rattle.genie_model.specs.Outputs.{output_of, moved_out, give_up}
use Rattle.genie_tables.specs.Targets.{address_of}
use Rattle.genie_tables.specs.Lemmas.Succeeding.{on_ok}
use Rattle.genie_flat.proofs.machine.Machine.output_weak_move.Goals as goal

pub returns : goal.returns
returns c =
    let s : State = c.args.self.now in
    let reached = reach_of s c.args.pid c.args.addr c.args.len in
    let after : State = add_transfer s (output_of s c.args.pid WeakMove (address_of c.args.target) c.args.addr c.args.len reached) in
    let same = ap (λ (t : State). moved_out t c.number-number.result) c.in_ok-add_output.ensures ∙ ap (moved_out after) c.number-number.ensures ∙ ap (give_up after WeakMove) c.in-Some.ensures in
    on_ok c.move_out.result (λ e. e ∙ same) c.move_out.ensures
