use Rattle.std.proofs.Common.{◌∙◌}
use Rattle.std.proofs.Common.{ap}
use Rattle.genie_frame.specs.declared.frame.Meters.{Meters}
use Rattle.std.proofs.Common.{arith, ◌^◌}
use Rattle.std.specs.Prelude.{None}
use Rattle.genie_kernel.specs.Lemmas.Rising.{rises_same, rises_twice}
use Rattle.genie_inputs.specs.Ready.{IsReady}
use Rattle.genie_changes.specs.Making.{IsMoved}
use Rattle.genie_inputs.proofs.Accepted.{may_input}
use Rattle.genie_inputs.proofs.HiddenAgain.{on_err}
use Rattle.genie_inputs.proofs.Holding.{hold_room, made_by_move}
use Rattle.genie_inputs.proofs.Placing.{may_place}
use Rattle.genie_inputs.proofs.Readied.{ready_cleared, ready_on}
use Rattle.genie_inputs.proofs.Moving.{moves_none, moves_on}
use Rattle.genie_inputs.proofs.hidden.lend_anew.Goals as goal

pub make_room-requires-clause-alive : goal.make_room-requires-clause-alive
make_room-requires-clause-alive g c = (may_input c.args.kernel.now c.args.call None c.requires.good c.requires.accepted).alive

pub make_room-requires-clause-few : goal.make_room-requires-clause-few
make_room-requires-clause-few g c = (may_place c.args.kernel.now c.args.call c.requires.good c.requires.accepted (made_by_move c.args.kernel.now c.args.call c.requires.class)).few

pub lend_strongly-requires-clause-frames : goal.lend_strongly-requires-clause-frames
lend_strongly-requires-clause-frames g c = (hold_room c.input_laws.ensures.room c.args.kernel.now c.make_room.new.kernel c.args.call c.make_room.ensures.clears c.requires.class c.requires.accepted).1

pub returns-clause-ready : goal.returns-clause-ready
returns-clause-ready g c =
    let old = c.args.kernel.now in
    let cleared = c.make_room.new.kernel in
    let new = c.lend_strongly.new.kernel in
    let v = g.S.Store.view c.args.store.now in
    let w = g.S.Store.view c.lend_strongly.new.store in
    on_err c.lend_strongly.result (IsMoved cleared new v w) (IsReady old new v w) (λ moved. ready_on old cleared new v v w (ready_cleared old cleared v c.requires.good c.requires.sized c.make_room.ensures.clears) moved) c.lend_strongly.ensures.moved

pub returns-clause-rises : goal.returns-clause-rises
returns-clause-rises g c = rises_twice 0 (2 ^ 20) (2 ^ 20) c.args.kernel.now.memory.frames c.make_room.new.kernel.memory.frames c.lend_strongly.new.kernel.memory.frames (omega arith) (rises_same 0 c.args.kernel.now.memory.frames c.make_room.new.kernel.memory.frames c.make_room.ensures.clears.meters c.make_room.ensures.clears.landed) c.lend_strongly.ensures.rises

pub returns-clause-copying : goal.returns-clause-copying
returns-clause-copying g c = moves_on c.args.kernel.now.memory c.make_room.new.kernel.memory c.lend_strongly.new.kernel.memory (moves_none c.args.kernel.now.memory c.make_room.new.kernel.memory c.make_room.ensures.clears.meters) c.lend_strongly.ensures.copying

pub returns-clause-gets : goal.returns-clause-gets
returns-clause-gets g c = c.lend_strongly.ensures.gets ∙ ap (λ (w : Meters). w.gets) c.make_room.ensures.clears.meters
