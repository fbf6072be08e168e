-- The header is matched.
use Rattle.std.proofs.Common.{◌≡◌, List, ℕ, refl, sym, ◌∙◌}
use Rattle.std.specs.Prelude.{Some, None}
use Rattle.genie_base.specs.Headers.{port_in, flow_in}
use Rattle.genie_model.specs.State.{State}
use Rattle.genie_model.specs.Pending.{first_posted}
use Rattle.genie_model.specs.Receiving.{match_header, receive_payload}
use Rattle.genie_tables.specs.Lemmas.Succeeding.{if_ok}
use Rattle.genie_flat.proofs.machine.Machine.match_header.Goals as goal

pub returns-in-Some : goal.returns-in-Some
returns-in-Some c =
    let s : State = c.args.self.now in
    let header : List ℕ = c.args.header.now in
    let found : first_posted s c.args.dev (port_in header) (flow_in header) ≡ Some c.in-Some.number = sym (rw (c.port-port.ensures, c.flow-flow.ensures, c.new-g.ensures) at c.in-Some.ensures) in
    let same : match_header s c.args.dev c.args.left c.args.v header c.args.h (first_posted s c.args.dev (port_in header) (flow_in header)) ≡ receive_payload c.change_transfer.new.self c.args.dev c.args.left c.args.v c.new-g-in-Some.result c.args.h =
    rw (found, c.in_ok-change_transfer-in-Some.ensures, c.new-g-in-Some.ensures) refl in
    if_ok c.receive_payload.result (λ reply e. same ∙ e) c.receive_payload.ensures

pub returns : goal.returns
returns c =
    let s : State = c.args.self.now in
    let header : List ℕ = c.args.header.now in
    let found : first_posted s c.args.dev (port_in header) (flow_in header) ≡ None = sym (rw (c.port-port.ensures, c.flow-flow.ensures, c.new-g.ensures) at c.in-None.ensures) in
    rw (found, c.set_device.ensures, c.set_present.ensures, c.with_payload.ensures, c.port-port.ensures, c.flow-flow.ensures, c.len-len.ensures, c.new-g.ensures) refl
