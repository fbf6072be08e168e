use Rattle.std.proofs.Common.{◌≡◌, sym, ◌∙◌}
use Rattle.std.specs.Prelude.{Some, None}
use Rattle.genie_base.specs.Counts.{span, cost}
use Rattle.genie_base.specs.Transfers.{class_of}
use Rattle.genie_base.specs.declared.semantics.Direction.TheVariants.{Inward}
use Rattle.genie_model.specs.Refusing.{first_cause, target_causes, call_causes}
use Rattle.genie_model.specs.Inputs.{address_or_zero}
use Rattle.genie_model.specs.Lemmas.Causes.{append_none, append_some}
use Rattle.genie_refusal.proofs.transfers.refuse_input.Goals as goal

pub returns-in-Some : goal.returns-in-Some
returns-in-Some g c = λ port flow.
    let s = g.T.Tables.state c.args.tables.now in
    let class = class_of c.args.sem in
    let a = address_or_zero c.args.addr in
    let target = target_causes s c.args.pid class c.args.dev a c.args.len in
    let here : Some c.in-Some.refusal ≡ first_cause target = rw (c.class.ensures, c.address_or_zero-addr.ensures) at c.in-Some.ensures in
    sym (append_some target (call_causes s (cost class Inward (span s.config.page a c.args.len))) c.in-Some.refusal (sym here))

pub returns-in-None : goal.returns-in-None
returns-in-None g c = λ port flow.
    let s = g.T.Tables.state c.args.tables.now in
    let class = class_of c.args.sem in
    let a = address_or_zero c.args.addr in
    let frames = cost class Inward (span s.config.page a c.args.len) in
    let target = target_causes s c.args.pid class c.args.dev a c.args.len in
    let none : None ≡ first_cause target = rw (c.class.ensures, c.address_or_zero-addr.ensures) at c.in-None.ensures in
    let call : c.refuse_call.result ≡ first_cause (call_causes s frames) = rw (c.class-in-None.ensures, c.address_or_zero-addr.ensures) at c.refuse_call.ensures in
    call ∙ sym (append_none target (call_causes s frames) (sym none))
