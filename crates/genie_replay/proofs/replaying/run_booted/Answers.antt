use Rattle.std.proofs.Common.{◌≡◌, [], ap, ◌∙◌, arith}
use Rattle.std.specs.Prelude.{Some}
use Rattle.std.specs.Io.KnownBytes.{prepend_known}
use Rattle.genie_host.specs.Host.{HandleState}
use Rattle.genie_model.specs.State.{boot}
use Rattle.genie_replay.proofs.Opening.{booted_runs, has_inputs, inputs_writing, unbooted_runs}
use Rattle.genie_replay.proofs.Starting.{first_number}
use Rattle.genie_replay.proofs.replaying.run_booted.Goals as goal

pub run_started-requires-clause-outputs : goal.run_started-requires-clause-outputs
run_started-requires-clause-outputs g c = inputs_writing c.devices-devices.result.now _ _ _ _ _ c.in-Ok-read_inputs.ensures (rw c.devices-devices.ensures.lines c.requires.outputs)

pub run_started-requires-clause-first : goal.run_started-requires-clause-first
run_started-requires-clause-first g c =
    let start : c.in-Ok.flat ≡ Some (boot c.args.part.now.config (λ _. [])) = c.in-Ok.ensures ∙ ap (λ k. Some (boot k (λ _. []))) c.config-config.ensures.config in
    first_number _ c.args.part.now.devices c.args.part.now.config _ (has_inputs c.args.part.now c.in-Ok.flat _ c.devices-devices.result.now _ _ _ start c.devices-devices.ensures.lines c.in-Ok-read_inputs.ensures)

pub returns-in-Ok-read_inputs-clause-runs : goal.returns-in-Ok-read_inputs-clause-runs
returns-in-Ok-read_inputs-clause-runs g c =
    let start : c.in-Ok.flat ≡ Some (boot c.args.part.now.config (λ _. [])) = c.in-Ok.ensures ∙ ap (λ k. Some (boot k (λ _. []))) c.config-config.ensures.config in
    let kept = ap (λ (h : HandleState). prepend_known c.args.script.now h.bytes) (c.in-Ok-read_inputs.ensures.kept 1 (omega arith)) in
    booted_runs c.run_started.result c.args.part.now c.in-Ok.flat _ c.devices-devices.result.now _ c.args.step c.args.line.now c.args.before _ _ _ _ start c.devices-devices.ensures.lines c.in-Ok-read_inputs.ensures (rw kept at c.run_started.ensures.runs)

pub returns-in-Err-clause-runs : goal.returns-in-Err-clause-runs
returns-in-Err-clause-runs g c = unbooted_runs c.args.part.now _ c.args.step c.args.line.now c.args.before _
