use Rattle.std.proofs.Common.{ap}
use Rattle.std.specs.Io.KnownBytes.{prepend_known}
use Rattle.genie_host.specs.Host.{HandleState}
use Rattle.genie_replay.proofs.Opening.{script_outcome, short_outcome, told_outcome}
use Rattle.genie_replay.specs.Lemmas.Opened.{opened, opened_reading, opened_writing, script_read, script_refused, short_opening}
use Rattle.genie_replay.proofs.replaying.replay.Goals as goal

pub run_booted-requires-clause-outputs : goal.run_booted-requires-clause-outputs
run_booted-requires-clause-outputs g c =
    let old = g.H.Host.view c.args.host.now in
    rw (← c.devices.ensures.lines) (opened_writing c.args.name.now c.devices.result.now _ _ _ (opened c.args.name.now _ (old.names c.args.name.now) _ _ old _ _ _ c.requires c.in-Ok.ensures c.in-Ok-Whole.ensures.only c.in-Ok-open_files.ensures.opened c.in-Ok-open_files.ensures.opening.kept c.in-Ok-open_files.ensures.fresh c.in-Ok-open_files.ensures.inputs))

pub run_booted-requires-clause-inputs : goal.run_booted-requires-clause-inputs
run_booted-requires-clause-inputs g c =
    let old = g.H.Host.view c.args.host.now in
    rw (← c.devices.ensures.lines) (opened_reading c.args.name.now c.devices.result.now _ _ _ (opened c.args.name.now _ (old.names c.args.name.now) _ _ old _ _ _ c.requires c.in-Ok.ensures c.in-Ok-Whole.ensures.only c.in-Ok-open_files.ensures.opened c.in-Ok-open_files.ensures.opening.kept c.in-Ok-open_files.ensures.fresh c.in-Ok-open_files.ensures.inputs))

pub returns-in-Ok-open_files-clause-outcome : goal.returns-in-Ok-open_files-clause-outcome
returns-in-Ok-open_files-clause-outcome g c =
    let old = g.H.Host.view c.args.host.now in
    let o = opened c.args.name.now c.in-Ok-Whole.part.devices (old.names c.args.name.now) _ _ old _ _ _ c.requires c.in-Ok.ensures c.in-Ok-Whole.ensures.only (rw c.devices.ensures.lines at c.in-Ok-open_files.ensures.opened) c.in-Ok-open_files.ensures.opening.kept (rw c.devices.ensures.lines at c.in-Ok-open_files.ensures.fresh) (rw c.devices.ensures.lines at c.in-Ok-open_files.ensures.inputs) in
    told_outcome _ c.run_booted.result c.args.name.now (old.names c.args.name.now) _ _ _ c.in-Ok-Whole.part c.in-Ok-Whole.step c.in-Ok-Whole.before old _ _ _ (rw c.requires at c.in-Ok.ensures.told) (rw (c.new-script.ensures, c.in-Ok-Whole.field-0-is) at c.in-Ok-Whole.ensures.boot) o (rw (ap (λ (h : HandleState). prepend_known c.read_boot.new.script h.bytes) o.input) at c.run_booted.ensures.runs)

pub returns-in-Err-Memory-clause-outcome : goal.returns-in-Err-Memory-clause-outcome
returns-in-Err-Memory-clause-outcome g c = (script_outcome ((g.H.Host.view c.args.host.now).names c.args.name.now) c.args.name.now _ _ c.requires (script_refused c.args.name.now _ _ _ _ _ c.requires c.in-Err-Memory.ensures)).1

pub returns-in-Err-Failed-clause-outcome : goal.returns-in-Err-Failed-clause-outcome
returns-in-Err-Failed-clause-outcome g c = (script_outcome ((g.H.Host.view c.args.host.now).names c.args.name.now) c.args.name.now _ _ c.requires (script_refused c.args.name.now _ _ _ _ _ c.requires c.in-Err-Failed.ensures)).0

pub returns-in-Ok-NoMemory-clause-outcome : goal.returns-in-Ok-NoMemory-clause-outcome
returns-in-Ok-NoMemory-clause-outcome g c = (script_outcome ((g.H.Host.view c.args.host.now).names c.args.name.now) c.args.name.now _ _ c.requires (script_read c.args.name.now _ _ _ _ _ _ c.requires c.in-Ok.ensures c.in-Ok-NoMemory.ensures.only)).1

pub returns-in-Err-clause-outcome : goal.returns-in-Err-clause-outcome
returns-in-Err-clause-outcome g c = (script_outcome ((g.H.Host.view c.args.host.now).names c.args.name.now) c.args.name.now _ _ c.requires (script_read c.args.name.now _ _ _ _ _ _ c.requires c.in-Ok.ensures c.in-Err.ensures.only)).0

pub returns-in-Err-Memory-open_files-clause-outcome : goal.returns-in-Err-Memory-open_files-clause-outcome
returns-in-Err-Memory-open_files-clause-outcome g c =
    let e = rw c.devices.ensures.lines at c.in-Err-Memory-open_files.ensures.opening in
    let cut = short_opening c.args.name.now c.in-Ok-Whole.part.devices _ _ _ _ _ _ _ _ _ c.requires c.in-Ok.ensures c.in-Ok-Whole.ensures.only e (rw c.devices.ensures.lines at c.in-Err-Memory-open_files.ensures.unwritten) in
    (short_outcome _ c.args.name.now _ _ _ _ c.in-Ok-Whole.part c.in-Ok-Whole.step c.in-Ok-Whole.before _ _ (rw c.requires at c.in-Ok.ensures.told) (rw (c.new-script.ensures, c.in-Ok-Whole.field-0-is) at c.in-Ok-Whole.ensures.boot) cut).1

pub returns-clause-outcome : goal.returns-clause-outcome
returns-clause-outcome g c =
    let e = rw c.devices.ensures.lines at c.in-Err-Failed-open_files.ensures.opening in
    let cut = short_opening c.args.name.now c.in-Ok-Whole.part.devices _ _ _ _ _ _ _ _ _ c.requires c.in-Ok.ensures c.in-Ok-Whole.ensures.only e (rw c.devices.ensures.lines at c.in-Err-Failed-open_files.ensures.unwritten) in
    (short_outcome _ c.args.name.now _ _ _ _ c.in-Ok-Whole.part c.in-Ok-Whole.step c.in-Ok-Whole.before _ _ (rw c.requires at c.in-Ok.ensures.told) (rw (c.new-script.ensures, c.in-Ok-Whole.field-0-is) at c.in-Ok-Whole.ensures.boot) cut).0
