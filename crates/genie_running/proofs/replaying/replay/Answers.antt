use Rattle.std.proofs.Common.{ap, ◌∙◌}
use Rattle.std.specs.Io.KnownBytes.{prepend_known}
use Rattle.genie_host.specs.Host.{HandleState}
use Rattle.genie_replay.specs.Lemmas.Opened.{opened, opened_reading, opened_writing, script_read, script_refused, short_opening}
use Rattle.genie_running.proofs.Opening.{booted_outcome, cause_before, later_open, script_cut, short_cut}
use Rattle.genie_running.proofs.replaying.replay.Goals as goal

pub returns-in-Err-Memory-clause-outcome : goal.returns-in-Err-Memory-clause-outcome
returns-in-Err-Memory-clause-outcome g c = rw (c.unbooted.ensures.status, c.unbooted.ensures.kernel) ((script_cut _ ((g.H.Host.view c.args.host.now).names c.args.name.now) c.args.name.now (g.H.Host.view c.args.host.now) _ (g.S.Store.view c.args.store.now) (g.S.Store.view c.args.store.now) c.requires.closed (script_refused c.args.name.now _ _ _ _ _ c.requires.closed c.in-Err-Memory.ensures)).1)

pub returns-in-Err-Failed-clause-outcome : goal.returns-in-Err-Failed-clause-outcome
returns-in-Err-Failed-clause-outcome g c = rw (c.unbooted-in-Err-Failed.ensures.status, c.unbooted-in-Err-Failed.ensures.kernel) ((script_cut _ ((g.H.Host.view c.args.host.now).names c.args.name.now) c.args.name.now (g.H.Host.view c.args.host.now) _ (g.S.Store.view c.args.store.now) (g.S.Store.view c.args.store.now) c.requires.closed (script_refused c.args.name.now _ _ _ _ _ c.requires.closed c.in-Err-Failed.ensures)).0)

pub returns-in-Ok-NoMemory-clause-outcome : goal.returns-in-Ok-NoMemory-clause-outcome
returns-in-Ok-NoMemory-clause-outcome g c = rw (c.unbooted-in-Ok-NoMemory.ensures.status, c.unbooted-in-Ok-NoMemory.ensures.kernel) ((script_cut _ ((g.H.Host.view c.args.host.now).names c.args.name.now) c.args.name.now (g.H.Host.view c.args.host.now) _ (g.S.Store.view c.args.store.now) (g.S.Store.view c.args.store.now) c.requires.closed (script_read c.args.name.now _ _ _ _ _ _ c.requires.closed c.in-Ok.ensures c.in-Ok-NoMemory.ensures.only)).1)

pub returns-in-Err-clause-outcome : goal.returns-in-Err-clause-outcome
returns-in-Err-clause-outcome g c = rw (c.unbooted-in-Err.ensures.status, c.unbooted-in-Err.ensures.kernel) ((script_cut _ ((g.H.Host.view c.args.host.now).names c.args.name.now) c.args.name.now (g.H.Host.view c.args.host.now) _ (g.S.Store.view c.args.store.now) (g.S.Store.view c.args.store.now) c.requires.closed (script_read c.args.name.now _ _ _ _ _ _ c.requires.closed c.in-Ok.ensures c.in-Err.ensures.only)).0)

pub run_booted-requires-clause-inputs : goal.run_booted-requires-clause-inputs
run_booted-requires-clause-inputs g c =
    let old = g.H.Host.view c.args.host.now in
    opened_reading c.args.name.now c.in-Ok-Whole.part.devices _ _ _ (opened c.args.name.now c.in-Ok-Whole.part.devices (old.names c.args.name.now) _ _ old _ _ _ c.requires.closed c.in-Ok.ensures c.in-Ok-Whole.ensures.only (rw c.devices.ensures.lines at c.in-Ok-open_files.ensures.opened) c.in-Ok-open_files.ensures.opening.kept (rw c.devices.ensures.lines at c.in-Ok-open_files.ensures.fresh) (rw c.devices.ensures.lines at c.in-Ok-open_files.ensures.inputs))

pub run_booted-requires-clause-outputs : goal.run_booted-requires-clause-outputs
run_booted-requires-clause-outputs g c =
    let old = g.H.Host.view c.args.host.now in
    opened_writing c.args.name.now c.in-Ok-Whole.part.devices _ _ _ (opened c.args.name.now c.in-Ok-Whole.part.devices (old.names c.args.name.now) _ _ old _ _ _ c.requires.closed c.in-Ok.ensures c.in-Ok-Whole.ensures.only (rw c.devices.ensures.lines at c.in-Ok-open_files.ensures.opened) c.in-Ok-open_files.ensures.opening.kept (rw c.devices.ensures.lines at c.in-Ok-open_files.ensures.fresh) (rw c.devices.ensures.lines at c.in-Ok-open_files.ensures.inputs))

pub returns-in-Ok-open_files-clause-outcome : goal.returns-in-Ok-open_files-clause-outcome
returns-in-Ok-open_files-clause-outcome g c =
    let old = g.H.Host.view c.args.host.now in
    let o = opened c.args.name.now c.in-Ok-Whole.part.devices (old.names c.args.name.now) _ _ old _ _ _ c.requires.closed c.in-Ok.ensures c.in-Ok-Whole.ensures.only (rw c.devices.ensures.lines at c.in-Ok-open_files.ensures.opened) c.in-Ok-open_files.ensures.opening.kept (rw c.devices.ensures.lines at c.in-Ok-open_files.ensures.fresh) (rw c.devices.ensures.lines at c.in-Ok-open_files.ensures.inputs) in
    let later = later_open c.args.name.now ((g.H.Host.view c.args.host.now).names c.args.name.now) _ _ (g.H.Host.view c.args.host.now) (g.H.Host.view c.open_read.new.self) (g.H.Host.view c.read_boot.new.host) (g.H.Host.view c.open_files.new.host) c.in-Ok.ensures c.in-Ok-Whole.ensures.only c.in-Ok-Whole.ensures.cause.later c.in-Ok-open_files.ensures.opened.faults in
    booted_outcome _ _ c.run_booted.result.status c.run_booted.result.kernel c.args.name.now (old.names c.args.name.now) _ _ _ c.in-Ok-Whole.part c.in-Ok-Whole.step c.in-Ok-Whole.before old _ _ _ _ _
    (rw c.requires.closed at c.in-Ok.ensures.told) (rw (c.new-script.ensures, c.in-Ok-Whole.field-0-is) at c.in-Ok-Whole.ensures.boot) (rw c.in-Ok-Whole.field-0-is at c.in-Ok-Whole.ensures.placed) o later
    (opened_reading c.args.name.now c.in-Ok-Whole.part.devices _ _ _ o) (opened_writing c.args.name.now c.in-Ok-Whole.part.devices _ _ _ o) c.run_booted.ensures.kernel
    (rw (ap (λ (h : HandleState). prepend_known c.read_boot.new.script h.bytes) o.input) at c.run_booted.ensures.runs)

pub returns-in-Ok-open_files-clause-fault : goal.returns-in-Ok-open_files-clause-fault
returns-in-Ok-open_files-clause-fault g c = λ e.
    let later = later_open c.args.name.now ((g.H.Host.view c.args.host.now).names c.args.name.now) _ _ (g.H.Host.view c.args.host.now) (g.H.Host.view c.open_read.new.self) (g.H.Host.view c.read_boot.new.host) (g.H.Host.view c.open_files.new.host) c.in-Ok.ensures c.in-Ok-Whole.ensures.only c.in-Ok-Whole.ensures.cause.later c.in-Ok-open_files.ensures.opened.faults in
    cause_before (g.H.Host.view c.args.host.now) (g.H.Host.view c.open_files.new.host) (g.H.Host.view c.run_booted.new.host) (g.S.Store.view c.args.store.now) (g.S.Store.view c.run_booted.new.store) later (c.in-Ok-open_files.ensures.opened.faults.refusals ∙ c.in-Ok-Whole.ensures.only.refusals ∙ c.in-Ok.ensures.kept) (c.run_booted.ensures.fault e)

pub returns-in-Err-Memory-open_files-clause-outcome : goal.returns-in-Err-Memory-open_files-clause-outcome
returns-in-Err-Memory-open_files-clause-outcome g c =
    let e = rw c.devices.ensures.lines at c.in-Err-Memory-open_files.ensures.opening in
    let cut = short_opening c.args.name.now c.in-Ok-Whole.part.devices _ _ _ _ _ _ _ _ _ c.requires.closed c.in-Ok.ensures c.in-Ok-Whole.ensures.only e (rw c.devices.ensures.lines at c.in-Err-Memory-open_files.ensures.unwritten) in
    rw (c.unbooted-in-Err-Memory-open_files.ensures.status, c.unbooted-in-Err-Memory-open_files.ensures.kernel)
    ((short_cut _ _ c.args.name.now ((g.H.Host.view c.args.host.now).names c.args.name.now) _ _ _ c.in-Ok-Whole.part c.in-Ok-Whole.step c.in-Ok-Whole.before (g.H.Host.view c.args.host.now) (g.H.Host.view c.open_files.new.host) (g.S.Store.view c.args.store.now) (g.S.Store.view c.args.store.now) (rw c.requires.closed at c.in-Ok.ensures.told) (rw (c.new-script.ensures, c.in-Ok-Whole.field-0-is) at c.in-Ok-Whole.ensures.boot) cut).1)

pub returns-clause-outcome : goal.returns-clause-outcome
returns-clause-outcome g c =
    let e = rw c.devices.ensures.lines at c.in-Err-Failed-open_files.ensures.opening in
    let cut = short_opening c.args.name.now c.in-Ok-Whole.part.devices _ _ _ _ _ _ _ _ _ c.requires.closed c.in-Ok.ensures c.in-Ok-Whole.ensures.only e (rw c.devices.ensures.lines at c.in-Err-Failed-open_files.ensures.unwritten) in
    rw (c.unbooted-in-Err-Failed-open_files.ensures.status, c.unbooted-in-Err-Failed-open_files.ensures.kernel)
    ((short_cut _ _ c.args.name.now ((g.H.Host.view c.args.host.now).names c.args.name.now) _ _ _ c.in-Ok-Whole.part c.in-Ok-Whole.step c.in-Ok-Whole.before (g.H.Host.view c.args.host.now) (g.H.Host.view c.open_files.new.host) (g.S.Store.view c.args.store.now) (g.S.Store.view c.args.store.now) (rw c.requires.closed at c.in-Ok.ensures.told) (rw (c.new-script.ensures, c.in-Ok-Whole.field-0-is) at c.in-Ok-Whole.ensures.boot) cut).0)
