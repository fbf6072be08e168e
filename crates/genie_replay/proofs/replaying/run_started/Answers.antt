use Rattle.std.proofs.Common.{rules, ◌≡◌, ◌≢◌, ap, arith}
use Rattle.std.specs.Io.KnownBytes.{prepend_known}
use Rattle.genie_host.specs.Host.{HandleState}
use Rattle.genie_replay.specs.declared.status.Status.TheVariants as status
use Rattle.genie_replay.proofs.Running.{begun, files_cut, files_whole, memory_out, okay_cut, outputs_writing}
use Rattle.genie_replay.proofs.replaying.run_started.Goals as goal

pub returns-in-Err-clause-runs : goal.returns-in-Err-clause-runs
returns-in-Err-clause-runs g c = okay_cut c.args.devices.now _ c.args.step c.args.line.now c.args.before _ _ _ _ c.requires.machine c.in-Err.ensures

pub returns-then-eq-clause-runs : goal.returns-then-eq-clause-runs
returns-then-eq-clause-runs g c =
    let kept = ap (λ (h : HandleState). prepend_known c.args.script.now h.bytes) (c.in-Ok.ensures.only.others 1 (omega arith)) in
    let is : c.play-status.result ≡ status.NoMemory = search rules in
    rw is (memory_out c.args.devices.now _ c.args.step c.args.line.now c.args.before _ _ _ _ _ (begun _ _ _ _ _ c.in-Ok.ensures c.play-status.ensures.leaves.only) (rw (kept, is) at c.play-status.ensures.played))

pub write_files-requires-clause-outputs : goal.write_files-requires-clause-outputs
write_files-requires-clause-outputs g c = outputs_writing _ _ _ c.args.devices.now (begun _ _ _ _ _ c.in-Ok.ensures c.play-status.ensures.leaves.only) c.requires.outputs

pub returns-in-Ok-write_files-clause-runs : goal.returns-in-Ok-write_files-clause-runs
returns-in-Ok-write_files-clause-runs g c =
    let kept = ap (λ (h : HandleState). prepend_known c.args.script.now h.bytes) (c.in-Ok.ensures.only.others 1 (omega arith)) in
    let ne : c.play-status.result ≢ status.NoMemory = search rules in
    files_whole _ c.play-status.result c.args.devices.now _ c.args.step c.args.line.now c.args.before _ _ _ _ _ _ _ ne (c.play-status.ensures.machine ne) (begun _ _ _ _ _ c.in-Ok.ensures c.play-status.ensures.leaves.only) (rw kept at c.play-status.ensures.played) c.in-Ok-write_files.ensures

pub returns-in-Err-write_files-clause-runs : goal.returns-in-Err-write_files-clause-runs
returns-in-Err-write_files-clause-runs g c =
    let kept = ap (λ (h : HandleState). prepend_known c.args.script.now h.bytes) (c.in-Ok.ensures.only.others 1 (omega arith)) in
    let ne : c.play-status.result ≢ status.NoMemory = search rules in
    files_cut c.play-status.result c.args.devices.now _ c.args.step c.args.line.now c.args.before _ _ _ _ _ _ _ ne (c.play-status.ensures.machine ne) (begun _ _ _ _ _ c.in-Ok.ensures c.play-status.ensures.leaves.only) (rw kept at c.play-status.ensures.played) c.in-Err-write_files.ensures
