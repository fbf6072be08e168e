use Rattle.std.proofs.Common.{rules, ◌≡◌, ◌+◌, ◌∷◌, length}
use Rattle.std.proofs.lemmas.Grind.{common_steps}
use Rattle.genie_replay.specs.Files.{HoldsOfOutputs, IsWriting, openings_of}
use Rattle.genie_replay.specs.Lemmas.Filing.{files_failed, files_more, still_writing}
use Rattle.genie_replay.proofs.files.+write_files.Goals as goal

pub write_files-requires : goal.write_files-requires
write_files-requires g t c κs within =
    let all : c.args.devices.now ≡ c.in-Some.device.now ∷ c.in-Some.rest.now = search (rules, common_steps) in
    let count : c.file_count.result ≡ length (openings_of c.in-Some.device.now) = c.file_count.ensures.count in
    let old : HoldsOfOutputs (IsWriting (g.H.Host.view c.args.host.now)) (c.args.opened + c.file_count.result) c.in-Some.rest.now = rw count (rw all at c.requires.outputs).1 in
    let now : HoldsOfOutputs (IsWriting (g.H.Host.view c.write_file.new.host)) (c.args.opened + c.file_count.result) c.in-Some.rest.now = still_writing _ c.args.flat.now c.in-Some.device.now.output c.in-Some.device.now.number _ _ _ _ _ c.requires.machine c.in-Ok.ensures old in
    search (rules, common_steps, now, all)

pub returns-in-Ok : goal.returns-in-Ok
returns-in-Ok g t c =
    let all : c.args.devices.now ≡ c.in-Some.device.now ∷ c.in-Some.rest.now = search (rules, common_steps) in
    files_more _ c.args.flat.now c.args.opened c.file_count.result c.args.devices.now c.in-Some.rest.now c.in-Some.device.now _ _ _ _ _ all c.file_count.ensures.count c.in-Ok.ensures c.write_files.ensures

pub returns-in-Err : goal.returns-in-Err
returns-in-Err g t c =
    let all : c.args.devices.now ≡ c.in-Some.device.now ∷ c.in-Some.rest.now = search (rules, common_steps) in
    files_failed c.args.flat.now c.args.opened c.file_count.result c.args.devices.now c.in-Some.rest.now c.in-Some.device.now _ _ _ all c.file_count.ensures.count c.in-Err.ensures
