use Rattle.std.proofs.Common.{rules, ◌≡◌, ◌+◌, ◌∷◌}
use Rattle.std.proofs.lemmas.Grind.{common_steps}
use Rattle.genie_replay.specs.Files.{HoldsOfInputs, IsReading}
use Rattle.genie_replay.proofs.Gathering.{read_failed, read_more, reads_on}
use Rattle.genie_replay.proofs.inputs.+read_inputs.Goals as goal

pub read_inputs-requires : goal.read_inputs-requires
read_inputs-requires g t c κs within =
    let all : c.args.devices.now ≡ c.in-Some.device.now ∷ c.in-Some.rest.now = search (rules, common_steps) in
    let now : HoldsOfInputs (IsReading (g.H.Host.view c.read_input.new.host)) (c.args.opened + c.file_count.result) c.in-Some.rest.now = reads_on c.in-Some.device.now c.args.opened c.file_count.result c.args.devices.now c.in-Some.rest.now _ _ _ _ _ all c.file_count.ensures.count c.in-Ok.ensures c.requires.inputs in
    search (rules, common_steps, now, all)

pub returns-in-Ok : goal.returns-in-Ok
returns-in-Ok g t c =
    let all : c.args.devices.now ≡ c.in-Some.device.now ∷ c.in-Some.rest.now = search (rules, common_steps) in
    read_more c.args.opened c.file_count.result c.args.devices.now c.in-Some.rest.now c.in-Some.device.now _ _ _ _ _ _ _ _ all c.file_count.ensures.count c.in-Ok.ensures c.read_inputs.ensures

pub returns-in-Err : goal.returns-in-Err
returns-in-Err g t c =
    let all : c.args.devices.now ≡ c.in-Some.device.now ∷ c.in-Some.rest.now = search (rules, common_steps) in
    read_failed c.args.opened c.args.devices.now c.in-Some.rest.now c.in-Some.device.now _ _ _ _ _ all c.in-Err.ensures
