use Rattle.std.proofs.Common.{rules, ◌≡◌, ◌∷◌, map, slice_set}
use Rattle.std.specs.Prelude.{Some}
use Rattle.std.specs.Option.{option_map}
use Rattle.std.proofs.lemmas.Grind.{common_steps}
use Rattle.genie_base.specs.Configs.{device_config}
use Rattle.genie_replay.specs.Places.{FindPlaces}
use Rattle.genie_running.proofs.Wires.{find_rest}
use Rattle.genie_running.proofs.wiring.+wire_all.Goals as goal

pub wire_all-requires : goal.wire_all-requires
wire_all-requires t c =
    let all : c.args.lines.now ≡ c.in-Some.line.now ∷ c.in-Some.rest.now = search (rules, common_steps) in
    let now : FindPlaces (map (option_map device_config) (slice_set c.args.devices.now c.in-Some.line.now.number (Some c.wire.result))) c.in-Some.rest.now = rw c.wire.ensures (find_rest c.args.devices.now c.args.opened c.in-Some.line.now c.in-Some.rest.now (rw all at c.requires.places)) in
    search (rules, common_steps, now, all)
