use Rattle.std.proofs.Common.{rules, ◌≡◌, ◌∷◌}
use Rattle.std.specs.Prelude.{flat_map}
use Rattle.std.proofs.lemmas.Grind.{common_steps}
use Rattle.genie_replay.specs.Files.{openings_of}
use Rattle.genie_replay.specs.Lemmas.Filing.{opening_cut, opening_more, unwritten_cut, unwritten_more}
use Rattle.genie_replay.proofs.files.+open_files.Goals as goal

pub returns-in-Ok-clause-opening : goal.returns-in-Ok-clause-opening
returns-in-Ok-clause-opening g t c =
    let all : c.args.devices.now ≡ c.in-Some.device.now ∷ c.in-Some.rest.now = search (rules, common_steps) in
    rw all (opening_more _ (openings_of c.in-Some.device.now) (flat_map openings_of c.in-Some.rest.now) _ _ _ _ _ c.in-Ok.ensures.opening c.in-Ok.ensures.opened c.open_files.ensures.opening)

pub returns-in-Ok-clause-unwritten : goal.returns-in-Ok-clause-unwritten
returns-in-Ok-clause-unwritten g t c =
    let all : c.args.devices.now ≡ c.in-Some.device.now ∷ c.in-Some.rest.now = search (rules, common_steps) in
    unwritten_more _ c.args.devices.now c.in-Some.rest.now c.in-Some.device.now _ _ _ _ _ all c.in-Ok.ensures.opening c.in-Ok.ensures.opened c.in-Ok.ensures.fresh c.open_files.ensures.opening c.open_files.ensures.unwritten

pub returns-in-Err-clause-opening : goal.returns-in-Err-clause-opening
returns-in-Err-clause-opening g t c =
    let all : c.args.devices.now ≡ c.in-Some.device.now ∷ c.in-Some.rest.now = search (rules, common_steps) in
    rw all (opening_cut _ (openings_of c.in-Some.device.now) (flat_map openings_of c.in-Some.rest.now) _ _ _ c.in-Err.ensures.opening)

pub returns-in-Err-clause-unwritten : goal.returns-in-Err-clause-unwritten
returns-in-Err-clause-unwritten g t c =
    let all : c.args.devices.now ≡ c.in-Some.device.now ∷ c.in-Some.rest.now = search (rules, common_steps) in
    unwritten_cut _ c.args.devices.now c.in-Some.rest.now c.in-Some.device.now _ _ _ all c.in-Err.ensures.opening
