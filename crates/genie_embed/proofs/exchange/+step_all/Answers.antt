use Rattle.std.proofs.Common.{rules, ◌≡◌, ◌+◌, ◌∷◌, All, ap, arith, length}
use Rattle.std.specs.Prelude.{IsTrue}
use Rattle.std.proofs.lemmas.Grind.{common_steps}
use Rattle.std.proofs.lemmas.List.Elements.{All-tail}
use Rattle.genie_base.specs.declared.event.Event.{Event}
use Rattle.genie_embed.specs.Echo.{is_ours}
use Rattle.genie_embed.specs.Machines.{HasRoomFor}
use Rattle.genie_embed.proofs.Rooms.{room_of, rooms_more}
use Rattle.genie_embed.proofs.exchange.+step_all.Goals as goal

pub step_all-requires : goal.step_all-requires
step_all-requires g t c κs within =
    let all : c.args.events.now ≡ c.in-Some.event.now ∷ c.in-Some.rest.now = search (rules, common_steps) in
    let ours : All (λ (e : Event). IsTrue (is_ours e)) c.in-Some.rest.now = All-tail (λ (e : Event). IsTrue (is_ours e)) c.in-Some.event.now c.in-Some.rest.now (rw all at c.requires.ours) in
    let more : length c.args.events.now ≡ length c.in-Some.rest.now + 1 = omega (arith, ap length all) in
    let room : HasRoomFor (length c.in-Some.rest.now) c.step.new.machine = c.step.ensures.room (length c.in-Some.rest.now) (room_of _ _ _ more c.requires.room) in
    search (rules, common_steps, ours, room, all)

pub returns-in_ok-n-in-Some-clause-room : goal.returns-in_ok-n-in-Some-clause-room
returns-in_ok-n-in-Some-clause-room g t c =
    let all : c.args.events.now ≡ c.in-Some.event.now ∷ c.in-Some.rest.now = search (rules, common_steps) in
    let more : length c.args.events.now ≡ length c.in-Some.rest.now + 1 = omega (arith, ap length all) in
    rooms_more c.step_all.result _ _ _ _ _ more c.step.ensures.room c.step_all.ensures.room
