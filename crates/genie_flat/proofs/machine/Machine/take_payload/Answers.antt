use Rattle.std.proofs.Common.{◌≡◌, List, ℕ, ◌+◌, take, drop, refl, ap, ◌∙◌}
use Rattle.genie_model.specs.State.{State, Device, Datagram}
use Rattle.genie_model.specs.Receiving.{land, after_bytes, go_on, take_payload}
use Rattle.genie_tables.specs.Lemmas.Succeeding.{if_ok}
use Rattle.genie_flat.proofs.machine.Machine.take_payload.Goals as goal

pub returns : goal.returns
returns c =
    let s : State = c.args.self.now in
    let v : Device = c.args.v in
    let g : Datagram = c.args.g in
    let bytes : List ℕ = take c.args.b v.rest in
    let first : c.as_slice.result.now ≡ bytes = c.as_slice.ensures.value ∙ c.in_ok-bytes.ensures.front in
    let second : c.as_slice-2.result.now ≡ bytes = c.as_slice-2.ensures.value ∙ c.in_ok-bytes.ensures.front in
    let landed : c.land.new.self ≡ land s g.moved bytes g.fate = c.in_ok-land.ensures ∙ rw (c.moved.ensures, c.fate.ensures, first) refl in
    let device : c.take_front.new.self ≡ record v { rest = drop c.args.b v.rest } = c.in_ok-bytes.ensures.behind in
    let gram : c.extend.new.self ≡ after_bytes bytes g = c.in_ok-extend.ensures ∙ ap (λ l. after_bytes l g) second in
    let same : take_payload s c.args.dev v g c.args.h c.args.b ≡ go_on c.land.new.self c.args.dev c.take_front.new.self c.extend.new.self (c.args.h + c.args.b) = rw (landed, device, gram) refl in
    if_ok c.go_on.result (λ reply e. same ∙ e) c.go_on.ensures
