use Rattle.std.proofs.Common.{◌≡◌, ℕ, ◌+◌, ◌-◌, List, length, take, sym, ◌∙◌, arith}
use Rattle.std.proofs.lemmas.List.{length-take-le}
use Rattle.genie_base.specs.Lemmas.Overlaid.{overlaid-past, overlaid-pieces, overlaid-cut}
use Rattle.genie_base.proofs.bytes.overlay.Goals as goal

pub returns-then-at-into : goal.returns-then-at-into
returns-then-at-into c = sym (overlaid-past c.args.at c.args.from.now c.args.into.now (omega arith))

pub returns-then-from-room : goal.returns-then-from-room
returns-then-from-room c =
    let n : c.args.at + length c.args.from.now - c.args.at ≡ length c.args.from.now = omega arith in
    rw (c.copy_from_slice.ensures.after, n) (overlaid-pieces c.args.at c.args.from.now c.args.into.now (omega arith))

pub returns-else-from-room : goal.returns-else-from-room
returns-else-from-room c =
    let room : ℕ = length c.args.into.now - c.args.at in
    let front : List ℕ = take room c.args.from.now in
    let size : length front ≡ room = length-take-le room c.args.from.now (omega arith) in
    let pieces = overlaid-pieces c.args.at front c.args.into.now (omega arith) in
    rw c.copy_from_slice-else-from-room.ensures.after (rw size at pieces ∙ overlaid-cut c.args.at room c.args.from.now c.args.into.now (omega arith))
