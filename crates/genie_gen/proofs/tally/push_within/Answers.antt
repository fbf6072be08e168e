use Rattle.std.proofs.Common.{◌≡◌, ◌<◌, ◌++◌, ◌∷◌, [], length, length-append, take, rules, arith, sym, ◌∙◌, subst}
use Rattle.std.proofs.Math.Seq.{take_all, take-append_seam}
use Rattle.genie_gen.proofs.tally.push_within.Goals as goal

pub returns-then-not-is_full : goal.returns-then-not-is_full
returns-then-not-is_full c =
    let room : length c.args.line.now.items < 32 = search rules in
    let more = length-append c.args.line.now.items (c.args.byte ∷ []) in
    c.push.ensures.items ∙ sym (take_all 32 (c.args.line.now.items ++ c.args.byte ∷ []) (omega (arith, room, more)))

pub returns-else-not-is_full : goal.returns-else-not-is_full
returns-else-not-is_full c =
    let full : length c.args.line.now.items ≡ 32 = search rules in
    sym (subst (λ n. take n (c.args.line.now.items ++ c.args.byte ∷ []) ≡ c.args.line.now.items) full (take-append_seam c.args.line.now.items (c.args.byte ∷ [])))
