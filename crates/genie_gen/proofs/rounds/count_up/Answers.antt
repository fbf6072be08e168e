use Rattle.std.proofs.Common.{◌+◌, ◌%◌, ◌++◌, ◌∷◌, [], length, arith, ◌∙◌, sym, ap, ℕ}
use Rattle.std.proofs.lemmas.List.FromFn.{length-map-range_with_len, map-range_with_len_more}
use Rattle.genie_gen.proofs.rounds.count_up.Goals as goal

pub push-requires : goal.push-requires
push-requires c =
    let size = length-map-range_with_len (λ (j : ℕ). (c.args.from + j) % 256) 0 c.bytes.at in
    let filled = ap length c.bytes.invariant in
    omega (arith, size, filled, c.bytes-test.true)

pub bytes-preserved : goal.bytes-preserved
bytes-preserved c =
    c.push.ensures ∙ ap (λ t. t ++ (c.args.from + c.bytes.at) % 256 ∷ []) c.bytes.invariant
    ∙ sym (map-range_with_len_more (λ (j : ℕ). (c.args.from + j) % 256) 0 c.bytes.at c.bytes.at (omega arith))
