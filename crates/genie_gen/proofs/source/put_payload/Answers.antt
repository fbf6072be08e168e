use Rattle.std.proofs.Common.{◌++◌, ◌∷◌, [], length, length-append, map, arith, append_assoc, ◌∙◌, sym, ap}
use Rattle.std.specs.List.{range_with_len}
use Rattle.std.proofs.lemmas.List.FromFn.{length-map-range_with_len, map-range_with_len_more}
use Rattle.genie_gen.specs.Streams.{payload_byte}
use Rattle.genie_gen.proofs.source.put_payload.Goals as goal

pub push-requires : goal.push-requires
push-requires c =
    let size = length-map-range_with_len (payload_byte c.args.device c.args.number) 0 c.bytes.at in
    let both = length-append c.args.out.now (map (payload_byte c.args.device c.args.number) (range_with_len 0 c.bytes.at)) in
    let filled = ap length c.bytes.invariant in
    omega (arith, size, both, filled, c.bytes-test.true, c.requires.room, c.requires.most)

pub bytes-preserved : goal.bytes-preserved
bytes-preserved c =
    let byte = payload_byte c.args.device c.args.number in
    c.push.ensures ∙ ap (λ t. t ++ byte c.bytes.at ∷ []) c.bytes.invariant
    ∙ append_assoc c.args.out.now (map byte (range_with_len 0 c.bytes.at)) (byte c.bytes.at ∷ [])
    ∙ ap (λ t. c.args.out.now ++ t) (sym (map-range_with_len_more byte 0 c.bytes.at c.bytes.at (omega arith)))
