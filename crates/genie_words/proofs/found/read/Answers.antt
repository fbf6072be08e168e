use Rattle.std.proofs.Common.{rules}
use Rattle.genie_words.proofs.FoundRows.{wish_made, wish_single}
use Rattle.genie_words.proofs.found.read.Goals as goal

pub returns-then-eq : goal.returns-then-eq
returns-then-eq c =
    let t = c.if-eq.true in
    let n = c.in-Some.ensures.name in
    let r = c.in-Some.ensures.rows in
    wish_made c.args.matches.now c.in-Some.found.now c.in-Some.name.now _ _ _ n r (let e = c.eq.ensures in search rules) c.get_str.ensures c.get_str-then-eq.ensures c.pair.ensures

pub returns-else-eq : goal.returns-else-eq
returns-else-eq c =
    let t = c.if-eq.false in
    wish_single c.args.matches.now c.in-Some.found.now c.in-Some.name.now _ _ c.in-Some.ensures.name c.in-Some.ensures.rows (let e = c.eq.ensures in search rules) c.get_str-else-eq.ensures c.single.ensures
