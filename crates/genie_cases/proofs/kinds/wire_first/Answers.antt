use Rattle.std.proofs.Common.{arith, rules, sym, ◌∙◌, subst}
use Rattle.genie_cases.specs.Benches.{IsWell}
use Rattle.genie_cases.proofs.Wiring.{wired_well}
use Rattle.genie_cases.proofs.kinds.wire_first.Goals as goal

pub returns-clause-well : goal.returns-clause-well
returns-clause-well g c =
    let b = c.args.bench.now in
    subst (λ t. IsWell (record (b.memory) { frames = t }) (g.S.Store.view b.store) b.object.0 b.entries b.pages b.most) (sym c.wire.ensures) (wired_well b.memory (g.S.Store.view b.store) b.object.0 b.entries b.pages b.most _ c.wires_show_what_was_seen.ensures.on c.requires.well (omega (arith, c.if-frame-len.false, c.len.ensures.number)) (grind (arith, rules, c.if-not-is_held.false, c.is_held.ensures, c.counts-counts.ensures)))
