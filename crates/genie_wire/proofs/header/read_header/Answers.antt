use Rattle.std.proofs.Common.{◌≡◌, length, refl, ◌∙◌, arith}
use Rattle.genie_wire.proofs.Numbers.{plain, flowing}
use Rattle.genie_wire.proofs.header.read_header.Goals as goal
use Rattle.genie_wire.proofs.header.read_header.Goals.{in-71-eq68, in-71-eq69}

pub returns-clause-bytes : goal.returns-clause-bytes
returns-clause-bytes c =
    elim c.match-bytes-2.branch [
      | in-71-eq68 w ↦
          let m = w.in-71-eq68 in
          let len : length c.args.bytes.now ≡ 8 = c.requires ∙ rw (m.is-0, m.is-1) refl in
          rw (c.u16_at.ensures, w.flow-is, c.u32_at-len.ensures) (plain c.args.bytes.now (λ i. omega (arith, c.type_inv.bytes i)) len m.is-0 m.is-1)
      | in-71-eq69 w ↦
          let m = w.in-71-eq69 in
          let len : length c.args.bytes.now ≡ 12 = c.requires ∙ rw (m.is-0, m.is-1) refl in
          rw (c.u16_at.ensures, w.flow-is, w.u32_at.ensures, c.u32_at-len.ensures) (flowing c.args.bytes.now (λ i. omega (arith, c.type_inv.bytes i)) len m.is-0 m.is-1)
    ]
