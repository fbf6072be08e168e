use Rattle.std.proofs.Common.{◌≡◌, sym, ap, ◌∙◌, refl}
use Rattle.std.specs.Prelude.{position, Some}
use Rattle.genie_input.specs.Pools.{is_filling}
use Rattle.genie_input.specs.declared.pool.BufferState.TheVariants.{Held}
use Rattle.genie_input.proofs.Pools.{pool_quiet, place_of}
use Rattle.genie_input.proofs.pool.Pool.arrive.Goals as goal

pub invariant_of-self : goal.invariant_of-self
invariant_of-self c =
    let place : position is_filling c.self.inside.buffers.items ≡ Some c.unwrap-buffer.result = ap (position is_filling) (sym c.as_slice.ensures.value) ∙ sym c.first_filling.ensures ∙ c.unwrap-buffer.ensures in
    pool_quiet c.self.inside.buffers.items c.set_state.new.buffers.items c.self.inside.loans.items c.unwrap-buffer.result Held c.self.invariant (place_of is_filling c.self.inside.buffers.items c.unwrap-buffer.result place) refl c.set_state.ensures
