use Rattle.std.proofs.Common.{◌≡◌, sym, ap, ◌∙◌}
use Rattle.std.specs.Prelude.{position, Some}
use Rattle.genie_input.specs.Pools.{PoolState, is_free, is_filling}
use Rattle.genie_input.proofs.Pools.{pool_begun}
use Rattle.genie_input.proofs.pool.Pool.begin.Goals as goal

pub invariant_of-self : goal.invariant_of-self
invariant_of-self c =
    let first : position is_free c.self.inside.buffers.items ≡ Some c.unwrap-buffer.result = ap (position is_free) (sym c.as_slice.ensures.value) ∙ sym c.first_free.ensures ∙ c.unwrap-buffer.ensures in
    pool_begun c.self.inside.buffers.items c.set_state.new.buffers.items c.self.inside.loans.items c.unwrap-buffer.result c.self.invariant (ap (λ (p : PoolState). position is_filling p.buffers) c.self.view_is ∙ c.requires.none) first c.set_state.ensures
