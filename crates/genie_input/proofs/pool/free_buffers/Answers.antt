use Rattle.std.proofs.Common.{ap, ◌∙◌, arith, sym, ◌∷◌, [], ◌++◌}
use Rattle.std.specs.Prelude.{replicate, length}
use Rattle.std.proofs.lemmas.List.{length-replicate, replicate-append-replicate}
use Rattle.genie_input.specs.declared.pool.BufferState.TheVariants.{Free}
use Rattle.genie_input.proofs.pool.free_buffers.Goals as goal

pub push-requires : goal.push-requires
push-requires c = omega (arith, ap length c.each.invariant, length-replicate c.each.counter Free, c.requires)

pub each-preserved : goal.each-preserved
each-preserved c = c.push.ensures.items ∙ ap (λ xs. xs ++ Free ∷ []) c.each.invariant ∙ replicate-append-replicate c.each.counter 1 Free
