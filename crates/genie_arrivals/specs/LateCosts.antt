-- What the ends of inputs on pooled devices cost.
use Rattle.std.specs.Prelude.{ℕ, Bool, false, ◌%◌, ◌&&◌}
use Rattle.genie_base.specs.declared.config.Config.{Config}
use Rattle.genie_base.specs.declared.semantics.Semantics.{Semantics}
use Rattle.genie_base.specs.declared.semantics.Semantics.TheVariants.{Copy, EmulatedCopy, Share, EmulatedShare, Move, EmulatedMove, WeakMove, EmulatedWeakMove}
use Rattle.genie_copying.specs.Bounds.{is_aligned, is_pooled_at}
use Rattle.genie_kernel.specs.declared.transfer.Transfer.{Transfer}

-- the table has pages exchanged with those of the buffer: of an emulated copy whose bytes lie in the buffer's pages as they do
-- in the region's, and of a move
abbrev pub is_exchanged_by : Config → Semantics → ℕ → ℕ → Bool
is_exchanged_by c EmulatedCopy d addr = is_pooled_at c d && is_aligned c d (addr % c.page)
is_exchanged_by c Move d addr = is_pooled_at c d
is_exchanged_by c EmulatedMove d addr = is_pooled_at c d
is_exchanged_by c Copy d addr = false
is_exchanged_by c Share d addr = false
is_exchanged_by c EmulatedShare d addr = false
is_exchanged_by c WeakMove d addr = false
is_exchanged_by c EmulatedWeakMove d addr = false

-- so it is of this transfer
abbrev pub is_exchanged : Config → Transfer → Bool
is_exchanged c t = is_exchanged_by c t.sem t.dev t.addr
