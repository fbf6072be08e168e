-- Counts of pages: page sizes, spans and costs.
use Rattle.std.specs.Prelude.{ℕ, ◌+◌, ◌-◌, ◌*◌, ◌/◌, ◌==◌, Bool, List, [], ◌∷◌, if◌then◌else◌}
use Rattle.std.specs.List.{list_any}
use Rattle.genie_base.specs.declared.semantics.Class.{Class}
use Rattle.genie_base.specs.declared.semantics.Class.TheVariants.{Copy, Share, Move, WeakMove}
use Rattle.genie_base.specs.declared.semantics.Direction.{Direction}
use Rattle.genie_base.specs.declared.semantics.Direction.TheVariants.{Outward, Inward}

-- the powers of two from 16 to 4,096
abbrev pub page_sizes : List ℕ
page_sizes = 16 ∷ 32 ∷ 64 ∷ 128 ∷ 256 ∷ 512 ∷ 1024 ∷ 2048 ∷ 4096 ∷ []

abbrev pub is_page_size : ℕ → Bool
is_page_size n = list_any (λ size. n == size) page_sizes

-- how many pages a range of bytes touches
abbrev pub span : ℕ → ℕ → ℕ → ℕ
span page addr len = if len == 0 then 0 else (addr + len - 1) / page - addr / page + 1

-- how many pages a transfer may need at once: a copy input needs its buffer's pages and the target's
abbrev pub cost : Class → Direction → ℕ → ℕ
cost Copy Inward pages = 2 * pages
cost Copy Outward pages = pages
cost Share direction pages = pages
cost Move direction pages = pages
cost WeakMove direction pages = pages
