-- The pages of a range of bytes.
use Rattle.std.specs.Prelude.{ℕ, ◌+◌, ◌-◌, ◌*◌, ◌/◌, Bool, List, Option, Some, None, sum_by}
use Rattle.std.specs.Option.{option_map}
use Rattle.genie_base.specs.Counts.{span}
use Rattle.genie_base.specs.Regions.{reach}
use Rattle.genie_object.specs.declared.memory.Memory.{Memory}
use Rattle.genie_region.specs.declared.region.Region.{Region}
use Rattle.genie_region.specs.Layouts.{extent}
use Rattle.genie_model.specs.Tables.{entry}
use Rattle.genie_kernel.specs.declared.kernel.Kernel.{Kernel}
use Rattle.genie_kernel.specs.Regions.{regions_of}
use Rattle.genie_copying.specs.Kinds.{count_pages}

-- so many pages of an object, from the first one on
pub record Pages : Type 0 where
  pub object : ℕ
  pub first : ℕ
  pub count : ℕ

-- those that n bytes of an object lie in, from place off on
abbrev pub pages_at : ℕ → ℕ → ℕ → ℕ → Pages
pages_at page o off n = record { object = o; first = off / page; count = span page off n }

-- those that n bytes from address a on lie in, in this region
abbrev pub pages_in : ℕ → ℕ → ℕ → Region → Pages
pages_in page a n r = pages_at page r.object.0 (a - r.start * page) n

-- all pages of a region
abbrev pub pages_of : Region → Pages
pages_of r = record { object = r.object.0; first = 0; count = r.pages }

-- the region of process p that a range of bytes reaches, or none
abbrev pub reached : Kernel → ℕ → ℕ → ℕ → Option Region
reached k p a n = reach extent k.config.page a n (regions_of (entry k.spaces.processes p))

-- the pages that an access reaches, or none
abbrev pub pages_reached : Kernel → ℕ → ℕ → ℕ → Option Pages
pages_reached k p a n = option_map (pages_in k.config.page a n) (reached k p a n)

-- how many of them are of a kind
abbrev pub count_in : (Memory → ℕ → ℕ → Bool) → Memory → Pages → ℕ
count_in kind m r = count_pages (kind m r.object) r.first r.count

abbrev pub count_of : (Memory → ℕ → ℕ → Bool) → Memory → Option Pages → ℕ
count_of kind m None = 0
count_of kind m (Some r) = count_in kind m r

-- and of all pages of these regions
abbrev pub count_all : (Memory → ℕ → ℕ → Bool) → Memory → List Region → ℕ
count_all kind m regions = sum_by (λ r. count_in kind m (pages_of r)) regions

-- how many pages n bytes from address a on cover wholly
abbrev pub whole_pages : ℕ → ℕ → ℕ → ℕ
whole_pages page a n = (a + n) / page - (a + page - 1) / page

-- and in part
abbrev pub part_pages : ℕ → ℕ → ℕ → ℕ
part_pages page a n = span page a n - whole_pages page a n
