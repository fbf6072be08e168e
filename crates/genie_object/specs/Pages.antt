-- What contracts see of the logical pages: where each is, and how many entries share it.
use Rattle.std.specs.Prelude.{◌≡◌, ℕ, ◌+◌, ◌-◌, ◌≤◌, ◌<◌, Bool, true, false, List, map, count_by, Option, Some, None, unwrap_or, IsSome, slice_set, slice_index_or, nat_lt}
use Rattle.std.specs.List.{range_with_len}
use Rattle.slab.specs.Slab.{Slab, get, slab_len}
use Rattle.genie_object.specs.declared.pages.Place.{Place}
use Rattle.genie_object.specs.declared.pages.Place.TheVariants.{Zero}
use Rattle.genie_object.specs.declared.pages.PageInfo.{PageInfo}

-- the pages by key, and how many there may be at once
pub record PageTable : Type 0 where
  pub pages : List PageInfo
  pub most : ℕ

-- a key without a page: nobody shares it
abbrev pub no_page : PageInfo
no_page = record { place = Zero; shares = 0 }

abbrev pub one_page : Place → PageInfo
one_page place = record { place = place; shares = 1 }

abbrev pub page_at : List PageInfo → ℕ → PageInfo
page_at pages p = slice_index_or pages p no_page

-- a page is there while it is shared
abbrev pub is_there : PageInfo → Bool
is_there q = nat_lt 0 q.shares

abbrev pub set_page : PageTable → ℕ → PageInfo → PageTable
set_page t p page = record t { pages = slice_set t.pages p page }

-- the page after one holder less
abbrev pub one_holder_less : PageInfo → PageInfo
one_holder_less q = record q { shares = q.shares - 1 }

abbrev pub one_holder_more : PageInfo → PageInfo
one_holder_more q = record q { shares = q.shares + 1 }

-- what a holder that leaves a page leaves of it, and the place that is given up with the last one
abbrev pub left_page : Bool → PageInfo → PageInfo
left_page true q = no_page
left_page false q = one_holder_less q

abbrev pub left_place : Bool → PageInfo → Option Place
left_place true q = Some q.place
left_place false q = None

abbrev pub info_at : Slab PageInfo → ℕ → PageInfo
info_at slab key = unwrap_or (get slab key) no_page

abbrev pub pages_of : Slab PageInfo → List PageInfo
pages_of slab = map (info_at slab) (range_with_len 0 slab.capacity)

-- what every value of `Pages` keeps
pub record IsTable (slab : Slab PageInfo) (most : ℕ) : Type 0 where
  pub shared : (key : ℕ) (q : PageInfo) → get slab key ≡ Some q → 1 ≤ q.shares
  pub within : (key : ℕ) → IsSome (get slab key) → key < slab.capacity
  pub number : slab_len slab ≡ count_by is_there (pages_of slab)
  pub room : most ≤ slab.capacity
