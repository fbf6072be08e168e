-- The range of a copy input.
use Rattle.std.proofs.Common.{◌≡◌, ℕ, ◌+◌, ◌-◌, ◌*◌, ◌/◌, ◌<◌, ◌≤◌, Bool, true, false, List, refl, sym, ap, arith, rules, ◌∙◌}
use Rattle.std.specs.Prelude.{Option, Some, None, find, option_and_then, ◌==◌, if◌then◌else◌}
use Rattle.std.specs.Option.{option_map}
use Rattle.genie_base.specs.Counts.{span}
use Rattle.genie_base.specs.Regions.{is_reached, reach, write_reach}
use Rattle.genie_object.specs.Lemmas.Works.{page_most}
use Rattle.genie_region.specs.declared.region.Region.{Region}
use Rattle.genie_region.specs.Layouts.{extent}
use Rattle.genie_model.specs.Lemmas.Lists.{find_has}
use Rattle.genie_model.specs.Regions as model
use Rattle.genie_model.specs.State as flat
use Rattle.genie_model.specs.Tables.{entry}
use Rattle.genie_kernel.specs.declared.kernel.Kernel.{Kernel}
use Rattle.genie_kernel.specs.Good.{IsGood}
use Rattle.genie_kernel.specs.Regions.{region_view, regions_of}
use Rattle.genie_kernel.specs.View.{Bytes, state_of}
use Rattle.genie_kernel.specs.Lemmas.Asking.{ask_regions}
use Rattle.genie_kernel.specs.Lemmas.Processes.{find_map}

-- what a write reaches may be written
pub record IsWritten (page a n : ℕ) (rs : List Region) (r : Region) : Type 0 where
  pub reached : reach extent page a n rs ≡ Some r
  pub writable : r.writable ≡ true

chosen : (page a n : ℕ) (rs : List Region) (r x : Region) (b : Bool) → x.writable ≡ b → reach extent page a n rs ≡ Some x → (if b then Some x else None) ≡ Some r → IsWritten page a n rs r
chosen page a n rs r x true w found e = let same : x ≡ r = cc in record { reached = found ∙ ap Some same; writable = sym (ap (λ (z : Region). z.writable) same) ∙ w }
chosen page a n rs r x false w found e = absurd (cc)

pub is_written : (page a n : ℕ) (rs : List Region) (r : Region) → write_reach extent page a n rs ≡ Some r → IsWritten page a n rs r
is_written page a n rs r e = elim (reach extent page a n rs) as (λ o. reach extent page a n rs ≡ o → option_and_then (λ (x : Region). if x.writable then Some x else None) o ≡ Some r → IsWritten page a n rs r) [
  | None ↦ λ found h. absurd (cc)
  | Some x ↦ λ found h. chosen page a n rs r x x.writable refl found h
] refl e

pub record IsInside (page a n : ℕ) (r : Region) : Type 0 where
  pub low : r.start * page ≤ a
  pub first : a - r.start * page < page * r.pages
  pub last : a - r.start * page + n ≤ page * r.pages

inside_reached : (page a n : ℕ) (r : Region) → is_reached page a n (extent r) ≡ true → IsInside page a n r
inside_reached page a n r e =
    let low : r.start * page ≤ a = grind (arith, rules, e) in
    let first : a < (r.start + r.pages) * page = grind (arith, rules, e) in
    let last : a + n ≤ (r.start + r.pages) * page = grind (arith, rules, e) in
    let whole : (r.start + r.pages) * page ≡ r.start * page + page * r.pages = grind arith in
    record { low = low; first = omega (arith, low, first, whole); last = omega (arith, low, last, whole) }

pub range_inside : (page a n : ℕ) (rs : List Region) (r : Region) → reach extent page a n rs ≡ Some r → IsInside page a n r
range_inside page a n rs r e = inside_reached page a n r (find_has (λ (x : Region). is_reached page a n (extent x)) rs r e).1

pub written_inside : (page a n : ℕ) (rs : List Region) (r : Region) → write_reach extent page a n rs ≡ Some r → IsInside page a n r
written_inside page a n rs r e = range_inside page a n rs r (is_written page a n rs r e).reached

written_view : (s : ℕ → ℕ → List ℕ) (o : Option Region) → option_and_then (λ (x : flat.Region). if (model.extent_of x).writable then Some x else None) (option_map (region_view s) o) ≡ option_map (region_view s) (option_and_then (λ (x : Region). if (extent x).writable then Some x else None) o)
written_view s None = refl
written_view s (Some r) = elim (r.writable) as (λ b. (if b then Some (region_view s r) else None) ≡ option_map (region_view s) (if b then Some r else None)) [ true ↦ refl | false ↦ refl ]

-- the flat machine's write reaches the same
pub write_view : (k : Kernel) (b : Bytes) (p a n : ℕ) → model.write_reach_of (state_of k b) p a n ≡ option_map (region_view b.seen.entry_bytes) (write_reach extent k.config.page a n (regions_of (entry k.spaces.processes p)))
write_view k b p a n =
    let q : flat.Region → Bool = λ r. is_reached k.config.page a n (model.extent_of r) in
    ap (option_and_then (λ (x : flat.Region). if (model.extent_of x).writable then Some x else None)) (ap (find q) (ask_regions k b p) ∙ find_map q (region_view b.seen.entry_bytes) (regions_of (entry k.spaces.processes p)))
    ∙ written_view b.seen.entry_bytes (reach extent k.config.page a n (regions_of (entry k.spaces.processes p)))

page_below : (x page pages : ℕ) → 0 < page → x < page * pages → x / page < pages
page_below x page pages some l = grind (arith, l, some)

-- the pages that a range inside touches are inside
pub span_within : (page x len pages : ℕ) → 0 < page → x < page * pages → x + len ≤ page * pages → x / page + span page x len ≤ pages
span_within page x len pages some inside fits = elim (len == 0) as (λ b. (len == 0) ≡ b → x / page + (if b then 0 else (x + len - 1) / page - x / page + 1) ≤ pages) [
  | true ↦ λ e. let first = page_below x page pages some inside in omega (arith, first)
  | false ↦ λ e.
      let more : 0 < len = grind (arith, rules, e) in
      let first = page_below x page pages some inside in
      let last = page_below (x + len - 1) page pages some (omega (arith, fits, more)) in
      omega (arith, first, last)
] refl

-- a page has bytes, and no more than 4,096
pub some_page : (k : Kernel) → IsGood k → 0 < k.config.page
some_page k g = let size = g.sound.shaped.size in let page : k.memory.frames.page ≡ k.config.page = g.sized.page in let some : 0 < k.memory.frames.page = grind (arith, rules, size) in omega (arith, some, page)

pub most_page : (k : Kernel) → IsGood k → k.config.page ≤ 4096
most_page k g = let most = page_most k.memory.frames.page g.sound.shaped.size in let page : k.memory.frames.page ≡ k.config.page = g.sized.page in omega (arith, most, page)
