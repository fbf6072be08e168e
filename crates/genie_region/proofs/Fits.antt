-- The lowest fit.
use Rattle.std.proofs.Common.{◌≡◌, ℕ, ◌+◌, ◌-◌, ◌<◌, ◌≤◌, true, false, List, Some, None, arith, length, get_or, ⊎_elim}
use Rattle.std.proofs.lemmas.Bool.{cases_lt, le-leb, lt-leb, or_from, or_left, or_right}
use Rattle.std.proofs.lemmas.List.Folds.{list_all_at}
use Rattle.genie_base.specs.Regions.{AreInOrder, is_apart, is_free, place}
use Rattle.genie_region.specs.declared.region.Region.{Region}
use Rattle.genie_region.specs.Layouts.{extent, end_of, IsLowestFit}
use Rattle.genie_base.specs.Lemmas.Searches.{all_pass, find_least, find_no_number}

-- the pages between the regions that end before them and those that start after them are free
pub free_between : (rs : List Region) (d : Region) (start pages n : ℕ) → ((i : ℕ) → i < n → i < length rs → end_of (get_or rs i d) ≤ start) → ((i : ℕ) → n ≤ i → i < length rs → start + pages ≤ (get_or rs i d).start) → is_free extent start pages rs ≡ true
free_between rs d start pages n before after = all_pass (λ r. is_apart start pages (extent r)) d rs (λ i l. ⊎_elim (λ lt. or_left _ _ (le-leb _ _ (before i lt l))) (λ ge. or_right _ _ (le-leb _ _ (after i ge l))) (cases_lt i n))

-- so are those after all of them
pub free_after : (rs : List Region) (d : Region) (start pages : ℕ) → ((i : ℕ) → i < length rs → end_of (get_or rs i d) ≤ start) → is_free extent start pages rs ≡ true
free_after rs d start pages before = all_pass (λ r. is_apart start pages (extent r)) d rs (λ i l. or_left _ _ (le-leb _ _ (before i l)))

-- a region in the way
pub in_the_way : (rs : List Region) (i : ℕ) (d : Region) (start pages : ℕ) → i < length rs → start < end_of (get_or rs i d) → (get_or rs i d).start < start + pages → is_free extent start pages rs ≡ false
in_the_way rs i d start pages l before after = list_all_at (λ r. is_apart start pages (extent r)) rs i d l (or_from _ _ (lt-leb _ _ before) (lt-leb _ _ after))

pub place_at : (rs : List Region) (pages start : ℕ) → IsLowestFit pages rs start → start + pages ≤ 1024 → place extent pages rs ≡ Some start
place_at rs pages start f h = find_least (λ s. is_free extent s pages rs) 512 (513 - pages) start f.low (omega (arith, f.low)) f.free f.taken

pub no_place : (rs : List Region) (pages start : ℕ) → IsLowestFit pages rs start → 1024 < start + pages → place extent pages rs ≡ None
no_place rs pages start f h = find_no_number (λ s. is_free extent s pages rs) 512 (513 - pages) (λ t l m. f.taken t l (omega arith))

-- a region starts after so many pages, and those before it end before them
pub free_before : (rs : List Region) (d : Region) (start pages n : ℕ) → AreInOrder extent rs → ((i : ℕ) → i < n → end_of (get_or rs i d) ≤ start) → n < length rs → start + pages ≤ (get_or rs n d).start → is_free extent start pages rs ≡ true
free_before rs d start pages n o before l after = free_between rs d start pages n (λ i lt m. before i lt) (λ i ge m. ⊎_elim (λ lt. omega (arith, o n i d lt m)) (λ le. let same : i ≡ n = omega arith in rw same after) (cases_lt n i))
