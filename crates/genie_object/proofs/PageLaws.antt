-- The table of pages over a slab.
use Rattle.std.proofs.Common.{◌≡◌, ◌≢◌, ℕ, ◌<◌, ◌≤◌, ◌+◌, suc, zero, true, false, List, [], ◌∷◌, refl, arith, ap, length, map, set, get_or, sym, ◌∙◌, inl, inr}
use Rattle.std.specs.Prelude.{Option, Some, None, unwrap_or, is_some, count_by, All, OnSome}
use Rattle.std.specs.List.{range_with_len}
use Rattle.std.proofs.lemmas.Bool.{cases_lt}
use Rattle.std.proofs.lemmas.Bool.Decides.{nat_tests}
use Rattle.std.proofs.lemmas.List.{length-map}
use Rattle.std.proofs.lemmas.List.FromFn.{get_or-range_with_len, get_or-map-range_with_len, length-range_with_len}
use Rattle.slab.specs.Slab.{Slab, get, slab_len, Updates, with_value, ContainsKey}
use Rattle.slab.proofs.SlabLemmas.{ContainsKey-within, Updates-with_value}
use Rattle.genie_base.specs.Lemmas.Places.{same_or, past_end, num, count_by-set}
use Rattle.genie_object.specs.declared.pages.PageInfo.{PageInfo}
use Rattle.genie_object.specs.Lemmas.Lookup.{count_none}
use Rattle.genie_object.specs.Pages.{PageTable, set_page, no_page, page_at, is_there, info_at, pages_of, IsTable}

map_same : {X Y : Type 0} (f g : X → Y) (d : X) (xs : List X) → ((k : ℕ) → k < length xs → f (get_or xs k d) ≡ g (get_or xs k d)) → map f xs ≡ map g xs
map_same f g d [] h = refl
map_same f g d (x ∷ xs) h = λ i. h 0 (omega arith) i ∷ map_same f g d xs (λ k l. h (suc k) (omega arith)) i

-- maps that agree but at one place
map_but_at : {X Y : Type 0} (f g : X → Y) (d : X) (xs : List X) (i : ℕ) (y : Y) → i < length xs → f (get_or xs i d) ≡ y → ((k : ℕ) → k < length xs → k ≢ i → f (get_or xs k d) ≡ g (get_or xs k d)) → map f xs ≡ set (map g xs) i y
map_but_at f g d [] i y l e h = absurd (omega arith)
map_but_at f g d (x ∷ xs) zero y l e h = λ i. e i ∷ map_same f g d xs (λ k l'. h (suc k) (omega arith) (omega arith)) i
map_but_at f g d (x ∷ xs) (suc n) y l e h = λ i. h 0 (omega arith) (omega arith) i ∷ map_but_at f g d xs n y (omega arith) e (λ k l' ne. h (suc k) (omega arith) (omega arith)) i

pub table_len : (slab : Slab PageInfo) → length (pages_of slab) ≡ slab.capacity
table_len slab = simp (length-map, length-range_with_len)

vacant : (slab : Slab PageInfo) (most key : ℕ) (o : Option PageInfo) → IsTable slab most → get slab key ≡ o → slab.capacity ≤ key → no_page ≡ unwrap_or o no_page
vacant slab most key None t e l = refl
vacant slab most key (Some q) t e l = absurd (omega (arith, t.within key (ap is_some e)))

-- what the table says of a key is what the slab says
pub known_as : (slab : Slab PageInfo) (most key : ℕ) (o : Option PageInfo) → IsTable slab most → get slab key ≡ o → page_at (pages_of slab) key ≡ unwrap_or o no_page
known_as slab most key o t e = elim (cases_lt key slab.capacity) [
  | inl l ↦ get_or-map-range_with_len (info_at slab) 0 slab.capacity key key no_page l (omega arith) ∙ ap (λ x. unwrap_or x no_page) e
  | inr l ↦ past_end (pages_of slab) key no_page (omega (arith, table_len slab)) ∙ vacant slab most key o t e l
]

-- a key with a page has a value
pub some_there : (slab : Slab PageInfo) (most key : ℕ) (o : Option PageInfo) → IsTable slab most → get slab key ≡ o → 0 < (page_at (pages_of slab) key).shares → is_some o ≡ true
some_there slab most key None t e h = absurd (omega (arith, h, ap (λ (q : PageInfo). q.shares) (known_as slab most key None t e)))
some_there slab most key (Some q) t e h = refl

pub table_set : (old new : Slab PageInfo) (key : ℕ) (slot : Option PageInfo) → Updates old new key slot → new.capacity ≡ old.capacity → key < old.capacity → pages_of new ≡ set (pages_of old) key (unwrap_or slot no_page)
table_set old new key slot u same l =
    ap (λ n. map (info_at new) (range_with_len 0 n)) same
    ∙ map_but_at (info_at new) (info_at old) 0 (range_with_len 0 old.capacity) key (unwrap_or slot no_page) (omega (arith, length-range_with_len 0 old.capacity))
    (ap (λ k. unwrap_or (get new k) no_page) (get_or-range_with_len 0 old.capacity key 0 l ∙ omega arith) ∙ ap (λ o. unwrap_or o no_page) u.changed)
    (λ k b ne. let is : get_or (range_with_len 0 old.capacity) k 0 ≡ k = get_or-range_with_len 0 old.capacity k 0 (omega (arith, length-range_with_len 0 old.capacity)) ∙ omega arith in
    ap (λ j. unwrap_or (get new j) no_page) is ∙ ap (λ o. unwrap_or o no_page) (u.others k ne) ∙ ap (λ j. unwrap_or (get old j) no_page) (sym is))

-- what a key has changes, and all that is kept of the table
pub table_kept : (old new : Slab PageInfo) (most key : ℕ) (slot : Option PageInfo) → IsTable old most → Updates old new key slot → new.capacity ≡ old.capacity → key < old.capacity → ((q : PageInfo) → slot ≡ Some q → 1 ≤ q.shares) → slab_len new + num (is_there (page_at (pages_of old) key)) ≡ slab_len old + num (is_there (unwrap_or slot no_page)) → IsTable new most
table_kept old new most key slot t u same l good number = record {
  shared = λ k q e. elim (same_or k key) [
    | inl is ↦ good q (sym u.changed ∙ ap (get new) (sym is) ∙ e)
    | inr ne ↦ t.shared k q (sym (u.others k ne) ∙ e)
  ];
  within = λ k e. elim (same_or k key) [
    | inl is ↦ omega arith
    | inr ne ↦ omega (arith, t.within k (sym (ap is_some (u.others k ne)) ∙ e))
  ];
  number =
      let e = ap (count_by is_there) (table_set old new key slot u same l) in
      omega (arith, e, count_by-set is_there (pages_of old) key (unwrap_or slot no_page) no_page (rw (table_len old) l), t.number, number);
  room = omega (arith, t.room);
}

one_more : (q : PageInfo) → 1 ≤ q.shares → num (is_there q) ≡ 1
one_more q h = let e : is_there q ≡ true = grind (arith, nat_tests) in ap num e

was_one : (s : Slab PageInfo) (most key : ℕ) (o : Option PageInfo) → IsTable s most → get s key ≡ o → is_some o ≡ true → num (is_there (page_at (pages_of s) key)) ≡ 1
was_one s most key None t e h = cc
was_one s most key (Some q) t e h = ap (λ (x : PageInfo). num (is_there x)) (known_as s most key (Some q) t e) ∙ one_more q (t.shared key q e)

-- a page is added
pub table_added : (old new : Slab PageInfo) (most key : ℕ) (q : PageInfo) → IsTable old most → get old key ≡ None → Updates old new key (Some q) → slab_len new ≡ slab_len old + 1 → key < new.capacity → new.capacity ≡ old.capacity → 1 ≤ q.shares → IsTable new most
table_added old new most key q t none u len there same h =
    let was = ap (λ (x : PageInfo). num (is_there x)) (known_as old most key None t none) in
    table_kept old new most key (Some q) t u same (omega arith) (λ r e. let is : r ≡ q = cc in rw is h) (omega (arith, was, one_more q h, len))

pub add_set : (old new : Slab PageInfo) (key : ℕ) (q : PageInfo) → Updates old new key (Some q) → key < new.capacity → new.capacity ≡ old.capacity → pages_of new ≡ set (pages_of old) key q
add_set old new key q u there same = table_set old new key (Some q) u same (omega arith)

-- a page changes and stays
pub len_kept : (s : Slab PageInfo) (key : ℕ) (v : PageInfo) → ContainsKey s key → slab_len (with_value s key v) ≡ slab_len s
len_kept s key v there = let e = ap num there in omega (arith, count_by-set is_some s.slots key (Some v) None (ContainsKey-within s key there), e)

pub table_changed : (s : Slab PageInfo) (most key : ℕ) (v : PageInfo) → IsTable s most → ContainsKey s key → 1 ≤ v.shares → IsTable (with_value s key v) most
table_changed s most key v t there h =
    let l = t.within key there in
    let was : num (is_there (page_at (pages_of s) key)) ≡ 1 = was_one s most key (get s key) t refl there in
    table_kept s (with_value s key v) most key (Some v) t (Updates-with_value s key v there) refl l (λ r e. let is : r ≡ v = cc in rw is h) (omega (arith, was, one_more v h, len_kept s key v there))

pub change_set : (s : Slab PageInfo) (most key : ℕ) (v : PageInfo) → IsTable s most → ContainsKey s key → pages_of (with_value s key v) ≡ set (pages_of s) key v
change_set s most key v t there = table_set s (with_value s key v) key (Some v) (Updates-with_value s key v there) refl (t.within key there)

-- a page goes
pub table_removed : (old new : Slab PageInfo) (most key : ℕ) → IsTable old most → ContainsKey old key → Updates old new key None → slab_len new + 1 ≡ slab_len old → new.capacity ≡ old.capacity → IsTable new most
table_removed old new most key t there u len same =
    let was : num (is_there (page_at (pages_of old) key)) ≡ 1 = was_one old most key (get old key) t refl there in
    table_kept old new most key None t u same (t.within key there) (λ q e. cc) (omega (arith, was, len))

pub remove_set : (old new : Slab PageInfo) (most key : ℕ) → IsTable old most → ContainsKey old key → Updates old new key None → new.capacity ≡ old.capacity → pages_of new ≡ set (pages_of old) key no_page
remove_set old new most key t there u same = table_set old new key None u same (t.within key there)

-- an empty slab
vacant_key : (s : Slab PageInfo) (key : ℕ) → s.slots ≡ [] → get s key ≡ None
vacant_key s key empty = ap (λ xs. get_or xs key None) empty

pub new_empty : (s : Slab PageInfo) → s.slots ≡ [] → All (λ q. q ≡ no_page) (pages_of s)
new_empty s empty = λ k d l. get_or-map-range_with_len (info_at s) 0 s.capacity k k d (rw (← table_len s) l) (omega arith) ∙ ap (λ o. unwrap_or o no_page) (vacant_key s k empty)

pub new_count : (s : Slab PageInfo) → s.slots ≡ [] → count_by is_there (pages_of s) ≡ 0
new_count s empty = count_none is_there no_page (pages_of s) (λ k l. ap is_there (new_empty s empty k no_page l))

pub table_new : (s : Slab PageInfo) (most : ℕ) → s.slots ≡ [] → most ≤ s.capacity → IsTable s most
table_new s most empty room = record {
  shared = λ key q e. let bad : None ≡ Some q = sym (vacant_key s key empty) ∙ e in cc;
  within = λ key e. let bad : false ≡ true = sym (ap is_some (vacant_key s key empty)) ∙ e in cc;
  number =
      let a = ap (count_by is_some) empty in
      let b = new_count s empty in
      omega (arith, a, b);
  room = room;
}

abbrev pub table_of : List PageInfo → ℕ → PageTable
table_of pages most = record { pages = pages; most = most }

-- the table with one page changed
pub table_eq : (now : PageTable) (pages new : List PageInfo) (most key : ℕ) (q : PageInfo) → table_of pages most ≡ now → new ≡ set pages key q → table_of new most ≡ set_page now key q
table_eq now pages new most key q is e = ap (λ xs. table_of xs most) e ∙ ap (λ t. set_page t key q) is

pub on_some : {X : Type 0} (o : Option X) (P : Type 0) → is_some o ≡ true → OnSome o P → P
on_some None P e h = cc
on_some (Some x) P e h = h
