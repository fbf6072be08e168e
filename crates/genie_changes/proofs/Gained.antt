-- The orphans once a region is removed.
use Rattle.std.proofs.Common.{◌≡◌, ◌≢◌, ℕ, ◌+◌, ◌-◌, ◌*◌, ◌/◌, ◌%◌, ◌<◌, ◌≤◌, zero, suc, Bool, true, false, not, cond, List, [], ◌∷◌, ◌++◌, refl, sym, ap, ap₂, subst, arith, rules, ◌∙◌, length, map, filter, get_or}
use Rattle.std.specs.Prelude.{Option, flat_map, ◌&&◌, nat_lt}
use Rattle.std.specs.List.{list_any, range_with_len}
use Rattle.std.proofs.Math.Nat.{div-add-mod}
use Rattle.std.proofs.lemmas.Nat.{mod_below, div_below}
use Rattle.std.proofs.lemmas.List.FromFn.{get_or-range_with_len, length-range_with_len}
use Rattle.std.proofs.lemmas.List.{length-append}
use Rattle.genie_device.specs.Device.{DeviceView}
use Rattle.genie_region.specs.declared.region.Region.{Region}
use Rattle.genie_model.specs.Pending as pending
use Rattle.genie_model.specs.Space.{cut, is_named, placed, as_orphan, add_orphan}
use Rattle.genie_model.specs.Tables.{put_in}
use Rattle.genie_model.specs.State as flat
use Rattle.genie_input.specs.Pools.{PoolState}
use Rattle.genie_kernel.specs.declared.transfer.Transfer.{Transfer}
use Rattle.genie_kernel.specs.Calls.{first_waiting, names_weakly}
use Rattle.genie_kernel.specs.Held.{PageOf}
use Rattle.genie_kernel.specs.Orphans.{covers, is_orphan, is_owned, orphan_byte, orphan_view, orphans_view, all_places, all_numbers}
use Rattle.genie_kernel.specs.Regions.{object_bytes, region_view}
use Rattle.genie_kernel.specs.Transfers.{transfer_view, transfers_view}
use Rattle.genie_kernel.specs.Lemmas.Tidying.{any_map}
use Rattle.genie_changes.specs.Orphans.{OrphansStay, LeavesPages, IsWithout}
use Rattle.genie_changes.specs.Places.{byte_at}
use Rattle.genie_changes.proofs.Places.{place_in_frames, times_more}
use Rattle.genie_changes.proofs.Left.{shown, orphan_shows, covered_stays}

-- a new orphan among the others, whose numbers rise
module _ (view new : ℕ → flat.Orphan) (was is : ℕ → Bool) (named : flat.Orphan → Bool) (cutting : flat.Orphan → flat.Orphan) (o : flat.Orphan) (n : ℕ) where
  abbrev IsPut : List ℕ → Type 0
  IsPut ks = map cutting (filter named (put_in (λ (x : flat.Orphan). x.number) o (map view (filter was ks)))) ≡ map new (filter is ks)

  abbrev IsKept : List ℕ → Type 0
  IsKept ks = map cutting (filter named (map view (filter was ks))) ≡ map new (filter is ks)

  module _ (numbered : (k : ℕ) → (view k).number ≡ k) (number : o.number ≡ n) (out : was n ≡ false) (other : (k : ℕ) → k ≢ n → is k ≡ was k) (keeps : (k : ℕ) → was k ≡ true → (named (view k) ≡ true) × (cutting (view k) ≡ new k)) (is_in : named o ≡ is n) (shows : is n ≡ true → cutting o ≡ new n) where
    one_kept : (k : ℕ) (ks : List ℕ) → k ≢ n → IsKept ks → IsKept (k ∷ ks)
    one_kept k ks ne rest =
        elim (was k) as (λ b. was k ≡ b → map cutting (filter named (map view (cond b (k ∷ filter was ks) (filter was ks)))) ≡ map new (cond (is k) (k ∷ filter is ks) (filter is ks))) [
          | true ↦ λ e.
              let both = keeps k e in
              ap (λ b. map cutting (cond b (view k ∷ filter named (map view (filter was ks))) (filter named (map view (filter was ks))))) both.0
              ∙ ap₂ ◌∷◌ both.1 rest ∙ sym (ap (λ b. map new (cond b (k ∷ filter is ks) (filter is ks))) (other k ne ∙ e))
          | false ↦ λ e. rest ∙ sym (ap (λ b. map new (cond b (k ∷ filter is ks) (filter is ks))) (other k ne ∙ e))
        ] refl

    kept_above : (m a : ℕ) → n < a → IsKept (range_with_len a m)
    kept_above zero a l = refl
    kept_above (suc m) a l = one_kept a (range_with_len (a + 1) m) (λ e. absurd (omega (arith, l, e))) (kept_above m (a + 1) (omega arith))

    put_first : (m a : ℕ) → n < a → put_in (λ (x : flat.Orphan). x.number) o (map view (filter was (range_with_len a m))) ≡ o ∷ map view (filter was (range_with_len a m))
    put_first zero a l = refl
    put_first (suc m) a l =
        let ks = range_with_len (a + 1) m in
        elim (was a) as (λ b. put_in (λ (x : flat.Orphan). x.number) o (map view (cond b (a ∷ filter was ks) (filter was ks))) ≡ o ∷ map view (cond b (a ∷ filter was ks) (filter was ks))) [
          | true ↦
              let nv = numbered a in
              let less : nat_lt o.number (view a).number ≡ true = grind (arith, rules, l, nv, number) in
              ap (λ b. cond b (o ∷ view a ∷ map view (filter was ks)) (view a ∷ put_in (λ (x : flat.Orphan). x.number) o (map view (filter was ks)))) less
          | false ↦ put_first m (a + 1) (omega arith)
        ]

    put_here : (m : ℕ) → IsPut (range_with_len n (suc m))
    put_here m =
        let ks = range_with_len (n + 1) m in
        let above = kept_above m (n + 1) (omega arith) in
        ap (λ b. map cutting (filter named (put_in (λ (x : flat.Orphan). x.number) o (map view (cond b (n ∷ filter was ks) (filter was ks)))))) out
        ∙ ap (λ l. map cutting (filter named l)) (put_first m (n + 1) (omega arith))
        ∙ ap (λ b. map cutting (cond b (o ∷ filter named (map view (filter was ks))) (filter named (map view (filter was ks))))) is_in
        ∙ (elim (is n) as (λ b. is n ≡ b → map cutting (cond b (o ∷ filter named (map view (filter was ks))) (filter named (map view (filter was ks)))) ≡ map new (cond b (n ∷ filter is ks) (filter is ks))) [
          | true ↦ λ e. ap₂ ◌∷◌ (shows e) above
          | false ↦ λ e. above
        ] refl)

    put_later : (a : ℕ) (ks : List ℕ) → a < n → IsPut ks → IsPut (a ∷ ks)
    put_later a ks l rest =
        let ne : a ≢ n = λ e. absurd (omega (arith, l, e)) in
        let putting : List flat.Orphan → List flat.Orphan = put_in (λ (x : flat.Orphan). x.number) o in
        elim (was a) as (λ b. was a ≡ b → map cutting (filter named (putting (map view (cond b (a ∷ filter was ks) (filter was ks))))) ≡ map new (cond (is a) (a ∷ filter is ks) (filter is ks))) [
          | true ↦ λ e.
              let nv = numbered a in
              let more : nat_lt o.number (view a).number ≡ false = grind (arith, rules, l, nv, number) in
              let both = keeps a e in
              ap (λ b. map cutting (filter named (cond b (o ∷ view a ∷ map view (filter was ks)) (view a ∷ putting (map view (filter was ks)))))) more
              ∙ ap (λ b. map cutting (cond b (view a ∷ filter named (putting (map view (filter was ks)))) (filter named (putting (map view (filter was ks)))))) both.0
              ∙ ap₂ ◌∷◌ both.1 rest ∙ sym (ap (λ b. map new (cond b (a ∷ filter is ks) (filter is ks))) (other a ne ∙ e))
          | false ↦ λ e. rest ∙ sym (ap (λ b. map new (cond b (a ∷ filter is ks) (filter is ks))) (other a ne ∙ e))
        ] refl

    put_among : (d m a : ℕ) → a + d ≡ n → n < a + m → IsPut (range_with_len a m)
    put_among d zero a e l = absurd (omega (arith, e, l))
    put_among zero (suc m) a e l = let here : n ≡ a = omega (arith, e) in subst (λ x. IsPut (range_with_len x (suc m))) here (put_here m)
    put_among (suc d) (suc m) a e l = put_later a (range_with_len (a + 1) m) (omega (arith, e)) (put_among d m (a + 1) (omega (arith, e)) (omega (arith, l)))

    pub put_named : (ks : List ℕ) (m : ℕ) → ks ≡ range_with_len 0 m → n < m → IsPut ks
    put_named ks m e l = subst IsPut (sym e) (put_among n m 0 (omega arith) (omega (arith, l)))

numbers_are : all_numbers ≡ range_with_len 0 577
unfolding all_numbers
numbers_are = refl

shown_same : (c : Bool) (x a b : ℕ) → (c ≡ true → a ≡ b) → shown c x a ≡ shown c x b
shown_same true x a b h = ap (λ y. (x, y) ∷ []) (h refl)
shown_same false x a b h = refl

-- the covered places of a region's bytes
gained_places : (test : ℕ × ℕ → Bool) (at : ℕ → List (ℕ × ℕ)) (covered : ℕ → Bool) → ((y b : ℕ) → test (y, b) ≡ covered y) → (bytes : List ℕ) (x m : ℕ) → length bytes ≤ m → ((i : ℕ) → i < length bytes → at (x + i) ≡ shown (covered (x + i)) (x + i) (get_or bytes i 0)) → ((i : ℕ) → length bytes ≤ i → at (x + i) ≡ []) → filter test (placed x bytes) ≡ flat_map at (range_with_len x m)
gained_places test at covered same [] x zero l h n = refl
gained_places test at covered same [] x (suc m) l h n =
    let here : x + 0 ≡ x = omega arith in
    let none : at x ≡ [] = sym (ap at here) ∙ n 0 (omega arith) in
    gained_places test at covered same [] (x + 1) m (omega arith) (λ i k. absurd (omega (arith, k))) (λ i k. let later : x + suc i ≡ x + 1 + i = omega arith in sym (ap at later) ∙ n (suc i) (omega arith))
    ∙ sym (ap (λ l. l ++ flat_map at (range_with_len (x + 1) m)) none)
gained_places test at covered same (b ∷ bytes) x zero l h n = absurd (omega (arith, l))
gained_places test at covered same (b ∷ bytes) x (suc m) l h n =
    let here : x + 0 ≡ x = omega arith in
    let one : at x ≡ shown (covered x) x b = subst (λ y. at y ≡ shown (covered y) y b) here (h 0 (omega arith)) in
    let rest = gained_places test at covered same bytes (x + 1) m (omega (arith, l))
    (λ i k. let later : x + suc i ≡ x + 1 + i = omega arith in subst (λ y. at y ≡ shown (covered y) y (get_or bytes i 0)) later (h (suc i) (omega arith)))
    (λ i k. let later : x + suc i ≡ x + 1 + i = omega arith in subst (λ y. at y ≡ []) later (n (suc i) (omega arith))) in
    let tail = flat_map at (range_with_len (x + 1) m) in
    ap (λ c. cond c ((x, b) ∷ filter test (placed (x + 1) bytes)) (filter test (placed (x + 1) bytes))) (same x b)
    ∙ (elim (covered x) as (λ c. cond c ((x, b) ∷ filter test (placed (x + 1) bytes)) (filter test (placed (x + 1) bytes)) ≡ shown c x b ++ tail) [
      | true ↦ ap (λ t. (x, b) ∷ t) rest
      | false ↦ rest
    ])
    ∙ sym (ap (λ t. t ++ tail) one)

times_mono : (a b n : ℕ) → a ≤ b → a * n ≤ b * n
times_mono a b n l = let both = times_more a (b - a) n in let is : a + (b - a) ≡ b = omega (arith, l) in let all : (a + (b - a)) * n ≡ b * n = ap (λ m. m * n) is in omega (arith, both, all)

-- a place of an object's bytes
object_place : (s : ℕ → ℕ → List ℕ) (page o n x : ℕ) → 0 < page → ((i : ℕ) → length (s o i) ≡ page) → x < n * page → get_or (object_bytes s o n) x 0 ≡ get_or (s o (x / page)) (x % page) 0
object_place s page o n x some full l =
    let j : ℕ = x / page in
    let below : j < n = div_below x page n some l in
    let split = div-add-mod x page in
    let at : x ≡ j * page + x % page = omega (arith, split) in
    let start : 0 + j ≡ j = omega arith in
    let frames = range_with_len 0 n in
    let long : length frames ≡ n = length-range_with_len 0 n in
    ap (λ y. get_or (flat_map (s o) frames) y 0) at
    ∙ place_in_frames (s o) page frames j (x % page) (λ i h. full (get_or frames i 0)) (omega (arith, below, long)) (mod_below x page some)
    ∙ ap (λ i. get_or (s o i) (x % page) 0) (get_or-range_with_len 0 n j 0 below ∙ start)

pub object_length : (s : ℕ → List ℕ) (page a n : ℕ) → ((i : ℕ) → length (s i) ≡ page) → length (flat_map s (range_with_len a n)) ≡ n * page
object_length s page a zero full = omega arith
object_length s page a (suc n) full = let one = full a in let rest = object_length s page (a + 1) n full in let joined = length-append (s a) (flat_map s (range_with_len (a + 1) n)) in omega (arith, one, rest, joined)

module _ (page : ℕ) (entries : ℕ → ℕ → List ℕ) (old new : ℕ → List ℕ) (devices : List (Option DeviceView)) (pools : List (Option PoolState)) (frame_of : PageOf → ℕ) (r : Region) (before after : List Region) (ts : List Transfer) (some : 0 < page) (few : r.pages ≤ 64) (low : r.id.0 < 577) (less : IsWithout r before after) (stay : OrphansStay old new before ts) (leaves : LeavesPages page entries new frame_of r ts) where
  abbrev views : List flat.Transfer
  views = transfers_view old devices pools ts

  abbrev n : ℕ
  n = r.id.0

  named_same : (k : ℕ) (o : flat.Orphan) → o.number ≡ k → is_named views o ≡ list_any (names_weakly k) ts
  named_same k o e = ap (λ j. list_any (pending.names_weakly j) views) e ∙ any_map (pending.names_weakly k) (transfer_view old devices pools (first_waiting ts)) ts

  covers_same : (k x : ℕ) → list_any (pending.covers k x) views ≡ list_any (covers k x) ts
  covers_same k x = any_map (pending.covers k x) (transfer_view old devices pools (first_waiting ts)) ts

  cut_kept : (k : ℕ) → is_orphan before ts k ≡ true → cut views (orphan_view page old ts k) ≡ orphan_view page new ts k
  cut_kept k was = ap (λ bytes. record { number = k; bytes = bytes }) (covered_stays old new ts k (λ e. list_any (pending.covers k e.0) views) (λ x b. covers_same k x) (λ x. stay k x was) (all_places page))

  region_place : (x : ℕ) → x < r.pages * page → orphan_byte new ts n x ≡ shown (list_any (covers n x) ts) x (get_or (object_bytes entries r.object.0 r.pages) x 0)
  region_place x l = orphan_shows page new frame_of ts n x some (leaves.lie x) ∙ shown_same (list_any (covers n x) ts) x _ _ (λ c. ap (λ bytes. get_or bytes (x % page) 0) (leaves.bytes x c) ∙ sym (object_place entries page r.object.0 r.pages x some leaves.full l))

  bare_place : (x : ℕ) → r.pages * page ≤ x → orphan_byte new ts n x ≡ []
  bare_place x l = orphan_shows page new frame_of ts n x some (leaves.lie x) ∙ (elim (list_any (covers n x) ts) as (λ c. list_any (covers n x) ts ≡ c → shown c x (byte_at page new frame_of n x) ≡ []) [
    | true ↦ λ e. let inside = leaves.inside x e in absurd (omega (arith, inside, l))
    | false ↦ λ e. refl
  ] refl)

  cut_region : cut views (as_orphan (region_view entries r)) ≡ orphan_view page new ts n
  unfolding all_places
  cut_region =
      let bytes = object_bytes entries r.object.0 r.pages in
      let long : length bytes ≡ r.pages * page = object_length (entries r.object.0) page 0 r.pages leaves.full in
      let most : r.pages * page ≤ 64 * page = times_mono r.pages 64 page few in
      ap (λ l. record { number = n; bytes = l }) (gained_places (λ e. list_any (pending.covers n e.0) views) (orphan_byte new ts n) (λ x. list_any (covers n x) ts) (λ x b. covers_same n x) bytes 0 (64 * page) (omega (arith, long, most))
      (λ i h. let at : i ≡ 0 + i = omega arith in subst (λ y. orphan_byte new ts n y ≡ shown (list_any (covers n y) ts) y (get_or bytes i 0)) at (region_place i (omega (arith, h, long))))
      (λ i h. let at : i ≡ 0 + i = omega arith in subst (λ y. orphan_byte new ts n y ≡ []) at (bare_place i (omega (arith, h, long)))))

  was_out : is_orphan before ts n ≡ false
  was_out = ap (λ b. list_any (names_weakly n) ts && not b) less.was ∙ (elim (list_any (names_weakly n) ts) as (λ b. (b && false) ≡ false) [ true ↦ refl | false ↦ refl ])

  now_in : is_orphan after ts n ≡ list_any (names_weakly n) ts
  now_in = ap (λ b. list_any (names_weakly n) ts && not b) less.gone ∙ (elim (list_any (names_weakly n) ts) as (λ b. (b && true) ≡ b) [ true ↦ refl | false ↦ refl ])

  and_first : (a b : Bool) → (a && b) ≡ true → a ≡ true
  and_first true b e = refl
  and_first false b e = absurd (cc)

  pub orphans_grow : orphans_view page new after ts ≡ map (cut views) (filter (is_named views) (add_orphan (region_view entries r) (orphans_view page old before ts)))
  orphans_grow = sym (put_named (orphan_view page old ts) (orphan_view page new ts) (is_orphan before ts) (is_orphan after ts) (is_named views) (cut views) (as_orphan (region_view entries r)) n
      (λ k. refl) refl was_out
      (λ k ne. ap (λ b. list_any (names_weakly k) ts && not b) (less.others k ne))
      (λ k was. (named_same k (orphan_view page old ts k) refl ∙ and_first (list_any (names_weakly k) ts) (not (is_owned before k)) was, cut_kept k was))
      (named_same n (as_orphan (region_view entries r)) refl ∙ sym now_in)
      (λ e. cut_region)
      all_numbers 577 numbers_are low)
