-- Zeros that land in zeros.
use Rattle.std.proofs.Common.{◌≡◌, ℕ, ◌+◌, ◌-◌, ◌*◌, ◌%◌, ◌<◌, ◌≤◌, zero, suc, Bool, true, false, List, [], ◌∷◌, ◌++◌, refl, sym, ap, ap₂, arith, ◌∙◌, length, map, take, drop, get_or}
use Rattle.std.specs.Prelude.{Option, Some, None, filter, flat_map, find, min, replicate, slice_index, ◌==◌, if◌then◌else◌}
use Rattle.std.specs.List.{range_with_len}
use Rattle.std.proofs.lemmas.List.{length-replicate, map-append}
use Rattle.genie_base.specs.Bytes.{overlaid, part}
use Rattle.genie_base.specs.Counts.{span}
use Rattle.genie_region.specs.declared.region.Region.{Region}
use Rattle.genie_model.specs.Receiving.{landed, landing}
use Rattle.genie_model.specs.Regions.{changed, changed_in, change_process, with_bytes, put, stored_in_orphan, stored_at, is_within_range}
use Rattle.genie_model.specs.State as flat
use Rattle.genie_kernel.specs.declared.kernel.Kernel.{Kernel}
use Rattle.genie_kernel.specs.declared.transfer.Loans.{Loans}
use Rattle.genie_kernel.specs.declared.transfer.Transfer.{Transfer}
use Rattle.genie_kernel.specs.Calls.{begins_at}
use Rattle.genie_kernel.specs.Loans.{frames_of, first_of}
use Rattle.genie_kernel.specs.Orphans.{covers, is_orphan, lent_bytes, byte_under, orphan_byte, orphan_view, all_places, all_numbers}
use Rattle.genie_kernel.specs.Regions.{owned_regions, object_bytes, region_view, process_view, processes_view}
use Rattle.genie_kernel.specs.View.{state_of}
use Rattle.genie_receiving.specs.Lemmas.Marking.{zeros_with}
use Rattle.genie_receiving.specs.Lemmas.Payloads.{ShowsLanded, seen_transfer}
use Rattle.genie_receiving.specs.Lemmas.Ready.{HasRange, span_covers}

abbrev pub zeros : ℕ → List ℕ
zeros n = replicate n 0

pub zeros_more : (a b : ℕ) → zeros a ++ zeros b ≡ zeros (a + b)
zeros_more zero b = let e : b ≡ 0 + b = omega arith in ap zeros e
zeros_more (suc a) b = let e : suc (a + b) ≡ suc a + b = omega arith in ap (λ l. 0 ∷ l) (zeros_more a b) ∙ ap zeros e

pub zeros_taken : (n m : ℕ) → take n (zeros m) ≡ zeros (min n m)
zeros_taken zero m = let e : 0 ≡ min 0 m = omega arith in ap zeros e
zeros_taken (suc n) zero = let e : 0 ≡ min (suc n) 0 = omega arith in ap zeros e
zeros_taken (suc n) (suc m) = let e : suc (min n m) ≡ min (suc n) (suc m) = omega arith in ap (λ l. 0 ∷ l) (zeros_taken n m) ∙ ap zeros e

pub zeros_dropped : (n m : ℕ) → drop n (zeros m) ≡ zeros (m - n)
zeros_dropped zero m = let e : m ≡ m - 0 = omega arith in ap zeros e
zeros_dropped (suc n) zero = let e : 0 ≡ 0 - suc n = omega arith in ap zeros e
zeros_dropped (suc n) (suc m) = let e : m - n ≡ suc m - suc n = omega arith in zeros_dropped n m ∙ ap zeros e

pub zeros_overlaid : (at n m : ℕ) → overlaid at (zeros n) (zeros m) ≡ zeros m
zeros_overlaid at n zero = refl
zeros_overlaid (suc at) n (suc m) = ap (λ l. 0 ∷ l) (zeros_overlaid at n m)
zeros_overlaid zero zero (suc m) = refl
zeros_overlaid zero (suc n) (suc m) = ap (λ l. 0 ∷ l) (zeros_overlaid zero n m)

zero_at : (n i : ℕ) → get_or (zeros n) i 0 ≡ 0
zero_at zero i = refl
zero_at (suc n) zero = refl
zero_at (suc n) (suc i) = zero_at n i

-- pages of zeros, one after the other
pub pages_zero : (page : ℕ) (xs : List ℕ) → flat_map (λ (f : ℕ). zeros page) xs ≡ zeros (length xs * page)
pages_zero page [] = let e : 0 ≡ 0 * page = omega arith in ap zeros e
pages_zero page (x ∷ xs) = let e : page + length xs * page ≡ suc (length xs) * page = omega arith in ap (λ l. zeros page ++ l) (pages_zero page xs) ∙ zeros_more page (length xs * page) ∙ ap zeros e

part_zero : (first len n : ℕ) → part first len (zeros n) ≡ zeros (min len (n - first))
part_zero first len n = ap (take len) (zeros_dropped first n) ∙ zeros_taken len (n - first)

-- the bytes under the loans of a transfer
lent_zero : (page : ℕ) (t : Transfer) → lent_bytes (λ f. zeros page) t ≡ zeros (min t.len (length (frames_of t.loans) * page - first_of t.loans))
lent_zero page t = ap (part (first_of t.loans) t.len) (pages_zero page (frames_of t.loans)) ∙ part_zero (first_of t.loans) t.len (length (frames_of t.loans) * page)

under_zero : (page : ℕ) (t : Transfer) (i : ℕ) → slice_index (lent_bytes (λ f. zeros page) t) i ≡ 0
under_zero page t i = ap (λ (l : List ℕ). get_or l i 0) (lent_zero page t) ∙ zero_at (min t.len (length (frames_of t.loans) * page - first_of t.loans)) i

module _ (page r x n : ℕ) where
  region_zero : (q : Region) → changed r (with_bytes x (zeros n)) (region_view (λ o i. zeros page) q) ≡ region_view (λ o i. zeros page) q
  region_zero q = by (q.id.0 == r)
    where
      all : object_bytes (λ o i. replicate page 0) q.object.0 q.pages ≡ replicate (length (range_with_len 0 q.pages) * page) 0
      all = pages_zero page (range_with_len 0 q.pages)

      by : (b : Bool) → (if b then with_bytes x (replicate n 0) (region_view (λ o i. replicate page 0) q) else region_view (λ o i. replicate page 0) q) ≡ region_view (λ o i. replicate page 0) q
      by true = ap (λ l. record (region_view (λ o i. replicate page 0) q) { bytes = l }) (ap (overlaid x (replicate n 0)) all ∙ zeros_overlaid x n (length (range_with_len 0 q.pages) * page) ∙ sym all)
      by false = refl

  regions_zero : (rs : List Region) → map (changed r (with_bytes x (zeros n))) (map (region_view (λ o i. zeros page)) rs) ≡ map (region_view (λ o i. zeros page)) rs
  regions_zero [] = refl
  regions_zero (q ∷ rs) = ap₂ ◌∷◌ (region_zero q) (regions_zero rs)

  process_zero : (p : Option (List Region)) (q : List ℕ) → change_process (changed_in r (with_bytes x (zeros n))) (process_view (λ o i. zeros page) p q) ≡ process_view (λ o i. zeros page) p q
  process_zero None q = refl
  process_zero (Some rs) q = ap (λ rows. Some (record { queue = q; regions = rows })) (regions_zero rs)

  processes_zero : (ps : List (Option (List Region))) (qs : List (List ℕ)) → map (change_process (changed_in r (with_bytes x (zeros n)))) (processes_view (λ o i. zeros page) ps qs) ≡ processes_view (λ o i. zeros page) ps qs
  processes_zero [] qs = refl
  processes_zero (p ∷ ps) [] = ap₂ ◌∷◌ (process_zero p []) (processes_zero ps [])
  processes_zero (p ∷ ps) (q ∷ qs) = ap₂ ◌∷◌ (process_zero p q) (processes_zero ps qs)

  stored_zero : (y z : ℕ) → z ≡ 0 → ◌≡◌ {A = ℕ × ℕ} (stored_at x (zeros n) (y, z)) (y, z)
  stored_zero y z e = by (is_within_range x (length (replicate n 0)) (y, z))
    where
      by : (b : Bool) → ◌≡◌ {A = ℕ × ℕ} (if b then (y, slice_index (replicate n 0) (y - x)) else (y, z)) (y, z)
      by true = ap (λ v. (y, v)) (zero_at n (y - x) ∙ sym e)
      by false = refl

  byte_zero : (y : ℕ) (o : Option Transfer) → map (stored_at x (zeros n)) (byte_under (λ f. zeros page) y o) ≡ byte_under (λ f. zeros page) y o
  byte_zero y None = refl
  byte_zero y (Some t) = ap (λ e. e ∷ []) (stored_zero y (slice_index (lent_bytes (λ f. replicate page 0) t) (y - t.offset)) (under_zero page t (y - t.offset)))

  bytes_zero : (ts : List Transfer) (k : ℕ) (ys : List ℕ) → map (stored_at x (zeros n)) (flat_map (orphan_byte (λ f. zeros page) ts k) ys) ≡ flat_map (orphan_byte (λ f. zeros page) ts k) ys
  bytes_zero ts k [] = refl
  bytes_zero ts k (y ∷ ys) = map-append (stored_at x (replicate n 0)) (orphan_byte (λ f. replicate page 0) ts k y) (flat_map (orphan_byte (λ f. replicate page 0) ts k) ys) ∙ ap₂ ◌++◌ (byte_zero y (find (covers k y) ts)) (bytes_zero ts k ys)

  orphan_zero : (ts : List Transfer) (k : ℕ) → stored_in_orphan r x (zeros n) (orphan_view page (λ f. zeros page) ts k) ≡ orphan_view page (λ f. zeros page) ts k
  orphan_zero ts k = by (k == r)
    where
      by : (b : Bool) → (if b then record { number = k; bytes = map (stored_at x (replicate n 0)) (flat_map (orphan_byte (λ f. replicate page 0) ts k) (all_places page)) } else orphan_view page (λ f. replicate page 0) ts k) ≡ orphan_view page (λ f. replicate page 0) ts k
      by true = ap (λ l. record { number = k; bytes = l }) (bytes_zero ts k (all_places page))
      by false = refl

  orphans_zero : (ts : List Transfer) (ks : List ℕ) → map (stored_in_orphan r x (zeros n)) (map (orphan_view page (λ f. zeros page) ts) ks) ≡ map (orphan_view page (λ f. zeros page) ts) ks
  orphans_zero ts [] = refl
  orphans_zero ts (k ∷ ks) = ap₂ ◌∷◌ (orphan_zero ts k) (orphans_zero ts ks)

-- zeros that are put where there are zeros
put_zero : (k : Kernel) (d : ℕ) (rest : List ℕ) (r x n : ℕ) → put (state_of k (zeros_with k.config.page d rest)) r x (zeros n) ≡ state_of k (zeros_with k.config.page d rest)
put_zero k d rest r x n = λ i. record (state_of k (zeros_with k.config.page d rest)) {
  processes = processes_zero k.config.page r x n k.spaces.processes k.queues i;
  orphans = orphans_zero k.config.page r x n k.transfers (filter (is_orphan (owned_regions k.spaces.processes) k.transfers) all_numbers) i;
}

landed_zero : (k : Kernel) (d : ℕ) (rest : List ℕ) (t : flat.Transfer) (x m : ℕ) (o : Option ℕ) → state_of k (zeros_with k.config.page d rest) ≡ landed (state_of k (zeros_with k.config.page d rest)) t x (zeros m) o
landed_zero k d rest t x m None = refl
landed_zero k d rest t x m (Some r) = sym (ap (put (state_of k (zeros_with k.config.page d rest)) r (t.offset + x)) (zeros_taken (t.len - x) m) ∙ put_zero k d rest r (t.offset + x) (min (t.len - x) m))

range_zero : (page : ℕ) (t : Transfer) → 0 < page → (h : HasRange page t t.loans) → lent_bytes (λ f. zeros page) t ≡ zeros t.len
range_zero page t some h =
    let fs : ℕ = length (frames_of t.loans) in
    let pages : length (frames_of t.loans) ≡ span page (begins_at t) t.len = ap (λ (l : Loans). length (frames_of l)) h.is ∙ h.range.pages in
    let first : first_of t.loans ≡ begins_at t % page = ap first_of h.is ∙ h.range.begins in
    lent_zero page t ∙ ap zeros (long t.len (length (frames_of t.loans) * page) (first_of t.loans) (λ l.
    let covered = span_covers page (begins_at t) t.len some l in
    let same : length (frames_of t.loans) * page ≡ page * span page (begins_at t) t.len = ap (λ n. n * page) pages ∙ omega arith in
    omega (arith, covered, same, first)))
  where
    long : (len n first : ℕ) → (0 < len → first + len ≤ n) → min len (n - first) ≡ len
    long zero n first h = omega arith
    long (suc len) n first h = let l = h (omega arith) in omega (arith, l)

-- so a landing of zeros shows nothing new
pub shows_zeros : (k : Kernel) (d : ℕ) (rest : List ℕ) (t : Transfer) (x m : ℕ) → 0 < k.config.page → HasRange k.config.page t t.loans → ShowsLanded k t x (zeros m) (zeros_with k.config.page d rest) (zeros_with k.config.page d rest)
shows_zeros k d rest t x m some h =
    let all = range_zero k.config.page t some h in
    record {
      rests = refl;
      sents = refl;
      state = landed_zero k d rest (seen_transfer k (zeros_with k.config.page d rest) t) x m (landing (seen_transfer k (zeros_with k.config.page d rest) t));
      none = λ e. refl;
      size = λ strong. ap length all ∙ length-replicate t.len 0;
      payload = λ strong. all ∙ sym (zeros_overlaid x m t.len) ∙ sym (ap (overlaid x (replicate m 0)) all);
    }
