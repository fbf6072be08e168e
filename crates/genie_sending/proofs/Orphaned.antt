-- The bytes of a weak output are those of what is left of its region.
use Rattle.std.proofs.Common.{◌≡◌, ◌≢◌, ◌⊎◌, ℕ, ◌+◌, ◌-◌, ◌*◌, ◌/◌, ◌<◌, ◌≤◌, zero, suc, Bool, true, false, not, List, [], ◌∷◌, ◌++◌, refl, sym, ap, ap₂, subst, arith, rules, ◌∙◌, length, drop, get_or, map, filter, eqb-true, inl, inr, ⊎_elim}
use Rattle.std.specs.Prelude.{Option, Some, None, find, flat_map, nat_le, nat_lt, ◌==◌, ◌&&◌, ◌||◌, if◌then◌else◌, slice_index}
use Rattle.std.specs.List.{list_any, range_with_len}
use Rattle.std.specs.Option.{option_map}
use Rattle.std.proofs.lemmas.Bool.{or_cases}
use Rattle.std.proofs.lemmas.List.{get_or-drop, get_or-take}
use Rattle.genie_base.specs.Bytes.{part}
use Rattle.genie_base.specs.Lemmas.Places.{same_or}
use Rattle.genie_base.specs.Lemmas.Runs.{part_size}
use Rattle.genie_base.specs.declared.numbers.RegionId.{RegionId}
use Rattle.genie_frame.specs.FrameTable.{bytes_at, counts_at, owner_at}
use Rattle.genie_frame.specs.declared.frame.Owner.{Owner}
use Rattle.genie_frame.specs.declared.frame.Owner.TheVariants.{Nobody}
use Rattle.genie_object.specs.Memory.{is_kept, seen}
use Rattle.genie_region.specs.declared.region.Region.{Region}
use Rattle.genie_orderly.specs.Orderly.{Lies, LiesInOrphan, LiesInRegion, has_place}
use Rattle.genie_model.specs.Lemmas.Lists.{Has, all_has, any_append, any_found, find_has, has_any, has_map, none_found}
use Rattle.genie_model.specs.Pending as pending
use Rattle.genie_model.specs.Regions as model
use Rattle.genie_model.specs.Sending.{named_bytes}
use Rattle.genie_model.specs.State as flat
use Rattle.genie_kernel.specs.declared.kernel.Kernel.{Kernel}
use Rattle.genie_kernel.specs.declared.transfer.Transfer.{Transfer}
use Rattle.genie_kernel.specs.Calls.{first_waiting, is_named, is_strong_call, names_weakly, region_number, waits_for}
use Rattle.genie_kernel.specs.Good.{IsGood}
use Rattle.genie_kernel.specs.Held.{HoldsPages, IsInFrame, region_named}
use Rattle.genie_kernel.specs.Loans.{first_of, frames_of}
use Rattle.genie_kernel.specs.Orphans.{all_numbers, all_places, byte_under, covers, is_orphan, lent_bytes, orphan_byte, orphan_view}
use Rattle.genie_kernel.specs.Planned.{LendsRange}
use Rattle.genie_kernel.specs.Regions.{has_id, owned_regions, region_view}
use Rattle.genie_kernel.specs.Steps.{bytes_over}
use Rattle.genie_kernel.specs.Transfers.{transfer_view}
use Rattle.genie_kernel.specs.View.{Bytes, no_bytes, outline, state_of}
use Rattle.genie_kernel.specs.Lemmas.Processes.{find_map}
use Rattle.genie_changes.specs.Places.{LiesInFrames, byte_at}
use Rattle.genie_sending.specs.Sending.{IsLentOut, payload_under}
use Rattle.genie_sending.specs.WorkLaws.{WorkLaws}
use Rattle.genie_sending.proofs.Lending.{begins_there, lends, page_above}
use Rattle.genie_sending.proofs.Named.{its_pages, nothing_named, payload_is, range_of, region_seen}
use Rattle.genie_sending.proofs.Outputs.{IsFirstOutput}
use Rattle.genie_sending.proofs.Payload.{frames_shown, payload_length}

within_joined : (x m : ℕ) (a b : List (ℕ × ℕ)) → model.bytes_within x m (a ++ b) ≡ model.bytes_within x m a ++ model.bytes_within x m b
within_joined x m [] b = refl
within_joined x m (e ∷ a) b = ap (λ l. model.byte_within x m e ++ l) (within_joined x m a b) ∙ joined_later (model.byte_within x m e) (model.bytes_within x m a) (model.bytes_within x m b)
  where
    joined_later : (xs ys zs : List ℕ) → xs ++ (ys ++ zs) ≡ (xs ++ ys) ++ zs
    joined_later [] ys zs = refl
    joined_later (z ∷ xs) ys zs = ap (λ l. z ∷ l) (joined_later xs ys zs)

-- pairs of places in a row, of which those within are known
module _ (f : ℕ → List (ℕ × ℕ)) (c : ℕ → ℕ) (x m : ℕ) (known : (y : ℕ) → x ≤ y → y < x + m → f y ≡ (y, c y) ∷ []) (aside : (y : ℕ) → (y < x) ⊎ (x + m ≤ y) → model.bytes_within x m (f y) ≡ []) where
  none_behind : (count i : ℕ) → x + m ≤ i → model.bytes_within x m (flat_map f (range_with_len i count)) ≡ []
  none_behind zero i l = refl
  none_behind (suc count) i l = within_joined x m (f i) (flat_map f (range_with_len (i + 1) count)) ∙ (λ z. aside i (inr l) z ++ none_behind count (i + 1) (omega (arith, l)) z)

  byte_here : (i : ℕ) → x ≤ i → i < x + m → model.bytes_within x m (f i) ≡ c i ∷ []
  byte_here i low high =
      let test : (nat_le x i && nat_lt i (x + m)) ≡ true = grind (arith, rules, low, high) in
      ap (model.bytes_within x m) (known i low high) ∙ ap (λ b. (if b then c i ∷ [] else []) ++ []) test

  some_from : (count i r : ℕ) → x ≤ i → i + r ≡ x + m → r ≤ count → model.bytes_within x m (flat_map f (range_with_len i count)) ≡ map c (range_with_len i r)
  some_from count i zero low e l = none_behind count i (omega (arith, e))
  some_from zero i (suc r) low e l = absurd (omega (arith, l))
  some_from (suc count) i (suc r) low e l =
      within_joined x m (f i) (flat_map f (range_with_len (i + 1) count))
      ∙ (λ z. byte_here i low (omega (arith, e)) z ++ some_from count (i + 1) r (omega (arith, low)) (omega (arith, e)) (omega (arith, l)) z)

  pub all_from : (gap count i : ℕ) → i + gap ≡ x → gap + m ≤ count → model.bytes_within x m (flat_map f (range_with_len i count)) ≡ map c (range_with_len x m)
  all_from zero count i e l = let same : i ≡ x = omega (arith, e) in some_from count i m (omega (arith, same)) (omega (arith, same)) (omega (arith, l)) ∙ ap (λ z. map c (range_with_len z m)) same
  all_from (suc gap) zero i e l = absurd (omega (arith, l))
  all_from (suc gap) (suc count) i e l = within_joined x m (f i) (flat_map f (range_with_len (i + 1) count)) ∙ (λ z. aside i (inl (omega (arith, e))) z ++ all_from gap count (i + 1) (omega (arith, e)) (omega (arith, l)) z)

-- bytes that are known one by one
listed : (c : ℕ → ℕ) (xs : List ℕ) (o : ℕ) → ((i : ℕ) → i < length xs → get_or xs i 0 ≡ c (o + i)) → xs ≡ map c (range_with_len o (length xs))
listed c [] o h = refl
listed c (x ∷ xs) o h =
    let place : o + 0 ≡ o = omega arith in
    ap₂ ◌∷◌ (h 0 (omega arith) ∙ ap c place) (listed c xs (o + 1) (λ i l. h (suc i) (omega (arith, l)) ∙ (let next : o + suc i ≡ (o + 1) + i = omega arith in ap c next)))

-- an orphan has bytes at places of a region alone
place_of_byte : (s : ℕ → List ℕ) (y x : ℕ) (u : Option Transfer) → list_any (λ (e : ℕ × ℕ). e.0 == x) (byte_under s y u) ≡ true → y ≡ x
place_of_byte s y x None e = absurd (cc)
place_of_byte s y x (Some u) e = eqb-true y x (one_test (y == x) e)
  where
    one_test : (b : Bool) → (b || false) ≡ true → b ≡ true
    one_test true e = refl
    one_test false e = e

place_below : (s : ℕ → List ℕ) (ts : List Transfer) (n x i count : ℕ) → list_any (λ (e : ℕ × ℕ). e.0 == x) (flat_map (orphan_byte s ts n) (range_with_len i count)) ≡ true → x < i + count
place_below s ts n x i zero e = absurd (cc)
place_below s ts n x i (suc count) e =
    ⊎_elim
    (λ (here : list_any (λ (p : ℕ × ℕ). p.0 == x) (orphan_byte s ts n i) ≡ true). let is = place_of_byte s i x (find (covers n i) ts) here in omega (arith, is))
    (λ (later : list_any (λ (p : ℕ × ℕ). p.0 == x) (flat_map (orphan_byte s ts n) (range_with_len (i + 1) count)) ≡ true). let l = place_below s ts n x (i + 1) count later in omega (arith, l))
    (or_cases (list_any (λ (p : ℕ × ℕ). p.0 == x) (orphan_byte s ts n i)) (list_any (λ (p : ℕ × ℕ). p.0 == x) (flat_map (orphan_byte s ts n) (range_with_len (i + 1) count))) (sym (any_append (λ (p : ℕ × ℕ). p.0 == x) (orphan_byte s ts n i) (flat_map (orphan_byte s ts n) (range_with_len (i + 1) count))) ∙ e))

place_in_orphan : (page : ℕ) (s : ℕ → List ℕ) (ts : List Transfer) (n x : ℕ) → has_place x (orphan_view page s ts n) ≡ true → x < 64 * page
unfolding all_places
place_in_orphan page s ts n x e = let l = place_below s ts n x 0 (64 * page) e in omega (arith, l)

nobody_kept : (o : Owner) (c : _) → o ≡ Nobody → is_kept o c ≡ true
nobody_kept o c e = ap (λ z. is_kept z c) e

named_same : (o : Option RegionId) (n : ℕ) → option_map (λ (r : RegionId). r.0) o ≡ Some n → is_named o n ≡ true
named_same o n e = ap (λ z. pending.is_just z n) e ∙ grind (arith, rules)

outside_range : (x m y : ℕ) → (y < x) ⊎ (x + m ≤ y) → (nat_le x y && nat_lt y (x + m)) ≡ false
outside_range x m y (inl l) = grind (arith, rules, l)
outside_range x m y (inr l) = grind (arith, rules, l)

byte_aside : (s : ℕ → List ℕ) (x m y : ℕ) (u : Option Transfer) → (y < x) ⊎ (x + m ≤ y) → model.bytes_within x m (byte_under s y u) ≡ []
byte_aside s x m y None out = refl
byte_aside s x m y (Some u) out = ap (λ b. (if b then slice_index (lent_bytes s u) (y - u.offset) ∷ [] else []) ++ []) (outside_range x m y out)

abbrev one_pair : ℕ → ℕ → List (ℕ × ℕ)
one_pair y a = (y, a) ∷ []

abbrev first_byte : List (ℕ × ℕ) → ℕ
first_byte [] = 0
first_byte (p ∷ l) = p.1

second_is : (y a b : ℕ) → one_pair y a ≡ one_pair y b → a ≡ b
second_is y a b e = ap first_byte e

module _ (laws : WorkLaws) (k : Kernel) (g : IsGood k) (d : ℕ) (t : Transfer) (is : IsFirstOutput k.transfers d t) (weak : is_strong_call t ≡ false) (lent : IsLentOut k.memory.frames t.len t.loans) (n : ℕ) (number : region_number t ≡ Some n) (gone : find (has_id n) (owned_regions k.spaces.processes) ≡ None) where
  abbrev page : ℕ
  page = k.config.page

  abbrev ts : List Transfer
  ts = k.transfers

  abbrev regions : List Region
  regions = owned_regions k.spaces.processes

  there : Has t ts
  there = (find_has (waits_for d) ts t is.waits).0

  named : names_weakly n t ≡ true
  named = (λ i. not (weak i) && named_same t.region n number i)

  orphaned : is_orphan regions ts n ≡ true
  orphaned = (λ i. has_any (names_weakly n) t ts there named i && not (none_found (has_id n) regions gone i))

  -- its number finds it, whatever the bytes are
  abbrev listed_as : Option ℕ
  listed_as = find (λ j. j == n) (filter (is_orphan regions ts) all_numbers)

  found_as : (b : Bytes) → model.orphan_numbered (state_of k b) n ≡ option_map (orphan_view page b.seen.kept_bytes ts) listed_as
  found_as b = find_map (model.is_orphan n) (orphan_view page b.seen.kept_bytes ts) (filter (is_orphan regions ts) all_numbers)

  no_region : (b : Bytes) → model.region_numbered (state_of k b) n ≡ None
  no_region b = region_seen k b n ∙ ap (option_map (region_view b.seen.entry_bytes)) gone

  abbrev see : Transfer → flat.Transfer
  see = transfer_view (no_bytes page).seen.kept_bytes k.devices k.pools (first_waiting ts)

  abbrev zero_bytes : ℕ → List ℕ
  zero_bytes = (no_bytes page).seen.kept_bytes

  lies_by : Lies (outline k) (see t) (Some n) → LiesInOrphan (see t) (option_map (orphan_view page zero_bytes ts) listed_as)
  lies_by (inl h) = absurd (subst (LiesInRegion (see t)) (no_region (no_bytes page)) h)
  lies_by (inr h) = subst (LiesInOrphan (see t)) (found_as (no_bytes page)) h

  its_places : LiesInOrphan (see t) (option_map (orphan_view page zero_bytes ts) listed_as)
  its_places = lies_by (subst (Lies (outline k) (see t)) number (all_has (λ (u : flat.Transfer). Lies (outline k) u u.region) (outline k).transfers g.orderly.ranges (see t) (has_map see t ts there)))

  record Listed : Type 0 where
    is_listed : listed_as ≡ Some n
    places : (x : ℕ) → t.offset ≤ x → x < t.offset + t.len → x < 64 * page

  listed_by : (o : Option ℕ) → listed_as ≡ o → LiesInOrphan (see t) (option_map (orphan_view page zero_bytes ts) o) → Listed
  listed_by None e h = absurd h
  listed_by (Some j) e h =
      let same : j ≡ n = eqb-true j n (find_has (λ i. i == n) (filter (is_orphan regions ts) all_numbers) j e).1 in
      record { is_listed = e ∙ ap Some same; places = λ x low high. place_in_orphan page zero_bytes ts j x (h x low high) }

  is_there : Listed
  is_there = listed_by listed_as refl its_places

  module _ (slots rests sents : ℕ → List ℕ) where
    abbrev b : Bytes
    b = bytes_over k.memory slots rests sents

    abbrev s : flat.State
    s = state_of k b

    abbrev kept : ℕ → List ℕ
    kept = (seen k.memory slots).kept_bytes

    abbrev byte : ℕ → ℕ
    byte = byte_at page kept g.held.frame_of n

    covered : (y : ℕ) → t.offset ≤ y → y < t.offset + t.len → covers n y t ≡ true
    covered y low high =
        let from : nat_le t.offset y ≡ true = grind (arith, rules, low) in
        let to : nat_lt y (t.offset + t.len) ≡ true = grind (arith, rules, high) in
        (λ i. named i && from i && to i)

    -- at each place of the range, the byte of its page's frame
    orphan_has : (y : ℕ) → t.offset ≤ y → y < t.offset + t.len → orphan_byte kept ts n y ≡ (y, byte y) ∷ []
    orphan_has y low high =
        let u = any_found (covers n y) ts (has_any (covers n y) t ts there (covered y low high)) in
        let shows = subst (λ p. (f : ℕ) → owner_at k.memory.frames f ≡ Nobody → length (kept f) ≡ p) g.sized.page (laws.show k.memory slots g.sound.shaped) in
        let lies = laws.lie k kept g shows n y u.0 orphaned u.1 in
        ap (byte_under kept y) u.1 ∙ laws.byte page kept g.held.frame_of n y u.0 (page_above k g d t is) lies (find_has (covers n y) ts u.0 u.1).1

    range : LendsRange page t.offset t.len (frames_of t.loans) (first_of t.loans) t.len
    range = subst (λ at. LendsRange page at t.len (frames_of t.loans) (first_of t.loans) t.len) (begins_there t is.outward) (range_of page t t.loans (lends k g d t is))

    unnamed : region_named regions (region_number t) ≡ None
    unnamed = ap (region_named regions) number ∙ gone

    t_lies : LiesInFrames page kept g.held.frame_of t
    t_lies = subst (λ p. LiesInFrames p kept g.held.frame_of t) g.sized.page
        (laws.lies k.memory slots regions g.held.page_in g.held.frame_of t g.sound.shaped unnamed (subst (λ p. LendsRange p t.offset t.len (frames_of t.loans) (first_of t.loans) t.len) (sym g.sized.page) range) (subst (λ p. HoldsPages p k.memory regions g.held.page_in g.held.frame_of t) (sym g.sized.page) (its_pages k g d t is weak)))

    t_has : (y : ℕ) → t.offset ≤ y → y < t.offset + t.len → get_or (lent_bytes kept t) (y - t.offset) 0 ≡ byte y
    t_has y low high = second_is y (get_or (lent_bytes kept t) (y - t.offset) 0) (byte y) (laws.byte page kept g.held.frame_of n y t (page_above k g d t is) t_lies (covered y low high))

    -- the frames show their bytes
    lent_shown : payload_under k.memory.frames t.loans ≡ lent_bytes kept t
    lent_shown = payload_is page k.memory.frames t t.loans (lends k g d t is) ∙ ap (part (first_of t.loans) t.len) (sym (frames_shown kept k.memory.frames (frames_of t.loans) (λ j l.
        let f : ℕ = get_or (frames_of t.loans) j 0 in
        let nobody : owner_at k.memory.frames f ≡ Nobody = subst (λ o. IsInFrame k.memory o (t.offset / page + j) f) unnamed ((its_pages k g d t is weak).held j l) in
        ap (λ c. if c then bytes_at k.memory.frames f else []) (nobody_kept (owner_at k.memory.frames f) (counts_at k.memory.frames f) nobody))))

    module _ (j m : ℕ) (l : j + m ≤ t.len) where
      abbrev x : ℕ
      x = t.offset + j

      lent_part : part j m (lent_bytes kept t) ≡ map byte (range_with_len x m)
      lent_part =
          let all : length (lent_bytes kept t) ≡ t.len = ap length (sym lent_shown) ∙ payload_length k.memory.frames t.len t.loans lent in
          let size : length (part j m (lent_bytes kept t)) ≡ m = part_size j m (lent_bytes kept t) (omega (arith, l, all)) in
          listed byte (part j m (lent_bytes kept t)) x (λ i inside.
          let place : (x + i) - t.offset ≡ j + i = omega arith in
          get_or-take m (drop j (lent_bytes kept t)) i 0 (omega (arith, inside, size)) ∙ get_or-drop j (lent_bytes kept t) i 0
          ∙ ap (λ p. get_or (lent_bytes kept t) p 0) (sym place) ∙ t_has (x + i) (omega arith) (omega (arith, inside, size, l)))
          ∙ ap (λ p. map byte (range_with_len x p)) size

      orphan_part : 0 < m → model.bytes_within x m (flat_map (orphan_byte kept ts n) (range_with_len 0 (64 * page))) ≡ map byte (range_with_len x m)
      orphan_part some =
          let last = is_there.places (x + m - 1) (omega (arith, some)) (omega (arith, some, l)) in
          all_from (orphan_byte kept ts n) byte x m (λ y low high. orphan_has y (omega (arith, low)) (omega (arith, high, l))) (λ y out. byte_aside kept x m y (find (covers n y) ts) out) x (64 * page) 0 (omega arith) (omega (arith, last, some))

      by_places : 0 < m → named_bytes s (region_number t) x m ≡ map byte (range_with_len x m)
      unfolding all_places
      by_places some =
          ap (λ o. named_bytes s o x m) number
          ∙ ap (λ r. model.region_part x m r (model.orphan_part x m (model.orphan_numbered s n))) (no_region b)
          ∙ ap (model.orphan_part x m) (found_as b ∙ ap (option_map (orphan_view page kept ts)) is_there.is_listed)
          ∙ orphan_part some

      -- the orphan's bytes, from a place of the range on
      pub orphan_shown : named_bytes s (region_number t) x m ≡ part j m (payload_under k.memory.frames t.loans)
      orphan_shown = ⊎_elim
          (λ (e : m ≡ 0). ap (named_bytes s (region_number t) x) e ∙ nothing_named s (region_number t) x ∙ sym (ap (λ z. part j z (payload_under k.memory.frames t.loans)) e))
          (λ (ne : m ≢ 0). by_places (omega (arith, ne)) ∙ sym lent_part ∙ ap (part j m) (sym lent_shown))
          (same_or m 0)
