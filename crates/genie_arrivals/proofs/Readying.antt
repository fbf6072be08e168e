-- The range of a copy input is inside its object, and may be made ready.
use Rattle.std.proofs.Common.{◌≡◌, ℕ, ◌+◌, ◌-◌, ◌*◌, ◌/◌, ◌^◌, ◌<◌, ◌≤◌, zero, suc, Bool, true, false, List, refl, sym, ap, subst, arith, rules, ◌∙◌, length, get_or, eqb-true, ⊎_elim}
use Rattle.std.specs.Prelude.{Option, Some, None, IfSome, find, is_some, unwrap_or, ◌==◌, ◌&&◌, nat_le, nat_lt, if◌then◌else◌}
use Rattle.std.proofs.Math.Nat.{add-mul-div_right}
use Rattle.std.proofs.lemmas.Bool.{cases_Bool}
use Rattle.genie_base.specs.Counts.{span}
use Rattle.genie_base.specs.Transfers.{class_of}
use Rattle.genie_base.specs.declared.semantics.Class.TheVariants.{Copy}
use Rattle.genie_base.specs.declared.semantics.Direction.TheVariants.{Inward}
use Rattle.genie_frame.specs.declared.frame.Meters.{Meters}
use Rattle.genie_frame.specs.FrameTable.{no_counts}
use Rattle.genie_finish.specs.Ready.{MakesReady, part_work, parts_work}
use Rattle.genie_finish.specs.Ranges.{piece_len}
use Rattle.genie_hiding.specs.Hidden.{is_among, objects_of}
use Rattle.genie_hiding.specs.Rooms.{available}
use Rattle.genie_object.specs.declared.memory.Memory.{Memory}
use Rattle.genie_object.specs.declared.objects.Range.{Range}
use Rattle.genie_object.specs.Costs.{AreBelow, Spends, write_work}
use Rattle.genie_object.specs.Objects.{object_at}
use Rattle.genie_object.specs.Touching.{is_in_range}
use Rattle.genie_object.specs.Lemmas.Spending.{below_spent}
use Rattle.genie_object.specs.Lemmas.Works.{below_more, write_most}
use Rattle.genie_orderly.specs.Orderly.{IsTransfer}
use Rattle.genie_region.specs.declared.region.Region.{Region}
use Rattle.genie_space.specs.Translations.{IsBacked}
use Rattle.genie_store.specs.StoreView.{StoreView}
use Rattle.genie_model.specs.Lemmas.Lists.{Has, all_has, find_has, has_at, has_left, has_map}
use Rattle.genie_model.specs.Tables.{entry}
use Rattle.genie_kernel.specs.declared.kernel.Kernel.{Kernel}
use Rattle.genie_kernel.specs.declared.transfer.Transfer.{Transfer}
use Rattle.genie_kernel.specs.Backed.{all_regions}
use Rattle.genie_kernel.specs.Calls.{begins_at, has_number, is_copy_input}
use Rattle.genie_kernel.specs.Good.{IsGood}
use Rattle.genie_kernel.specs.Regions.{owned_regions, regions_of}
use Rattle.genie_kernel.specs.View.{no_bytes, outline}
use Rattle.genie_kernel.specs.Lemmas.Keeping.{guards_kept, hidden_kept}
use Rattle.genie_changes.specs.Lemmas.Once.{same_object}
use Rattle.genie_changes.specs.Lemmas.Outside.{unhidden}
use Rattle.genie_changes.specs.Making.{IsMoved, ShowsAndLends}
use Rattle.genie_changes.specs.Removing.{FitsTables}
use Rattle.genie_room.specs.Bounds.{IsShort}
use Rattle.genie_arrivals.specs.CopyLaws.{CopyLaws}
use Rattle.genie_arrivals.specs.Cases.{IsEarlyInput, IsInputOf}
use Rattle.genie_arrivals.specs.Targets.{IsPending, IsTarget, IsTargetOf}
use Rattle.genie_arrivals.proofs.Found.{seen_as}
use Rattle.genie_arrivals.proofs.Owning.{had_owned}
use Rattle.genie_arrivals.proofs.Reaching.{is_written, most_page, some_page, span_within, written_inside}

div_less : (x y page : ℕ) → 0 < page → x ≤ y → x / page ≤ y / page
div_less x y page some l = grind (arith, some, l)

-- fewer bytes touch no more pages
pub span_less : (page a m n : ℕ) → 0 < page → m ≤ n → span page a m ≤ span page a n
span_less page a m n some l = elim (m == 0) as (λ b. (m == 0) ≡ b → (if b then 0 else (a + m - 1) / page - a / page + 1) ≤ span page a n) [
  | true ↦ λ e. omega arith
  | false ↦ λ e. elim (n == 0) as (λ b. (n == 0) ≡ b → (a + m - 1) / page - a / page + 1 ≤ (if b then 0 else (a + n - 1) / page - a / page + 1)) [
    | true ↦ λ z. let none : n ≡ 0 = eqb-true n 0 z in let some : 0 < m = grind (arith, rules, e) in absurd (omega (arith, none, some, l))
    | false ↦ λ z. let more = div_less (a + m - 1) (a + n - 1) page some (omega (arith, l)) in omega (arith, more)
  ] refl
] refl

-- a range touches as many pages in its region as in the address space
pub span_moved : (page a n s : ℕ) → 0 < page → s * page ≤ a → span page (a - s * page) n ≡ span page a n
span_moved page a n s some low =
    let x : ℕ = a - s * page in
    let whole : x + s * page ≡ a = omega (arith, low) in
    let first : a / page ≡ x / page + s = ap (λ y. y / page) (sym whole) ∙ add-mul-div_right x s some in
    elim (n == 0) as (λ b. (n == 0) ≡ b → (if b then 0 else (x + n - 1) / page - x / page + 1) ≡ (if b then 0 else (a + n - 1) / page - a / page + 1)) [
      | true ↦ λ e. refl
      | false ↦ λ e.
          let more : 0 < n = grind (arith, rules, e) in
          let end : (x + n - 1) + s * page ≡ a + n - 1 = omega (arith, whole, more) in
          let last : (a + n - 1) / page ≡ (x + n - 1) / page + s = ap (λ y. y / page) (sym end) ∙ add-mul-div_right (x + n - 1) s some in
          omega (arith, first, last)
    ] refl

-- no more is stored than the buffer holds
pub stored_most : (k : Kernel) (n : ℕ) (t : Transfer) → IsGood k → find (has_number n) k.transfers ≡ Some t → t.stored ≤ t.len
stored_most k n t g found =
    let v = seen_as k (no_bytes k.config.page) in
    (all_has IsTransfer (outline k).transfers g.orderly.calls (v t) (has_map v t k.transfers (find_has (has_number n) k.transfers t found).0)).stored

begins_there : (t : Transfer) → class_of t.sem ≡ Copy → t.dir ≡ Inward → begins_at t ≡ t.addr
begins_there t class inward = ap (λ (b : Bool). unwrap_or (if b then Some t.addr else None) t.offset) ((λ i. is_copy_input (class i) (inward i)))

-- what is known of a copy input's range
pub record IsRoomy (k : Kernel) (range : Range) : Type 0 where
  pub fits : range.off + range.len < 2 ^ 32
  pub within : range.off / k.config.page + span k.config.page range.off range.len ≤ length (object_at k.memory.objects range.object.0)
  pub most : span k.config.page range.off range.len ≤ 65
  pub frames : span k.config.page range.off range.len ≤ available k.memory.frames

module _ (laws : CopyLaws) (k : Kernel) (n : ℕ) (t : Transfer) (range : Range) (g : IsGood k) (found : find (has_number n) k.transfers ≡ Some t) (class : class_of t.sem ≡ Copy) (inward : t.dir ≡ Inward) (x : IsTarget k t range) where
  abbrev page : ℕ
  page = k.config.page

  abbrev off : ℕ
  off = t.addr - x.region.start * page

  there : Has t k.transfers
  there = (find_has (has_number n) k.transfers t found).0

  pub target_owned : Has x.region (owned_regions k.spaces.processes)
  target_owned = had_owned x.region k.spaces.processes x.pid (find_has _ (regions_of (entry k.spaces.processes x.pid)) x.region (is_written page t.addr t.len (regions_of (entry k.spaces.processes x.pid)) x.region x.reached).reached).0

  -- its object has an entry for each page
  pub target_backed : length (object_at k.memory.objects x.region.object.0) ≡ x.region.pages
  target_backed = all_has (IsBacked k.memory.objects) (all_regions k.spaces.processes k.hidden) g.backed.each x.region (has_left x.region (owned_regions k.spaces.processes) _ target_owned)

  -- as many pages as the transfer's loans, or fewer
  pub span_known : span page off t.stored ≤ span page t.addr t.len
  span_known =
      let inside = written_inside page t.addr t.len (regions_of (entry k.spaces.processes x.pid)) x.region x.reached in
      let moved = span_moved page t.addr t.stored x.region.start (some_page k g) inside.low in
      let less = span_less page t.addr t.stored t.len (some_page k g) (stored_most k n t g found) in
      omega (arith, moved, less)

  roomy_at : IsRoomy k (record { object = x.region.object; off = off; len = t.stored })
  roomy_at =
      let inside = written_inside page t.addr t.len (regions_of (entry k.spaces.processes x.pid)) x.region x.reached in
      let most = most_page k g in
      let few = (all_has FitsTables (owned_regions k.spaces.processes) (laws.fit k g) x.region target_owned).most in
      let long : page * x.region.pages ≤ 4096 * 64 = grind (arith, most, few) in
      let stored = stored_most k n t g found in
      let short : IsShort page t = all_has (IsShort page) k.transfers (laws.short k g) t there in
      let touched : span page t.addr t.len ≤ 65 = subst (λ a. span page a t.len ≤ 65) (begins_there t class inward) short.pages in
      let free = all_has (λ (u : Transfer). class_of u.sem ≡ Copy → u.dir ≡ Inward → span page u.addr u.len + 4 ≤ available k.memory.frames) k.transfers (laws.copies k g) t there class inward in
      record {
        fits = omega (arith, inside.last, long, stored);
        within = subst (λ z. off / page + span page off t.stored ≤ z) (sym target_backed) (span_within page off t.stored x.region.pages (some_page k g) inside.first (omega (arith, inside.last, stored)));
        most = omega (arith, span_known, touched);
        frames = omega (arith, span_known, free);
      }

  pub is_roomy : IsRoomy k range
  is_roomy = subst (IsRoomy k) (λ i. record { object = sym x.object_is i; off = sym x.place i; len = sym x.size i }) roomy_at

  -- the range is in no hidden region, and in none that may not be written
  pub range_unhidden : is_among range.object.0 (objects_of k.hidden) ≡ false
  range_unhidden = (λ i. is_among (x.object_is i).0 (objects_of k.hidden)) ∙ unhidden k g x.region target_owned

  pub range_silent : (r : Region) → Has r (owned_regions k.spaces.processes) → r.writable ≡ false → (r.object.0 == range.object.0) ≡ false
  range_silent r has shut = ⊎_elim
      (λ (e : (r.object.0 == range.object.0) ≡ true).
      let object : r.object.0 ≡ x.region.object.0 = eqb-true r.object.0 range.object.0 e ∙ (λ i. (x.object_is i).0) in
      let same = same_object k r x.region g has target_owned object in
      let may = (is_written page t.addr t.len (regions_of (entry k.spaces.processes x.pid)) x.region x.reached).writable in
      let clash : false ≡ true = sym shut ∙ ap (λ (z : Region). z.writable) same ∙ may in absurd (cc))
      (λ e. e)
      (cases_Bool (r.object.0 == range.object.0))

-- an entry of another object isn't spoken of
pub unspoken : (o first n a i : ℕ) → (a == o) ≡ false → is_in_range o first n a i ≡ false
unspoken o first n a i e = ap (λ b. b && nat_le first i && nat_lt i (first + n)) e

pub other_object : (o a : ℕ) (hidden : List ℕ) → is_among o hidden ≡ false → is_among a hidden ≡ true → (a == o) ≡ false
other_object o a hidden out among = ⊎_elim (λ (e : (a == o) ≡ true). let same : a ≡ o = eqb-true a o e in let clash : true ≡ false = sym among ∙ ap (λ z. is_among z hidden) same ∙ out in absurd (cc)) (λ e. e) (cases_Bool (a == o))

-- pages of the range that move leave the kernel as it is
pub ready_shows : (laws : CopyLaws) (k : Kernel) (n : ℕ) (t : Transfer) (range : Range) (m : Memory) (v w : StoreView) (i count work : ℕ) → IsGood k → find (has_number n) k.transfers ≡ Some t → class_of t.sem ≡ Copy → t.dir ≡ Inward → IsTarget k t range → MakesReady k.memory m v w range.object.0 i count work → ShowsAndLends k m v w
ready_shows laws k n t range m v w i count work g found class inward x ready =
    let spoken = is_in_range range.object.0 i count in
    let moves = ready.moves in
    record {
      sound = moves.sound;
      sized = moves.sized;
      cached = hidden_kept spoken k.memory m (objects_of k.hidden) g.sound moves.keeps moves.touches (λ o j among. unspoken range.object.0 i count o j (other_object range.object.0 o (objects_of k.hidden) (range_unhidden laws k n t range g found class inward x) among)) g.cached;
      guarded = guards_kept spoken k.memory m (owned_regions k.spaces.processes) moves.touches (λ j d l shut a. unspoken range.object.0 i count (get_or (owned_regions k.spaces.processes) j d).object.0 a (range_silent laws k n t range g found class inward x (get_or (owned_regions k.spaces.processes) j d) (has_at (owned_regions k.spaces.processes) j d l) shut)) g.guarded;
      shows = moves.seen;
      keeps = moves.keeps;
      counts = λ f. ap (λ cs. get_or cs f no_counts) moves.counts;
    }

pub works_most : (m : Memory) (o i first len n : ℕ) → parts_work m o i first len n ≤ m.frames.page * n
works_most m o i first len zero = omega arith
works_most m o i first len (suc n) =
    let one = part_most m o (i + n) (piece_len m.frames.page first len n) in
    let more : m.frames.page * suc n ≡ m.frames.page * n + m.frames.page = grind arith in
    omega (arith, one, more, works_most m o i first len n)
  where
    part_most : (m : Memory) (o i n : ℕ) → part_work m o i n ≤ m.frames.page
    part_most m o i n = elim (nat_lt n m.frames.page) as (λ b. (if b then write_work m o i else 0) ≤ m.frames.page) [ true ↦ write_most m o i | false ↦ omega arith ]

-- what it costs
pub ready_meters : (m : Memory) (new : Meters) (o i first len n : ℕ) → n ≤ 65 → m.frames.page ≤ 4096 → AreBelow (2 ^ 63 + 2 ^ 20) m.frames.meters → Spends (parts_work m o i first len n) n 0 n m.frames.meters new → AreBelow (2 ^ 63 + 2 ^ 22) new
ready_meters m new o i first len n most page below spends =
    let work = parts_work m o i first len n in
    let all : m.frames.page * n ≤ 4096 * 65 = grind (arith, most, page) in
    let few : work ≤ 4096 * 65 = omega (arith, all, works_most m o i first len n) in
    below_more (2 ^ 63 + 2 ^ 20 + work + n + 0 + n) (2 ^ 63 + 2 ^ 22) new (omega (arith, few, most)) (below_spent (2 ^ 63 + 2 ^ 20) work n 0 n m.frames.meters new below spends)

-- the copy input that ends, and where its bytes go
pub record Aim (k : Kernel) (n : ℕ) (range : Range) : Type 0 where
  pub t : Transfer
  pub found : find (has_number n) k.transfers ≡ Some t
  pub is : IsInputOf Copy k.devices t
  pub target : IsTarget k t range

aimed : (k : Kernel) (n : ℕ) (range : Range) (o : Option Transfer) → find (has_number n) k.transfers ≡ o → is_some o ≡ true → IfSome o (IsInputOf Copy k.devices) → IfSome o (λ t. IsTarget k t range) → Aim k n range
aimed k n range None e some is x = absurd (cc)
aimed k n range (Some t) e some is x = record { t = t; found = e; is = is; target = x }

pub aim : (k : Kernel) (n : ℕ) (range : Range) → IsPending k n → IsEarlyInput Copy k n → IsTargetOf k n range → Aim k n range
aim k n range some is x = aimed k n range (find (has_number n) k.transfers) refl some is x

-- it is the same once pages have moved
pub aim_moved : (k new : Kernel) (n : ℕ) (range : Range) (v w : StoreView) → IsMoved k new v w → Aim k n range → Aim new n range
aim_moved k new n range v w moved a = subst (λ (z : Kernel). Aim z n range) (sym moved.only) (record {
  t = a.t;
  found = a.found;
  is = record { inward = a.is.inward; class_is = a.is.class_is; early = a.is.early };
  target = record { pid = a.target.pid; owner = a.target.owner; region = a.target.region; reached = a.target.reached; object_is = a.target.object_is; place = a.target.place; size = a.target.size };
})

pub aim_roomy : (laws : CopyLaws) (k : Kernel) (n : ℕ) (range : Range) → IsGood k → Aim k n range → IsRoomy k range
aim_roomy laws k n range g a = is_roomy laws k n a.t range g a.found a.is.class_is a.is.inward a.target

pub aim_shows : (laws : CopyLaws) (k : Kernel) (n : ℕ) (range : Range) (m : Memory) (v w : StoreView) (i count work : ℕ) → IsGood k → Aim k n range → MakesReady k.memory m v w range.object.0 i count work → ShowsAndLends k m v w
aim_shows laws k n range m v w i count work g a ready = ready_shows laws k n a.t range m v w i count work g a.found a.is.class_is a.is.inward a.target ready
