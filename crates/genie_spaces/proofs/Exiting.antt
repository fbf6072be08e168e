-- What the end of a process has done so far.
use Rattle.std.proofs.Common.{◌≡◌, ◌≢◌, ℕ, ◌+◌, ◌<◌, ◌≤◌, zero, suc, Bool, true, false, not, cond, List, [], ◌∷◌, refl, sym, ap, subst, arith, rules, ◌∙◌, ⊎_elim, inl, inr, map, filter, find, length, get_or, get_or-set_same, eq-eqb}
use Rattle.std.specs.Prelude.{Option, Some, None, All, AllPairs, is_some, slice_get, ◌&&◌, ◌||◌, ◌==◌}
use Rattle.std.specs.List.{list_any, range_with_len}
use Rattle.std.specs.Option.{option_map}
use Rattle.std.proofs.lemmas.Bool.{cond_both}
use Rattle.std.proofs.lemmas.List.Elements.{All-cons}
use Rattle.std.proofs.lemmas.List.Kept.{AllPairs-cons}
use Rattle.genie_demux.specs.Posted as demux
use Rattle.genie_frame.specs.declared.frame.Owner.{Owner}
use Rattle.genie_frame.specs.FrameTable.{FrameTable, AreLoansOwned, IsShaped, owner_at, counts_at}
use Rattle.genie_object.specs.declared.memory.Memory.{Memory}
use Rattle.genie_plan.specs.Loans.{AreOut}
use Rattle.genie_plan.specs.Loans as kind
use Rattle.genie_demux.specs.declared.input.Input.{Input}
use Rattle.genie_frame.specs.declared.frame.Counts.{Counts}
use Rattle.genie_kernel.specs.Lemmas.Staying.{at_least}
use Rattle.genie_region.specs.declared.region.Region.{Region}
use Rattle.genie_space.specs.Spaces as spaces
use Rattle.genie_model.specs.Lemmas.Lists.{Has, all_has, has_at, find_has, none_from, pairs_head, pairs_tail}
use Rattle.genie_model.specs.Pending.{is_moving, is_numbered, is_posted, is_queued, is_ready}
use Rattle.genie_model.specs.Regions as model
use Rattle.genie_model.specs.Space.{without_region}
use Rattle.genie_model.specs.State as flat
use Rattle.genie_model.specs.Tables.{entry, without}
use Rattle.genie_model.specs.declared.phase.Phase.{Phase}
use Rattle.genie_model.specs.declared.phase.Phase.TheVariants.{Queued, Posted, Moving, Ready}
use Rattle.genie_kernel.specs.declared.kernel.Kernel.{Kernel}
use Rattle.genie_kernel.specs.declared.transfer.Transfer.{Transfer}
use Rattle.genie_kernel.specs.Calls.{first_waiting, has_arrived, has_number, number_of}
use Rattle.genie_kernel.specs.Counted.{loans_on, pool_on, wires_on}
use Rattle.genie_kernel.specs.Kept.{Kept}
use Rattle.genie_kernel.specs.Loans.{frames_of, has_frame, loans_of}
use Rattle.genie_kernel.specs.Orphans.{all_numbers, is_orphan, orphan_view, orphans_view}
use Rattle.genie_kernel.specs.Planned.{is_early_device}
use Rattle.genie_kernel.specs.Regions.{has_id, owned_regions, process_view, region_view, regions_of}
use Rattle.genie_kernel.specs.Steps.{bytes_over}
use Rattle.genie_kernel.specs.Transfers.{transfer_view}
use Rattle.genie_kernel.specs.View.{Bytes, no_bytes, state_of}
use Rattle.genie_kernel.specs.Lemmas.Processes.{find_map, process_entry, regions_view}
use Rattle.genie_changes.specs.Ending.{IsGivenBack, LeavesOthers, ShowsOthers, without_call}
use Rattle.genie_changes.specs.Paged.{HavePages}
use Rattle.genie_changes.specs.Removal.{RemovesRegion, ShowsRemoval}
use Rattle.genie_changes.specs.Settled.{IsSettled}
use Rattle.genie_spaces.specs.Exiting.{Exits, IsPostedAt, StaysOwned, WasAmong, ended, is_posted_by}
use Rattle.genie_spaces.specs.ExitLaws.{ExitLaws}
use Rattle.genie_spaces.proofs.EndedFlat.{Low, ended_posted, ended_removed}

-- frames that keep their owners twice
pub owners_on : (a b c : Owner) → StaysOwned a b → StaysOwned b c → StaysOwned a c
owners_on a b c x y = ⊎_elim (λ (same : c ≡ b). ⊎_elim (λ (before : b ≡ a). inl (same ∙ before)) (λ nobody. inr (same ∙ nobody)) x) (λ nobody. inr nobody) y

-- slots that have pages have them still
pub pages_kept : (a b : Kernel) (slots : ℕ → List ℕ) → IsSettled a → IsSettled b → b.config ≡ a.config → HavePages a.memory slots → HavePages b.memory slots
pages_kept a b slots x y same paged s l =
    let count : length b.memory.slots ≡ length a.memory.slots = y.sized.slots ∙ ap (λ c. c.slots) same ∙ sym x.sized.slots in
    let page : b.memory.frames.page ≡ a.memory.frames.page = y.sized.page ∙ ap (λ c. c.page) same ∙ sym x.sized.page in
    paged s (omega (arith, l, count)) ∙ sym page

pub exits_none : (p : ℕ) (k : Kernel) → IsSettled k → Exits p k k
exits_none p k g = record {
  settled = g;
  alive = λ e. e;
  config = refl;
  numbers = refl;
  pools = refl;
  hidden = refl;
  meters = refl;
  landed = refl;
  among = λ i d l. record { was = get_or k.transfers i d; there = has_at k.transfers i d l; number = refl; loans = refl };
  lent = λ i d l f on. inl refl;
  pooled = λ d f on. inl refl;
  told = λ slots rests sents paged. refl;
  outlined = refl;
}

pub exits_on : (p : ℕ) (a b c : Kernel) → IsSettled a → Exits p a b → Exits p b c → Exits p a c
exits_on p a b c g x y = record {
  settled = y.settled;
  alive = λ e. y.alive (x.alive e);
  config = y.config ∙ x.config;
  numbers = y.numbers ∙ x.numbers;
  pools = y.pools ∙ x.pools;
  hidden = y.hidden ∙ x.hidden;
  meters = y.meters ∙ x.meters;
  landed = y.landed ∙ x.landed;
  among = λ i d l.
      let w = y.among i d l in
      let v = all_has (WasAmong a.transfers) b.transfers x.among w.was w.there in
      record { was = v.was; there = v.there; number = v.number ∙ w.number; loans = v.loans ∙ w.loans };
  lent = λ i d l f on.
      let w = y.among i d l in
      let was_on : has_frame f w.was ≡ true = ap (λ z. list_any (λ h. h == f) (frames_of z)) w.loans ∙ on in
      owners_on (owner_at a.memory.frames f) (owner_at b.memory.frames f) (owner_at c.memory.frames f)
      (all_has (λ (u : Transfer). (h : ℕ) → has_frame h u ≡ true → StaysOwned (owner_at a.memory.frames h) (owner_at b.memory.frames h)) b.transfers x.lent w.was w.there f was_on) (y.lent i d l f on);
  pooled = λ d f on. owners_on (owner_at a.memory.frames f) (owner_at b.memory.frames f) (owner_at c.memory.frames f) (x.pooled d f on) (y.pooled d f (subst (λ z. 0 < pool_on f (entry z d)) (sym x.pools) on));
  told = λ slots rests sents paged. y.told slots rests sents (pages_kept a b slots g x.settled x.config paged) ∙ x.told slots rests sents paged;
  outlined = subst (λ n. ended p (state_of c (no_bytes n)) ≡ ended p (state_of b (no_bytes n))) (ap (λ z. z.page) x.config) y.outlined ∙ x.outlined;
}

-- orphans of the view stand in the order of their numbers
all_above : (view : ℕ → flat.Orphan) (was : ℕ → Bool) → ((j : ℕ) → (view j).number ≡ j) → (low a n : ℕ) → low ≤ a → All (λ (o : flat.Orphan). low ≤ o.number) (map view (filter was (range_with_len a n)))
all_above view was is low a zero l = λ i d m. absurd (omega (arith, m))
all_above view was is low a (suc n) l = cond_both (was a) (a ∷ filter was (range_with_len (a + 1) n)) (filter was (range_with_len (a + 1) n)) (λ z. All (λ (o : flat.Orphan). low ≤ o.number) (map view z))
    (λ t. All-cons (λ (o : flat.Orphan). low ≤ o.number) (view a) (map view (filter was (range_with_len (a + 1) n))) (let e = is a in omega (arith, l, e)) (all_above view was is low (a + 1) n (omega (arith, l))))
    (λ t. all_above view was is low (a + 1) n (omega (arith, l)))

low_numbers : (view : ℕ → flat.Orphan) (was : ℕ → Bool) → ((j : ℕ) → (view j).number ≡ j) → (a n : ℕ) → AllPairs Low (map view (filter was (range_with_len a n)))
low_numbers view was is a zero = λ i j d l m. absurd (omega (arith, l, m))
low_numbers view was is a (suc n) = cond_both (was a) (a ∷ filter was (range_with_len (a + 1) n)) (filter was (range_with_len (a + 1) n)) (λ z. AllPairs Low (map view z))
    (λ t. AllPairs-cons Low (view a) (map view (filter was (range_with_len (a + 1) n))) (λ i d l. let e = is a in let above = all_above view was is a (a + 1) n (omega arith) i d l in omega (arith, e, above)) (low_numbers view was is (a + 1) n))
    (λ t. low_numbers view was is (a + 1) n)

low_orphans : (page : ℕ) (s : ℕ → List ℕ) (regions : List Region) (ts : List Transfer) → AllPairs Low (orphans_view page s regions ts)
unfolding all_numbers
low_orphans page s regions ts = low_numbers (orphan_view page s ts) (is_orphan regions ts) (λ j. refl) 0 577

not_queued : (phase : Phase) → is_posted phase ≡ true → (is_queued phase ≡ false) × (is_moving phase ≡ false) × (is_ready phase ≡ false)
not_queued Queued e = absurd (cc)
not_queued Posted e = (refl, refl, refl)
not_queued Moving e = absurd (cc)
not_queued Ready e = absurd (cc)

none_of : {X : Type 0} (o : Option X) → is_some o ≡ false → o ≡ None
none_of None e = refl
none_of (Some x) e = absurd (cc)

-- a transfer is found by its number
pub found_transfer : (u : Transfer) (ts : List Transfer) → AllPairs (λ (x y : Transfer). x.id.0 < y.id.0) ts → Has u ts → find (has_number u.id.0) ts ≡ Some u
found_transfer u [] rising h = absurd h
found_transfer u (x ∷ ts) rising (inl same) = ap (λ b. cond b (Some x) (find (has_number u.id.0) ts)) (eq-eqb x.id.0 u.id.0 (ap number_of same)) ∙ ap (λ (y : Transfer). Some y) same
found_transfer u (x ∷ ts) rising (inr later) =
    let less = pairs_head (λ (y z : Transfer). y.id.0 < z.id.0) x ts rising u later in
    let fails : has_number u.id.0 x ≡ false = grind (arith, rules, less) in
    ap (λ b. cond b (Some x) (find (has_number u.id.0) ts)) fails ∙ found_transfer u ts (pairs_tail (λ (y z : Transfer). y.id.0 < z.id.0) x ts rising) later

pub posted_found : (p n : ℕ) (k : Kernel) (x : IsPostedAt p n k.transfers) → IsSettled k → find (has_number n) k.transfers ≡ Some x.transfer
posted_found p n k x g = subst (λ j. find (has_number j) k.transfers ≡ Some x.transfer) x.number (found_transfer x.transfer k.transfers g.rising x.there)

has_less : {X : Type 0} (p : X → Bool) (x : X) (xs : List X) → Has x (without p xs) → Has x xs
has_less p x [] h = h
has_less p x (y ∷ ys) h = elim (p y) as (λ b. Has x (cond b ys (y ∷ without p ys)) → Has x (y ∷ ys)) [
  | true ↦ λ i. inr i
  | false ↦ λ i. ⊎_elim (λ (same : y ≡ x). inl same) (λ later. inr (has_less p x ys later)) i
] h

pub one_less : {X : Type 0} (p : X → Bool) (x : X) (xs : List X) → find p xs ≡ Some x → length (without p xs) + 1 ≡ length xs
one_less p x [] e = absurd (cc)
one_less p x (y ∷ ys) e = elim (p y) as (λ b. cond b (Some y) (find p ys) ≡ Some x → length (cond b ys (y ∷ without p ys)) + 1 ≡ length (y ∷ ys)) [
  | true ↦ λ h. omega arith
  | false ↦ λ h. let rest = one_less p x ys h in omega (arith, rest)
] e

-- a posted input has ended
module _ (laws : ExitLaws) (p n : ℕ) (k : Kernel) (t : Transfer) (new : FrameTable) (g : IsSettled k) (found : find (has_number n) k.transfers ≡ Some t) (posted : is_posted_by p t ≡ true) (back : IsGivenBack t k.memory.frames new) (shaped : IsShaped new.page new.owners new.counts new.bytes) (owned : AreLoansOwned new.owners new.counts) where
  abbrev m : Memory
  m = record (k.memory) { frames = new }

  abbrev after : Kernel
  after = without_call k m n (demux.without n k.posted)

  phases : (is_queued t.phase ≡ false) × (is_moving t.phase ≡ false) × (is_ready t.phase ≡ false)
  phases = let is : is_posted t.phase ≡ true = grind (arith, rules, posted) in not_queued t.phase is

  unbuffered : t.buffer ≡ None
  unbuffered =
      let there = (find_has (has_number n) k.transfers t found).0 in
      let is = all_has (λ (u : Transfer). is_some u.buffer ≡ (has_arrived u.dev u && not (is_early_device (entry k.devices u.dev)))) k.transfers g.arrived.inputs t there in
      let unready : is_ready t.phase ≡ false = phases.2 in
      let fails : (has_arrived t.dev t && not (is_early_device (entry k.devices t.dev))) ≡ false = grind (arith, rules, unready) in
      none_of t.buffer (is ∙ fails)

  leaves : LeavesOthers n t k.transfers k.pools k.memory m
  leaves = laws.others k.config.page k.memory k.devices n t k.transfers k.pools new (laws.sound k n g) found shaped owned back

  settled : IsSettled after
  settled = laws.ends k m n t (demux.without n k.posted) k.devices k.pools g found phases.0 phases.1 (laws.loans k n t new g back leaves) (laws.unbuffered k t g unbuffered) (laws.posted n k.posted k.transfers g.rising g.posted)

  state_left : (a b : Bytes) → ShowsOthers k n a b → ended p (state_of after b) ≡ ended p (state_of k a)
  state_left a b shows =
      let view : Transfer → flat.Transfer = transfer_view a.seen.kept_bytes k.devices k.pools (first_waiting k.transfers) in
      let is : find (is_numbered n) (map view k.transfers) ≡ Some (view t) = find_map (is_numbered n) view k.transfers ∙ ap (option_map view) found in
      ap (ended p) (laws.leaves k m n t (demux.without n k.posted) a b g found phases.0 phases.1 shows)
      ∙ ended_posted (state_of k a) p n (view t) (low_orphans k.config.page a.seen.kept_bytes (owned_regions k.spaces.processes) k.transfers) is posted

  pub exits_posted : Exits p k after
  exits_posted = record {
    settled = settled;
    alive = λ e. e;
    config = refl;
    numbers = refl;
    pools = refl;
    hidden = refl;
    meters = back.loans.meters ∙ back.wires.only.meters;
    landed = back.loans.landed ∙ back.wires.only.landed;
    among = λ i d l. record { was = get_or after.transfers i d; there = has_less (has_number n) (get_or after.transfers i d) k.transfers (has_at after.transfers i d l); number = refl; loans = refl };
    lent = λ i d l f on. (leaves.lent i d l f on).owner;
    pooled = λ d f on. (leaves.pooled d f on).owner;
    told = λ slots rests sents paged. state_left (bytes_over k.memory slots rests sents) (bytes_over m slots rests sents) (laws.shown k m n t slots rests sents g leaves);
    outlined = state_left (no_bytes k.config.page) (no_bytes k.config.page) (laws.blind k n);
  }

-- processes that have neither region n nor its number in their queue
module _ (s : ℕ → ℕ → List ℕ) (n : ℕ) where
  regions_same : (rs : List Region) → list_any (has_id n) rs ≡ false → filter (λ (q : flat.Region). not (model.is_region n q)) (map (region_view s) rs) ≡ map (region_view s) rs
  regions_same [] e = refl
  regions_same (r ∷ rs) e = elim (has_id n r) as (λ b. (b || list_any (has_id n) rs) ≡ false → cond (not b) (region_view s r ∷ filter (λ (q : flat.Region). not (model.is_region n q)) (map (region_view s) rs)) (filter (λ (q : flat.Region). not (model.is_region n q)) (map (region_view s) rs)) ≡ map (region_view s) (r ∷ rs)) [
    | true ↦ λ h. absurd (cc)
    | false ↦ λ h. ap (λ l. region_view s r ∷ l) (regions_same rs h)
  ] e

  queue_same : (q : List ℕ) → list_any (λ m. m == n) q ≡ false → filter (λ m. not (m == n)) q ≡ q
  queue_same [] e = refl
  queue_same (x ∷ q) e = elim (x == n) as (λ b. (b || list_any (λ m. m == n) q) ≡ false → cond (not b) (x ∷ filter (λ m. not (m == n)) q) (filter (λ m. not (m == n)) q) ≡ x ∷ q) [
    | true ↦ λ h. absurd (cc)
    | false ↦ λ h. ap (λ l. x ∷ l) (queue_same q h)
  ] e

  process_same : (o : Option (List Region)) (q : List ℕ) → list_any (has_id n) (regions_of o) ≡ false → (is_some o ≡ true → list_any (λ m. m == n) q ≡ false) → model.change_process (without_region n) (process_view s o q) ≡ process_view s o q
  process_same None q a b = refl
  process_same (Some rs) q a b = λ i. Some (record { queue = queue_same q (b refl) i; regions = regions_same rs a i })

  any_view : (rs : List Region) → list_any (model.is_region n) (map (region_view s) rs) ≡ list_any (has_id n) rs
  any_view [] = refl
  any_view (r ∷ rs) = ap (λ b. has_id n r || b) (any_view rs)

pub entry_below : {X : Type 0} (xs : List (Option X)) (i : ℕ) (y : X) → entry xs i ≡ Some y → i < length xs
entry_below [] i y e = absurd (cc)
entry_below (z ∷ xs) zero y e = omega arith
entry_below (z ∷ xs) (suc i) y e = let l = entry_below xs i y e in omega (arith, l)

other_number : (n : ℕ) (q : Region) → n ≢ q.id.0 → has_id n q ≡ false
other_number n q differ = grind (arith, rules, differ)

none_numbered : (n : ℕ) (rs : List Region) → ((q : Region) → Has q rs → n ≢ q.id.0) → list_any (has_id n) rs ≡ false
none_numbered n rs differ = none_from (has_id n) rs (λ q h. other_number n q (differ q h))

-- the regions behind the first one
abbrev pub rest_of : List Region → List Region
rest_of [] = []
rest_of (r ∷ rs) = rs

pub first_got : (rs : List Region) (r : Region) → slice_get rs 0 ≡ Some r → rs ≡ r ∷ rest_of rs
first_got [] r e = absurd (cc)
first_got (x ∷ rs) r e = let same : x ≡ r = cc in ap (λ y. y ∷ rs) same

pub first_found : (rs : List Region) (r : Region) → slice_get rs 0 ≡ Some r → find (has_id r.id.0) rs ≡ Some r
first_found rs r e = ap (find (has_id r.id.0)) (first_got rs r e) ∙ ap (λ b. cond b (Some r) (find (has_id r.id.0) (rest_of rs))) (eq-eqb r.id.0 r.id.0 refl)

-- the first region of the process is removed
module _ (laws : ExitLaws) (p : ℕ) (r : Region) (rest : List Region) (k new : Kernel) (g : IsSettled k) (first : spaces.regions_of p k.spaces ≡ r ∷ rest) (x : RemovesRegion p r k new) where
  abbrev n : ℕ
  n = r.id.0

  apart : AllPairs (λ (a b : Region). a.id.0 ≢ b.id.0) (r ∷ rest)
  apart = subst (AllPairs (λ (a b : Region). a.id.0 ≢ b.id.0)) first (g.numbered.each p)

  none_rest : list_any (has_id n) rest ≡ false
  none_rest = none_numbered n rest (λ q h. pairs_head (λ (a b : Region). a.id.0 ≢ b.id.0) r rest apart q h)

  any_here : list_any (has_id n) (regions_of (entry k.spaces.processes p)) ≡ true
  any_here = ap (list_any (has_id n)) first ∙ ap (λ b. b || list_any (has_id n) rest) (eq-eqb n n refl)

  state_removed : (a b : Bytes) → ShowsRemoval r k a b → ended p (state_of new b) ≡ ended p (state_of k a)
  state_removed a b shows =
      let s = a.seen.entry_bytes in
      let here : model.regions_at (state_of k a) p ≡ region_view s r ∷ map (region_view s) rest = regions_view s k.spaces.processes k.queues p ∙ ap (map (region_view s)) first in
      let only = g.numbered.only p n any_here in
      ap (ended p) (laws.removal.state p r k new a b x g shows)
      ∙ ended_removed (state_of k a) p (region_view s r) (map (region_view s) rest) (low_orphans k.config.page a.seen.kept_bytes (owned_regions k.spaces.processes) k.transfers) here (any_view s n rest ∙ none_rest)
      (λ i ne.
      let is = process_entry s k.spaces.processes k.queues i in
      ap (model.change_process (without_region n)) is ∙ process_same s n (entry k.spaces.processes i) (get_or k.queues i []) (only i ne) (λ live. g.listed i n live (only i ne)) ∙ sym is)

  same_transfers : new.transfers ≡ k.transfers
  same_transfers = ap (λ (z : Kernel). z.transfers) x.left

  there_below : p < length k.spaces.processes
  there_below = entry_below k.spaces.processes p x.regions x.there

  left_alive : spaces.is_alive p new.spaces ≡ true
  left_alive = ap (λ (z : Kernel). spaces.is_alive p z.spaces) x.left ∙ ap is_some (get_or-set_same k.spaces.processes p _ None there_below)

  pub exits_removed : Exits p k new
  exits_removed =
      let kept : Kept k new = laws.removal.keeps p r k new x g in
      record {
        settled = laws.removal.settles p r k new x g;
        alive = λ e. left_alive;
        config = ap (λ (z : Kernel). z.config) x.left;
        numbers = ap (λ (z : Kernel). z.next) x.left;
        pools = ap (λ (z : Kernel). z.pools) x.left;
        hidden = ap (λ (z : Kernel). z.hidden) x.left;
        meters = ap (λ (t : FrameTable). t.meters) x.object.frames;
        landed = ap (λ (t : FrameTable). t.landed) x.object.frames;
        among = subst (All (WasAmong k.transfers)) (sym same_transfers) (λ i d l. record { was = get_or k.transfers i d; there = has_at k.transfers i d l; number = refl; loans = refl });
        lent = subst (All (λ (u : Transfer). (f : ℕ) → has_frame f u ≡ true → StaysOwned (owner_at k.memory.frames f) (owner_at new.memory.frames f))) (sym same_transfers) (λ i d l f on.
            let u : Transfer = get_or k.transfers i d in
            let is = found_transfer u k.transfers g.rising (has_at k.transfers i d l) in
            (kept.lent u.id.0 f u u (record { was = is; is = ap (find (has_number u.id.0)) same_transfers ∙ is }) on on).owner);
        pooled = λ d f on. (kept.pooled d f on (subst (λ z. 0 < pool_on f (entry z d)) (sym (ap (λ (z : Kernel). z.pools) x.left)) on)).owner;
        told = λ slots rests sents paged. state_removed (bytes_over k.memory slots rests sents) (bytes_over new.memory slots rests sents) (laws.removal.shows p r k new slots rests sents x g paged);
        outlined = state_removed (no_bytes k.config.page) (no_bytes k.config.page) (laws.removal.outlines r k);
      }

  pub regions_fewer : length (spaces.regions_of p new.spaces) + 1 ≡ length (spaces.regions_of p k.spaces)
  regions_fewer =
      let is : x.regions ≡ r ∷ rest = sym (ap regions_of x.there) ∙ first in
      let left : spaces.regions_of p new.spaces ≡ filter (λ q. not (has_id n q)) (r ∷ rest) = ap (λ (z : Kernel). spaces.regions_of p z.spaces) x.left ∙ ap regions_of (get_or-set_same k.spaces.processes p _ None there_below) ∙ ap (filter (λ q. not (has_id n q))) is in
      let gone : filter (λ q. not (has_id n q)) (r ∷ rest) ≡ rest = ap (λ b. cond (not b) (r ∷ filter (λ q. not (has_id n q)) rest) (filter (λ q. not (has_id n q)) rest)) (eq-eqb n n refl) ∙ all_left rest none_rest in
      omega (arith, ap length (left ∙ gone), ap length first) where
        all_left : (rs : List Region) → list_any (has_id n) rs ≡ false → filter (λ q. not (has_id n q)) rs ≡ rs
        all_left [] e = refl
        all_left (q ∷ rs) e = elim (has_id n q) as (λ b. (b || list_any (has_id n) rs) ≡ false → cond (not b) (q ∷ filter (λ y. not (has_id n y)) rs) (filter (λ y. not (has_id n y)) rs) ≡ q ∷ rs) [
          | true ↦ λ h. absurd (cc)
          | false ↦ λ h. ap (λ l. q ∷ l) (all_left rs h)
        ] e

-- the loans and wires of a pending transfer are out
module _ (k : Kernel) (t : Transfer) (g : IsSettled k) (there : Has t k.transfers) where
  pub loans_out : AreOut k.memory.frames (loans_of t.loans)
  loans_out kind.Strong f = omega (arith, ap (λ (c : Counts). c.strong) (g.counted f), at_least (loans_on kind.Strong f) k.transfers t there)
  loans_out kind.Weak f = omega (arith, ap (λ (c : Counts). c.weak) (g.counted f), at_least (loans_on kind.Weak f) k.transfers t there)
  loans_out kind.Input f = omega (arith, ap (λ (c : Counts). c.input) (g.counted f), at_least (loans_on kind.Input f) k.transfers t there)

  pub wires_out : (f : ℕ) → wires_on f t ≤ (counts_at k.memory.frames f).wires
  wires_out f = omega (arith, ap (λ (c : Counts). c.wires) (g.counted f), at_least (wires_on f) k.transfers t there)

pub posted_one : (p n : ℕ) (k : Kernel) (t : Transfer) (x : IsPostedAt p n k.transfers) → IsSettled k → find (has_number n) k.transfers ≡ Some t → is_posted_by p t ≡ true
posted_one p n k t x g e = let both : Some x.transfer ≡ Some t = sym (posted_found p n k x g) ∙ e in let same : x.transfer ≡ t = cc in subst (λ u. is_posted_by p u ≡ true) same x.posted

pub exits_posted_as : (laws : ExitLaws) (p n : ℕ) (k : Kernel) (t : Transfer) (new : FrameTable) (ts : List Transfer) (posted : List Input) → IsSettled k → find (has_number n) k.transfers ≡ Some t → is_posted_by p t ≡ true → IsGivenBack t k.memory.frames new → IsShaped new.page new.owners new.counts new.bytes → AreLoansOwned new.owners new.counts → ts ≡ without (has_number n) k.transfers → posted ≡ demux.without n k.posted → Exits p k (record k { memory = record (k.memory) { frames = new }; transfers = ts; posted = posted })
exits_posted_as laws p n k t new ts posted g found is back shaped owned a b = subst (λ l. Exits p k (record k { memory = record (k.memory) { frames = new }; transfers = ts; posted = l })) (sym b) (subst (λ l. Exits p k (record k { memory = record (k.memory) { frames = new }; transfers = l; posted = demux.without n k.posted })) (sym a) (exits_posted laws p n k t new g found is back shaped owned))
