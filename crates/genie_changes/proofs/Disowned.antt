-- The transfers of a process without their owner: what is lent for them, and what devices do for them.
use Rattle.std.proofs.Common.{◌≡◌, ℕ, ◌+◌, ◌*◌, ◌<◌, ◌≤◌, zero, suc, Bool, true, false, not, cond, List, [], ◌∷◌, refl, sym, ap, ap₂, subst, arith, ◌∙◌, map, filter, find}
use Rattle.std.specs.Prelude.{Option, Some, None, All, AllPairs, IfSome, flat_map, sum_by, is_some, nat_le, nat_lt, ◌&&◌, ◌||◌, if◌then◌else◌}
use Rattle.std.specs.List.{list_any}
use Rattle.std.specs.Option.{option_map}
use Rattle.std.proofs.lemmas.List.Sums.{sum_by-cons}
use Rattle.genie_base.specs.Transfers.{class_of, is_strong}
use Rattle.genie_base.specs.Lemmas.Places.{num}
use Rattle.genie_base.specs.Lemmas.Searches.{pairs_mapped}
use Rattle.genie_base.specs.declared.numbers.RegionId.{RegionId}
use Rattle.genie_base.specs.declared.semantics.Class.{Class}
use Rattle.genie_base.specs.declared.semantics.Class.TheVariants.{Copy, Share, Move, WeakMove}
use Rattle.genie_base.specs.declared.semantics.Direction.{Direction}
use Rattle.genie_base.specs.declared.semantics.Direction.TheVariants as direction
use Rattle.genie_demux.specs.declared.input.Input.{Input}
use Rattle.genie_device.specs.Device.{DeviceView}
use Rattle.genie_device.specs.declared.present.Present.{Present}
use Rattle.genie_frame.specs.declared.frame.Counts.{Counts}
use Rattle.genie_frame.specs.declared.frame.Owner.{Owner}
use Rattle.genie_input.specs.Pools.{PoolState}
use Rattle.genie_object.specs.declared.memory.Memory.{Memory}
use Rattle.genie_plan.specs.Loans as kind
use Rattle.genie_region.specs.declared.region.Region.{Region}
use Rattle.genie_model.specs.Lemmas.Lists.{find_map}
use Rattle.genie_model.specs.Pending.{is_just}
use Rattle.genie_model.specs.Space.{is_move}
use Rattle.genie_model.specs.Tables.{entry}
use Rattle.genie_kernel.specs.declared.transfer.Loans.{Loans}
use Rattle.genie_kernel.specs.declared.transfer.Loans.TheVariants.{Nothing, Outward, Inward}
use Rattle.genie_kernel.specs.declared.transfer.Transfer.{Transfer}
use Rattle.genie_kernel.specs.Calls.{has_arrived, is_named, is_strong_call, names_weakly, number_of, first_waiting, receiver, waits_for, receives_from}
use Rattle.genie_kernel.specs.Counted.{AreCounted, loans_on, wires_on, pool_on}
use Rattle.genie_kernel.specs.Held.{AreHeldPages, HoldsPages, PageOf}
use Rattle.genie_kernel.specs.Loans.{has_frame}
use Rattle.genie_kernel.specs.Matching.{ArePosted, AreSending, AreReceiving, HaveArrived, IsSending, IsStored, has_buffer, is_posted_call, posted_as, room_in}
use Rattle.genie_kernel.specs.Orphans.{covers, byte_under, is_owned, orphan_byte, orphans_view, all_places, all_numbers}
use Rattle.genie_kernel.specs.Owners.{AreOwned, holders}
use Rattle.genie_kernel.specs.Planned.{ArePlanned, FitDevices, FitsDevice, Lends, LendsOut, LendsIn, LendsInput, is_early_device}
use Rattle.genie_kernel.specs.Regions.{has_id}
use Rattle.genie_changes.specs.Gone.{disowned, left_named}
use Rattle.genie_changes.specs.Settled.{LieInRegions}

-- what a map keeps of each element
module _ {X : Type 0} (g : X → X) where
  sum_mapped : (f : X → ℕ) → ((x : X) → f (g x) ≡ f x) → (xs : List X) → sum_by f (map g xs) ≡ sum_by f xs
  sum_mapped f same [] = refl
  sum_mapped f same (x ∷ xs) = omega (arith, sum_by-cons f x xs, sum_by-cons f (g x) (map g xs), same x, sum_mapped f same xs)

  pub any_mapped : (q : X → Bool) → ((x : X) → q (g x) ≡ q x) → (xs : List X) → list_any q (map g xs) ≡ list_any q xs
  any_mapped q same [] = refl
  any_mapped q same (x ∷ xs) = ap₂ ◌||◌ (same x) (any_mapped q same xs)

  all_first : (P : X → Type 0) (x y : X) (xs ys : List X) → All P (x ∷ xs) → (P x → P y) → (All P xs → All P ys) → All P (y ∷ ys)
  all_first P x y xs ys a f h zero d l = f (a zero d (omega arith))
  all_first P x y xs ys a f h (suc k) d l = h (λ i e n. a (suc i) e (omega (arith, n))) k d (omega (arith, l))

  all_mapped : (P : X → Type 0) → ((x : X) → P x → P (g x)) → (xs : List X) → All P xs → All P (map g xs)
  all_mapped P keeps [] a = a
  all_mapped P keeps (x ∷ xs) a = all_first P x (g x) xs (map g xs) a (keeps x) (all_mapped P keeps xs)

  some_first : (P : X → Type 0) (b : Bool) (x y : X) (xs ys : List X) → All P (cond b (x ∷ xs) xs) → (b ≡ true → P x → P y) → (All P xs → All P ys) → All P (cond b (y ∷ ys) ys)
  some_first P true x y xs ys a f h = all_first P x y xs ys a (f refl) h
  some_first P false x y xs ys a f h = h a

  some_mapped : (P : X → Type 0) (q : X → Bool) → ((x : X) → q (g x) ≡ q x) → ((x : X) → q x ≡ true → P x → P (g x)) → (xs : List X) → All P (filter q xs) → All P (filter q (map g xs))
  some_mapped P q same keeps [] a = a
  some_mapped P q same keeps (x ∷ xs) a = subst (λ c. All P (cond c (g x ∷ filter q (map g xs)) (filter q (map g xs)))) (sym (same x)) (some_first P (q x) x (g x) (filter q xs) (filter q (map g xs)) a (keeps x) (some_mapped P q same keeps xs))

  listed_mapped : {Y : Type 0} (f : X → Y) (q : X → Bool) → ((x : X) → q (g x) ≡ q x) → ((x : X) → f (g x) ≡ f x) → (xs : List X) → map f (filter q (map g xs)) ≡ map f (filter q xs)
  listed_mapped f q passes same [] = refl
  listed_mapped f q passes same (x ∷ xs) =
      ap (λ c. map f (cond c (g x ∷ filter q (map g xs)) (filter q (map g xs)))) (passes x)
      ∙ (elim (q x) as (λ c. map f (cond c (g x ∷ filter q (map g xs)) (filter q (map g xs))) ≡ map f (cond c (x ∷ filter q xs) (filter q xs))) [ true ↦ ap₂ ◌∷◌ (same x) (listed_mapped f q passes same xs) | false ↦ listed_mapped f q passes same xs ])

-- a weak call names what it named
weak_names : (c : Class) (r : Option RegionId) (k : ℕ) → (not (is_strong c) && is_named (if is_move c then None else r) k) ≡ (not (is_strong c) && is_named r k)
weak_names Copy r k = refl
weak_names Share r k = refl
weak_names Move r k = refl
weak_names WeakMove r k = refl

weak_region : (c : Class) (r : Option RegionId) → not (is_strong c) ≡ true → (if is_move c then None else r) ≡ r
weak_region Copy r e = absurd (cc)
weak_region Share r e = refl
weak_region Move r e = absurd (cc)
weak_region WeakMove r e = refl

module _ (p : ℕ) where
  abbrev pub g : Transfer → Transfer
  g = disowned p

  -- with another owner, and maybe another region
  abbrev freed : Option RegionId → Transfer → Transfer
  freed o t = record t { owner = None; region = o }

  pub pick : (P : Transfer → Type 0) (t : Transfer) → P (freed (left_named t) t) → P t → P (g t)
  pick P t a b = elim (is_just t.owner p) as (λ c. P (if c then freed (left_named t) t else t)) [ true ↦ a | false ↦ b ]

  pub same_on : {Y : Type 0} (f : Transfer → Y) → ((o : Option RegionId) (t : Transfer) → f (freed o t) ≡ f t) → (t : Transfer) → f (g t) ≡ f t
  same_on f same t = pick (λ u. f u ≡ f t) t (same (left_named t) t) refl

  pub names_same : (k : ℕ) (t : Transfer) → names_weakly k (g t) ≡ names_weakly k t
  names_same k t = pick (λ u. names_weakly k u ≡ names_weakly k t) t (weak_names (class_of t.sem) t.region k) refl

  pub covers_same : (k x : ℕ) (t : Transfer) → covers k x (g t) ≡ covers k x t
  covers_same k x t = pick (λ u. covers k x u ≡ covers k x t) t (ap (λ b. covered b) (weak_names (class_of t.sem) t.region k)) refl where
    covered : Bool → Bool
    covered b = b && nat_le t.offset x && nat_lt x (t.offset + t.len)

  pub counted_disowned : (ts : List Transfer) (counts : List Counts) (pools : List (Option PoolState)) → AreCounted counts ts pools → AreCounted counts (map g ts) pools
  counted_disowned ts counts pools h f = h f ∙ sym (λ i. record {
    strong = sum_mapped g (loans_on kind.Strong f) (same_on (loans_on kind.Strong f) (λ o t. refl)) ts i;
    weak = sum_mapped g (loans_on kind.Weak f) (same_on (loans_on kind.Weak f) (λ o t. refl)) ts i;
    input = sum_mapped g (loans_on kind.Input f) (same_on (loans_on kind.Input f) (λ o t. refl)) ts i + sum_by (pool_on f) pools;
    wires = sum_mapped g (wires_on f) (same_on (wires_on f) (λ o t. refl)) ts i;
  })

  holders_disowned : (ts : List Transfer) (f : ℕ) → holders (map g ts) f ≡ holders ts f
  holders_disowned ts f = listed_mapped g number_of (has_frame f) (same_on (has_frame f) (λ o t. refl)) (same_on number_of (λ o t. refl)) ts

  pub owned_disowned : (ts : List Transfer) (owners : List Owner) (pools : List (Option PoolState)) → AreOwned owners ts pools → AreOwned owners (map g ts) pools
  owned_disowned ts owners pools h = record {
    system = λ f k e. holders_disowned ts f ∙ h.system f k e;
    pooled = h.pooled;
    spare = λ f d e. holders_disowned ts f ∙ h.spare f d e;
    pool_frames = h.pool_frames;
  }

  holds_disowned : (page : ℕ) (m : Memory) (regions : List Region) (page_in : ℕ → PageOf) (frame_of : PageOf → ℕ) (t : Transfer) → not (is_strong_call t) ≡ true → HoldsPages page m regions page_in frame_of t → HoldsPages page m regions page_in frame_of (g t)
  holds_disowned page m regions page_in frame_of t weak h = pick (HoldsPages page m regions page_in frame_of) t (subst (λ o. HoldsPages page m regions page_in frame_of (freed o t)) (sym (weak_region (class_of t.sem) t.region weak)) (record { pages = h.pages; frames = h.frames; held = h.held })) h

  pub held_disowned : (ts : List Transfer) (page : ℕ) (m : Memory) (regions : List Region) → AreHeldPages page m regions ts → AreHeldPages page m regions (map g ts)
  held_disowned ts page m regions h = record {
    page_in = h.page_in;
    frame_of = h.frame_of;
    each = some_mapped g (HoldsPages page m regions h.page_in h.frame_of) (λ t. not (is_strong_call t)) (same_on (λ t. not (is_strong_call t)) (λ o t. refl)) (holds_disowned page m regions h.page_in h.frame_of) ts h.each;
  }

  out_freed : (page : ℕ) (o : Option RegionId) (t : Transfer) (loans : Loans) → LendsOut page t loans → LendsOut page (freed o t) loans
  out_freed page o t Nothing h = h
  out_freed page o t (Outward q) h = h
  out_freed page o t (Inward q) h = h

  in_freed : (page : ℕ) (o : Option RegionId) (t : Transfer) (loans : Loans) → LendsIn page t loans → LendsIn page (freed o t) loans
  in_freed page o t Nothing h = h
  in_freed page o t (Outward q) h = h
  in_freed page o t (Inward q) h = h

  input_freed : (page : ℕ) (owners : List Owner) (early : Bool) (o : Option RegionId) (t : Transfer) (strong : Bool) → LendsInput page owners early t strong → LendsInput page owners early (freed o t) strong
  input_freed page owners true o t true h = (in_freed page o t t.loans h.0, h.1)
  input_freed page owners false o t true h = h
  input_freed page owners early o t false h = in_freed page o t t.loans h

  lends_freed : (page : ℕ) (owners : List Owner) (early : Bool) (o : Option RegionId) (t : Transfer) (d : Direction) → Lends page owners early t d → Lends page owners early (freed o t) d
  lends_freed page owners early o t direction.Outward h = out_freed page o t t.loans h
  lends_freed page owners early o t direction.Inward h = input_freed page owners early o t (is_strong_call t) h

  pub planned_disowned : (ts : List Transfer) (page : ℕ) (owners : List Owner) (devices : List (Option DeviceView)) → ArePlanned page owners devices ts → ArePlanned page owners devices (map g ts)
  planned_disowned ts page owners devices h = all_mapped g (λ (t : Transfer). Lends page owners (is_early_device (entry devices t.dev)) t t.dir) (λ t was. pick (λ (u : Transfer). Lends page owners (is_early_device (entry devices u.dev)) u u.dir) t (lends_freed page owners (is_early_device (entry devices t.dev)) (left_named t) t t.dir was) was) ts h

  pub fitting_disowned : (ts : List Transfer) (devices : List (Option DeviceView)) → FitDevices devices ts → FitDevices devices (map g ts)
  fitting_disowned ts devices h = all_mapped g (λ (t : Transfer). FitsDevice t.len (entry devices t.dev)) (λ t was. pick (λ (u : Transfer). FitsDevice u.len (entry devices u.dev)) t was was) ts h

  pub rising_disowned : (ts : List Transfer) → AllPairs (λ (x y : Transfer). x.id.0 < y.id.0) ts → AllPairs (λ (x y : Transfer). x.id.0 < y.id.0) (map g ts)
  rising_disowned ts h = pairs_mapped (λ (x y : Transfer). x.id.0 < y.id.0) g (λ x y less. let a = same_on number_of (λ o t. refl) x in let b = same_on number_of (λ o t. refl) y in omega (arith, less, a, b)) ts h

  pub ranges_disowned : (page : ℕ) (regions : List Region) (ts : List Transfer) → LieInRegions page regions ts → LieInRegions page regions (map g ts)
  ranges_disowned page regions ts h = all_mapped g (λ (t : Transfer). (r : Region) → find (has_id r.id.0) regions ≡ Some r → names_weakly r.id.0 t ≡ true → t.offset + t.len ≤ r.pages * page)
      (λ t was r found passes.
      let bound = was r found (sym (names_same r.id.0 t) ∙ passes) in
      let a = same_on (λ (u : Transfer). u.offset) (λ o u. refl) t in
      let b = same_on (λ (u : Transfer). u.len) (λ o u. refl) t in
      omega (arith, bound, a, b)) ts h

  pub posted_disowned : (ts : List Transfer) (posted : List Input) → ArePosted posted ts → ArePosted posted (map g ts)
  posted_disowned ts posted h = record {
    listed = h.listed ∙ sym (listed_mapped g posted_as is_posted_call (same_on is_posted_call (λ o t. refl)) (same_on posted_as (λ o t. refl)) ts);
    unstored = all_mapped g (λ (t : Transfer). is_posted_call t ≡ true → t.stored ≡ 0) (λ t was. pick (λ (u : Transfer). is_posted_call u ≡ true → u.stored ≡ 0) t was was) ts h.unstored;
  }

  sending_for : (v : DeviceView) (o : Option Transfer) → IsSending v o → IsSending v (option_map g o)
  sending_for v None h = h
  sending_for v (Some t) h = pick (λ (u : Transfer). IsSending v (Some u)) t (record { unsent = h.unsent; staged = h.staged; memory = h.memory }) h

  pub first_disowned : (ts : List Transfer) (d : ℕ) → first_waiting (map g ts) d ≡ option_map g (first_waiting ts d)
  first_disowned ts d = find_map (waits_for d) g (same_on (waits_for d) (λ o t. refl)) ts

  pub receiver_disowned : (ts : List Transfer) (d : ℕ) → receiver (map g ts) d ≡ option_map g (receiver ts d)
  receiver_disowned ts d = find_map (receives_from d) g (same_on (receives_from d) (λ o t. refl)) ts

  if_some : {X : Type 0} (P Q : X → Type 0) (o : Option X) → ((x : X) → P x → Q x) → IfSome o P → IfSome o Q
  if_some P Q None f h = h
  if_some P Q (Some x) f h = f x h

  pub sending_disowned : (ts : List Transfer) (devices : List (Option DeviceView)) → AreSending devices ts → AreSending devices (map g ts)
  sending_disowned ts devices h d = if_some (λ (v : DeviceView). IsSending v (first_waiting ts d)) (λ (v : DeviceView). IsSending v (first_waiting (map g ts) d)) (entry devices d) (λ v was. subst (IsSending v) (sym (first_disowned ts d)) (sending_for v (first_waiting ts d) was)) (h d)

  stored_for : (n : Present) (o : Option Transfer) → IfSome o (IsStored n) → IfSome (option_map g o) (IsStored n)
  stored_for n None h = h
  stored_for n (Some t) h = pick (IsStored n) t h h

  pub receiving_disowned : (ts : List Transfer) (devices : List (Option DeviceView)) → AreReceiving devices ts → AreReceiving devices (map g ts)
  receiving_disowned ts devices h d = if_some (λ (v : DeviceView). IfSome v.present (λ (n : Present). IfSome (receiver ts d) (IsStored n))) (λ (v : DeviceView). IfSome v.present (λ (n : Present). IfSome (receiver (map g ts) d) (IsStored n))) (entry devices d)
      (λ v was. if_some (λ (n : Present). IfSome (receiver ts d) (IsStored n)) (λ (n : Present). IfSome (receiver (map g ts) d) (IsStored n)) v.present (λ n still. subst (λ o. IfSome o (IsStored n)) (sym (receiver_disowned ts d)) (stored_for n (receiver ts d) still)) was) (h d)

  pub arrived_disowned : (ts : List Transfer) (devices : List (Option DeviceView)) (pools : List (Option PoolState)) → HaveArrived devices pools ts → HaveArrived devices pools (map g ts)
  arrived_disowned ts devices pools h = record {
    buffers = λ d b. sum_mapped g (λ t. num (has_buffer d b t)) (same_on (λ t. num (has_buffer d b t)) (λ o t. refl)) ts ∙ h.buffers d b;
    inputs = all_mapped g (λ (t : Transfer). is_some t.buffer ≡ (has_arrived t.dev t && not (is_early_device (entry devices t.dev)))) (λ t was. pick (λ (u : Transfer). is_some u.buffer ≡ (has_arrived u.dev u && not (is_early_device (entry devices u.dev)))) t was was) ts h.inputs;
    stored = all_mapped g (λ (t : Transfer). IfSome t.buffer (λ b. t.stored ≤ room_in (entry devices t.dev) (entry pools t.dev) b)) (λ t was. pick (λ (u : Transfer). IfSome u.buffer (λ b. u.stored ≤ room_in (entry devices u.dev) (entry pools u.dev) b)) t was was) ts h.stored;
    filling = h.filling;
  }

  byte_found : (s : ℕ → List ℕ) (x : ℕ) (o : Option Transfer) → byte_under s x (option_map g o) ≡ byte_under s x o
  byte_found s x None = refl
  byte_found s x (Some t) = same_on (λ (u : Transfer). byte_under s x (Some u)) (λ o u. refl) t

  byte_disowned : (s : ℕ → List ℕ) (k x : ℕ) (ts : List Transfer) → orphan_byte s (map g ts) k x ≡ orphan_byte s ts k x
  byte_disowned s k x ts = ap (byte_under s x) (find_map (covers k x) g (covers_same k x) ts) ∙ byte_found s x (find (covers k x) ts)

  pub orphans_disowned : (page : ℕ) (s : ℕ → List ℕ) (regions : List Region) (ts : List Transfer) → orphans_view page s regions (map g ts) ≡ orphans_view page s regions ts
  orphans_disowned page s regions ts = λ i. map (λ k. record { number = k; bytes = flat_map (λ x. byte_disowned s k x ts i) (all_places page) }) (filter (λ k. any_mapped g (names_weakly k) (names_same k) ts i && not (is_owned regions k)) all_numbers)
