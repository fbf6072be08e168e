-- What is known of an accepted event that makes a region or a process.
use Rattle.std.proofs.Common.{◌≡◌, ℕ, zero, suc, ◌+◌, ◌-◌, ◌*◌, ◌<◌, ◌≤◌, Bool, true, false, not, List, [], ◌∷◌, ◌++◌, length, refl, arith, true≢false}
use Rattle.std.specs.Prelude.{Option, Some, None, All, IsTrue, cond, find, unwrap_or, sum_by, nat_lt, ◌||◌, is_some, ⊤}
use Rattle.std.specs.List.{range_with_len}
use Rattle.std.proofs.lemmas.Bool.Decides.{nat_tests}
use Rattle.std.proofs.lemmas.List.Elements.{All-cons, All-head, All-tail, All-weaker}
use Rattle.std.proofs.lemmas.List.Sums.{AllPass-from_list_all}
use Rattle.std.proofs.lemmas.Nat.{div_below, le-div}
use Rattle.std.proofs.lemmas.Bool.{not-false, leb-false}
use Rattle.genie_base.specs.Configs.{DeviceConfig}
use Rattle.genie_base.specs.Counts.{is_page_size}
use Rattle.genie_base.specs.Regions.{is_apart, is_free}
use Rattle.genie_base.specs.declared.event.Event.TheVariants.{Spawn, Fork, Map, Alloc, Output, Input, Send, Recv, Finish, Cancel}
use Rattle.genie_base.specs.declared.refusal.Refusal.{Refusal}
use Rattle.genie_base.specs.declared.refusal.Refusal.TheVariants.{Proc}
use Rattle.genie_base.specs.declared.region.Area.{Area}
use Rattle.genie_base.specs.declared.region.Area.TheVariants.{App, Sys}
use Rattle.genie_base.specs.declared.semantics.Class.{Class}
use Rattle.genie_base.specs.declared.semantics.Class.TheVariants.{Copy, Share, Move, WeakMove}
use Rattle.genie_base.specs.declared.event.Event.{Event}
use Rattle.genie_base.specs.Transfers.{class_of, is_system}
use Rattle.genie_model.specs.Inputs.{pages_for, address_or_zero}
use Rattle.genie_orderly.specs.Orderly.{IsIn}
use Rattle.genie_model.specs.Refusing.{causes, refuse, first_cause, call_causes, new_region_causes, sys_causes, buffer_causes, target_causes, must_make, most_of, over_backing, accessible_pages, is_within, has_output, is_finished, may_cancel}
use Rattle.genie_model.specs.Regions.{extent_of, regions_at, is_alive, place_of, committed, reach_of}
use Rattle.genie_model.specs.State.{State, Region}
use Rattle.genie_model.specs.Tables.{entry}
use Rattle.genie_model.specs.Pending.{pending}
use Rattle.genie_model.specs.Step.{with_budget}
use Rattle.genie_model.specs.Lemmas.Causes.{Fails, none_holds, both_none, most_end, second_holds}

-- n pages from this one on are a region that process p may get: in their area, free, and with room in the table of the
-- process and in the store
pub record IsNew (s : State) (p : ℕ) (kind : Area) (start n : ℕ) : Type 0 where
  pub some : 1 ≤ n
  pub most : n ≤ 64
  pub area : IsIn kind start n
  pub free : All (λ (r : Region). is_apart start n (extent_of r) ≡ true) (regions_at s p)
  pub few : length (regions_at s p) < 32
  pub backing : committed s + n ≤ s.config.slots

end_of : (low high n : ℕ) → not (is_within low high n) ≡ false → (low ≤ n) × (n ≤ high)
end_of low high n e = grind (arith, nat_tests)

fits : (s : State) (n : ℕ) → over_backing s n ≡ false → committed s + n ≤ s.config.slots
fits s n e = grind (arith, nat_tests)

all_free : (s : State) (p start n : ℕ) → is_free extent_of start n (regions_at s p) ≡ true → All (λ (r : Region). is_apart start n (extent_of r) ≡ true) (regions_at s p)
all_free s p start n e = AllPass-from_list_all (λ (r : Region). is_apart start n (extent_of r)) (regions_at s p) e

in_app : (g n : ℕ) (free : Bool) → (nat_lt 512 (g + n) || not free) ≡ false → (g + n ≤ 512) × (free ≡ true)
in_app g n free e = grind (arith, nat_tests)

pub map_accepted : (s : State) (p g n : ℕ) → refuse s (Map p g n) ≡ None → IsNew s p App g n
map_accepted s p g n e =
    let none = none_holds (causes s (Map p g n)) e in
    let d : Bool × Refusal = (true, Proc) in
    let range = end_of 1 64 n (none 1 d (omega arith)) in
    let place = in_app g n (is_free extent_of g n (regions_at s p)) (none 2 d (omega arith)) in
    record { some = range.0; most = range.1; area = place.0; free = all_free s p g n place.1; few = leb-false 32 (length (regions_at s p)) (none 3 d (omega arith)); backing = fits s n (none 4 d (omega arith)) }

-- what a search finds, where something holds of all that it goes through
found : {X : Type 0} (P : X → Type 0) (x d : X) (b : Bool) (later : Option X) (passes : X → Bool) → passes x ≡ b → P x → (is_some later ≡ true → (passes (unwrap_or later d) ≡ true) × P (unwrap_or later d)) → is_some (cond b (Some x) later) ≡ true → (passes (unwrap_or (cond b (Some x) later) d) ≡ true) × P (unwrap_or (cond b (Some x) later) d)
found P x d true later passes t h rest e = (t, h)
found P x d false later passes f h rest e = rest e

pub found_or : {X : Type 0} (P : X → Type 0) (p : X → Bool) (d : X) (xs : List X) → All P xs → is_some (find p xs) ≡ true → (p (unwrap_or (find p xs) d) ≡ true) × P (unwrap_or (find p xs) d)
found_or P p d [] h e = absurd (cc)
found_or P p d (x ∷ xs) h e = found P x d (p x) (find p xs) p refl (All-head P x xs h) (found_or P p d xs (All-tail P x xs h)) e

in_range : (low n : ℕ) → All (λ k. (low ≤ k) × (k < low + n)) (range_with_len low n)
in_range low zero = λ k d l. absurd (omega arith)
in_range low (suc n) = All-cons (λ k. (low ≤ k) × (k < low + suc n)) low (range_with_len (low + 1) n) (omega arith, omega arith) (All-weaker (λ k. (low + 1 ≤ k) × (k < low + 1 + n)) (λ k. (low ≤ k) × (k < low + suc n)) (λ k h. (omega (arith, h.0), omega (arith, h.1))) (range_with_len (low + 1) n) (in_range (low + 1) n))

-- n pages at their place in the system area
new_region : (s : State) (p n : ℕ) → 1 ≤ n → n ≤ 64 → All Fails (new_region_causes s p n) → IsNew s p Sys (unwrap_or (place_of s p n) 0) n
new_region s p n some most none =
    let d : Bool × Refusal = (true, Proc) in
    let at = found_or (λ k. (512 ≤ k) × (k < 512 + (513 - n))) (λ k. is_free extent_of k n (regions_at s p)) 0 (range_with_len 512 (513 - n)) (in_range 512 (513 - n)) (not-false (is_some (place_of s p n)) (none 1 d (omega arith))) in
    record { some = some; most = most; area = (at.1.0, omega (arith, at.1.1)); free = all_free s p (unwrap_or (place_of s p n) 0) n at.0; few = leb-false 32 (length (regions_at s p)) (none 0 d (omega arith)); backing = fits s n (none 2 d (omega arith)) }

pub alloc_accepted : (s : State) (p n : ℕ) → refuse s (Alloc p n) ≡ None → IsNew s p Sys (unwrap_or (place_of s p n) 0) n
alloc_accepted s p n e =
    let none = none_holds (causes s (Alloc p n)) e in
    let range = end_of 1 64 n (none 1 (true, Proc) (omega arith)) in
    new_region s p n range.0 range.1 (λ k d l. none (suc (suc k)) d (omega arith))

pub page_some : (page : ℕ) → IsTrue (is_page_size page) → 16 ≤ page
page_some page e = grind (arith, nat_tests)

-- 1 to 64 pages
pub page_count : (s : State) (n : ℕ) → 0 < s.config.page → 1 ≤ n → n ≤ 64 * s.config.page → (1 ≤ pages_for s n) × (pages_for s n ≤ 64)
page_count s n page some most =
    let below = div_below (n + s.config.page - 1) s.config.page 65 page (omega arith) in
    (le-div 1 (n + s.config.page - 1) s.config.page page (omega arith), omega (arith, below))

made_rows : (b : Bool) (rows : List (Bool × Refusal)) → All Fails (cond b rows []) → b ≡ true → All Fails rows
made_rows true rows h e = h
made_rows false rows h e = absurd (cc)

sys_new : (s : State) (p : ℕ) (class : Class) (most n : ℕ) → most ≤ 64 * s.config.page → 0 < s.config.page → must_make s p class n ≡ true → All Fails (sys_causes s p class most n) → IsNew s p Sys (unwrap_or (place_of s p (pages_for s n)) 0) (pages_for s n)
sys_new s p class most n short page made none =
    let range = end_of 1 most n (none 0 (true, Proc) (omega arith)) in
    let count = page_count s n page range.0 (omega (arith, range.1, short)) in
    new_region s p (pages_for s n) count.0 count.1 (made_rows (must_make s p class n) (new_region_causes s p (pages_for s n)) (λ k d l. none (suc k) d (omega arith)) made)

buffer_new : (s : State) (p : ℕ) (class : Class) (most a n : ℕ) → most ≤ 64 * s.config.page → 0 < s.config.page → must_make s p class n ≡ true → All Fails (buffer_causes s p class most a n) → IsNew s p Sys (unwrap_or (place_of s p (pages_for s n)) 0) (pages_for s n)
buffer_new s p Copy most a n short page made none = absurd (cc)
buffer_new s p Share most a n short page made none = absurd (cc)
buffer_new s p Move most a n short page made none = sys_new s p Move most n short page made none
buffer_new s p WeakMove most a n short page made none = sys_new s p WeakMove most n short page made none

-- an input that makes a region
pub input_accepted : (s : State) (p : ℕ) (class : Class) (d a n cost : ℕ) → 0 < s.config.page → first_cause (target_causes s p class d a n ++ call_causes s cost) ≡ None → must_make s p class n ≡ true → IsNew s p Sys (unwrap_or (place_of s p (pages_for s n)) 0) (pages_for s n)
input_accepted s p class d a n cost page e made =
    let both = both_none (target_causes s p class d a n) (call_causes s cost) e in
    let none = none_holds (target_causes s p class d a n) both.0 in
    let device : Option DeviceConfig = entry s.config.devices d in
    buffer_new s p class (most_of s.config.page device) a n (most_end s.config.page device) page made (λ k x l. none (suc (suc k)) x (omega arith))

-- process q may come, with copies of all accessible regions of p
pub record IsNewProcess (s : State) (p q : ℕ) : Type 0 where
  pub place : q < 16
  pub free : entry s.processes q ≡ None
  pub backing : committed s + sum_by accessible_pages (regions_at s p) ≤ s.config.slots

second : (a : Bool) (q : ℕ) → (a || nat_lt 15 q) ≡ false → q < 16
second a q e = grind (arith, nat_tests)

nothing_here : {X : Type 0} (o : Option X) → is_some o ≡ false → o ≡ None
nothing_here None e = refl
nothing_here (Some x) e = absurd (cc)

pub fork_accepted : (s : State) (p q : ℕ) → refuse s (Fork p q) ≡ None → IsNewProcess s p q
fork_accepted s p q e =
    let none = none_holds (causes s (Fork p q)) e in
    let d : Bool × Refusal = (true, Proc) in
    record { place = second (not (is_alive s p)) q (none 0 d (omega arith)); free = nothing_here (entry s.processes q) (none 1 d (omega arith)); backing = fits s (sum_by accessible_pages (regions_at s p)) (none 2 d (omega arith)) }

-- what is known of an event that isn't refused
abbrev pub Allowed : State → Event → Type 0
Allowed s (Spawn p) = entry s.processes p ≡ None
Allowed s (Fork p q) = (q < 16) × (entry s.processes q ≡ None)
Allowed s (Output p sem d port flow a n) = is_some (reach_of s p a n) ≡ true
Allowed s (Input p sem d port flow a n) = (is_alive s p ≡ true) × (is_system (class_of sem) ≡ false → is_some (reach_of s p (address_or_zero a) n) ≡ true)
Allowed s (Send d n) = has_output (entry s.config.devices d) ≡ true
Allowed s (Finish k) = is_finished (pending s k) ≡ true
Allowed s (Cancel k) = may_cancel (pending s k) ≡ true
Allowed s _ = ⊤

-- a buffer of the application's is reached
app_here : (s : State) (p : ℕ) (class : Class) (d a n : ℕ) → first_cause (target_causes s p class d a n) ≡ None → is_system class ≡ false → is_some (reach_of s p a n) ≡ true
app_here s p Copy d a n e app = second_holds _ _ (none_holds (target_causes s p Copy d a n) e 2 (true, Proc) (omega arith))
app_here s p Share d a n e app = second_holds _ _ (none_holds (target_causes s p Share d a n) e 2 (true, Proc) (omega arith))
app_here s p Move d a n e app = absurd (true≢false app)
app_here s p WeakMove d a n e app = absurd (true≢false app)

pub allowed : (s : State) (e : Event) → refuse s e ≡ None → Allowed s e
allowed s (Spawn p) h = nothing_here (entry s.processes p) (none_holds (causes s (Spawn p)) h 1 (true, Proc) (omega arith))
allowed s (Fork p q) h = let new = fork_accepted s p q h in (new.place, new.free)
allowed s (Output p sem d port flow a n) h = second_holds _ _ (none_holds (causes s (Output p sem d port flow a n)) h 2 (true, Proc) (omega arith))
allowed s (Input p sem d port flow a n) h =
    let none = (both_none (target_causes s p (class_of sem) d (address_or_zero a) n) _ h).0 in
    (not-false (is_alive s p) (none_holds (target_causes s p (class_of sem) d (address_or_zero a) n) none 0 (true, Proc) (omega arith)), app_here s p (class_of sem) d (address_or_zero a) n none)
allowed s (Send d n) h = not-false (has_output (entry s.config.devices d)) (none_holds (causes s (Send d n)) h 0 (true, Proc) (omega arith))
allowed s (Finish k) h = not-false (is_finished (pending s k)) (none_holds (causes s (Finish k)) h 0 (true, Proc) (omega arith))
allowed s (Cancel k) h = not-false (may_cancel (pending s k)) (none_holds (causes s (Cancel k)) h 0 (true, Proc) (omega arith))
allowed s e h = tt

-- the same with each budget
pub budget_allowed : (s : State) (e : Event) (k : ℕ) → Allowed s e → Allowed s (with_budget e k)
budget_allowed s (Send d n) k h = h
budget_allowed s (Recv d n) k h = tt
budget_allowed s e k h = h
