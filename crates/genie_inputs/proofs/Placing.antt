-- Where the new region of an input is to be.
use Rattle.std.proofs.Common.{◌≡◌, ◌≢◌, ℕ, ◌+◌, ◌-◌, ◌/◌, ◌<◌, ◌≤◌, suc, Bool, true, false, not, cond, List, [], ◌∷◌, refl, sym, ap, subst, arith, rules, ◌∙◌, length}
use Rattle.std.specs.Prelude.{Some, None, All, find, is_some, count_by, if◌then◌else◌}
use Rattle.std.specs.List.{list_any, range_with_len}
use Rattle.std.proofs.lemmas.Bool.{not-false}
use Rattle.genie_base.specs.Regions.{is_free, place}
use Rattle.genie_base.specs.Transfers.{class_of}
use Rattle.std.specs.Option.{option_map}
use Rattle.genie_base.specs.declared.event.Event.TheVariants.{Alloc}
use Rattle.genie_base.specs.declared.refusal.Refusal.{Refusal}
use Rattle.genie_base.specs.declared.refusal.Refusal.TheVariants.{Proc, Range}
use Rattle.genie_base.specs.declared.semantics.Class.{Class}
use Rattle.genie_base.specs.declared.semantics.Class.TheVariants.{Copy, Share, Move, WeakMove}
use Rattle.genie_object.specs.Lemmas.Lookup.{in_range}
use Rattle.genie_object.specs.Objects.{is_absent}
use Rattle.genie_region.specs.Layouts.{extent, region_of}
use Rattle.genie_model.specs.Inputs.{pages_for}
use Rattle.genie_model.specs.Lemmas.Causes.{Fails, both_none, none_holds}
use Rattle.genie_model.specs.Lemmas.Lists.{find_has, find_none, none_from, none_has}
use Rattle.genie_model.specs.Refusing.{refuse, first_cause, is_within, must_make, new_region_causes, target_causes}
use Rattle.genie_model.specs.Regions.{is_alive, place_of}
use Rattle.genie_model.specs.State as flat
use Rattle.genie_model.specs.Tables.{entry}
use Rattle.genie_orderly.specs.Lemmas.AcceptedEvents.{input_accepted}
use Rattle.genie_kernel.specs.declared.kernel.Kernel.{Kernel}
use Rattle.genie_kernel.specs.Good.{IsGood}
use Rattle.genie_kernel.specs.Regions.{has_id, owned_regions, regions_of}
use Rattle.genie_kernel.specs.View.{outline, no_bytes}
use Rattle.genie_kernel.specs.Lemmas.Asking.{ask_count, ask_place}
use Rattle.genie_kernel.specs.Lemmas.Fresh.{fresh_unowned}
use Rattle.genie_room.specs.Places.{ObjectsSuffice}
use Rattle.genie_spaces.specs.Clearing.{HasRoom}
use Rattle.genie_inputs.specs.declared.call.Call.{Call}
use Rattle.genie_inputs.specs.declared.place.Placement.{Placement}
use Rattle.genie_inputs.specs.Calls.{input_event}
use Rattle.genie_inputs.specs.Placing.{IsPlace}
use Rattle.genie_inputs.proofs.Accepted.{page_some}
use Rattle.genie_inputs.proofs.Targeting.{has_owned}

-- the causes of a new region fail where the call makes one
made_rows : (b : Bool) (rows : List (Bool × Refusal)) → All Fails (if b then rows else []) → b ≡ true → All Fails rows
made_rows true rows h e = h
made_rows false rows h e = absurd (cc)

place_causes : (s : flat.State) (p : ℕ) (class : Class) (d a n : ℕ) → first_cause (target_causes s p class d a n) ≡ None → must_make s p class n ≡ true → All Fails (new_region_causes s p (pages_for s n))
place_causes s p Copy d a n e made = absurd (cc)
place_causes s p Share d a n e made = absurd (cc)
place_causes s p Move d a n e made = λ i x l. none_holds (target_causes s p Move d a n) e (suc (suc (suc i))) x (omega (arith, l))
place_causes s p WeakMove d a n e made =
    let none = none_holds (target_causes s p WeakMove d a n) e in
    made_rows (must_make s p WeakMove n) (new_region_causes s p (pages_for s n)) (λ i x l. none (suc (suc (suc i))) x (omega (arith, l))) made

-- what is known of a new region of so many pages
pub record MayPlace (k : Kernel) (c : Call) (n : ℕ) : Type 0 where
  pub some : 1 ≤ n
  pub most : n ≤ 64
  pub few : length (regions_of (entry k.spaces.processes c.pid)) < 32
  pub there : place extent n (regions_of (entry k.spaces.processes c.pid)) ≢ None

pub may_place : (k : Kernel) (c : Call) → IsGood k → refuse (outline k) (input_event c None) ≡ None → must_make (outline k) c.pid (class_of c.sem) c.len ≡ true → MayPlace k c ((c.len + k.config.page - 1) / k.config.page)
may_place k c good accepted made =
    let s = outline k in
    let b = no_bytes k.config.page in
    let both = both_none (target_causes s c.pid (class_of c.sem) c.dev 0 c.len) _ accepted in
    let new = input_accepted s c.pid (class_of c.sem) c.dev 0 c.len _ (page_some k good) accepted made in
    let rows = place_causes s c.pid (class_of c.sem) c.dev 0 c.len both.0 made in
    record {
      some = new.some;
      most = new.most;
      few = let few = new.few in omega (arith, few, ask_count k b c.pid);
      there = λ none.
          let some : is_some (place_of s c.pid (pages_for s c.len)) ≡ true = not-false _ (rows 1 (true, Proc) (omega arith)) in
          let no : is_some (place_of s c.pid (pages_for s c.len)) ≡ false = ap is_some (ask_place k b c.pid (pages_for s c.len) ∙ none) in
          cc;
    }

-- a region of the new number is nowhere
pub place_new : (k : Kernel) (c : Call) (at : Placement) → IsGood k → IsPlace k c at → region_of at.id (regions_of (entry k.spaces.processes c.pid)) ≡ None
place_new k c at good x =
    let unowned : list_any (has_id at.id.0) (owned_regions k.spaces.processes) ≡ false = subst (λ n. list_any (has_id n) (owned_regions k.spaces.processes) ≡ false) (sym x.number) (fresh_unowned k good.orderly) in
    find_none (has_id at.id.0) (regions_of (entry k.spaces.processes c.pid)) (none_from (has_id at.id.0) (regions_of (entry k.spaces.processes c.pid)) (λ r h. none_has (has_id at.id.0) r (owned_regions k.spaces.processes) (has_owned r k.spaces.processes c.pid h) unowned))

pub place_free : (k : Kernel) (c : Call) (at : Placement) → IsPlace k c at → is_free extent at.start at.pages (regions_of (entry k.spaces.processes c.pid)) ≡ true
place_free k c at x = (find_has (λ start. is_free extent start at.pages (regions_of (entry k.spaces.processes c.pid))) (range_with_len 512 (513 - at.pages)) at.start x.lowest).1

-- room for its object
pub object_room : ObjectsSuffice → (h : Kernel) (p : ℕ) → IsGood h → is_some (entry h.spaces.processes p) ≡ true → HasRoom p h → count_by (λ o. not (is_absent o)) h.memory.objects < 512
object_room law h p good alive room =
    let below = in_range h.spaces.processes p None (λ none. let bad : true ≡ false = sym alive ∙ ap is_some none in cc) in
    law h.memory.objects h.spaces.processes h.hidden good.backed good.few good.spaced.processes p (let size = good.spaced.processes in omega (arith, below, size)) room

cause_later : (x : Bool × Refusal) (rows : List (Bool × Refusal)) → x.0 ≡ false → first_cause rows ≡ None → first_cause (x ∷ rows) ≡ None
cause_later x rows e h = ap (λ b. option_map (λ (row : Bool × Refusal). row.1) (cond b (Some x) (find (λ (row : Bool × Refusal). row.0) rows))) e ∙ h

none_first : (rows : List (Bool × Refusal)) → All Fails rows → first_cause rows ≡ None
none_first [] h = refl
none_first (x ∷ rows) h = cause_later x rows (h 0 x (omega arith)) (none_first rows (λ i d l. h (suc i) d (omega (arith, l))))

within : (n : ℕ) → 1 ≤ n → n ≤ 64 → not (is_within 1 64 n) ≡ false
within n some most = grind (arith, rules, some, most)

-- an alloc of as many pages isn't refused
pub may_alloc : (k : Kernel) (c : Call) → IsGood k → refuse (outline k) (input_event c None) ≡ None → must_make (outline k) c.pid (class_of c.sem) c.len ≡ true → refuse (outline k) (Alloc c.pid ((c.len + k.config.page - 1) / k.config.page)) ≡ None
may_alloc k c good accepted made =
    let s = outline k in
    let n : ℕ = (c.len + k.config.page - 1) / k.config.page in
    let both = both_none (target_causes s c.pid (class_of c.sem) c.dev 0 c.len) _ accepted in
    let dead = none_holds (target_causes s c.pid (class_of c.sem) c.dev 0 c.len) both.0 0 (true, Proc) (omega arith) in
    let may = may_place k c good accepted made in
    let rows = place_causes s c.pid (class_of c.sem) c.dev 0 c.len both.0 made in
    cause_later (not (is_alive s c.pid), Proc) ((not (is_within 1 64 n), Range) ∷ new_region_causes s c.pid n) dead
    (cause_later (not (is_within 1 64 n), Range) (new_region_causes s c.pid n) (within n may.some may.most) (none_first (new_region_causes s c.pid n) rows))
