-- The region that an input of the application's buffer reaches.
use Rattle.std.proofs.Common.{◌≡◌, ◌≢◌, ℕ, ◌+◌, ◌-◌, ◌*◌, ◌/◌, ◌<◌, ◌≤◌, zero, suc, Bool, true, false, List, [], ◌∷◌, refl, sym, ap, subst, arith, rules, ◌∙◌, length}
use Rattle.std.specs.Prelude.{Option, Some, None, find, is_some, ◌==◌, cond, option_and_then, if◌then◌else◌}
use Rattle.std.specs.Option.{option_map}
use Rattle.std.proofs.lemmas.Bool.{not-false}
use Rattle.std.proofs.lemmas.Nat.{div_below}
use Rattle.genie_base.specs.Counts.{span}
use Rattle.genie_base.specs.Regions.{is_reached, reach}
use Rattle.genie_base.specs.Transfers.{class_of}
use Rattle.genie_base.specs.declared.refusal.Refusal.TheVariants.{Proc}
use Rattle.genie_base.specs.declared.semantics.Class.{Class}
use Rattle.genie_base.specs.declared.semantics.Class.TheVariants.{Share}
use Rattle.genie_object.specs.Objects.{object_at}
use Rattle.genie_region.specs.declared.region.Region.{Region}
use Rattle.genie_region.specs.Layouts.{extent}
use Rattle.genie_space.specs.Translations.{IsBacked}
use Rattle.genie_model.specs.Lemmas.Causes.{both_none, none_holds}
use Rattle.genie_model.specs.Lemmas.Lists.{Has, all_has, find_has, has_left, has_right}
use Rattle.genie_model.specs.Refusing.{refuse, first_cause, target_causes}
use Rattle.genie_model.specs.Regions as model
use Rattle.genie_model.specs.State as flat
use Rattle.genie_model.specs.Tables.{entry}
use Rattle.genie_kernel.specs.declared.kernel.Kernel.{Kernel}
use Rattle.genie_kernel.specs.Backed.{all_regions}
use Rattle.genie_kernel.specs.Good.{IsGood}
use Rattle.genie_kernel.specs.Regions.{regions_of, owned_regions, region_view}
use Rattle.genie_kernel.specs.View.{Bytes, state_of, outline, no_bytes}
use Rattle.genie_kernel.specs.Lemmas.Asking.{ask_regions}
use Rattle.genie_kernel.specs.Lemmas.Processes.{find_map}
use Rattle.genie_inputs.specs.declared.call.Call.{Call}
use Rattle.genie_inputs.specs.Calls.{input_event}
use Rattle.genie_inputs.specs.Targets.{Reaches}
use Rattle.genie_inputs.proofs.Accepted.{app_reached}

pub reach_view : (k : Kernel) (b : Bytes) (p a n : ℕ) → model.reach_of (state_of k b) p a n ≡ option_map (region_view b.seen.entry_bytes) (reach extent k.config.page a n (regions_of (entry k.spaces.processes p)))
reach_view k b p a n =
    let q : flat.Region → Bool = λ r. is_reached k.config.page a n (model.extent_of r) in
    ap (find q) (ask_regions k b p) ∙ find_map q (region_view b.seen.entry_bytes) (regions_of (entry k.spaces.processes p))

pub has_owned : (r : Region) (ps : List (Option (List Region))) (p : ℕ) → Has r (regions_of (entry ps p)) → Has r (owned_regions ps)
has_owned r [] p h = absurd h
has_owned r (x ∷ ps) zero h = has_left r (regions_of x) (owned_regions ps) h
has_owned r (x ∷ ps) (suc p) h = has_right r (regions_of x) (owned_regions ps) (has_owned r ps p h)

pub reached_owned : (k : Kernel) (p a n : ℕ) (r : Region) → reach extent k.config.page a n (regions_of (entry k.spaces.processes p)) ≡ Some r → Has r (owned_regions k.spaces.processes)
reached_owned k p a n r e = has_owned r k.spaces.processes p (find_has (λ (x : Region). is_reached k.config.page a n (extent x)) (regions_of (entry k.spaces.processes p)) r e).0

-- an object has an entry for each page of its region
pub backed_long : (k : Kernel) (r : Region) → IsGood k → Has r (owned_regions k.spaces.processes) → length (object_at k.memory.objects r.object.0) ≡ r.pages
backed_long k r g h = all_has (IsBacked k.memory.objects) (all_regions k.spaces.processes k.hidden) g.backed.each r (has_left r (owned_regions k.spaces.processes) _ h)

-- a share input finds a region
pub share_found : (k : Kernel) (c : Call) (a : ℕ) → class_of c.sem ≡ Share → refuse (outline k) (input_event c (Some a)) ≡ None → reach extent k.config.page a c.len (regions_of (entry k.spaces.processes c.pid)) ≢ None
share_found k c a is accepted none =
    let some = app_reached k c a Share is refl accepted in
    let no : is_some (model.reach_of (outline k) c.pid a c.len) ≡ false = ap is_some (reach_view k (no_bytes k.config.page) c.pid a c.len ∙ ap (option_map (region_view (no_bytes k.config.page).seen.entry_bytes)) none) in
    cc

-- which may be written
write_found : (k : Kernel) (c : Call) (a : ℕ) → class_of c.sem ≡ Share → refuse (outline k) (input_event c (Some a)) ≡ None → is_some (model.write_reach_of (outline k) c.pid a c.len) ≡ true
write_found k c a is accepted =
    let s = outline k in
    let both = both_none (target_causes s c.pid (class_of c.sem) c.dev a c.len) _ accepted in
    not-false _ (none_holds (target_causes s c.pid Share c.dev a c.len) (subst (λ (x : Class). first_cause (target_causes s c.pid x c.dev a c.len) ≡ None) is both.0) 3 (true, Proc) (omega arith))

may_write : (r : flat.Region) (o : Option flat.Region) → o ≡ Some r → is_some (option_and_then (λ (q : flat.Region). if (model.extent_of q).writable then Some q else None) o) ≡ true → r.writable ≡ true
may_write r o e some =
    let here : is_some (if r.writable then Some r else None) ≡ true = sym (ap (λ (x : Option flat.Region). is_some (option_and_then (λ (q : flat.Region). if (model.extent_of q).writable then Some q else None) x)) e) ∙ some in
    (elim (r.writable) as (λ b. is_some (if b then Some r else None) ≡ true → b ≡ true) [ true ↦ λ h. refl | false ↦ λ h. absurd (cc) ]) here

inside_reached : (page a n : ℕ) (r : Region) → is_reached page a n (extent r) ≡ true → (r.start * page ≤ a) × (a + n ≤ (r.start + r.pages) * page)
inside_reached page a n r e = (grind (arith, rules, e), grind (arith, rules, e))

pub target_low : (k : Kernel) (c : Call) (a : ℕ) (r : Region) → reach extent k.config.page a c.len (regions_of (entry k.spaces.processes c.pid)) ≡ Some r → r.start * k.config.page ≤ a
target_low k c a r e = (inside_reached k.config.page a c.len r (find_has (λ (x : Region). is_reached k.config.page a c.len (extent x)) (regions_of (entry k.spaces.processes c.pid)) r e).1).0

pub reaches : (k : Kernel) (c : Call) (a : ℕ) (r : Region) (off : ℕ) → class_of c.sem ≡ Share → refuse (outline k) (input_event c (Some a)) ≡ None → reach extent k.config.page a c.len (regions_of (entry k.spaces.processes c.pid)) ≡ Some r → off ≡ a - r.start * k.config.page → Reaches k c a r off
reaches k c a r off is accepted e place =
    let blind = (no_bytes k.config.page).seen.entry_bytes in
    let both = inside_reached k.config.page a c.len r (find_has (λ (x : Region). is_reached k.config.page a c.len (extent x)) (regions_of (entry k.spaces.processes c.pid)) r e).1 in
    let whole : (r.start + r.pages) * k.config.page ≡ r.start * k.config.page + k.config.page * r.pages = grind arith in
    record {
      found = e;
      writable = may_write (region_view blind r) (model.reach_of (outline k) c.pid a c.len) (reach_view k (no_bytes k.config.page) c.pid a c.len ∙ ap (option_map (region_view blind)) e) (write_found k c a is accepted);
      place = place;
      inside = omega (arith, both.0, both.1, whole, place);
    }

-- the pages of a range in a region
cond_most : (b : Bool) (x y n : ℕ) → x ≤ n → (b ≡ false → x + y ≤ n) → x + cond b 0 y ≤ n
cond_most true x y n l h = omega (arith, l)
cond_most false x y n l h = h refl

pub pages_within : (page off len pages : ℕ) → 0 < page → off + len ≤ page * pages → off / page + span page off len ≤ pages
pages_within page off len pages some inside =
    let turned : page * pages ≡ pages * page = grind arith in
    let more : (pages + 1) * page ≡ pages * page + page = grind arith in
    let first : off / page < pages + 1 = div_below off page (pages + 1) some (omega (arith, inside, some, more, turned)) in
    cond_most (len == 0) (off / page) ((off + len - 1) / page - off / page + 1) pages (omega (arith, first))
    (λ e.
    let here : 0 < len = grind (arith, rules, e) in
    let begins : off / page < pages = div_below off page pages some (omega (arith, inside, here, turned)) in
    let last : (off + len - 1) / page < pages = div_below (off + len - 1) page pages some (omega (arith, inside, here, turned)) in
    omega (arith, begins, last))
