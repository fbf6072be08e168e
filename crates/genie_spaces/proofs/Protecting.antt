-- A region read-only or read-write.
use Rattle.std.proofs.Common.{◌≡◌, ◌≢◌, ℕ, ◌<◌, Bool, true, false, List, [], ◌∷◌, refl, sym, ap, ap₂, subst, arith, ◌∙◌, map, length, length-set, get_or, set, eqb-true, eq-eqb}
use Rattle.std.specs.Prelude.{Option, Some, None, find, is_some, unwrap_or, if◌then◌else◌, ◌==◌}
use Rattle.std.specs.List.{list_any}
use Rattle.std.specs.Option.{option_map}
use Rattle.std.proofs.lemmas.Bool.{not-false}
use Rattle.genie_base.specs.declared.event.Event.TheVariants.{Protect}
use Rattle.genie_base.specs.declared.refusal.Refusal.TheVariants as cause
use Rattle.genie_base.specs.declared.reply.Reply.TheVariants as reply
use Rattle.genie_hiding.specs.Hidden.{objects_of}
use Rattle.genie_object.specs.declared.objects.Entry.{Entry}
use Rattle.genie_object.specs.Memory.{Seen}
use Rattle.genie_object.specs.Objects.{object_at, entry_at}
use Rattle.genie_region.specs.declared.region.Region.{Region}
use Rattle.genie_region.specs.Layouts.{region_of, starts_at, with_region}
use Rattle.genie_space.specs.Spaces as spaces
use Rattle.genie_space.specs.Translations.{IsBacked}
use Rattle.genie_model.specs.Lemmas.Causes.{none_holds}
use Rattle.genie_model.specs.Lemmas.Lists.{Has, all_has, any_found, find_has, has_any, has_at, has_left}
use Rattle.genie_model.specs.Refusing.{refuse, causes}
use Rattle.genie_model.specs.Regions as model
use Rattle.genie_model.specs.Space.{protect_found, region_from, tidy}
use Rattle.genie_model.specs.Tables.{entry}
use Rattle.genie_kernel.specs.declared.kernel.Kernel.{Kernel}
use Rattle.genie_kernel.specs.Backed.{AreGuarded, IsGuarded, all_regions, hidden_region}
use Rattle.genie_kernel.specs.Good.{IsGood}
use Rattle.genie_kernel.specs.Regions.{has_id, owned_regions, region_view, regions_of, with_changed}
use Rattle.genie_kernel.specs.Steps.{Steps, bytes_over}
use Rattle.genie_kernel.specs.View.{Bytes, state_of, outline, no_bytes}
use Rattle.genie_kernel.specs.Lemmas.Keeping.{calls_kept, guards_kept, hidden_kept}
use Rattle.genie_kernel.specs.Lemmas.Processes.{alive_view, is_some_map, region_from_view}
use Rattle.genie_kernel.specs.Lemmas.Staying.{memory_good}
use Rattle.genie_kernel.specs.Lemmas.Tidying.{tidy_view}
use Rattle.genie_changes.specs.Regions.{KeepsBytes}
use Rattle.genie_spaces.specs.Permissions.{Guards}
use Rattle.genie_spaces.specs.RegionLaws.{RegionLaws}
use Rattle.genie_spaces.specs.Serving.{IsServed}
use Rattle.genie_spaces.specs.Tables.{moded, with_mode, with_objects}
use Rattle.genie_spaces.specs.Lemmas.Forbidding.{narrowed_keeps, narrowed_seen, narrowed_sound, narrowed_touches, with_entries}
use Rattle.genie_spaces.proofs.Keeping.{keeps_bytes}
use Rattle.genie_spaces.proofs.Numbering.{has_owned, others_none, same_region}

pub record MayProtect (k : Kernel) (p g : ℕ) : Type 0 where
  pub alive : spaces.is_alive p k.spaces ≡ true
  pub some : find (starts_at g) (spaces.regions_of p k.spaces) ≢ None

pub none_some : {X : Type 0} (o : Option X) → is_some o ≡ true → o ≢ None
none_some o e none = let no = ap is_some none in cc

pub may_protect : (k : Kernel) (p g : ℕ) (w : Bool) → refuse (outline k) (Protect p g w) ≡ None → MayProtect k p g
may_protect k p g w accepted =
    let none = none_holds (causes (outline k) (Protect p g w)) accepted in
    let b = no_bytes k.config.page in
    let s = b.seen.entry_bytes in record {
      alive = sym (alive_view s k.spaces.processes k.queues p) ∙ not-false _ (none 0 (true, cause.Proc) (omega arith));
      some = none_some (find (starts_at g) (spaces.regions_of p k.spaces)) (sym (ap is_some (region_from_view k b p g) ∙ is_some_map (region_view s) (find (starts_at g) (regions_of (entry k.spaces.processes p)))) ∙ not-false _ (none 1 (true, cause.Proc) (omega arith)));
    }

-- the region that starts there, among those of its process
pub record IsFound (k : Kernel) (p g : ℕ) (r : Region) : Type 0 where
  pub regions : List Region
  pub there : entry k.spaces.processes p ≡ Some regions
  pub found : find (starts_at g) regions ≡ Some r

pub is_found : (k : Kernel) (p g : ℕ) (r : Region) → find (starts_at g) (spaces.regions_of p k.spaces) ≡ Some r → IsFound k p g r
is_found k p g r e = elim (entry k.spaces.processes p) as (λ o. entry k.spaces.processes p ≡ o → find (starts_at g) (regions_of o) ≡ Some r → IsFound k p g r) [
  | None ↦ λ is h. absurd (cc)
  | Some rs ↦ λ is h. record { regions = rs; there = is; found = h }
] refl e

-- it has a number and an object
pub found_numbered : (k : Kernel) (p g : ℕ) (r : Region) → find (starts_at g) (spaces.regions_of p k.spaces) ≡ Some r → is_some (region_of r.id (spaces.regions_of p k.spaces)) ≡ true
found_numbered k p g r e =
    let rs = spaces.regions_of p k.spaces in
    let h = find_has (starts_at g) rs r e in
    ap is_some (any_found (has_id r.id.0) rs (has_any (has_id r.id.0) r rs h.0 (eq-eqb r.id.0 r.id.0 refl))).1

pub found_object : (k : Kernel) (p g : ℕ) (r : Region) → IsGood k → find (starts_at g) (spaces.regions_of p k.spaces) ≡ Some r → object_at k.memory.objects r.object.0 ≢ []
found_object k p g r good e none =
    let f = is_found k p g r e in
    let owned = has_owned k.spaces.processes p f.regions r f.there (find_has (starts_at g) f.regions r f.found).0 in
    let all = has_left r (owned_regions k.spaces.processes) (map hidden_region k.hidden) owned in
    let size : IsBacked k.memory.objects r = all_has (IsBacked k.memory.objects) (all_regions k.spaces.processes k.hidden) good.backed.each r all in
    let some : 0 < r.pages = all_has (λ (x : Region). 0 < x.pages) (all_regions k.spaces.processes k.hidden) good.backed.some r all in
    let zero_long = ap length none in
    omega (arith, size, some, zero_long)

changed_twice : (n : ℕ) (f : Region → Region) (rs : List Region) → with_changed n (λ q. if q.id.0 == n then f q else q) rs ≡ with_changed n f rs
changed_twice n f [] = refl
changed_twice n f (x ∷ rs) = ap₂ ◌∷◌ (elim (x.id.0 == n) as (λ b. (if b then (if b then f x else x) else x) ≡ (if b then f x else x)) [ true ↦ refl | false ↦ refl ]) (changed_twice n f rs)

module _ (laws : RegionLaws) (k : Kernel) (p g : ℕ) (w : Bool) (r : Region) (rs : List Region) (os : List (List Entry)) (good : IsGood k) (accepted : refuse (outline k) (Protect p g w) ≡ None) (there : entry k.spaces.processes p ≡ Some rs) (found : find (starts_at g) rs ≡ Some r) (guards : Guards r.object.0 w k.memory.objects os) where
  abbrev n : ℕ
  n = r.id.0

  abbrev ps : List (Option (List Region))
  ps = k.spaces.processes

  abbrev mid : Kernel
  mid = with_objects k os

  abbrev new_spaces : spaces.AddressSpaces
  new_spaces = spaces.set_regions k.spaces p (with_changed n (with_mode w) rs)

  abbrev new : Kernel
  new = record mid { spaces = new_spaces }

  has : Has r rs
  has = (find_has (starts_at g) rs r found).0

  others : (i : ℕ) → i ≢ p → list_any (has_id n) (regions_of (entry ps i)) ≡ false
  others i other = others_none k n p i rs good.orderly there (has_any (has_id n) r rs has (eq-eqb n n refl)) other

  is_changed : (old b : Bytes) → KeepsBytes k old b → state_of new b ≡ model.change_region (state_of k old) n (model.with_mode w)
  is_changed old b keeps = laws.changed k (with_entries k.memory os) new_spaces old b p n (model.with_mode w) (with_mode w) rs there others refl (λ q. refl) (λ q. refl) keeps

  is_protected : (b : Bytes) → protect_found (state_of k b) (region_from (state_of k b) p g) w ≡ model.change_region (state_of k b) n (model.with_mode w)
  is_protected b = ap (λ o. protect_found (state_of k b) o w) (region_from_view k b p g ∙ ap (option_map (region_view b.seen.entry_bytes)) (ap (λ (o : Option (List Region)). find (starts_at g) (regions_of o)) there ∙ found))

  steps : (old b : Bytes) → KeepsBytes k old b → Steps (state_of k old) (Protect p g w) (state_of new b) reply.Okay
  steps old b keeps = record { state = sym (tidy_view new b) ∙ ap tidy (is_changed old b keeps ∙ sym (is_protected old)); reply_is = refl }

  shows_same : (slots rests sents : ℕ → List ℕ) → KeepsBytes k (bytes_over k.memory slots rests sents) (bytes_over new.memory slots rests sents)
  shows_same slots rests sents = let b = bytes_over k.memory slots rests sents in subst (λ (s : Seen). KeepsBytes k b (record { seen = s; rests = rests; sents = sents })) (sym (narrowed_seen k.memory os guards.all slots)) (keeps_bytes k b)

  mid_good : IsGood mid
  mid_good =
      let m = with_entries k.memory os in
      let keeps = narrowed_keeps k.memory os guards.all in
      let touches = narrowed_touches k.memory os guards.all in
      memory_good k m good (narrowed_sound k.memory os guards.all good.sound)
      (hidden_kept (λ o i. false) k.memory m (objects_of k.hidden) good.sound keeps touches (λ o i a. refl) good.cached)
      (guards_kept (λ o i. false) k.memory m (owned_regions ps) touches (λ j d l shut i. refl) good.guarded)
      refl keeps

  guard_one : (q : Region) → Has q rs → IsGuarded os q → IsGuarded os (if q.id.0 == n then with_mode w q else q)
  guard_one q h guarded = elim (q.id.0 == n) as (λ b. (q.id.0 == n) ≡ b → IsGuarded os (if b then with_mode w q else q)) [
    | true ↦ λ e shut i. let same : q ≡ r = same_region k p rs q r good.orderly there h has (eqb-true q.id.0 n e) in subst (λ (x : Region). (entry_at os x.object.0 i).writable ≡ false) (sym same) (guards.shut shut i)
    | false ↦ λ e. guarded
  ] refl

  new_guarded : AreGuarded os (owned_regions new_spaces.processes)
  new_guarded = subst (λ l. AreGuarded os (owned_regions (set ps p (Some l)))) (changed_twice n (with_mode w) rs)
      (laws.guarded_changed os ps p n (λ q. if q.id.0 == n then with_mode w q else q) rs there
      (λ j d l. let h = has_at rs j d l in guard_one (get_or rs j d) h (all_has (IsGuarded os) (owned_regions ps) mid_good.guarded (get_or rs j d) (has_owned ps p rs (get_or rs j d) there h)))
      mid_good.guarded)

  new_good : IsGood new
  new_good = record {
    fits = good.fits;
    sized = mid_good.sized;
    spaced = record { page = good.spaced.page; processes = length-set ps p (Some (with_changed n (with_mode w) rs)) ∙ good.spaced.processes; queue_places = good.spaced.queue_places };
    equipped = good.equipped;
    orderly = laws.orderly (outline k) (outline new) (Protect p g w) reply.Okay refl accepted (steps (no_bytes k.config.page) (no_bytes k.config.page) (keeps_bytes k (no_bytes k.config.page))) good.orderly;
    sound = mid_good.sound;
    cached = mid_good.cached;
    few = laws.few_changed ps k.hidden p n (with_mode w) rs there good.few;
    backed = laws.backed_changed os ps k.hidden p n (with_mode w) rs there (λ q. (refl, refl)) mid_good.backed;
    guarded = new_guarded;
    counted = mid_good.counted;
    owners = mid_good.owners;
    held = laws.held k.config.page new.memory (owned_regions ps) (owned_regions new_spaces.processes) k.transfers (laws.finds_changed k.transfers ps p n (with_mode w) rs there (λ q. (refl, refl))) mid_good.held;
    planned = mid_good.planned;
    fitting = good.fitting;
    posted = good.posted;
    sending = good.sending;
    receiving = good.receiving;
    arrived = good.arrived;
  }

  new_served : IsServed k (Protect p g w) new reply.Okay
  new_served = let kept = calls_kept k new.memory good (narrowed_keeps k.memory os guards.all) in record {
    good = new_good;
    step = λ slots rests sents. steps (bytes_over k.memory slots rests sents) (bytes_over new.memory slots rests sents) (shows_same slots rests sents);
    kept = record { lent = λ m f t u is. kept.lent m f t u (record { was = is.was; is = is.is }); pooled = kept.pooled; fresh = λ m f t u is. kept.fresh m f t u (record { was = is.was; is = is.is }) };
    config = refl;
    unfailed = refl;
    meters = refl;
    landed = refl;
  }

-- what the event's contract says
pub protects : RegionLaws → (k after : Kernel) (p g : ℕ) (w : Bool) (r : Region) (os : List (List Entry)) → IsGood k → refuse (outline k) (Protect p g w) ≡ None → find (starts_at g) (spaces.regions_of p k.spaces) ≡ Some r → Guards r.object.0 w k.memory.objects os → after ≡ moded (with_objects k os) p r w → IsServed k (Protect p g w) after reply.Okay
protects laws k after p g w r os good accepted e guards is =
    let f = is_found k p g r e in
    let there : spaces.regions_of p k.spaces ≡ f.regions = ap (λ (o : Option (List Region)). unwrap_or o []) f.there in
    let same = is ∙ ap (λ (l : List Region). record (with_objects k os) { spaces = spaces.set_regions k.spaces p (with_region r.id (with_mode w) l) }) there in
    subst (λ (x : Kernel). IsServed k (Protect p g w) x reply.Okay) (sym same) (new_served laws k p g w r f.regions os good accepted f.there f.found guards)
