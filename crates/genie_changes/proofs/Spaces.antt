-- The state with a region more, and with one changed.
use Rattle.std.proofs.Common.{◌≡◌, ◌≢◌, ℕ, zero, suc, Bool, true, false, not, cond, List, [], ◌∷◌, refl, sym, ap, ap₂, subst, arith, rules, ◌∙◌, ⊎_elim, map, filter, get_or, set}
use Rattle.std.specs.Prelude.{Option, Some, None, find, flat_map, is_some, ◌==◌, ◌&&◌, ◌||◌}
use Rattle.std.specs.List.{list_any, range_with_len}
use Rattle.std.specs.Option.{option_map}
use Rattle.std.proofs.lemmas.Bool.{cases_eq}
use Rattle.std.proofs.lemmas.List.{length-set}
use Rattle.genie_base.specs.declared.config.Config.{Config}
use Rattle.genie_object.specs.declared.memory.Memory.{Memory}
use Rattle.genie_region.specs.declared.region.Region.{Region}
use Rattle.genie_space.specs.Spaces.{AddressSpaces, set_process}
use Rattle.genie_model.specs.Regions.{change_process, change_region, changed_in}
use Rattle.genie_model.specs.Space.{add_region, with_region}
use Rattle.genie_model.specs.State as flat
use Rattle.genie_model.specs.Tables.{entry}
use Rattle.genie_kernel.specs.declared.kernel.Kernel.{Kernel}
use Rattle.genie_kernel.specs.declared.transfer.Transfer.{Transfer}
use Rattle.genie_kernel.specs.Calls.{names_weakly, receiver}
use Rattle.genie_kernel.specs.Devices.{devices_view}
use Rattle.genie_kernel.specs.Orphans.{is_orphan, is_owned, orphan_view, orphans_view, all_numbers}
use Rattle.genie_kernel.specs.Regions.{has_id, owned_regions, process_view, processes_view, region_view, regions_of, with_changed}
use Rattle.genie_kernel.specs.Sizes.{AreSizedSpaces}
use Rattle.genie_kernel.specs.View.{Bytes, state_of}
use Rattle.genie_kernel.specs.Lemmas.Adding.{added_view}
use Rattle.genie_kernel.specs.Lemmas.Alike.{transfers_alike, orphans_alike, devices_alike}
use Rattle.genie_kernel.specs.Lemmas.Changing.{changed_view}
use Rattle.genie_kernel.specs.Lemmas.Processes.{processes_kept, process_entry}
use Rattle.genie_changes.specs.Regions.{with_added, ShowSameEntries, KeepsBytes}
use Rattle.genie_changes.proofs.Processes.{all_front, all_back, found_set, found_added, found_turned}

bytes_alike : (old new : ℕ → List ℕ) (is : List ℕ) → ((i : ℕ) → new i ≡ old i) → flat_map new is ≡ flat_map old is
bytes_alike old new is same = λ j. flat_map (λ i. same i j) is

module _ (old new : ℕ → ℕ → List ℕ) where
  regions_alike : (rs : List Region) → ShowSameEntries old new rs → map (region_view new) rs ≡ map (region_view old) rs
  regions_alike [] a = refl
  regions_alike (r ∷ rs) a = ap₂ ◌∷◌ (ap (λ bytes. record (region_view old r) { bytes = bytes }) (bytes_alike (old r.object.0) (new r.object.0) (range_with_len 0 r.pages) (a zero r (omega arith)))) (regions_alike rs (λ k d l. a (suc k) d (omega (arith, l))))

  process_alike : (p : Option (List Region)) (q : List ℕ) → ShowSameEntries old new (regions_of p) → process_view new p q ≡ process_view old p q
  process_alike None q a = refl
  process_alike (Some rs) q a = ap (λ (l : List flat.Region). Some (record { queue = q; regions = l })) (regions_alike rs a)

  pub processes_alike : (ps : List (Option (List Region))) (qs : List (List ℕ)) → ShowSameEntries old new (owned_regions ps) → processes_view new ps qs ≡ processes_view old ps qs
  processes_alike [] qs a = refl
  processes_alike (p ∷ ps) [] a = ap₂ ◌∷◌ (process_alike p [] (all_front (λ (r : Region). (i : ℕ) → new r.object.0 i ≡ old r.object.0 i) (regions_of p) (owned_regions ps) a)) (processes_alike ps [] (all_back (λ (r : Region). (i : ℕ) → new r.object.0 i ≡ old r.object.0 i) (regions_of p) (owned_regions ps) a))
  processes_alike (p ∷ ps) (q ∷ qs) a = ap₂ ◌∷◌ (process_alike p q (all_front (λ (r : Region). (i : ℕ) → new r.object.0 i ≡ old r.object.0 i) (regions_of p) (owned_regions ps) a)) (processes_alike ps qs (all_back (λ (r : Region). (i : ℕ) → new r.object.0 i ≡ old r.object.0 i) (regions_of p) (owned_regions ps) a))

any_found : (q : Region → Bool) (xs : List Region) → list_any q xs ≡ is_some (option_map (λ (r : Region). r.id.0) (find q xs))
any_found q [] = refl
any_found q (x ∷ xs) = elim (q x) as (λ b. (b || list_any q xs) ≡ is_some (option_map (λ (r : Region). r.id.0) (cond b (Some x) (find q xs)))) [ true ↦ refl | false ↦ any_found q xs ]

module _ (ps : List (Option (List Region))) (p : ℕ) (rs : List Region) (e : entry ps p ≡ Some rs) where
  owned_more : (r : Region) (k : ℕ) → r.id.0 ≢ k → is_owned (owned_regions (set ps p (Some (with_added r rs)))) k ≡ is_owned (owned_regions ps) k
  owned_more r k other =
      let fails : has_id k r ≡ false = grind (arith, rules, other) in
      any_found (has_id k) (owned_regions (set ps p (Some (with_added r rs)))) ∙ ap is_some (found_set rs (with_added r rs) (λ (q : Region). q.id.0) (has_id k) ps p e (ap (option_map (λ (q : Region). q.id.0)) (found_added (has_id k) r rs fails))) ∙ sym (any_found (has_id k) (owned_regions ps))

  owned_turned : (n : ℕ) (g : Region → Region) → ((r : Region) → (g r).id.0 ≡ r.id.0) → (k : ℕ) → is_owned (owned_regions (set ps p (Some (with_changed n g rs)))) k ≡ is_owned (owned_regions ps) k
  owned_turned n g keeps k = any_found (has_id k) (owned_regions (set ps p (Some (with_changed n g rs)))) ∙ ap is_some (found_set rs (with_changed n g rs) (λ (q : Region). q.id.0) (has_id k) ps p e (found_turned n g (λ (q : Region). q.id.0) (has_id k) (λ r. ap (λ x. x == k) (keeps r)) keeps rs)) ∙ sym (any_found (has_id k) (owned_regions ps))

  -- a number that nothing names is no orphan's
  orphan_more : (r : Region) (ts : List Transfer) → list_any (names_weakly r.id.0) ts ≡ false → (k : ℕ) → is_orphan (owned_regions (set ps p (Some (with_added r rs)))) ts k ≡ is_orphan (owned_regions ps) ts k
  orphan_more r ts none k = ⊎_elim
      (λ (same : r.id.0 ≡ k). let unnamed : list_any (names_weakly k) ts ≡ false = subst (λ n. list_any (names_weakly n) ts ≡ false) same none in ap (λ b. b && not (is_owned (owned_regions (set ps p (Some (with_added r rs)))) k)) unnamed ∙ sym (ap (λ b. b && not (is_owned (owned_regions ps) k)) unnamed))
      (λ (other : r.id.0 ≢ k). ap (λ b. list_any (names_weakly k) ts && not b) (owned_more r k other))
      (cases_eq r.id.0 k)

  pub processes_more : (s : ℕ → ℕ → List ℕ) (qs : List (List ℕ)) (r : Region) → processes_view s (set ps p (Some (with_added r rs))) qs ≡ set (processes_view s ps qs) p (change_process (with_region (region_view s r)) (entry (processes_view s ps qs) p))
  processes_more s qs r =
      let q : List ℕ = get_or qs p [] in
      processes_kept s ps qs p (Some (with_added r rs))
      ∙ ap (λ (l : List flat.Region). set (processes_view s ps qs) p (Some (record { queue = q; regions = l }))) (added_view s r rs)
      ∙ sym (ap (λ (o : Option flat.Process). set (processes_view s ps qs) p (change_process (with_region (region_view s r)) o)) (process_entry s ps qs p ∙ ap (λ (o : Option (List Region)). process_view s o q) e))

-- the state is the same where regions, the frames that devices need and orphans show the same
pub kept_alike : (k : Kernel) (old new : Bytes) → KeepsBytes k old new → state_of k new ≡ state_of k old
kept_alike k old new keeps =
    let a = old.seen.kept_bytes in
    let b = new.seen.kept_bytes in
    let rs : List Region = owned_regions k.spaces.processes in
    let processes = processes_alike old.seen.entry_bytes new.seen.entry_bytes k.spaces.processes k.queues keeps.entries in
    let orphans = orphans_alike rs k.transfers k.pools a b keeps.frames k.config.page in
    let transfers = transfers_alike rs k.transfers k.pools a b keeps.frames k.devices in
    let devices = (λ i. devices_view b 0 (keeps.rests i) (keeps.sents i) k.pools (receiver k.transfers) k.devices) ∙ devices_alike rs k.transfers k.pools a b keeps.frames 0 old.rests old.sents (receiver k.transfers) k.devices in
    λ i. record (state_of k old) { processes = processes i; orphans = orphans i; transfers = transfers i; devices = devices i }

pub added_region : (k : Kernel) (m : Memory) (spaces : AddressSpaces) (old new : Bytes) (p : ℕ) (r : Region) (rs : List Region) → entry k.spaces.processes p ≡ Some rs → spaces.processes ≡ set k.spaces.processes p (Some (with_added r rs)) → list_any (names_weakly r.id.0) k.transfers ≡ false → KeepsBytes k old new
    → state_of (record k { memory = m; spaces = spaces }) new ≡ add_region (state_of k old) p (region_view new.seen.entry_bytes r)
added_region k m spaces old new p r rs e procs none keeps =
    let a = old.seen.kept_bytes in
    let b = new.seen.kept_bytes in
    let ps = k.spaces.processes in
    let owned : List Region = owned_regions ps in
    let page = k.config.page in
    let processes = (λ i. processes_view new.seen.entry_bytes (procs i) k.queues) ∙ processes_more ps p rs e new.seen.entry_bytes k.queues r ∙ ap (λ (vs : List (Option flat.Process)). set vs p (change_process (with_region (region_view new.seen.entry_bytes r)) (entry vs p))) (processes_alike old.seen.entry_bytes new.seen.entry_bytes ps k.queues keeps.entries) in
    let orphans = (λ i. orphans_view page b (owned_regions (procs i)) k.transfers) ∙ (λ i. map (orphan_view page b k.transfers) (filter (λ j. orphan_more ps p rs e r k.transfers none j i) all_numbers)) ∙ orphans_alike owned k.transfers k.pools a b keeps.frames page in
    let transfers = transfers_alike owned k.transfers k.pools a b keeps.frames k.devices in
    let devices = (λ i. devices_view b 0 (keeps.rests i) (keeps.sents i) k.pools (receiver k.transfers) k.devices) ∙ devices_alike owned k.transfers k.pools a b keeps.frames 0 old.rests old.sents (receiver k.transfers) k.devices in
    λ i. record (state_of k old) { processes = processes i; orphans = orphans i; transfers = transfers i; devices = devices i }

pub changed_region : (k : Kernel) (m : Memory) (spaces : AddressSpaces) (old new : Bytes) (p n : ℕ) (f : flat.Region → flat.Region) (g : Region → Region) (rs : List Region) → entry k.spaces.processes p ≡ Some rs → ((i : ℕ) → i ≢ p → list_any (has_id n) (regions_of (entry k.spaces.processes i)) ≡ false) → spaces.processes ≡ set k.spaces.processes p (Some (with_changed n g rs)) → ((r : Region) → (g r).id.0 ≡ r.id.0) → ((r : Region) → f (region_view new.seen.entry_bytes r) ≡ region_view new.seen.entry_bytes (g r))
    → KeepsBytes k old new
    → state_of (record k { memory = m; spaces = spaces }) new ≡ change_region (state_of k old) n f
changed_region k m spaces old new p n f g rs e others procs numbers same keeps =
    let a = old.seen.kept_bytes in
    let b = new.seen.kept_bytes in
    let ps = k.spaces.processes in
    let owned : List Region = owned_regions ps in
    let page = k.config.page in
    let processes = (λ i. processes_view new.seen.entry_bytes (procs i) k.queues) ∙ sym (changed_view new.seen.entry_bytes n f g same ps k.queues p rs e others) ∙ ap (λ (vs : List (Option flat.Process)). map (change_process (changed_in n f)) vs) (processes_alike old.seen.entry_bytes new.seen.entry_bytes ps k.queues keeps.entries) in
    let orphans = (λ i. orphans_view page b (owned_regions (procs i)) k.transfers) ∙ (λ i. map (orphan_view page b k.transfers) (filter (λ j. list_any (names_weakly j) k.transfers && not (owned_turned ps p rs e n g numbers j i)) all_numbers)) ∙ orphans_alike owned k.transfers k.pools a b keeps.frames page in
    let transfers = transfers_alike owned k.transfers k.pools a b keeps.frames k.devices in
    let devices = (λ i. devices_view b 0 (keeps.rests i) (keeps.sents i) k.pools (receiver k.transfers) k.devices) ∙ devices_alike owned k.transfers k.pools a b keeps.frames 0 old.rests old.sents (receiver k.transfers) k.devices in
    λ i. record (state_of k old) { processes = processes i; orphans = orphans i; transfers = transfers i; devices = devices i }

pub spaced_stay : (config : Config) (spaces : AddressSpaces) (queues : List (List ℕ)) (p j : ℕ) (x : Option (List Region)) (q : List ℕ) → AreSizedSpaces config spaces queues → AreSizedSpaces config (set_process spaces p x) (set queues j q)
spaced_stay config spaces queues p j x q h = record { page = h.page; processes = length-set spaces.processes p x ∙ h.processes; queue_places = length-set queues j q ∙ h.queue_places }
