-- A region that is moved into: it is In, and in no queue.
use Rattle.std.proofs.Common.{◌≡◌, ℕ, ◌<◌, zero, suc, true, false, not, cond, List, [], ◌∷◌, refl, sym, ap, ap₂, subst, arith, ◌∙◌, map, filter, length, get_or, set}
use Rattle.std.specs.Prelude.{Option, Some, None, is_some, ◌==◌, ◌||◌, if◌then◌else◌, slice_set}
use Rattle.std.specs.List.{list_any}
use Rattle.std.proofs.lemmas.Bool.{or_parts}
use Rattle.genie_base.specs.declared.region.RegionState.TheVariants.{In}
use Rattle.genie_region.specs.declared.region.Region.{Region}
use Rattle.genie_space.specs.Spaces as spaces
use Rattle.genie_model.specs.Inputs.{moved_in, moved_in_of}
use Rattle.genie_model.specs.Lemmas.Lists.{Has, all_has, has_at}
use Rattle.genie_model.specs.Regions.{change_process, change_region, changed, with_state}
use Rattle.genie_model.specs.State as flat
use Rattle.genie_model.specs.Tables.{entry}
use Rattle.genie_kernel.specs.declared.kernel.Kernel.{Kernel}
use Rattle.genie_kernel.specs.Backed.{IsGuarded}
use Rattle.genie_kernel.specs.Regions.{has_id, owned_regions, process_view, processes_view, region_view, regions_of, with_changed}
use Rattle.genie_kernel.specs.View.{Bytes, state_of}
use Rattle.genie_changes.specs.Beginning.{HasParts}
use Rattle.genie_changes.specs.Regions.{SpacedStay}
use Rattle.genie_changes.specs.Removing.{IsListedIn, IsOnlyIn}
use Rattle.genie_spaces.specs.RegionLaws.{RegionLaws}
use Rattle.genie_inputs.specs.Reusing.{filled_region}
use Rattle.genie_inputs.proofs.Answered.{same_needed}
use Rattle.genie_inputs.proofs.Targeting.{has_owned}

suc_same : (i p : ℕ) → suc i ≡ suc p → i ≡ p
suc_same i p e = omega (arith, e)

abbrev unlisted : ℕ → List ℕ → List ℕ
unlisted n q = filter (λ m. not (m == n)) q

-- the view of processes with it
module _ (s : ℕ → ℕ → List ℕ) (n : ℕ) where
  region_in : (r : Region) → changed n (with_state In) (region_view s r) ≡ region_view s (if r.id.0 == n then filled_region r else r)
  region_in r = elim (r.id.0 == n) as (λ b. (if b then with_state In (region_view s r) else region_view s r) ≡ region_view s (if b then filled_region r else r)) [ true ↦ refl | false ↦ refl ]

  regions_in : (rs : List Region) → map (changed n (with_state In)) (map (region_view s) rs) ≡ map (region_view s) (with_changed n filled_region rs)
  regions_in [] = refl
  regions_in (r ∷ rs) = ap₂ ◌∷◌ (region_in r) (regions_in rs)

  none_changed : (rs : List Region) → list_any (has_id n) rs ≡ false → with_changed n filled_region rs ≡ rs
  none_changed [] e = refl
  none_changed (r ∷ rs) e = let both = or_parts (has_id n r) (list_any (has_id n) rs) e in ap₂ ◌∷◌ (ap (λ b. if b then filled_region r else r) both.0) (none_changed rs both.1)

  pub none_listed : (q : List ℕ) → list_any (λ m. m == n) q ≡ false → unlisted n q ≡ q
  none_listed [] e = refl
  none_listed (x ∷ q) e = elim (x == n) as (λ b. (b || list_any (λ m. m == n) q) ≡ false → cond (not b) (x ∷ unlisted n q) (unlisted n q) ≡ x ∷ q) [
    | true ↦ λ h. absurd (cc)
    | false ↦ λ h. ap (λ l. x ∷ l) (none_listed q h)
  ] e

  process_same : (p : Option (List Region)) (q : List ℕ) → list_any (has_id n) (regions_of p) ≡ false → (is_some p ≡ true → list_any (λ m. m == n) q ≡ false) → process_view s p q ≡ change_process (moved_in_of n) (process_view s p q)
  process_same None q a b = refl
  process_same (Some rs) q a b = λ i. Some (record { queue = sym (none_listed q (b refl)) i; regions = sym (regions_in rs ∙ ap (map (region_view s)) (none_changed rs a)) i })

  process_in : (p : Option (List Region)) (q : List ℕ) (rs : List Region) → p ≡ Some rs → process_view s (Some (with_changed n filled_region rs)) (unlisted n q) ≡ change_process (moved_in_of n) (process_view s p q)
  process_in p q rs e = ap (λ (l : List flat.Region). Some (record { queue = unlisted n q; regions = l })) (sym (regions_in rs)) ∙ sym (ap (λ (z : Option (List Region)). change_process (moved_in_of n) (process_view s z q)) e)

  others_same : (ps : List (Option (List Region))) (qs : List (List ℕ)) → ((i : ℕ) → list_any (has_id n) (regions_of (entry ps i)) ≡ false) → ((i : ℕ) → is_some (entry ps i) ≡ true → list_any (λ m. m == n) (get_or qs i []) ≡ false) → processes_view s ps qs ≡ map (change_process (moved_in_of n)) (processes_view s ps qs)
  others_same [] qs a b = refl
  others_same (p ∷ ps) [] a b = ap₂ ◌∷◌ (process_same p [] (a 0) (λ live. refl)) (others_same ps [] (λ i. a (suc i)) (λ i live. refl))
  others_same (p ∷ ps) (q ∷ qs) a b = ap₂ ◌∷◌ (process_same p q (a 0) (b 0)) (others_same ps qs (λ i. a (suc i)) (λ i. b (suc i)))

  processes_in : (ps : List (Option (List Region))) (qs : List (List ℕ)) (p : ℕ) (rs : List Region) → entry ps p ≡ Some rs → p < length qs → IsOnlyIn n p ps → IsListedIn n p ps qs
      → processes_view s (set ps p (Some (with_changed n filled_region rs))) (set qs p (unlisted n (get_or qs p []))) ≡ map (change_process (moved_in_of n)) (processes_view s ps qs)
  processes_in ps [] p rs e l only listed = absurd (omega (arith, l))
  processes_in [] (q ∷ qs) p rs e l only listed = absurd (cc)
  processes_in (y ∷ ps) (q ∷ qs) zero rs e l only listed = ap₂ ◌∷◌ (process_in y q rs e) (others_same ps qs (λ i. only (suc i) (omega arith)) (λ i. listed (suc i) (omega arith)))
  processes_in (y ∷ ps) (q ∷ qs) (suc p) rs e l only listed = ap₂ ◌∷◌ (process_same y q (only 0 (omega arith)) (listed 0 (omega arith))) (processes_in ps qs p rs e (omega (arith, l)) (λ i ne. only (suc i) (λ same. ne (suc_same i p same))) (λ i ne. listed (suc i) (λ same. ne (suc_same i p same))))

-- the kernel with it, over whatever transfers are pending
module _ (laws : RegionLaws) (spaced : SpacedStay) (h : Kernel) (p n : ℕ) (rs : List Region) (x : HasParts h) (there : entry h.spaces.processes p ≡ Some rs) where
  abbrev ps : List (Option (List Region))
  ps = h.spaces.processes

  abbrev new_spaces : spaces.AddressSpaces
  new_spaces = spaces.set_regions h.spaces p (with_changed n filled_region rs)

  abbrev new_queues : List (List ℕ)
  new_queues = slice_set h.queues p (unlisted n (get_or h.queues p []))

  abbrev after : Kernel
  after = record h { spaces = new_spaces; queues = new_queues }

  in_process : (r : Region) → Has r rs → Has r (owned_regions ps)
  in_process r has = has_owned r ps p (subst (λ (o : Option (List Region)). Has r (regions_of o)) (sym there) has)

  pub moved_in_parts : HasParts after
  moved_in_parts = record {
    fits = x.fits;
    sized = x.sized;
    spaced = spaced h.config h.spaces h.queues p p (Some (with_changed n filled_region rs)) (unlisted n (get_or h.queues p [])) x.spaced;
    equipped = x.equipped;
    sound = x.sound;
    cached = x.cached;
    few = laws.few_changed ps h.hidden p n filled_region rs there x.few;
    backed = laws.backed_changed h.memory.objects ps h.hidden p n filled_region rs there (λ r. (refl, refl)) x.backed;
    guarded = laws.guarded_changed h.memory.objects ps p n filled_region rs there (λ i d l. all_has (IsGuarded h.memory.objects) (owned_regions ps) x.guarded (get_or rs i d) (in_process (get_or rs i d) (has_at rs i d l))) x.guarded;
    counted = x.counted;
    owners = x.owners;
    held = laws.held h.config.page h.memory (owned_regions ps) (owned_regions new_spaces.processes) h.transfers (laws.finds_changed h.transfers ps p n filled_region rs there (λ r. (refl, refl))) x.held;
    planned = x.planned;
    fitting = x.fitting;
    posted = x.posted;
    sending = x.sending;
    receiving = x.receiving;
    arrived = x.arrived;
  }

  -- its state is that with the region moved into
  pub moved_in_state : p < length h.queues → IsOnlyIn n p ps → IsListedIn n p ps h.queues → (b : Bytes) → state_of after b ≡ moved_in (state_of h b) n
  moved_in_state low only listed b =
      let region : state_of (record h { spaces = new_spaces }) b ≡ change_region (state_of h b) n (with_state In) = laws.changed h h.memory new_spaces b b p n (with_state In) filled_region rs there only refl (λ r. refl) (λ r. refl) (record { rests = refl; sents = refl; entries = λ i d l j. refl; frames = same_needed h b.seen.kept_bytes }) in
      let processes = processes_in b.seen.entry_bytes n ps h.queues p rs there low only listed in
      λ i. record (region i) { processes = processes i }
