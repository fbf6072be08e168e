-- A region that is moved out.
use Rattle.std.proofs.Common.{◌≡◌, ℕ, ◌<◌, zero, suc, Bool, true, false, List, [], ◌∷◌, ◌++◌, refl, sym, ap, ap₂, subst, arith, ◌∙◌, length, map, get_or, set}
use Rattle.std.specs.Prelude.{Option, Some, None, IfSome, ◌==◌, ◌||◌, if◌then◌else◌, unwrap_or}
use Rattle.std.specs.List.{list_any}
use Rattle.genie_base.specs.declared.numbers.RegionId.{RegionId}
use Rattle.genie_base.specs.declared.region.RegionState.TheVariants.{Out}
use Rattle.genie_input.specs.Pools.{PoolState}
use Rattle.genie_plan.specs.Plans.{input_frames}
use Rattle.genie_region.specs.declared.region.Region.{Region}
use Rattle.genie_space.specs.Spaces as spaces
use Rattle.genie_model.specs.Outputs as model
use Rattle.genie_model.specs.Regions.{change_process, changed, changed_in, is_region, with_state}
use Rattle.genie_model.specs.State as flat
use Rattle.genie_model.specs.Tables.{entry}
use Rattle.genie_model.specs.Lemmas.Lists.{Has, all_has, has_at, has_left, has_right}
use Rattle.genie_kernel.specs.declared.kernel.Kernel.{Kernel}
use Rattle.genie_kernel.specs.Backed.{IsGuarded}
use Rattle.genie_kernel.specs.Regions.{has_id, owned_regions, process_view, processes_view, region_view, regions_of, with_changed}
use Rattle.genie_kernel.specs.Same.{ShowSame}
use Rattle.genie_kernel.specs.View.{Bytes, state_of}
use Rattle.genie_kernel.specs.Lemmas.Tidying.{any_map}
use Rattle.genie_changes.specs.Beginning.{HasParts}
use Rattle.genie_changes.specs.MovingOut.{moved_out, out_region}
use Rattle.genie_changes.specs.Regions.{KeepsBytes}
use Rattle.genie_changes.specs.Removing.{IsOnlyIn}
use Rattle.genie_changes.proofs.Backing.{backed_changed, few_changed, finds_named_changed, guarded_changed, held_over_regions}
use Rattle.genie_changes.proofs.Spaces.{changed_region, spaced_stay}

module _ (s : ℕ → ℕ → List ℕ) (n : ℕ) where
  abbrev v : Region → flat.Region
  v = region_view s

  abbrev outed : flat.Region → flat.Region
  outed = changed n (with_state Out)

  unchanged : (rs : List Region) → list_any (has_id n) rs ≡ false → map outed (map v rs) ≡ map v rs
  unchanged [] e = refl
  unchanged (r ∷ rs) e = elim (r.id.0 == n) as (λ b. (r.id.0 == n) ≡ b → (b || list_any (has_id n) rs) ≡ false → (if b then with_state Out (v r) else v r) ∷ map outed (map v rs) ≡ v r ∷ map v rs) [
    | true ↦ λ is h. absurd (cc)
    | false ↦ λ is h. ap (λ l. v r ∷ l) (unchanged rs h)
  ] refl e

  abbrev with_rows : List ℕ → List flat.Region → flat.Process
  with_rows q rows = record { queue = q; regions = rows }

  moves : (rs : List Region) (q : List ℕ) (b : Bool) → list_any (has_id n) rs ≡ b → model.moved_out_of n (with_rows q (map v rs)) ≡ (if b then with_rows (q ++ n ∷ []) (map outed (map v rs)) else with_rows q (map v rs))
  moves rs q b e = ap (λ (c : Bool). if c then with_rows (q ++ n ∷ []) (map outed (map v rs)) else with_rows q (map v rs)) (any_map (is_region n) v rs ∙ e)

  here : (x : Option (List Region)) (rs : List Region) (q : List ℕ) → x ≡ Some rs → list_any (has_id n) rs ≡ true → change_process (changed_in n (with_state Out)) (process_view s x (q ++ n ∷ [])) ≡ change_process (model.moved_out_of n) (process_view s x q)
  here None rs q is e = absurd (cc)
  here (Some qs) rs q is e = let same : qs ≡ rs = cc in ap Some (sym (moves qs q true (ap (list_any (has_id n)) same ∙ e)))

  other : (x : Option (List Region)) (q : List ℕ) → list_any (has_id n) (regions_of x) ≡ false → change_process (changed_in n (with_state Out)) (process_view s x q) ≡ change_process (model.moved_out_of n) (process_view s x q)
  other None q e = refl
  other (Some rs) q e = ap (λ rows. Some (with_rows q rows)) (unchanged rs e) ∙ ap Some (sym (moves rs q false e))

  others : (ps : List (Option (List Region))) (qs : List (List ℕ)) → ((i : ℕ) → list_any (has_id n) (regions_of (entry ps i)) ≡ false) → map (change_process (changed_in n (with_state Out))) (processes_view s ps qs) ≡ map (change_process (model.moved_out_of n)) (processes_view s ps qs)
  others [] qs h = refl
  others (x ∷ ps) [] h = ap₂ ◌∷◌ (other x [] (h 0)) (others ps [] (λ i. h (suc i)))
  others (x ∷ ps) (q ∷ qs) h = ap₂ ◌∷◌ (other x q (h 0)) (others ps qs (λ i. h (suc i)))

  pub processes_out : (ps : List (Option (List Region))) (qs : List (List ℕ)) (p : ℕ) (rs : List Region) → entry ps p ≡ Some rs → list_any (has_id n) rs ≡ true → IsOnlyIn n p ps → p < length qs → map (change_process (changed_in n (with_state Out))) (processes_view s ps (set qs p (get_or qs p [] ++ n ∷ []))) ≡ map (change_process (model.moved_out_of n)) (processes_view s ps qs)
  processes_out [] qs p rs there e only l = absurd (cc)
  processes_out (x ∷ ps) [] p rs there e only l = absurd (omega (arith, l))
  processes_out (x ∷ ps) (q ∷ qs) zero rs there e only l = ap₂ ◌∷◌ (here x rs q there e) (others ps qs (λ i. only (suc i) (λ same. let clash : suc i ≡ 0 = same in omega (arith, clash))))
  processes_out (x ∷ ps) (q ∷ qs) (suc p) rs there e only l = ap₂ ◌∷◌ (other x q (only 0 (λ same. let clash : 0 ≡ suc p = same in omega (arith, clash)))) (processes_out ps qs p rs there e (λ i ne. only (suc i) (λ same. ne (let both : suc i ≡ suc p = same in omega (arith, both)))) (omega (arith, l)))

owned_has : (r : Region) (ps : List (Option (List Region))) (p : ℕ) (rs : List Region) → entry ps p ≡ Some rs → Has r rs → Has r (owned_regions ps)
owned_has r [] p rs e h = absurd (cc)
owned_has r (x ∷ ps) zero rs e h = has_left r (regions_of x) (owned_regions ps) (subst (λ o. Has r (regions_of o)) (sym e) h)
owned_has r (x ∷ ps) (suc p) rs e h = has_right r (regions_of x) (owned_regions ps) (owned_has r ps p rs e h)

bytes_kept : (k : Kernel) (b : Bytes) → KeepsBytes k b b
bytes_kept k b = record { rests = refl; sents = refl; entries = λ i d l j. refl; frames = record { lent = λ i d l strong j e m. refl; pooled = λ d. nothing (entry k.pools d); orphans = λ n x e. refl } }
  where
    nothing : (o : Option PoolState) → IfSome o (λ (p : PoolState). ShowSame b.seen.kept_bytes b.seen.kept_bytes (input_frames p.loans))
    nothing None = tt
    nothing (Some p) = λ j e m. refl

module _ (k : Kernel) (p : ℕ) (id : RegionId) (rs : List Region) (there : entry k.spaces.processes p ≡ Some rs) where
  abbrev n : ℕ
  n = id.0

  abbrev ps : List (Option (List Region))
  ps = k.spaces.processes

  abbrev queue : List ℕ
  queue = get_or k.queues p [] ++ n ∷ []

  -- over the regions that are there
  abbrev moved : Kernel
  moved = record k { spaces = spaces.set_regions k.spaces p (with_changed n out_region rs); queues = set k.queues p queue }

  moved_is : moved_out k p id ≡ moved
  moved_is = ap (λ (l : List Region). record k { spaces = spaces.set_regions k.spaces p (with_changed n out_region l); queues = set k.queues p queue }) (ap (λ (o : Option (List Region)). unwrap_or o []) there)

  parts : HasParts k → HasParts moved
  parts h = record {
    fits = h.fits;
    sized = h.sized;
    spaced = spaced_stay k.config k.spaces k.queues p p (Some (with_changed n out_region rs)) queue h.spaced;
    equipped = h.equipped;
    sound = h.sound;
    cached = h.cached;
    few = few_changed ps k.hidden p rs there n out_region h.few;
    backed = backed_changed k.memory.objects ps k.hidden p n out_region rs there (λ r. (refl, refl)) h.backed;
    guarded = guarded_changed k.memory.objects ps p rs there h.guarded n out_region (λ j d l. all_has (IsGuarded k.memory.objects) (owned_regions ps) h.guarded (get_or rs j d) (owned_has (get_or rs j d) ps p rs there (has_at rs j d l)));
    counted = h.counted;
    owners = h.owners;
    held = held_over_regions k.config.page k.memory (owned_regions ps) (owned_regions moved.spaces.processes) k.transfers (finds_named_changed k.transfers ps p n out_region rs there (λ r. (refl, refl))) h.held;
    planned = h.planned;
    fitting = h.fitting;
    posted = h.posted;
    sending = h.sending;
    receiving = h.receiving;
    arrived = h.arrived;
  }

  pub moved_parts : HasParts k → HasParts (moved_out k p id)
  moved_parts h = subst HasParts (sym moved_is) (parts h)

  pub moved_state : (b : Bytes) → list_any (has_id n) rs ≡ true → IsOnlyIn n p ps → p < length k.queues → state_of (moved_out k p id) b ≡ model.moved_out (state_of k b) n
  moved_state b named only l =
      let queued : Kernel = record k { queues = set k.queues p queue } in
      ap (λ x. state_of x b) moved_is
      ∙ changed_region queued k.memory moved.spaces b b p n (with_state Out) out_region rs there only refl (λ r. refl) (λ r. refl) (bytes_kept queued b)
      ∙ ap (λ rows. record (state_of k b) { processes = rows }) (processes_out b.seen.entry_bytes n ps k.queues p rs there named only l)
