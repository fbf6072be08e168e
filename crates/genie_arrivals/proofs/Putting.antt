-- The flat state after bytes were stored in the object of a region.
use Rattle.std.proofs.Common.{◌≡◌, ◌≢◌, ℕ, Bool, true, false, not, List, [], ◌∷◌, refl, sym, ap, ap₂, subst, ◌∙◌, map, inl, inr, eqb-true, eq-eqb}
use Rattle.std.specs.Prelude.{Option, Some, None, filter, ◌==◌, ◌&&◌, if◌then◌else◌}
use Rattle.std.specs.List.{list_any, range_with_len}
use Rattle.genie_region.specs.declared.region.Region.{Region}
use Rattle.genie_base.specs.Bytes.{overlaid}
use Rattle.genie_model.specs.Lemmas.Lists.{Has, has_left, has_right, has_any}
use Rattle.genie_model.specs.Regions as model
use Rattle.genie_model.specs.Regions.{changed, changed_in, change_process, with_bytes, put, stored_in_orphan}
use Rattle.genie_model.specs.State as flat
use Rattle.genie_kernel.specs.declared.kernel.Kernel.{Kernel}
use Rattle.genie_kernel.specs.declared.transfer.Transfer.{Transfer}
use Rattle.genie_kernel.specs.Calls.{names_weakly}
use Rattle.genie_kernel.specs.Good.{IsGood}
use Rattle.genie_kernel.specs.Orphans.{is_orphan, is_owned, orphan_view, all_numbers}
use Rattle.genie_kernel.specs.Regions.{has_id, object_bytes, owned_regions, process_view, processes_view, region_view, regions_of}
use Rattle.genie_kernel.specs.View.{Bytes, state_of}
use Rattle.genie_changes.specs.Lemmas.Once.{same_number, same_object}
use Rattle.genie_changes.specs.Lemmas.Outside.{bytes_alike}

module _ (s t : ℕ → ℕ → List ℕ) (n : ℕ) (f : flat.Region → flat.Region) where
  regions_put : (rs : List Region) → ((r : Region) → Has r rs → region_view t r ≡ changed n f (region_view s r)) → map (region_view t) rs ≡ map (changed n f) (map (region_view s) rs)
  regions_put [] h = refl
  regions_put (r ∷ rs) h = ap₂ ◌∷◌ (h r (inl refl)) (regions_put rs (λ q i. h q (inr i)))

  process_put : (p : Option (List Region)) (q : List ℕ) → ((r : Region) → Has r (regions_of p) → region_view t r ≡ changed n f (region_view s r)) → process_view t p q ≡ change_process (changed_in n f) (process_view s p q)
  process_put None q h = refl
  process_put (Some rs) q h = ap (λ rows. Some (record { queue = q; regions = rows })) (regions_put rs h)

  pub processes_put : (ps : List (Option (List Region))) (qs : List (List ℕ)) → ((r : Region) → Has r (owned_regions ps) → region_view t r ≡ changed n f (region_view s r)) → processes_view t ps qs ≡ map (change_process (changed_in n f)) (processes_view s ps qs)
  processes_put [] qs h = refl
  processes_put (p ∷ ps) [] h = ap₂ ◌∷◌ (process_put p [] (λ r i. h r (has_left r (regions_of p) (owned_regions ps) i))) (processes_put ps [] (λ r i. h r (has_right r (regions_of p) (owned_regions ps) i)))
  processes_put (p ∷ ps) (q ∷ qs) h = ap₂ ◌∷◌ (process_put p q (λ r i. h r (has_left r (regions_of p) (owned_regions ps) i))) (processes_put ps qs (λ r i. h r (has_right r (regions_of p) (owned_regions ps) i)))

both_no : (a b : Bool) → b ≡ true → (a && not b) ≡ true → ⊥
both_no true true e d = absurd (cc)
both_no true false e d = absurd (cc)
both_no false true e d = absurd (cc)
both_no false false e d = absurd (cc)

-- a number that a process has is no orphan's
module _ (page : ℕ) (s : ℕ → List ℕ) (regions : List Region) (transfers : List Transfer) (n x : ℕ) (bytes : List ℕ) (owned : is_owned regions n ≡ true) where
  owned_apart : (m : ℕ) → is_orphan regions transfers m ≡ true → (m == n) ≡ false
  owned_apart m h = elim (m == n) as (λ b. (m == n) ≡ b → b ≡ false) [
    | true ↦ λ e.
        let same : m ≡ n = eqb-true m n e in
        let is : is_owned regions m ≡ true = ap (is_owned regions) same ∙ owned in
        absurd (both_no (list_any (names_weakly m) transfers) (is_owned regions m) is h)
    | false ↦ λ e. refl
  ] refl

  orphan_put : (m : ℕ) → is_orphan regions transfers m ≡ true → stored_in_orphan n x bytes (orphan_view page s transfers m) ≡ orphan_view page s transfers m
  orphan_put m h = let no = owned_apart m h in ap (λ b. if b then record (orphan_view page s transfers m) { bytes = map (model.stored_at x bytes) (orphan_view page s transfers m).bytes } else orphan_view page s transfers m) no

  orphans_put : (ms : List ℕ) → map (stored_in_orphan n x bytes) (map (orphan_view page s transfers) (filter (is_orphan regions transfers) ms)) ≡ map (orphan_view page s transfers) (filter (is_orphan regions transfers) ms)
  orphans_put [] = refl
  orphans_put (m ∷ ms) = elim (is_orphan regions transfers m) as (λ b. is_orphan regions transfers m ≡ b → map (stored_in_orphan n x bytes) (map (orphan_view page s transfers) (if b then m ∷ filter (is_orphan regions transfers) ms else filter (is_orphan regions transfers) ms)) ≡ map (orphan_view page s transfers) (if b then m ∷ filter (is_orphan regions transfers) ms else filter (is_orphan regions transfers) ms)) [
    | true ↦ λ e. ap₂ ◌∷◌ (orphan_put m e) (orphans_put ms)
    | false ↦ λ e. orphans_put ms
  ] refl

-- these bytes stand at the place in the object, and no other entry shows another page
pub record PutsBytes (s t : ℕ → ℕ → List ℕ) (o pages off : ℕ) (bytes : List ℕ) : Type 0 where
  pub range : object_bytes t o pages ≡ overlaid off bytes (object_bytes s o pages)
  pub others : (a b : ℕ) → a ≢ o → t a b ≡ s a b

module _ (k : Kernel) (g : IsGood k) (region : Region) (has : Has region (owned_regions k.spaces.processes)) (s t : ℕ → ℕ → List ℕ) (kept : ℕ → List ℕ) (off : ℕ) (bytes : List ℕ) (x : PutsBytes s t region.object.0 region.pages off bytes) where
  abbrev put_bytes : flat.Region → flat.Region
  put_bytes = with_bytes off bytes

  here : region_view t region ≡ put_bytes (region_view s region)
  here = ap (λ z. record (region_view s region) { bytes = z }) x.range

  -- each region shows what it showed, but for the one that has the object
  each : (r : Region) → Has r (owned_regions k.spaces.processes) → region_view t r ≡ changed region.id.0 put_bytes (region_view s r)
  each r h = elim (r.id.0 == region.id.0) as (λ b. (r.id.0 == region.id.0) ≡ b → region_view t r ≡ (if b then put_bytes (region_view s r) else region_view s r)) [
    | true ↦ λ e. let same = same_number k r region g h has (eqb-true r.id.0 region.id.0 e) in subst (λ (z : Region). region_view t z ≡ put_bytes (region_view s z)) (sym same) here
    | false ↦ λ e.
        let apart : r.object.0 ≢ region.object.0 = λ same. let one = same_object k r region g h has same in let clash : false ≡ true = sym e ∙ eq-eqb r.id.0 region.id.0 (ap (λ (z : Region). z.id.0) one) in absurd (cc) in
        ap (λ z. record (region_view s r) { bytes = z }) (bytes_alike t s r.object.0 (range_with_len 0 r.pages) (λ i. x.others r.object.0 i apart))
  ] refl

  abbrev over : (ℕ → ℕ → List ℕ) → (ℕ → List ℕ) → (ℕ → List ℕ) → Bytes
  over e rests sents = record { seen = record { entry_bytes = e; kept_bytes = kept }; rests = rests; sents = sents }

  owned : is_owned (owned_regions k.spaces.processes) region.id.0 ≡ true
  owned = has_any (has_id region.id.0) region (owned_regions k.spaces.processes) has (eq-eqb region.id.0 region.id.0 refl)

  pub put_state : (rests sents : ℕ → List ℕ) → state_of k (over t rests sents) ≡ put (state_of k (over s rests sents)) region.id.0 off bytes
  put_state rests sents =
      let old : flat.State = state_of k (over s rests sents) in
      let processes = processes_put s t region.id.0 put_bytes k.spaces.processes k.queues each in
      let orphans = sym (orphans_put k.config.page kept (owned_regions k.spaces.processes) k.transfers region.id.0 off bytes owned all_numbers) in
      (λ i. record old { processes = processes i; orphans = orphans i })
