-- The flat state after bytes were stored in the object of a region.
use Rattle.std.proofs.Common.{◌≡◌, ◌≢◌, ℕ, ◌-◌, ◌*◌, Bool, true, false, not, List, [], ◌∷◌, length, refl, sym, ap, ap₂, subst, ◌∙◌, map, inl, inr, eqb-true, eq-eqb}
use Rattle.std.specs.Prelude.{Option, Some, None, filter, ◌==◌, ◌&&◌, if◌then◌else◌}
use Rattle.std.specs.List.{list_any, range_with_len}
use Rattle.std.specs.Option.{option_map}
use Rattle.genie_object.specs.Memory.{Seen}
use Rattle.genie_region.specs.declared.region.Region.{Region}
use Rattle.genie_region.specs.Layouts.{extent}
use Rattle.genie_base.specs.Regions.{reach}
use Rattle.genie_model.specs.Lemmas.Lists.{Has, has_left, has_right, has_any}
use Rattle.genie_model.specs.Regions as model
use Rattle.genie_model.specs.Regions.{changed, changed_in, change_process, with_bytes, put, stored_in_orphan}
use Rattle.genie_model.specs.Space.{stored}
use Rattle.genie_model.specs.State as flat
use Rattle.genie_model.specs.Tables.{entry}
use Rattle.genie_kernel.specs.declared.kernel.Kernel.{Kernel}
use Rattle.genie_kernel.specs.declared.transfer.Transfer.{Transfer}
use Rattle.genie_kernel.specs.Calls.{names_weakly}
use Rattle.genie_kernel.specs.Good.{IsGood}
use Rattle.genie_kernel.specs.Orphans.{is_orphan, is_owned, orphan_view, all_numbers}
use Rattle.genie_kernel.specs.Regions.{has_id, owned_regions, process_view, processes_view, region_view, regions_of}
use Rattle.genie_kernel.specs.View.{Bytes, state_of}
use Rattle.genie_access.specs.Storing.{ShowsStored}
use Rattle.genie_access.proofs.Led.{reach_view, led_owned}
use Rattle.genie_access.proofs.Once.{same_number, same_object}
use Rattle.genie_access.proofs.Outside.{bytes_alike}

module _ (s t : ℕ → ℕ → List ℕ) (n : ℕ) (f : flat.Region → flat.Region) where
  regions_put : (rs : List Region) → ((r : Region) → Has r rs → region_view t r ≡ changed n f (region_view s r)) → map (region_view t) rs ≡ map (changed n f) (map (region_view s) rs)
  regions_put [] h = refl
  regions_put (r ∷ rs) h = ap₂ ◌∷◌ (h r (inl refl)) (regions_put rs (λ q i. h q (inr i)))

  process_put : (p : Option (List Region)) (q : List ℕ) → ((r : Region) → Has r (regions_of p) → region_view t r ≡ changed n f (region_view s r)) → process_view t p q ≡ change_process (changed_in n f) (process_view s p q)
  process_put None q h = refl
  process_put (Some rs) q h = ap (λ rows. Some (record { queue = q; regions = rows })) (regions_put rs h)

  processes_put : (ps : List (Option (List Region))) (qs : List (List ℕ)) → ((r : Region) → Has r (owned_regions ps) → region_view t r ≡ changed n f (region_view s r)) → processes_view t ps qs ≡ map (change_process (changed_in n f)) (processes_view s ps qs)
  processes_put [] qs h = refl
  processes_put (p ∷ ps) [] h = ap₂ ◌∷◌ (process_put p [] (λ r i. h r (has_left r (regions_of p) (owned_regions ps) i))) (processes_put ps [] (λ r i. h r (has_right r (regions_of p) (owned_regions ps) i)))
  processes_put (p ∷ ps) (q ∷ qs) h = ap₂ ◌∷◌ (process_put p q (λ r i. h r (has_left r (regions_of p) (owned_regions ps) i))) (processes_put ps qs (λ r i. h r (has_right r (regions_of p) (owned_regions ps) i)))

-- a number that a process has is no orphan's
module _ (page : ℕ) (s : ℕ → List ℕ) (regions : List Region) (transfers : List Transfer) (n x : ℕ) (bytes : List ℕ) (owned : is_owned regions n ≡ true) where
  owned_apart : (m : ℕ) → is_orphan regions transfers m ≡ true → (m == n) ≡ false
  owned_apart m h = elim (m == n) as (λ b. (m == n) ≡ b → b ≡ false) [
    | true ↦ λ e.
        let same : m ≡ n = eqb-true m n e in
        let is : is_owned regions m ≡ true = ap (is_owned regions) same ∙ owned in
        absurd (both_no (list_any (names_weakly m) transfers) (is_owned regions m) is h)
    | false ↦ λ e. refl
  ] refl
    where
      both_no : (a b : Bool) → b ≡ true → (a && not b) ≡ true → ⊥
      both_no true true e d = absurd (cc)
      both_no true false e d = absurd (cc)
      both_no false true e d = absurd (cc)
      both_no false false e d = absurd (cc)

  orphan_put : (m : ℕ) → is_orphan regions transfers m ≡ true → stored_in_orphan n x bytes (orphan_view page s transfers m) ≡ orphan_view page s transfers m
  orphan_put m h = let no = owned_apart m h in ap (λ b. if b then record (orphan_view page s transfers m) { bytes = map (model.stored_at x bytes) (orphan_view page s transfers m).bytes } else orphan_view page s transfers m) no

  orphans_put : (ms : List ℕ) → map (stored_in_orphan n x bytes) (map (orphan_view page s transfers) (filter (is_orphan regions transfers) ms)) ≡ map (orphan_view page s transfers) (filter (is_orphan regions transfers) ms)
  orphans_put [] = refl
  orphans_put (m ∷ ms) = elim (is_orphan regions transfers m) as (λ b. is_orphan regions transfers m ≡ b → map (stored_in_orphan n x bytes) (map (orphan_view page s transfers) (if b then m ∷ filter (is_orphan regions transfers) ms else filter (is_orphan regions transfers) ms)) ≡ map (orphan_view page s transfers) (if b then m ∷ filter (is_orphan regions transfers) ms else filter (is_orphan regions transfers) ms)) [
    | true ↦ λ e. ap₂ ◌∷◌ (orphan_put m e) (orphans_put ms)
    | false ↦ λ e. orphans_put ms
  ] refl

module _ (k : Kernel) (g : IsGood k) (region : Region) (has : Has region (owned_regions k.spaces.processes)) (s t : Seen) (off : ℕ) (bytes : List ℕ) (x : ShowsStored s t region.object.0 region.pages off bytes) where
  abbrev put_bytes : flat.Region → flat.Region
  put_bytes = with_bytes off bytes

  here : region_view t.entry_bytes region ≡ put_bytes (region_view s.entry_bytes region)
  here = ap (λ z. record (region_view s.entry_bytes region) { bytes = z }) x.range

  -- each region shows what it showed, but for the one that has the object
  each : (r : Region) → Has r (owned_regions k.spaces.processes) → region_view t.entry_bytes r ≡ changed region.id.0 put_bytes (region_view s.entry_bytes r)
  each r h = elim (r.id.0 == region.id.0) as (λ b. (r.id.0 == region.id.0) ≡ b → region_view t.entry_bytes r ≡ (if b then put_bytes (region_view s.entry_bytes r) else region_view s.entry_bytes r)) [
    | true ↦ λ e. let same = same_number k r region g h has (eqb-true r.id.0 region.id.0 e) in subst (λ (z : Region). region_view t.entry_bytes z ≡ put_bytes (region_view s.entry_bytes z)) (sym same) here
    | false ↦ λ e.
        let apart : r.object.0 ≢ region.object.0 = λ same. let one = same_object k r region g h has same in let clash : false ≡ true = sym e ∙ eq-eqb r.id.0 region.id.0 (ap (λ (z : Region). z.id.0) one) in absurd (cc) in
        ap (λ z. record (region_view s.entry_bytes r) { bytes = z }) (bytes_alike t.entry_bytes s.entry_bytes r.object.0 (range_with_len 0 r.pages) (λ i. x.others r.object.0 i apart))
  ] refl

  abbrev before : (ℕ → List ℕ) → (ℕ → List ℕ) → Bytes
  before rests sents = record { seen = s; rests = rests; sents = sents }

  abbrev after : (ℕ → List ℕ) → (ℕ → List ℕ) → Bytes
  after rests sents = record { seen = t; rests = rests; sents = sents }

  owned : is_owned (owned_regions k.spaces.processes) region.id.0 ≡ true
  owned = has_any (has_id region.id.0) region (owned_regions k.spaces.processes) has (eq-eqb region.id.0 region.id.0 refl)

  put_state : (rests sents : ℕ → List ℕ) → state_of k (after rests sents) ≡ put (state_of k (before rests sents)) region.id.0 off bytes
  put_state rests sents =
      let old : flat.State = state_of k (before rests sents) in
      let kept = ap (λ (z : ℕ → List ℕ). state_of k (record { seen = record { entry_bytes = t.entry_bytes; kept_bytes = z }; rests = rests; sents = sents })) x.kept in
      let processes = processes_put s.entry_bytes t.entry_bytes region.id.0 put_bytes k.spaces.processes k.queues each in
      let orphans = sym (orphans_put k.config.page s.kept_bytes (owned_regions k.spaces.processes) k.transfers region.id.0 off bytes owned all_numbers) in
      kept ∙ (λ i. record old { processes = processes i; orphans = orphans i })

-- the state with the bytes that were stored is the flat machine's
pub stored_state : (k : Kernel) (p a : ℕ) (r : Region) (s t : Seen) (bytes : List ℕ) (rests sents : ℕ → List ℕ) → IsGood k → reach extent k.config.page a (length bytes) (regions_of (entry k.spaces.processes p)) ≡ Some r → ShowsStored s t r.object.0 r.pages (a - r.start * k.config.page) bytes → state_of k (record { seen = t; rests = rests; sents = sents }) ≡ stored (state_of k (record { seen = s; rests = rests; sents = sents })) (model.reach_of (state_of k (record { seen = s; rests = rests; sents = sents })) p a (length bytes)) a bytes
stored_state k p a r s t bytes rests sents g found x =
    let b : Bytes = record { seen = s; rests = rests; sents = sents } in
    put_state k g r (led_owned k p a (length bytes) r found) s t (a - r.start * k.config.page) bytes x rests sents
    ∙ sym (ap (λ (z : Option flat.Region). stored (state_of k b) z a bytes) (reach_view k b p a (length bytes) ∙ ap (option_map (region_view s.entry_bytes)) found))
