-- A good kernel is settled.
use Rattle.std.proofs.Common.{◌≡◌, ◌≢◌, ℕ, zero, suc, true, List, [], ◌∷◌, ◌++◌, refl, sym, ap, subst, arith, rules, ◌∙◌, length, map, get_or}
use Rattle.std.specs.Prelude.{Option, AllPairs, flat_map}
use Rattle.std.proofs.lemmas.List.{append-nil, length-replicate}
use Rattle.genie_region.specs.declared.region.Region.{Region}
use Rattle.genie_model.specs.Lemmas.Lists.{Has, all_has, has_at, has_map, find_has, pairs_beside, pairs_right}
use Rattle.genie_model.specs.Regions as model
use Rattle.genie_model.specs.State as flat
use Rattle.genie_model.specs.Tables.{entry}
use Rattle.genie_orderly.specs.Lemmas.FoundRegions.{all_of, found_at, no_orphan_at}
use Rattle.genie_orderly.specs.Orderly.{IsOrderly, Lies, orphan_numbers}
use Rattle.genie_kernel.specs.declared.kernel.Kernel.{Kernel}
use Rattle.genie_kernel.specs.declared.transfer.Transfer.{Transfer}
use Rattle.genie_kernel.specs.Calls.{is_named, first_waiting}
use Rattle.genie_kernel.specs.Good.{IsGood}
use Rattle.genie_kernel.specs.Regions.{has_id, owned_regions, regions_of, region_view}
use Rattle.genie_kernel.specs.Transfers.{transfer_view}
use Rattle.genie_kernel.specs.View.{no_bytes, outline}
use Rattle.genie_changes.specs.Settled.{AreNumbered, IsSettled, LieInRegions}
use Rattle.genie_changes.proofs.Fitting.{listed_none, page_has_bytes, regions_fit}
use Rattle.genie_changes.proofs.Gained.{object_length}
use Rattle.genie_changes.proofs.LeftPages.{in_region, regions_seen}
use Rattle.genie_changes.proofs.Premises.{named_region}
use Rattle.genie_changes.proofs.Rising.{all_ids, ids, only_in, transfers_rise}

pub pairs_left : {X : Type 0} (R : X → X → Type 0) (xs ys : List X) → AllPairs R (xs ++ ys) → AllPairs R xs
pairs_left R xs ys a = subst (AllPairs R) (append-nil xs) (pairs_beside R xs ys [] (subst (λ l. AllPairs R (xs ++ l)) (sym (append-nil ys)) a))

-- those of one process differ where those of all do
ids_apart : (ps : List (Option (List Region))) (p : ℕ) → AllPairs (λ (a b : ℕ). a ≢ b) (flat_map ids ps) → AllPairs (λ (a b : ℕ). a ≢ b) (ids (entry ps p))
ids_apart [] p a = λ i j d l m. absurd (omega (arith, l, m))
ids_apart (y ∷ ps) zero a = pairs_left (λ (x y : ℕ). x ≢ y) (ids y) (flat_map ids ps) a
ids_apart (y ∷ ps) (suc p) a = ids_apart ps p (pairs_right (λ (x y : ℕ). x ≢ y) (ids y) (flat_map ids ps) a)

regions_apart : (rs : List Region) → AllPairs (λ (a b : ℕ). a ≢ b) (map (λ (r : Region). r.id.0) rs) → AllPairs (λ (a b : Region). a.id.0 ≢ b.id.0) rs
regions_apart rs a i j d l m e =
    a i j d.id.0 l (omega (arith, m, mapped_length (λ (r : Region). r.id.0) rs)) (mapped_at (λ (r : Region). r.id.0) rs i d ∙ e ∙ sym (mapped_at (λ (r : Region). r.id.0) rs j d)) where
      mapped_at : {X Y : Type 0} (f : X → Y) (xs : List X) (i : ℕ) (d : X) → get_or (map f xs) i (f d) ≡ f (get_or xs i d)
      mapped_at f [] i d = refl
      mapped_at f (x ∷ xs) zero d = refl
      mapped_at f (x ∷ xs) (suc i) d = mapped_at f xs i d

      mapped_length : {X Y : Type 0} (f : X → Y) (xs : List X) → length (map f xs) ≡ length xs
      mapped_length f [] = refl
      mapped_length f (x ∷ xs) = ap (λ n. suc n) (mapped_length f xs)

module _ (k : Kernel) (g : IsGood k) where
  abbrev ps : List (Option (List Region))
  ps = k.spaces.processes

  abbrev zeros : ℕ → ℕ → List ℕ
  zeros = (no_bytes k.config.page).seen.entry_bytes

  numbered : AreNumbered ps
  numbered = record {
    only = λ p n. only_in k p n g;
    each = λ p. regions_apart (regions_of (entry ps p)) (ids_apart ps p (subst (AllPairs (λ (x y : ℕ). x ≢ y)) (all_ids zeros ps k.queues) (pairs_left (λ (x y : ℕ). x ≢ y) _ (orphan_numbers (outline k).orphans) g.orderly.numbers)));
    fit = regions_fit k g;
  }

  ranges : LieInRegions k.config.page (owned_regions ps) k.transfers
  ranges i d l r found passes =
      let t : Transfer = get_or k.transfers i d in
      let n : ℕ = r.id.0 in
      let named : is_named t.region n ≡ true = grind (arith, rules, passes) in
      let see : Transfer → flat.Transfer = transfer_view (no_bytes k.config.page).seen.kept_bytes k.devices k.pools (first_waiting k.transfers) in
      let v : flat.Transfer = see t in
      let here : Has (region_view zeros r) (all_of (outline k).processes) = subst (Has (region_view zeros r)) (sym (regions_seen zeros ps k.queues)) (has_map (region_view zeros) r (owned_regions ps) (find_has (has_id n) (owned_regions ps) r found).0) in
      let lies = all_has (λ (u : flat.Transfer). Lies (outline k) u u.region) (outline k).transfers g.orderly.ranges v (has_map see t k.transfers (has_at k.transfers i d l)) in
      let ends = in_region v (model.region_numbered (outline k) n) (model.orphan_numbered (outline k) n) (region_view zeros r) (found_at (outline k) g.orderly.numbers (region_view zeros r) here n refl) (no_orphan_at (outline k) g.orderly.numbers (region_view zeros r) here n refl) (subst (Lies (outline k) v) (named_region t n named) lies) in
      let long = object_length (zeros r.object.0) k.config.page 0 r.pages (λ i. length-replicate k.config.page 0) in
      omega (arith, ends, long)

  pub good_settled : IsSettled k
  good_settled = record {
    fits = g.fits;
    has_bytes = page_has_bytes k g;
    sized = g.sized;
    spaced = g.spaced;
    equipped = g.equipped;
    numbered = numbered;
    listed = listed_none k g;
    ranges = ranges;
    rising = (transfers_rise k g).order;
    sound = g.sound;
    cached = g.cached;
    few = g.few;
    backed = g.backed;
    guarded = g.guarded;
    counted = g.counted;
    owners = g.owners;
    held = g.held;
    planned = g.planned;
    fitting = g.fitting;
    posted = g.posted;
    sending = g.sending;
    receiving = g.receiving;
    arrived = g.arrived;
  }

pub settled_good : (k : Kernel) → IsSettled k → IsOrderly (outline k) → IsGood k
settled_good k s orderly = record {
  fits = s.fits;
  sized = s.sized;
  spaced = s.spaced;
  equipped = s.equipped;
  orderly = orderly;
  sound = s.sound;
  cached = s.cached;
  few = s.few;
  backed = s.backed;
  guarded = s.guarded;
  counted = s.counted;
  owners = s.owners;
  held = s.held;
  planned = s.planned;
  fitting = s.fitting;
  posted = s.posted;
  sending = s.sending;
  receiving = s.receiving;
  arrived = s.arrived;
}
