-- Room that is made, of regions and of frames.
use Rattle.std.proofs.Common.{◌≡◌, ℕ, ◌<◌, List, [], ◌∷◌, refl, sym, ap, ap₂, subst, ◌∙◌, inl, inr, map}
use Rattle.std.specs.Prelude.{Option, Some, None, find}
use Rattle.std.specs.List.{range_with_len}
use Rattle.std.specs.Option.{option_map}
use Rattle.genie_frame.specs.declared.frame.Owner.{Owner}
use Rattle.genie_hiding.specs.declared.hidden.Hidden.{Hidden}
use Rattle.genie_input.specs.Pools.{PoolState}
use Rattle.genie_store.specs.StoreView.{StoreView}
use Rattle.genie_object.specs.declared.memory.Memory.{Memory}
use Rattle.genie_object.specs.Memory.{seen}
use Rattle.genie_object.specs.Sound.{IsSized}
use Rattle.genie_region.specs.declared.region.Region.{Region}
use Rattle.genie_model.specs.Lemmas.Lists.{Has, all_has, has_left, has_right}
use Rattle.genie_model.specs.Tables.{entry}
use Rattle.genie_kernel.specs.declared.kernel.Kernel.{Kernel}
use Rattle.genie_kernel.specs.Calls.{has_number, receiver}
use Rattle.genie_kernel.specs.Counted.{pool_on}
use Rattle.genie_kernel.specs.Devices.{devices_view}
use Rattle.genie_kernel.specs.Good.{IsGood}
use Rattle.genie_kernel.specs.Kept.{Kept, KeepsOwner}
use Rattle.genie_kernel.specs.Regions.{owned_regions, process_view, processes_view, region_view, regions_of}
use Rattle.genie_kernel.specs.Steps.{bytes_over}
use Rattle.genie_kernel.specs.Told.{rests_of, sents_of}
use Rattle.genie_kernel.specs.View.{Bytes, state_of, bytes_with}
use Rattle.genie_kernel.specs.Lemmas.Alike.{devices_alike, orphans_alike, transfers_alike}
use Rattle.genie_changes.specs.Making.{IsMoved}
use Rattle.genie_changes.specs.Regions.{KeepsBytes}
use Rattle.genie_changes.specs.Lemmas.Outside.{bytes_alike}
use Rattle.genie_spaces.specs.Clearing.{Clears}
use Rattle.genie_inputs.specs.Ready.{IsReady}

owner_on : (a b c : Owner) → KeepsOwner a b → KeepsOwner b c → KeepsOwner a c
owner_on a b c x y = record {
  owner = elim y.owner [
    | inl e ↦ elim x.owner [ inl d ↦ inl (e ∙ d) | inr d ↦ inr (e ∙ d) ]
    | inr e ↦ inr e
  ];
  unfreed = y.unfreed;
}

-- what is kept between two changes, of which the first leaves the pending transfers and the pools
pub kept_on : (a b c : Kernel) → b.transfers ≡ a.transfers → b.pools ≡ a.pools → Kept a b → Kept b c → Kept a c
kept_on a b c transfers pools x y = record {
  lent = λ n f t u p on still.
      let mid : find (has_number n) b.transfers ≡ Some t = ap (find (has_number n)) transfers ∙ p.was in
      owner_on _ _ _ (x.lent n f t t (record { was = p.was; is = mid }) on on) (y.lent n f t u (record { was = mid; is = p.is }) on still);
  pooled = λ d f was is.
      let mid : 0 < pool_on f (entry b.pools d) = subst (λ (ps : List (Option PoolState)). 0 < pool_on f (entry ps d)) (sym pools) was in
      owner_on _ _ _ (x.pooled d f was mid) (y.pooled d f mid is);
  fresh = λ n f t u p unready on. y.fresh n f t u (record { was = ap (find (has_number n)) transfers ∙ p.was; is = p.is }) unready on;
}

pub ready_moved : (old new : Kernel) (v w : StoreView) → IsMoved old new v w → IsReady old new v w
ready_moved old new v w x = record {
  only = x.only ∙ (λ i. record old { memory = new.memory; hidden = sym (ap (λ (k : Kernel). k.hidden) x.only) i; clock = new.clock });
  good = x.good;
  sized = x.sized;
  kept = x.kept;
  told = x.told;
}

pub ready_on : (a b c : Kernel) (u v w : StoreView) → IsReady a b u v → IsMoved b c v w → IsReady a c u w
ready_on a b c u v w x y = record {
  only = y.only ∙ ap (λ (k : Kernel). record k { memory = c.memory; clock = c.clock }) x.only ∙ (λ i. record a { memory = c.memory; hidden = sym (ap (λ (k : Kernel). k.hidden) y.only) i; clock = c.clock });
  good = y.good;
  sized = y.sized;
  kept = kept_on a b c (ap (λ (k : Kernel). k.transfers) x.only) (ap (λ (k : Kernel). k.pools) x.only) x.kept y.kept;
  told = λ host. y.told host ∙ x.told host;
}

-- the entries of these regions show the same
regions_alike : (s t : ℕ → ℕ → List ℕ) (rs : List Region) → ((r : Region) (i : ℕ) → Has r rs → s r.object.0 i ≡ t r.object.0 i) → map (region_view s) rs ≡ map (region_view t) rs
regions_alike s t [] e = refl
regions_alike s t (r ∷ rs) e = ap₂ ◌∷◌ (ap (λ bytes. record (region_view t r) { bytes = bytes }) (bytes_alike s t r.object.0 (range_with_len 0 r.pages) (λ i. e r i (inl refl)))) (regions_alike s t rs (λ q i h. e q i (inr h)))

process_alike : (s t : ℕ → ℕ → List ℕ) (p : Option (List Region)) (q : List ℕ) → ((r : Region) (i : ℕ) → Has r (regions_of p) → s r.object.0 i ≡ t r.object.0 i) → process_view s p q ≡ process_view t p q
process_alike s t None q e = refl
process_alike s t (Some rs) q e = ap (λ rows. Some (record { queue = q; regions = rows })) (regions_alike s t rs e)

processes_alike : (s t : ℕ → ℕ → List ℕ) (ps : List (Option (List Region))) (qs : List (List ℕ)) → ((r : Region) (i : ℕ) → Has r (owned_regions ps) → s r.object.0 i ≡ t r.object.0 i) → processes_view s ps qs ≡ processes_view t ps qs
processes_alike s t [] qs e = refl
processes_alike s t (p ∷ ps) [] e = ap₂ ◌∷◌ (process_alike s t p [] (λ r i h. e r i (has_left r (regions_of p) (owned_regions ps) h))) (processes_alike s t ps [] (λ r i h. e r i (has_right r (regions_of p) (owned_regions ps) h)))
processes_alike s t (p ∷ ps) (q ∷ qs) e = ap₂ ◌∷◌ (process_alike s t p q (λ r i h. e r i (has_left r (regions_of p) (owned_regions ps) h))) (processes_alike s t ps qs (λ r i h. e r i (has_right r (regions_of p) (owned_regions ps) h)))

-- then the state is the same
pub bytes_kept : (k : Kernel) (old new : Bytes) → KeepsBytes k old new → state_of k new ≡ state_of k old
bytes_kept k old new x =
    let a = old.seen.kept_bytes in
    let b = new.seen.kept_bytes in
    let regions : List Region = owned_regions k.spaces.processes in
    let processes = processes_alike new.seen.entry_bytes old.seen.entry_bytes k.spaces.processes k.queues (λ r i h. entry_same r i h) in
    let orphans = orphans_alike regions k.transfers k.pools a b x.frames k.config.page in
    let transfers = transfers_alike regions k.transfers k.pools a b x.frames k.devices in
    let devices = (λ i. devices_view b 0 (x.rests i) (x.sents i) k.pools (receiver k.transfers) k.devices) ∙ devices_alike regions k.transfers k.pools a b x.frames 0 old.rests old.sents (receiver k.transfers) k.devices in
    λ i. record (state_of k old) { processes = processes i; orphans = orphans i; transfers = transfers i; devices = devices i }
  where
    entry_same : (r : Region) (i : ℕ) → Has r (owned_regions k.spaces.processes) → new.seen.entry_bytes r.object.0 i ≡ old.seen.entry_bytes r.object.0 i
    entry_same r i h = all_has (λ (q : Region). (j : ℕ) → new.seen.entry_bytes q.object.0 j ≡ old.seen.entry_bytes q.object.0 j) (owned_regions k.spaces.processes) x.entries r h i

kept_told : (k : Kernel) (m : Memory) (hid : List Hidden) → ((slots rests sents : ℕ → List ℕ) → KeepsBytes k (bytes_over k.memory slots rests sents) (bytes_over m slots rests sents)) → (slots rests sents : Option (ℕ → List ℕ)) → option_map (state_of (record k { memory = m; hidden = hid })) (bytes_with (option_map (seen m) slots) rests sents) ≡ option_map (state_of k) (bytes_with (option_map (seen k.memory) slots) rests sents)
kept_told k m hid x None rests sents = refl
kept_told k m hid x (Some slots) None sents = refl
kept_told k m hid x (Some slots) (Some rests) None = refl
kept_told k m hid x (Some slots) (Some rests) (Some sents) = ap (λ s. Some s) (bytes_kept k (bytes_over k.memory slots rests sents) (bytes_over m slots rests sents) (x slots rests sents))

cleared : (k : Kernel) (m : Memory) (hid : List Hidden) (v : StoreView) → IsGood k → IsSized k.memory v → Clears k (record k { memory = m; hidden = hid }) → IsReady k (record k { memory = m; hidden = hid }) v v
cleared k m hid v good sized c = record {
  only = refl;
  good = c.good;
  sized = record { count = sized.count ∙ good.sized.slots ∙ sym c.good.sized.slots; page = sized.page ∙ good.sized.page ∙ sym c.good.sized.page };
  kept = c.kept;
  told = λ host. kept_told k m hid c.bytes v.slots (rests_of host k.config) (sents_of host k.config);
}

pub ready_cleared : (old new : Kernel) (v : StoreView) → IsGood old → IsSized old.memory v → Clears old new → IsReady old new v v
ready_cleared old new v good sized c = subst (λ (k : Kernel). IsReady old k v v) (sym c.only) (cleared old new.memory new.hidden v good sized (subst (Clears old) c.only c))
