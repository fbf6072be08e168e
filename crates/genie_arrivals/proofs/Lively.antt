-- The region of a move input becomes its process's.
use Rattle.std.proofs.Common.{◌≡◌, ℕ, List, refl, ap, ◌∙◌, length-set, get_or}
use Rattle.std.specs.Prelude.{Option, Some, None, IfSome, find}
use Rattle.std.specs.List.{list_any}
use Rattle.genie_base.specs.declared.region.RegionState.TheVariants as state
use Rattle.genie_input.specs.Pools.{PoolState}
use Rattle.genie_plan.specs.Plans.{input_frames}
use Rattle.genie_region.specs.declared.region.Region.{Region}
use Rattle.genie_space.specs.Spaces.{set_regions}
use Rattle.genie_model.specs.Lemmas.Lists.{all_has, find_has, has_any, has_at}
use Rattle.genie_model.specs.Regions as model
use Rattle.genie_model.specs.Tables.{entry}
use Rattle.genie_orderly.specs.Orderly.{IsOrderly}
use Rattle.genie_kernel.specs.declared.kernel.Kernel.{Kernel}
use Rattle.genie_kernel.specs.declared.transfer.Transfer.{Transfer}
use Rattle.genie_kernel.specs.Backed.{IsGuarded}
use Rattle.genie_kernel.specs.Good.{IsGood}
use Rattle.genie_kernel.specs.Regions.{has_id, owned_regions, regions_of, with_changed}
use Rattle.genie_kernel.specs.Same.{SameNeeded, ShowSame}
use Rattle.genie_kernel.specs.View.{Bytes, state_of, outline}
use Rattle.genie_changes.specs.Regions.{KeepsBytes}
use Rattle.genie_changes.specs.Removing.{IsOnlyIn}
use Rattle.genie_changes.specs.Settled.{IsSettled}
use Rattle.genie_arrivals.specs.Live.{ChangeLaws, live, lively}
use Rattle.genie_arrivals.proofs.Owning.{has_owned}

pool_same : (f : ℕ → List ℕ) (p : Option PoolState) → IfSome p (λ (q : PoolState). ShowSame f f (input_frames q.loans))
pool_same f None = tt
pool_same f (Some q) = λ k d l. refl

-- what is as it was shows the same
pub same_needed : (regions : List Region) (ts : List Transfer) (pools : List (Option PoolState)) (f : ℕ → List ℕ) → SameNeeded regions ts pools f f
same_needed regions ts pools f = record { lent = λ k d l strong j e m. refl; pooled = λ d. pool_same f (entry pools d); orphans = λ k x o. refl }

pub keeps_bytes : (k : Kernel) (b : Bytes) → KeepsBytes k b b
keeps_bytes k b = record { rests = refl; sents = refl; entries = λ j d l i. refl; frames = same_needed (owned_regions k.spaces.processes) k.transfers k.pools b.seen.kept_bytes }

module _ (laws : ChangeLaws) (k : Kernel) (s : IsSettled k) (p : ℕ) (rs : List Region) (r : Region) (there : entry k.spaces.processes p ≡ Some rs) (found : find (has_id r.id.0) rs ≡ Some r) where
  abbrev ps : List (Option (List Region))
  ps = k.spaces.processes

  abbrev new : Kernel
  new = lively k p r.id.0 rs

  only : IsOnlyIn r.id.0 p ps
  only = let h = find_has (has_id r.id.0) rs r found in s.numbered.only p r.id.0 (ap (λ (o : Option (List Region)). list_any (has_id r.id.0) (regions_of o)) there ∙ has_any (has_id r.id.0) r rs h.0 h.1)

  -- it is the region of that number
  pub found_everywhere : find (has_id r.id.0) (owned_regions ps) ≡ Some r
  found_everywhere = (laws.found k.memory.objects k.hidden ps p r rs there found only s.backed).was

  pub live_state : (b : Bytes) → state_of new b ≡ model.change_region (state_of k b) r.id.0 (model.with_state state.Live)
  live_state b = laws.changed k k.memory (set_regions k.spaces p (with_changed r.id.0 live rs)) b b p r.id.0 (model.with_state state.Live) live rs there only refl (λ q. refl) (λ q. refl) (keeps_bytes k b)

  -- all that is true of the kernel stays so, but for the order of its outline
  pub live_good : IsOrderly (outline new) → IsGood new
  live_good orderly = record {
    fits = s.fits;
    sized = s.sized;
    spaced = record { page = s.spaced.page; processes = length-set ps p (Some (with_changed r.id.0 live rs)) ∙ s.spaced.processes; queue_places = s.spaced.queue_places };
    equipped = s.equipped;
    orderly = orderly;
    sound = s.sound;
    cached = s.cached;
    few = laws.few ps k.hidden p r.id.0 live rs there s.few;
    backed = laws.backed k.memory.objects ps k.hidden p r.id.0 live rs there (λ q. (refl, refl)) s.backed;
    guarded = laws.guarded k.memory.objects ps p r.id.0 live rs there (λ j d l. all_has (IsGuarded k.memory.objects) (owned_regions ps) s.guarded (get_or rs j d) (has_owned (get_or rs j d) ps p rs there (has_at rs j d l))) s.guarded;
    counted = s.counted;
    owners = s.owners;
    held = laws.held k.config.page k.memory (owned_regions ps) (owned_regions new.spaces.processes) k.transfers (laws.finds k.transfers ps p r.id.0 live rs there (λ q. (refl, refl))) s.held;
    planned = s.planned;
    fitting = s.fitting;
    posted = s.posted;
    sending = s.sending;
    receiving = s.receiving;
    arrived = s.arrived;
  }
