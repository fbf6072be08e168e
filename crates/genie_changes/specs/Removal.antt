-- Laws of a region that is removed with its object, under whatever transfers are pending.
use Rattle.std.specs.Prelude.{◌≡◌, ◌≢◌, ℕ, ◌==◌, not, List, [], filter, find, Some, slice_set, slice_index_or}
use Rattle.genie_object.specs.declared.memory.Memory.{Memory}
use Rattle.genie_object.specs.Leaving.{Removes}
use Rattle.genie_region.specs.declared.region.Region.{Region}
use Rattle.genie_space.specs.Spaces.{set_regions}
use Rattle.genie_model.specs.Space.{remove, tidy}
use Rattle.genie_model.specs.Tables.{entry}
use Rattle.genie_kernel.specs.declared.kernel.Kernel.{Kernel}
use Rattle.genie_kernel.specs.Kept.{Kept}
use Rattle.genie_kernel.specs.Regions.{has_id, owned_regions, region_view}
use Rattle.genie_kernel.specs.Same.{SameNeeded}
use Rattle.genie_kernel.specs.Steps.{bytes_over}
use Rattle.genie_kernel.specs.View.{Bytes, no_bytes, state_of}
use Rattle.genie_changes.specs.Paged.{HavePages}
use Rattle.genie_changes.specs.Premises.{ShowsLeft}
use Rattle.genie_changes.specs.Regions.{without_number}
use Rattle.genie_changes.specs.Settled.{IsSettled}

-- the numbers of a queue without n
abbrev pub unlisted : ℕ → List ℕ → List ℕ
unlisted n queue = filter (λ m. not (m == n)) queue

-- the kernel over this memory, where process p, which has these regions, has n no more, also not in its queue
abbrev pub removed_from : Kernel → Memory → ℕ → ℕ → List Region → Kernel
removed_from k m p n regions = record k { memory = m; spaces = set_regions k.spaces p (without_number n regions); queues = slice_set k.queues p (unlisted n (slice_index_or k.queues p [])) }

-- region r of process p goes, and its object with its pages; nothing else has changed
pub record RemovesRegion (p : ℕ) (r : Region) (old new : Kernel) : Type 0 where
  pub regions : List Region
  pub there : entry old.spaces.processes p ≡ Some regions
  pub found : find (has_id r.id.0) regions ≡ Some r
  pub object : Removes r.object.0 old.memory new.memory
  pub left : new ≡ removed_from old new.memory p r.id.0 regions

-- what is true between two changes stays so
abbrev pub RemovalSettles : Type 0
RemovalSettles = (p : ℕ) (r : Region) (old new : Kernel) → RemovesRegion p r old new → IsSettled old → IsSettled new

-- no frame is freed or gets another owner while a device holds it
abbrev pub RemovalKeeps : Type 0
RemovalKeeps = (p : ℕ) (r : Region) (old new : Kernel) → RemovesRegion p r old new → IsSettled old → Kept old new

-- all other entries show the same, and so do the frames that devices need and the orphans; and where a device holds a page
-- of the region, its frame shows now what the entry showed
pub record ShowsRemoval (r : Region) (k : Kernel) (old new : Bytes) : Type 0 where
  pub rests : new.rests ≡ old.rests
  pub sents : new.sents ≡ old.sents
  pub entries : (o i : ℕ) → o ≢ r.object.0 → new.seen.entry_bytes o i ≡ old.seen.entry_bytes o i
  pub frames : SameNeeded (owned_regions k.spaces.processes) k.transfers k.pools old.seen.kept_bytes new.seen.kept_bytes
  pub left : ShowsLeft k r old.seen.entry_bytes new.seen.kept_bytes

-- so it is over slots that have a page each
abbrev pub RemovalShows : Type 0
RemovalShows = (p : ℕ) (r : Region) (old new : Kernel) (slots rests sents : ℕ → List ℕ) → RemovesRegion p r old new → IsSettled old → HavePages old.memory slots → ShowsRemoval r old (bytes_over old.memory slots rests sents) (bytes_over new.memory slots rests sents)

-- and of the outlines
abbrev pub OutlinesShowRemoval : Type 0
OutlinesShowRemoval = (r : Region) (k : Kernel) → ShowsRemoval r k (no_bytes k.config.page) (no_bytes k.config.page)

-- then the state is that once the region is removed, of which an orphan stays under pending weak transfers
abbrev pub RemovalState : Type 0
RemovalState = (p : ℕ) (r : Region) (k new : Kernel) (a b : Bytes) → RemovesRegion p r k new → IsSettled k → ShowsRemoval r k a b → state_of new b ≡ tidy (remove (state_of k a) (region_view a.seen.entry_bytes r))
