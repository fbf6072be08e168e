-- A kernel whose transfers and pools are gone.
use Rattle.std.proofs.Common.{◌≡◌, List, [], refl, subst}
use Rattle.std.specs.Prelude.{Option}
use Rattle.genie_input.specs.Pools.{PoolState}
use Rattle.genie_object.specs.declared.memory.Memory.{Memory}
use Rattle.genie_kernel.specs.declared.kernel.Kernel.{Kernel}
use Rattle.genie_kernel.specs.Counted.{AreCounted}
use Rattle.genie_kernel.specs.Good.{IsGood}
use Rattle.genie_kernel.specs.Matching.{ArePosted}
use Rattle.genie_kernel.specs.Owners.{AreOwned}
use Rattle.genie_changes.specs.Settled.{IsSettled}
use Rattle.genie_calls.specs.Closing.{IsClosed, IsLent, KeepsPages, KeepsRest, LendsPools}
use Rattle.genie_calls.proofs.Ending.{rest_trans}
use Rattle.genie_calls.proofs.Pools.{all_none, all_unlent, all_free_or_paged, lends_pools}

pub good_lends : (k : Kernel) → IsGood k → IsSettled k → IsLent k
good_lends k g s = record { sound = g.sound; counted = g.counted; owners = g.owners; rising = s.rising; planned = g.planned; posted = g.posted; pool_places = g.equipped.pool_places }

pub lends_none : (k : Kernel) → IsLent k → k.transfers ≡ [] → LendsPools 0 k.memory k.pools
lends_none k l none = lends_pools k.memory k.pools l.sound l.pool_places (subst (λ ts. AreCounted k.memory.frames.counts ts k.pools) none l.counted) (subst (λ ts. AreOwned k.memory.frames.owners ts k.pools) none l.owners)

pub closes : (k : Kernel) (m : Memory) (pools : List (Option PoolState)) → IsLent k → k.transfers ≡ [] → LendsPools 8 m pools → IsClosed (record k { memory = m; pools = pools })
closes k m pools l none gone =
    let posted = subst (ArePosted k.posted) none l.posted in
    record { transfers = none; posted = posted.listed; pools = all_none m pools gone; counts = all_unlent m pools gone; owners = all_free_or_paged m pools gone; sound = gone.sound }

pub rest_closes : (old k : Kernel) (m : Memory) (pools : List (Option PoolState)) → KeepsRest old k → KeepsPages k.memory m → KeepsRest old (record k { memory = m; pools = pools })
rest_closes old k m pools rest pages = rest_trans old k (record k { memory = m; pools = pools }) rest (record { only = refl; pages = pages })
