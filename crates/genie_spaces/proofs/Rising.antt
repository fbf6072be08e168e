-- How far a fork lets the meters rise.
use Rattle.std.proofs.Common.{◌≡◌, ℕ, ◌+◌, ◌*◌, ◌^◌, ◌≤◌, zero, suc, Bool, true, false, List, [], ◌∷◌, refl, arith, length, filter, inl, inr}
use Rattle.std.specs.Prelude.{Option, Some, None, count_by, unwrap_or, sum_by, if◌then◌else◌}
use Rattle.std.proofs.lemmas.Bool.{cond_both}
use Rattle.std.proofs.lemmas.List.Sums.{sum_by-cons}
use Rattle.genie_hiding.specs.Hidden.{is_of}
use Rattle.genie_object.specs.declared.memory.Memory.{Memory}
use Rattle.genie_object.specs.Costs.{Spends, place_of}
use Rattle.genie_object.specs.Lemmas.Works.{page_most}
use Rattle.genie_region.specs.declared.region.Region.{Region}
use Rattle.genie_sharing.specs.Copying.{copies_work, is_held_in}
use Rattle.genie_space.specs.Spaces.{regions_of}
use Rattle.genie_model.specs.Lemmas.Lists.{Has, all_has}
use Rattle.genie_model.specs.Tables.{entry}
use Rattle.genie_kernel.specs.declared.kernel.Kernel.{Kernel}
use Rattle.genie_kernel.specs.Good.{IsGood}
use Rattle.genie_kernel.specs.Regions.{owned_regions}
use Rattle.genie_kernel.specs.Rising.{MetersRise}
use Rattle.genie_kernel.specs.Lemmas.Rising.{rises_spent}
use Rattle.genie_changes.specs.Removing.{FitsTables, GoodRegionsFit}
use Rattle.genie_spaces.specs.Forking.{fork_work, is_forked}
use Rattle.genie_spaces.proofs.Numbering.{has_owned}

-- a page at most is moved for an entry
copies_most : (m : Memory) (o n : ℕ) → m.frames.page ≤ 4096 → copies_work m o n ≤ 4096 * n
copies_most m o zero small = omega arith
copies_most m o (suc n) small = let rest = copies_most m o n small in omega (arith, rest, small, most (is_held_in m.frames.counts (place_of m o n))) where
  most : (b : Bool) → (if b then m.frames.page else 0) ≤ m.frames.page
  most true = omega arith
  most false = omega arith

sum_most : (f : Region → ℕ) (q : Region → Bool) (rs : List Region) → ((r : Region) → Has r rs → f r ≤ 2 ^ 18) → sum_by f (filter q rs) ≤ 2 ^ 18 * length rs
sum_most f q [] h = omega arith
sum_most f q (r ∷ rs) h =
    let rest = sum_most f q rs (λ x is. h x (inr is)) in
    let first = h r (inl refl) in
    cond_both (q r) (r ∷ filter q rs) (filter q rs) (λ l. sum_by f l ≤ 2 ^ 18 * length (r ∷ rs)) (λ t. omega (arith, rest, first, sum_by-cons f r (filter q rs))) (λ g. omega (arith, rest))

regions_there : (k : Kernel) (p : ℕ) (o : Option (List Region)) → entry k.spaces.processes p ≡ o → (r : Region) → Has r (unwrap_or o []) → Has r (owned_regions k.spaces.processes)
regions_there k p None e r h = absurd h
regions_there k p (Some rs) e r h = has_owned k.spaces.processes p rs r e h

-- a process has at most 32 regions of at most 64 pages
fork_most : GoodRegionsFit → (k : Kernel) (p : ℕ) → IsGood k → fork_work k p ≤ 2 ^ 23
fork_most fit k p good =
    let small : k.memory.frames.page ≤ 4096 = page_most k.memory.frames.page good.sound.shaped.size in
    let few : length (regions_of p k.spaces) + count_by (is_of p) k.hidden ≤ 32 = good.few.few p in
    let each : (r : Region) → Has r (regions_of p k.spaces) → copies_work k.memory r.object.0 r.pages ≤ 2 ^ 18 = λ r is.
    let long = (all_has FitsTables (owned_regions k.spaces.processes) (fit k good) r (regions_there k p (entry k.spaces.processes p) refl r is)).most in
    let most = copies_most k.memory r.object.0 r.pages small in
    omega (arith, long, most) in
    let sum : fork_work k p ≤ 2 ^ 18 * length (regions_of p k.spaces) = sum_most (λ (r : Region). copies_work k.memory r.object.0 r.pages) is_forked (regions_of p k.spaces) each in
    omega (arith, few, sum)

pub rises_forked : GoodRegionsFit → (old new : Kernel) (p : ℕ) → IsGood new → Spends (fork_work new p) 0 (2 ^ 24) (2 ^ 11) old.memory.frames.meters new.memory.frames.meters → new.memory.frames.landed ≡ old.memory.frames.landed → MetersRise (2 ^ 36) old.memory.frames new.memory.frames
rises_forked fit old new p good spent landed =
    let most = fork_most fit new p good in
    rises_spent (fork_work new p) 0 (2 ^ 24) (2 ^ 11) 0 (2 ^ 36) old.memory.frames new.memory.frames spent (omega (arith, landed)) (omega (arith, most)) (omega arith)
