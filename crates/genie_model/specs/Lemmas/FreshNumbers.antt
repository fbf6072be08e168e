-- The search for the least number that isn't used.
use Rattle.std.proofs.Common.{◌≡◌, ℕ, zero, suc, ◌+◌, ◌<◌, true, false, refl, arith}
use Rattle.genie_model.specs.State.{State}
use Rattle.genie_model.specs.Regions.{is_used, least_unused, fresh}

pub fresh_begins : (s : State) (tries : ℕ) → tries + 0 ≡ 577 → least_unused s tries 0 ≡ fresh s
unfolding fresh
fresh_begins s tries e = let all : tries ≡ 577 = omega arith in rw all refl

pub fresh_found : (s : State) (tries n : ℕ) → 0 < tries → is_used s n ≡ false → least_unused s tries n ≡ n
unfolding least_unused
fresh_found s zero n h free = absurd (omega arith)
fresh_found s (suc tries) n h free = rw free refl

pub fresh_goes_on : (s : State) (tries n : ℕ) → is_used s n ≡ true → least_unused s (suc tries) n ≡ least_unused s tries (n + 1)
unfolding least_unused
fresh_goes_on s tries n used = rw used refl

pub fresh_ends : (s : State) (n : ℕ) → least_unused s zero n ≡ n
unfolding least_unused
fresh_ends s n = refl
