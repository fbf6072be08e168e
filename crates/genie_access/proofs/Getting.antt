-- How many pages an access gets from the store.
use Rattle.std.proofs.Common.{◌≡◌, ℕ, ◌≤◌, ◌<◌, ◌+◌, ◌-◌, ◌%◌, subst, sym, ap, arith, ◌∙◌}
use Rattle.genie_base.specs.Counts.{span}
use Rattle.genie_base.specs.declared.numbers.ObjectId.{ObjectId}
use Rattle.genie_frame.specs.declared.frame.Meters.{Meters}
use Rattle.genie_object.specs.declared.memory.Memory.{Memory}
use Rattle.genie_object.specs.Costs.{Spends}
use Rattle.genie_kernel.specs.declared.kernel.Kernel.{Kernel}
use Rattle.genie_kernel.specs.Good.{IsGood}
use Rattle.genie_copying.specs.Getting.{number_of}
use Rattle.genie_copying.specs.Ranges.{pages_reached}
use Rattle.genie_copying.specs.Lemmas.Counting.{span_some, span_passes}
use Rattle.genie_access.specs.Reached.{LeadsTo}
use Rattle.genie_access.proofs.Copied.{led_pages}

-- one page of a range at most, or two of a range that passes its first page
pub got_one : (page off n b g : ℕ) (x y : Meters) → 1 ≤ n → Spends b g 0 1 x y → g ≤ 1 → y.gets ≤ x.gets + span page off n
got_one page off n b g x y some s one = omega (arith, s.most_gets, one, span_some page off n some)

pub got_two : (p page off n b g c h : ℕ) (x y z : Meters) → p ≡ page → 0 < p → p - off % p < n → Spends b g 0 1 x y → g ≤ 1 → Spends c h 0 1 y z → h ≤ 1 → z.gets ≤ x.gets + span page off n
got_two p page off n b g c h x y z e some far s one t more =
    let passes : 2 ≤ span page off n = span_passes page off n (subst (λ q. 0 < q) e some) (subst (λ q. q - off % q < n) e far) in
    omega (arith, s.most_gets, t.most_gets, one, more, passes)

-- no more than those that it reaches
pub got_reached : (k : Kernel) (mid m : Memory) (p a n : ℕ) (o : ObjectId) (off : ℕ) → IsGood k → LeadsTo k p a n o off → mid.frames.page ≡ k.memory.frames.page → mid.frames.meters.gets ≡ k.memory.frames.meters.gets → m.frames.meters.gets ≤ mid.frames.meters.gets + span mid.frames.page off n → m.frames.meters.gets ≤ k.memory.frames.meters.gets + number_of (pages_reached k p a n)
got_reached k mid m p a n o off g l page none s =
    let size : mid.frames.page ≡ k.config.page = page ∙ g.sized.page in
    let found : span mid.frames.page off n ≡ number_of (pages_reached k p a n) = ap (λ z. span z off n) size ∙ ap number_of (sym (led_pages k p a n o off l)) in
    omega (arith, none, found, s)
