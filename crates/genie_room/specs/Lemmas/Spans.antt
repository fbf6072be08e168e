-- How many pages a range touches at most.
use Rattle.std.proofs.Common.{◌≡◌, ℕ, ◌<◌, ◌≤◌, ◌+◌, ◌-◌, ◌*◌, Bool, true, false, cond, arith}
use Rattle.std.specs.Prelude.{◌==◌, ◌/◌}
use Rattle.std.proofs.Math.Nat.{div-add-mod, mod-lt, mul-div-le, lt_of_mul-lt-mul_left}
use Rattle.genie_base.specs.Counts.{span}

at_most : (b : Bool) (n most : ℕ) → n ≤ most → cond b 0 n ≤ most
at_most true n most l = omega arith
at_most false n most l = l

-- as many bytes as `pages` pages have touch at most one page more
pub span_most : (page pages a n : ℕ) → 0 < page → n ≤ pages * page → span page a n ≤ pages + 1
span_most page pages a n some short =
    let apart : page * (a / page + (pages + 1)) ≡ page * (a / page) + pages * page + page = grind arith in
    let below : page * ((a + n - 1) / page) < page * (a / page + (pages + 1)) = omega (arith, apart, some, short, div-add-mod a page, mod-lt a some, mul-div-le (a + n - 1) page) in
    let last : (a + n - 1) / page < a / page + (pages + 1) = lt_of_mul-lt-mul_left page below in
    at_most (n == 0) ((a + n - 1) / page - a / page + 1) (pages + 1) (omega (arith, last))
