-- Pages of a kind, counted.
use Rattle.std.proofs.Common.{◌≡◌, ℕ, ◌≤◌, ◌<◌, ◌+◌, ◌*◌, suc, zero, Bool, true, false, cond, refl, ap, sym, subst, arith}
use Rattle.std.specs.Prelude.{if◌then◌else◌, ◌==◌, ◌-◌, ◌/◌, ◌%◌}
use Rattle.std.proofs.lemmas.Bool.{eqb-true}
use Rattle.std.proofs.Math.Nat.{div-add-mod, mod-lt, lt_of_mul-lt-mul_left}
use Rattle.genie_base.specs.Counts.{span}
use Rattle.genie_copying.specs.Kinds.{count_pages}

one_more : (page n : ℕ) (b : Bool) → page * (n + (if b then 1 else 0)) ≡ page * n + (if b then page else 0)
one_more page n true = grind arith
one_more page n false = grind arith

-- the bytes of one page more
pub bytes_next : (page : ℕ) (kind : ℕ → Bool) (first n : ℕ) → page * count_pages kind first (suc n) ≡ page * count_pages kind first n + (if kind (first + n) then page else 0)
bytes_next page kind first n = one_more page (count_pages kind first n) (kind (first + n))

pub bytes_none : (page : ℕ) (kind : ℕ → Bool) (first : ℕ) → page * count_pages kind first 0 ≡ 0
bytes_none page kind first = grind arith

fewer_one : (a b : Bool) → (b ≡ false → a ≡ false) → (if a then 1 else 0) ≤ (if b then 1 else 0)
fewer_one a true h = elim a as (λ (x : Bool). (if x then 1 else 0) ≤ 1) [ true ↦ omega arith | false ↦ omega arith ]
fewer_one a false h = rw (h refl) (omega arith)

-- no more are of one kind than of another, where each of the one is of the other
pub count_fewer : (kind other : ℕ → Bool) (first n : ℕ) → ((i : ℕ) → other i ≡ false → kind i ≡ false) → count_pages kind first n ≤ count_pages other first n
count_fewer kind other first zero h = omega arith
count_fewer kind other first (suc n) h = omega (arith, count_fewer kind other first n h, fewer_one (kind (first + n)) (other (first + n)) (h (first + n)))

-- as many at most as there are, and no fewer among more pages
pub count_most : (kind : ℕ → Bool) (first n : ℕ) → count_pages kind first n ≤ n
count_most kind first zero = omega arith
count_most kind first (suc n) = omega (arith, count_most kind first n, one_most (kind (first + n)))
  where
    one_most : (b : Bool) → (if b then 1 else 0) ≤ 1
    one_most true = omega arith
    one_most false = omega arith

pub count_longer : (kind : ℕ → Bool) (first n k : ℕ) → count_pages kind first n ≤ count_pages kind first (n + k)
count_longer kind first n zero =
    let same : n ≡ n + 0 = omega arith in
    subst (λ m. count_pages kind first n ≤ count_pages kind first m) same (omega arith)
count_longer kind first n (suc k) =
    let next : n + suc k ≡ suc (n + k) = omega arith in
    subst (λ m. count_pages kind first n ≤ count_pages kind first m) (sym next) (omega (arith, count_longer kind first n k))

-- the bytes of the first page are among those of some, and those of the first two among those of two or more
pub bytes_first : (page : ℕ) (kind : ℕ → Bool) (first n : ℕ) → 1 ≤ n → (if kind first then page else 0) ≤ page * count_pages kind first n
bytes_first page kind first zero l = absurd (omega arith)
bytes_first page kind first (suc zero) l =
    let start : first + 0 ≡ first = omega arith in
    let next = bytes_next page kind first 0 in
    let here : (if kind (first + 0) then page else 0) ≡ (if kind first then page else 0) = ap (λ (z : ℕ). if kind z then page else 0) start in
    omega (arith, next, here)
bytes_first page kind first (suc (suc n)) l =
    let next = bytes_next page kind first (suc n) in
    omega (arith, next, bytes_first page kind first (suc n) (omega arith))

pub bytes_second : (page : ℕ) (kind : ℕ → Bool) (first n : ℕ) → 2 ≤ n → (if kind first then page else 0) + (if kind (first + 1) then page else 0) ≤ page * count_pages kind first n
bytes_second page kind first zero l = absurd (omega arith)
bytes_second page kind first (suc zero) l = absurd (omega arith)
bytes_second page kind first (suc (suc zero)) l =
    let next = bytes_next page kind first 1 in
    omega (arith, next, bytes_first page kind first 1 (omega arith))
bytes_second page kind first (suc (suc (suc n))) l =
    let next = bytes_next page kind first (suc (suc n)) in
    omega (arith, next, bytes_second page kind first (suc (suc n)) (omega arith))

-- the bytes of fewer pages are fewer
pub bytes_fewer : (page k n : ℕ) → k ≤ n → page * k ≤ page * n
bytes_fewer page k n l = grind (arith, l)

some_of : (b : Bool) (n x : ℕ) → (n == 0) ≡ b → 1 ≤ n → cond b 0 x ≡ x
some_of true n x e l = let none : n ≡ 0 = eqb-true n 0 e in absurd (omega (arith, none, l))
some_of false n x e l = refl

span_is : (page off n : ℕ) → 1 ≤ n → span page off n ≡ (off + n - 1) / page - off / page + 1
span_is page off n l = some_of (n == 0) n ((off + n - 1) / page - off / page + 1) refl l

-- some bytes touch a page, and those that pass the end of one touch two
pub span_some : (page off n : ℕ) → 1 ≤ n → 1 ≤ span page off n
span_some page off n l = subst (λ z. 1 ≤ z) (sym (span_is page off n l)) (omega arith)

pub span_passes : (page off n : ℕ) → 0 < page → page - off % page < n → 2 ≤ span page off n
span_passes page off n some far =
    let apart : page * (off / page + 1) ≡ page * (off / page) + page = grind arith in
    let more : page * ((off + n - 1) / page + 1) ≡ page * ((off + n - 1) / page) + page = grind arith in
    let below : page * (off / page + 1) < page * ((off + n - 1) / page + 1) = omega (arith, apart, more, some, far, div-add-mod off page, mod-lt off some, div-add-mod (off + n - 1) page, mod-lt (off + n - 1) some) in
    let last : off / page + 1 < (off + n - 1) / page + 1 = lt_of_mul-lt-mul_left page below in
    subst (λ z. 2 ≤ z) (sym (span_is page off n (omega (arith, far)))) (omega (arith, last))
