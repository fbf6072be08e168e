-- A list of hidden regions with one region more, or one fewer.
use Rattle.std.proofs.Common.{◌≡◌, ◌≢◌, ℕ, ◌<◌, ◌≤◌, ◌+◌, ◌*◌, suc, zero, Bool, true, false, not, List, [], ◌∷◌, ◌++◌, refl, arith, ap, rules, length, get_or, sym, ◌∙◌, inl, inr, subst, eq-eqb, length-append}
use Rattle.std.specs.Prelude.{◌==◌, count_by, filter, nat_lt, remove}
use Rattle.std.proofs.Math.ListN.{get_or-append}
use Rattle.std.proofs.Math.Seq.{get_or-append_seam}
use Rattle.std.proofs.lemmas.List.Sums.{sum_by-cons}
use Rattle.std.proofs.lemmas.Bool.{cases_lt}
use Rattle.std.proofs.lemmas.List.Edits.{length-remove}
use Rattle.genie_object.specs.Lemmas.Lookup.{other_at}
use Rattle.genie_base.specs.Lemmas.Places.{num, same_or}
use Rattle.genie_hiding.specs.declared.hidden.Hidden.{Hidden}
use Rattle.genie_hiding.specs.Hidden.{no_hidden, is_of, AreFew, IsKept}

-- where an element of the list without the one at place k was before
pub record WasAt {X : Type 0} (d : X) (xs : List X) (k j : ℕ) : Type 0 where
  pub from : ℕ
  pub there : from < length xs
  pub is : get_or (remove xs k) j d ≡ get_or xs from d
  pub below : j < k → from ≡ j
  pub above : k ≤ j → from ≡ j + 1

pub was_at : {X : Type 0} (d : X) (xs : List X) (k j : ℕ) → j < length (remove xs k) → WasAt d xs k j
was_at d [] zero j l = absurd (omega arith)
was_at d [] (suc k) j l = absurd (omega arith)
was_at d (x ∷ xs) zero j l = record { from = suc j; there = omega arith; is = refl; below = λ h. absurd (omega arith); above = λ h. omega arith }
was_at d (x ∷ xs) (suc k) zero l = record { from = 0; there = omega arith; is = refl; below = λ h. refl; above = λ h. absurd (omega arith) }
was_at d (x ∷ xs) (suc k) (suc j) l =
    let z = was_at d xs k j (omega arith) in
    record { from = suc z.from; there = omega (arith, z.there); is = z.is; below = λ h. omega (arith, z.below, h); above = λ h. omega (arith, z.above, h) }

pub count_skip : {X : Type 0} (q : X → Bool) (d : X) (xs : List X) (k : ℕ) → k < length xs → count_by q (remove xs k) + num (q (get_or xs k d)) ≡ count_by q xs
count_skip q d [] k l = absurd (omega arith)
count_skip q d (x ∷ xs) zero l = omega (arith, sum_by-cons (λ y. num (q y)) x xs)
count_skip q d (x ∷ xs) (suc k) l = omega (arith, sum_by-cons (λ y. num (q y)) x xs, sum_by-cons (λ y. num (q y)) x (remove xs k), count_skip q d xs k (omega arith))

pub filter_skip : {X : Type 0} (q : X → Bool) (d : X) (xs : List X) (k : ℕ) → k < length xs → q (get_or xs k d) ≡ false → filter q (remove xs k) ≡ filter q xs
filter_skip q d [] k l e = absurd (omega arith)
filter_skip q d (x ∷ xs) zero l e = rw e refl
filter_skip q d (x ∷ xs) (suc k) l e = rw (filter_skip q d xs k (omega arith) e) refl

pub filter_none : {X : Type 0} (q : X → Bool) (xs : List X) → count_by q xs ≡ 0 → filter (λ x. not (q x)) xs ≡ xs
filter_none q [] e = refl
filter_none q (x ∷ xs) e = elim (q x) as (λ b. q x ≡ b → filter (λ x. not (q x)) (x ∷ xs) ≡ x ∷ xs) [
  | true ↦ λ w. absurd (omega (arith, e, sum_by-cons (λ y. num (q y)) x xs, ap num w))
  | false ↦ λ w. rw (w, filter_none q xs (omega (arith, e, sum_by-cons (λ y. num (q y)) x xs))) refl
] refl

-- how many of the regions are of processes below n
abbrev below : ℕ → List Hidden → ℕ
below n kept = count_by (λ h. nat_lt h.pid n) kept

lt_true : (a b : ℕ) → a < b → nat_lt a b ≡ true
lt_true a b l = grind (arith, rules, l)

lt_false : (a b : ℕ) → b ≤ a → nat_lt a b ≡ false
lt_false a b l = grind (arith, rules, l)

at_most_one : (b : Bool) → num b ≤ 1
at_most_one true = omega arith
at_most_one false = omega arith

-- a process below n + 1 is below n, or it is n
one_more : (p n : ℕ) → num (nat_lt p (suc n)) ≡ num (nat_lt p n) + num (p == n)
one_more p n = elim (cases_lt p n) [
  | inl h ↦ let d : p ≢ n = λ e. absurd (omega (arith, e, h)) in omega (arith, ap num (lt_true p n h), ap num (lt_true p (suc n) (omega (arith, h))), ap num (other_at p n (λ e. d (sym e))))
  | inr h ↦ elim (same_or p n) [
    | inl e ↦ omega (arith, ap num (lt_false p n h), ap num (lt_true p (suc n) (omega (arith, e))), ap num (eq-eqb p n e))
    | inr d ↦ omega (arith, ap num (lt_false p n h), ap num (lt_false p (suc n) (omega (arith, h, d))), ap num (other_at p n (λ e. d (sym e))))
  ]
]

below_zero : (kept : List Hidden) → below 0 kept ≡ 0
below_zero [] = refl
below_zero (h ∷ kept) = omega (arith, ap num (lt_false h.pid 0 (omega arith)), below_zero kept, sum_by-cons (λ (x : Hidden). num (nat_lt x.pid 0)) h kept)

below_more : (n : ℕ) (kept : List Hidden) → below (suc n) kept ≡ below n kept + count_by (is_of n) kept
below_more n [] = refl
below_more n (h ∷ kept) = omega (arith, one_more h.pid n, below_more n kept, sum_by-cons (λ (x : Hidden). num (nat_lt x.pid (suc n))) h kept, sum_by-cons (λ (x : Hidden). num (nat_lt x.pid n)) h kept, sum_by-cons (λ (x : Hidden). num (x.pid == n)) h kept)

below_all : (kept : List Hidden) → ((k : ℕ) → k < length kept → (get_or kept k no_hidden).pid < 16) → below 16 kept ≡ length kept
below_all [] h = refl
below_all (x ∷ kept) h =
    let l = h 0 (omega arith) in
    let here : nat_lt x.pid 16 ≡ true = grind (arith, rules, l) in
    omega (arith, ap num here, below_all kept (λ k l. h (suc k) (omega arith)), sum_by-cons (λ (y : Hidden). num (nat_lt y.pid 16)) x kept)

below_few : (kept : List Hidden) (pid : ℕ) → ((p : ℕ) → count_by (is_of p) kept ≤ 32) → count_by (is_of pid) kept < 32 → (n : ℕ) → below n kept + num (nat_lt pid n) ≤ 32 * n
below_few kept pid few less zero = omega (arith, below_zero kept, ap num (lt_false pid 0 (omega arith)))
below_few kept pid few less (suc n) = elim (same_or pid n) [
  | inl s ↦
      let fewer : count_by (is_of n) kept < 32 = subst (λ p. count_by (is_of p) kept < 32) s less in
      omega (arith, at_most_one (nat_lt pid (suc n)), fewer, below_more n kept, below_few kept pid few less n)
  | inr d ↦ omega (arith, one_more pid n, ap num (other_at pid n (λ e. d (sym e))), few n, below_more n kept, below_few kept pid few less n)
]

-- there is room for a region more
pub room_left : (kept : List Hidden) (pid : ℕ) → AreFew kept → pid < 16 → count_by (is_of pid) kept < 32 → length kept < 512
room_left kept pid a l less =
    let all = below_all kept a.process in
    let here : nat_lt pid 16 ≡ true = grind (arith, rules, l) in
    omega (arith, all, ap num here, below_few kept pid a.few less 16)

count_pushed : (q : Hidden → Bool) (xs : List Hidden) (h : Hidden) → count_by q (xs ++ h ∷ []) ≡ count_by q xs + num (q h)
count_pushed q [] h = omega (arith, sum_by-cons (λ y. num (q y)) h [])
count_pushed q (x ∷ xs) h = omega (arith, count_pushed q xs h, sum_by-cons (λ y. num (q y)) x xs, sum_by-cons (λ y. num (q y)) x (xs ++ h ∷ []))

few_more : (kept : List Hidden) (h : Hidden) → AreFew kept → h.pid < 16 → count_by (is_of h.pid) kept < 32 → AreFew (kept ++ h ∷ [])
few_more kept h a l less = record {
  process = λ k lk. elim (cases_lt k (length kept)) [
    | inl b ↦ subst (λ (x : Hidden). x.pid < 16) (sym (get_or-append kept (h ∷ []) no_hidden k b)) (a.process k b)
    | inr b ↦
        let s : k ≡ length kept = omega (arith, lk, b, length-append kept (h ∷ [])) in
        subst (λ (x : Hidden). x.pid < 16) (sym (ap (λ n. get_or (kept ++ h ∷ []) n no_hidden) s ∙ get_or-append_seam kept h [] no_hidden)) l
  ];
  few = λ p. elim (same_or h.pid p) [
    | inl s ↦ subst (λ n. count_by (is_of n) (kept ++ h ∷ []) ≤ 32) s (omega (arith, count_pushed (is_of h.pid) kept h, at_most_one (h.pid == h.pid), less))
    | inr d ↦ omega (arith, count_pushed (is_of p) kept h, ap num (other_at h.pid p (λ e. d (sym e))), a.few p)
  ];
}

pub kept_more : (kept : List Hidden) (h : Hidden) (capacity : ℕ) → IsKept kept capacity → h.pid < 16 → count_by (is_of h.pid) kept < 32 → IsKept (kept ++ h ∷ []) capacity
kept_more kept h capacity x l less = record { are = few_more kept h x.are l less; most = omega (arith, length-append kept (h ∷ []), room_left kept h.pid x.are l less); room = x.room }

few_fewer : (kept : List Hidden) (k : ℕ) → k < length kept → AreFew kept → AreFew (remove kept k)
few_fewer kept k l a = record {
  process = λ j lj. let z = was_at no_hidden kept k j lj in subst (λ (x : Hidden). x.pid < 16) (sym z.is) (a.process z.from z.there);
  few = λ p. omega (arith, a.few p, count_skip (is_of p) no_hidden kept k l);
}

pub kept_fewer : (kept : List Hidden) (k capacity : ℕ) → k < length kept → IsKept kept capacity → IsKept (remove kept k) capacity
kept_fewer kept k capacity l x = record { are = few_fewer kept k l x.are; most = omega (arith, length-remove kept k l, x.most); room = x.room }
