-- Which numbers regions and orphans have, how many there are, and that one more is always found.
use Rattle.std.proofs.Common.{◌≡◌, ℕ, zero, suc, ◌+◌, ◌*◌, ◌<◌, ◌≤◌, Bool, true, false, not, ◌||◌, ◌==◌, nat_lt, List, [], ◌∷◌, ◌++◌, length, map, flat_map, All, AllPairs, ◌⊎◌, inl, inr, ⊎_elim, refl, sym, ap, ap₂, subst, ◌∙◌, eqb-true, eq-eqb, ne_eqb, ltb-true, arith}
use Rattle.std.specs.Prelude.{Option, Some, None, IsTrue, ◌≢◌}
use Rattle.std.specs.List.{list_any, range_with_len}
use Rattle.std.specs.Option.{option_to_list}
use Rattle.std.proofs.lemmas.Bool.{cases_lt, cases_eq, cases_Bool, cond_both, or_cases, and_parts}
use Rattle.std.proofs.lemmas.Bool.Decides.{nat_tests}
use Rattle.std.proofs.lemmas.List.{length-append, length-map}
use Rattle.std.proofs.lemmas.List.Elements.{All-nil, All-cons, All-head, All-tail}
use Rattle.std.proofs.lemmas.List.Kept.{AllPairs-cons}
use Rattle.std.proofs.lemmas.List.FromFn.{length-range_with_len}
use Rattle.genie_base.specs.Transfers.{is_strong}
use Rattle.genie_model.specs.State.{State, Region, Orphan, Process, Transfer}
use Rattle.genie_model.specs.Tables.{without, entry}
use Rattle.genie_model.specs.Regions.{regions_of, is_region, is_orphan, has_number, is_used, least_unused, fresh}
use Rattle.genie_model.specs.Pending.{is_just, names, names_weakly}
use Rattle.genie_model.specs.Space.{is_named}
use Rattle.genie_orderly.specs.Orderly.{region_numbers, orphan_numbers, numbers, IsOrderly}
use Rattle.genie_model.specs.Lemmas.FreshNumbers.{fresh_begins}

abbrev pub one : Bool → ℕ
one true = 1
one false = 0

-- how often a number stands in a list
abbrev pub times : ℕ → List ℕ → ℕ
times k [] = 0
times k (x ∷ xs) = one (x == k) + times k xs

pub times-append : (k : ℕ) (xs ys : List ℕ) → times k (xs ++ ys) ≡ times k xs + times k ys
times-append k [] ys = omega arith
times-append k (x ∷ xs) ys = omega (arith, times-append k xs ys)

pub once : (k : ℕ) → one (k == k) ≡ 1
once k = ap one (eq-eqb k k refl)

times-without : (k x : ℕ) (ys : List ℕ) → 1 ≤ times x ys → times k (without (λ n. n == x) ys) + one (x == k) ≡ times k ys
times-without k x [] h = absurd (omega arith)
times-without k x (y ∷ ys) h =
    cond_both (y == x) ys (y ∷ without (λ n. n == x) ys) (λ l. times k l + one (x == k) ≡ one (y == k) + times k ys)
    (λ e. rw (eqb-true y x e) (omega arith))
    (λ e. omega (arith, times-without k x ys (omega (arith, h, ap one e))))

length-without : (x : ℕ) (ys : List ℕ) → 1 ≤ times x ys → length (without (λ n. n == x) ys) + 1 ≡ length ys
length-without x [] h = absurd (omega arith)
length-without x (y ∷ ys) h =
    cond_both (y == x) ys (y ∷ without (λ n. n == x) ys) (λ l. length l + 1 ≡ length (y ∷ ys))
    (λ e. omega arith)
    (λ e. omega (arith, length-without x ys (omega (arith, h, ap one e))))

-- a list in which each number stands at most as often as in another is no longer
pub no_longer : (xs ys : List ℕ) → ((k : ℕ) → times k xs ≤ times k ys) → length xs ≤ length ys
no_longer [] ys h = omega arith
no_longer (x ∷ xs) ys h =
    let here : 1 ≤ times x ys = omega (arith, h x, once x) in
    let rest = no_longer xs (without (λ n. n == x) ys) (λ k. omega (arith, h k, times-without k x ys here)) in
    omega (arith, rest, length-without x ys here)

-- numbers from a on, one after the other: each stands there once at most, and no other one does
range_once : (k a n : ℕ) → (times k (range_with_len a n) ≤ 1) × (k < a → times k (range_with_len a n) ≡ 0) × (a + n ≤ k → times k (range_with_len a n) ≡ 0)
range_once k a zero = (omega arith, λ h. refl, λ h. refl)
range_once k a (suc n) =
    let rest = range_once k (a + 1) n in
    ⊎_elim
    (λ (e : (a == k) ≡ true). let same = eqb-true a k e in let once = rest.1 (omega arith) in (omega (arith, once, ap one e), λ h. absurd (omega arith), λ h. absurd (omega arith)))
    (λ (e : (a == k) ≡ false). (omega (arith, rest.0, ap one e), λ h. let none = rest.1 (omega arith) in omega (arith, none, ap one e), λ h. let none = rest.2 (omega arith) in omega (arith, none, ap one e)))
    (cases_Bool (a == k))

range_within : (xs : List ℕ) (a n : ℕ) → ((k : ℕ) → a ≤ k → k < a + n → 1 ≤ times k xs) → (k : ℕ) → times k (range_with_len a n) ≤ times k xs
range_within xs a n h k = let most = range_once k a n in grind (arith, h k, most)

or_some : (a b : ℕ) → nat_lt 0 (a + b) ≡ (nat_lt 0 a || nat_lt 0 b)
or_some a b = grind (arith, nat_tests)

one_some : (b : Bool) → b ≡ nat_lt 0 (one b)
one_some true = refl
one_some false = refl

regions_some : (k : ℕ) (regions : List Region) → list_any (is_region k) regions ≡ nat_lt 0 (times k (map (λ (r : Region). r.number) regions))
regions_some k [] = refl
regions_some k (r ∷ regions) = ap₂ ◌||◌ (one_some (r.number == k)) (regions_some k regions) ∙ sym (or_some (one (r.number == k)) _)

orphans_some : (k : ℕ) (orphans : List Orphan) → list_any (is_orphan k) orphans ≡ nat_lt 0 (times k (orphan_numbers orphans))
orphans_some k [] = refl
orphans_some k (o ∷ orphans) = ap₂ ◌||◌ (one_some (o.number == k)) (orphans_some k orphans) ∙ sym (or_some (one (o.number == k)) _)

processes_some : (k : ℕ) (processes : List (Option Process)) → list_any (has_number k) processes ≡ nat_lt 0 (times k (flat_map region_numbers processes))
processes_some k [] = refl
processes_some k (p ∷ processes) = ap₂ ◌||◌ (regions_some k (regions_of p)) (processes_some k processes) ∙ sym (or_some (times k (region_numbers p)) _) ∙ ap (nat_lt 0) (sym (times-append k (region_numbers p) (flat_map region_numbers processes)))

-- a number is used where it stands among those of the regions and the orphans
pub used_times : (s : State) (k : ℕ) → is_used s k ≡ nat_lt 0 (times k (numbers s))
used_times s k =
    let regions : ℕ = times k (flat_map region_numbers s.processes) in
    let orphans : ℕ = times k (orphan_numbers s.orphans) in
    let all : times k (numbers s) ≡ orphans + regions = omega (arith, times-append k (flat_map region_numbers s.processes) (orphan_numbers s.orphans)) in
    ap₂ ◌||◌ (orphans_some k s.orphans) (processes_some k s.processes) ∙ sym (or_some orphans regions) ∙ ap (nat_lt 0) (sym all)

-- the search ends at a number that isn't used and is one of those that were tried, or all of them are used
tried : (s : State) (tries n : ℕ) → ((is_used s (least_unused s tries n) ≡ false) × (least_unused s tries n < n + tries)) ⊎ ((k : ℕ) → n ≤ k → k < n + tries → is_used s k ≡ true)
unfolding least_unused
tried s zero n = inr (λ k low high. absurd (omega arith))
tried s (suc tries) n =
    cond_both (is_used s n) (least_unused s tries (n + 1)) n (λ m. ((is_used s m ≡ false) × (m < n + suc tries)) ⊎ ((k : ℕ) → n ≤ k → k < n + suc tries → is_used s k ≡ true))
    (λ used. ⊎_elim (λ found. inl (found.0, let low = found.1 in omega (arith, low))) (λ all. inr (λ k low high. ⊎_elim (λ e. subst (λ j. is_used s j ≡ true) e used) (λ other. all k (omega arith) (omega arith)) (cases_eq n k))) (tried s tries (n + 1)))
    (λ free. inl (free, omega arith))

unused : (s : State) (tries : ℕ) → length (numbers s) < tries → (is_used s (least_unused s tries 0) ≡ false) × (least_unused s tries 0 < tries)
unused s tries h = ⊎_elim (λ found. (found.0, let low = found.1 in omega (arith, low))) (λ all. let long = no_longer (range_with_len 0 tries) (numbers s) (range_within (numbers s) 0 tries (λ k low high. ltb-true 0 _ (sym (used_times s k) ∙ all k low high))) in absurd (omega (arith, long, length-range_with_len 0 tries))) (tried s tries 0)

-- one of the 577 numbers is found
pub fresh_unused : (s : State) → length (numbers s) ≤ 576 → is_used s (fresh s) ≡ false
fresh_unused s h = rw (← fresh_begins s 577 refl) (unused s 577 (omega arith)).0

pub fresh_below : (s : State) → length (numbers s) ≤ 576 → fresh s < 577
fresh_below s h = rw (← fresh_begins s 577 refl) (unused s 577 (omega arith)).1

-- processes of at most m regions have so many numbers at most
few_each : (m : ℕ) (processes : List (Option Process)) → All (λ (p : Option Process). length (regions_of p) ≤ m) processes → length (flat_map region_numbers processes) ≤ length processes * m
few_each m [] h = omega arith
few_each m (p ∷ processes) h =
    let rest = few_each m processes (All-tail (λ (p : Option Process). length (regions_of p) ≤ m) p processes h) in
    let first = All-head (λ (p : Option Process). length (regions_of p) ≤ m) p processes h in
    omega (arith, rest, first, length-append (region_numbers p) (flat_map region_numbers processes), length-map (regions_of p) (λ (r : Region). r.number))

-- and m fewer where no process stands at a place
few_beside : (m q : ℕ) (processes : List (Option Process)) → All (λ (p : Option Process). length (regions_of p) ≤ m) processes → q < length processes → entry processes q ≡ None → length (flat_map region_numbers processes) + m ≤ length processes * m
few_beside m q [] h l e = absurd (omega arith)
few_beside m zero (p ∷ processes) h l e = rw e (omega (arith, few_each m processes (All-tail (λ (p : Option Process). length (regions_of p) ≤ m) p processes h)))
few_beside m (suc q) (p ∷ processes) h l e =
    let rest = few_beside m q processes (All-tail (λ (p : Option Process). length (regions_of p) ≤ m) p processes h) (omega arith) e in
    let first = All-head (λ (p : Option Process). length (regions_of p) ≤ m) p processes h in
    omega (arith, rest, first, length-append (region_numbers p) (flat_map region_numbers processes), length-map (regions_of p) (λ (r : Region). r.number))

-- the numbers that transfers name
named : List Transfer → List ℕ
named transfers = flat_map (λ (t : Transfer). option_to_list t.region) transfers

one_each : (o : Option ℕ) → length (option_to_list o) ≤ 1
one_each None = omega arith
one_each (Some n) = omega arith

named_few : (transfers : List Transfer) → length (named transfers) ≤ length transfers
unfolding named
named_few [] = omega arith
named_few (t ∷ transfers) = omega (arith, one_each t.region, named_few transfers, length-append (option_to_list t.region) (named transfers))

just_named : (k : ℕ) (o : Option ℕ) → is_just o k ≡ true → 1 ≤ times k (option_to_list o)
just_named k None e = absurd (cc)
just_named k (Some n) e = omega (arith, ap one e)

named_times : (k : ℕ) (transfers : List Transfer) → list_any (names_weakly k) transfers ≡ true → 1 ≤ times k (named transfers)
unfolding named
named_times k [] e = absurd (cc)
named_times k (t ∷ transfers) e =
    let all = times-append k (option_to_list t.region) (named transfers) in
    ⊎_elim
    (λ (here : names_weakly k t ≡ true). omega (arith, just_named k t.region (and_parts (not (is_strong t.class)) (names k t) here).1, all))
    (λ (later : list_any (names_weakly k) transfers ≡ true). omega (arith, named_times k transfers later, all))
    (or_cases (names_weakly k t) (list_any (names_weakly k) transfers) e)

orphans_named : (k : ℕ) (transfers : List Transfer) (orphans : List Orphan) → All (λ (o : Orphan). IsTrue (is_named transfers o)) orphans → 1 ≤ times k (orphan_numbers orphans) → 1 ≤ times k (named transfers)
orphans_named k transfers [] h l = absurd (omega arith)
orphans_named k transfers (o ∷ orphans) h l =
    ⊎_elim
    (λ (e : (o.number == k) ≡ true). named_times k transfers (subst (λ n. list_any (names_weakly n) transfers ≡ true) (eqb-true o.number k e) (All-head (λ (o : Orphan). IsTrue (is_named transfers o)) o orphans h)))
    (λ (e : (o.number == k) ≡ false). orphans_named k transfers orphans (All-tail (λ (o : Orphan). IsTrue (is_named transfers o)) o orphans h) (omega (arith, l, ap one e)))
    (cases_Bool (o.number == k))

-- numbers that differ stand in a list once at most
none_there : (k : ℕ) (xs : List ℕ) → All (λ (n : ℕ). k ≢ n) xs → times k xs ≡ 0
none_there k [] h = refl
none_there k (x ∷ xs) h = omega (arith, none_there k xs (All-tail (λ (n : ℕ). k ≢ n) x xs h), ap one (ne_eqb x k (λ e. All-head (λ (n : ℕ). k ≢ n) x xs h (sym e))))

pub once_each : (xs : List ℕ) → AllPairs (λ (a b : ℕ). a ≢ b) xs → (k : ℕ) → times k xs ≤ 1
once_each [] h k = omega arith
once_each (x ∷ xs) h k =
    let rest = once_each xs (λ i j d lt within. h (suc i) (suc j) d (omega arith) (omega arith)) k in
    ⊎_elim
    (λ (e : (x == k) ≡ true). let none = none_there x xs (λ j d within. h zero (suc j) d (omega arith) (omega arith)) in subst (λ j. times j (x ∷ xs) ≤ 1) (eqb-true x k e) (omega (arith, none, once x)))
    (λ (e : (x == k) ≡ false). omega (arith, rest, ap one e))
    (cases_Bool (x == k))

pub none_above : (k : ℕ) (xs : List ℕ) → All (λ (n : ℕ). n < 577) xs → 577 ≤ k → times k xs ≡ 0
none_above k xs h high = none_there k xs (λ i d lt same. let low = h i d lt in absurd (omega (arith, low, same)))

-- a list in which no number stands that is 577 or more
pub all_below : (xs : List ℕ) → ((k : ℕ) → 577 ≤ k → times k xs ≡ 0) → All (λ (n : ℕ). n < 577) xs
all_below [] h = All-nil (λ (n : ℕ). n < 577)
all_below (x ∷ xs) h = All-cons (λ (n : ℕ). n < 577) x xs (⊎_elim (λ (e : (x < 577)). e) (λ high. let none = h x high in absurd (omega (arith, none, once x))) (cases_lt x 577)) (all_below xs (λ k high. let none = h k high in omega (arith, none)))

all_other : (k : ℕ) (xs : List ℕ) → times k xs ≡ 0 → All (λ (n : ℕ). k ≢ n) xs
all_other k [] h = All-nil (λ (n : ℕ). k ≢ n)
all_other k (x ∷ xs) h = All-cons (λ (n : ℕ). k ≢ n) x xs (λ e. absurd (omega (arith, h, ap one (eq-eqb x k (sym e))))) (all_other k xs (omega arith))

pub differ_from_once : (xs : List ℕ) → ((k : ℕ) → times k xs ≤ 1) → AllPairs (λ (a b : ℕ). a ≢ b) xs
differ_from_once [] h = λ i j d lt within. absurd (omega arith)
differ_from_once (x ∷ xs) h = AllPairs-cons (λ (a b : ℕ). a ≢ b) x xs (all_other x xs (omega (arith, h x, once x))) (differ_from_once xs (λ k. omega (arith, h k)))

pub few_orphans : (s : State) → IsOrderly s → length (orphan_numbers s.orphans) ≤ 64
few_orphans s o =
    let all = no_longer (orphan_numbers s.orphans) (named s.transfers) (λ k.
    let most = once_each (numbers s) o.numbers k in
    let part = times-append k (flat_map region_numbers s.processes) (orphan_numbers s.orphans) in
    ⊎_elim (λ l. omega (arith, orphans_named k s.transfers s.orphans o.orphans l, most, part)) (λ l. omega (arith, l)) (cases_lt 0 (times k (orphan_numbers s.orphans)))) in
    omega (arith, all, named_few s.transfers, o.transfers.few)

each_few : (s : State) → IsOrderly s → All (λ (p : Option Process). length (regions_of p) ≤ 32) s.processes
each_few s o k d within = (o.regions k d within).few

-- at most 576 regions and orphans
pub few_numbers : (s : State) → IsOrderly s → length (numbers s) ≤ 576
few_numbers s o = omega (arith, few_orphans s o, few_each 32 s.processes (each_few s o), o.places, length-append (flat_map region_numbers s.processes) (orphan_numbers s.orphans))

-- and 32 fewer where a place has no process
pub few_numbers_beside : (s : State) (q : ℕ) → IsOrderly s → q < 16 → entry s.processes q ≡ None → length (numbers s) + 32 ≤ 576
few_numbers_beside s q o l e = omega (arith, few_orphans s o, few_beside 32 q s.processes (each_few s o) (omega (arith, l, o.places)) e, o.places, length-append (flat_map region_numbers s.processes) (orphan_numbers s.orphans))
