-- The state at the end of a process is the same, whatever has ended of it before.
use Rattle.std.proofs.Common.{◌≡◌, ◌≢◌, ℕ, ◌<◌, ◌≤◌, zero, suc, Bool, true, false, not, cond, List, [], ◌∷◌, refl, sym, ap, ap₂, arith, rules, ◌∙◌, ⊎_elim, map, filter, find, get_or, set, ltb-true, ltb-false}
use Rattle.std.specs.Prelude.{Option, Some, None, All, AllPairs, nat_lt, nat_le, ◌&&◌, ◌||◌, if◌then◌else◌, ◌+◌}
use Rattle.std.specs.List.{list_any}
use Rattle.std.proofs.lemmas.Bool.{cases_Bool, cond_both}
use Rattle.std.proofs.lemmas.List.Elements.{All-cons, All-head, All-tail, All-filter}
use Rattle.std.proofs.lemmas.List.Kept.{AllPairs-cons, AllPairs-filter}
use Rattle.genie_base.specs.Lemmas.Searches.{pairs_mapped}
use Rattle.genie_base.specs.Transfers.{is_strong}
use Rattle.genie_base.specs.declared.semantics.Class.{Class}
use Rattle.genie_base.specs.declared.semantics.Class.TheVariants.{Copy, Share, Move, WeakMove}
use Rattle.genie_model.specs.Ending.{without_transfer}
use Rattle.genie_model.specs.Lemmas.Lists.{entry_map, pairs_tail}
use Rattle.genie_model.specs.Pending.{covers, is_just, is_numbered, names_weakly}
use Rattle.genie_model.specs.Regions.{change_process, is_region, regions_at, regions_of}
use Rattle.genie_model.specs.Space.{add_orphan, add_orphans, as_orphan, cut, disowned, is_move, is_named, is_posted_by, remove, tidy, without_region}
use Rattle.genie_model.specs.State.{Orphan, Process, Region, State, Transfer}
use Rattle.genie_model.specs.Tables.{entry, put_in, without}
use Rattle.genie_spaces.specs.Exiting.{ended}

-- orphans in the order of their numbers, of which some may be the same
abbrev pub Low : Orphan → Orphan → Type 0
Low o q = o.number ≤ q.number

abbrev number_of : Orphan → ℕ
number_of o = o.number

-- what pending weak transfers name and cover of orphans
abbrev tidied : List Transfer → List Orphan → List Orphan
tidied ts os = map (cut ts) (filter (is_named ts) os)

put_first : (o : Orphan) (os : List Orphan) → All (λ (q : Orphan). o.number < q.number) os → put_in number_of o os ≡ o ∷ os
put_first o [] a = refl
put_first o (q ∷ os) a = let less : o.number < q.number = a 0 q (omega arith) in let is : nat_lt o.number q.number ≡ true = grind (arith, rules, less) in ap (λ b. cond b (o ∷ q ∷ os) (q ∷ put_in number_of o os)) is

all_above : (o q : Orphan) (os : List Orphan) → o.number < q.number → AllPairs Low (q ∷ os) → All (λ (x : Orphan). o.number < x.number) (q ∷ os)
all_above o q os less low = All-cons (λ (x : Orphan). o.number < x.number) q os less (λ k d l. let above : q.number ≤ (get_or os k d).number = low zero (suc k) d (omega arith) (omega (arith, l)) in omega (arith, less, above))

filter_put : (p : Orphan → Bool) (o : Orphan) (os : List Orphan) → AllPairs Low os → filter p (put_in number_of o os) ≡ cond (p o) (put_in number_of o (filter p os)) (filter p os)
filter_put p o [] low = elim (p o) as (λ b. cond b (o ∷ []) [] ≡ cond b (o ∷ []) []) [ true ↦ refl | false ↦ refl ]
filter_put p o (q ∷ os) low = elim (nat_lt o.number q.number) as (λ b. nat_lt o.number q.number ≡ b → filter p (cond b (o ∷ q ∷ os) (q ∷ put_in number_of o os)) ≡ cond (p o) (put_in number_of o (filter p (q ∷ os))) (filter p (q ∷ os))) [
  | true ↦ λ e. ap (λ l. cond (p o) l (filter p (q ∷ os))) (sym (put_first o (filter p (q ∷ os)) (All-filter p (λ (x : Orphan). o.number < x.number) (q ∷ os) (all_above o q os (ltb-true o.number q.number e) low))))
  | false ↦ λ e.
      let rest = filter_put p o os (pairs_tail Low q os low) in
      ap (λ l. cond (p q) (q ∷ l) l) rest
      ∙ (elim (p q) as (λ c. cond c (q ∷ cond (p o) (put_in number_of o (filter p os)) (filter p os)) (cond (p o) (put_in number_of o (filter p os)) (filter p os)) ≡ cond (p o) (put_in number_of o (cond c (q ∷ filter p os) (filter p os))) (cond c (q ∷ filter p os) (filter p os))) [
        | true ↦ (elim (p o) as (λ c. q ∷ cond c (put_in number_of o (filter p os)) (filter p os) ≡ cond c (put_in number_of o (q ∷ filter p os)) (q ∷ filter p os)) [
          | true ↦ sym (ap (λ b. cond b (o ∷ q ∷ filter p os) (q ∷ put_in number_of o (filter p os))) e)
          | false ↦ refl
        ])
        | false ↦ refl
      ])
] refl

map_put : (ts : List Transfer) (o : Orphan) (os : List Orphan) → map (cut ts) (put_in number_of o os) ≡ put_in number_of (cut ts o) (map (cut ts) os)
map_put ts o [] = refl
map_put ts o (q ∷ os) = elim (nat_lt o.number q.number) as (λ b. map (cut ts) (cond b (o ∷ q ∷ os) (q ∷ put_in number_of o os)) ≡ cond b (cut ts o ∷ cut ts q ∷ map (cut ts) os) (cut ts q ∷ put_in number_of (cut ts o) (map (cut ts) os))) [
  | true ↦ refl
  | false ↦ ap (λ l. cut ts q ∷ l) (map_put ts o os)
]

-- an orphan more
tidied_put : (ts : List Transfer) (o : Orphan) (os : List Orphan) → AllPairs Low os → tidied ts (put_in number_of o os) ≡ cond (is_named ts o) (put_in number_of (cut ts o) (tidied ts os)) (tidied ts os)
tidied_put ts o os low = ap (map (cut ts)) (filter_put (is_named ts) o os low) ∙ (elim (is_named ts o) as (λ b. map (cut ts) (cond b (put_in number_of o (filter (is_named ts) os)) (filter (is_named ts) os)) ≡ cond b (put_in number_of (cut ts o) (tidied ts os)) (tidied ts os)) [
  | true ↦ map_put ts o (filter (is_named ts) os)
  | false ↦ refl
])

all_put_in : (P : Orphan → Type 0) (o : Orphan) (os : List Orphan) → P o → All P os → All P (put_in number_of o os)
all_put_in P o [] h a = All-cons P o [] h a
all_put_in P o (q ∷ os) h a = cond_both (nat_lt o.number q.number) (o ∷ q ∷ os) (q ∷ put_in number_of o os) (All P)
    (λ t. All-cons P o (q ∷ os) h a) (λ t. All-cons P q (put_in number_of o os) (All-head P q os a) (all_put_in P o os h (All-tail P q os a)))

low_put : (o : Orphan) (os : List Orphan) → AllPairs Low os → AllPairs Low (put_in number_of o os)
low_put o [] low = λ i j d l m. absurd (omega (arith, l, m))
low_put o (q ∷ os) low =
    let above : All (Low q) os = λ k d l. low zero (suc k) d (omega arith) (omega (arith, l)) in
    cond_both (nat_lt o.number q.number) (o ∷ q ∷ os) (q ∷ put_in number_of o os) (AllPairs Low)
    (λ t. let below = ltb-true o.number q.number t in AllPairs-cons Low o (q ∷ os) (All-cons (Low o) q os (omega (arith, below)) (λ k d l. let most = above k d l in omega (arith, below, most))) low)
    (λ t. let below = ltb-false o.number q.number t in AllPairs-cons Low q (put_in number_of o os) (all_put_in (Low q) o os (omega (arith, below)) above) (low_put o os (pairs_tail Low q os low)))

low_tidied : (ts : List Transfer) (os : List Orphan) → AllPairs Low os → AllPairs Low (tidied ts os)
low_tidied ts os low = pairs_mapped Low (cut ts) (λ o q l. l) (filter (is_named ts) os) (AllPairs-filter Low (is_named ts) os low)

-- where as much is left of two lists, as much is left of both with regions more
tidied_orphans : (ts : List Transfer) (rs : List Region) (os us : List Orphan) → AllPairs Low os → AllPairs Low us → tidied ts os ≡ tidied ts us → tidied ts (add_orphans rs os) ≡ tidied ts (add_orphans rs us)
tidied_orphans ts [] os us low high e = e
tidied_orphans ts (r ∷ rs) os us low high e = tidied_orphans ts rs (add_orphan r os) (add_orphan r us) (low_put (as_orphan r) os low) (low_put (as_orphan r) us high)
    (tidied_put ts (as_orphan r) os low ∙ ap (λ l. cond (is_named ts (as_orphan r)) (put_in number_of (cut ts (as_orphan r)) l) l) e ∙ sym (tidied_put ts (as_orphan r) us high))

filter_twice : {X : Type 0} (p q : X → Bool) → ((x : X) → p x ≡ true → q x ≡ true) → (xs : List X) → filter p (filter q xs) ≡ filter p xs
filter_twice p q h [] = refl
filter_twice p q h (x ∷ xs) = elim (q x) as (λ b. q x ≡ b → filter p (cond b (x ∷ filter q xs) (filter q xs)) ≡ cond (p x) (x ∷ filter p xs) (filter p xs)) [
  | true ↦ λ e. ap (λ l. cond (p x) (x ∷ l) l) (filter_twice p q h xs)
  | false ↦ λ e.
      let fails : p x ≡ false = ⊎_elim (λ (yes_p : p x ≡ true). let bad : true ≡ false = sym (h x yes_p) ∙ e in absurd (cc)) (λ n. n) (cases_Bool (p x)) in
      filter_twice p q h xs ∙ sym (ap (λ b. cond b (x ∷ filter p xs) (filter p xs)) fails)
] refl

-- these transfers name and cover no more than those
pub record CoverLess (ts us : List Transfer) : Type 0 where
  pub names : (k : ℕ) → list_any (names_weakly k) ts ≡ true → list_any (names_weakly k) us ≡ true
  pub covered : (k x : ℕ) → list_any (covers k x) ts ≡ true → list_any (covers k x) us ≡ true

cut_twice : (ts us : List Transfer) (o : Orphan) → CoverLess ts us → cut ts (cut us o) ≡ cut ts o
cut_twice ts us o less = ap (λ l. record o { bytes = l }) (filter_twice (λ (e : ℕ × ℕ). list_any (covers o.number e.0) ts) (λ (e : ℕ × ℕ). list_any (covers o.number e.0) us) (λ e h. less.covered o.number e.0 h) o.bytes)

tidied_twice : (ts us : List Transfer) → CoverLess ts us → (os : List Orphan) → tidied ts (tidied us os) ≡ tidied ts os
tidied_twice ts us less [] = refl
tidied_twice ts us less (o ∷ os) = elim (is_named us o) as (λ b. is_named us o ≡ b → tidied ts (map (cut us) (cond b (o ∷ filter (is_named us) os) (filter (is_named us) os))) ≡ map (cut ts) (cond (is_named ts o) (o ∷ filter (is_named ts) os) (filter (is_named ts) os))) [
  | true ↦ λ e. elim (is_named ts o) as (λ c. map (cut ts) (cond c (cut us o ∷ filter (is_named ts) (tidied us os)) (filter (is_named ts) (tidied us os))) ≡ map (cut ts) (cond c (o ∷ filter (is_named ts) os) (filter (is_named ts) os))) [
    | true ↦ ap₂ ◌∷◌ (cut_twice ts us o less) (tidied_twice ts us less os)
    | false ↦ tidied_twice ts us less os
  ]
  | false ↦ λ e.
      let fails : is_named ts o ≡ false = ⊎_elim (λ (named : is_named ts o ≡ true). let bad : true ≡ false = sym (less.names o.number named) ∙ e in absurd (cc)) (λ n. n) (cases_Bool (is_named ts o)) in
      tidied_twice ts us less os ∙ sym (ap (λ b. map (cut ts) (cond b (o ∷ filter (is_named ts) os) (filter (is_named ts) os))) fails)
] refl

-- a transfer without its owner covers what it covered
weak_names : (c : Class) (r : Option ℕ) (k : ℕ) → (not (is_strong c) && is_just (if is_move c then None else r) k) ≡ (not (is_strong c) && is_just r k)
weak_names Copy r k = refl
weak_names Share r k = refl
weak_names Move r k = refl
weak_names WeakMove r k = refl

names_disowned : (p k : ℕ) (t : Transfer) → names_weakly k (disowned p t) ≡ names_weakly k t
names_disowned p k t = elim (is_just t.owner p) as (λ b. names_weakly k (if b then record t { owner = None; region = if is_move t.class then None else t.region } else t) ≡ names_weakly k t) [ true ↦ weak_names t.class t.region k | false ↦ refl ]

covers_disowned : (p k x : ℕ) (t : Transfer) → covers k x (disowned p t) ≡ covers k x t
covers_disowned p k x t = elim (is_just t.owner p) as (λ b. covers k x (if b then record t { owner = None; region = if is_move t.class then None else t.region } else t) ≡ covers k x t) [ true ↦ ap (λ b. b && nat_le t.offset x && nat_lt x (t.offset + t.len)) (weak_names t.class t.region k) | false ↦ refl ]

any_fewer : {X : Type 0} (q p : X → Bool) (g : X → X) → ((x : X) → q (g x) ≡ q x) → (xs : List X) → list_any q (map g (filter p xs)) ≡ true → list_any q xs ≡ true
any_fewer q p g same [] e = e
any_fewer q p g same (x ∷ xs) e = elim (p x) as (λ b. list_any q (map g (cond b (x ∷ filter p xs) (filter p xs))) ≡ true → (q x || list_any q xs) ≡ true) [
  | true ↦ λ h. elim (q x) as (λ c. q (g x) ≡ c → (c || list_any q xs) ≡ true) [
    | true ↦ λ s. refl
    | false ↦ λ s. any_fewer q p g same xs (sym (ap (λ c. c || list_any q (map g (filter p xs))) s) ∙ h)
  ] (same x)
  | false ↦ λ h. let later = any_fewer q p g same xs h in ap (λ c. q x || c) later ∙ or_true (q x)
] e where
  or_true : (b : Bool) → (b || true) ≡ true
  or_true true = refl
  or_true false = refl

-- the transfers that are left at the end of process p
abbrev left_at_end : ℕ → List Transfer → List Transfer
left_at_end p ts = map (disowned p) (filter (λ t. not (is_posted_by p t)) ts)

left_cover : (p : ℕ) (ts : List Transfer) → CoverLess (left_at_end p ts) ts
left_cover p ts = record {
  names = λ k e. any_fewer (names_weakly k) (λ t. not (is_posted_by p t)) (disowned p) (names_disowned p k) ts e;
  covered = λ k x e. any_fewer (covers k x) (λ t. not (is_posted_by p t)) (disowned p) (covers_disowned p k x) ts e;
}

filter_without : {X : Type 0} (q p : X → Bool) (t : X) (xs : List X) → find p xs ≡ Some t → q t ≡ false → filter q (without p xs) ≡ filter q xs
filter_without q p t [] e f = refl
filter_without q p t (x ∷ xs) e f = elim (p x) as (λ b. cond b (Some x) (find p xs) ≡ Some t → filter q (cond b xs (x ∷ without p xs)) ≡ filter q (x ∷ xs)) [
  | true ↦ λ h. let same : x ≡ t = cc in let fails : q x ≡ false = ap q same ∙ f in sym (ap (λ c. cond c (x ∷ filter q xs) (filter q xs)) fails)
  | false ↦ λ h. ap (λ l. cond (q x) (x ∷ l) l) (filter_without q p t xs h f)
] e

-- a posted input of the process has ended
pub ended_posted : (s : State) (p n : ℕ) (t : Transfer) → AllPairs Low s.orphans → find (is_numbered n) s.transfers ≡ Some t → is_posted_by p t ≡ true → ended p (tidy (without_transfer s n)) ≡ ended p s
ended_posted s p n t low found posted =
    let us : List Transfer = without (is_numbered n) s.transfers in
    let same : left_at_end p us ≡ left_at_end p s.transfers = ap (map (disowned p)) (filter_without (λ x. not (is_posted_by p x)) (is_numbered n) t s.transfers found (ap not posted)) in
    let orphans : tidied (left_at_end p us) (add_orphans (regions_at s p) (tidied us s.orphans)) ≡ tidied (left_at_end p s.transfers) (add_orphans (regions_at s p) s.orphans) = tidied_orphans (left_at_end p us) (regions_at s p) (tidied us s.orphans) s.orphans (low_tidied us s.orphans low) low (tidied_twice (left_at_end p us) us (left_cover p us) s.orphans) ∙ ap (λ l. tidied l (add_orphans (regions_at s p) s.orphans)) same in
    λ i. record (ended p s) { orphans = orphans i; transfers = same i }

fixed_all : (f : Option Process → Option Process) (ps : List (Option Process)) → ((i : ℕ) → f (entry ps i) ≡ entry ps i) → map f ps ≡ ps
fixed_all f [] h = refl
fixed_all f (y ∷ ps) h = ap₂ ◌∷◌ (h 0) (fixed_all f ps (λ i. h (suc i)))

suc_same : (i p : ℕ) → suc i ≡ suc p → i ≡ p
suc_same i p e = omega (arith, e)

fixed_but : (f : Option Process → Option Process) (ps : List (Option Process)) (p : ℕ) → ((i : ℕ) → i ≢ p → f (entry ps i) ≡ entry ps i) → set (map f ps) p None ≡ set ps p None
fixed_but f [] p h = refl
fixed_but f (y ∷ ps) zero h = ap (λ l. None ∷ l) (fixed_all f ps (λ i. h (suc i) (omega arith)))
fixed_but f (y ∷ ps) (suc p) h = ap₂ ◌∷◌ (h 0 (omega arith)) (fixed_but f ps p (λ i ne. h (suc i) (λ e. ne (suc_same i p e))))

regions_left : (n : ℕ) (o : Option Process) → regions_of (change_process (without_region n) o) ≡ filter (λ r. not (is_region n r)) (regions_of o)
regions_left n None = refl
regions_left n (Some q) = refl

none_left : (n : ℕ) (rs : List Region) → list_any (is_region n) rs ≡ false → filter (λ r. not (is_region n r)) rs ≡ rs
none_left n [] e = refl
none_left n (r ∷ rs) e = elim (is_region n r) as (λ b. (b || list_any (is_region n) rs) ≡ false → cond (not b) (r ∷ filter (λ q. not (is_region n q)) rs) (filter (λ q. not (is_region n q)) rs) ≡ r ∷ rs) [
  | true ↦ λ h. absurd (cc)
  | false ↦ λ h. ap (λ l. r ∷ l) (none_left n rs h)
] e

-- the first region of the process is removed
pub ended_removed : (s : State) (p : ℕ) (r : Region) (rest : List Region) → AllPairs Low s.orphans → regions_at s p ≡ r ∷ rest → list_any (is_region r.number) rest ≡ false → ((i : ℕ) → i ≢ p → change_process (without_region r.number) (entry s.processes i) ≡ entry s.processes i) → ended p (tidy (remove s r)) ≡ ended p s
ended_removed s p r rest low here gone others =
    let n : ℕ = r.number in
    let ts : List Transfer = s.transfers in
    let left : List Transfer = left_at_end p ts in
    let own : is_region n r ≡ true = grind (arith, rules) in
    let regions : regions_at (tidy (remove s r)) p ≡ rest =
    ap regions_of (entry_map (change_process (without_region n)) refl s.processes p) ∙ regions_left n (entry s.processes p) ∙ ap (filter (λ q. not (is_region n q))) here
    ∙ ap (λ b. cond (not b) (r ∷ filter (λ q. not (is_region n q)) rest) (filter (λ q. not (is_region n q)) rest)) own ∙ none_left n rest gone in
    let orphans : tidied left (add_orphans (regions_at (tidy (remove s r)) p) (tidied ts (add_orphan r s.orphans))) ≡ tidied left (add_orphans (regions_at s p) s.orphans) =
    ap (λ l. tidied left (add_orphans l (tidied ts (add_orphan r s.orphans)))) regions
    ∙ tidied_orphans left rest (tidied ts (add_orphan r s.orphans)) (add_orphan r s.orphans) (low_tidied ts (add_orphan r s.orphans) (low_put (as_orphan r) s.orphans low)) (low_put (as_orphan r) s.orphans low) (tidied_twice left ts (left_cover p ts) (add_orphan r s.orphans))
    ∙ ap (λ l. tidied left (add_orphans l s.orphans)) (sym here) in
    λ i. record (ended p s) { processes = fixed_but (change_process (without_region n)) s.processes p others i; orphans = orphans i }
