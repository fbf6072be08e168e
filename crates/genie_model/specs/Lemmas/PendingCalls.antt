-- What a step leaves of the pending transfers: some end, and the others keep number, cost and the places they cover.
use Rattle.std.proofs.Common.{◌≡◌, ℕ, zero, suc, ◌<◌, ◌≤◌, Bool, true, false, ◌==◌, ⊎_elim, List, [], ◌∷◌, length, find, refl, ap, subst, ◌∙◌, eqb-true, arith, ◌+◌}
use Rattle.std.specs.Prelude.{Some, cond, if◌then◌else◌, filter, map, sum_by, All, AllPairs}
use Rattle.std.proofs.lemmas.Bool.{cases_Bool, cond_both}
use Rattle.std.proofs.lemmas.Bool.Decides.{nat_tests}
use Rattle.std.proofs.lemmas.List.Elements.{All-cons, All-head, All-tail}
use Rattle.std.proofs.lemmas.List.Kept.{AllPairs-cons}
use Rattle.std.proofs.lemmas.List.Sums.{sum_by-cons}
use Rattle.genie_model.specs.State.{Transfer}
use Rattle.genie_model.specs.Pending.{cost_of, is_numbered, covers}
use Rattle.genie_model.specs.Tables.{change, without}
use Rattle.genie_model.specs.Sending.{unsent, after_sending}
use Rattle.genie_model.specs.declared.phase.Phase.TheVariants.{Ready}
use Rattle.genie_model.specs.Lemmas.Lists.{find_has, pairs_head, pairs_tail}

-- u is what became of t
pub record Same (t u : Transfer) : Type 0 where
  pub number : u.number ≡ t.number
  pub cost : (page : ℕ) → cost_of page u ≡ cost_of page t
  pub covered : (k x : ℕ) → covers k x u ≡ covers k x t

pub data Remain : List Transfer → List Transfer → Type 0 where
  none : Remain [] []
  ends : {t : Transfer} {ts us : List Transfer} → Remain ts us → Remain (t ∷ ts) us
  stays : {t u : Transfer} {ts us : List Transfer} → Same t u → Remain ts us → Remain (t ∷ ts) (u ∷ us)

pub same : (t : Transfer) → Same t t
same t = record { number = refl; cost = λ page. refl; covered = λ k x. refl }

pub same_choice : (t : Transfer) (b : Bool) (x y : Transfer) → Same t x → Same t y → Same t (if b then x else y)
same_choice t true x y p q = p
same_choice t false x y p q = q

pub remain : (ts : List Transfer) → Remain ts ts
remain [] = none
remain (t ∷ ts) = stays (same t) (remain ts)

-- all that it changes of a transfer is what has become of its bytes
abbrev pub KeepsCall : (Transfer → Transfer) → Type 0
KeepsCall f = (t : Transfer) → f t ≡ record t { phase = (f t).phase; payload = (f t).payload; staged = (f t).staged; moved = (f t).moved; stored = (f t).stored; note = (f t).note }

pub sending_call : (k : ℕ) → KeepsCall (after_sending k)
sending_call k t = cond_both (k == unsent t) (record t { moved = t.moved + k; phase = Ready; payload = [] }) (record t { moved = t.moved + k })
    (λ (u : Transfer). u ≡ record t { phase = u.phase; payload = u.payload; staged = u.staged; moved = u.moved; stored = u.stored; note = u.note }) (λ _. refl) (λ _. refl)

alike : {t u : Transfer} → u ≡ record t { phase = u.phase; payload = u.payload; staged = u.staged; moved = u.moved; stored = u.stored; note = u.note } → Same t u
alike e = record { number = ap (λ (x : Transfer). x.number) e; cost = λ page. ap (cost_of page) e; covered = λ k x. ap (covers k x) e }

pub same_later : {t u v : Transfer} → Same t u → Same u v → Same t v
same_later s r = record { number = r.number ∙ s.number; cost = λ page. r.cost page ∙ s.cost page; covered = λ k x. r.covered k x ∙ s.covered k x }

pub remain_later : {ts us vs : List Transfer} → Remain ts us → Remain us vs → Remain ts vs
remain_later none q = q
remain_later (ends p) q = ends (remain_later p q)
remain_later (stays s p) (ends q) = ends (remain_later p q)
remain_later (stays s p) (stays r q) = stays (same_later s r) (remain_later p q)

module _ (p : Transfer → Bool) where
  pub change_remain : (f : Transfer → Transfer) → KeepsCall f → (ts : List Transfer) → Remain ts (change p f ts)
  change_remain f h [] = none
  change_remain f h (t ∷ ts) = elim (p t) as (λ b. Remain (t ∷ ts) (cond b (f t ∷ ts) (t ∷ change p f ts))) [ true ↦ stays (alike (h t)) (remain ts) | false ↦ stays (same t) (change_remain f h ts) ]

  pub without_remain : (ts : List Transfer) → Remain ts (without p ts)
  without_remain [] = none
  without_remain (t ∷ ts) = elim (p t) as (λ b. Remain (t ∷ ts) (cond b ts (t ∷ without p ts))) [ true ↦ ends (remain ts) | false ↦ stays (same t) (without_remain ts) ]

  pub filter_remain : (ts : List Transfer) → Remain ts (filter p ts)
  filter_remain [] = none
  filter_remain (t ∷ ts) = elim (p t) as (λ b. Remain (t ∷ ts) (cond b (t ∷ filter p ts) (filter p ts))) [ true ↦ stays (same t) (filter_remain ts) | false ↦ ends (filter_remain ts) ]

pub map_remain : (f : Transfer → Transfer) → ((t : Transfer) → Same t (f t)) → (ts : List Transfer) → Remain ts (map f ts)
map_remain f h [] = none
map_remain f h (t ∷ ts) = stays (h t) (map_remain f h ts)

pub remain_few : {ts us : List Transfer} → Remain ts us → length us ≤ length ts
remain_few none = omega arith
remain_few (ends p) = let q = remain_few p in omega (arith, q)
remain_few (stays s p) = let q = remain_few p in omega (arith, q)

-- what the numbers have in common
pub remain_all : (P : ℕ → Type 0) {ts us : List Transfer} → Remain ts us → All (λ (t : Transfer). P t.number) ts → All (λ (t : Transfer). P t.number) us
remain_all P none h = h
remain_all P (ends {t} {ts} p) h = remain_all P p (All-tail (λ (t : Transfer). P t.number) t ts h)
remain_all P (stays {t} {u} {ts} {us} s p) h =
    let Q : Transfer → Type 0 = λ (t : Transfer). P t.number in
    let first : P u.number = rw (s.number) (All-head Q t ts h) in
    All-cons Q u us first (remain_all P p (All-tail Q t ts h))

-- their order
pub remain_order : {ts us : List Transfer} → Remain ts us → AllPairs (λ (t u : Transfer). t.number < u.number) ts → AllPairs (λ (t u : Transfer). t.number < u.number) us
remain_order none h = h
remain_order (ends p) h = remain_order p (λ i j d lt within. h (suc i) (suc j) d (omega arith) (omega arith))
remain_order (stays {t} {u} {ts} {us} s p) h =
    let above : All (λ (v : Transfer). t.number < v.number) ts = λ k d within. h zero (suc k) d (omega arith) (omega arith) in
    let first : All (λ (v : Transfer). u.number < v.number) us = rw (s.number) (remain_all (λ n. t.number < n) p above) in
    AllPairs-cons (λ (a b : Transfer). a.number < b.number) u us first (remain_order p (λ i j d lt within. h (suc i) (suc j) d (omega arith) (omega arith)))

-- their costs
pub remain_cost : (page : ℕ) {ts us : List Transfer} → Remain ts us → sum_by (cost_of page) us ≤ sum_by (cost_of page) ts
remain_cost page none = omega arith
remain_cost page (ends {t} {ts} p) = let q = remain_cost page p in omega (arith, q, sum_by-cons (cost_of page) t ts)
remain_cost page (stays {t} {u} {ts} {us} s p) = let q = remain_cost page p in let c = s.cost page in omega (arith, q, c, sum_by-cons (cost_of page) t ts, sum_by-cons (cost_of page) u us)

-- what a number finds later it found before
pub remain_found : (n : ℕ) {ts us : List Transfer} → Remain ts us → AllPairs (λ (t u : Transfer). t.number < u.number) ts → (v : Transfer) → find (is_numbered n) us ≡ Some v → (t : Transfer) × (find (is_numbered n) ts ≡ Some t) × Same t v
remain_found n none order v e = absurd (cc)
remain_found n (ends {t} {ts} p) order v e =
    let was = remain_found n p (pairs_tail (λ (a b : Transfer). a.number < b.number) t ts order) v e in
    let has = find_has (is_numbered n) ts was.0 was.1 in
    let above = pairs_head (λ (a b : Transfer). a.number < b.number) t ts order was.0 has.0 in
    let other : (t.number == n) ≡ false = grind (arith, nat_tests, above, eqb-true was.0.number n has.1) in
    (was.0, rw other was.1, was.2)
remain_found n (stays {t} {u} {ts} {us} s p) order v e = ⊎_elim
    (λ (here : (t.number == n) ≡ true). let now : (u.number == n) ≡ true = rw (s.number) here in let is : Some u ≡ Some v = rw now at e in let same : u ≡ v = cc in (t, rw here refl, subst (Same t) same s))
    (λ (other : (t.number == n) ≡ false).
    let now : (u.number == n) ≡ false = rw (s.number) other in
    let was = remain_found n p (pairs_tail (λ (a b : Transfer). a.number < b.number) t ts order) v (rw now at e) in
    (was.0, rw other was.1, was.2))
    (cases_Bool (t.number == n))
