-- The transfers of a process, without their owner one after the other.
use Rattle.std.proofs.Common.{◌≡◌, ◌≢◌, ℕ, ◌+◌, ◌<◌, ◌≤◌, zero, suc, true, false, cond, List, [], ◌∷◌, refl, sym, ap, ap₂, arith, rules, ◌∙◌, ⊎_elim, map, find, length, length-set, get_or, get_or-set_same, get_or-set_other, set, eq-eqb}
use Rattle.std.specs.Prelude.{Some, AllPairs, if◌then◌else◌}
use Rattle.std.proofs.lemmas.Bool.{cases_eq, cases_lt}
use Rattle.genie_model.specs.Lemmas.Lists.{has_at, pairs_head, pairs_tail}
use Rattle.genie_model.specs.Pending.{is_just}
use Rattle.genie_model.specs.Tables.{change}
use Rattle.genie_kernel.specs.declared.transfer.Change.TheVariants.{Ownerless}
use Rattle.genie_kernel.specs.declared.transfer.Transfer.{Transfer}
use Rattle.genie_kernel.specs.Calls.{has_number}
use Rattle.genie_kernel.specs.Changes.{changed_by}
use Rattle.genie_changes.specs.Gone.{disowned, left_named}
use Rattle.genie_spaces.proofs.Exiting.{found_transfer}

abbrev pub Rising : List Transfer → Type 0
Rising ts = AllPairs (λ (x y : Transfer). x.id.0 < y.id.0) ts

-- the transfer at a place is the one that its number finds
pub found_at : (ts : List Transfer) (i : ℕ) (d : Transfer) → Rising ts → i < length ts → find (has_number (get_or ts i d).id.0) ts ≡ Some (get_or ts i d)
found_at ts i d rising l = found_transfer (get_or ts i d) ts rising (has_at ts i d l)

number_fails : (x y : Transfer) → x.id.0 < y.id.0 → has_number y.id.0 x ≡ false
number_fails x y less = grind (arith, rules, less)

change_at : (f : Transfer → Transfer) (ts : List Transfer) (i : ℕ) (d : Transfer) → Rising ts → i < length ts → change (has_number (get_or ts i d).id.0) f ts ≡ set ts i (f (get_or ts i d))
change_at f [] i d rising l = absurd (omega (arith, l))
change_at f (x ∷ ts) zero d rising l = ap (λ b. cond b (f x ∷ ts) (x ∷ change (has_number x.id.0) f ts)) (eq-eqb x.id.0 x.id.0 refl)
change_at f (x ∷ ts) (suc i) d rising l =
    let y : Transfer = get_or ts i d in
    let less = pairs_head (λ (a b : Transfer). a.id.0 < b.id.0) x ts rising y (has_at ts i d (omega (arith, l))) in
    ap (λ b. cond b (f x ∷ ts) (x ∷ change (has_number y.id.0) f ts)) (number_fails x y less) ∙ ap (λ us. x ∷ us) (change_at f ts i d (pairs_tail (λ (a b : Transfer). a.id.0 < b.id.0) x ts rising) (omega (arith, l)))

-- one of them
pub disowned_at : (p i : ℕ) (ts : List Transfer) (t d : Transfer) → Rising ts → i < length ts → get_or ts i d ≡ t → is_just t.owner p ≡ true → set ts i (disowned p (get_or ts i d)) ≡ change (has_number t.id.0) (changed_by (Ownerless (left_named t))) ts
disowned_at p i ts t d rising l e owned =
    let f : Transfer → Transfer = changed_by (Ownerless (left_named t)) in
    ap (λ u. set ts i (disowned p u)) e
    ∙ ap (λ b. set ts i (if b then f t else t)) owned
    ∙ ap (λ u. set ts i (f u)) (sym e)
    ∙ sym (change_at f ts i d rising l)
    ∙ ap (λ (u : Transfer). change (has_number u.id.0) f ts) e

pub record Disowns (p i : ℕ) (old now : List Transfer) : Type 0 where
  pub size : length now ≡ length old
  pub before : (j : ℕ) (d : Transfer) → j < i → j < length old → get_or now j d ≡ disowned p (get_or old j d)
  pub behind : (j : ℕ) (d : Transfer) → i ≤ j → get_or now j d ≡ get_or old j d

pub disowns_none : (p : ℕ) (ts : List Transfer) → Disowns p 0 ts ts
disowns_none p ts = record { size = refl; before = λ j d l m. absurd (omega (arith, l)); behind = λ j d l. refl }

pub disowns_more : (p i : ℕ) (old now new : List Transfer) (e : Transfer) → i < length old → ((d : Transfer) → set now i (disowned p (get_or now i d)) ≡ new) → Disowns p i old now → Disowns p (i + 1) old new
disowns_more p i old now new e l is h = record {
  size = ap length (sym (is e)) ∙ length-set now i (disowned p (get_or now i e)) ∙ h.size;
  before = λ j d lj m. ⊎_elim
      (λ (same : j ≡ i).
      ap (λ us. get_or us j d) (sym (is d)) ∙ ap (λ n. get_or (set now i (disowned p (get_or now i d))) n d) same ∙ get_or-set_same now i (disowned p (get_or now i d)) d (let s = h.size in omega (arith, s, l)) ∙ ap (disowned p) (h.behind i d (omega arith)) ∙ ap (λ n. disowned p (get_or old n d)) (sym same))
      (λ (other : j ≢ i). ap (λ us. get_or us j d) (sym (is d)) ∙ get_or-set_other now i j (disowned p (get_or now i d)) d other ∙ h.before j d (omega (arith, lj, other)) m)
      (cases_eq j i);
  behind = λ j d lj. ap (λ us. get_or us j d) (sym (is d)) ∙ get_or-set_other now i j (disowned p (get_or now i d)) d (λ same. absurd (omega (arith, lj, same))) ∙ h.behind j d (omega (arith, lj));
}

same_number : (p : ℕ) (t : Transfer) → (disowned p t).id.0 ≡ t.id.0
same_number p t = elim (is_just t.owner p) as (λ b. (if b then changed_by (Ownerless (left_named t)) t else t).id.0 ≡ t.id.0) [ true ↦ refl | false ↦ refl ]

number_still : (p i : ℕ) (old now : List Transfer) → Disowns p i old now → (j : ℕ) (d : Transfer) → j < length old → (get_or now j d).id.0 ≡ (get_or old j d).id.0
number_still p i old now h j d l = ⊎_elim
    (λ (low : j < i). ap (λ (t : Transfer). t.id.0) (h.before j d low l) ∙ same_number p (get_or old j d))
    (λ (high : i ≤ j). ap (λ (t : Transfer). t.id.0) (h.behind j d high))
    (cases_lt j i)

pub disowns_rising : (p i : ℕ) (old now : List Transfer) → Rising old → Disowns p i old now → Rising now
disowns_rising p i old now rising h a b d l m =
    let size = h.size in
    let less = rising a b d l (omega (arith, m, size)) in
    let x = number_still p i old now h a d (omega (arith, l, m, size)) in
    let y = number_still p i old now h b d (omega (arith, m, size)) in
    omega (arith, less, x, y)

mapped_at : (p : ℕ) (ts : List Transfer) (j : ℕ) (d : Transfer) → j < length ts → get_or (map (disowned p) ts) j d ≡ disowned p (get_or ts j d)
mapped_at p [] j d l = absurd (omega (arith, l))
mapped_at p (t ∷ ts) zero d l = refl
mapped_at p (t ∷ ts) (suc j) d l = mapped_at p ts j d (omega (arith, l))

same_lists : (us ts : List Transfer) → length us ≡ length ts → ((j : ℕ) (d : Transfer) → j < length ts → get_or us j d ≡ get_or ts j d) → us ≡ ts
same_lists [] [] e h = refl
same_lists [] (t ∷ ts) e h = absurd (omega (arith, e))
same_lists (u ∷ us) [] e h = absurd (omega (arith, e))
same_lists (u ∷ us) (t ∷ ts) e h = ap₂ ◌∷◌ (h 0 t (omega arith)) (same_lists us ts (omega (arith, e)) (λ j d l. h (suc j) d (omega (arith, l))))

mapped_length : (p : ℕ) (ts : List Transfer) → length (map (disowned p) ts) ≡ length ts
mapped_length p [] = refl
mapped_length p (t ∷ ts) = ap (λ n. suc n) (mapped_length p ts)

pub disowns_all : (p i : ℕ) (old now : List Transfer) → length old ≤ i → Disowns p i old now → now ≡ map (disowned p) old
disowns_all p i old now past h = same_lists now (map (disowned p) old) (h.size ∙ sym (mapped_length p old)) (λ j d l.
    let below : j < length old = (let long = mapped_length p old in omega (arith, l, long)) in
    h.before j d (omega (arith, below, past)) below ∙ sym (mapped_at p old j d below))
