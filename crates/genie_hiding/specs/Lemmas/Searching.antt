-- Which entries of hidden regions name a page.
use Rattle.std.proofs.Common.{◌≡◌, ℕ, ◌<◌, ◌≤◌, suc, zero, Bool, true, false, List, [], ◌∷◌, ◌++◌, refl, arith, ap, rules, length, get_or, sym, ◌∙◌, inl, inr, eq-eqb}
use Rattle.std.specs.Prelude.{◌==◌, count_by, sum_by, nat_lt}
use Rattle.std.proofs.Math.ListN.{get_or-map}
use Rattle.std.proofs.lemmas.List.{length-map}
use Rattle.std.proofs.lemmas.List.Sums.{sum_by-cons}
use Rattle.std.proofs.lemmas.Bool.{cases_lt}
use Rattle.std.proofs.lemmas.Bool.Decides.{eqb_tells}
use Rattle.genie_base.specs.Lemmas.Places.{num}
use Rattle.genie_object.specs.declared.objects.Entry.{Entry}
use Rattle.genie_object.specs.Objects.{entry_at, object_at, names, no_entry}
use Rattle.genie_object.specs.Lemmas.Lookup.{count_some}
use Rattle.genie_hiding.specs.declared.hidden.Hidden.{Hidden}
use Rattle.genie_hiding.specs.Hidden.{no_hidden, object_of, objects_of, times_hidden, is_hidden, is_among}

pub sum_none : {X : Type 0} (g : X → ℕ) (d : X) (xs : List X) → ((k : ℕ) → k < length xs → g (get_or xs k d) ≡ 0) → sum_by g xs ≡ 0
sum_none g d [] h = refl
sum_none g d (x ∷ xs) h = let e = h 0 (omega arith) in omega (arith, sum_by-cons g x xs, e, sum_none g d xs (λ k l. h (suc k) (omega arith)))

pub sum_above : {X : Type 0} (g : X → ℕ) (d : X) (xs : List X) (i : ℕ) → i < length xs → g (get_or xs i d) ≤ sum_by g xs
sum_above g d [] i l = absurd (omega arith)
sum_above g d (x ∷ xs) zero l = omega (arith, sum_by-cons g x xs)
sum_above g d (x ∷ xs) (suc n) l = let l' : n < length xs = omega arith in omega (arith, sum_by-cons g x xs, sum_above g d xs n l')

pub sum_same : {X : Type 0} (g h : X → ℕ) (xs : List X) → ((x : X) → g x ≡ h x) → sum_by g xs ≡ sum_by h xs
sum_same g h [] e = refl
sum_same g h (x ∷ xs) e = omega (arith, sum_by-cons g x xs, sum_by-cons h x xs, e x, sum_same g h xs e)

pub count_same : {X : Type 0} (p q : X → Bool) (d : X) (xs ys : List X) → length xs ≡ length ys → ((k : ℕ) → p (get_or xs k d) ≡ q (get_or ys k d)) → count_by p xs ≡ count_by q ys
count_same p q d [] [] e h = refl
count_same p q d [] (y ∷ ys) e h = absurd (omega arith)
count_same p q d (x ∷ xs) [] e h = absurd (omega arith)
count_same p q d (x ∷ xs) (y ∷ ys) e h = let n = ap num (h 0) in omega (arith, n, sum_by-cons (λ z. num (p z)) x xs, sum_by-cons (λ z. num (q z)) y ys, count_same p q d xs ys (omega arith) (λ k. h (suc k)))

pub object_at_hidden : (kept : List Hidden) (k : ℕ) → get_or (objects_of kept) k 0 ≡ object_of (get_or kept k no_hidden)
object_at_hidden kept k = get_or-map object_of kept k no_hidden

pub hidden_length : (kept : List Hidden) → length (objects_of kept) ≡ length kept
hidden_length kept = simp length-map

pub among_found : (hidden : List ℕ) (k : ℕ) → k < length hidden → is_among (get_or hidden k 0) hidden ≡ true
among_found hidden k l = let some = count_some (λ h. h == get_or hidden k 0) 0 hidden k l (eq-eqb (get_or hidden k 0) (get_or hidden k 0) refl) in grind (arith, rules, some)

pub none_hidden : (objects : List (List Entry)) (hidden : List ℕ) (p : ℕ) → ((k : ℕ) → k < length hidden → count_by (names p) (object_at objects (get_or hidden k 0)) ≡ 0) → is_hidden objects hidden p ≡ false
none_hidden objects hidden p h = ap (nat_lt 0) (sum_none (λ o. count_by (names p) (object_at objects o)) 0 hidden h)

-- where an object is in a list
pub record IsAmong (o : ℕ) (hidden : List ℕ) : Type 0 where
  pub place : ℕ
  pub there : place < length hidden
  pub is : get_or hidden place 0 ≡ o

pub among : (o : ℕ) (hidden : List ℕ) → is_among o hidden ≡ true → IsAmong o hidden
among o [] e = cc
among o (h ∷ hidden) e = elim (eqb_tells h o) [
  | inl s ↦ record { place = 0; there = omega arith; is = s.1 }
  | inr n ↦ let rest : is_among o hidden ≡ true = (let c : count_by (λ g. g == o) (h ∷ hidden) ≡ count_by (λ g. g == o) hidden = omega (arith, sum_by-cons (λ g. num (g == o)) h hidden, ap num n.0) in ap (nat_lt 0) (sym c) ∙ e) in
      let z = among o hidden rest in record { place = suc z.place; there = omega (arith, z.there); is = z.is }
]

-- a page that a hidden region's entry names is hidden
pub named_hidden : (objects : List (List Entry)) (hidden : List ℕ) (o i p : ℕ) → is_among o hidden ≡ true → names p (entry_at objects o i) ≡ true → i < length (object_at objects o) → is_hidden objects hidden p ≡ true
named_hidden objects hidden o i p e n l =
    let z = among o hidden e in
    let some : 0 < count_by (names p) (object_at objects o) = count_some (names p) no_entry (object_at objects o) i l n in
    let above = sum_above (λ h. count_by (names p) (object_at objects h)) 0 hidden z.place z.there in
    let same = ap (λ h. count_by (names p) (object_at objects h)) z.is in
    let all : 0 < times_hidden objects hidden p = omega (arith, some, above, same) in grind (arith, rules, all)

pub objects_pushed : (kept : List Hidden) (h : Hidden) → objects_of (kept ++ h ∷ []) ≡ objects_of kept ++ object_of h ∷ []
objects_pushed [] h = refl
objects_pushed (k ∷ kept) h = ap (λ xs. object_of k ∷ xs) (objects_pushed kept h)

pub record Passes {X : Type 0} (q : X → Bool) (d : X) (xs : List X) : Type 0 where
  pub at : ℕ
  pub there : at < length xs
  pub passes : q (get_or xs at d) ≡ true

pub count_found : {X : Type 0} (q : X → Bool) (d : X) (xs : List X) → 0 < count_by q xs → Passes q d xs
count_found q d [] l = absurd (omega arith)
count_found q d (x ∷ xs) l = elim (q x) as (λ b. q x ≡ b → Passes q d (x ∷ xs)) [
  | true ↦ λ e. record { at = 0; there = omega arith; passes = e }
  | false ↦ λ e. let rest : 0 < count_by q xs = omega (arith, l, sum_by-cons (λ y. num (q y)) x xs, ap num e) in let z = count_found q d xs rest in record { at = suc z.at; there = omega (arith, z.there); passes = z.passes }
] refl

-- an entry of a hidden region that names the page
pub record IsHiddenBy (objects : List (List Entry)) (hidden : List ℕ) (p : ℕ) : Type 0 where
  pub place : ℕ
  pub there : place < length hidden
  pub index : ℕ
  pub within : index < length (object_at objects (get_or hidden place 0))
  pub named : names p (entry_at objects (get_or hidden place 0) index) ≡ true

times_by : (objects : List (List Entry)) (hidden : List ℕ) (p : ℕ) → 0 < times_hidden objects hidden p → IsHiddenBy objects hidden p
times_by objects [] p l = absurd (omega arith)
times_by objects (o ∷ hidden) p l = elim (cases_lt 0 (count_by (names p) (object_at objects o))) [
  | inl h ↦ let z = count_found (names p) no_entry (object_at objects o) h in record { place = 0; there = omega arith; index = z.at; within = z.there; named = z.passes }
  | inr h ↦
      let rest : 0 < times_hidden objects hidden p = omega (arith, l, h, sum_by-cons (λ o. count_by (names p) (object_at objects o)) o hidden) in
      let z = times_by objects hidden p rest in record { place = suc z.place; there = omega (arith, z.there); index = z.index; within = z.within; named = z.named }
]

some_of : (n : ℕ) → nat_lt 0 n ≡ true → 0 < n
some_of n e = grind (arith, rules, e)

pub hidden_by : (objects : List (List Entry)) (hidden : List ℕ) (p : ℕ) → is_hidden objects hidden p ≡ true → IsHiddenBy objects hidden p
hidden_by objects hidden p e = times_by objects hidden p (some_of (times_hidden objects hidden p) e)
