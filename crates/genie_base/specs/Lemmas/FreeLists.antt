-- Laws of a list of free places.
use Rattle.std.proofs.Common.{◌≡◌, ◌≢◌, ℕ, ◌<◌, ◌≤◌, ◌+◌, suc, zero, Bool, true, false, List, [], ◌∷◌, ◌++◌, refl, arith, ap, length, set, get_or, sym, ◌∙◌, inl, inr, length-append, subst}
use Rattle.std.specs.Prelude.{◌==◌, count_by, if◌then◌else◌, replicate}
use Rattle.std.specs.List.{range_with_len}
use Rattle.std.proofs.lemmas.List.{length-replicate, get_or-replicate}
use Rattle.std.proofs.lemmas.List.Folds.{sum_by-replicate}
use Rattle.std.proofs.lemmas.Bool.Decides.{eqb_tells}
use Rattle.std.proofs.lemmas.Bool.{cases_lt}
use Rattle.genie_base.specs.FreeLists.{IsFreeList}
use Rattle.genie_base.specs.Lemmas.Places.{same_or, set_at, past_end, num, count_by-set, count_by-push, count_by-below}

num_one : (b : Bool) → 1 ≤ num b → b ≡ true
num_one true h = refl
num_one false h = absurd (omega arith)

self_at : (f : ℕ) → (f == f) ≡ true
self_at f = elim (eqb_tells f f) [ inl h ↦ h.0 | inr h ↦ absurd (h.1 refl) ]

other_at : (f g : ℕ) → g ≢ f → (f == g) ≡ false
other_at f g n = elim (eqb_tells f g) [ inl h ↦ absurd (n (sym (h.1))) | inr h ↦ h.0 ]

in_range : {X : Type 0} (is_free : X → Bool) (past : X) (none : is_free past ≡ false) (items : List X) (f : ℕ) → is_free (get_or items f past) ≡ true → f < length items
in_range is_free past none items f e = elim (cases_lt f (length items)) [
  | inl l ↦ l
  | inr l ↦ let bad : false ≡ true = sym (ap is_free (past_end items f past l) ∙ none) ∙ e in cc
]

-- what the list says of its last place f
module _ {X : Type 0} (is_free : X → Bool) (past : X) (none : is_free past ≡ false) (items : List X) (rest : List ℕ) (f : ℕ) (list : IsFreeList is_free past items (rest ++ f ∷ [])) where
  counted : count_by (λ g. g == f) rest + 1 ≡ num (is_free (get_or items f past))
  counted = let e = count_by-push (λ (g : ℕ). g == f) rest f in let s = ap num (self_at f) in omega (arith, e, s, list.listed f)

  pub last_free : is_free (get_or items f past) ≡ true
  last_free = num_one _ (omega (arith, counted))

  pub last_there : f < length items
  last_there = in_range is_free past none items f last_free

  none_left : count_by (λ g. g == f) rest ≡ 0
  none_left = omega (arith, counted, ap num last_free)

  pub popped : (o : X) → is_free o ≡ false → IsFreeList is_free past (set items f o) rest
  popped o new = record {
    listed = λ g. elim (set_at items f g o past last_there) [
      | inl s ↦ ap (λ n. count_by (λ h. h == n) rest) s.0 ∙ none_left ∙ sym (ap (λ x. num (is_free x)) s.1 ∙ ap num new)
      | inr s ↦ let v = ap (λ x. num (is_free x)) s.1 in let e = ap num (other_at f g s.0) in omega (arith, count_by-push (λ h. h == g) rest f, e, list.listed g, v)
    ];
    number = let e = ap num last_free in let d = ap num new in omega (arith, count_by-set is_free items f o past last_there, e, d, list.number, length-append rest (f ∷ []));
  }

-- a place that wasn't free gets another item, and is listed where it is free now
module _ {X : Type 0} (is_free : X → Bool) (past : X) (items : List X) (free : List ℕ) (f : ℕ) (o : X) (there : f < length items) (old : is_free (get_or items f past) ≡ false) (list : IsFreeList is_free past items free) where
  was_none : (g : ℕ) → g ≡ f → num (is_free (get_or items g past)) ≡ 0
  was_none g e = ap (λ n. num (is_free (get_or items n past))) e ∙ ap num old

  pub one_spare : length free < length items
  one_spare = omega (arith, count_by-below is_free items f past there old, list.number)

  pub listed_set : (b : Bool) → is_free o ≡ b → IsFreeList is_free past (set items f o) (if b then free ++ f ∷ [] else free)
  listed_set true new = record {
    listed = λ g. elim (set_at items f g o past there) [
      | inl s ↦ let a : num (f == g) ≡ 1 = ap (λ n. num (f == n)) s.0 ∙ ap num (self_at f) in let v = ap (λ x. num (is_free x)) s.1 in let d = ap num new in omega (arith, count_by-push (λ h. h == g) free f, list.listed g, a, was_none g s.0, v, d)
      | inr s ↦ let v = ap (λ x. num (is_free x)) s.1 in let e = ap num (other_at f g s.0) in omega (arith, count_by-push (λ h. h == g) free f, e, list.listed g, v)
    ];
    number = let e = ap num old in let d = ap num new in omega (arith, count_by-set is_free items f o past there, e, d, list.number, length-append free (f ∷ []));
  }
  listed_set false new = record {
    listed = λ g. elim (set_at items f g o past there) [
      | inl s ↦ let v = ap (λ x. num (is_free x)) s.1 in let d = ap num new in omega (arith, list.listed g, was_none g s.0, v, d)
      | inr s ↦ let v = ap (λ x. num (is_free x)) s.1 in omega (arith, list.listed g, v)
    ];
    number = let e = ap num old in let d = ap num new in omega (arith, count_by-set is_free items f o past there, e, d, list.number);
  }

-- one place more, which is free and listed
pub listed_more : {X : Type 0} (is_free : X → Bool) (past x : X) → is_free past ≡ false → is_free x ≡ true → (i : ℕ) (free : List ℕ) → IsFreeList is_free past (replicate i x) free → IsFreeList is_free past (replicate (i + 1) x) (free ++ i ∷ [])
listed_more is_free past x none one i free list = record {
  listed = λ g. elim (same_or g i) [
    | inl e ↦
        let no = ap num none in
        let yes = ap num one in
        let a : num (i == g) ≡ 1 = ap (λ n. num (i == n)) e ∙ ap num (self_at i) in
        let was = ap (λ o. num (is_free o)) (past_end (replicate i x) g past (omega (arith, length-replicate i x))) in
        let is = ap (λ o. num (is_free o)) (get_or-replicate (i + 1) g x past (omega arith)) in
        omega (arith, no, yes, count_by-push (λ h. h == g) free i, list.listed g, a, was, is)
    | inr n ↦
        let no = ap num none in
        let yes = ap num one in
        let b = ap num (other_at i g n) in
        elim (cases_lt g i) [
          | inl l ↦
              let was = ap (λ o. num (is_free o)) (get_or-replicate i g x past l) in
              let is = ap (λ o. num (is_free o)) (get_or-replicate (i + 1) g x past (omega arith)) in
              omega (arith, no, yes, count_by-push (λ h. h == g) free i, list.listed g, b, was, is)
          | inr l ↦
              let was = ap (λ o. num (is_free o)) (past_end (replicate i x) g past (omega (arith, length-replicate i x))) in
              let is = ap (λ o. num (is_free o)) (past_end (replicate (i + 1) x) g past (omega (arith, length-replicate (i + 1) x))) in
              omega (arith, no, yes, count_by-push (λ h. h == g) free i, list.listed g, b, was, is)
        ]
  ];
  number =
      let yes = ap num one in
      let was = sum_by-replicate (λ o. num (is_free o)) i x in
      let is = sum_by-replicate (λ o. num (is_free o)) (i + 1) x in
      omega (arith, yes, list.number, length-append free (i ∷ []), was, is);
}

pub listed_none : {X : Type 0} (is_free : X → Bool) (past : X) → is_free past ≡ false → IsFreeList is_free past [] []
listed_none is_free past none = record { listed = λ g. sym (ap num none); number = refl }

pub numbers_more : (a n : ℕ) → range_with_len a (suc n) ≡ range_with_len a n ++ (a + n) ∷ []
numbers_more a zero = ap (λ k. k ∷ []) (omega arith)
numbers_more a (suc n) = ap (λ ks. a ∷ ks) (numbers_more (a + 1) n ∙ ap (λ k. range_with_len (a + 1) n ++ k ∷ []) (omega arith))

pub numbers_below : (n : ℕ) → range_with_len 0 (n + 1) ≡ range_with_len 0 n ++ n ∷ []
numbers_below n =
    let one : n + 1 ≡ suc n = omega arith in
    let start : 0 + n ≡ n = omega arith in
    ap (range_with_len 0) one ∙ numbers_more 0 n ∙ ap (λ k. range_with_len 0 n ++ k ∷ []) start

-- n places, all of them free, are listed by the numbers below n
pub all_listed : {X : Type 0} (is_free : X → Bool) (past x : X) → is_free past ≡ false → is_free x ≡ true → (n : ℕ) → IsFreeList is_free past (replicate n x) (range_with_len 0 n)
all_listed is_free past x none one zero = listed_none is_free past none
all_listed is_free past x none one (suc n) =
    let one_more : n + 1 ≡ suc n = omega arith in
    subst (λ k. IsFreeList is_free past (replicate k x) (range_with_len 0 k)) one_more (subst (λ free. IsFreeList is_free past (replicate (n + 1) x) free) (sym (numbers_below n)) (listed_more is_free past x none one n (range_with_len 0 n) (all_listed is_free past x none one n)))
