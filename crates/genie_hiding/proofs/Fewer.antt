-- Hidden regions that fit the memory once one of them is no longer kept.
use Rattle.std.proofs.Common.{◌≡◌, ◌≢◌, ℕ, ◌<◌, true, false, List, refl, arith, ap, length, get_or, sym, ◌∙◌, inl, inr, subst}
use Rattle.std.specs.Prelude.{remove}
use Rattle.std.proofs.lemmas.Bool.{cases_lt}
use Rattle.genie_object.specs.declared.memory.Memory.{Memory}
use Rattle.genie_object.specs.Sound.{IsCached, FitsHidden}
use Rattle.genie_hiding.specs.declared.hidden.Hidden.{Hidden}
use Rattle.genie_hiding.specs.Hidden.{no_hidden, object_of, objects_of, is_among, IsTakenBack}
use Rattle.genie_hiding.specs.Lemmas.Searching.{object_at_hidden, hidden_length, among}
use Rattle.genie_hiding.proofs.Kept.{WasAt, was_at}

-- a region has an object of its own
pub own_object : (m : Memory) (kept : List Hidden) (j k : ℕ) → FitsHidden m (objects_of kept) → j < length kept → k < length kept → object_of (get_or kept j no_hidden) ≡ object_of (get_or kept k no_hidden) → j ≡ k
own_object m kept j k f lj lk e = f.apart j k (omega (arith, lj, hidden_length kept)) (omega (arith, lk, hidden_length kept)) (object_at_hidden kept j ∙ e ∙ sym (object_at_hidden kept k))

-- what is known of a place in the shorter list
module _ (m : Memory) (kept : List Hidden) (k : ℕ) (l : k < length kept) (f : FitsHidden m (objects_of kept)) where
  abbrev rest : List Hidden
  rest = remove kept k

  at_rest : (j : ℕ) → j < length rest → WasAt no_hidden kept k j
  at_rest j lj = was_at no_hidden kept k j lj

  object_rest : (j : ℕ) (lj : j < length rest) → get_or (objects_of rest) j 0 ≡ get_or (objects_of kept) ((at_rest j lj).from) 0
  object_rest j lj = object_at_hidden rest j ∙ ap object_of ((at_rest j lj).is) ∙ sym (object_at_hidden kept ((at_rest j lj).from))

  there_rest : (j : ℕ) (lj : j < length rest) → (at_rest j lj).from < length (objects_of kept)
  there_rest j lj = omega (arith, (at_rest j lj).there, hidden_length kept)

  shorter : (j : ℕ) → j < length (objects_of rest) → j < length rest
  shorter j lj = omega (arith, lj, hidden_length rest)

  pub fits_rest : FitsHidden m (objects_of rest)
  fits_rest = record {
    cached = λ j lj. subst (IsCached m) (sym (object_rest j (shorter j lj))) (f.cached (at_rest j (shorter j lj)).from (there_rest j (shorter j lj)));
    apart = λ i j li lj e.
        let a = at_rest i (shorter i li) in
        let b = at_rest j (shorter j lj) in
        let same : a.from ≡ b.from = f.apart a.from b.from (there_rest i (shorter i li)) (there_rest j (shorter j lj)) (sym (object_rest i (shorter i li)) ∙ e ∙ object_rest j (shorter j lj)) in
        elim (cases_lt i k) [
          | inl h ↦ let p = a.below h in elim (cases_lt j k) [
            | inl g ↦ let q = b.below g in omega (arith, p, q, same)
            | inr g ↦ let q = b.above g in omega (arith, p, q, same, h, g)
          ]
          | inr h ↦ let p = a.above h in elim (cases_lt j k) [
            | inl g ↦ let q = b.below g in omega (arith, p, q, same, h, g)
            | inr g ↦ let q = b.above g in omega (arith, p, q, same)
          ]
        ];
  }

  abbrev taken : ℕ
  taken = object_of (get_or kept k no_hidden)

  -- no other region has its object
  pub other_object : (j : ℕ) → j < length (objects_of rest) → get_or (objects_of rest) j 0 ≢ taken
  other_object j lj e =
      let a = at_rest j (shorter j lj) in
      let same : a.from ≡ k = own_object m kept a.from k f a.there l (sym (object_at_hidden kept a.from) ∙ sym (object_rest j (shorter j lj)) ∙ e) in
      elim (cases_lt j k) [
        | inl h ↦ let p = a.below h in absurd (omega (arith, p, same, h))
        | inr h ↦ let p = a.above h in absurd (omega (arith, p, same, h))
      ]

  pub not_among : is_among taken (objects_of rest) ≡ false
  not_among = elim (is_among taken (objects_of rest)) as (λ b. is_among taken (objects_of rest) ≡ b → b ≡ false) [
    | true ↦ λ e. let z = among taken (objects_of rest) e in absurd (other_object z.place z.there z.is)
    | false ↦ λ e. refl
  ] refl

  pub taken_back : IsTakenBack m rest (get_or kept k no_hidden).region
  taken_back = record {
    cached = subst (IsCached m) (object_at_hidden kept k) (f.cached k (omega (arith, l, hidden_length kept)));
    apart = not_among;
    fits = fits_rest;
  }
