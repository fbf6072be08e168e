-- The list of free slots, from call to call.
use Rattle.std.proofs.Common.{◌≡◌, ℕ, ◌<◌, ◌^◌, Bool, true, false, not, List, [], ◌∷◌, ◌++◌, refl, arith, ap, length, set, get_or, sym, ◌∙◌, subst, length-set, inl, inr}
use Rattle.std.proofs.lemmas.Bool.{cases_lt}
use Rattle.std.specs.Prelude.{replicate}
use Rattle.std.specs.List.{range_with_len}
use Rattle.std.proofs.lemmas.List.{length-replicate}
use Rattle.genie_base.specs.FreeLists.{FreeNumbers, IsFreeList}
use Rattle.genie_base.specs.Lemmas.Places.{any_default, past_end}
use Rattle.genie_base.specs.Lemmas.FreeLists.{all_listed, last_there, last_free, popped, listed_set, one_spare}
use Rattle.genie_store.specs.Slots.{AreListed}

not_free : (b : Bool) → not b ≡ true → b ≡ false
not_free true e = cc
not_free false e = refl

-- no slot is taken at first
pub none_taken : (n : ℕ) (slots : List Bool) (free : FreeNumbers) → slots ≡ replicate n false → free ≡ record { list = range_with_len 0 n; room = n } → n < 2 ^ 32 → AreListed slots free.list free.room
none_taken n slots free s f small = rw (s, f) (record {
  list = all_listed not true false refl refl n;
  spare = omega (arith, length-replicate n false);
  most = omega (arith, length-replicate n false, small);
})

-- the last slot of the free list is taken
module _ (slots : List Bool) (free rest : List ℕ) (s room : ℕ) (kept : AreListed slots free room) (e : free ≡ rest ++ s ∷ []) where
  list : IsFreeList not true slots (rest ++ s ∷ [])
  list = subst (λ xs. IsFreeList not true slots xs) e kept.list

  pub last_in : s < length slots
  last_in = last_there not true refl slots rest s list

  pub was_free : get_or slots s false ≡ false
  was_free = any_default slots s false true last_in ∙ not_free _ (last_free not true refl slots rest s list)

  pub taken : AreListed (set slots s true) rest room
  taken = record {
    list = popped not true refl slots rest s list true refl;
    spare = omega (arith, length-set slots s true, kept.spare);
    most = omega (arith, length-set slots s true, kept.most);
  }

-- a slot that is taken is there
pub taken_in : (slots : List Bool) (s : ℕ) → get_or slots s false ≡ true → s < length slots
taken_in slots s e = elim (cases_lt s (length slots)) [
  | inl l ↦ l
  | inr l ↦ let bad : false ≡ true = sym (past_end slots s false l) ∙ e in cc
]

-- it is given back
module _ (slots : List Bool) (free : List ℕ) (s room : ℕ) (kept : AreListed slots free room) (e : get_or slots s false ≡ true) where
  old : not (get_or slots s true) ≡ false
  old = ap not (any_default slots s true false (taken_in slots s e) ∙ e)

  pub spare_place : length free < room
  spare_place = omega (arith, one_spare not true slots free s false (taken_in slots s e) old kept.list, kept.spare)

  pub given : AreListed (set slots s false) (free ++ s ∷ []) room
  given = record {
    list = listed_set not true slots free s false (taken_in slots s e) old kept.list true refl;
    spare = omega (arith, length-set slots s false, kept.spare);
    most = omega (arith, length-set slots s false, kept.most);
  }
