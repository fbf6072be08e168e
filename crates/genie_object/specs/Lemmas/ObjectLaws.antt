-- The entries of an object, and the list of objects.
use Rattle.std.proofs.Common.{◌≡◌, ◌≢◌, ℕ, ◌<◌, ◌≤◌, ◌+◌, suc, zero, Bool, true, false, not, List, [], ◌∷◌, ◌++◌, refl, arith, ap, length, map, take, set, get_or, sym, ◌∙◌, subst, length-set, inl, inr}
use Rattle.std.specs.Prelude.{replicate, count_by, if◌then◌else◌, All, None}
use Rattle.std.proofs.lemmas.List.Elements.{All-replicate}
use Rattle.std.proofs.lemmas.List.Sums.{sum_by-cons}
use Rattle.std.proofs.lemmas.List.{length-replicate, length-map}
use Rattle.std.proofs.lemmas.Bool.{cases_lt}
use Rattle.std.specs.List.{range_with_len}
use Rattle.genie_base.specs.FreeLists.{FreeNumbers, IsFreeList}
use Rattle.genie_base.specs.Lemmas.Places.{any_default, past_end, set_at, num}
use Rattle.genie_base.specs.Lemmas.FreeLists.{all_listed, last_there, last_free, popped, listed_set, one_spare}
use Rattle.genie_object.specs.declared.objects.Entry.{Entry}
use Rattle.genie_object.specs.Objects.{AreListed, is_absent, no_entry, object_at}

pub take-set : {X : Type 0} (n i : ℕ) (x : X) (xs : List X) → take n (set xs i x) ≡ set (take n xs) i x
take-set zero i x [] = refl
take-set (suc n) i x [] = refl
take-set zero i x (y ∷ xs) = refl
take-set (suc n) zero x (y ∷ xs) = refl
take-set (suc n) (suc i) x (y ∷ xs) = ap (λ ys. y ∷ ys) (take-set n i x xs)

abbrev pub past : List Entry
past = no_entry ∷ []

absent_is : (o : List Entry) → is_absent o ≡ true → o ≡ []
absent_is [] e = refl
absent_is (x ∷ o) e = cc

-- the last of the free list gets entries
module _ (objects : List (List Entry)) (free rest : List ℕ) (o room : ℕ) (kept : AreListed objects free room) (e : free ≡ rest ++ o ∷ []) where
  list : IsFreeList is_absent past objects (rest ++ o ∷ [])
  list = subst (λ xs. IsFreeList is_absent past objects xs) e kept.list

  pub last_in : o < length objects
  last_in = last_there is_absent past refl objects rest o list

  pub was_absent : object_at objects o ≡ []
  was_absent = any_default objects o [] past last_in ∙ absent_is _ (last_free is_absent past refl objects rest o list)

  pub made : (entries : List Entry) → is_absent entries ≡ false → AreListed (set objects o entries) rest room
  made entries some = record {
    size = length-set objects o entries ∙ kept.size;
    list = popped is_absent past refl objects rest o list entries some;
    spare = kept.spare;
  }

pub some_absent : (n : ℕ) → 1 ≤ n → is_absent (replicate n no_entry) ≡ false
some_absent zero h = absurd (omega arith)
some_absent (suc n) h = refl

-- an object that is there
pub object_in : (objects : List (List Entry)) (o : ℕ) → object_at objects o ≢ [] → o < length objects
object_in objects o h = elim (cases_lt o (length objects)) [ inl l ↦ l | inr l ↦ absurd (h (past_end objects o [] l)) ]

pub some_length : {X : Type 0} (xs : List X) → xs ≢ [] → 0 < length xs
some_length [] n = absurd (n refl)
some_length (x ∷ xs) n = omega arith

there_is : (o : List Entry) → o ≢ [] → is_absent o ≡ false
there_is [] h = absurd (h refl)
there_is (x ∷ o) h = refl

-- it goes
module _ (objects : List (List Entry)) (free : List ℕ) (o room : ℕ) (kept : AreListed objects free room) (there : object_at objects o ≢ []) where
  old : is_absent (get_or objects o past) ≡ false
  old = ap is_absent (any_default objects o past [] (object_in objects o there)) ∙ there_is _ there

  pub spare_place : length free < room
  spare_place = omega (arith, one_spare is_absent past objects free o [] (object_in objects o there) old kept.list, kept.spare, kept.size)

  pub gone : AreListed (set objects o []) (free ++ o ∷ []) room
  gone = record {
    size = length-set objects o [] ∙ kept.size;
    list = listed_set is_absent past objects free o [] (object_in objects o there) old kept.list true refl;
    spare = kept.spare;
  }

count_same : {X : Type 0} (q : X → Bool) (d : X) (xs ys : List X) → length xs ≡ length ys → ((k : ℕ) → q (get_or xs k d) ≡ q (get_or ys k d)) → count_by q xs ≡ count_by q ys
count_same q d [] [] e h = refl
count_same q d [] (y ∷ ys) e h = absurd (omega arith)
count_same q d (x ∷ xs) [] e h = absurd (omega arith)
count_same q d (x ∷ xs) (y ∷ ys) e h = let n = ap num (h 0) in omega (arith, n, sum_by-cons (λ z. num (q z)) x xs, sum_by-cons (λ z. num (q z)) y ys, count_same q d xs ys (omega arith) (λ k. h (suc k)))

num_not : (b : Bool) → num b + num (not b) ≡ 1
num_not true = refl
num_not false = refl

pub count_split : {X : Type 0} (q : X → Bool) (xs : List X) → count_by q xs + count_by (λ x. not (q x)) xs ≡ length xs
count_split q [] = refl
count_split q (x ∷ xs) = omega (arith, num_not (q x), sum_by-cons (λ z. num (q z)) x xs, sum_by-cons (λ z. num (not (q z))) x xs, count_split q xs)

-- where no object comes or goes, the list stays right
pub same_absent : (old new : List (List Entry)) (free : List ℕ) (room : ℕ) → length new ≡ length old → ((o : ℕ) → is_absent (get_or new o past) ≡ is_absent (get_or old o past)) → AreListed old free room → AreListed new free room
same_absent old new free room len same kept = record {
  size = len ∙ kept.size;
  list = record {
    listed = λ o. kept.list.listed o ∙ ap (λ b. if b then 1 else 0) (sym (same o));
    number = kept.list.number ∙ sym (count_same is_absent past new old len same);
  };
  spare = kept.spare;
}

absent_set : (xs : List Entry) (i : ℕ) (e : Entry) → is_absent (set xs i e) ≡ is_absent xs
absent_set [] i e = refl
absent_set (x ∷ xs) zero e = refl
absent_set (x ∷ xs) (suc i) e = refl

absent_map : (f : Entry → Entry) (xs : List Entry) → is_absent (map f xs) ≡ is_absent xs
absent_map f [] = refl
absent_map f (x ∷ xs) = refl

absent_mapped : (f : Entry → Entry) (objects : List (List Entry)) (o : ℕ) → is_absent (get_or (map (map f) objects) o past) ≡ is_absent (get_or objects o past)
absent_mapped f [] o = refl
absent_mapped f (x ∷ objects) zero = absent_map f x
absent_mapped f (x ∷ objects) (suc o) = absent_mapped f objects o

pub entry_set : (objects : List (List Entry)) (free : List ℕ) (room o i : ℕ) (e : Entry) → o < length objects → AreListed objects free room → AreListed (set objects o (set (object_at objects o) i e)) free room
entry_set objects free room o i e there kept = same_absent objects _ free room (length-set objects o _) (λ g. elim (set_at objects o g (set (object_at objects o) i e) past there) [
  | inl v ↦ ap is_absent v.1 ∙ absent_set (object_at objects o) i e ∙ ap is_absent (any_default objects o [] past there) ∙ ap (λ n. is_absent (get_or objects n past)) (sym v.0)
  | inr v ↦ ap is_absent v.1
]) kept

pub all_mapped : (f : Entry → Entry) (objects : List (List Entry)) (free : List ℕ) (room : ℕ) → AreListed objects free room → AreListed (map (map f) objects) free room
all_mapped f objects free room kept = same_absent objects _ free room (simp length-map) (absent_mapped f objects) kept

-- no object is there at first
pub none_made : (objects : List (List Entry)) (free : FreeNumbers) → objects ≡ replicate 512 [] → free ≡ record { list = range_with_len 0 512; room = 512 } → AreListed objects free.list free.room
none_made objects free o f = rw (o, f) (record { size = let none : List Entry = [] in length-replicate 512 none; list = all_listed is_absent past [] refl refl 512; spare = omega arith })

-- how many entries an object has, once an entry was replaced or permissions were taken
pub len_set : (objects : List (List Entry)) (o i a : ℕ) (e : Entry) → o < length objects → length (object_at (set objects o (set (object_at objects o) i e)) a) ≡ length (object_at objects a)
len_set objects o i a e there = elim (set_at objects o a (set (object_at objects o) i e) [] there) [
  | inl v ↦ ap length v.1 ∙ length-set (object_at objects o) i e ∙ ap (λ n. length (object_at objects n)) (sym v.0)
  | inr v ↦ ap length v.1
]

pub len_revoked : (f : Entry → Entry) (objects : List (List Entry)) (o : ℕ) → length (object_at (map (map f) objects) o) ≡ length (object_at objects o)
len_revoked f [] o = refl
len_revoked f (x ∷ objects) zero = simp length-map
len_revoked f (x ∷ objects) (suc o) = len_revoked f objects o

-- an object that was just made
pub object_made : (objects : List (List Entry)) (o n : ℕ) → o < length objects → object_at (set objects o (replicate n no_entry)) o ≡ replicate n no_entry
object_made objects o n there = elim (set_at objects o o (replicate n no_entry) [] there) [ inl v ↦ v.1 | inr v ↦ absurd (v.0 refl) ]

pub made_there : (objects : List (List Entry)) (o n : ℕ) → o < length objects → object_at (set objects o (replicate (suc n) no_entry)) o ≢ []
made_there objects o n there e = let bad : replicate (suc n) no_entry ≡ [] = sym (object_made objects o (suc n) there) ∙ e in cc

pub made_empty : (objects : List (List Entry)) (o n : ℕ) → o < length objects → All (λ e. e.page ≡ None) (object_at (set objects o (replicate n no_entry)) o)
made_empty objects o n there = rw (object_made objects o n there) (All-replicate (λ e. e.page ≡ None) n no_entry refl)
