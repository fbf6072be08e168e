-- What a change of one place of a table is to the host, for hosts whose handles stand in one.
use Rattle.std.proofs.Common.{◌≡◌, ◌≢◌, ℕ, zero, suc, ◌+◌, ◌-◌, ◌<◌, ◌≤◌, List, [], ◌∷◌, ◌++◌, length, get_or, arith, refl, ap, ◌∙◌, sym, inl, inr}
use Rattle.std.proofs.Math.ListN.{set}
use Rattle.std.proofs.lemmas.List.{get_or-set_same, get_or-set_other, length-set}
use Rattle.std.proofs.lemmas.Option.{slice_get-get_or, slice_get_past}
use Rattle.std.proofs.Math.Nat.{eq-zero-or-pos}
use Rattle.std.proofs.lemmas.Bool.{cases_lt}
use Rattle.std.proofs.lemmas.Bool.Decides.{nat_tests}
use Rattle.std.specs.List.{slice_get}
use Rattle.std.specs.Prelude.{Option, Some, None, Result, Ok}
use Rattle.std.specs.Io.KnownBytes.{Keeps, ReadConsumes, WriteAppends}
use Rattle.std.proofs.lemmas.Grind.{common_steps}
use Rattle.genie_base.specs.declared.semantics.Direction.{Direction}
use Rattle.genie_host.specs.Host.{Mode, Closed, HandleState, OnlyHandle, Reads, Writes, Opens}
use Rattle.genie_base.specs.Causes.{HasCause}
use Rattle.genie_host.specs.Handles.{closed, handle_in, table_view}

set_get_same : {X : Type 0} (xs : List X) (i : ℕ) (x : X) → i < length xs → slice_get (set xs i x) i ≡ Some x
set_get_same xs i x lt =
    let within : i < length (set xs i x) = rw length-set lt in
    slice_get-get_or (set xs i x) i x within ∙ ap Some (get_or-set_same xs i x x lt)

set_get_other : {X : Type 0} (xs : List X) (i j : ℕ) (x : X) → j ≢ i → slice_get (set xs i x) j ≡ slice_get xs j
set_get_other xs i j x ne = elim (cases_lt j (length xs)) [
  | inl lt ↦
      let within : j < length (set xs i x) = rw length-set lt in
      slice_get-get_or (set xs i x) j x within ∙ ap Some (get_or-set_other xs i j x x ne) ∙ sym (slice_get-get_or xs j x lt)
  | inr ge ↦
      let past : length (set xs i x) ≤ j = rw length-set ge in
      slice_get_past (set xs i x) j past ∙ sym (slice_get_past xs j ge)
]

pub get_within : {X : Type 0} (xs : List X) (i : ℕ) (x : X) → slice_get xs i ≡ Some x → i < length xs
get_within xs i x is = elim (cases_lt i (length xs)) [
  | inl lt ↦ lt
  | inr ge ↦ let none : slice_get xs i ≡ None = slice_get_past xs i ge in grind (arith, common_steps)
]

pub here : {X : Type 0} (state : X → HandleState) (output : HandleState) (xs : List X) (k : ℕ) (x : X) → 0 < k → slice_get xs (k - 1) ≡ Some x → handle_in state output xs k ≡ state x
here state output xs k x pos is = grind (arith, nat_tests, common_steps)

pub set_here : {X : Type 0} (state : X → HandleState) (output : HandleState) (xs : List X) (k : ℕ) (x : X) → 0 < k → k - 1 < length xs → handle_in state output (set xs (k - 1) x) k ≡ state x
set_here state output xs k x pos lt = here state output (set xs (k - 1) x) k x pos (set_get_same xs (k - 1) x lt)

pub set_other : {X : Type 0} (state : X → HandleState) (output : HandleState) (xs : List X) (k j : ℕ) (x : X) → 0 < k → j ≢ k → handle_in state output (set xs (k - 1) x) j ≡ handle_in state output xs j
set_other state output xs k j x pos ne = elim (eq-zero-or-pos j) [
  | inl z ↦ grind (arith, nat_tests, z)
  | inr pos_j ↦
      let apart : j - 1 ≢ k - 1 = omega arith in
      let same = set_get_other xs (k - 1) (j - 1) x apart in
      grind (arith, nat_tests, same)
]

-- nothing but the handle at this place of the table changed
pub only_set : {X : Type 0} (names : List ℕ → Option (List ℕ)) (state : X → HandleState) (output : HandleState) (xs : List X) (tried : List (List ℕ × Direction)) (n k : ℕ) (x y : X)
    → 0 < k → slice_get xs (k - 1) ≡ Some x → (state y).mode ≡ (state x).mode
    → OnlyHandle k (table_view names state output xs tried n) (table_view names state output (set xs (k - 1) y) tried n)
only_set names state output xs tried n k x y pos is same = record {
  names = refl;
  others = λ j ne. set_other state output xs k j y pos ne;
  mode = rw (here state output xs k x pos is, set_here state output xs k y pos (get_within xs (k - 1) x is)) same;
  opened = length-set xs (k - 1) y;
  tried = refl;
  refusals = refl;
}

pub reads_set : {X E : Type 0} (names : List ℕ → Option (List ℕ)) (state : X → HandleState) (output : HandleState) (xs : List X) (tried : List (List ℕ × Direction)) (n k : ℕ) (x y : X) (result : Result ℕ E) (into : List ℕ)
    → 0 < k → slice_get xs (k - 1) ≡ Some x → (state y).mode ≡ (state x).mode → ReadConsumes (state x).bytes (state y).bytes result into → HasCause (state x).faults (state y).faults result
    → Reads k (table_view names state output xs tried n) (table_view names state output (set xs (k - 1) y) tried n) result into
reads_set names state output xs tried n k x y result into pos is same bytes cause =
    let was = here state output xs k x pos is in
    let now = set_here state output xs k y pos (get_within xs (k - 1) x is) in
    record { only = only_set names state output xs tried n k x y pos is same; bytes = rw (was, now) bytes; cause = rw (was, now) cause }

pub writes_set : {X E : Type 0} (names : List ℕ → Option (List ℕ)) (state : X → HandleState) (output : HandleState) (xs : List X) (tried : List (List ℕ × Direction)) (n k : ℕ) (x y : X) (result : Result ℕ E) (from : List ℕ)
    → 0 < k → slice_get xs (k - 1) ≡ Some x → (state y).mode ≡ (state x).mode → WriteAppends (state x).bytes (state y).bytes result from → HasCause (state x).faults (state y).faults result
    → Writes k (table_view names state output xs tried n) (table_view names state output (set xs (k - 1) y) tried n) result from
writes_set names state output xs tried n k x y result from pos is same bytes cause =
    let was = here state output xs k x pos is in
    let now = set_here state output xs k y pos (get_within xs (k - 1) x is) in
    record { only = only_set names state output xs tried n k x y pos is same; bytes = rw (was, now) bytes; cause = rw (was, now) cause }

-- a write to the reply output
pub writes_output : {X E : Type 0} (names : List ℕ → Option (List ℕ)) (state : X → HandleState) (before after : HandleState) (xs : List X) (tried : List (List ℕ × Direction)) (n : ℕ) (result : Result ℕ E) (from : List ℕ)
    → after.mode ≡ before.mode → WriteAppends before.bytes after.bytes result from → HasCause before.faults after.faults result
    → Writes 0 (table_view names state before xs tried n) (table_view names state after xs tried n) result from
writes_output names state before after xs tried n result from same bytes cause = record {
  only = record { names = refl; others = λ j ne. grind (arith, nat_tests, ne); mode = same; opened = refl; tried = refl; refusals = refl };
  bytes = bytes;
  cause = cause;
}

grown_get : {X : Type 0} (xs : List X) (x : X) → slice_get (xs ++ x ∷ []) (length xs) ≡ Some x
grown_get [] x = refl
grown_get (y ∷ xs) x = grown_get xs x

grown_other : {X : Type 0} (xs : List X) (x : X) (i : ℕ) → i ≢ length xs → slice_get (xs ++ x ∷ []) i ≡ slice_get xs i
grown_other [] x zero ne = absurd (ne refl)
grown_other [] x (suc i) ne = refl
grown_other (y ∷ xs) x zero ne = refl
grown_other (y ∷ xs) x (suc i) ne = grown_other xs x i (λ e. ne (ap suc e))

grown_others : {X : Type 0} (state : X → HandleState) (output : HandleState) (xs : List X) (y : X) (j : ℕ) → j ≢ length xs + 1 → handle_in state output (xs ++ y ∷ []) j ≡ handle_in state output xs j
grown_others state output xs y j ne = elim (eq-zero-or-pos j) [
  | inl z ↦ grind (arith, nat_tests, z)
  | inr pos ↦
      let apart : j - 1 ≢ length xs = omega arith in
      let same = grown_other xs y (j - 1) apart in
      grind (arith, nat_tests, same)
]

-- a new handle at the table's end
pub opens_grown : {X E : Type 0} (names : List ℕ → Option (List ℕ)) (state : X → HandleState) (output : HandleState) (xs : List X) (tried : List (List ℕ × Direction)) (n : ℕ) (y : X) (name : List ℕ) (direction : Direction) (mode : Mode) (content : Option (List ℕ)) (failed : E)
    → (state y).mode ≡ mode → Keeps content (state y).bytes → (state y).faults ≡ 0
    → Opens name direction mode content failed (table_view names state output xs tried n) (table_view names state output (xs ++ y ∷ []) (tried ++ (name, direction) ∷ []) n) (Ok (length xs + 1))
opens_grown names state output xs tried n y name direction mode content failed as_mode told count =
    let now : handle_in state output (xs ++ y ∷ []) (length xs + 1) ≡ state y = here state output (xs ++ y ∷ []) (length xs + 1) y (omega arith) (let there = grown_get xs y in grind (arith, there)) in
    let past = slice_get_past xs (length xs) (omega arith) in
    let was : handle_in state output xs (length xs + 1) ≡ closed = grind (arith, nat_tests, past) in
    record {
      tried = refl;
      names = refl;
      number = refl;
      opened = grind (arith, common_steps);
      mode_new = rw now as_mode;
      told = rw now told;
      fault_count = rw (now, was) count;
      others = λ j ne. grown_others state output xs y j ne;
      refused = tt;
      later = omega arith;
      kept = refl;
      cause = λ is. cc;
    }

-- a handle that isn't closed stands in the table
pub open_within : {X : Type 0} (state : X → HandleState) (output : HandleState) (xs : List X) (k : ℕ) (mode : Mode) → 0 < k → (handle_in state output xs k).mode ≡ mode → Closed ≢ mode → k - 1 < length xs
open_within state output xs k mode pos is apart = elim (cases_lt (k - 1) (length xs)) [
  | inl lt ↦ lt
  | inr ge ↦
      let past = slice_get_past xs (k - 1) ge in
      let none : handle_in state output xs k ≡ closed = grind (arith, nat_tests, past) in
      absurd (apart (sym (ap (λ (h : HandleState). h.mode) none) ∙ is))
]

pub got : {X : Type 0} (xs : List X) (i : ℕ) (x y : X) → i < length xs → y ≡ get_or xs i y → y ≡ x → slice_get xs i ≡ Some x
got xs i x y lt value is = slice_get-get_or xs i y lt ∙ ap Some (sym value ∙ is)
