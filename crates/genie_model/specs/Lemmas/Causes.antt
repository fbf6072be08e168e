-- The first cause of several lists, and what is known where there is none.
use Rattle.std.proofs.Common.{◌≡◌, ℕ, ◌*◌, ◌<◌, ◌≤◌, Bool, true, false, not, List, [], ◌∷◌, ◌++◌, length, refl, arith, leb-true}
use Rattle.std.specs.Prelude.{Option, Some, None, cond, find, nat_le, ◌&&◌, is_some, All}
use Rattle.std.specs.Option.{option_map}
use Rattle.std.proofs.lemmas.Bool.{and_parts, not-false, leb-false}
use Rattle.std.proofs.lemmas.List.Elements.{All-nil, All-cons}
use Rattle.genie_base.specs.Configs.{DeviceConfig, most}
use Rattle.genie_base.specs.declared.config.Kind.{Kind}
use Rattle.genie_base.specs.declared.config.Kind.TheVariants.{Early, Pooled, Outboard}
use Rattle.genie_base.specs.declared.refusal.Refusal.{Refusal}
use Rattle.genie_base.specs.declared.refusal.Refusal.TheVariants.{Proc, Dev, Range}
use Rattle.genie_base.specs.declared.semantics.Class.{Class}
use Rattle.genie_base.specs.declared.semantics.Class.TheVariants.{Copy, Share, Move, WeakMove}
use Rattle.genie_model.specs.State.{State}
use Rattle.genie_model.specs.Regions.{regions_at, is_alive, reach_of}
use Rattle.genie_model.specs.Refusing.{first_cause, call_causes, new_region_causes, app_causes, sys_causes, buffer_causes, target_causes, must_make, most_of, has_input}
use Rattle.genie_model.specs.Inputs.{pages_for}
use Rattle.genie_model.specs.Tables.{entry}

-- the first one doesn't hold, and none of the others
pub first_none : (x : Bool × Refusal) (xs : List (Bool × Refusal)) → first_cause (x ∷ xs) ≡ None → (x.0 ≡ false) × (first_cause xs ≡ None)
first_none x xs = elim (x.0) as (λ b. option_map (λ (row : Bool × Refusal). row.1) (cond b (Some x) (find (λ (row : Bool × Refusal). row.0) xs)) ≡ None → (b ≡ false) × (first_cause xs ≡ None)) [ true ↦ λ e. absurd (cc) | false ↦ λ e. (refl, e) ]

pub append_none : (xs ys : List (Bool × Refusal)) → first_cause xs ≡ None → first_cause (xs ++ ys) ≡ first_cause ys
append_none [] ys e = refl
append_none (x ∷ xs) ys e = let h = first_none x xs e in let no = h.0 in rw no (append_none xs ys h.1)

pub append_some : (xs ys : List (Bool × Refusal)) (w : Refusal) → first_cause xs ≡ Some w → first_cause (xs ++ ys) ≡ Some w
append_some [] ys w e = absurd (cc)
append_some (x ∷ xs) ys w e = (elim (x.0) as (λ b. option_map (λ (row : Bool × Refusal). row.1) (cond b (Some x) (find (λ (row : Bool × Refusal). row.0) xs)) ≡ Some w → option_map (λ (row : Bool × Refusal). row.1) (cond b (Some x) (find (λ (row : Bool × Refusal). row.0) (xs ++ ys))) ≡ Some w) [ true ↦ λ f. f | false ↦ λ f. append_some xs ys w f ]) e

pub both_none : (xs ys : List (Bool × Refusal)) → first_cause (xs ++ ys) ≡ None → (first_cause xs ≡ None) × (first_cause ys ≡ None)
both_none [] ys e = (refl, e)
both_none (x ∷ xs) ys e =
    let h = first_none x (xs ++ ys) e in
    let no = h.0 in
    let later = both_none xs ys h.1 in
    (rw no later.0, later.1)

-- a cause that doesn't hold
abbrev pub Fails : Bool × Refusal → Type 0
Fails row = row.0 ≡ false

-- none of them holds
pub none_holds : (rows : List (Bool × Refusal)) → first_cause rows ≡ None → All Fails rows
none_holds [] e = All-nil Fails
none_holds (row ∷ rows) e = let h = first_none row rows e in All-cons Fails row rows h.0 (none_holds rows h.1)

-- nor does a test of two parts fail
pub second_holds : (a b : Bool) → not (a && b) ≡ false → b ≡ true
second_holds a b e = (and_parts a b (not-false (a && b) e)).1

kind_end : (page : ℕ) (kind : Kind) → most kind page ≤ 64 * page
kind_end page Early = omega arith
kind_end page Pooled = omega arith
kind_end page Outboard = omega arith

pub most_end : (page : ℕ) (d : Option DeviceConfig) → most_of page d ≤ 64 * page
most_end page None = omega arith
most_end page (Some d) = kind_end page d.kind

-- one more call fits
pub few_calls : (s : State) (cost : ℕ) → first_cause (call_causes s cost) ≡ None → length s.transfers < 64
few_calls s cost e = leb-false 64 (length s.transfers) (none_holds (call_causes s cost) e 0 (true, Proc) (omega arith))

-- what is known of an input that is accepted
pub record IsAcceptedInput (s : State) (p : ℕ) (class : Class) (n : ℕ) : Type 0 where
  pub few : length s.transfers < 64
  pub short : n ≤ 64 * s.config.page
  pub room : must_make s p class n ≡ true → length (regions_at s p) < 32

-- its buffer is short, and where a region is made there is room for it
record HasRoom (s : State) (p : ℕ) (class : Class) (n most : ℕ) : Type 0 where
  short : n ≤ most
  room : must_make s p class n ≡ true → length (regions_at s p) < 32

few_regions : (s : State) (p pages : ℕ) → first_cause (new_region_causes s p pages) ≡ None → length (regions_at s p) < 32
few_regions s p pages e = leb-false 32 (length (regions_at s p)) (none_holds (new_region_causes s p pages) e 0 (true, Proc) (omega arith))

made : (s : State) (p pages : ℕ) (b : Bool) → first_cause (cond b (new_region_causes s p pages) []) ≡ None → b ≡ true → length (regions_at s p) < 32
made s p pages true e t = few_regions s p pages e
made s p pages false e t = absurd (cc)

sys_room : (s : State) (p : ℕ) (class : Class) (most n : ℕ) → first_cause (sys_causes s p class most n) ≡ None → HasRoom s p class n most
sys_room s p class most n e =
    let fits : Bool = nat_le 1 n && nat_le n most in
    let first = first_none (not fits, Range) (cond (must_make s p class n) (new_region_causes s p (pages_for s n)) []) e in
    record { short = leb-true n most (second_holds (nat_le 1 n) (nat_le n most) first.0); room = made s p (pages_for s n) (must_make s p class n) first.1 }

app_short : (s : State) (p most a n : ℕ) → first_cause (app_causes s p most a n) ≡ None → n ≤ most
app_short s p most a n e =
    let fits : Bool = nat_le n most && is_some (reach_of s p a n) in
    leb-true n most (and_parts (nat_le n most) (is_some (reach_of s p a n)) (not-false fits (none_holds (app_causes s p most a n) e 0 (true, Proc) (omega arith)))).0

buffer_room : (s : State) (p : ℕ) (class : Class) (most a n : ℕ) → first_cause (buffer_causes s p class most a n) ≡ None → HasRoom s p class n most
buffer_room s p Copy most a n e = record { short = app_short s p most a n e; room = λ t. absurd (cc) }
buffer_room s p Share most a n e = record { short = app_short s p most a n e; room = λ t. absurd (cc) }
buffer_room s p Move most a n e = sys_room s p Move most n e
buffer_room s p WeakMove most a n e = sys_room s p WeakMove most n e

pub accepted_input : (s : State) (p : ℕ) (class : Class) (d a n cost : ℕ) → first_cause (target_causes s p class d a n ++ call_causes s cost) ≡ None → IsAcceptedInput s p class n
accepted_input s p class d a n cost e =
    let both = both_none (target_causes s p class d a n) (call_causes s cost) e in
    let device : Option DeviceConfig = entry s.config.devices d in
    let buffer : List (Bool × Refusal) = buffer_causes s p class (most_of s.config.page device) a n in
    let alive = first_none (not (is_alive s p), Proc) ((not (has_input device), Dev) ∷ buffer) both.0 in
    let has = buffer_room s p class (most_of s.config.page device) a n (first_none (not (has_input device), Dev) buffer alive.1).1 in
    let end = most_end s.config.page device in
    record { few = few_calls s cost both.1; short = omega (arith, end, has.short); room = has.room }
